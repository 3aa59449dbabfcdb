-- What a reader has read is due, a document within the limits is read to its end, and what is refused is none.
use Rattle.rdf_trig.specs.Language.{language}
use Rattle.rdf_trig.proofs.Prelude.{tree_words, ReadQuadsAreDue, DocumentsAreRead, RefusedIsNoDocument}
use Rattle.rdf_tokens.proofs.LanguageLemmas as L
use Rattle.rdf_driver.proofs.PromiseLemmas.{read_goes_on}
use Rattle.rdf_trig.proofs.code.LawfulGrammar.{lawful}

-- The driver's law at the trees' words.
pub quads_due : ReadQuadsAreDue
quads_due r x bytes quads h = (read_goes_on tree_words lawful r x bytes quads h, lawful.due r.grammar x _ quads h.reached)

-- The law of all languages at this one.
pub documents_read : DocumentsAreRead
documents_read form start bytes qs d w = L.document_read (language form start) bytes qs d w

-- The same of what is refused, since no document within the limits goes on with it.
pub refused_no_document : RefusedIsNoDocument
refused_no_document form start bytes qs reason at y d w =
    L.refused_no_document (language form start) (lawful.ends (record { form = form; start = start })) bytes qs reason at y d w
