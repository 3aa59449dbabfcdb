-- With the documents of the names that are left, the documents are those of all names.
use Rattle.rdf_command.proofs.Prelude.{◌++◌, drop, map, List, Form, AreDocuments, further_of}
use Rattle.clap.specs.Words.{Text}
use Rattle.rdf_command.proofs.commands.documents_of.Given as goal

abbrev pub invariant-loop-name : goal.invariant-loop-name
invariant-loop-name l =
    (tail : List (Form × Text)) → AreDocuments l.fn.word (map (λ s. s.now) (drop l.name-index l.names)) tail
    → AreDocuments l.fn.word (map (λ s. s.now) l.names) (further_of l.documents.items ++ tail)
