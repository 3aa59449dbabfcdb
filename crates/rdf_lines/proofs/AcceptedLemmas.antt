-- A document within the limits is read to its end, and so is what was written.
use Rattle.rdf_lines.proofs.Prelude.{◌≡◌, ℕ, ◌≤◌, true, false, not, nat_lt, List, sym, ap, subst, Option, Some, None, AllByRecursion, flat_map, option_map, encode_utf8_all, and_from, le-ltb, Lines, Quad, has_scheme, byte_len, tokens_of, reading_of, IsReadToItsEnd, LineForm, NQuads, Escapes, iri_of, Name, Ref, Lab, Object, Named, WithType, WithTag, Statement, last, next, subject_of, term_of, name_bound, object_bound, graph_bound, GoodStatement, GoodDocument, Begin, Finished, is_taken, in_lines, line_words, quad_text, ReadQuadsAreDue, DocumentsAreRead, RefusedIsNoDocument, TokensWithin, SubjectWithin, TermWithin, GraphWithin, IrisWithin}
use Rattle.rdf_tokens.proofs.LanguageLemmas.{document_read, document_whole, read_to_its_end, refused_no_document}
use Rattle.rdf_driver.proofs.PromiseLemmas.{read_goes_on}
use Rattle.rdf_lines.specs.Lines.{Plain, Document as Tree, quad_of}
use Rattle.rdf_lines.proofs.PlainQuads.{plain_quads}
use Rattle.rdf_lines.specs.Lines as L
use Rattle.rdf_lines.proofs.Runs.{run_document}
use Rattle.rdf_lines.proofs.Refusals.{ran_none}
use Rattle.rdf_lines.proofs.AcceptingLemmas.{lawful}
use Rattle.rdf_lines.proofs.ReadBack.{tokens_tree, tree_back}
use Rattle.rdf_lines.proofs.SpelledLine.{Written}

-- What a reader has put is due, by what the grammar promises.
pub quads_due : ReadQuadsAreDue
quads_due r x bytes quads h = (
  read_goes_on line_words lawful r x bytes quads h,
  lawful.due r.grammar x (reading_of (in_lines x.form r.scanner.limit x.iri) bytes false).tokens quads h.reached,
)

-- A document within the limits is read to its end.
pub documents_read : DocumentsAreRead
documents_read f limit n bytes qs d w = document_read (in_lines f limit n) bytes qs d w

-- What is refused is none.
pub refused_none : RefusedIsNoDocument
refused_none f limit n bytes qs reason at x d w = refused_no_document (in_lines f limit n) (lawful.ends (record { form = f; iri = n })) bytes qs reason at x d w

-- An IRI of at most n bytes with a scheme is taken.
taken : (n : ℕ) (i : List ℕ) → has_scheme i ≡ true → byte_len i ≤ n → is_taken n i ≡ true
taken n i s l = and_from (has_scheme i) (not (nat_lt n (byte_len i))) s (ap not (le-ltb n (byte_len i) l))

-- Where the quads of a tree have no longer IRI, each of its IRIs is taken.
name_taken : (n : ℕ) (x : Name) → name_bound has_scheme x → SubjectWithin n (subject_of x) → name_bound (is_taken n) x
name_taken n (Ref l) s w = taken n (iri_of l) s w
name_taken n (Lab l) s w = tt

-- an object whose IRIs are within the limit is taken
object_taken : (n : ℕ) (x : Object) → object_bound has_scheme x → TermWithin n (term_of x) → object_bound (is_taken n) x
object_taken n (Named x) s w = name_taken n x s w
object_taken n (Plain l) s w = tt
object_taken n (WithType l c i) s w = taken n (iri_of i) s w
object_taken n (WithTag l t) s w = tt

-- a graph label whose IRI is within the limit is taken
graph_taken : (n : ℕ) (x : Option Name) → graph_bound has_scheme x → GraphWithin n (option_map subject_of x) → graph_bound (is_taken n) x
graph_taken n None s w = tt
graph_taken n (Some x) s w = name_taken n x s w

-- a statement whose IRIs are within the limit is taken
pub statement_taken : (n : ℕ) (f : LineForm) (s : Statement) → GoodStatement has_scheme f s → IrisWithin n (quad_of s) → GoodStatement (is_taken n) f s
statement_taken n f s g w = record {
  subject = name_taken n s.subject g.subject w.subject;
  predicate = taken n (iri_of s.predicate) g.predicate w.predicate;
  object = object_taken n s.object g.object w.object;
  graph = graph_taken n s.graph g.graph w.graph;
  labels = g.labels;
}

-- a document whose IRIs are within the limit is taken
tree_taken : (n : ℕ) (f : LineForm) (d : Tree) → GoodDocument has_scheme f d → AllByRecursion (IrisWithin n) (plain_quads d) → GoodDocument (is_taken n) f d
tree_taken n f (last L.empty e) g w = tt
tree_taken n f (last (L.one s) e) g w = statement_taken n f s g w.0
tree_taken n f (next L.empty e d) g w = (tt, tree_taken n f d g.1 w)
tree_taken n f (next (L.one s) e d) g w = (statement_taken n f s g.0 w.0, tree_taken n f d g.1 w.1)

-- What is written for quads whose nodes all have labels is read to its end, where no token of the lines and no IRI passes a limit.
pub quads_read : (e : Escapes) (qs : List Quad) (limit iri : ℕ) → Written qs → 2 ≤ limit → AllByRecursion (TokensWithin e limit) qs →
    AllByRecursion (IrisWithin iri) qs → IsReadToItsEnd (in_lines NQuads limit iri) (encode_utf8_all (flat_map (quad_text e) qs))
quads_read e qs limit n h t l w =
    let bytes = encode_utf8_all (flat_map (quad_text e) qs) in
    let b = tokens_tree e qs limit h t l in
    let (tree, tokens, good, same) = b.1 in
    let ts = (tokens_of Lines limit bytes true).tokens in
    let narrow = tree_taken n NQuads tree good (subst (AllByRecursion (IrisWithin n)) (sym same) w) in
    let none = ran_none n NQuads ts Begin Finished qs (run_document (is_taken n) NQuads ts qs (tree, tokens, narrow, same)) in
    read_to_its_end (in_lines NQuads limit n) bytes (document_whole (in_lines NQuads limit n) bytes qs (tree_back e qs limit b n) none)
