use Rattle.rdf_iri.proofs.Prelude.{arith, false≢true, strip_prefix_char, contains_char}
use Rattle.rdf_iri.proofs.BindingLemmas.{comment_by_search, no_comment}
use Rattle.rdf_iri.proofs.binding_lines.is_comment.Goals as goal

pub returns-in-Some : goal.returns-in-Some
returns-in-Some c =
    let cut = rw c.in-Some.is at (strip_prefix_char 35 c.args.text.now c.strip_prefix.result c.strip_prefix.ensures.cases (omega arith)) in
    let found = contains_char 13 c.in-Some.comment.now c.contains.result c.contains.ensures.cases (omega arith) in
    comment_by_search c.args.text.now c.in-Some.comment.now c.contains.result c.utf8.text cut found.0 found.1

pub returns-in-None : goal.returns-in-None
returns-in-None c =
    let none = rw c.in-None.is at (strip_prefix_char 35 c.args.text.now c.strip_prefix.result c.strip_prefix.ensures.cases (omega arith)) in
    (λ t. absurd (false≢true t), λ k. absurd (no_comment c.args.text.now c.utf8.text none k))
