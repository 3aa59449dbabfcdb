-- A PNAME_NS is a prefix or nothing, and a last ':'.
use Rattle.rdf_terms.proofs.Prelude.{◌∙◌, sym, arith, length, false≢true, eqb-true, eqb-false}
use Rattle.std.proofs.lemmas.Str.Pattern.{strip_suffix_char}
use Rattle.rdf_terms.proofs.NamesLemmas.{ns_of_prefix, ns_of_nothing, ns_without_colon}
use Rattle.rdf_terms.proofs.names.is_pname_ns.Goals as goal

pub returns-then-is_empty : goal.returns-then-is_empty
returns-then-is_empty c =
    let cut = rw c.in-Some.is at (strip_suffix_char 58 c.args.text.now c.strip_suffix.result c.strip_suffix.ensures.cases (omega arith)) in
    let none = eqb-true (length c.in-Some.prefix.now) 0 (sym c.is_empty.ensures ∙ c.if-is_empty.true) in
    (λ t. ns_of_nothing _ _ c.utf8.text cut none, λ m. c.if-is_empty.true)

pub returns-else-is_empty : goal.returns-else-is_empty
returns-else-is_empty c =
    let cut = rw c.in-Some.is at (strip_suffix_char 58 c.args.text.now c.strip_suffix.result c.strip_suffix.ensures.cases (omega arith)) in
    ns_of_prefix _ _ _ c.utf8.text cut c.is_prefix.ensures (eqb-false (length c.in-Some.prefix.now) 0 (sym c.is_empty.ensures ∙ c.if-is_empty.false))

pub returns-in-None : goal.returns-in-None
returns-in-None c =
    let cut = rw c.in-None.is at (strip_suffix_char 58 c.args.text.now c.strip_suffix.result c.strip_suffix.ensures.cases (omega arith)) in
    (λ t. absurd (false≢true t), λ m. absurd (ns_without_colon _ c.utf8.text cut m))
