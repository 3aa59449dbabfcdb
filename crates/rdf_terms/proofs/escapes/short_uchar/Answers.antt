use Rattle.rdf_terms.proofs.Prelude.{sym, ◌∙◌, subst, IsUcharOf, UcharAt}
use Rattle.rdf_terms.proofs.UcharLemmas.{short_found}
use Rattle.rdf_terms.proofs.escapes.short_uchar.Goals as goal

pub returns : goal.returns
returns c =
    let bs = c.args.bytes.now in
    let at = c.args.at in
    let four = c.in_ok-number.ensures.is in
    subst (UcharAt (IsUcharOf 117 4) bs at) (sym c.with_end.ensures)
    (short_found bs at c.in_ok-number.number c.from_u32.result (sym c.begins.ensures ∙ c.if-not-begins.false) four.0 four.1 c.from_u32.ensures.value)
