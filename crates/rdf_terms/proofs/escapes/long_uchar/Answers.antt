use Rattle.rdf_terms.proofs.Prelude.{sym, ◌∙◌, subst, IsUcharOf, UcharAt}
use Rattle.rdf_terms.proofs.UcharLemmas.{long_found}
use Rattle.rdf_terms.proofs.escapes.long_uchar.Goals as goal

pub returns : goal.returns
returns c =
    let bs = c.args.bytes.now in
    let at = c.args.at in
    let front = c.in_ok-front.ensures.is in
    let back = c.in_ok-back.ensures.is in
    subst (UcharAt (IsUcharOf 85 8) bs at) (sym c.with_end.ensures)
    (long_found bs at c.in_ok-front.front c.in_ok-back.back c.from_u32.result (sym c.begins.ensures ∙ c.if-not-begins.false)
    front.0 front.1 back.0 back.1 c.from_u32.ensures.value)
