-- A token is seen after one space or none.
use Rattle.rdf_tokens.proofs.Prelude.{◌≡◌, sym, ap, ◌∙◌, subst, IfSome, IsCharBoundary, IsBare, Sees, one_space}
use Rattle.rdf_tokens.proofs.PeekLemmas.{seen_after, space_cut}
use Rattle.rdf_tokens.proofs.peek.first_seen.Goals as goal

pub range_from-requires : goal.range_from-requires
range_from-requires c =
    let bs = c.args.text.now in
    let n : c.one_space-blank.result ≡ one_space bs = c.one_space-blank.ensures ∙ ap one_space c.as_bytes.ensures.value in
    let b : IsCharBoundary bs c.one_space-blank.result = subst (IsCharBoundary bs) (sym n) (space_cut bs c.utf8.text) in
    λ l. b

pub returns : goal.returns
returns c =
    let bs = c.args.text.now in
    let n : c.one_space-blank.result ≡ one_space bs = c.one_space-blank.ensures ∙ ap one_space c.as_bytes.ensures.value in
    let o = c.seen.result in
    let v = c.range_from.ensures.value in
    seen_after bs c.one_space-blank.result o n (subst (λ w. Sees w c.one_space-blank.result o) v c.seen.ensures.token)
    (subst (λ w. IfSome o (λ p. IsBare w)) v c.seen.ensures.bare)
