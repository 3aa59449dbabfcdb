-- A byte order mark is dropped, and a file without one is read from its first byte.
use Rattle.rdf_iri.proofs.Prelude.{◌≡◌, suc, ◌++◌, ◌∙◌, inl, inr, sym, refl, ap, length, drop, arith, false≢true, byte_order_mark}
use Rattle.rdf_iri.proofs.TextsLemmas.{begins-true, begins-from}
use Rattle.rdf_iri.proofs.bindings.without_mark.Goals as goal

pub split_at-requires : goal.split_at-requires
split_at-requires c =
    let k : length c.args.bytes.now ≡ suc (suc (suc (length (drop 3 c.args.bytes.now)))) =
    ap length (begins-true byte_order_mark c.args.bytes.now (sym c.begins_with.ensures ∙ c.if-begins_with.true)) in
    omega (arith, k)

pub returns-then-begins_with : goal.returns-then-begins_with
returns-then-begins_with c =
    inl (begins-true byte_order_mark c.args.bytes.now (sym c.begins_with.ensures ∙ c.if-begins_with.true)
    ∙ ap (λ w. byte_order_mark ++ w) (sym c.split_at.ensures.back))

pub returns-else-begins_with : goal.returns-else-begins_with
returns-else-begins_with c =
    inr ((λ b. false≢true (sym c.if-begins_with.false ∙ (c.begins_with.ensures ∙ begins-from byte_order_mark c.args.bytes.now b.0 b.1))), refl)
