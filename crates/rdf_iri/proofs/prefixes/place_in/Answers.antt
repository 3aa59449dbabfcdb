use Rattle.rdf_iri.proofs.Prelude.{◌∙◌, ap, sym, bytes_eq, string_bytes}
use Rattle.rdf_iri.proofs.PrefixLemmas.{stands_at, goes_on}
use Rattle.rdf_iri.proofs.prefixes.place_in.Goals as goal

pub returns-then-is_same : goal.returns-then-is_same
returns-then-is_same g c =
    stands_at c.args.row.now c.loop-place.place c.index-row-place.result c.args.prefix.now c.loop-place-test.true c.index-row-place.is
    (ap (λ r. bytes_eq (string_bytes r.0) c.args.prefix.now) c.index-row-place.is
    ∙ (ap (λ s. bytes_eq s c.args.prefix.now) (sym c.as_str.ensures.value) ∙ (sym c.is_same.ensures ∙ c.if-is_same.true)))
    c.loop-place.invariant

pub loop-place-preserved : goal.loop-place-preserved
loop-place-preserved g c =
    goes_on c.args.row.now c.loop-place.place c.index-row-place.result c.args.prefix.now c.loop-place-test.true c.index-row-place.is c.utf8.prefix
    (ap (λ r. bytes_eq (string_bytes r.0) c.args.prefix.now) c.index-row-place.is
    ∙ (ap (λ s. bytes_eq s c.args.prefix.now) (sym c.as_str.ensures.value) ∙ (sym c.is_same.ensures ∙ c.if-is_same.false)))
    c.loop-place.invariant
