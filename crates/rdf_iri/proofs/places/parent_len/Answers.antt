-- The loop that looks for the last '/': none stands after its place.
use Rattle.rdf_iri.proofs.Prelude.{◌≡◌, ℕ, ◌+◌, ◌-◌, sym, drop, subst, arith, Lacks}
use Rattle.rdf_iri.proofs.DotsLemmas.{parent-none}
use Rattle.rdf_iri.proofs.CutPlaces.{parent_there, Lacks-less}
use Rattle.rdf_iri.proofs.places.parent_len.Goals as goal

pub returns-then-text-len-eq47-clause-front : goal.returns-then-text-len-eq47-clause-front
returns-then-text-len-eq47-clause-front c =
    let e : c.loop-len.len ≡ (c.loop-len.len - 1) + 1 = omega arith in
    parent_there c.args.text.now (c.loop-len.len - 1) (omega arith) c.if-text-len-eq47.true
    (subst (λ (k : ℕ). Lacks 47 (drop k c.args.text.now)) e c.loop-len.invariant.lacks)

pub loop-len-preserved : goal.loop-len-preserved
loop-len-preserved c =
    let e : c.loop-len.len ≡ (c.loop-len.len - 1) + 1 = omega arith in
    record {
      within = omega arith;
      lacks = Lacks-less c.args.text.now (c.loop-len.len - 1) (omega arith) c.if-text-len-eq47.false
          (subst (λ (k : ℕ). Lacks 47 (drop k c.args.text.now)) e c.loop-len.invariant.lacks);
    }

pub returns-clause-front : goal.returns-clause-front
returns-clause-front c =
    let e : c.loop-len.len ≡ 0 = omega arith in
    sym (parent-none c.args.text.now (subst (λ (k : ℕ). Lacks 47 (drop k c.args.text.now)) e c.loop-len.invariant.lacks))
