use Rattle.rdf_diagnostics.proofs.Prelude.{◌∙◌, ◌+◌, ◌-◌, ◌≤◌, arith, drop, refl, subst, take, false, undecided, HasNone, LeavesOpen, reading_from, HasTaken, IsSeen, SeesPart}
use Rattle.rdf_diagnostics.proofs.SightLemmas.{by_scan, decided, open_before, took}
use Rattle.rdf_diagnostics.proofs.sight.Front.see_to.Goals as goal

pub parts-preserved : goal.parts-preserved
parts-preserved g c =
    let now = c.parts.self in
    let rest = c.args.rest.now in
    let s = c.parts.invariant.same in
    let p = c.in_ok-taken.ensures in
    let most = (now.len + c.min.result) - now.len in
    let part = take most (drop now.len rest) in
    let within = c.min.ensures in
    record {
      same = record { dialect = p.same.dialect ∙ s.dialect; limit = p.same.limit ∙ s.limit };
      taken = took now.scanner c.see_part.new.scanner rest part now.len most c.in_ok-taken.taken refl
          (omega (arith, c.parts-test.true, c.requires.end)) c.parts.invariant.taken
          (subst (λ s. SeesPart now.scanner part c.in_ok-taken.taken s c.see_part.new.scanner) c.in-Open.is p);
    }

pub returns-in_default : goal.returns-in_default
returns-in_default g c =
    let old = c.args.self.now.scanner in
    let now = c.parts.self in
    let rest = c.args.rest.now in
    let s = c.parts.invariant.same in
    let p = c.in_ok-taken.ensures in
    let most = (now.len + c.min.result) - now.len in
    let part = take most (drop now.len rest) in
    record {
      same = record { dialect = p.same.dialect ∙ s.dialect; limit = p.same.limit ∙ s.limit };
      seen = by_scan old now.scanner (λ d l. IsSeen (reading_from d l (take c.args.end rest) false) c.in_ok-taken.seen) s
          (decided now.scanner c.see_part.new.scanner rest part now.len most c.in_ok-taken.taken c.args.end c.in_ok-taken.seen refl
          (omega (arith, c.parts-test.true, c.requires.end))
          c.parts.invariant.taken p c.in_default.not-Open);
      leaves = by_scan old now.scanner (λ d l. LeavesOpen d l rest now.len) s c.parts.invariant.taken.front;
      taken = λ e. absurd {A = HasTaken c.see_part.new.scanner rest now.len} (c.in_default.not-Open e);
      far = λ e. absurd {A = c.args.end ≤ now.len} (c.in_default.not-Open e);
    }

pub returns-clause-seen : goal.returns-clause-seen
returns-clause-seen g c =
    let now = c.parts.self in
    by_scan c.args.self.now.scanner now.scanner (λ d l. HasNone (reading_from d l (take c.args.end c.args.rest.now) false) undecided) c.parts.invariant.same
    (open_before now.scanner.dialect now.scanner.limit c.args.rest.now c.args.end now.len c.parts-test.false c.parts.invariant.taken.front.none)

pub returns-clause-leaves : goal.returns-clause-leaves
returns-clause-leaves g c =
    by_scan c.args.self.now.scanner c.parts.self.scanner
    (λ d l. LeavesOpen d l c.args.rest.now c.parts.self.len) c.parts.invariant.same c.parts.invariant.taken.front
