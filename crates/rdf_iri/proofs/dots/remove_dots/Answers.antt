-- The loop over a path in its own bytes: what is read and what is written lead to the path without dots.
use Rattle.rdf_iri.proofs.Prelude.{◌-◌, ◌≤◌, ◌+◌, ◌∙◌, arith, length, drop, take, set, refl, length-set, length-take}
use Rattle.rdf_iri.proofs.InPlace.{skip_kept, slash_kept, up_kept, keep_kept, at_start, at_end}
use Rattle.rdf_iri.proofs.dots.remove_dots.Goals as goal

pub loop-read-init : goal.loop-read-init
loop-read-init c = record { written = omega arith; within = omega arith; same_length = refl; path = at_start c.args.path.now }

pub loop-read-preserved-in-Skip : goal.loop-read-preserved-in-Skip
loop-read-preserved-in-Skip c =
    let w = c.loop-read.path in
    let s = c.in-Skip.ensures.some in
    let l : length (take (length w - c.loop-read.read) (drop c.loop-read.read w)) ≤ length w - c.loop-read.read =
    omega (arith, length-take (length w - c.loop-read.read) (drop c.loop-read.read w)) in
    record {
      written = omega arith;
      within = omega (arith, s.1, c.loop-read-test.true);
      same_length = c.loop-read.invariant.same_length;
      path = skip_kept w c.loop-read.read c.loop-read.write c.in-Skip.n _ c.loop-read.invariant.path c.in-Skip.ensures.step;
    }

pub loop-read-preserved-in-Slash : goal.loop-read-preserved-in-Slash
loop-read-preserved-in-Slash c =
    let w = c.loop-read.path in
    let s = c.in-Slash.ensures.some in
    let l : length (take (length w - c.loop-read.read) (drop c.loop-read.read w)) ≤ length w - c.loop-read.read =
    omega (arith, length-take (length w - c.loop-read.read) (drop c.loop-read.read w)) in
    let e = length-set w (c.loop-read.read + c.in-Slash.n) 47 in
    record {
      written = omega arith;
      within = omega (arith, s.1, c.loop-read-test.true);
      same_length = e ∙ c.loop-read.invariant.same_length;
      path = slash_kept w c.loop-read.read c.loop-read.write c.in-Slash.n _ c.loop-read.invariant.written (omega (arith, s.1, c.loop-read-test.true))
          c.loop-read.invariant.path c.in-Slash.ensures.step;
    }

pub loop-read-preserved-in-Up : goal.loop-read-preserved-in-Up
loop-read-preserved-in-Up c =
    let w = c.loop-read.path in
    let s = c.in-Up.ensures.some in
    let v = set w (c.loop-read.read + c.in-Up.n) 47 in
    let l : length (take (length w - c.loop-read.read) (drop c.loop-read.read w)) ≤ length w - c.loop-read.read =
    omega (arith, length-take (length w - c.loop-read.read) (drop c.loop-read.read w)) in
    let e = length-set w (c.loop-read.read + c.in-Up.n) 47 in
    let k = length-take c.loop-read.write v in
    record {
      written = omega (arith, c.parent_len-write.ensures.within, c.loop-read.invariant.written);
      within = omega (arith, s.1, c.loop-read-test.true);
      same_length = e ∙ c.loop-read.invariant.same_length;
      path = up_kept w c.loop-read.read c.loop-read.write c.in-Up.n c.parent_len-write.result _ c.loop-read.invariant.written
          (omega (arith, s.1, c.loop-read-test.true)) c.loop-read.invariant.path c.in-Up.ensures.step
          c.parent_len-write.ensures.within c.parent_len-write.ensures.front;
    }

pub loop-read-preserved : goal.loop-read-preserved
loop-read-preserved c =
    let w = c.loop-read.path in
    let s = c.in-Keep.ensures.some in
    let l : length (take (length w - c.loop-read.read) (drop c.loop-read.read w)) ≤ length w - c.loop-read.read =
    omega (arith, length-take (length w - c.loop-read.read) (drop c.loop-read.read w)) in
    record {
      written = omega arith;
      within = omega (arith, s.1, c.loop-read-test.true, c.copy_within.ensures.len);
      same_length = c.copy_within.ensures.len ∙ c.loop-read.invariant.same_length;
      path = keep_kept w _ c.loop-read.read c.loop-read.write c.in-Keep.n _ c.loop-read.invariant.written (omega (arith, s.1, c.loop-read-test.true))
          c.copy_within.ensures.after c.loop-read.invariant.path c.in-Keep.ensures.step;
    }

pub returns-clause-path : goal.returns-clause-path
returns-clause-path c = at_end _ _ _ _ c.loop-read-test.false c.loop-read.invariant.path
