use Rattle.rdf_lines.proofs.Prelude.{length, ap, sym, arith, false≢true, iris_quad, form_of, line_bytes}
use Rattle.rdf_lines.proofs.BufferLemmas.{lines_placed, lines_kept, within_back}
use Rattle.rdf_lines.proofs.buffer.LineBuffer.put_short_iris.Goals as goal

pub put_short_iris-requires : goal.put_short_iris-requires
put_short_iris-requires g c =
    let inv = c.self.invariant in
    let s = ap length c.as_mut_slice-slot.ensures.value in
    omega (arith, inv, s)

pub invariant_of-self-in-None : goal.invariant_of-self-in-None
invariant_of-self-in-None g c =
    let b = c.self.inside.bytes in
    let inv = c.self.invariant in
    let s = ap length c.as_mut_slice-slot.ensures.value in
    let l = c.put_short_iris.auto.slot in
    within_back b.len c.self.inside.len c.put_short_iris.new.slot _ b.items b.ok.0 c.as_mut_slice-slot.ensures.value l (omega (arith, inv, s, l))

pub returns-in-None-clause-written : goal.returns-in-None-clause-written
returns-in-None-clause-written g c = λ e. absurd (false≢true e)

pub returns-in-None-clause-unchanged : goal.returns-in-None-clause-unchanged
returns-in-None-clause-unchanged g c = λ _.
    let b = c.self.inside.bytes in
    lines_kept b.len c.self.inside.len c.put_short_iris.new.slot _ b.items c.args.self.now b.ok.0 c.as_mut_slice-slot.ensures.value c.put_short_iris.auto.slot
    c.self.view_is (c.put_short_iris.ensures.unchanged c.in-None.is)

pub invariant_of-self : goal.invariant_of-self
invariant_of-self g c =
    let b = c.self.inside.bytes in
    within_back b.len c.in-Some.end c.put_short_iris.new.slot _ b.items b.ok.0 c.as_mut_slice-slot.ensures.value c.put_short_iris.auto.slot
    c.in-Some.ensures.written.within

pub returns-in-Some-clause-written : goal.returns-in-Some-clause-written
returns-in-Some-clause-written g c = λ _.
    let b = c.self.inside.bytes in
    lines_placed b.len c.self.inside.len c.in-Some.end c.put_short_iris.new.slot _ b.items c.args.self.now
    (line_bytes (form_of c.args.form) (iris_quad c.args.subject c.args.predicate c.args.object)) b.ok.0
    c.as_mut_slice-slot.ensures.value c.put_short_iris.auto.slot c.self.view_is c.in-Some.ensures.written.bytes

pub returns-in-Some-clause-unchanged : goal.returns-in-Some-clause-unchanged
returns-in-Some-clause-unchanged g c = λ e. absurd (false≢true (sym e))
