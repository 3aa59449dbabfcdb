use Rattle.rdf_lines.proofs.Prelude.{length, ap, sym, arith, false≢true, form_of, line_bytes}
use Rattle.rdf_lines.proofs.BufferLemmas.{lines_placed, lines_kept, within_back}
use Rattle.rdf_lines.proofs.buffer.LineBuffer.put_short.Goals as goal

pub put_short-requires : goal.put_short-requires
put_short-requires g c =
    let inv = c.self.invariant in
    let s = ap length c.as_mut_slice.ensures.value in
    omega (arith, inv, s)

pub invariant_of-self : goal.invariant_of-self
invariant_of-self g c =
    let b = c.self.inside.bytes in
    let inv = c.self.invariant in
    let s = ap length c.as_mut_slice.ensures.value in
    let l = c.put_short.auto.slot in
    within_back b.len c.self.inside.len c.put_short.new.slot _ b.items b.ok.0 c.as_mut_slice.ensures.value l (omega (arith, inv, s, l))

pub returns-in_default-clause-written : goal.returns-in_default-clause-written
returns-in_default-clause-written g c = λ e. absurd (false≢true e)

pub returns-in_default-clause-unchanged : goal.returns-in_default-clause-unchanged
returns-in_default-clause-unchanged g c = λ _.
    let b = c.self.inside.bytes in
    lines_kept b.len c.self.inside.len c.put_short.new.slot _ b.items c.args.self.now b.ok.0 c.as_mut_slice.ensures.value c.put_short.auto.slot
    c.self.view_is (c.put_short.ensures.unchanged c.in_default.is)

pub invariant_of-self-2 : goal.invariant_of-self-2
invariant_of-self-2 g c =
    let b = c.self.inside.bytes in
    within_back b.len c.in-Some.end c.put_short.new.slot _ b.items b.ok.0 c.as_mut_slice.ensures.value c.put_short.auto.slot
    c.in-Some.ensures.written.within

pub returns-clause-written : goal.returns-clause-written
returns-clause-written g c = λ _.
    let b = c.self.inside.bytes in
    lines_placed b.len c.self.inside.len c.in-Some.end c.put_short.new.slot _ b.items c.args.self.now (line_bytes (form_of c.args.form) c.args.quad.now)
    b.ok.0 c.as_mut_slice.ensures.value c.put_short.auto.slot c.self.view_is c.in-Some.ensures.written.bytes

pub returns-clause-unchanged : goal.returns-clause-unchanged
returns-clause-unchanged g c = λ e. absurd (false≢true (sym e))
