use Rattle.rdf_lines.proofs.Prelude.{◌∙◌, length, Ok, Err, ap, arith, Result, OnErr, IfOk-from_err}
use Rattle.rdf_lines.proofs.BufferLemmas.{lines_placed, within_back, lines_appended, lines_left}
use Rattle.rdf_lines.proofs.buffer.LineBuffer.append.Goals as goal

-- what holds holds on an error
on_err : {T E : Type 0} (r : Result T E) (P : Type 0) → P → OnErr r P
on_err (Ok v) P p = tt
on_err (Err x) P p = p

pub place_all-self-inside-requires : goal.place_all-self-inside-requires
place_all-self-inside-requires g c =
    let b = c.self.inside.bytes in
    let fits = c.if-bytes-len.true in
    let inv = c.self.invariant in
    let o = b.ok.0 in
    let m = c.len.ensures in
    let s = ap length c.as_mut_slice.ensures.value in
    omega (arith, fits, inv, o, m, s)

pub invariant_of-self : goal.invariant_of-self
invariant_of-self g c =
    let b = c.self.inside.bytes in
    let fits = c.if-bytes-len.true in
    let inv = c.self.invariant in
    let o = b.ok.0 in
    let m = c.len.ensures in
    let placed = c.place_all-self-inside.ensures in
    let s = ap length c.as_mut_slice.ensures.value in
    within_back b.len c.place_all-self-inside.result c.place_all-self-inside.new.slot _ b.items o c.as_mut_slice.ensures.value placed.len
    (omega (arith, fits, inv, o, m, s, placed.moved, placed.len))

pub returns-then-bytes-len-clause-appended : goal.returns-then-bytes-len-clause-appended
returns-then-bytes-len-clause-appended g c =
    let b = c.self.inside.bytes in
    let placed = c.place_all-self-inside.ensures in
    lines_placed b.len c.self.inside.len c.place_all-self-inside.result c.place_all-self-inside.new.slot _ b.items c.args.self.now
    c.args.bytes.now b.ok.0 c.as_mut_slice.ensures.value placed.len c.self.view_is placed.bytes

pub invariant_of-self-in_err-extend_from_slice : goal.invariant_of-self-in_err-extend_from_slice
invariant_of-self-in_err-extend_from_slice g c =
    (lines_left c.self.inside.len c.self.inside.bytes.items _ _ _ c.self.invariant c.self.view_is c.truncate.ensures.items
    c.in_err-extend_from_slice.ensures.items).0

pub returns-in_err-extend_from_slice-clause-unchanged : goal.returns-in_err-extend_from_slice-clause-unchanged
returns-in_err-extend_from_slice-clause-unchanged g c =
    on_err c.from_residual.result _
    (lines_left c.self.inside.len c.self.inside.bytes.items _ _ _ c.self.invariant c.self.view_is c.truncate.ensures.items
    c.in_err-extend_from_slice.ensures.items).1

pub returns-in_err-extend_from_slice-clause-appended : goal.returns-in_err-extend_from_slice-clause-appended
returns-in_err-extend_from_slice-clause-appended g c = IfOk-from_err c.from_residual.result (λ _. _) c.from_residual.ensures.0

pub invariant_of-self-2 : goal.invariant_of-self-2
invariant_of-self-2 g c =
    let l = c.len-self-inside.ensures in
    let o = c.extend_from_slice.new.self.ok.0 in
    omega (arith, l, o)

pub returns-clause-appended : goal.returns-clause-appended
returns-clause-appended g c =
    lines_appended c.self.inside.len c.len-self-inside.result c.self.inside.bytes.items _ c.extend_from_slice.new.self.items
    c.args.self.now c.args.bytes.now c.self.view_is c.truncate.ensures.items c.in_ok-extend_from_slice.ensures.items
    (c.len-self-inside.ensures ∙ c.extend_from_slice.new.self.ok.0)
