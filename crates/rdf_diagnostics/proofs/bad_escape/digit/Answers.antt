use Rattle.rdf_diagnostics.proofs.Prelude.{◌∙◌, ap, arith, sym, inside_of, step_for}
use Rattle.rdf_diagnostics.proofs.EscapeWalksLemmas.{move_digit, room_fits, some_digit}
use Rattle.rdf_diagnostics.proofs.bad_escape.digit.Goals as goal

pub overflow_mul-number : goal.overflow_mul-number
overflow_mul-number c = let l = room_fits c.args.left c.args.number 0 c.if-left-gt0.true c.requires (omega arith) in omega arith

pub overflow_add-number : goal.overflow_add-number
overflow_add-number c =
    let d = some_digit c.hex_value.result c.in-Some.value c.args.c c.in-Some.is c.hex_value.ensures.value c.hex_value.ensures.small in
    let e = c.from.ensures in
    let l = room_fits c.args.left c.args.number c.from.result c.if-left-gt0.true c.requires (let s = d.2 in omega arith) in
    omega arith

pub returns-in-Some-clause-is : goal.returns-in-Some-clause-is
returns-in-Some-clause-is c =
    let d = some_digit c.hex_value.result c.in-Some.value c.args.c c.in-Some.is c.hex_value.ensures.value c.hex_value.ensures.small in
    c.after_digit.ensures.is
    ∙ ap step_for (sym (move_digit (inside_of c.args.is_iri) c.args.left c.args.number c.args.c c.from.result c.if-left-gt0.true d.0
    (c.from.ensures ∙ d.1)))
