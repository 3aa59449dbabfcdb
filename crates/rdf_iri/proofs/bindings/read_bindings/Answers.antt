-- The loop over the lines of a file: those read say what the scope binds, and the first that fails is reported with its number.
use Rattle.rdf_iri.proofs.Prelude.{ap, refl, subst, arith, text_of, CrDropped}
use Rattle.rdf_iri.proofs.BindingFiles.{nothing_read, one_line_more, whole_read, read_iris, line_fails, mark_shortens, left_more, left}
use Rattle.rdf_iri.proofs.bindings.read_bindings.Goals as goal

pub loop-rest-init : goal.loop-rest-init
loop-rest-init g c =
    let m = mark_shortens c.args.bytes.now c.without_mark.result.now c.without_mark.ensures in
    record {
      read = nothing_read c.args.limits c.args.bytes.now c.without_mark.result.now _ c.new-scope.result c.without_mark.ensures refl
          c.new-scope.ensures;
      few = omega (arith, m);
    }

pub overflow_add-line : goal.overflow_add-line
overflow_add-line g c = let k = ap left (ap text_of c.in-Some.is) in omega (arith, k, c.loop-rest.invariant.few)

pub bind_line-requires : goal.bind_line-requires
bind_line-requires g c = c.loop-rest.invariant.read.base

pub returns-in-Err-clause-refused : goal.returns-in-Err-clause-refused
returns-in-Err-clause-refused g c =
    line_fails c.in-Err.reason c.args.limits c.args.bytes.now c.in-Some.left.now c.without_cr.result.now
    (text_of c.loop-rest.rest) c.loop-rest.line _ c.loop-rest.scope c.loop-rest.invariant.read
    (ap text_of c.in-Some.is) (subst (λ x. CrDropped x c.without_cr.result.now) c.first_line.ensures.line c.without_cr.ensures) c.in-Err.ensures.err refl

pub loop-rest-smaller : goal.loop-rest-smaller
loop-rest-smaller g c =
    let m = left_more (text_of c.first_line.result.1) c.in-Some.left.now c.first_line.ensures.rest in
    let k = ap left (ap text_of c.in-Some.is) in
    omega (arith, m, k)

pub loop-rest-preserved : goal.loop-rest-preserved
loop-rest-preserved g c =
    let m = left_more (text_of c.first_line.result.1) c.in-Some.left.now c.first_line.ensures.rest in
    let k = ap left (ap text_of c.in-Some.is) in
    record {
      read = one_line_more c.args.limits c.args.bytes.now c.in-Some.left.now c.without_cr.result.now (text_of c.loop-rest.rest)
          (text_of c.first_line.result.1) c.loop-rest.line _ c.loop-rest.scope
          c.bind_line.new.scope c.loop-rest.invariant.read (ap text_of c.in-Some.is) c.first_line.ensures.rest
          (subst (λ x. CrDropped x c.without_cr.result.now) c.first_line.ensures.line c.without_cr.ensures) c.in_default-bind_line.ensures.ok refl;
      few = omega (arith, m, k, c.loop-rest.invariant.few);
    }

pub into_bindings-requires : goal.into_bindings-requires
into_bindings-requires g c = λ prefix iri e. read_iris c.args.limits c.args.bytes.now
    (text_of c.loop-rest.rest) c.loop-rest.line c.loop-rest.scope c.loop-rest.invariant.read prefix iri e

pub returns-clause-read : goal.returns-clause-read
returns-clause-read g c =
    whole_read c.args.limits c.args.bytes.now (text_of c.loop-rest.rest) c.loop-rest.line c.loop-rest.scope c.into_bindings.result
    c.loop-rest.invariant.read (ap text_of c.in_default.is) c.into_bindings.ensures
