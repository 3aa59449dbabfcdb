-- What is written after the root, or after the last directory, is the target.
use Rattle.rdf_iri.proofs.Prelude.{◌∙◌, ap, sym, get_or, arith, IsCharBoundary-from_drop, on_ok_weaker}
use Rattle.rdf_iri.proofs.RootLemmas.{after-first, after-last, first-boundary, last-boundary, slash-boundary, front-slice}
use Rattle.rdf_iri.proofs.base.put_after.Goals as goal

pub range-requires-clause-end_boundary : goal.range-requires-clause-end_boundary
range-requires-clause-end_boundary g c = first-boundary c.args.base.now c.args.root c.utf8.base c.requires.root

pub put_onward-requires-clause-cut : goal.put_onward-requires-clause-cut
put_onward-requires-clause-cut g c =
    slash-boundary c.args.reference.now c.utf8.reference c.requires.path (ap (λ x. get_or x 0 0) (sym c.as_bytes.ensures.value) ∙ c.if-as_bytes-eq47.true)

pub range-requires-else-as_bytes-eq47-clause-end_boundary : goal.range-requires-else-as_bytes-eq47-clause-end_boundary
range-requires-else-as_bytes-eq47-clause-end_boundary g c = last-boundary c.args.base.now c.args.root c.utf8.base c.requires.root

pub put_onward-requires-else-as_bytes-eq47-clause-cut : goal.put_onward-requires-else-as_bytes-eq47-clause-cut
put_onward-requires-else-as_bytes-eq47-clause-cut g c = IsCharBoundary-from_drop c.args.reference.now 0 (omega arith) c.utf8.reference

pub returns-in_ok-put : goal.returns-in_ok-put
returns-in_ok-put g c = on_ok_weaker c.put_onward.result
    (after-first c.args.base.now c.args.reference.now _ _ c.args.root c.requires.root c.requires.path c.requires.no_scheme
    (ap (λ x. get_or x 0 0) (sym c.as_bytes.ensures.value) ∙ c.if-as_bytes-eq47.true)
    (c.in_ok-put.ensures ∙ (c.range.ensures.value ∙ front-slice c.args.base.now c.args.root.first)))
    c.put_onward.ensures

pub returns-in_ok-put-2 : goal.returns-in_ok-put-2
returns-in_ok-put-2 g c = on_ok_weaker c.put_onward-else-as_bytes-eq47.result
    (after-last c.args.base.now c.args.reference.now _ _ c.args.root c.requires.root c.requires.path c.requires.no_scheme
    (λ e. c.if-as_bytes-eq47.false (ap (λ x. get_or x 0 0) c.as_bytes.ensures.value ∙ e))
    (c.in_ok-put-2.ensures ∙ (c.range-else-as_bytes-eq47.ensures.value ∙ front-slice c.args.base.now c.args.root.last)))
    c.put_onward-else-as_bytes-eq47.ensures
