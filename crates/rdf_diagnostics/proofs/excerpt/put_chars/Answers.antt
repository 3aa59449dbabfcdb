use Rattle.rdf_diagnostics.proofs.Prelude.{◌∙◌, ◌++◌, ap}
use Rattle.rdf_diagnostics.proofs.ExcerptsLemmas.{put_one}
use Rattle.rdf_diagnostics.proofs.excerpt.put_chars.Goals as goal

pub loop-c-preserved : goal.loop-c-preserved
loop-c-preserved g c =
    let bytes = c.as_bytes.ensures.value ∙ c.encode_utf8.ensures.value in
    put_one _ _ _ c.args.chars.now c.loop-c.c-index c.c-item.result c.loop-c-test.true c.c-item.is c.loop-c.invariant
    (c.in_ok-extend_from_slice.ensures.items ∙ ap (λ t. c.loop-c.text.items ++ t) bytes)
