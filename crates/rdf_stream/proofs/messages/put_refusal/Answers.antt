use Rattle.rdf_stream.proofs.Prelude.{◌++◌, ◌∙◌, ap, on_ok_weaker}
use Rattle.rdf_stream.proofs.PutLemmas.{then_put}
use Rattle.rdf_stream.proofs.messages.put_refusal.Goals as goal

pub returns : goal.returns
returns g c =
    let old = c.args.line.now.items in
    let words = c.in_ok-extend_from_slice.ensures.items ∙ ap (λ l. old ++ l) (c.as_bytes.ensures.value ∙ c.words.ensures) in
    let at_byte = then_put old _ _ _ _ words c.in_ok-extend_from_slice-2.ensures.items in
    let offset = then_put old _ _ _ _ at_byte c.in_ok-put_number.ensures in
    let line = then_put old _ _ _ _ offset c.in_ok-extend_from_slice-3.ensures.items in
    on_ok_weaker c.put_number-2.result (λ e. then_put old _ _ _ _ line e) c.put_number-2.ensures
