use Rattle.rdf_iri.proofs.Prelude.{◌∙◌, ◌-◌, ◌++◌, drop, ap, length, arith, length-take}
use Rattle.rdf_iri.proofs.Written.{cleaned}
use Rattle.rdf_iri.proofs.resolution.put_path.Goals as goal

pub returns : goal.returns
returns g c =
    c.truncate.ensures.items
    ∙ cleaned c.args.out.now.items c.args.front.now c.args.path.now c.deref_mut.result.now c.remove_dots-len.new.path _ _ c.len-start.result
    c.remove_dots-len.result _
    (c.deref_mut.ensures.value ∙ (c.in_ok-extend_from_slice-2.ensures.items ∙ ap (λ x. x ++ c.args.path.now) c.in_ok-extend_from_slice.ensures.items))
    (omega (arith, c.len-start.ensures, c.args.out.now.ok.0))
    (omega (
      arith,
      c.remove_dots-len.ensures.within,
      length-take (length c.deref_mut.result.now - c.len-start.result) (drop c.len-start.result c.deref_mut.result.now),
      c.deref_mut.ensures.len,
      c.len-start.ensures,
      c.in_ok-extend_from_slice.ensures.len,
      c.in_ok-extend_from_slice-2.ensures.len,
    ))
    (omega (arith, c.remove_dots-len.ensures.within, c.remove_dots-len.auto.path))
    c.remove_dots-len.ensures.path
