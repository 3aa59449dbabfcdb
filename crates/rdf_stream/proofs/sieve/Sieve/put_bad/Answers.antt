use Rattle.rdf_stream.proofs.Prelude.{refl, arith, subst, ◌∙◌, Appends}
use Rattle.rdf_stream.proofs.sieve.Sieve.put_bad.Goals as goal

pub returns-clause-put : goal.returns-clause-put
returns-clause-put g c = record {
  put = subst (Appends (g.B.Drain.contents c.args.bad.now) (g.B.Drain.contents c.put_all.new.drain))
      (c.as_slice.ensures.value ∙ c.in-Ok.ensures) c.in-Ok-put_all.ensures.ok;
  counts = record { quads_counted = omega arith; bad_counted = let h = c.saturating_add-self.ensures in omega (arith, h) };
  first = refl;
  same = record { form = refl; limits = refl; output = refl };
  live = c.in-Ok-put_all.ensures.failed;
}
