use Rattle.rdf_stream.proofs.Prelude.{refl, subst, IsTried}
use Rattle.rdf_stream.proofs.sieve.Sieve.put_good.Goals as goal

pub returns-in-Ok-Bad-clause-bad : goal.returns-in-Ok-Bad-clause-bad
returns-in-Ok-Bad-clause-bad g c =
    record { why = subst (IsTried c.args.self.now c.args.bytes.now) c.in-Ok-Bad.field-0-is c.in-Ok-Bad.ensures.tried; sieve = refl; drain = refl }
