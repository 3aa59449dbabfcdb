use Rattle.rdf_trig.proofs.Prelude.{◌&&◌, ap, sym, ◌∙◌, nat_le}
use Rattle.rdf_trig.proofs.accept.is_too_deep.Goals as goal

pub returns-then-deepens-clause-is : goal.returns-then-deepens-clause-is
returns-then-deepens-clause-is c = ap (λ b. b && nat_le c.args.most c.args.depth) (sym c.if-deepens.true ∙ c.deepens.ensures)
