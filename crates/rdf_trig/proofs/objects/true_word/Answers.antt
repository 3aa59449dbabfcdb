use Rattle.rdf_trig.proofs.Prelude.{refl, chars}
use Rattle.rdf_trig.proofs.objects.true_word.Goals as goal

pub returns : goal.returns
unfolding chars
returns c = refl
