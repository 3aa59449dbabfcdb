use Rattle.rdf_stream.proofs.ViewsLemmas.{literal_is}
use Rattle.rdf_stream.proofs.views.see_literal.Goals as goal

pub returns : goal.returns
returns c = literal_is c.args.literal
