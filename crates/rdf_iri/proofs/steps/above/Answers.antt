use Rattle.rdf_iri.proofs.WrittenOnward.{above-there}
use Rattle.rdf_iri.proofs.steps.above.Goals as goal

pub returns-then-text-root-clause-text : goal.returns-then-text-root-clause-text
returns-then-text-root-clause-text c =
    above-there c.args.root c.directory_len.result c.args.text.now c.requires c.if-text-root.true c.directory_len.ensures.within c.directory_len.ensures.front
