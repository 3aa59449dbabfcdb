-- Each turn is that of its method.
use Rattle.rdf_trig.proofs.Prelude.{subst, leaf}
use Rattle.rdf_trig.specs.Turns.{Begins}
use Rattle.rdf_trig.proofs.state.State.take.Goals as goal

pub returns-in-Lead-clause-takes : goal.returns-in-Lead-clause-takes
returns-in-Lead-clause-takes g c = rw c.in-Lead.is (c.lead.ensures.takes (leaf c.args.token.now))

pub returns-in-GraphName-clause-takes : goal.returns-in-GraphName-clause-takes
returns-in-GraphName-clause-takes g c = rw c.in-GraphName.is (c.graph_name.ensures.takes (leaf c.args.token.now))

pub returns-in-GraphNode-clause-takes : goal.returns-in-GraphNode-clause-takes
returns-in-GraphNode-clause-takes g c = rw c.in-GraphNode.is (c.graph_node.ensures.takes (leaf c.args.token.now))

pub returns-in-SubjectBlock-clause-takes : goal.returns-in-SubjectBlock-clause-takes
returns-in-SubjectBlock-clause-takes g c = rw c.in-SubjectBlock.is (c.subject_block.ensures.takes (leaf c.args.token.now))

pub returns-in-Verb-clause-takes : goal.returns-in-Verb-clause-takes
returns-in-Verb-clause-takes g c = rw c.in-Verb.is (c.verb.ensures.takes (leaf c.args.token.now))

pub returns-in-FirstVerb-clause-takes : goal.returns-in-FirstVerb-clause-takes
returns-in-FirstVerb-clause-takes g c = rw c.in-FirstVerb.is (c.first_verb.ensures.takes (leaf c.args.token.now))

pub returns-in-Datatype-clause-takes : goal.returns-in-Datatype-clause-takes
returns-in-Datatype-clause-takes g c = rw c.in-Datatype.is (c.take_datatype.ensures.takes (leaf c.args.token.now))

pub returns-in-EndNode-clause-takes : goal.returns-in-EndNode-clause-takes
returns-in-EndNode-clause-takes g c = rw c.in-EndNode.is (c.end_node.ensures.takes (leaf c.args.token.now))

pub returns-in-EndPropertyList-clause-takes : goal.returns-in-EndPropertyList-clause-takes
returns-in-EndPropertyList-clause-takes g c = rw c.in-EndPropertyList.is (c.end_property_list.ensures.takes (leaf c.args.token.now))

pub returns-in-EmptyCollection-clause-takes : goal.returns-in-EmptyCollection-clause-takes
returns-in-EmptyCollection-clause-takes g c = rw c.in-EmptyCollection.is (c.empty_collection.ensures.takes (leaf c.args.token.now))

pub returns-in-EndCollection-clause-takes : goal.returns-in-EndCollection-clause-takes
returns-in-EndCollection-clause-takes g c = rw c.in-EndCollection.is (c.end_collection.ensures.takes (leaf c.args.token.now))

pub returns-in-GraphBracket-clause-takes : goal.returns-in-GraphBracket-clause-takes
returns-in-GraphBracket-clause-takes g c = rw c.in-GraphBracket.is c.take_bracket.ensures.takes

pub returns-in_ok-take_prefix-in-Prefix-clause-takes : goal.returns-in_ok-take_prefix-in-Prefix-clause-takes
returns-in_ok-take_prefix-in-Prefix-clause-takes g c = rw c.in-Prefix.is c.in_ok-take_prefix-in-Prefix.ensures.takes

pub returns-in_ok-graph_label-in-GraphLabel-clause-takes : goal.returns-in_ok-graph_label-in-GraphLabel-clause-takes
returns-in_ok-graph_label-in-GraphLabel-clause-takes g c = rw c.in-GraphLabel.is c.in_ok-graph_label-in-GraphLabel.ensures.takes

pub returns-in_ok-subject-in-Subject-clause-takes : goal.returns-in_ok-subject-in-Subject-clause-takes
returns-in_ok-subject-in-Subject-clause-takes g c = rw c.in-Subject.is c.in_ok-subject-in-Subject.ensures.takes

pub returns-in_ok-first_item-in-FirstItem-clause-takes : goal.returns-in_ok-first_item-in-FirstItem-clause-takes
returns-in_ok-first_item-in-FirstItem-clause-takes g c = rw c.in-FirstItem.is c.in_ok-first_item-in-FirstItem.ensures.takes

pub returns-in_ok-next_item-in-NextItem-clause-takes : goal.returns-in_ok-next_item-in-NextItem-clause-takes
returns-in_ok-next_item-in-NextItem-clause-takes g c = rw c.in-NextItem.is c.in_ok-next_item-in-NextItem.ensures.takes

pub returns-in_ok-take_tag-in-Tag-clause-takes : goal.returns-in_ok-take_tag-in-Tag-clause-takes
returns-in_ok-take_tag-in-Tag-clause-takes g c = rw c.in-Tag.is c.in_ok-take_tag-in-Tag.ensures.takes

pub returns-in_ok-object-in-Object-clause-takes : goal.returns-in_ok-object-in-Object-clause-takes
returns-in_ok-object-in-Object-clause-takes g c =
    rw c.in-Object.is (subst (λ y. Begins c.args.self.now y c.in-Object.start (leaf c.args.token.now) c.object.new.self) c.none.ensures
    c.in_ok-object-in-Object.ensures.takes)

pub returns-in-GraphName-clause-fits : goal.returns-in-GraphName-clause-fits
returns-in-GraphName-clause-fits g c = λ n t. c.graph_name.ensures.fits n

pub returns-in-GraphNode-clause-fits : goal.returns-in-GraphNode-clause-fits
returns-in-GraphNode-clause-fits g c = λ n t. c.graph_node.ensures.fits n

pub returns-in-SubjectBlock-clause-fits : goal.returns-in-SubjectBlock-clause-fits
returns-in-SubjectBlock-clause-fits g c = λ n t. c.subject_block.ensures.fits n

pub returns-in-Verb-clause-fits : goal.returns-in-Verb-clause-fits
returns-in-Verb-clause-fits g c = λ n t. c.verb.ensures.fits n

pub returns-in-FirstVerb-clause-fits : goal.returns-in-FirstVerb-clause-fits
returns-in-FirstVerb-clause-fits g c = λ n t. c.first_verb.ensures.fits n

pub returns-in-Datatype-clause-fits : goal.returns-in-Datatype-clause-fits
returns-in-Datatype-clause-fits g c = λ n t. c.take_datatype.ensures.fits n

pub returns-in-EndNode-clause-fits : goal.returns-in-EndNode-clause-fits
returns-in-EndNode-clause-fits g c = λ n t. c.end_node.ensures.fits n

pub returns-in-EndPropertyList-clause-fits : goal.returns-in-EndPropertyList-clause-fits
returns-in-EndPropertyList-clause-fits g c = λ n t. c.end_property_list.ensures.fits n

pub returns-in-EmptyCollection-clause-fits : goal.returns-in-EmptyCollection-clause-fits
returns-in-EmptyCollection-clause-fits g c = λ n t. c.empty_collection.ensures.fits n

pub returns-in-EndCollection-clause-fits : goal.returns-in-EndCollection-clause-fits
returns-in-EndCollection-clause-fits g c = λ n t. c.end_collection.ensures.fits n

pub returns-in-GraphBracket-clause-fits : goal.returns-in-GraphBracket-clause-fits
returns-in-GraphBracket-clause-fits g c = λ n t. c.take_bracket.ensures.fits n
