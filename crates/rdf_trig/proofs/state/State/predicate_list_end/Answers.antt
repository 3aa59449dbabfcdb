use Rattle.rdf_trig.proofs.state.State.predicate_list_end.Goals as goal

pub returns-in-Statement-clause-means : goal.returns-in-Statement-clause-means
returns-in-Statement-clause-means g c = rw c.in-Statement.is (c.statement_end.ensures.means c.args.self.now.frame.subject)
