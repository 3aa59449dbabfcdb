-- A token in each mode outside of statements.
use Rattle.rdf_trig.proofs.state.State.outer_turn.Goals as goal

pub returns-in-Start-clause-means : goal.returns-in-Start-clause-means
returns-in-Start-clause-means g c = rw c.in-Start.is c.start.ensures.means

pub returns-in-Inside-clause-means : goal.returns-in-Inside-clause-means
returns-in-Inside-clause-means g c = rw c.in-Inside.is (c.inside.ensures.means c.args.form)

pub returns-in-WantDot-clause-means : goal.returns-in-WantDot-clause-means
returns-in-WantDot-clause-means g c = rw c.in-WantDot.is (c.want_dot.ensures.means c.args.form)

pub returns-in-GraphWord-clause-means : goal.returns-in-GraphWord-clause-means
returns-in-GraphWord-clause-means g c = rw c.in-GraphWord.is (c.graph_word.ensures.means c.args.form)

pub returns-in-GraphBracket-clause-means : goal.returns-in-GraphBracket-clause-means
returns-in-GraphBracket-clause-means g c = rw c.in-GraphBracket.is (c.graph_bracket.ensures.means c.args.form)

pub returns-in-WantBrace-clause-means : goal.returns-in-WantBrace-clause-means
returns-in-WantBrace-clause-means g c = rw c.in-WantBrace.is (c.want_brace.ensures.means c.args.form)
