use Rattle.rdf_stream.proofs.TokenWordsLemmas.{lawful}
use Rattle.rdf_stream.proofs.token_grammar.TokenGrammarGrammar.dialect.Goals as goal

pub returns-clause-lawful : goal.returns-clause-lawful
returns-clause-lawful g c = lawful g.T.Spoken.spoken
