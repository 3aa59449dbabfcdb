-- A token is put but where it is the end, and what its put answers is what is answered.
use Rattle.rdf_stream.proofs.Prelude.{sym, ap, ◌∙◌, Err, token_of}
use Rattle.rdf_stream.proofs.TokenWordsLemmas.{gives_up, not_failed, takes_end, takes_token}
use Rattle.rdf_stream.proofs.token_grammar.TokenGrammarAcceptsLineOut.accept.Goals as goal

pub returns-then-is_end-clause-ok : goal.returns-then-is_end-clause-ok
returns-then-is_end-clause-ok g c = takes_end _ (λ before token after. Unit) g.T.Spoken.spoken c.args.self.now (token_of c.args.token.now) _
    (sym c.is_end.ensures ∙ c.if-is_end.true)

pub returns-in-Ok-clause-ok : goal.returns-in-Ok-clause-ok
returns-in-Ok-clause-ok g c = takes_token _ (λ before token after. Unit) g.T.Spoken.spoken c.args.self.now (token_of c.args.token.now) _ _
    (sym c.is_end.ensures ∙ c.if-is_end.false) (record { formed = tt; put = c.in-Ok.ensures.taken })

pub returns-in-Err-Memory-clause-err : goal.returns-in-Err-Memory-clause-err
returns-in-Err-Memory-clause-err g c = (
  gives_up _ _ g.T.Spoken.spoken c.args.self.now (token_of c.args.token.now) _ _ (sym c.is_end.ensures ∙ c.if-is_end.false)
      (record { formed = tt; left = c.in-Err-Memory.ensures.left }),
  not_failed _ _ c.put_token.ensures.device (c.in-Err-Memory.is ∙ ap Err c.in-Err-Memory.field-0-is),
)

pub returns-in-Err-Device-clause-err : goal.returns-in-Err-Device-clause-err
returns-in-Err-Device-clause-err g c = (
  gives_up _ _ g.T.Spoken.spoken c.args.self.now (token_of c.args.token.now) _ _ (sym c.is_end.ensures ∙ c.if-is_end.false)
      (record { formed = tt; left = c.in-Err-Device.ensures.left }),
  c.put_token.ensures.device.1 (c.in-Err-Device.is ∙ ap Err c.in-Err-Device.field-0-is),
)
