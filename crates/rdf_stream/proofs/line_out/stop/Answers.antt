use Rattle.rdf_stream.proofs.Prelude.{inr, rules, sym, ◌∙◌}
use Rattle.rdf_stream.proofs.LineOutLemmas.{sent_any}
use Rattle.rdf_stream.proofs.line_out.stop.Goals as goal

pub returns-in-Ok-clause-reports : goal.returns-in-Ok-clause-reports
returns-in-Ok-clause-reports g c = inr (
  c.from.ensures,
  record {
    live = sym c.failed.ensures ∙ c.if-failed.false;
    live_now = c.in-Ok.ensures.failed;
    taken = c.in-Ok.ensures.ok;
  },
)

pub returns-in-Ok-clause-sent : goal.returns-in-Ok-clause-sent
returns-in-Ok-clause-sent g c = sent_any c.from.result _ (search rules)
