use Rattle.rdf_command.proofs.Prelude.{◌≡◌, inl, map, rules, string_bytes, subst, sym, IfErr-weaker, IfOk-weaker}
use Rattle.rdf_command.proofs.entry.task_of.Goals as goal

pub returns-in-Ok-texts_of-clause-task : goal.returns-in-Ok-texts_of-clause-task
returns-in-Ok-texts_of-clause-task g c =
    let same : map (λ text. text.now) c.as_slice-in-Ok-texts_of.result.now ≡ map string_bytes c.in-Ok.words.items = search rules in
    let are = subst (g.H.Host.has_words c.args.host.now) (sym same) c.in-Ok.ensures.words in
    IfOk-weaker c.task_in.result _ _ (λ task h. (_, are, h)) c.task_in.ensures.task

pub returns-in-Ok-texts_of-clause-refused : goal.returns-in-Ok-texts_of-clause-refused
returns-in-Ok-texts_of-clause-refused g c =
    let same : map (λ text. text.now) c.as_slice-in-Ok-texts_of.result.now ≡ map string_bytes c.in-Ok.words.items = search rules in
    let are = subst (g.H.Host.has_words c.args.host.now) (sym same) c.in-Ok.ensures.words in
    IfErr-weaker c.task_in.result _ _ (λ refusal h. (h.0, inl (_, are, h.1, h.2), h.3)) c.task_in.ensures.refused
