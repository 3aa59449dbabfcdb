-- The words give the task, or are refused, as clap's definition of this command line says.
use Rattle.rdf_command.proofs.Prelude.{◌∙◌, ap, subst, map, List, IfErr-weaker, IfOk-weaker, fault_of, found_of, is_simple_and_free, rows_of, HasKind, passed_up, rdfconv}
use Rattle.clap.specs.Words.{App, Text}
use Rattle.clap.specs.declared.builder.value_parser.ValueParser.TheVariants.{Names}
use Rattle.rdf_command.proofs.EnterLemmas.{entered-at, enters-at, is_free}
use Rattle.rdf_command.proofs.GivenLemmas.{refused_by, refuses}
use Rattle.rdf_command.proofs.commands.command_by.Goals as goal

pub returns-in_err-matches-clause-refused : goal.returns-in_err-matches-clause-refused
returns-in_err-matches-clause-refused c =
    let app = c.in_ok-program.ensures in
    let words : List Text = map (λ s. s.now) c.args.words.now in
    let error = c.in_err-matches.field-0.0 in
    let kind = subst (λ (a : App). HasKind (fault_of a words) error) app
    (c.in_err-matches.ensures.kinds (ap is_simple_and_free app ∙ is_free (Names c.args.formats))) in
    passed_up c.from_residual-in_err-matches.result _ _ c.from_residual-in_err-matches.ensures.1 (refuses (rdfconv (Names c.args.formats)) words error kind)

pub task_of-task-requires : goal.task_of-task-requires
task_of-task-requires c =
    let met = enters-at c.args.formats _ (map (λ s. s.now) c.args.words.now) _ c.subcommand.result c.unwrap.result c.in_ok-program.ensures
    c.in_ok-matches.ensures.kinds c.in_ok-matches.ensures.matches
    c.unwrap.ensures c.subcommand.ensures.name c.subcommand.ensures.rows in
    entered-at c.args.formats c.requires (map (λ s. s.now) c.args.words.now) _ met.0 met.1

pub returns-clause-task : goal.returns-clause-task
returns-clause-task c =
    let met = enters-at c.args.formats _ (map (λ s. s.now) c.args.words.now) _ c.subcommand.result c.unwrap.result c.in_ok-program.ensures
    c.in_ok-matches.ensures.kinds c.in_ok-matches.ensures.matches
    c.unwrap.ensures c.subcommand.ensures.name c.subcommand.ensures.rows in
    IfOk-weaker c.task_of-task.result _ _ (λ task h. record {
      entered = (c.unwrap.result.0.now, rows_of (found_of c.unwrap.result.1.now));
      taken = met.0;
      matches = met.1;
      holds = h;
    }) c.task_of-task.ensures.task

pub returns-clause-refused : goal.returns-clause-refused
returns-clause-refused c =
    let met = enters-at c.args.formats _ (map (λ s. s.now) c.args.words.now) _ c.subcommand.result c.unwrap.result c.in_ok-program.ensures
    c.in_ok-matches.ensures.kinds c.in_ok-matches.ensures.matches
    c.unwrap.ensures c.subcommand.ensures.name c.subcommand.ensures.rows in
    IfErr-weaker c.task_of-task.result _ _ (λ fault h. refused_by (rdfconv (Names c.args.formats))
    (map (λ s. s.now) c.args.words.now) _ fault met.0 met.1 h) c.task_of-task.ensures.refused
