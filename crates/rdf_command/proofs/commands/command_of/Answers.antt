use Rattle.rdf_command.proofs.Prelude.{refl, rules, IfErr-weaker, IfOk-weaker}
use Rattle.clap.specs.declared.builder.value_parser.ValueParser.TheVariants.{Names}
use Rattle.rdf_command.proofs.commands.command_of.Goals as goal

pub returns-clause-task : goal.returns-clause-task
returns-clause-task c = IfOk-weaker c.command_by.result _ _
    (λ task h. (Names c.as_slice.result, (c.as_slice.result, refl, search rules), h)) c.command_by.ensures.task

pub returns-clause-refused : goal.returns-clause-refused
returns-clause-refused c = IfErr-weaker c.command_by.result _ _
    (λ fault h. (Names c.as_slice.result, (c.as_slice.result, refl, search rules), h)) c.command_by.ensures.refused
