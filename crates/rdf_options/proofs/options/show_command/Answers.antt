use Rattle.rdf_options.specs.Options.{file_rule}
use Rattle.rdf_options.proofs.options.show_command.Goals as goal

pub returns : goal.returns
returns c = c.action_command.ensures file_rule c.file_argument.ensures
