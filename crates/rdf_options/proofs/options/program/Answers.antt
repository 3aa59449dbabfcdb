use Rattle.std.proofs.Common.{◌∙◌, ap, true}
use Rattle.clap.specs.Simple.{app_of_fields, on_top}
use Rattle.rdf_options.proofs.options.program.Goals as goal

pub returns : goal.returns
returns c =
    let top = ap app_of_fields c.subcommand_required-command.ensures
    ∙ ap (on_top (λ s. record s { subcommand_required = true })) (ap app_of_fields c.after_help.ensures
    ∙ (ap app_of_fields c.version.ensures ∙ ap (on_top (λ s. record s { has_version = true })) (ap app_of_fields c.about.ensures ∙ c.new.ensures.app))) in
    let one = c.in_ok-command.ensures _ _ top c.check_command.ensures in
    let two = c.in_ok-command-2.ensures _ _ one c.show_command.ensures in
    c.add_action-3.ensures _ _ two c.convert_command.ensures
