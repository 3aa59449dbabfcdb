use Rattle.std.proofs.lemmas.Result.{IfOk-weaker}
use Rattle.rdf_options.specs.Options.{files_rule}
use Rattle.rdf_options.proofs.BuildLemmas.{with_argument}
use Rattle.rdf_options.proofs.options.check_command.Goals as goal

pub returns : goal.returns
returns c =
    let first = with_argument _ _ _ _ _ c.in_ok-command-2.ensures (c.in_ok-command.ensures files_rule c.files_argument.ensures) c.prefixes_option.ensures in
    IfOk-weaker c.arg-2.result _ _ (λ made added. with_argument _ made _ _ _ added first c.skip_option.ensures)
    c.arg-2.ensures
