use Rattle.std.proofs.lemmas.Result.{IfOk-weaker}
use Rattle.rdf_options.specs.Options.{file_rule}
use Rattle.rdf_options.proofs.BuildLemmas.{with_argument}
use Rattle.rdf_options.proofs.options.convert_command.Goals as goal

pub returns : goal.returns
returns c =
    let first = with_argument _ _ _ _ _ c.in_ok-command-2.ensures (c.in_ok-command.ensures file_rule c.file_argument.ensures) c.prefixes_option.ensures in
    let second = with_argument _ _ _ _ _ c.in_ok-command-3.ensures first c.ascii_option.ensures in
    let third = with_argument _ _ _ _ _ c.in_ok-command-4.ensures second c.node_prefix_option.ensures in
    let fourth = with_argument _ _ _ _ _ c.in_ok-command-5.ensures third c.graph_option.ensures in
    let fifth = with_argument _ _ _ _ _ c.in_ok-command-6.ensures fourth c.output_option.ensures in
    IfOk-weaker c.arg-6.result _ _ (λ made added. with_argument _ made _ _ _ added fifth c.skip_option.ensures)
    c.arg-6.ensures
