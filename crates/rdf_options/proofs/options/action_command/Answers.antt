use Rattle.std.proofs.Common.{◌∙◌, ap, subst, [], ◌∷◌}
use Rattle.std.proofs.lemmas.Result.{IfOk-weaker}
use Rattle.clap.specs.Words.{new_app, AddsArg, AddsInTurn}
use Rattle.clap.specs.Simple.{app_of_fields}
use Rattle.clap.specs.declared.builder.command.Command.{Command}
use Rattle.clap.specs.declared.builder.command.Command.TheOpen.{Command-F}
use Rattle.clap.specs.declared.builder.value_parser.ValueParser.TheVariants.{Names}
use Rattle.rdf_options.specs.Options.{base_rule, bindings_rule, depth_rule, explain_rule, format_rule, iri_rule, token_rule}
use Rattle.rdf_options.proofs.BuildLemmas.{HaveRules, with_arguments}
use Rattle.rdf_options.proofs.options.action_command.Goals as goal

pub returns : goal.returns
returns c r reads =
    let globals = ap (λ (f : Command-F Command). f.has_globals) c.after_help.ensures
    ∙ ap (λ (f : Command-F Command). f.has_globals) c.about.ensures ∙ c.new.ensures.local in
    let app = ap app_of_fields c.after_help.ensures ∙ ap app_of_fields c.about.ensures ∙ c.new.ensures.app in
    let arguments =
    c.format_option.result ∷ c.base_option.result ∷ c.token_option.result ∷ c.depth_option.result ∷ c.bindings_option.result ∷ c.iri_option.result
    ∷ c.explain_option.result ∷ c.args.reads ∷ [] in
    let rules = format_rule (Names c.args.formats) ∷ base_rule ∷ token_rule ∷ depth_rule ∷ bindings_rule ∷ iri_rule ∷ explain_rule ∷ r ∷ [] in
    let have : HaveRules arguments rules = (
      c.format_option.ensures,
      (
        c.base_option.ensures,
        (
          c.token_option.ensures,
          (
            c.depth_option.ensures,
            (
              c.bindings_option.ensures,
              (c.iri_option.ensures, (c.explain_option.ensures, (reads, tt))),
            ),
          ),
        ),
      ),
    ) in
    IfOk-weaker c.args-2.result _ _ (λ made added. with_arguments _ made arguments rules (new_app c.args.about.name.now)
    (subst (λ xs. AddsInTurn AddsArg c.after_help.result xs made) c.in_ok-arguments.ensures.items added) (globals, app) have)
    c.args-2.ensures
