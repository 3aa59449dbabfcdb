use Rattle.rdf_command.proofs.Prelude.{map, refl, rules}
use Rattle.clap.specs.declared.builder.value_parser.ValueParser.TheVariants.{Names}
use Rattle.rdf_command.proofs.BadIriLemmas.{told_by}
use Rattle.rdf_command.proofs.commands.lines_for.Goals as goal

pub returns-in_ok-ok-in-BadBase-clause-told : goal.returns-in_ok-ok-in-BadBase-clause-told
returns-in_ok-ok-in-BadBase-clause-told c =
    told_by (λ l. l.items) (Names c.as_slice.result) (map (λ s. s.now) c.args.words.now) c.args.fault.now c.lines_by.result
    c.in_ok-ok-in-BadBase.field-0 (c.as_slice.result, refl, search rules)
    c.in_ok-ok-in-BadBase.ensures.value c.lines_by.ensures
