-- The lines are those of the matches that clap's definition of this command line gives.
use Rattle.rdf_command.proofs.Prelude.{◌∙◌, ap, map, sym, lines_in}
use Rattle.rdf_command.proofs.EnterLemmas.{entered-at, enters-at}
use Rattle.rdf_command.proofs.commands.lines_by.Goals as goal

pub lines_in-lines-requires : goal.lines_in-lines-requires
lines_in-lines-requires c =
    let met = enters-at c.args.formats _ (map (λ s. s.now) c.args.words.now) _ c.subcommand.result c.unwrap.result c.in_ok-program.ensures
    c.in_ok-matches.ensures.kinds c.in_ok-matches.ensures.matches
    c.unwrap.ensures c.subcommand.ensures.name c.subcommand.ensures.rows in
    (entered-at c.args.formats c.requires (map (λ s. s.now) c.args.words.now) _ met.0 met.1).limits

pub returns : goal.returns
returns c =
    let met = enters-at c.args.formats _ (map (λ s. s.now) c.args.words.now) _ c.subcommand.result c.unwrap.result c.in_ok-program.ensures
    c.in_ok-matches.ensures.kinds c.in_ok-matches.ensures.matches
    c.unwrap.ensures c.subcommand.ensures.name c.subcommand.ensures.rows in
    c.in_ok-lines.ensures ∙ sym (ap (λ o. lines_in o c.args.fault.now) met.1)
