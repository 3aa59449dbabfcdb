use Rattle.rdf_lines.proofs.Prelude.{ap, ◌∙◌, arith, false, is_clear}
use Rattle.rdf_lines.proofs.EscapedParts.{near_clear, take_shorter}
use Rattle.rdf_lines.proofs.escaped.string_end.Goals as goal

pub returns-clause-clear : goal.returns-clause-clear
returns-clause-clear c = near_clear c.args.bytes.now c.clear_front.result _ c.clear_front.ensures.within c.clear_front.ensures.clear

pub clear_front-requires-clause-clear : goal.clear_front-requires-clause-clear
clear_front-requires-clause-clear c =
    let here = c.if-from-ge-LONGEST.false in
    let within = c.requires.within in
    let least = c.min.ensures in
    ap (is_clear false) (take_shorter c.args.bytes.now c.args.from c.min.result (omega (arith, here, within, least))) ∙ c.requires.clear
