use Rattle.rdf_lines.proofs.EscapedParts.{no_blanks, blanks_on, blanks_text}
use Rattle.rdf_lines.proofs.escaped.after_blanks.Goals as goal

pub blanks-init : goal.blanks-init
blanks-init c = no_blanks c.args.text.now

pub after_blank_at-requires-text-text : goal.after_blank_at-requires-text-text
after_blank_at-requires-text-text c κs = blanks_text c.args.text.now c.blanks.rest.now c.utf8.text c.blanks.invariant

pub blanks-preserved : goal.blanks-preserved
blanks-preserved c = blanks_on c.args.text.now c.blanks.rest.now c.in-Some.more.now c.blanks.invariant c.in-Some.ensures

pub returns-in-None-text : goal.returns-in-None-text
returns-in-None-text c = blanks_text c.args.text.now c.blanks.rest.now c.utf8.text c.blanks.invariant
