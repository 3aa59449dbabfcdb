-- A colon or an escape.
use Rattle.rdf_tokens.proofs.Prelude.{◌∙◌, sym}
use Rattle.rdf_tokens.proofs.LocalLemmas.{colon_in, escape_in, percent_in}
use Rattle.rdf_tokens.proofs.local.symbol_end.Goals as goal

pub returns-then-stands_at : goal.returns-then-stands_at
returns-then-stands_at c = colon_in c.args.bytes.now c.args.at (sym c.stands_at.ensures ∙ c.if-stands_at.true)

pub returns-then-is_percent : goal.returns-then-is_percent
returns-then-is_percent c = percent_in c.args.bytes.now c.args.at (sym c.is_percent.ensures ∙ c.if-is_percent.true)

pub returns-then-is_escape : goal.returns-then-is_escape
returns-then-is_escape c = escape_in c.args.bytes.now c.args.at (sym c.is_escape.ensures ∙ c.if-is_escape.true)
