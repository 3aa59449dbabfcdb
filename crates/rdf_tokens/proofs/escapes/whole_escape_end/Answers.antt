-- An escape of one kind.
use Rattle.rdf_tokens.proofs.Prelude.{inl, sym, ◌∙◌}
use Rattle.rdf_tokens.proofs.RestEscapes.{echar_of}
use Rattle.rdf_tokens.proofs.escapes.whole_escape_end.Goals as goal

pub returns-then-is_echar-clause-escape : goal.returns-then-is_echar-clause-escape
returns-then-is_echar-clause-escape c = inl (echar_of c.args.bytes.now c.args.at (sym c.is_echar.ensures ∙ c.if-is_echar.true))
