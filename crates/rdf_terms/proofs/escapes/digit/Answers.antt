use Rattle.rdf_terms.proofs.Prelude.{subst, sym, ◌≤◌}
use Rattle.rdf_terms.proofs.CodeTables.{digit_most, table_digit}
use Rattle.rdf_terms.proofs.escapes.digit.Goals as goal

pub returns-clause-value : goal.returns-clause-value
returns-clause-value c = table_digit c.args.byte c.ranges.byte.fits

pub returns-clause-small : goal.returns-clause-small
returns-clause-small c = subst (λ n. n ≤ 65536) (sym (table_digit c.args.byte c.ranges.byte.fits)) (digit_most c.args.byte)
