use Rattle.rdf_terms.proofs.Prelude.{◌-◌, length, string_bytes, inside_of, IsPutUpTo}
use Rattle.rdf_terms.proofs.values.put_row.Given as goal

abbrev pub invariant-loop-meant : goal.invariant-loop-meant
invariant-loop-meant g l = IsPutUpTo (inside_of l.inside) l.text (string_bytes l.fn.out) (string_bytes l.out) l.from l.at

abbrev pub decreases-loop-meant : goal.decreases-loop-meant
decreases-loop-meant g l = length l.text - l.at
