use Rattle.rdf_lines.proofs.writer.digits.+place_digits.Given as goal

abbrev pub decreases-place_digits : goal.decreases-place_digits
decreases-place_digits l = l.n
