-- How many bytes the texts have that tokens spell.
use Rattle.rdf_lines.proofs.Prelude.{◌≡◌, ℕ, ◌*◌, ◌≤◌, List, length, drop, ap, arith, length-drop, byte_len}
use Rattle.rdf_terms.proofs.CharsLemmas.{few_bytes}

-- what is left of a token without some characters at its front has at most four bytes for each of the token's
pub rest_bytes : (n : ℕ) (w v : List ℕ) → v ≡ drop n w → byte_len v ≤ 4 * length w
rest_bytes n w v e = let a = few_bytes v in let size = ap length e in omega (arith, a, size, length-drop n w)
