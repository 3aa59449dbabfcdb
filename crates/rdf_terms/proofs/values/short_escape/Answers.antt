use Rattle.rdf_terms.proofs.Prelude.{ℕ, Option, sym, subst, IfSome, inside_of, IsRead, leads, outside}
use Rattle.rdf_terms.proofs.UcharLemmas.{short_reads}
use Rattle.rdf_terms.proofs.values.short_escape.Goals as goal

pub returns-clause-read : goal.returns-clause-read
returns-clause-read c =
    let i = inside_of c.args.inside in
    let bs = c.args.text.now in
    let at = c.args.at in
    subst (λ (r : Option (ℕ × ℕ)). IfSome r (λ (x : ℕ × ℕ). IsRead i (leads outside) bs at x.0 x.1)) (sym c.allowed.ensures)
    (short_reads i bs at c.short_uchar.result c.requires.utf8 c.short_uchar.ensures)
