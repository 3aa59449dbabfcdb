use Rattle.rdf_iri.proofs.Prelude.{subst, List, ℕ}
use Rattle.rdf_iri.proofs.BindingLemmas.{Blanks, begins_by_number}
use Rattle.rdf_iri.proofs.binding_lines.begins_blank.Goals as goal

pub returns : goal.returns
returns c =
    let b : Blanks c.as_bytes.result.now c.blanks_len.result =
    record { within = c.blanks_len.ensures.within; front = c.blanks_len.ensures.front; rest = c.blanks_len.ensures.rest } in
    begins_by_number c.args.text.now c.blanks_len.result c.utf8.text (subst (λ (w : List ℕ). Blanks w c.blanks_len.result) c.as_bytes.ensures.value b)
