use Rattle.rdf_lines.proofs.Prelude.{◌≡◌, ◌∙◌, sym, ap, subst, Literal, Typed, xsd_string, any_iri, accept, is_accepted, mode_at, predicate_of}
use Rattle.rdf_lines.specs.States.{text_in}
use Rattle.rdf_lines.proofs.NextKinds.{text_then}
use Rattle.rdf_lines.proofs.state.State.may_come.Goals as goal

-- after a string, neither a tag nor `^^`
pub returns-in_default-kind : goal.returns-in_default-kind
returns-in_default-kind g c l =
    let r = c.args.self.now in
    let k = c.args.kind in
    subst (λ m. c.may_follow_object.result ≡ is_accepted (accept any_iri c.args.form (mode_at r m) k l)) (sym c.in-AfterString.is)
    (c.may_follow_object.ensures r.subject (predicate_of r) (Literal (text_in r) (Typed xsd_string)) l
    ∙ ap is_accepted (sym (text_then c.args.form r.subject (predicate_of r) (text_in r) k l c.in_default-kind.not-LangTag c.in_default-kind.not-Carets)))
