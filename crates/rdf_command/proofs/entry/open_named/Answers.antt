-- The name that is given back is the word for the file.
use Rattle.rdf_command.proofs.Prelude.{◌≡◌, ◌∙◌, Some, ap, subst, sym, name_by}
use Rattle.rdf_command.proofs.entry.open_named.Goals as goal

pub returns-in-Err-clause-shut : goal.returns-in-Err-clause-shut
returns-in-Err-clause-shut g c =
    let h = c.in-Err.ensures.shut in
    let named : c.name_by.result.now ≡ h.0 = c.name_by.ensures ∙ ap name_by h.1 in
    (h.1 ∙ ap Some (sym named), subst (g.H.Host.is_shut c.args.host.now) (sym named) h.2)
