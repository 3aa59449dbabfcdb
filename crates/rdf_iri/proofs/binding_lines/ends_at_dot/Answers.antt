use Rattle.rdf_iri.proofs.Prelude.{◌∙◌, [], ◌∷◌, ap, sym, refl, subst, drop, arith, chars, encode_utf8_all, false≢true, strip_prefix_char, SaysNothing}
use Rattle.rdf_iri.proofs.BindingLineLemmas.{begins_there, token_there}
use Rattle.rdf_iri.proofs.BindingLemmas.{after_ascii, bytes_ascii}
use Rattle.rdf_iri.proofs.binding_lines.ends_at_dot.Goals as goal

pub returns-in-Some : goal.returns-in-Some
returns-in-Some c =
    let text = c.after_blanks.result.now in
    let cut = rw c.in-Some.is at (strip_prefix_char 46 text c.strip_prefix.result c.strip_prefix.ensures.cases (omega arith)) in
    let e = sym c.after_blanks.ensures ∙ (after_ascii text (46 ∷ []) c.in-Some.rest.now refl c.after_blanks.utf8 cut).chars in (
      λ t. (chars c.in-Some.rest.now, begins_there (chars c.args.text.now) (46 ∷ []) (chars c.in-Some.rest.now) e, c.says_nothing.ensures.0 t),
      λ d. c.says_nothing.ensures.1 (subst SaysNothing (ap (drop 1) (sym (token_there (chars c.args.text.now) 46 [] d.0 refl d.1) ∙ e)) d.2),
    )

pub returns-in-None : goal.returns-in-None
returns-in-None c =
    let text = c.after_blanks.result.now in
    let none = rw c.in-None.is at (strip_prefix_char 46 text c.strip_prefix.result c.strip_prefix.ensures.cases (omega arith)) in (
      λ t. absurd (false≢true t),
      λ d. absurd (none (encode_utf8_all d.0) (bytes_ascii text (46 ∷ []) d.0 refl c.after_blanks.utf8
          (c.after_blanks.ensures ∙ token_there (chars c.args.text.now) 46 [] d.0 refl d.1))),
    )
