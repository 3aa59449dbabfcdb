-- An IRI is cut off behind its blanks, at its brackets.
use Rattle.rdf_iri.proofs.Prelude.{◌∙◌, [], ◌∷◌, ◌++◌, ap, sym, refl, subst, arith, chars, encode_utf8_all, false≢true, strip_prefix_char, IsIri, text_of}
use Rattle.rdf_iri.proofs.BindingLineLemmas.{iri_there}
use Rattle.rdf_iri.proofs.BindingLemmas.{after_ascii, bytes_ascii, at_mark, is_iri, iri_cut, no_mark, passed_none}
use Rattle.rdf_iri.proofs.binding_lines.iri_in.Goals as goal
use Rattle.rdf_iri.proofs.binding_lines.iri_in.Goals.{else-iri_text-via-then-iri_text+else-has_scheme, else-iri_text-via-else-iri_text}

pub returns-in_err-strip_prefix : goal.returns-in_err-strip_prefix
returns-in_err-strip_prefix c = passed_none c.from_residual.result _ _ c.from_residual.ensures (λ j n b.
    let none = rw c.in_err-strip_prefix.was
    at (strip_prefix_char 60 c.after_blanks.result.now c.strip_prefix.result c.strip_prefix.ensures.cases (omega arith)) in
    none (encode_utf8_all (j ++ 62 ∷ n))
    (bytes_ascii c.after_blanks.result.now (60 ∷ []) (j ++ 62 ∷ n) refl c.after_blanks.utf8
    (c.after_blanks.ensures ∙ iri_there (chars c.args.text.now) j n b.reference)))

pub returns-then-has_scheme : goal.returns-then-has_scheme
returns-then-has_scheme c =
    let cut = rw c.in_ok-strip_prefix.was
    at (strip_prefix_char 60 c.after_blanks.result.now c.strip_prefix.result c.strip_prefix.ensures.cases (omega arith)) in
    let inside = c.in_ok-strip_prefix.field-0.now in
    let a = after_ascii c.after_blanks.result.now (60 ∷ []) inside refl c.after_blanks.utf8 cut in
    is_iri (chars c.args.text.now) inside c.cut.result.0.now c.in-Some.rest.now (sym c.after_blanks.ensures ∙ a.chars)
    (at_mark 62 inside c.cut.result.0.now c.in-Some.rest.now (omega arith) a.utf8 c.cut.ensures.front (sym (ap text_of c.in-Some.is) ∙ c.cut.ensures.rest))
    (record { characters = sym c.iri_text.ensures ∙ c.if-iri_text.true; scheme = sym c.has_scheme.ensures ∙ c.if-has_scheme.true })

pub returns-else-iri_text : goal.returns-else-iri_text
returns-else-iri_text c =
    let cut = rw c.in_ok-strip_prefix.was
    at (strip_prefix_char 60 c.after_blanks.result.now c.strip_prefix.result c.strip_prefix.ensures.cases (omega arith)) in
    let inside = c.in_ok-strip_prefix.field-0.now in
    let a = after_ascii c.after_blanks.result.now (60 ∷ []) inside refl c.after_blanks.utf8 cut in
    let m = at_mark 62 inside c.cut.result.0.now c.in-Some.rest.now (omega arith) a.utf8 c.cut.ensures.front
    (sym (ap text_of c.in-Some.is) ∙ c.cut.ensures.rest) in
    elim c.else-iri_text.branch [
      | else-iri_text-via-then-iri_text+else-has_scheme w ↦ λ j n b.
          let same = m.ahead ∙ (iri_cut (chars c.args.text.now) inside j n (sym c.after_blanks.ensures ∙ a.chars) b).0 in
          false≢true (sym w.if-has_scheme.false ∙ (w.has_scheme.ensures ∙ (subst IsIri (sym same) b.absolute).scheme))
      | else-iri_text-via-else-iri_text w ↦ λ j n b.
          let same = m.ahead ∙ (iri_cut (chars c.args.text.now) inside j n (sym c.after_blanks.ensures ∙ a.chars) b).0 in
          false≢true (sym w.if-iri_text.false ∙ (c.iri_text.ensures ∙ (subst IsIri (sym same) b.absolute).characters))
    ]

pub returns-in-None : goal.returns-in-None
returns-in-None c = λ j n b.
    let cut = rw c.in_ok-strip_prefix.was
    at (strip_prefix_char 60 c.after_blanks.result.now c.strip_prefix.result c.strip_prefix.ensures.cases (omega arith)) in
    let inside = c.in_ok-strip_prefix.field-0.now in
    let a = after_ascii c.after_blanks.result.now (60 ∷ []) inside refl c.after_blanks.utf8 cut in
    let none = no_mark 62 inside (omega arith) a.utf8 (sym (ap text_of c.in-None.is) ∙ c.cut.ensures.rest) in
    let some = (iri_cut (chars c.args.text.now) inside j n (sym c.after_blanks.ensures ∙ a.chars) b).1 in
    absurd (cc)
