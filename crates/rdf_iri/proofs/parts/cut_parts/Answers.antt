use Rattle.rdf_iri.proofs.Prelude.{◌≡◌, ◌∙◌, ap, cond, List, ℕ, [], ◌∷◌, drop, Option, Some, None, parts_of, fragment_parts, query_parts, hierarchy_parts, text_of, before, after, from, begins}
use Rattle.rdf_iri.proofs.parts.cut_parts.Goals as goal

-- the steps of the code, one after another
cut_up : (text rest upper middle path : List ℕ) (s a q f : Option (List ℕ)) → fragment_parts s rest ≡ parts_of text →
    upper ≡ before 35 rest → f ≡ after 35 rest → middle ≡ before 63 upper → q ≡ after 63 upper →
    a ≡ cond (begins (47 ∷ 47 ∷ []) middle) (Some (before 47 (drop 2 middle))) None →
    path ≡ cond (begins (47 ∷ 47 ∷ []) middle) (from 47 (drop 2 middle)) middle →
    record { scheme = s; authority = a; path = path; query = q; fragment = f } ≡ parts_of text
cut_up text rest upper middle path s a q f h e1 e2 e3 e4 e5 e6 =
    ap (λ x. record { scheme = s; authority = x; path = path; query = q; fragment = f }) e5
    ∙ (ap (λ x. record {
      scheme = s;
      authority = cond (begins (47 ∷ 47 ∷ []) middle) (Some (before 47 (drop 2 middle))) None;
      path = x;
      query = q;
      fragment = f;
    }) e6
    ∙ (ap (λ x. hierarchy_parts s x f middle) e4
    ∙ (ap (λ x. hierarchy_parts s (after 63 upper) f x) e3
    ∙ (ap (λ x. query_parts s x upper) e2
    ∙ (ap (λ x. query_parts s (after 35 rest) x) e1 ∙ h)))))

pub returns : goal.returns
returns c =
    cut_up c.args.text.now c.cut_scheme.result.1.now c.cut.result.0.now c.cut-2.result.0.now c.cut_authority.result.1.now
    (text_of c.cut_scheme.result.0) (text_of c.cut_authority.result.0) (text_of c.cut-2.result.1) (text_of c.cut.result.1)
    c.cut_scheme.ensures c.cut.ensures.front c.cut.ensures.rest c.cut-2.ensures.front c.cut-2.ensures.rest
    c.cut_authority.ensures.authority c.cut_authority.ensures.path
