-- A keyword is six letters, which are told in small.
use Rattle.rdf_iri.proofs.Prelude.{◌∙◌, ap, sym, ◌++◌, drop, map, to_ascii_lowercase, false≢true, take-append-drop}
use Rattle.rdf_iri.proofs.BindingLineLemmas.{keyword_from, keyword_lower, keyword_ascii}
use Rattle.rdf_iri.proofs.BindingLemmas.{after_ascii, keyword_cut, passed_none}
use Rattle.rdf_iri.proofs.binding_lines.after_keyword.Goals as goal

pub returns-in_err-keyword : goal.returns-in_err-keyword
returns-in_err-keyword c =
    passed_none c.from_residual.result _ _ c.from_residual.ensures
    (λ k rest m e. false≢true (c.in_err-keyword.ensures.variant.1 (keyword_cut c.args.text.now k rest c.utf8.text m e).0))

pub returns-then-eq_ignore_ascii_case : goal.returns-then-eq_ignore_ascii_case
returns-then-eq_ignore_ascii_case c =
    let k = c.in_ok-keyword.keyword.now in
    let rest = c.in_ok-keyword.rest.now in
    let m = keyword_from k (c.eq_ignore_ascii_case.ensures.test.0 c.if-eq_ignore_ascii_case.true) in
    let e = sym (take-append-drop 6 c.args.text.now) ∙ (ap (λ w. w ++ drop 6 c.args.text.now) (sym c.in_ok-keyword.ensures.front)
    ∙ ap (λ w. k ++ w) (sym c.in_ok-keyword.ensures.back)) in
    (k, m, (after_ascii c.args.text.now k rest (keyword_ascii k m) c.utf8.text e).chars)

pub returns-else-eq_ignore_ascii_case : goal.returns-else-eq_ignore_ascii_case
returns-else-eq_ignore_ascii_case c = λ k rest m e.
    let same = c.in_ok-keyword.ensures.front ∙ (keyword_cut c.args.text.now k rest c.utf8.text m e).1 in
    false≢true (sym c.if-eq_ignore_ascii_case.false ∙ c.eq_ignore_ascii_case.ensures.test.1 (ap (map to_ascii_lowercase) same ∙ keyword_lower k m))
