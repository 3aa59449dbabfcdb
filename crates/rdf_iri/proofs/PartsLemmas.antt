-- `parts_of` gives the only parts that split a text.
use Rattle.rdf_iri.proofs.Prelude.{◌≡◌, ◌≢◌, ℕ, true, false, cond, List, [], ◌∷◌, ◌++◌, ◌==◌, drop, Option, Some, None, refl, sym, ap, ◌∙◌, subst, ⊎_elim, arith, unwrap_or, is_some, MatchOption, ⊤, cases_Bool, cond-true, cond-false, false≢true, false_from_ne_true, Lacks, BeginsWith, begins, before, after, from, Parts, Splits, IsAuthority, with_scheme, with_authority, suffix, parts_of, hierarchy_parts, query_parts, fragment_parts, has_scheme}
use Rattle.rdf_iri.proofs.TextsLemmas.{cut_suffix, cut_whole, cut_at, before-lacks, before-keeps, from-keeps, from-starts, before-from, StartsAt, Lacks-append, begins-true, begins-from, has_scheme-after}

-- an answer that is there is there
found : (o : Option (List ℕ)) → is_some o ≡ true → o ≡ Some (unwrap_or o [])
found None h = absurd (false≢true h)
found (Some w) h = refl

-- a text with a scheme is the scheme, ":" and the rest
pub has_scheme-splits : (w : List ℕ) → has_scheme w ≡ true → w ≡ before 58 w ++ 58 ∷ unwrap_or (after 58 w) []
has_scheme-splits w h = sym (cut_whole 58 w) ∙ ap (λ x. before 58 w ++ suffix 58 x) (found (after 58 w) (has_scheme-after w h))

-- Only these parts.
pub same_hierarchy : (s q f a : Option (List ℕ)) (path : List ℕ) →
    MatchOption a (BeginsWith (47 ∷ 47 ∷ []) path → ⊥) (λ a. IsAuthority a × StartsAt 47 path) →
    hierarchy_parts s q f (with_authority a path) ≡ record { scheme = s; authority = a; path = path; query = q; fragment = f }
same_hierarchy s q f None path h =
    let e : begins (47 ∷ 47 ∷ []) path ≡ false = false_from_ne_true _ (λ t. h (drop 2 path, begins-true (47 ∷ 47 ∷ []) path t)) in
    ap (λ x. record { scheme = s; authority = x; path = cond (begins (47 ∷ 47 ∷ []) path) (from 47 (drop 2 path)) path; query = q; fragment = f })
    (cond-false (begins (47 ∷ 47 ∷ []) path) (Some (before 47 (drop 2 path))) None e)
    ∙ ap (λ x. record { scheme = s; authority = None; path = x; query = q; fragment = f })
    (cond-false (begins (47 ∷ 47 ∷ []) path) (from 47 (drop 2 path)) path e)
same_hierarchy s q f (Some a) path h =
    let r = cut_at 47 a path h.0.0 h.1 in
    ap (λ x. record { scheme = s; authority = Some x; path = from 47 (a ++ path); query = q; fragment = f }) r.0
    ∙ ap (λ x. record { scheme = s; authority = Some a; path = x; query = q; fragment = f }) r.1

-- authority and path have no delimiter of a later part
hierarchy-lacks : (c : ℕ) (a : Option (List ℕ)) (path : List ℕ) → 47 ≢ c → Lacks c path → MatchOption a ⊤ (Lacks c) → Lacks c (with_authority a path)
hierarchy-lacks c None path n l m = l
hierarchy-lacks c (Some a) path n l m = (n, (n, Lacks-append c a path m l))

-- a query or fragment has no delimiter of a later part
suffix-lacks : (c d : ℕ) (q : Option (List ℕ)) → d ≢ c → MatchOption q ⊤ (Lacks c) → Lacks c (suffix d q)
suffix-lacks c d None n m = tt
suffix-lacks c d (Some q) n m = (n, m)

-- an authority has neither "?" nor "#"
authority-lacks : (a : Option (List ℕ)) (P : Type 0) (Q : List ℕ → Type 0) → MatchOption a P (λ a. IsAuthority a × Q a) →
    MatchOption a ⊤ (Lacks 63) × MatchOption a ⊤ (Lacks 35)
authority-lacks None P Q m = (tt, tt)
authority-lacks (Some a) P Q m = (m.0.1, m.0.2)

-- parts that are put together are cut into the same parts
with_fragment : (text : List ℕ) (p : Parts) → Splits text p →
    fragment_parts p.scheme ((with_authority p.authority p.path ++ suffix 63 p.query) ++ suffix 35 p.fragment) ≡ p
with_fragment text p s =
    let l = authority-lacks p.authority _ _ s.authority in
    let h = with_authority p.authority p.path in
    let lq : Lacks 63 h = hierarchy-lacks 63 p.authority p.path (λ e. absurd (omega (arith, e))) s.path.0 l.0 in
    let lf : Lacks 35 h = hierarchy-lacks 35 p.authority p.path (λ e. absurd (omega (arith, e))) s.path.1 l.1 in
    let w = h ++ suffix 63 p.query in
    let lw : Lacks 35 w = Lacks-append 35 h (suffix 63 p.query) lf (suffix-lacks 35 63 p.query (λ e. absurd (omega (arith, e))) s.query) in
    let f = cut_suffix 35 w p.fragment lw in
    let q = cut_suffix 63 h p.query lq in
    ap (λ x. query_parts p.scheme x (before 35 (w ++ suffix 35 p.fragment))) f.1
    ∙ (ap (λ x. query_parts p.scheme p.fragment x) f.0
    ∙ (ap (λ x. hierarchy_parts p.scheme x p.fragment (before 63 w)) q.1
    ∙ (ap (λ x. hierarchy_parts p.scheme p.query p.fragment x) q.0
    ∙ same_hierarchy p.scheme p.query p.fragment p.authority p.path s.authority)))

-- the scheme that splits a text is the one that is found
only_scheme : (text rest : List ℕ) (s : Option (List ℕ)) → MatchOption s (has_scheme text ≡ false) (λ s. (has_scheme text ≡ true) × Lacks 58 s) →
    with_scheme s rest ≡ text → parts_of text ≡ fragment_parts s rest
unfolding parts_of
only_scheme text rest None m e =
    cond-false (has_scheme text) _ (fragment_parts None text) m ∙ ap (fragment_parts None) (sym e)
only_scheme text rest (Some s) m e =
    let r = cut_suffix 58 s (Some rest) m.1 in
    let b : before 58 text ≡ s = ap (before 58) (sym e) ∙ r.0 in
    let a : after 58 text ≡ Some rest = ap (after 58) (sym e) ∙ r.1 in
    cond-true (has_scheme text) (fragment_parts (Some (before 58 text)) (unwrap_or (after 58 text) [])) (fragment_parts None text) m.0
    ∙ (ap (λ x. fragment_parts (Some x) (unwrap_or (after 58 text) [])) b ∙ ap (λ x. fragment_parts (Some s) (unwrap_or x [])) a)

-- parts that split the text are those that the function gives
pub only_parts : (text : List ℕ) (p : Parts) → Splits text p → p ≡ parts_of text
only_parts text p s =
    sym (only_scheme text ((with_authority p.authority p.path ++ suffix 63 p.query) ++ suffix 35 p.fragment) p.scheme s.scheme s.whole ∙ with_fragment text p s)

-- These parts split the text.
record Kept (rest : List ℕ) (p : Parts) : Type 0 where
  pub whole : (with_authority p.authority p.path ++ suffix 63 p.query) ++ suffix 35 p.fragment ≡ rest
  pub authority : MatchOption p.authority (BeginsWith (47 ∷ 47 ∷ []) p.path → ⊥) (λ a. IsAuthority a × StartsAt 47 p.path)
  pub path : Lacks 63 p.path × Lacks 35 p.path
  pub query : MatchOption p.query ⊤ (λ q. Lacks 35 q)

-- authority and path that are cut split the text
hierarchy_kept : (s q f : Option (List ℕ)) (w : List ℕ) → Lacks 63 w → Lacks 35 w → MatchOption q ⊤ (Lacks 35) →
    Kept ((w ++ suffix 63 q) ++ suffix 35 f) (hierarchy_parts s q f w)
hierarchy_kept s q f w lq lf mq =
    ⊎_elim
    (λ (t : begins (47 ∷ 47 ∷ []) w ≡ true).
    let v = drop 2 w in
    let whole : w ≡ 47 ∷ 47 ∷ v = begins-true (47 ∷ 47 ∷ []) w t in
    let lq' : Lacks 63 v = (subst (Lacks 63) whole lq).1.1 in
    let lf' : Lacks 35 v = (subst (Lacks 35) whole lf).1.1 in
    let p : Parts = record { scheme = s; authority = Some (before 47 v); path = from 47 v; query = q; fragment = f } in
    let same : p ≡ hierarchy_parts s q f w =
    ap (λ x. record { scheme = s; authority = x; path = from 47 v; query = q; fragment = f })
    (sym (cond-true (begins (47 ∷ 47 ∷ []) w) (Some (before 47 v)) None t))
    ∙ ap (λ x. record { scheme = s; authority = cond (begins (47 ∷ 47 ∷ []) w) (Some (before 47 v)) None; path = x; query = q; fragment = f })
    (sym (cond-true (begins (47 ∷ 47 ∷ []) w) (from 47 v) w t)) in
    let k : Kept ((w ++ suffix 63 q) ++ suffix 35 f) p = record {
      whole = ap (λ x. (x ++ suffix 63 q) ++ suffix 35 f) (ap (λ x. 47 ∷ 47 ∷ x) (before-from 47 v) ∙ sym whole);
      authority = ((before-lacks 47 v, before-keeps 63 47 v lq', before-keeps 35 47 v lf'), from-starts 47 v);
      path = (from-keeps 63 47 v lq', from-keeps 35 47 v lf');
      query = mq;
    } in
    subst (Kept ((w ++ suffix 63 q) ++ suffix 35 f)) same k)
    (λ (t : begins (47 ∷ 47 ∷ []) w ≡ false).
    let p : Parts = record { scheme = s; authority = None; path = w; query = q; fragment = f } in
    let same : p ≡ hierarchy_parts s q f w =
    ap (λ x. record { scheme = s; authority = x; path = w; query = q; fragment = f })
    (sym (cond-false (begins (47 ∷ 47 ∷ []) w) (Some (before 47 (drop 2 w))) None t))
    ∙ ap (λ x. record { scheme = s; authority = cond (begins (47 ∷ 47 ∷ []) w) (Some (before 47 (drop 2 w))) None; path = x; query = q; fragment = f })
    (sym (cond-false (begins (47 ∷ 47 ∷ []) w) (from 47 (drop 2 w)) w t)) in
    let k : Kept ((w ++ suffix 63 q) ++ suffix 35 f) p = record {
      whole = refl;
      authority = λ b. false≢true (sym t ∙ begins-from (47 ∷ 47 ∷ []) w b.0 b.1);
      path = (lq, lf);
      query = mq;
    } in
    subst (Kept ((w ++ suffix 63 q) ++ suffix 35 f)) same k)
    (cases_Bool (begins (47 ∷ 47 ∷ []) w))

-- what a text lacks is lacking after a cut
after-keeps : (k c : ℕ) (w : List ℕ) → Lacks k w → MatchOption (after c w) ⊤ (Lacks k)
after-keeps k c [] l = tt
after-keeps k c (d ∷ w) l =
    ⊎_elim
    (λ h. subst (λ o. MatchOption o ⊤ (Lacks k)) (sym (cond-true (d == c) (Some w) (after c w) h)) l.1)
    (λ h. subst (λ o. MatchOption o ⊤ (Lacks k)) (sym (cond-false (d == c) (Some w) (after c w) h)) (after-keeps k c w l.1))
    (cases_Bool (d == c))

-- query and fragment that are cut split the text
fragment_kept : (s : Option (List ℕ)) (rest : List ℕ) → Kept rest (fragment_parts s rest)
fragment_kept s rest =
    let w = before 35 rest in
    let l : Lacks 35 w = before-lacks 35 rest in
    let h = before 63 w in
    let k = hierarchy_kept s (after 63 w) (after 35 rest) h (before-lacks 63 w) (before-keeps 35 63 w l) (after-keeps 35 63 w l) in
    subst (λ x. Kept x (fragment_parts s rest)) (ap (λ x. x ++ suffix 35 (after 35 rest)) (cut_whole 63 w) ∙ cut_whole 35 rest) k

-- the parts that are cut after the scheme split the text, with the scheme
splits_from : (text rest : List ℕ) (s : Option (List ℕ)) → MatchOption s (has_scheme text ≡ false) (λ s. (has_scheme text ≡ true) × Lacks 58 s) →
    with_scheme s rest ≡ text → Splits text (fragment_parts s rest)
splits_from text rest s m e =
    let k = fragment_kept s rest in
    record { whole = ap (with_scheme s) k.whole ∙ e; scheme = m; authority = k.authority; path = k.path; query = k.query }

-- the parts that are computed split the text
pub parts_split : (text : List ℕ) → Splits text (parts_of text)
unfolding parts_of
parts_split text =
    ⊎_elim
    (λ t. subst (Splits text) (sym (cond-true (has_scheme text) (fragment_parts (Some (before 58 text)) (unwrap_or (after 58 text) []))
    (fragment_parts None text) t))
    (splits_from text (unwrap_or (after 58 text) []) (Some (before 58 text)) (t, before-lacks 58 text) (sym (has_scheme-splits text t))))
    (λ t. subst (Splits text) (sym (cond-false (has_scheme text) (fragment_parts (Some (before 58 text)) (unwrap_or (after 58 text) []))
    (fragment_parts None text) t))
    (splits_from text text None t refl))
    (cases_Bool (has_scheme text))
