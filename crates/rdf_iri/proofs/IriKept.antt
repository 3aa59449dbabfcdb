-- What is resolved from texts whose characters pass a test passes it, and keeps the base's scheme.
use Rattle.rdf_iri.proofs.Prelude.{◌≡◌, ℕ, zero, suc, Bool, true, false, List, [], ◌∷◌, ◌++◌, ◌==◌, Option, Some, None, refl, sym, ap, ◌∙◌, subst, ⊎_elim, MatchOption, ⊤, codes, and_parts, and_from, cases_Bool, cond-true, cond-false, append-nil, all_have, has_scheme, Lacks, Parts, recompose, with_scheme, with_authority, suffix, parts_of, Walk, walk, Step, RuleA, RuleB, RuleC, RuleD, RuleE, FirstOf, ReplacedBySlash, LastSegmentRemoved, Ends, remove_dots, has_slash, parent, target, authority_target, path_target, joined, merge_onto, directory, or_else}
use Rattle.rdf_iri.proofs.DotsLemmas.{dots_removed, parent_removes}
use Rattle.rdf_iri.proofs.TextsLemmas.{has_scheme-colon}
use Rattle.rdf_iri.proofs.PartsLemmas.{parts_split}

-- a test that holds for two texts holds for both together
pub all_have-append : (test : ℕ → Bool) (u v : List ℕ) → all_have test u ≡ true → all_have test v ≡ true → all_have test (u ++ v) ≡ true
all_have-append test [] v p q = q
all_have-append test (c ∷ u) v p q = let h = and_parts (test c) (all_have test u) p in and_from (test c) _ h.0 (all_have-append test u v h.1 q)

-- a test that holds for two texts together holds for the first
all_have-left : (test : ℕ → Bool) (u v : List ℕ) → all_have test (u ++ v) ≡ true → all_have test u ≡ true
all_have-left test [] v p = refl
all_have-left test (c ∷ u) v p = let h = and_parts (test c) (all_have test (u ++ v)) p in and_from (test c) _ h.0 (all_have-left test u v h.1)

-- a test that holds for two texts together holds for the second
all_have-right : (test : ℕ → Bool) (u v : List ℕ) → all_have test (u ++ v) ≡ true → all_have test v ≡ true
all_have-right test [] v p = p
all_have-right test (c ∷ u) v p = all_have-right test u v (and_parts (test c) (all_have test (u ++ v)) p).1

-- the characters that are written between parts pass the test
pub record Delimits (test : ℕ → Bool) : Type 0 where
  pub slash : test 47 ≡ true
  pub colon : test 58 ≡ true
  pub question : test 63 ≡ true
  pub hash : test 35 ≡ true

module _ (test : ℕ → Bool) (d : Delimits test) where
  abbrev pub Good : List ℕ → Type 0
  Good w = all_have test w ≡ true

  -- two texts in a row pass the test where each does
  Good-append : (u v : List ℕ) → Good u → Good v → Good (u ++ v)
  Good-append u v p q = all_have-append test u v p q

  -- so does a text with one character more in front
  Good-cons : (c : ℕ) (w : List ℕ) → test c ≡ true → Good w → Good (c ∷ w)
  Good-cons c w b p = and_from (test c) _ b p

  -- of a text that passes, what stands before a character does
  Good-before : (u v : List ℕ) (c : ℕ) → Good (u ++ c ∷ v) → Good u
  Good-before u v c p = all_have-left test u (c ∷ v) p

  -- so does what follows its first character
  Good-tail : (c : ℕ) (w : List ℕ) → Good (c ∷ w) → Good w
  Good-tail c w p = (and_parts (test c) (all_have test w) p).1

  -- and what follows any character
  Good-after : (u v : List ℕ) (c : ℕ) → Good (u ++ c ∷ v) → Good v
  Good-after u v c p = Good-tail c v (all_have-right test u (c ∷ v) p)

  -- each step of the removal of dots
  record BothGood (s : Walk) : Type 0 where
    pub input : Good s.input
    pub output : Good s.output

  -- a slash may be written in front
  from_slash : (w : List ℕ) → Good w → Good (47 ∷ w)
  from_slash w p = Good-cons 47 w d.slash p

  -- or stand alone
  only_slash : Good (47 ∷ [])
  only_slash = from_slash [] refl

  -- rule A drops dots and a slash in front
  A-good : (s t : Walk) → RuleA s t → BothGood s → BothGood t
  A-good s t r p = record {
    input = ⊎_elim
        (λ (h : s.input ≡ codes "../" ++ t.input). all_have-right test (codes "../") t.input (subst Good h p.input))
        (λ (h : s.input ≡ codes "./" ++ t.input). all_have-right test (codes "./") t.input (subst Good h p.input))
        r.0;
    output = subst Good (sym r.1) p.output;
  }

  -- rules B and C leave a slash in place of a segment of dots
  replaced-good : (front last : List ℕ) (s t : Walk) → ReplacedBySlash front last s t → Good s.input → Good t.input
  replaced-good front last s t r p =
      ⊎_elim
      (λ (h : (rest : List ℕ) × (s.input ≡ front ++ rest) × (t.input ≡ 47 ∷ rest)). subst Good (sym h.2)
      (from_slash h.0 (all_have-right test front h.0 (subst Good h.1 p))))
      (λ (h : (s.input ≡ last) × (t.input ≡ 47 ∷ [])). subst Good (sym h.1) only_slash)
      r

  -- rule B changes the input alone
  B-good : (s t : Walk) → RuleB s t → BothGood s → BothGood t
  B-good s t r p = record { input = replaced-good (codes "/./") (codes "/.") s t r.0 p.input; output = subst Good (sym r.1) p.output }

  -- the output without its last segment is a front of it
  shorter-good : (out shorter : List ℕ) → LastSegmentRemoved out shorter → Good out → Good shorter
  shorter-good out shorter r p =
      ⊎_elim
      (λ (h : (segment : List ℕ) × Lacks 47 segment × (out ≡ shorter ++ 47 ∷ segment)). Good-before shorter h.0 47 (subst Good h.2 p))
      (λ (h : Lacks 47 out × (shorter ≡ [])). subst Good (sym h.1) refl)
      r

  -- rule C takes the last segment off the output
  C-good : (s t : Walk) → RuleC s t → BothGood s → BothGood t
  C-good s t r p = record { input = replaced-good (codes "/../") (codes "/..") s t r.0 p.input; output = shorter-good s.output t.output r.1 p.output }

  -- rule D drops dots that are all that is left
  D-good : (s t : Walk) → RuleD s t → BothGood s → BothGood t
  D-good s t r p = record { input = subst Good (sym r.1) refl; output = subst Good (sym r.2) p.output }

  -- rule E moves a segment to the output
  E-good : (s t : Walk) → RuleE s t → BothGood s → BothGood t
  E-good s t r p =
      let whole : Good ((r.0 ∷ r.1) ++ t.input) = subst Good r.2 p.input in
      record {
        input = all_have-right test (r.0 ∷ r.1) t.input whole;
        output = subst Good (sym r.5) (Good-append s.output (r.0 ∷ r.1) p.output (all_have-left test (r.0 ∷ r.1) t.input whole));
      }

  -- the rule that applies is one of the list
  first-good : (R : Walk → Walk → Type 0) (Rs : List (Walk → Walk → Type 0)) (s t : Walk) → (R s t → BothGood t) →
      (FirstOf Rs s t → BothGood t) → FirstOf (R ∷ Rs) s t → BothGood t
  first-good R Rs s t f g r = ⊎_elim (λ (h : R s t). f h) (λ (h : ((t : Walk) × R s t → ⊥) × FirstOf Rs s t). g h.1) r

  -- so each step keeps the test, whichever rule applies
  step-good : (s t : Walk) → Step s t → BothGood s → BothGood t
  step-good s t r p =
      first-good RuleA (RuleB ∷ RuleC ∷ RuleD ∷ RuleE ∷ []) s t (λ h. A-good s t h p)
      (first-good RuleB (RuleC ∷ RuleD ∷ RuleE ∷ []) s t (λ h. B-good s t h p)
      (first-good RuleC (RuleD ∷ RuleE ∷ []) s t (λ h. C-good s t h p)
      (first-good RuleD (RuleE ∷ []) s t (λ h. D-good s t h p)
      (first-good RuleE [] s t (λ h. E-good s t h p) (λ (h : ⊥). absurd h)))))
      r

  -- so do all steps, down to the empty input
  ends-good : (n : ℕ) (s : Walk) (w : List ℕ) → Ends n s w → BothGood s → Good w
  ends-good zero s w e p = subst Good e.1 p.output
  ends-good (suc n) s w e p = ends-good n e.0 w e.2 (step-good s e.0 e.1 p)

  -- so a path without its dots passes the test where the path does
  dots-good : (path : List ℕ) → Good path → Good (remove_dots path)
  dots-good path p = let r = dots_removed path in ends-good r.0 (walk path []) (remove_dots path) r.1 (record { input = p; output = refl })

  -- the parts of such a text
  abbrev pub GoodOption : Option (List ℕ) → Type 0
  GoodOption o = MatchOption o ⊤ Good

  pub record GoodParts (p : Parts) : Type 0 where
    pub scheme : GoodOption p.scheme
    pub authority : GoodOption p.authority
    pub path : Good p.path
    pub query : GoodOption p.query
    pub fragment : GoodOption p.fragment

  -- a text of a scheme and the rest gives both
  scheme-good : (o : Option (List ℕ)) (rest : List ℕ) → Good (with_scheme o rest) → GoodOption o × Good rest
  scheme-good None rest p = (tt, p)
  scheme-good (Some s) rest p = (Good-before s rest 58 p, Good-after s rest 58 p)

  -- so with a query or a fragment at its end
  suffix-good : (c : ℕ) (o : Option (List ℕ)) (w : List ℕ) → Good (w ++ suffix c o) → Good w × GoodOption o
  suffix-good c None w p = (subst Good (append-nil w) p, tt)
  suffix-good c (Some v) w p = (Good-before w v c p, Good-after w v c p)

  -- so with an authority in front of the path
  authority-good : (o : Option (List ℕ)) (path : List ℕ) → Good (with_authority o path) → GoodOption o × Good path
  authority-good None path p = (tt, p)
  authority-good (Some a) path p =
      let q : Good (a ++ path) = all_have-right test (codes "//") (a ++ path) p in
      (all_have-left test a path q, all_have-right test a path q)

  -- so the parts of a text pass the test where the text does
  pub parts-good : (text : List ℕ) (p : Parts) → recompose p ≡ text → Good text → GoodParts p
  parts-good text p e g =
      let a = scheme-good p.scheme _ (subst Good (sym e) g) in
      let f = suffix-good 35 p.fragment _ a.1 in
      let q = suffix-good 63 p.query _ f.0 in
      let h = authority-good p.authority p.path q.0 in
      record { scheme = a.0; authority = h.0; path = h.1; query = q.1; fragment = f.1 }

  -- and the other way round: a scheme is put in front with its colon
  with_scheme-good : (o : Option (List ℕ)) (rest : List ℕ) → GoodOption o → Good rest → Good (with_scheme o rest)
  with_scheme-good None rest p q = q
  with_scheme-good (Some s) rest p q = Good-append s (58 ∷ rest) p (Good-cons 58 rest d.colon q)

  -- a query or a fragment is put at the end with its mark
  with_suffix-good : (c : ℕ) (o : Option (List ℕ)) (w : List ℕ) → test c ≡ true → Good w → GoodOption o → Good (w ++ suffix c o)
  with_suffix-good c None w b p q = subst Good (sym (append-nil w)) p
  with_suffix-good c (Some v) w b p q = Good-append w (c ∷ v) p (Good-cons c v b q)

  -- an authority is put in front with two slashes
  with_authority-good : (o : Option (List ℕ)) (path : List ℕ) → GoodOption o → Good path → Good (with_authority o path)
  with_authority-good None path p q = q
  with_authority-good (Some a) path p q = from_slash (47 ∷ (a ++ path)) (from_slash (a ++ path) (Good-append a path p q))

  -- so the text of parts that pass the test passes it
  recompose-good : (p : Parts) → GoodParts p → Good (recompose p)
  recompose-good p g =
      let h = with_authority p.authority p.path in
      let w = h ++ suffix 63 p.query in
      with_scheme-good p.scheme (w ++ suffix 35 p.fragment) g.scheme
      (with_suffix-good 35 p.fragment w d.hash
      (with_suffix-good 63 p.query h d.question (with_authority-good p.authority p.path g.authority g.path) g.query) g.fragment)

  -- the target of such parts
  directory-good : (w : List ℕ) → Good w → Good (directory w)
  directory-good w p =
      ⊎_elim
      (λ t. subst Good (sym (cond-true (has_slash w) (parent w ++ 47 ∷ []) [] t))
      (Good-append (parent w) (47 ∷ []) (shorter-good w (parent w) (parent_removes w) p) only_slash))
      (λ f. subst Good (sym (cond-false (has_slash w) (parent w ++ 47 ∷ []) [] f)) refl)
      (cases_Bool (has_slash w))

  -- a reference's path after the directory of the base
  merge-good : (o : Option (List ℕ)) (p path : List ℕ) → Good p → Good path → Good (merge_onto o p path)
  merge-good None p path g h = Good-append (directory p) path (directory-good p g) h
  merge-good (Some a) [] path g h = from_slash path h
  merge-good (Some a) (c ∷ p) path g h = Good-append (directory (c ∷ p)) path (directory-good (c ∷ p) g) h

  -- a path that begins with a slash stands as it is, another is merged
  joined-good : (b : Parts) (w : List ℕ) → GoodParts b → Good w → Good (joined b w)
  joined-good b [] g h = refl
  joined-good b (c ∷ w) g h =
      ⊎_elim
      (λ t. subst Good (sym (cond-true (c == 47) (c ∷ w) (merge_onto b.authority b.path (c ∷ w)) t)) h)
      (λ f. subst Good (sym (cond-false (c == 47) (c ∷ w) (merge_onto b.authority b.path (c ∷ w)) f)) (merge-good b.authority b.path (c ∷ w) g.path h))
      (cases_Bool (c == 47))

  -- a reference's query, or that of the base
  or_else-good : (q r : Option (List ℕ)) → GoodOption q → GoodOption r → GoodOption (or_else q r)
  or_else-good None r g h = h
  or_else-good (Some q) r g h = g

  -- the parts of the target, where the reference has no authority
  path_target-good : (b r : Parts) (w : List ℕ) → GoodParts b → GoodParts r → Good w → GoodParts (path_target b r w)
  path_target-good b r [] g h p = record {
    scheme = g.scheme;
    authority = g.authority;
    path = g.path;
    query = or_else-good r.query b.query h.query g.query;
    fragment = h.fragment;
  }
  path_target-good b r (c ∷ w) g h p =
      record {
        scheme = g.scheme;
        authority = g.authority;
        path = dots-good (joined b (c ∷ w)) (joined-good b (c ∷ w) g p);
        query = h.query;
        fragment = h.fragment;
      }

  -- and where it has one
  authority_target-good : (b r : Parts) (o : Option (List ℕ)) → GoodParts b → GoodParts r → GoodOption o → GoodParts (authority_target b r o)
  authority_target-good b r None g h p = path_target-good b r r.path g h h.path
  authority_target-good b r (Some a) g h p = record { scheme = g.scheme; authority = p; path = dots-good r.path h.path; query = h.query; fragment = h.fragment }

  -- so a resolved reference has only characters that an IRI may have, as its base and the reference have
  pub target-good : (text reference : List ℕ) → Good text → Good reference → Good (recompose (target (parts_of text) (parts_of reference)))
  target-good text reference g h =
      let b = parts_of text in
      let r = parts_of reference in
      let gb = parts-good text b (parts_split text).whole g in
      let gr = parts-good reference r (parts_split reference).whole h in
      recompose-good (target b r) (authority_target-good b r r.authority gb gr gr.authority)

-- the scheme of a text with a scheme
path-scheme : (b r : Parts) (w : List ℕ) → (path_target b r w).scheme ≡ b.scheme
path-scheme b r [] = refl
path-scheme b r (c ∷ w) = refl

-- the target of a reference without scheme has that of the base
target-scheme : (b r : Parts) (o : Option (List ℕ)) → (authority_target b r o).scheme ≡ b.scheme
target-scheme b r (Some a) = refl
target-scheme b r None = path-scheme b r r.path

-- a text that begins with a scheme has it whatever follows
scheme-kept : (o : Option (List ℕ)) (text rest later : List ℕ) → MatchOption o (has_scheme text ≡ false) (λ s. (has_scheme text ≡ true) × Lacks 58 s) →
    with_scheme o rest ≡ text → has_scheme text ≡ true → has_scheme (with_scheme o later) ≡ true
scheme-kept None text rest later m e h = let k : true ≡ false = sym h ∙ m in cc
scheme-kept (Some s) text rest later m e h = has_scheme-colon s later rest ∙ (ap has_scheme e ∙ h)

-- what is resolved against an absolute IRI is absolute
pub target-has_scheme : (text reference : List ℕ) → has_scheme text ≡ true → has_scheme (recompose (target (parts_of text) (parts_of reference))) ≡ true
target-has_scheme text reference h =
    let b = parts_of text in
    let r = parts_of reference in
    let s = parts_split text in
    let t = target b r in
    let e : t.scheme ≡ b.scheme = target-scheme b r r.authority in
    let rest = (with_authority t.authority t.path ++ suffix 63 t.query) ++ suffix 35 t.fragment in
    ap (λ o. has_scheme (with_scheme o rest)) e
    ∙ scheme-kept b.scheme text ((with_authority b.authority b.path ++ suffix 63 b.query) ++ suffix 35 b.fragment) rest s.scheme s.whole h
