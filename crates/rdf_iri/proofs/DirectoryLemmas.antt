-- A path written after a directory: it keeps all segments, and the result is the base with the reference after it.
use Rattle.rdf_iri.proofs.Prelude.{◌≡◌, ℕ, zero, suc, true, false, cond, List, [], ◌∷◌, ◌++◌, ◌==◌, ◌&&◌, ◌||◌, ◌≤◌, ◌⊎◌, drop, length, Option, Some, None, inr, refl, sym, ap, ◌∙◌, subst, ⊎_elim, append_assoc, arith, MatchOption, is_some, codes, or_from, or_parts, cases_Bool, cond-true, cond-false, false≢true, false_from_ne_true, eqb-false, append-nil, has_scheme, Lacks, BeginsWith, begins, equal, before, from, Parts, IsAuthority, parts_of, recompose, with_scheme, with_authority, suffix, Walk, walk, step, by_D, by_E, fits_D, finish, remove_dots, has_slash, parent, directory, merge_onto, joined, target, authority_target, path_target, dots_after_slash, has_dots, EndsInSlash, BeginsSegment, EndsInPath, HasDirectory, HasPath, GrowsBy}
use Rattle.rdf_iri.proofs.TextsLemmas.{before-from, from-starts, begins-true, equal-true, Lacks-append, has_scheme-append}
use Rattle.rdf_iri.proofs.PartsLemmas.{only_parts, parts_split}
use Rattle.rdf_iri.proofs.DotsLemmas.{has_slash-at, parent-at, length-from, finish-empty, finish-step}
use Rattle.rdf_iri.proofs.RulesLemmas.{not_C}

-- a path without dot segments does not begin with a front that has one
no_front : (front w : List ℕ) → ((rest : List ℕ) → has_dots (front ++ rest) ≡ true) → has_dots w ≡ false → begins front w ≡ false
no_front front w h n = false_from_ne_true _ (λ t. false≢true (sym n ∙ (ap has_dots (begins-true front w t) ∙ h (drop (length front) w))))

-- nor is it such a text
not_equal : (last w : List ℕ) → has_dots last ≡ true → has_dots w ≡ false → equal w last ≡ false
not_equal last w h n = false_from_ne_true _ (λ t. false≢true (sym n ∙ (ap has_dots (equal-true w last t) ∙ h)))

-- so only rule E fits it
step-keeps : (s : Walk) → has_dots s.input ≡ false → step s ≡ by_E s
step-keeps s n =
    let w = s.input in
    not_C s
    (or_from _ _ (no_front (codes "../") w (λ _. refl) n) (no_front (codes "./") w (λ _. refl) n))
    (or_from _ _ (no_front (codes "/./") w (λ _. refl) n) (not_equal (codes "/.") w refl n))
    (or_from _ _ (no_front (codes "/../") w (λ _. refl) n) (not_equal (codes "/..") w refl n))
    ∙ cond-false (fits_D w) (by_D s) (by_E s) (or_from _ _ (not_equal (codes ".") w refl n) (not_equal (codes "..") w refl n))

-- the segments from the first '/' on are those that follow one
pub has_dots-from : (w : List ℕ) → has_dots (from 47 w) ≡ dots_after_slash w
has_dots-from [] = refl
has_dots-from (c ∷ w) =
    ⊎_elim
    (λ (t : (c == 47) ≡ true).
    ap has_dots (cond-true (c == 47) (c ∷ w) (from 47 w) t)
    ∙ ap (λ x. fits_D x || dots_after_slash (c ∷ w)) (cond-true (c == 47) [] (c ∷ before 47 w) t))
    (λ (f : (c == 47) ≡ false).
    ap has_dots (cond-false (c == 47) (c ∷ w) (from 47 w) f)
    ∙ (has_dots-from w ∙ ap (λ b. (b && fits_D (before 47 w)) || dots_after_slash w) (sym f)))
    (cases_Bool (c == 47))

-- the rules move a path without dot segments to the output as it is
pub finish-keeps : (n : ℕ) (w o : List ℕ) → length w ≤ n → has_dots w ≡ false → finish (walk w o) ≡ o ++ w
finish-keeps n [] o l h = finish-empty (walk [] o) refl ∙ sym (append-nil o)
finish-keeps zero (c ∷ w) o l h = absurd (omega arith)
finish-keeps (suc n) (c ∷ w) o l h =
    let d : dots_after_slash w ≡ false = (or_parts _ (dots_after_slash w) (or_parts _ (dots_after_slash (c ∷ w)) h).1).1 in
    let k = length-from 47 w in
    sym (finish-step (walk (c ∷ w) o) c w refl)
    ∙ (ap finish (step-keeps (walk (c ∷ w) o) h)
    ∙ (finish-keeps n (from 47 w) (o ++ c ∷ before 47 w) (omega arith) (has_dots-from w ∙ d)
    ∙ (append_assoc o (c ∷ before 47 w) (from 47 w) ∙ ap (λ x. o ++ c ∷ x) (before-from 47 w))))

-- so their removal leaves it as it is
pub remove_dots-keeps : (w : List ℕ) → has_dots w ≡ false → remove_dots w ≡ w
unfolding remove_dots
remove_dots-keeps w h = finish-keeps (length w) w [] (omega arith) h

-- what stands before a '/' that is there does not depend on what follows it
before-slash : (v w : List ℕ) → before 47 (v ++ 47 ∷ w) ≡ before 47 (v ++ 47 ∷ [])
before-slash [] w = refl
before-slash (c ∷ v) w = ap (λ x. cond (c == 47) [] (c ∷ x)) (before-slash v w)

-- a path without dot segments after a '/' adds none to what stands before it
dots_after_slash-append : (v w : List ℕ) → dots_after_slash (v ++ 47 ∷ []) ≡ false → has_dots w ≡ false → dots_after_slash (v ++ 47 ∷ w) ≡ false
dots_after_slash-append [] w h n = n
dots_after_slash-append (c ∷ v) w h n =
    let p = or_parts _ (dots_after_slash (v ++ 47 ∷ [])) h in
    or_from _ _ (ap (λ x. c == 47 && fits_D x) (before-slash v w) ∙ p.0) (dots_after_slash-append v w p.1 n)

-- a directory and a path without dot segments have none together
has_dots-append : (p w : List ℕ) → EndsInSlash p → has_dots p ≡ false → has_dots w ≡ false → has_dots (p ++ w) ≡ false
has_dots-append p w e h n =
    let v = e.0 in
    let d = or_parts _ (dots_after_slash (v ++ 47 ∷ [])) (ap has_dots (sym e.1) ∙ h) in
    ap has_dots (ap (λ x. x ++ w) e.1 ∙ append_assoc v (47 ∷ []) w)
    ∙ or_from _ _ (ap fits_D (before-slash v w) ∙ d.0) (dots_after_slash-append v w d.1 n)

-- a path that ends in '/' is its own directory
directory-at : (p : List ℕ) → EndsInSlash p → directory p ≡ p
directory-at p e =
    let v = e.0 in
    ap directory e.1
    ∙ (cond-true (has_slash (v ++ 47 ∷ [])) (parent (v ++ 47 ∷ []) ++ 47 ∷ []) [] (has_slash-at v [])
    ∙ (ap (λ x. x ++ 47 ∷ []) (parent-at v [] tt) ∙ sym e.1))

-- it is not empty
no_slash_in_nothing : EndsInSlash [] → ⊥
no_slash_in_nothing ([], e) = cc
no_slash_in_nothing (c ∷ v, e) = cc

-- merge writes a path after it
merge_onto-directory : (a : Option (List ℕ)) (p w : List ℕ) → EndsInSlash p → merge_onto a p w ≡ p ++ w
merge_onto-directory None p w e = ap (λ x. x ++ w) (directory-at p e)
merge_onto-directory (Some a) [] w e = absurd (no_slash_in_nothing e)
merge_onto-directory (Some a) (c ∷ p) w e = ap (λ x. x ++ w) (directory-at (c ∷ p) e)

-- the parts of a base with a path after its own
abbrev pub with_path : Parts → List ℕ → Parts
with_path b w = record { scheme = b.scheme; authority = b.authority; path = b.path ++ w; query = None; fragment = None }

-- the target of the path
target-grown : (b r : Parts) (w : List ℕ) → HasDirectory b → HasPath r → r.path ≡ w → target b r ≡ with_path b w
target-grown b r [] d h e = absurd (subst BeginsSegment e h.path)
target-grown b r (c ∷ w) d h e =
    let s : BeginsSegment (c ∷ w) = subst BeginsSegment e h.path in
    let j : joined b (c ∷ w) ≡ b.path ++ c ∷ w =
    cond-false (c == 47) (c ∷ w) (merge_onto b.authority b.path (c ∷ w)) s ∙ merge_onto-directory b.authority b.path (c ∷ w) d.path in
    let k : remove_dots (joined b (c ∷ w)) ≡ b.path ++ c ∷ w =
    ap remove_dots j ∙ remove_dots-keeps _ (has_dots-append b.path (c ∷ w) d.path d.end.dots (ap has_dots (sym e) ∙ h.end.dots)) in
    ap (authority_target b r) h.authority
    ∙ (ap (path_target b r) e
    ∙ (ap (λ x. record { scheme = b.scheme; authority = b.authority; path = x; query = r.query; fragment = r.fragment }) k
    ∙ (ap (λ x. record { scheme = b.scheme; authority = b.authority; path = b.path ++ c ∷ w; query = x; fragment = r.fragment }) h.end.query
    ∙ ap (λ x. record { scheme = b.scheme; authority = b.authority; path = b.path ++ c ∷ w; query = None; fragment = x }) h.end.fragment)))

-- a text that ends in its path
ends_in_path : (p : Parts) → EndsInPath p → recompose p ≡ with_scheme p.scheme (with_authority p.authority p.path)
ends_in_path p e =
    let h = with_authority p.authority p.path in
    ap (λ x. with_scheme p.scheme ((h ++ suffix 63 x) ++ suffix 35 p.fragment)) e.query
    ∙ (ap (λ x. with_scheme p.scheme ((h ++ []) ++ suffix 35 x)) e.fragment
    ∙ ap (with_scheme p.scheme) (append-nil (h ++ []) ∙ append-nil h))

-- a longer path makes the text longer by as much
written_after : (s a : Option (List ℕ)) (p w : List ℕ) → with_scheme s (with_authority a (p ++ w)) ≡ with_scheme s (with_authority a p) ++ w
written_after None None p w = refl
written_after None (Some a) p w = simp append_assoc
written_after (Some s) None p w = simp append_assoc
written_after (Some s) (Some a) p w = simp append_assoc

-- the text of a base with a path after its own
recompose-with_path : (b : Parts) (w : List ℕ) → EndsInPath b → recompose (with_path b w) ≡ recompose b ++ w
recompose-with_path b w e =
    ap (with_scheme b.scheme) (append-nil _ ∙ append-nil _)
    ∙ (written_after b.scheme b.authority b.path w ∙ ap (λ x. x ++ w) (sym (ends_in_path b e)))

-- a reference that is a path is that path
path-whole : (reference : List ℕ) → HasPath (parts_of reference) → (parts_of reference).path ≡ reference
path-whole reference h =
    let r = parts_of reference in
    ap (λ x. with_scheme x (with_authority None r.path)) (sym h.scheme)
    ∙ (ap (λ x. with_scheme r.scheme (with_authority x r.path)) (sym h.authority)
    ∙ (sym (ends_in_path r h.end) ∙ (parts_split reference).whole))

-- against a base with a directory for it, a reference gives the base with the reference after it
pub target-appended : (base reference : List ℕ) → GrowsBy base reference → recompose (target (parts_of base) (parts_of reference)) ≡ base ++ reference
target-appended base reference g =
    let b = parts_of base in
    ap recompose (target-grown b (parts_of reference) reference g.0 g.1 (path-whole reference g.1))
    ∙ (recompose-with_path b reference g.0.end ∙ ap (λ x. x ++ reference) (parts_split base).whole)

-- what begins a longer base is still a scheme
scheme-appended : (s : Option (List ℕ)) (base reference : List ℕ) → is_some s ≡ true →
    MatchOption s (has_scheme base ≡ false) (λ s. (has_scheme base ≡ true) × Lacks 58 s) →
    MatchOption s (has_scheme (base ++ reference) ≡ false) (λ s. (has_scheme (base ++ reference) ≡ true) × Lacks 58 s)
scheme-appended None base reference i m = absurd (false≢true i)
scheme-appended (Some s) base reference i m = (has_scheme-append base reference m.0, m.1)

-- two slashes are no front of a path that grows, where they were none of it
slashes-appended : (p w : List ℕ) → EndsInSlash p → BeginsSegment w → (BeginsWith (47 ∷ 47 ∷ []) p → ⊥) → BeginsWith (47 ∷ 47 ∷ []) (p ++ w) → ⊥
slashes-appended [] w e s n b = no_slash_in_nothing e
slashes-appended (c ∷ []) [] e s n b = s
slashes-appended (c ∷ []) (d ∷ w) e s n b = let second : d ≡ 47 = let k = b.1 in cc in eqb-false d 47 s second
slashes-appended (c ∷ d ∷ p) w e s n b =
    let k = b.1 in
    let first : c ≡ 47 = cc in
    let second : d ≡ 47 = cc in
    n (p, ap (λ x. x ∷ d ∷ p) first ∙ ap (λ x. 47 ∷ x ∷ p) second)

-- a path after an authority begins with '/' or is empty, also where it grows
authority-appended : (a : Option (List ℕ)) (p w : List ℕ) → EndsInSlash p → BeginsSegment w →
    MatchOption a (BeginsWith (47 ∷ 47 ∷ []) p → ⊥) (λ a. IsAuthority a × ((p ≡ []) ⊎ BeginsWith (47 ∷ []) p)) →
    MatchOption a (BeginsWith (47 ∷ 47 ∷ []) (p ++ w) → ⊥) (λ a. IsAuthority a × ((p ++ w ≡ []) ⊎ BeginsWith (47 ∷ []) (p ++ w)))
authority-appended None p w e s m = slashes-appended p w e s m
authority-appended (Some a) p w e s m = (
  m.0,
  ⊎_elim
      (λ (h : p ≡ []). absurd (no_slash_in_nothing (subst EndsInSlash h e)))
      (λ (h : BeginsWith (47 ∷ []) p). inr (h.0 ++ w, ap (λ x. x ++ w) h.1))
      m.1,
)

-- the parts of a base that has grown
parts_of-appended : (base reference : List ℕ) → GrowsBy base reference → with_path (parts_of base) reference ≡ parts_of (base ++ reference)
parts_of-appended base reference g =
    let b = parts_of base in
    let s = parts_split base in
    let path = path-whole reference g.1 in
    let lacks = subst (λ x. Lacks 63 x × Lacks 35 x) path (parts_split reference).path in
    let segment = subst BeginsSegment path g.1.path in
    only_parts (base ++ reference) (with_path b reference) (record {
      whole = recompose-with_path b reference g.0.end ∙ ap (λ x. x ++ reference) s.whole;
      scheme = scheme-appended b.scheme base reference g.0.scheme s.scheme;
      authority = authority-appended b.authority b.path reference g.0.path segment s.authority;
      path = (Lacks-append 63 b.path reference s.path.0 lacks.0, Lacks-append 35 b.path reference s.path.1 lacks.1);
      query = tt;
    })

-- a base that grows by a path to a directory ends in a directory again
pub HasDirectory-appended : (base reference : List ℕ) → GrowsBy base reference → EndsInSlash reference → HasDirectory (parts_of (base ++ reference))
HasDirectory-appended base reference g e =
    let b = parts_of base in
    let dots = ap has_dots (sym (path-whole reference g.1)) ∙ g.1.end.dots in
    subst HasDirectory (parts_of-appended base reference g) (record {
      scheme = g.0.scheme;
      path = (b.path ++ e.0, ap (λ x. b.path ++ x) e.1 ∙ sym (append_assoc b.path e.0 (47 ∷ [])));
      end = record { dots = has_dots-append b.path reference g.0.path g.0.end.dots dots; query = refl; fragment = refl };
    })

-- a path without one first has those from its first '/' on
dots-later : (w rest : List ℕ) → fits_D (before 47 w) ≡ false → from 47 w ≡ rest → has_dots w ≡ has_dots rest
dots-later w rest h e = ap (λ b. b || dots_after_slash w) h ∙ (sym (has_dots-from w) ∙ ap has_dots e)

-- where no '/' follows, it has none
pub dots-last : (w : List ℕ) → fits_D (before 47 w) ≡ false → from 47 w ≡ [] → has_dots w ≡ false
dots-last w h e = dots-later w [] h e

-- where one follows, those of what stands after it
pub dots-next : (w rest : List ℕ) (c : ℕ) → fits_D (before 47 w) ≡ false → from 47 w ≡ c ∷ rest → has_dots w ≡ has_dots rest
dots-next w rest c h e = ⊎_elim
    (λ (n : from 47 w ≡ []). let k : [] ≡ c ∷ rest = sym n ∙ e in cc)
    (λ (b : BeginsWith (47 ∷ []) (from 47 w)).
    let k : c ∷ rest ≡ 47 ∷ b.0 = sym e ∙ b.1 in
    let i : b.0 ≡ rest = cc in
    dots-later w (47 ∷ b.0) h b.1 ∙ ap has_dots i)
    (from-starts 47 w)
