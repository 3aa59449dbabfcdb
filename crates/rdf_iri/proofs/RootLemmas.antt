-- Bases whose path begins with '/': what a reference that is a path resolves to is written after their root or their last directory.
use Rattle.rdf_iri.proofs.Prelude.{◌≡◌, ◌≢◌, ℕ, suc, true, false, List, [], ◌∷◌, ◌++◌, ◌==◌, ◌+◌, ◌-◌, ◌≤◌, ◌<◌, ◌⊎◌, take, drop, length, get_or, slice_range, Option, Some, None, inl, inr, refl, sym, ap, ◌∙◌, subst, ⊎_elim, append_assoc, arith, IsUtf8, IsCharBoundary, cases_Bool, cond-true, cond-false, false≢true, eqb-true, eqb-false, ne_eqb, length-append, take-append-le, IsCharBoundary-after_ascii, IsCharBoundary-before_ascii, take-append_seam, take-append-add, get_or-append_seam, has_scheme, BeginsWith, begins, before, after, Parts, parts_of, recompose, suffix, scheme_text, walk, finish, remove_dots, parent, directory, joined, merge_onto, target, or_else, has_dots, path_in, tail_in, onward, IsDirectory, path_at, written_onward, front_text, HasRoot, HasOwnPath}
use Rattle.rdf_iri.specs.declared.base.Root.{Root}
use Rattle.rdf_iri.proofs.TextsLemmas.{begins-true, begins-from, cut_whole}
use Rattle.rdf_iri.proofs.PartsLemmas.{parts_split, same_hierarchy}
use Rattle.rdf_iri.proofs.CutPlaces.{no_scheme_there}
use Rattle.rdf_iri.proofs.InPlace.{at_start}
use Rattle.rdf_iri.proofs.Written.{assembled}
use Rattle.rdf_iri.proofs.StepsLemmas.{path_in-cons, path_in-mark, tail_in-cons, segments-move}
use Rattle.rdf_iri.proofs.WrittenOnward.{Rooted, parent-begins, front-there, path-there, directory-boundary}

-- a front of a text as a slice of it
pub front-slice : (w : List ℕ) (n : ℕ) → slice_range w 0 n ≡ take n w
front-slice w n = let e : n - 0 ≡ n = omega arith in ap (λ (i : ℕ). take i w) e

-- a text is what stands in front of its path, the path, and the rest
recompose-front : (p : Parts) → recompose p ≡ front_text p ++ (p.path ++ (suffix 63 p.query ++ suffix 35 p.fragment))
recompose-front p =
    sym (assembled p (scheme_text p.scheme) (front_text p) (front_text p ++ p.path) ((front_text p ++ p.path) ++ suffix 63 p.query)
    (((front_text p ++ p.path) ++ suffix 63 p.query) ++ suffix 35 p.fragment)
    refl refl refl refl refl)
    ∙ pieces (front_text p) p.path (suffix 63 p.query) (suffix 35 p.fragment)
  where
    pieces : (a b c d : List ℕ) → ((a ++ b) ++ c) ++ d ≡ a ++ (b ++ (c ++ d))
    pieces a b c d = simp append_assoc

-- so is a base
base-front : (base : List ℕ) → base ≡ front_text (parts_of base)
    ++ ((parts_of base).path ++ (suffix 63 (parts_of base).query ++ suffix 35 (parts_of base).fragment))
base-front base = sym (parts_split base).whole ∙ recompose-front (parts_of base)

-- what stands in front of the path, and the path, are within the base
pub front-within : (base : List ℕ) → length (front_text (parts_of base)) + length (parts_of base).path ≤ length base
front-within base =
    let p = parts_of base in
    let rest = suffix 63 p.query ++ suffix 35 p.fragment in
    let all : length base ≡ length (front_text p) + (length p.path + length rest) =
    ap length (base-front base) ∙ (length-append (front_text p) (p.path ++ rest) ∙ ap (λ (x : ℕ). length (front_text p) + x) (length-append p.path rest)) in
    omega (arith, all)

-- a text may be cut before a query or a fragment, and at its end
suffix-boundary : (text front rest : List ℕ) (n : ℕ) → text ≡ front ++ rest → n ≡ length front →
    (rest ≡ []) ⊎ ((c : ℕ) × (w : List ℕ) × (c < 128) × (rest ≡ c ∷ w)) → IsCharBoundary text n
suffix-boundary text front rest n e f h =
    let all : length text ≡ length front + length rest = ap length e ∙ length-append front rest in
    ⊎_elim
    (λ (k : rest ≡ []). let z : length rest ≡ 0 = ap length k in (omega (arith, all, f, z), λ (l : n < length text). absurd (omega (arith, all, f, z, l))))
    (λ (k : (c : ℕ) × (w : List ℕ) × (c < 128) × (rest ≡ c ∷ w)).
    let z : length rest ≡ suc (length k.1) = ap length k.3 in
    let b : get_or text n 0 ≡ k.0 = ap (λ (i : ℕ). get_or text i 0) f
    ∙ (ap (λ x. get_or x (length front) 0) (e ∙ ap (λ x. front ++ x) k.3) ∙ get_or-append_seam front k.0 k.1 0) in
    let l = k.2 in
    IsCharBoundary-before_ascii text n (omega (arith, all, f, z)) (omega (arith, b, l)))
    h

-- a query or a fragment begins with its ASCII character, or is nothing
suffix-starts : (c : ℕ) (o : Option (List ℕ)) → c < 128 → (suffix c o ≡ []) ⊎ ((d : ℕ) × (w : List ℕ) × (d < 128) × (suffix c o ≡ d ∷ w))
suffix-starts c None l = inl refl
suffix-starts c (Some w) l = inr (c, w, l, refl)

suffixes-start : (q f : Option (List ℕ)) → (suffix 63 q ++ suffix 35 f ≡ []) ⊎ ((d : ℕ) × (w : List ℕ) × (d < 128) × (suffix 63 q ++ suffix 35 f ≡ d ∷ w))
suffixes-start None f = suffix-starts 35 f (omega arith)
suffixes-start (Some w) f = inr (63, w ++ suffix 35 f, omega arith, refl)

-- what stands in front of the query, and the query, are within the base
pub query-within : (base : List ℕ) → (length (front_text (parts_of base)) + length (parts_of base).path) + length
    (suffix 63 (parts_of base).query) ≤ length base
query-within base =
    let p = parts_of base in
    let q = suffix 63 p.query in
    let f = suffix 35 p.fragment in
    let all : length base ≡ length (front_text p) + (length p.path + (length q + length f)) =
    ap length (base-front base) ∙ (length-append (front_text p) (p.path ++ (q ++ f)) ∙ ap (λ (x : ℕ). length (front_text p) + x)
    (length-append p.path (q ++ f) ∙ ap (λ (x : ℕ). length p.path + x) (length-append q f))) in
    omega (arith, all)

-- the root that was found
pub root-found : (base path : List ℕ) (front len query : ℕ) → (parts_of base).path ≡ path → begins (47 ∷ []) path ≡ true →
    len ≤ length path → take len path ≡ directory path →
    has_dots (take len path) ≡ false → front ≡ length (front_text (parts_of base)) → query ≡ length (suffix 63 (parts_of base).query) →
    HasRoot base (record { first = front + 1; last = front + len; path = front + length path; query = front + length path + query })
root-found base path front len query e b l d n f k =
    let start = front_text (parts_of base) in
    let q = suffix 63 (parts_of base).query in
    let g = suffix 35 (parts_of base).fragment in
    let rest = q ++ g in
    let first : path ≡ 47 ∷ drop 1 path = begins-true (47 ∷ []) path b in
    let size = ap length first in
    let whole : base ≡ start ++ (path ++ rest) = base-front base ∙ ap (λ x. start ++ (x ++ rest)) e in
    let to_path : base ≡ (start ++ path) ++ rest = whole ∙ sym (append_assoc start path rest) in
    let to_query : base ≡ (start ++ (path ++ q)) ++ g = whole ∙ simp append_assoc in
    let path_size : front + length path ≡ length (start ++ path) = omega (arith, f, length-append start path) in
    let query_size : front + length path + query ≡ length (start ++ (path ++ q)) = omega (arith, f, k, length-append start (path ++ q), length-append path q) in
    let all : length base ≡ length start + (length path + length rest) =
    ap length whole ∙ (length-append start (path ++ rest) ∙ ap (λ (x : ℕ). length start + x) (length-append path rest)) in
    record {
      path = (drop 1 path, e ∙ first);
      dots = ap (λ x. has_dots (directory x)) e ∙ (ap has_dots (sym d) ∙ n);
      at_first = ap (λ (x : ℕ). x + 1) f;
      first = ap (λ (x : ℕ). take (x + 1) base) f
          ∙ (ap (take (length start + 1)) whole ∙ (take-append-add start (path ++ rest) 1 ∙ ap (λ x. start ++ take 1 (x ++ rest)) first));
      last = ap (λ (x : ℕ). take (x + len) base) f
          ∙ (ap (take (length start + len)) whole ∙ (take-append-add start (path ++ rest) len
          ∙ ap (λ x. start ++ x) (take-append-le len path rest l ∙ (d ∙ ap directory (sym e)))));
      path_end = ap (λ (x : ℕ). take x base) path_size
          ∙ (ap (take (length (start ++ path))) to_path ∙ (take-append_seam (start ++ path) rest ∙ ap (λ x. start ++ x) (sym e)));
      query_end = ap (λ (x : ℕ). take x base) query_size ∙ (ap (take (length (start ++ (path ++ q)))) to_query
          ∙ (take-append_seam (start ++ (path ++ q)) g ∙ ap (λ x. start ++ (x ++ q)) (sym e)));
      path_cut = suffix-boundary base (start ++ path) rest (front + length path) to_path path_size
          (suffixes-start (parts_of base).query (parts_of base).fragment);
      query_cut = suffix-boundary base (start ++ (path ++ q)) g (front + length path + query) to_query query_size
          (suffix-starts 35 (parts_of base).fragment (omega arith));
      within_first = omega (arith, f, all, size);
      within_last = omega (arith, f, all, l);
    }

-- the parts of a reference that is a path
path-parts : (w : List ℕ) → has_scheme w ≡ false → begins (47 ∷ 47 ∷ []) (path_in w) ≡ false →
    parts_of w ≡ record { scheme = None; authority = None; path = path_in w; query = after 63 (before 35 w); fragment = after 35 w }
path-parts w h n =
    sym (no_scheme_there w h)
    ∙ same_hierarchy None (after 63 (before 35 w)) (after 35 w) None (path_in w) (λ b. false≢true (sym n ∙ begins-from (47 ∷ 47 ∷ []) (path_in w) b.0 b.1))

-- its target is the base with another path
path-target : (b : Parts) (w p : List ℕ) (c : ℕ) → has_scheme w ≡ false → begins (47 ∷ 47 ∷ []) (path_in w) ≡ false → path_in w ≡ c ∷ p →
    recompose (target b (parts_of w)) ≡ front_text b ++ (remove_dots (joined b (c ∷ p)) ++ tail_in w)
path-target b w p c h n e =
    let r : Parts = record { scheme = None; authority = None; path = c ∷ p; query = after 63 (before 35 w); fragment = after 35 w } in
    let same : parts_of w ≡ r = path-parts w h n
    ∙ ap (λ x. record { scheme = None; authority = None; path = x; query = after 63 (before 35 w); fragment = after 35 w }) e in
    ap (λ x. recompose (target b x)) same
    ∙ recompose-front (record {
      scheme = b.scheme;
      authority = b.authority;
      path = remove_dots (joined b (c ∷ p));
      query = after 63 (before 35 w);
      fragment = after 35 w;
    })

-- the path that is written after a rooted directory without dot segments
after-directory : (o w : List ℕ) → Rooted o → has_dots (o ++ 47 ∷ []) ≡ false → remove_dots ((o ++ 47 ∷ []) ++ w) ≡ finish (walk (47 ∷ w) o)
after-directory o w r h =
    ⊎_elim
    (λ (e : o ≡ []). ap (λ x. remove_dots ((x ++ 47 ∷ []) ++ w)) e ∙ (sym (at_start (47 ∷ w)) ∙ ap (λ x. finish (walk (47 ∷ w) x)) (sym e)))
    (λ (b : BeginsWith (47 ∷ []) o).
    let u = b.0 in
    let n : has_dots (u ++ 47 ∷ []) ≡ false = ap (λ x. has_dots (x ++ 47 ∷ [])) (sym b.1) ∙ h in
    ap (λ x. remove_dots ((x ++ 47 ∷ []) ++ w)) b.1
    ∙ (ap (λ x. remove_dots (47 ∷ x)) (append_assoc u (47 ∷ []) w)
    ∙ (sym (at_start (47 ∷ (u ++ 47 ∷ w))) ∙ (segments-move (length u) u w [] (omega arith) n ∙ ap (λ x. finish (walk (47 ∷ w) x)) (sym b.1)))))
    r

-- merge writes a path after the directory of a path that is there
merge_onto-some : (a : Option (List ℕ)) (p w : List ℕ) → merge_onto a (47 ∷ p) w ≡ directory (47 ∷ p) ++ w
merge_onto-some None p w = refl
merge_onto-some (Some a) p w = refl

-- the first byte of a path
pub path-first : (c : ℕ) (w : List ℕ) → path_in (c ∷ w) ≢ [] → (path_in (c ∷ w) ≡ c ∷ path_in w) × (tail_in (c ∷ w) ≡ tail_in w)
path-first c w n =
    let q : c ≢ 63 = λ e. n (path_in-mark c w (inl e)) in
    let f : c ≢ 35 = λ e. n (path_in-mark c w (inr e)) in
    (path_in-cons c w q f, tail_in-cons c w q f)

-- a reference that begins with a segment, against such a base
target-last : (base : List ℕ) (c : ℕ) (w : List ℕ) (root : Root) → HasRoot base root → HasOwnPath (c ∷ w) → has_scheme (c ∷ w) ≡ false → (c ≡ 47 → ⊥) →
    front_text (parts_of base) ++ (onward (parent (parts_of base).path) (c ∷ w) ++ tail_in (c ∷ w)) ≡ recompose (target (parts_of base) (parts_of (c ∷ w)))
target-last base c w root r p h n =
    let b = parts_of base in
    let t = r.path.0 in
    let e = r.path.1 in
    let g = (path-first c w p.some).0 in
    let j : joined b (c ∷ path_in w) ≡ (parent b.path ++ 47 ∷ []) ++ c ∷ path_in w =
    cond-false (c == 47) (c ∷ path_in w) (merge_onto b.authority b.path (c ∷ path_in w)) (ne_eqb c 47 n)
    ∙ (ap (λ x. merge_onto b.authority x (c ∷ path_in w)) e
    ∙ (merge_onto-some b.authority t (c ∷ path_in w) ∙ ap (λ x. (parent x ++ 47 ∷ []) ++ c ∷ path_in w) (sym e))) in
    let d : has_dots (parent b.path ++ 47 ∷ []) ≡ false = ap (λ x. has_dots (parent x ++ 47 ∷ [])) e ∙ (ap (λ x. has_dots (directory x)) (sym e) ∙ r.dots) in
    let o : Rooted (parent b.path) = subst (λ x. Rooted (parent x)) (sym e) (parent-begins t) in
    sym (path-target b (c ∷ w) (path_in w) c h p.no_authority g
    ∙ ap (λ x. front_text b ++ (x ++ tail_in (c ∷ w))) (ap remove_dots j
    ∙ (after-directory (parent b.path) (c ∷ path_in w) o d ∙ ap (λ x. finish (walk (47 ∷ x) (parent b.path))) (sym g))))

-- one that begins with '/'
target-first : (base w : List ℕ) (root : Root) → HasRoot base root → HasOwnPath (47 ∷ w) → has_scheme (47 ∷ w) ≡ false →
    front_text (parts_of base) ++ (onward [] w ++ tail_in w) ≡ recompose (target (parts_of base) (parts_of (47 ∷ w)))
target-first base w root r p h =
    let b = parts_of base in
    sym (path-target b (47 ∷ w) (path_in w) 47 h p.no_authority refl ∙ ap (λ x. front_text b ++ (x ++ tail_in w)) (sym (at_start (47 ∷ path_in w))))

-- the text of the base up to its last directory, and up to its root
abbrev pub last-directory : (base : List ℕ) (root : Root) (r : HasRoot base root) → IsDirectory root.first (take root.last base)
last-directory base root r = record {
  front = front_text (parts_of base);
  path = parent (parts_of base).path;
  whole = r.last ∙ ap (λ x. front_text (parts_of base) ++ x) (ap directory r.path.1 ∙ ap (λ x. parent x ++ 47 ∷ []) (sym r.path.1));
  rooted = subst (λ x. Rooted (parent x)) (sym r.path.1) (parent-begins r.path.0);
  at_root = r.at_first;
}

abbrev pub first-directory : (base : List ℕ) (root : Root) (r : HasRoot base root) → IsDirectory root.first (take root.first base)
first-directory base root r = record { front = front_text (parts_of base); path = []; whole = r.first; rooted = inl refl; at_root = r.at_first }

-- what is written after a directory whose parts are known
written-there : (root : ℕ) (text w : List ℕ) (d : IsDirectory root text) → written_onward root text w ≡ d.front ++ (onward d.path w ++ tail_in w)
written-there root text w d =
    ap (λ x. x ++ (onward (path_at root text) w ++ tail_in w)) (front-there root text d)
    ∙ ap (λ x. d.front ++ (onward x w ++ tail_in w)) (path-there root text d)

-- what is written after the last directory is the target
pub after-last : (base w text out : List ℕ) (root : Root) → HasRoot base root → HasOwnPath w → has_scheme w ≡ false → (get_or w 0 0 ≡ 47 → ⊥) →
    text ≡ take root.last base → out ≡ written_onward root.first text w → out ≡ recompose (target (parts_of base) (parts_of w))
after-last base [] text out root r p h n t e = absurd (p.some refl)
after-last base (c ∷ w) text out root r p h n t e =
    e ∙ (ap (λ x. written_onward root.first x (c ∷ w)) t
    ∙ (written-there root.first (take root.last base) (c ∷ w) (last-directory base root r) ∙ target-last base c w root r p h n))

-- what is written after the root is the target
pub after-first : (base w text out : List ℕ) (root : Root) → HasRoot base root → HasOwnPath w → has_scheme w ≡ false → get_or w 0 0 ≡ 47 →
    text ≡ take root.first base → out ≡ written_onward root.first text (drop 1 w) → out ≡ recompose (target (parts_of base) (parts_of w))
after-first base [] text out root r p h n t e = absurd (p.some refl)
after-first base (c ∷ w) text out root r p h n t e =
    let k : out ≡ recompose (target (parts_of base) (parts_of (47 ∷ w))) =
    e ∙ (ap (λ x. written_onward root.first x w) t
    ∙ (written-there root.first (take root.first base) w (first-directory base root r)
    ∙ target-first base w root r (subst (λ x. HasOwnPath (x ∷ w)) n p) (ap (λ x. has_scheme (x ∷ w)) (sym n) ∙ h))) in
    k ∙ ap (λ x. recompose (target (parts_of base) (parts_of (x ∷ w)))) (sym n)

-- the base may be cut there
pub last-boundary : (base : List ℕ) (root : Root) → IsUtf8 base → HasRoot base root → IsCharBoundary base root.last
last-boundary base root u r =
    let d = last-directory base root r in
    directory-boundary base (d.front ++ d.path) root.last u r.within_last (d.whole ∙ sym (append_assoc d.front d.path (47 ∷ [])))

pub first-boundary : (base : List ℕ) (root : Root) → IsUtf8 base → HasRoot base root → IsCharBoundary base root.first
first-boundary base root u r = directory-boundary base (front_text (parts_of base)) root.first u r.within_first r.first

-- a reference may be cut after its first '/'
pub slash-boundary : (w : List ℕ) → IsUtf8 w → HasOwnPath w → get_or w 0 0 ≡ 47 → IsCharBoundary w 1
slash-boundary [] u p e = absurd (p.some refl)
slash-boundary (c ∷ w) u p e = IsCharBoundary-after_ascii (c ∷ w) 0 u (omega arith) (omega (arith, e))

-- a reference without a path: the base's path stays, and its query where the reference has none
beyond-target : (b : Parts) (w : List ℕ) → has_scheme w ≡ false → path_in w ≡ [] →
    recompose (target b (parts_of w)) ≡ front_text b ++ (b.path ++ (suffix 63 (or_else (after 63 (before 35 w)) b.query) ++ suffix 35 (after 35 w)))
beyond-target b w h e =
    let r : Parts = record { scheme = None; authority = None; path = []; query = after 63 (before 35 w); fragment = after 35 w } in
    let same : parts_of w ≡ r =
    path-parts w h (ap (begins (47 ∷ 47 ∷ [])) e)
    ∙ ap (λ x. record { scheme = None; authority = None; path = x; query = after 63 (before 35 w); fragment = after 35 w }) e in
    ap (λ x. recompose (target b x)) same
    ∙ recompose-front (record {
      scheme = b.scheme;
      authority = b.authority;
      path = b.path;
      query = or_else (after 63 (before 35 w)) b.query;
      fragment = after 35 w;
    })

-- written after the path, where it begins with a query
pub beyond-path : (base w out : List ℕ) (root : Root) → HasRoot base root → path_in w ≡ [] → has_scheme w ≡ false →
    begins (63 ∷ []) w ≡ true → out ≡ slice_range base 0 root.path ++ w →
    out ≡ recompose (target (parts_of base) (parts_of w))
beyond-path base [] out root r p h m e = absurd (false≢true m)
beyond-path base (c ∷ w) out root r p h m e =
    let b = parts_of base in
    let k = begins-true (63 ∷ []) (c ∷ w) m in
    let first : c ≡ 63 = cc in
    let q : suffix 63 (or_else (after 63 (before 35 (c ∷ w))) b.query) ++ suffix 35 (after 35 (c ∷ w)) ≡ c ∷ w =
    ap (λ x. suffix 63 (or_else (after 63 (before 35 (x ∷ w))) b.query) ++ suffix 35 (after 35 (x ∷ w))) first
    ∙ (ap (λ x. 63 ∷ x) (cut_whole 35 w) ∙ ap (λ x. x ∷ w) (sym first)) in
    e
    ∙ (ap (λ x. x ++ c ∷ w) (front-slice base root.path ∙ r.path_end)
    ∙ (append_assoc (front_text b) b.path (c ∷ w) ∙ (ap (λ x. front_text b ++ (b.path ++ x)) (sym q) ∙ sym (beyond-target b (c ∷ w) h p))))

-- no query comes before the fragment
no-query : (w : List ℕ) → path_in w ≡ [] → begins (63 ∷ []) w ≡ false → (after 63 (before 35 w) ≡ None) × (suffix 35 (after 35 w) ≡ w)
no-query [] p m = (refl, refl)
no-query (c ∷ w) p m =
    ⊎_elim
    (λ t. (
      ap (after 63) (cond-true (c == 35) [] (c ∷ before 35 w) t),
      ap (suffix 35) (cond-true (c == 35) (Some w) (after 35 w) t)
          ∙ ap (λ x. x ∷ w) (sym (eqb-true c 35 t)),
    ))
    (λ f. absurd (
    let n : c ≢ 63 = λ e. false≢true (sym m ∙ ap (λ x. begins (63 ∷ []) (x ∷ w)) e) in
    let k : [] ≡ c ∷ path_in w = sym p ∙ path_in-cons c w n (eqb-false c 35 f) in
    cc))
    (cases_Bool (c == 35))

-- written after the query, where it begins with none
pub beyond-query : (base w out : List ℕ) (root : Root) → HasRoot base root → path_in w ≡ [] → has_scheme w ≡ false →
    begins (63 ∷ []) w ≡ false → out ≡ slice_range base 0 root.query ++ w →
    out ≡ recompose (target (parts_of base) (parts_of w))
beyond-query base w out root r p h m e =
    let b = parts_of base in
    let q = no-query w p m in
    e
    ∙ (ap (λ x. x ++ w) (front-slice base root.query ∙ r.query_end)
    ∙ (pieces (front_text b) b.path (suffix 63 b.query) w
    ∙ (ap (λ x. front_text b ++ (b.path ++ (suffix 63 b.query ++ x))) (sym q.1)
    ∙ (ap (λ x. front_text b ++ (b.path ++ (suffix 63 (or_else x b.query) ++ suffix 35 (after 35 w)))) (sym q.0) ∙ sym (beyond-target b w h p)))))
  where
    pieces : (a b c d : List ℕ) → (a ++ (b ++ c)) ++ d ≡ a ++ (b ++ (c ++ d))
    pieces a b c d = simp append_assoc
