-- The text that ends in a directory while a path is written after it.
use Rattle.rdf_iri.proofs.Prelude.{◌≡◌, ℕ, suc, false, List, [], ◌∷◌, ◌++◌, ◌+◌, ◌-◌, ◌≤◌, ◌<◌, ◌⊎◌, take, drop, length, get_or, slice_range, inl, inr, refl, sym, ap, ◌∙◌, subst, ⊎_elim, append_assoc, arith, IsUtf8, IsCharBoundary, cases_Bool, cond-true, cond-false, length-append, take-append-le, take-append-drop, length-take-le, IsCharBoundary-after_ascii, take-append_seam, drop-append_seam, take-append-add, drop-append-add, get_or-append_seam, BeginsWith, has_slash, parent, directory, has_dots, path_in, tail_in, onward, Leads, Passes, IsDirectory, front_at, path_at, written_onward}
use Rattle.rdf_iri.proofs.StepsLemmas.{path-tail, last-moves}

-- what stands in front of the path
pub front-there : (root : ℕ) (text : List ℕ) (d : IsDirectory root text) → front_at root text ≡ d.front
front-there root text d =
    let e : root - 1 ≡ length d.front = let h = d.at_root in omega (arith, h) in
    ap (λ (n : ℕ). take n text) e ∙ (ap (take (length d.front)) d.whole ∙ take-append_seam d.front (d.path ++ 47 ∷ []))

-- how long the text is
whole-length : (root : ℕ) (text : List ℕ) (d : IsDirectory root text) → length text ≡ length d.front + (length d.path + 1)
whole-length root text d = ap length d.whole ∙ (length-append d.front (d.path ++ 47 ∷ []) ∙ ap (λ (n : ℕ). length d.front + n) (length-append d.path (47 ∷ [])))

-- and the path
pub path-there : (root : ℕ) (text : List ℕ) (d : IsDirectory root text) → path_at root text ≡ d.path
path-there root text d =
    let h = d.at_root in
    let e : root - 1 ≡ length d.front = omega (arith, h) in
    let n : length text - root ≡ length d.path = omega (arith, h, whole-length root text d) in
    ap (λ (i : ℕ). take i (drop (root - 1) text)) n
    ∙ (ap (λ (i : ℕ). take (length d.path) (drop i text)) e
    ∙ (ap (λ x. take (length d.path) (drop (length d.front) x)) d.whole
    ∙ (ap (take (length d.path)) (drop-append_seam d.front (d.path ++ 47 ∷ [])) ∙ take-append_seam d.path (47 ∷ []))))

-- a path that is rooted
abbrev pub Rooted : List ℕ → Type 0
Rooted path = (path ≡ []) ⊎ BeginsWith (47 ∷ []) path

-- the directory above another is rooted as well
pub parent-begins : (w : List ℕ) → Rooted (parent (47 ∷ w))
parent-begins w =
    ⊎_elim
    (λ t. inr (parent w, cond-true (has_slash w) (47 ∷ parent w) [] t))
    (λ f. inl (cond-false (has_slash w) (47 ∷ parent w) [] f))
    (cases_Bool (has_slash w))

pub parent-rooted : (path : List ℕ) → Rooted path → Rooted (parent path)
parent-rooted path r =
    ⊎_elim
    (λ (e : path ≡ []). inl (ap parent e))
    (λ (b : BeginsWith (47 ∷ []) path). subst (λ x. Rooted (parent x)) (sym b.1) (parent-begins b.0))
    r

-- its '/' belongs to the directory of what follows the root
pub parent-directory : (w : List ℕ) → parent (47 ∷ w) ++ 47 ∷ [] ≡ 47 ∷ directory w
parent-directory w =
    ⊎_elim
    (λ t. ap (λ x. x ++ 47 ∷ []) (cond-true (has_slash w) (47 ∷ parent w) [] t) ∙ ap (λ x. 47 ∷ x) (sym (cond-true (has_slash w) (parent w ++ 47 ∷ []) [] t)))
    (λ f. ap (λ x. x ++ 47 ∷ []) (cond-false (has_slash w) (47 ∷ parent w) [] f) ∙ ap (λ x. 47 ∷ x) (sym (cond-false (has_slash w) (parent w ++ 47 ∷ []) [] f)))
    (cases_Bool (has_slash w))

-- the directory above another one
pub above-there : (root k : ℕ) (text : List ℕ) (d : IsDirectory root text) → root < length text → k ≤ length (slice_range text root (length text - 1)) →
    take k (slice_range text root (length text - 1)) ≡ directory (slice_range text root (length text - 1)) →
    take (root + k) text ≡ front_at root text ++ (parent (path_at root text) ++ 47 ∷ [])
above-there root k text d l m e =
    ⊎_elim
    (λ (n : d.path ≡ []). absurd (let z : length d.path ≡ 0 = ap length n in let h = d.at_root in omega (arith, z, h, whole-length root text d)))
    (λ (b : BeginsWith (47 ∷ []) d.path).
    let w = b.0 in
    let h = d.at_root in
    let p : length d.path ≡ suc (length w) = ap length b.1 in
    let t : text ≡ d.front ++ 47 ∷ (w ++ 47 ∷ []) = d.whole ∙ ap (λ x. d.front ++ (x ++ 47 ∷ [])) b.1 in
    let dr : drop root text ≡ w ++ 47 ∷ [] =
    ap (λ (i : ℕ). drop i text) h ∙ (ap (drop (length d.front + 1)) t ∙ drop-append-add d.front (47 ∷ (w ++ 47 ∷ [])) 1) in
    let n : (length text - 1) - root ≡ length w = omega (arith, h, p, whole-length root text d) in
    let s : slice_range text root (length text - 1) ≡ w =
    ap (λ (i : ℕ). take i (drop root text)) n ∙ (ap (take (length w)) dr ∙ take-append_seam w (47 ∷ [])) in
    let g : k ≤ length w = subst (λ x. k ≤ length x) s m in
    let f : take k w ≡ directory w = ap (take k) (sym s) ∙ (e ∙ ap directory s) in
    let i : root + k ≡ length d.front + suc k = omega (arith, h) in
    let j : take (suc k) (47 ∷ (w ++ 47 ∷ [])) ≡ 47 ∷ directory w = first-of k (w ++ 47 ∷ []) ∙ ap (λ x. 47 ∷ x) (take-append-le k w (47 ∷ []) g ∙ f) in
    ap (λ (x : ℕ). take x text) i
    ∙ (ap (take (length d.front + suc k)) t
    ∙ (take-append-add d.front (47 ∷ (w ++ 47 ∷ [])) (suc k)
    ∙ (ap (λ x. d.front ++ x) (j ∙ (sym (parent-directory w) ∙ ap (λ x. parent x ++ 47 ∷ []) (sym b.1)))
    ∙ (ap (λ x. x ++ (parent d.path ++ 47 ∷ [])) (sym (front-there root text d))
    ∙ ap (λ x. front_at root text ++ (parent x ++ 47 ∷ [])) (sym (path-there root text d)))))))
    d.rooted
  where
    first-of : (k : ℕ) (w : List ℕ) → take (suc k) (47 ∷ w) ≡ 47 ∷ take k w
    first-of k w = refl

-- the text so far, which is a directory, and the rest of the reference come to what the first text and all of the reference come to
pub record Comes (root : ℕ) (first reference text rest : List ℕ) : Type 0 where
  pub directory : IsDirectory root text
  pub front : directory.front ≡ front_at root first
  pub path : onward directory.path rest ≡ onward (path_at root first) reference
  pub tail : tail_in rest ≡ tail_in reference

-- at first
pub comes-first : (root : ℕ) (text rest : List ℕ) → IsDirectory root text → Comes root text rest text rest
comes-first root text rest d = record {
  directory = d;
  front = sym (front-there root text d);
  path = ap (λ x. onward x rest) (sym (path-there root text d));
  tail = refl;
}

-- the same of a text that is written otherwise
pub comes-same : (root : ℕ) (first reference text other rest : List ℕ) → text ≡ other → Comes root first reference text rest →
    Comes root first reference other rest
comes-same root first reference text other rest e c = subst (λ x. Comes root first reference x rest) e c

-- after a segment that stays there
pub comes-here : (root : ℕ) (first reference text rest more : List ℕ) → Leads (λ o. o) rest more → Comes root first reference text rest →
    Comes root first reference text more
comes-here root first reference text rest more l c = record {
  directory = c.directory;
  front = c.front;
  path = sym (l.path c.directory.path) ∙ c.path;
  tail = sym l.tail ∙ c.tail;
}

-- after one that leads to the directory above
pub comes-up : (root : ℕ) (first reference text above rest more : List ℕ) → Leads parent rest more →
    above ≡ front_at root text ++ (parent (path_at root text) ++ 47 ∷ []) → Comes root first reference text rest → Comes root first reference above more
comes-up root first reference text above rest more l e c =
    let d = c.directory in
    record {
      directory = record {
        front = d.front;
        path = parent d.path;
        whole = e ∙ (ap (λ x. x ++ (parent (path_at root text) ++ 47 ∷ [])) (front-there root text d)
            ∙ ap (λ x. d.front ++ (parent x ++ 47 ∷ [])) (path-there root text d));
        rooted = parent-rooted d.path d.rooted;
        at_root = d.at_root;
      };
      front = c.front;
      path = sym (l.path d.path) ∙ c.path;
      tail = sym l.tail ∙ c.tail;
    }

-- after one that leads into a directory
pub comes-into : (root : ℕ) (first reference text segment longer rest more : List ℕ) → Leads (λ o. o ++ 47 ∷ segment) rest more →
    longer ≡ text ++ (segment ++ 47 ∷ []) → Comes root first reference text rest → Comes root first reference longer more
comes-into root first reference text segment longer rest more l e c =
    let d = c.directory in
    record {
      directory = record {
        front = d.front;
        path = d.path ++ 47 ∷ segment;
        whole = e ∙ (ap (λ x. x ++ (segment ++ 47 ∷ [])) d.whole ∙ simp append_assoc);
        rooted = ⊎_elim (λ (n : d.path ≡ []). inr (segment, ap (λ x. x ++ 47 ∷ segment) n))
            (λ (b : BeginsWith (47 ∷ []) d.path). inr (b.0 ++ 47 ∷ segment, ap (λ x. x ++ 47 ∷ segment) b.1)) d.rooted;
        at_root = d.at_root;
      };
      front = c.front;
      path = sym (l.path d.path) ∙ c.path;
      tail = sym l.tail ∙ c.tail;
    }

-- at last
pub comes-last : (root : ℕ) (first reference text rest : List ℕ) → has_dots (path_in rest) ≡ false → Comes root first reference text rest →
    text ++ rest ≡ written_onward root first reference
comes-last root first reference text rest h c =
    let d = c.directory in
    let k : d.path ++ 47 ∷ path_in rest ≡ onward (path_at root first) reference = sym (last-moves (path_in rest) d.path h) ∙ c.path in
    ap (λ x. x ++ rest) d.whole
    ∙ (ap (λ x. (d.front ++ (d.path ++ 47 ∷ [])) ++ x) (sym (path-tail rest))
    ∙ (joined d.front d.path (path_in rest) (tail_in rest)
    ∙ (ap (λ x. d.front ++ (x ++ tail_in rest)) k
    ∙ (ap (λ x. d.front ++ (onward (path_at root first) reference ++ x)) c.tail
    ∙ ap (λ x. x ++ (onward (path_at root first) reference ++ tail_in reference)) c.front))))
  where
    joined : (f p w t : List ℕ) → (f ++ (p ++ 47 ∷ [])) ++ (w ++ t) ≡ f ++ ((p ++ 47 ∷ w) ++ t)
    joined f p w t = simp append_assoc

-- nothing stands between a place and itself
pub between-none : (w : List ℕ) (n : ℕ) → slice_range w n n ≡ []
between-none w n = let e : n - n ≡ 0 = omega arith in ap (λ (i : ℕ). take i (drop n w)) e

-- a reference may be cut where a move ends
pub passes-boundary : (bytes : List ℕ) (at next : ℕ) → IsUtf8 bytes → Passes bytes at next → IsCharBoundary bytes next
passes-boundary bytes at next u p =
    let s = p.some in
    let w = p.within in
    let e : (next - 1) + 1 ≡ next = omega (arith, s) in
    subst (IsCharBoundary bytes) e (IsCharBoundary-after_ascii bytes (next - 1) u (omega (arith, s, w)) p.ascii)

-- a text may be cut where a directory of it ends
pub directory-boundary : (text front : List ℕ) (n : ℕ) → IsUtf8 text → n ≤ length text → take n text ≡ front ++ 47 ∷ [] → IsCharBoundary text n
directory-boundary text front n u l e =
    let k : n ≡ length front + 1 = sym (length-take-le n text l) ∙ (ap length e ∙ length-append front (47 ∷ [])) in
    let b : get_or text (length front) 0 ≡ 47 =
    ap (λ x. get_or x (length front) 0) (sym (take-append-drop n text) ∙ (ap (λ x. x ++ drop n text) e ∙ append_assoc front (47 ∷ []) (drop n text)))
    ∙ get_or-append_seam front 47 (drop n text) 0 in
    subst (IsCharBoundary text) (sym k) (IsCharBoundary-after_ascii text (length front) u (omega (arith, k)) (omega (arith, b)))
