-- A file of bindings, read line by line.
use Rattle.rdf_iri.proofs.Prelude.{◌≡◌, ℕ, suc, ◌+◌, ◌<◌, ◌≤◌, true, false, cond, List, [], ◌∷◌, ◌++◌, ◌==◌, length, Option, Some, None, refl, sym, ap, ◌∙◌, subst, ⊎_elim, arith, is_some, AllByRecursion, cases_Bool, cond-true, cond-false, eqb-true, eqb-false, length-append, append-nil, IsIri, BadBinding, TokenTooLong, Sizes, suffix, Lacks, before, after, equal, byte_len, InForce, bound_to, MarkDropped, with_feeds, IsCut, CrDropped, Entry, EntryFits, AllFit, bindings_of, BindingMap, SameMap, TextSays, Says, AllSay, IsReadFrom, FailsFor, FailsAt, IsRefused, Enters, TakesLine, StopsAt}
use Rattle.rdf_iri.specs.declared.fault.BindingReason.{BindingReason}
use Rattle.rdf_iri.specs.declared.fault.BindingReason.TheVariants.{IriTooLong, TooManyBindings, Memory}
use Rattle.rdf_iri.proofs.TextsLemmas.{cut_whole, before-lacks}
use Rattle.rdf_iri.proofs.BindingSteps.{more, adds, adds_nothing}

-- lines that end in an LF, and what follows
abbrev pub then : List (List ℕ) → List ℕ → List ℕ
then [] w = w
then (line ∷ lines) w = line ++ 10 ∷ then lines w

-- the lines so far and what is left are the whole
abbrev pub Left : List (List ℕ) → Option (List ℕ) → List ℕ → Type 0
Left lines (Some w) start = then lines w ≡ start
Left lines None start = (front : List (List ℕ)) × (last : List ℕ) × (lines ≡ front ++ last ∷ []) × (then front last ≡ start)

-- how many bytes are left to read; it falls with each line, so the loop ends
abbrev pub left : Option (List ℕ) → ℕ
left None = 0
left (Some w) = suc (length w)

-- what has been read
pub record ReadSoFar (sizes : Sizes) (bytes : List ℕ) (rest : Option (List ℕ)) (line : ℕ) (s : InForce) : Type 0 where
  pub start : List ℕ
  pub mark : MarkDropped bytes start
  pub front : List (List ℕ)
  pub entries : List Entry
  pub left : Left front rest start
  pub lacks : AllByRecursion (Lacks 10) front
  pub says : AllSay front entries
  pub fits : AllFit sizes entries
  pub same : SameMap s.bindings (bindings_of entries)
  pub base : s.base ≡ None
  pub limits : s.limits ≡ sizes
  pub counted : line ≡ length front

-- nothing
pub nothing_read : (sizes : Sizes) (bytes start : List ℕ) (rest : Option (List ℕ)) (s : InForce) → MarkDropped bytes start →
    rest ≡ Some start → s ≡ record { base = None; bindings = []; limits = sizes } → ReadSoFar sizes bytes rest 0 s
nothing_read sizes bytes start rest s m r e = record {
  start = start;
  mark = m;
  front = [];
  entries = [];
  left = subst (λ o. Left [] o start) (sym r) refl;
  lacks = tt;
  says = tt;
  fits = (tt, omega arith);
  same = subst (λ (x : InForce). SameMap x.bindings []) (sym e) (record { bound = λ q. refl; count = refl });
  base = ap (λ (x : InForce). x.base) e;
  limits = ap (λ (x : InForce). x.limits) e;
  counted = refl;
}

-- what holds of two lists holds of both together
all_in_both : {X : Type 0} (P : X → Type 0) (v w : List X) → AllByRecursion P v → AllByRecursion P w → AllByRecursion P (v ++ w)
all_in_both P [] w a b = b
all_in_both P (x ∷ v) w a b = (a.0, all_in_both P v w a.1 b)

-- lines that say some entries, and one line more
say_one_more : (lines : List (List ℕ)) (entries : List Entry) (line : List ℕ) (entry : Entry) → AllSay lines entries → Says line entry →
    AllSay (lines ++ line ∷ []) (entries ++ entry ∷ [])
say_one_more [] [] line entry a b = (b, tt)
say_one_more [] (e ∷ es) line entry a b = absurd a
say_one_more (l ∷ ls) [] line entry a b = absurd a
say_one_more (l ∷ ls) (e ∷ es) line entry a b = (a.0, say_one_more ls es line entry a.1 b)

-- lines before a line, with that line taken over to them
then_one_more : (lines : List (List ℕ)) (line w : List ℕ) → then (lines ++ line ∷ []) w ≡ then lines (line ++ 10 ∷ w)
then_one_more [] line w = refl
then_one_more (l ∷ lines) line w = ap (λ x. l ++ 10 ∷ x) (then_one_more lines line w)

-- one line more
left_one_more : (lines : List (List ℕ)) (w start : List ℕ) (rest : Option (List ℕ)) → rest ≡ after 10 w → Left lines (Some w) start →
    Left (lines ++ before 10 w ∷ []) rest start
left_one_more lines w start None e l =
    let whole : before 10 w ≡ w = sym (append-nil (before 10 w)) ∙ (ap (λ o. before 10 w ++ suffix 10 o) e ∙ cut_whole 10 w) in
    (lines, before 10 w, refl, ap (then lines) whole ∙ l)
left_one_more lines w start (Some v) e l =
    let whole : before 10 w ++ 10 ∷ v ≡ w = ap (λ o. before 10 w ++ suffix 10 o) e ∙ cut_whole 10 w in
    then_one_more lines (before 10 w) v ∙ (ap (then lines) whole ∙ l)

-- the map and the limits after one line more
fits_one_more : (sizes : Sizes) (entries : List Entry) (entry : Entry) (s t : InForce) → s.limits ≡ sizes → AllFit sizes entries →
    SameMap s.bindings (bindings_of entries) → EntryFits s.limits entry → Enters s entry t →
    AllFit sizes (entries ++ entry ∷ []) × SameMap t.bindings (bindings_of (entries ++ entry ∷ []))
fits_one_more sizes entries None s t l f m k e =
    let b : bindings_of (entries ++ None ∷ []) ≡ bindings_of entries = adds_nothing entries in (
      (all_in_both (EntryFits sizes) entries (None ∷ []) f.0 (tt, tt), subst (λ x. length x ≤ sizes.bindings) (sym b) f.1),
      subst (λ x. SameMap t.bindings x) (sym b) (subst (λ (x : InForce). SameMap x.bindings (bindings_of entries)) (sym e) m),
    )
fits_one_more sizes entries (Some x) s t l f m k e =
    let a = adds entries x.0 x.1 in
    let room : length (bindings_of (entries ++ Some x ∷ [])) ≤ sizes.bindings = has_room (bound_to s.bindings x.0) refl in (
      (all_in_both (EntryFits sizes) entries (Some x ∷ []) f.0 (subst (λ z. EntryFits z (Some x)) l k, tt), room),
      record {
        bound = λ q. e.1.bound q ∙ (ap (λ o. cond (equal x.0 q) (Some x.1) o) (m.bound q) ∙ sym (a.bound q));
        count = e.1.count ∙ (ap (λ (n : ℕ). n + cond (is_some (bound_to s.bindings x.0)) 0 1) m.count
            ∙ (ap (λ (o : Option (List ℕ)). length (bindings_of entries) + cond (is_some o) 0 1) (m.bound x.0) ∙ sym a.count));
      },
    )
  where
    has_room : (o : Option (List ℕ)) → bound_to s.bindings x.0 ≡ o → length (bindings_of (entries ++ Some x ∷ [])) ≤ sizes.bindings
    has_room None h =
        let a = adds entries x.0 x.1 in
        let r = e.0 h in
        let n = ap (λ (o : Option (List ℕ)). more o) (sym (m.bound x.0) ∙ h) in
        omega (arith, a.count, n, r, m.count, ap (λ (z : Sizes). z.bindings) l)
    has_room (Some i) h =
        let a = adds entries x.0 x.1 in
        let n = ap (λ (o : Option (List ℕ)). more o) (sym (m.bound x.0) ∙ h) in
        omega (arith, a.count, n, f.1)

-- an entry changes neither the base nor the limits
enters_base : (s t : InForce) (entry : Entry) → Enters s entry t → (t.base ≡ s.base) × (t.limits ≡ s.limits)
enters_base s t None e = (ap (λ (x : InForce). x.base) e, ap (λ (x : InForce). x.limits) e)
enters_base s t (Some x) e = (e.1.base, e.1.limits)

-- what is kept of a file holds after a line that was taken
pub one_line_more : (sizes : Sizes) (bytes w text : List ℕ) (rest more : Option (List ℕ)) (line next : ℕ) (s t : InForce) →
    ReadSoFar sizes bytes rest line s → rest ≡ Some w → more ≡ after 10 w →
    CrDropped (before 10 w) text → TakesLine s text t → next ≡ line + 1 → ReadSoFar sizes bytes more next t
one_line_more sizes bytes w text rest more line next s t r e m c k n =
    let f = fits_one_more sizes r.entries k.0 s t r.limits r.fits r.same k.2 k.3 in
    let b = enters_base s t k.0 k.3 in
    record {
      start = r.start;
      mark = r.mark;
      front = r.front ++ before 10 w ∷ [];
      entries = r.entries ++ k.0 ∷ [];
      left = left_one_more r.front w r.start more m (subst (λ o. Left r.front o r.start) e r.left);
      lacks = all_in_both (Lacks 10) r.front (before 10 w ∷ []) r.lacks (before-lacks 10 w, tt);
      says = say_one_more r.front r.entries (before 10 w) k.0 r.says (text, c, k.1);
      fits = f.0;
      same = f.1;
      base = b.0 ∙ r.base;
      limits = b.1 ∙ r.limits;
      counted = let h = r.counted in omega (arith, h, n, length-append r.front (before 10 w ∷ []));
    }

-- lines that end in an LF, and the others
feeds_then : (front : List (List ℕ)) (line : List ℕ) (more : List (List ℕ)) (start : List ℕ) → then front (with_feeds line more) ≡ start →
    AllByRecursion (Lacks 10) (front ++ line ∷ more) → IsCut start (front ++ line ∷ more)
feeds_then [] line more start e a = (e, a)
feeds_then (l ∷ front) line more start e a = (sym (by l front) ∙ e, a)
  where
    by : (l : List ℕ) (front : List (List ℕ)) → then (l ∷ front) (with_feeds line more) ≡ with_feeds l (front ++ line ∷ more)
    by l [] = refl
    by l (k ∷ front) = ap (λ x. l ++ 10 ∷ x) (by k front)

-- at the end
pub whole_read : (sizes : Sizes) (bytes : List ℕ) (rest : Option (List ℕ)) (line : ℕ) (s : InForce) (b : BindingMap) →
    ReadSoFar sizes bytes rest line s → rest ≡ None → b ≡ record { bindings = s.bindings; limits = s.limits } → IsReadFrom sizes bytes b
whole_read sizes bytes rest line s b r e f =
    let l = subst (λ o. Left r.front o r.start) e r.left in
    let lines : IsCut r.start (l.0 ++ l.1 ∷ []) = feeds_then l.0 l.1 [] r.start l.3 (subst (AllByRecursion (Lacks 10)) l.2 r.lacks) in (
      r.entries,
      record { lines = l.0 ++ l.1 ∷ []; cut = (r.start, r.mark, lines); says = subst (λ x. AllSay x r.entries) l.2 r.says; fits = r.fits },
      subst (λ (x : BindingMap). SameMap x.bindings (bindings_of r.entries)) (sym f) r.same,
      ap (λ (x : BindingMap). x.limits) f ∙ r.limits,
    )

-- what a line that says something says of an IRI
said_iri : (lines : List (List ℕ)) (entries : List Entry) → AllSay lines entries → (prefix iri : List ℕ) →
    bound_to (bindings_of entries) prefix ≡ Some iri → IsIri iri
said_iri [] [] a prefix iri e = absurd (cc)
said_iri [] (x ∷ es) a prefix iri e = absurd a
said_iri (l ∷ ls) [] a prefix iri e = absurd a
said_iri (l ∷ ls) (None ∷ es) a prefix iri e = said_iri ls es a.1 prefix iri e
said_iri (l ∷ ls) (Some x ∷ es) a prefix iri e =
    ⊎_elim
    (λ t. said_iri ls es a.1 prefix iri
    (sym (ap (λ m. bound_to m prefix) (cond-true (is_some (bound_to (bindings_of es) x.0)) (bindings_of es) (x ∷ bindings_of es) t)) ∙ e))
    (λ f.
    let at : bound_to (x ∷ bindings_of es) prefix ≡ Some iri =
    sym (ap (λ m. bound_to m prefix) (cond-false (is_some (bound_to (bindings_of es) x.0)) (bindings_of es) (x ∷ bindings_of es) f)) ∙ e in
    ⊎_elim
    (λ h.
    let s : Some x.1 ≡ Some iri = sym (cond-true (equal prefix x.0) (Some x.1) (bound_to (bindings_of es) prefix) h) ∙ at in
    let i : x.1 ≡ iri = cc in subst IsIri i a.0.2.absolute)
    (λ h. said_iri ls es a.1 prefix iri (sym (cond-false (equal prefix x.0) (Some x.1) (bound_to (bindings_of es) prefix) h) ∙ at))
    (cases_Bool (equal prefix x.0)))
    (cases_Bool (is_some (bound_to (bindings_of es) x.0)))

-- what the prefixes are bound to are absolute IRIs
pub read_iris : (sizes : Sizes) (bytes : List ℕ) (rest : Option (List ℕ)) (line : ℕ) (s : InForce) → ReadSoFar sizes bytes rest line s →
    (prefix iri : List ℕ) → bound_to s.bindings prefix ≡ Some iri → IsIri iri
read_iris sizes bytes rest line s r prefix iri e = said_iri r.front r.entries r.says prefix iri (sym (r.same.bound prefix) ∙ e)

-- some bytes, cut
pub record Pieces (w : List ℕ) : Type 0 where
  pub line : List ℕ
  pub more : List (List ℕ)
  pub whole : with_feeds line more ≡ w
  pub lacks : AllByRecursion (Lacks 10) (line ∷ more)

-- each text has a first line, and what follows its LF, if it has one
pub pieces : (w : List ℕ) → Pieces w
pieces [] = record { line = []; more = []; whole = refl; lacks = (tt, tt) }
pieces (c ∷ w) =
    let p = pieces w in
    ⊎_elim
    (λ (t : (c == 10) ≡ true). record {
      line = [];
      more = p.line ∷ p.more;
      whole = ap (λ x. x ∷ with_feeds p.line p.more)
          (sym (eqb-true c 10 t)) ∙ ap (λ x. c ∷ x) p.whole;
      lacks = (tt, p.lacks);
    })
    (λ (f : (c == 10) ≡ false). record {
      line = c ∷ p.line;
      more = p.more;
      whole = longer c p.line p.more ∙ ap (λ x. c ∷ x) p.whole;
      lacks = ((eqb-false c 10 f, p.lacks.0), p.lacks.1);
    })
    (cases_Bool (c == 10))
  where
    longer : (c : ℕ) (line : List ℕ) (more : List (List ℕ)) → with_feeds (c ∷ line) more ≡ c ∷ with_feeds line more
    longer c line [] = refl
    longer c line (next ∷ more) = refl

-- the line at hand, and those after it
lines_after : (front : List (List ℕ)) (w start : List ℕ) → Left front (Some w) start → AllByRecursion (Lacks 10) front →
    (rest : List (List ℕ)) × IsCut start (front ++ before 10 w ∷ rest)
lines_after front w start l a = by (after 10 w) refl
  where
    by : (o : Option (List ℕ)) → after 10 w ≡ o → (rest : List (List ℕ)) × IsCut start (front ++ before 10 w ∷ rest)
    by None e =
        let whole : before 10 w ≡ w = sym (append-nil (before 10 w)) ∙ (ap (λ o. before 10 w ++ suffix 10 o) (sym e) ∙ cut_whole 10 w) in
        ([], feeds_then front (before 10 w) [] start (ap (then front) whole ∙ l) (all_in_both (Lacks 10) front (before 10 w ∷ []) a (before-lacks 10 w, tt)))
    by (Some v) e =
        let p = pieces v in
        let whole : before 10 w ++ 10 ∷ with_feeds p.line p.more ≡ w =
        ap (λ x. before 10 w ++ 10 ∷ x) p.whole ∙ (ap (λ o. before 10 w ++ suffix 10 o) (sym e) ∙ cut_whole 10 w) in (
          p.line ∷ p.more,
          feeds_then front (before 10 w) (p.line ∷ p.more) start (ap (then front) whole ∙ l)
              (all_in_both (Lacks 10) front (before 10 w ∷ p.line ∷ p.more) a (before-lacks 10 w, p.lacks)),
        )

-- why the line fails
fails : (reason : BindingReason) (sizes : Sizes) (s : InForce) (entries : List Entry) (line text : List ℕ) → s.limits ≡ sizes →
    SameMap s.bindings (bindings_of entries) → CrDropped line text →
    ((other : List ℕ) → CrDropped line other → other ≡ text) → (reason ≡ Memory → ⊥) → StopsAt reason s text → FailsFor reason sizes entries line
fails BadBinding sizes s entries line text l m c o n k = λ entry said. k entry (subst (λ x. TextSays x entry) (o said.0 said.1) said.2)
fails TokenTooLong sizes s entries line text l m c o n k = (k.0, (text, c, k.1), subst (λ (z : Sizes). z.token < length (k.0.0 ++ 58 ∷ [])) l k.2)
fails IriTooLong sizes s entries line text l m c o n k =
    (k.0, (text, c, k.1), subst (λ (z : Sizes). length (k.0.0 ++ 58 ∷ []) ≤ z.token) l k.2, subst (λ (z : Sizes). z.iri < byte_len k.0.1) l k.3)
fails TooManyBindings sizes s entries line text l m c o n k = (
  k.0,
  (text, c, k.1),
  subst (λ z. EntryFits z (Some k.0)) l k.2,
  sym (m.bound k.0.0) ∙ k.3.0,
  let h = k.3.1 in omega (arith, h, m.count, ap (λ (z : Sizes). z.bindings) l),
)
fails Memory sizes s entries line text l m c o n k = absurd (n refl)

-- a line without its CR in one way
ends_in : (v w : List ℕ) (c : ℕ) → v ++ c ∷ [] ≡ w ++ c ∷ [] → v ≡ w
ends_in [] [] c e = refl
ends_in [] (y ∷ w) c e = absurd (let k = ap length e in omega (arith, k, length-append w (c ∷ [])))
ends_in (x ∷ v) [] c e = absurd (let k = ap length e in omega (arith, k, length-append v (c ∷ [])))
ends_in (x ∷ v) (y ∷ w) c e = let h : x ≡ y = cc in let t : v ++ c ∷ [] ≡ w ++ c ∷ [] = cc in ap (λ z. z ∷ v) h ∙ ap (λ z. y ∷ z) (ends_in v w c t)

-- a line has one text without its CR
pub one_text : (line v w : List ℕ) → CrDropped line v → CrDropped line w → v ≡ w
one_text line v w a b =
    ⊎_elim
    (λ x. ⊎_elim (λ y. ends_in v w 13 (sym x ∙ y)) (λ y. absurd (y.0 (v, x))) b)
    (λ x. ⊎_elim (λ y. absurd (x.0 (w, y))) (λ y. x.1 ∙ sym y.1) b)
    a

-- a line that was not taken is where the file fails
at : (reason : BindingReason) (sizes : Sizes) (bytes w text : List ℕ) (rest : Option (List ℕ)) (line next : ℕ) (s : InForce) →
    ReadSoFar sizes bytes rest line s → rest ≡ Some w →
    CrDropped (before 10 w) text → StopsAt reason s text → next ≡ line + 1 → (reason ≡ Memory → ⊥) → FailsAt reason sizes bytes next
at reason sizes bytes w text rest line next s r e c k n m =
    let b = lines_after r.front w r.start (subst (λ o. Left r.front o r.start) e r.left) r.lacks in
    record {
      front = r.front;
      line = before 10 w;
      rest = b.0;
      entries = r.entries;
      cut = (r.start, r.mark, b.1);
      says = r.says;
      fits = r.fits;
      counted = n ∙ ap (λ (x : ℕ). x + 1) r.counted;
      why = fails reason sizes s r.entries (before 10 w) text r.limits r.same c (λ other d. one_text (before 10 w) other text d c) m k;
    }

-- the error that is reported for a line that was not taken is the error of the file
pub line_fails : (reason : BindingReason) (sizes : Sizes) (bytes w text : List ℕ) (rest : Option (List ℕ)) (line next : ℕ) (s : InForce) →
    ReadSoFar sizes bytes rest line s → rest ≡ Some w →
    CrDropped (before 10 w) text → StopsAt reason s text → next ≡ line + 1 → IsRefused reason sizes bytes next
line_fails Memory sizes bytes w text rest line next s r e c k n = tt
line_fails BadBinding sizes bytes w text rest line next s r e c k n = at BadBinding sizes bytes w text rest line next s r e c k n (λ x. cc)
line_fails TokenTooLong sizes bytes w text rest line next s r e c k n = at TokenTooLong sizes bytes w text rest line next s r e c k n (λ x. cc)
line_fails IriTooLong sizes bytes w text rest line next s r e c k n = at IriTooLong sizes bytes w text rest line next s r e c k n (λ x. cc)
line_fails TooManyBindings sizes bytes w text rest line next s r e c k n = at TooManyBindings sizes bytes w text rest line next s r e c k n (λ x. cc)

-- each line is counted, and shortens what is left
pub left_less : (c : ℕ) (w : List ℕ) → left (after c w) ≤ length w
left_less c [] = omega arith
left_less c (d ∷ w) =
    ⊎_elim
    (λ t. let e = ap left (cond-true (d == c) (Some w) (after c w) t) in omega (arith, e))
    (λ f. let e = ap left (cond-false (d == c) (Some w) (after c w) f) in let r = left_less c w in omega (arith, e, r))
    (cases_Bool (d == c))

-- a byte order mark is part of the file
pub mark_shortens : (bytes start : List ℕ) → MarkDropped bytes start → length start ≤ length bytes
mark_shortens bytes start m = ⊎_elim (λ e. let k : length bytes ≡ suc (suc (suc (length start))) = ap length e in omega (arith, k))
    (λ h. let k = ap length h.1 in omega (arith, k)) m

-- a line shortens what is left
pub left_more : (more : Option (List ℕ)) (w : List ℕ) → more ≡ after 10 w → left more ≤ length w
left_more more w e = let k = ap left e in let l = left_less 10 w in omega (arith, k, l)
