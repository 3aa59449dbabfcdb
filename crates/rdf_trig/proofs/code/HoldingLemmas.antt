-- The texts that a token brings are no longer than the token, and the stack of frames keeps what holds of each.
use Rattle.rdf_trig.proofs.Prelude.{◌≡◌, ℕ, Option, Some, None, ◌+◌, ◌^◌, ◌*◌, ◌≤◌, List, [], ◌∷◌, ◌++◌, length, drop, subst, sym, ap, ap₂, ◌∙◌, arith, length-append, AllByRecursion, sum_by, sum_by-le, chars, string_bytes, length-drop, IsUtf8-string_bytes, byte_len, before, from, before-from, byte_len-chars, DocForm, Frame, most_bytes, Sizes, InRange, most_bytes_held, leaf, Keeps, iri_size, most_kept, Topic, topic_at, frame_bytes, state_bytes, most_text, TextFits, NameFits, FrameFits, Fits}
use Rattle.std.proofs.lemmas.Nat.{mul-le}
use native.Mathlib.Nat.{le-max_left, le-max_right, max-le, mul-add, mul_comm, mul_assoc}
use Rattle.std.proofs.lemmas.List.Elements.{All-weaker, All-from_recursion}
use Rattle.std.specs.Prelude.{String}
use Rattle.rdf_trig.specs.declared.state.Mode.{Mode}
use Rattle.rdf_trig.specs.declared.state.Mode.TheVariants as mode
use Rattle.rdf_trig.specs.declared.state.Ready.{Ready}
use Rattle.rdf_trig.specs.declared.state.Ready.TheVariants as ready
use Rattle.rdf_trig.specs.declared.state.State.{State}
use Rattle.rdf_tokens.specs.declared.token.Token.{Token as Given}
use Rattle.rdf_trig.specs.declared.slots.SubjectKind.{SubjectKind}
use Rattle.rdf_trig.specs.declared.slots.SubjectKind.TheVariants as kind
use Rattle.rdf_trig.proofs.code.AnswersOfSteps.{bytes_at_most}

-- a text of no more characters than another has at most four bytes for each of the other's
pub shorter_fits : (v w : List ℕ) → length v ≤ length w → byte_len v ≤ 4 * length w
shorter_fits v w h = bytes_at_most v (length w) h

-- the same of a text without its first characters
pub dropped_fits : (k : ℕ) (w : List ℕ) → byte_len (drop k w) ≤ 4 * length w
dropped_fits k w = shorter_fits (drop k w) w (let l = length-drop k w in omega (arith, l))

-- the same of a string that owns its text
pub string_fits : {A : Type 0} (s : String A) (w : List ℕ) → length (chars (string_bytes s)) ≤ length w → length (string_bytes s) ≤ 4 * length w
string_fits s w h = subst (λ n. n ≤ 4 * length w) (byte_len-chars (string_bytes s) (IsUtf8-string_bytes s)) (shorter_fits (chars (string_bytes s)) w h)

-- so too where its characters are known by an equation
pub spelled_fits : {A : Type 0} (s : String A) (v w : List ℕ) → chars (string_bytes s) ≡ v → length v ≤ length w → length (string_bytes s) ≤ 4 * length w
spelled_fits s v w e h = string_fits s w (subst (λ u. length u ≤ length w) (sym e) h)

-- what stands before a character is no longer than all
pub before_shorter : (c : ℕ) (w : List ℕ) → length (before c w) ≤ length w
before_shorter c w =
    let all : length (before c w ++ from c w) ≡ length w = ap length (before-from c w) in
    let cut = length-append (before c w) (from c w) in
    omega (arith, all, cut)

-- a state fits as one that it differs from only in where it stands and in what waits
pub stands_fits : {A : Type 0} (n : ℕ) (old new : State A) (m : Mode) (h : Ready) (x : Option (ℕ × ℕ)) →
    new ≡ record old { rest = x; ready = h; mode = m } → Fits n old → Fits n new
stands_fits n old new m h x e f =
    subst (Fits n) (sym e) (record { graph = f.graph; object = f.object; tail = f.tail; frame = f.frame; frames = f.frames; spares = f.spares })

-- so too with another object, where the text is emptied
pub ready_fits : {A : Type 0} (n : ℕ) (old new : State A) (o : Topic) (x : Option (ℕ × ℕ)) →
    new ≡ record old { object = o; text = new.text; rest = x; ready = ready.Resource; mode = mode.After } → string_bytes new.text ≡ [] →
    Fits n old → o.size ≤ n → Fits n new
ready_fits n old new o x e t f h =
    let empty = ap length t in
    subst (Fits n) (sym e) (record { graph = f.graph; object = omega (arith, h, empty); tail = f.tail; frame = f.frame; frames = f.frames; spares = f.spares })

-- a subject without a text fits
pub empty_fits : (n : ℕ) (x : Topic) (k : SubjectKind) → x ≡ topic_at k [] → x.size ≤ n
empty_fits n x k e = let z : x.size ≡ 0 = ap (λ (t : Topic). t.size) e in omega (arith, z)

-- the label that a token spells fits where the token does
pub label_fits : (n : ℕ) (x : Topic) (v w : List ℕ) → x ≡ topic_at kind.Label v → v ≡ drop 2 w → 4 * length w ≤ n → x.size ≤ n
label_fits n x v w e f h =
    let z = dropped_fits 2 w in
    subst (λ (y : Topic). y.size ≤ n) (sym e) (subst (λ u. byte_len u ≤ n) (sym f) (omega (arith, z, h)))

-- so does its tag
pub tag_fits : (n : ℕ) (x : Option (List ℕ)) (v w : List ℕ) → x ≡ Some v → v ≡ drop 1 w → 4 * length w ≤ n → iri_size x ≤ n
tag_fits n x v w e f h =
    let z = dropped_fits 1 w in
    subst (λ y. iri_size y ≤ n) (sym e) (subst (λ u. byte_len u ≤ n) (sym f) (omega (arith, z, h)))

-- what fits of each frame fits of one frame more
pub frames_pushed : {A : Type 0} (n : ℕ) (gs fs : List (Frame A)) (f : Frame A) → gs ≡ fs ++ f ∷ [] →
    AllByRecursion (FrameFits n) fs → FrameFits n f → AllByRecursion (FrameFits n) gs
frames_pushed {A} n gs fs f e a h = subst (AllByRecursion (FrameFits n)) (sym e) (by fs a)
  where
    by : (fs : List (Frame A)) → AllByRecursion (FrameFits n) fs → AllByRecursion (FrameFits n) (fs ++ f ∷ [])
    by [] a = (h, tt)
    by (g ∷ fs) a = (a.0, by fs a.1)

-- what fits of each frame fits of the last one, and of those below it
pub frames_popped : {A : Type 0} (n : ℕ) (gs fs : List (Frame A)) (f : Frame A) → gs ≡ fs ++ f ∷ [] →
    AllByRecursion (FrameFits n) gs → FrameFits n f × AllByRecursion (FrameFits n) fs
frames_popped {A} n gs fs f e a = by fs (subst (AllByRecursion (FrameFits n)) e a)
  where
    by : (fs : List (Frame A)) → AllByRecursion (FrameFits n) (fs ++ f ∷ []) → FrameFits n f × AllByRecursion (FrameFits n) fs
    by [] a = (a.0, tt)
    by (g ∷ fs) a = let r = by fs a.1 in (r.0, (a.0, r.1))

-- a token within the limit brings a text that fits
pub token_within : (sizes : Sizes) (t : Given) → length (leaf t).text ≤ sizes.token → TextFits (most_text sizes) t
token_within sizes t h = let m = le-max_right sizes.iri (4 * sizes.token) in omega (arith, h, m)

-- so does a name, whose IRI is within its limit
pub name_within : (here sizes : Sizes) (i : Option (List ℕ)) → here ≡ sizes → NameFits here.iri i → NameFits (most_text sizes) i
name_within here sizes None e h = tt
name_within here sizes (Some i) e h =
    let m = le-max_left sizes.iri (4 * sizes.token) in
    let k : byte_len i ≤ sizes.iri = subst (λ (z : Sizes). byte_len i ≤ z.iri) e h in
    omega (arith, k, m)

-- texts fit whatever the name is
pub named_fits : {A : Type 0} (n : ℕ) (r : State A) (i : Option (List ℕ)) → Fits n r → Fits n (record r { name = i })
named_fits n r i f = record { graph = f.graph; object = f.object; tail = f.tail; frame = f.frame; frames = f.frames; spares = f.spares }

-- a frame holds two texts at most
frame_within : {A : Type 0} (n : ℕ) (f : Frame A) → FrameFits n f → frame_bytes f ≤ 2 * n
frame_within n f h = let x = h.0 in let y = h.1 in omega (arith, x, y)

-- so all of them hold twice as many as they are
frames_within : {A : Type 0} (n : ℕ) (fs : List (Frame A)) → AllByRecursion (FrameFits n) fs → sum_by frame_bytes fs ≤ length fs * (2 * n)
frames_within {A} n fs a = sum_by-le (frame_bytes {A = A}) (2 * n) fs
    (All-weaker _ (λ (f : Frame A). frame_bytes f ≤ 2 * n) (frame_within n) fs (All-from_recursion (FrameFits n) fs a))

-- the texts of a state that keeps to the limits
pub state_within : {A : Type 0} (form : DocForm) (sizes : Sizes) (r : State A) → Keeps form sizes r →
    state_bytes r ≤ most_text sizes * (2 * (sizes.depth + 1) + 3)
state_within form sizes r keeps =
    let n = most_text sizes in
    let fits = keeps.fits in
    let below = frames_within n r.frames.items fits.frames in
    let deep : length r.frames.items ≤ sizes.depth = let d = keeps.deep in let s = keeps.stack in omega (arith, d, s) in
    let all = mul-le (length r.frames.items) (2 * n) sizes.depth (2 * n) deep (omega arith) in
    let one = frame_within n r.frame fits.frame in
    let graph = fits.graph in
    let object = fits.object in
    let tail = fits.tail in
    let name : iri_size r.name ≡ 0 = ap iri_size keeps.name in
    let spares = fits.spares in
    let product : n * (2 * (sizes.depth + 1) + 3) ≡ sizes.depth * (2 * n) + 5 * n = factors n sizes.depth in
    omega (arith, below, all, one, graph, object, tail, name, spares, product)
  where
    factors : (n d : ℕ) → n * (2 * (d + 1) + 3) ≡ d * (2 * n) + 5 * n
    factors n d =
        let x : 2 * (d + 1) + 3 ≡ d * 2 + 5 = omega arith in
        ap (λ y. n * y) x ∙ (mul-add n (d * 2) 5 ∙ ap₂ (λ a b. a + b) (mul_comm n (d * 2) ∙ mul_assoc d 2 n) (mul_comm n 5))

-- all texts that a grammar may hold within the limits fit a number of 63 bits
pub kept_fits : (l : Sizes) → InRange l → most_kept l ≤ most_bytes
kept_fits l r =
    let text : most_text l ≤ 1073741824 = max-le (let h = r.iri in omega (arith, h)) (let h = r.token in omega (arith, h)) in
    let wide : 2 * (l.depth + 1) + 3 ≤ 2097157 = let h = r.depth in omega (arith, h) in
    let frames = mul-le (most_text l) (2 * (l.depth + 1) + 3) 1073741824 2097157 text wide in
    let entry : 4 * l.token + l.iri ≤ 1342177280 = let a = r.token in let b = r.iri in omega (arith, a, b) in
    let names = mul-le l.bindings (4 * l.token + l.iri) 16777216 1342177280 r.bindings entry in
    let iri = r.iri in
    bounded (most_text l * (2 * (l.depth + 1) + 3)) l.iri (l.bindings * (4 * l.token + l.iri)) frames iri names
  where
    bounded : (a i b : ℕ) → a ≤ 1073741824 * 2097157 → i ≤ 2 ^ 28 → b ≤ 16777216 * 1342177280 → a + i + b ≤ most_bytes
    bounded a i b h k m = omega (arith, h, k, m)

-- so all texts of a state and its scope
pub kept_within : {A : Type 0} (form : DocForm) (sizes : Sizes) (r : State A) → Keeps form sizes r → (b : ℕ) → b ≤ most_bytes_held sizes →
    state_bytes r + b ≤ most_kept sizes
kept_within form sizes r keeps b h = added (state_bytes r) b _ sizes.iri _ (state_within form sizes r keeps) h
  where
    added : (a b x i y : ℕ) → a ≤ x → b ≤ i + y → a + b ≤ x + i + y
    added a b x i y h k = omega (arith, h, k)
