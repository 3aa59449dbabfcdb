-- A file of bindings says one thing, so what fails is none.
use Rattle.rdf_iri.proofs.Prelude.{◌≡◌, ℕ, ◌≤◌, List, [], ◌∷◌, ◌++◌, length, Option, Some, None, refl, sym, ap, ◌∙◌, subst, ⊎_elim, arith, append_assoc, AllByRecursion, append_cancel_left, append-nil, BadBinding, TokenTooLong, Sizes, suffix, Lacks, before, after, byte_order_mark, MarkDropped, with_feeds, IsCut, LinesOf, Entry, EntryFits, bindings_of, TextSays, Says, AllSay, FailsFor}
use Rattle.rdf_iri.specs.declared.fault.BindingReason.{BindingReason}
use Rattle.rdf_iri.specs.declared.fault.BindingReason.TheVariants.{IriTooLong, TooManyBindings, Memory}
use Rattle.rdf_iri.specs.BindingLaws.{FailingFilesAreNone}
use Rattle.rdf_iri.proofs.TextsLemmas.{cut_suffix}
use Rattle.rdf_iri.proofs.BindingLineLemmas.{one_binding, no_quiet_binding}
use Rattle.rdf_iri.proofs.BindingSteps.{more, adds, adds_nothing}
use Rattle.rdf_iri.proofs.BindingFiles.{one_text}

-- a file has one text without its byte order mark
one_start : (bytes v w : List ℕ) → MarkDropped bytes v → MarkDropped bytes w → v ≡ w
one_start bytes v w a b =
    ⊎_elim
    (λ x. ⊎_elim (λ y. append_cancel_left byte_order_mark v w (sym x ∙ y)) (λ y. absurd (y.0 (v, x))) b)
    (λ x. ⊎_elim (λ y. absurd (x.0 (w, y))) (λ y. x.1 ∙ sym y.1) b)
    a

-- what stands after the first LF
abbrev further : List (List ℕ) → Option (List ℕ)
further [] = None
further (line ∷ more) = Some (with_feeds line more)

-- lines that are joined are cut at the first LF
first_cut : (line : List ℕ) (lines : List (List ℕ)) → with_feeds line lines ≡ line ++ suffix 10 (further lines)
first_cut line [] = sym (append-nil line)
first_cut line (next ∷ lines) = refl

-- two ways to cut a text have the same first line, and the same text after it
heads : (l m : List ℕ) (ls ms : List (List ℕ)) → with_feeds l ls ≡ with_feeds m ms → Lacks 10 l → Lacks 10 m → (l ≡ m) × (further ls ≡ further ms)
heads l m ls ms e a b =
    let x = cut_suffix 10 l (further ls) a in
    let y = cut_suffix 10 m (further ms) b in
    let f : l ++ suffix 10 (further ls) ≡ m ++ suffix 10 (further ms) = sym (first_cut l ls) ∙ (e ∙ first_cut m ms) in
    (sym x.0 ∙ (ap (before 10) f ∙ y.0), sym x.1 ∙ (ap (after 10) f ∙ y.1))

-- so two ways to cut it are the same
same_lines : (l m : List ℕ) (ls ms : List (List ℕ)) → with_feeds l ls ≡ with_feeds m ms → AllByRecursion (Lacks 10) (l ∷ ls) →
    AllByRecursion (Lacks 10) (m ∷ ms) → ◌≡◌ {A = List (List ℕ)} (l ∷ ls) (m ∷ ms)
same_lines l m [] [] e a b = ap (λ z. z ∷ []) (heads l m [] [] e a.0 b.0).0
same_lines l m [] (k ∷ ms) e a b = absurd (let h : ◌≡◌ {A = Option (List ℕ)} None (Some (with_feeds k ms)) = (heads l m [] (k ∷ ms) e a.0 b.0).1 in cc)
same_lines l m (j ∷ ls) [] e a b = absurd (let h : ◌≡◌ {A = Option (List ℕ)} (Some (with_feeds j ls)) None = (heads l m (j ∷ ls) [] e a.0 b.0).1 in cc)
same_lines l m (j ∷ ls) (k ∷ ms) e a b =
    let h = heads l m (j ∷ ls) (k ∷ ms) e a.0 b.0 in
    let q : ◌≡◌ {A = Option (List ℕ)} (Some (with_feeds j ls)) (Some (with_feeds k ms)) = h.1 in
    let w : with_feeds j ls ≡ with_feeds k ms = cc in
    ap (λ z. z ∷ j ∷ ls) h.0 ∙ ap (λ z. m ∷ z) (same_lines j k ls ms w a.1 b.1)

-- a text has one list of lines
one_cut : (w : List ℕ) (ls ms : List (List ℕ)) → IsCut w ls → IsCut w ms → ls ≡ ms
one_cut w [] ms a b = absurd a
one_cut w (l ∷ ls) [] a b = absurd b
one_cut w (l ∷ ls) (m ∷ ms) a b = same_lines l m ls ms (a.0 ∙ sym b.0) a.1 b.1

-- so a file has one list of lines
lines_once : (bytes : List ℕ) (ls ms : List (List ℕ)) → LinesOf bytes ls → LinesOf bytes ms → ls ≡ ms
lines_once bytes ls ms a b = one_cut b.0 ls ms (subst (λ w. IsCut w ls) (one_start bytes a.0 b.0 a.1 b.1) a.2) b.2

-- pairs are equal where their parts are
two : (e f : List ℕ × List ℕ) → e.0 ≡ f.0 → e.1 ≡ f.1 → e ≡ f
two e f a b = ap (λ x. (x, e.1)) a ∙ ap (λ x. (f.0, x)) b

-- a text says one thing
text_once : (text : List ℕ) (e f : Entry) → TextSays text e → TextSays text f → e ≡ f
text_once text None None a b = refl
text_once text None (Some y) a b = absurd (no_quiet_binding text y.0 y.1 a.1 b)
text_once text (Some x) None a b = absurd (no_quiet_binding text x.0 x.1 b.1 a)
text_once text (Some x) (Some y) a b = let k = one_binding text x.0 x.1 y.0 y.1 a b in ap Some (two x y k.0 k.1)

-- so a line says one thing
said_once : (line : List ℕ) (e f : Entry) → Says line e → Says line f → e ≡ f
said_once line e f a b = text_once b.0 e f (subst (λ x. TextSays x e) (one_text line a.0 b.0 a.1 b.1) a.2) b.2

-- the lines of a file say one list of entries
all_once : (lines : List (List ℕ)) (es fs : List Entry) → AllSay lines es → AllSay lines fs → es ≡ fs
all_once [] [] [] a b = refl
all_once [] [] (f ∷ fs) a b = absurd b
all_once [] (e ∷ es) fs a b = absurd a
all_once (l ∷ ls) [] fs a b = absurd a
all_once (l ∷ ls) (e ∷ es) [] a b = absurd b
all_once (l ∷ ls) (e ∷ es) (f ∷ fs) a b = ap (λ x. x ∷ es) (said_once l e f a.0 b.0) ∙ ap (λ x. f ∷ x) (all_once ls es fs a.1 b.1)

-- what the lines round one line say
record Around (front : List (List ℕ)) (line : List ℕ) (entries : List Entry) : Type 0 where
  pub ahead : List Entry
  pub entry : Entry
  pub later : List Entry
  pub parts : entries ≡ ahead ++ entry ∷ later
  pub says : AllSay front ahead
  pub said : Says line entry

-- a line in the middle says an entry in the middle
around : (lines : List (List ℕ)) (line : List ℕ) (rest : List (List ℕ)) (entries : List Entry) → AllSay (lines ++ line ∷ rest) entries →
    Around lines line entries
around [] line rest [] a = absurd a
around [] line rest (e ∷ es) a = record { ahead = []; entry = e; later = es; parts = refl; says = tt; said = a.0 }
around (l ∷ ls) line rest [] a = absurd a
around (l ∷ ls) line rest (e ∷ es) a =
    let r = around ls line rest es a.1 in
    record { ahead = e ∷ r.ahead; entry = r.entry; later = r.later; parts = ap (λ x. e ∷ x) r.parts; says = (a.0, r.says); said = r.said }

-- an entry in the middle fits the limits where all do
fits_at : (sizes : Sizes) (es fs : List Entry) (e : Entry) → AllByRecursion (EntryFits sizes) (es ++ e ∷ fs) → EntryFits sizes e
fits_at sizes [] fs e a = a.0
fits_at sizes (x ∷ es) fs e a = fits_at sizes es fs e a.1

-- the map never shrinks
grows : (es : List Entry) (e : Entry) → length (bindings_of es) ≤ length (bindings_of (es ++ e ∷ []))
grows es None = let k = ap length (adds_nothing es) in omega (arith, k)
grows es (Some x) = let k = (adds es x.0 x.1).count in omega (arith, k)

-- later entries only add to the map
grows_more : (fs es : List Entry) → length (bindings_of es) ≤ length (bindings_of (es ++ fs))
grows_more [] es = let k = ap (λ x. length (bindings_of x)) (append-nil es) in omega (arith, k)
grows_more (f ∷ fs) es =
    let a = grows es f in
    let b = grows_more fs (es ++ f ∷ []) in
    let k = ap (λ x. length (bindings_of x)) (append_assoc es (f ∷ []) fs) in
    omega (arith, a, b, k)

-- no reason fits a line that keeps the limits
no_reason : (reason : BindingReason) (sizes : Sizes) (ahead later : List Entry) (line : List ℕ) (e : Entry) →
    FailsFor reason sizes ahead line → Says line e → EntryFits sizes e →
    length (bindings_of (ahead ++ e ∷ later)) ≤ sizes.bindings → ⊥
no_reason BadBinding sizes ahead later line e f s k n = f e s
no_reason TokenTooLong sizes ahead later line e f s k n = let h = subst (EntryFits sizes) (said_once line e (Some f.0) s f.1) k in let i =
    f.2 in omega (arith, h.0, i)
no_reason IriTooLong sizes ahead later line e f s k n = let h = subst (EntryFits sizes) (said_once line e (Some f.0) s f.1) k in let i =
    f.3 in omega (arith, h.1, i)
no_reason TooManyBindings sizes ahead later line e f s k n =
    let same = said_once line e (Some f.0) s f.1 in
    let a = (adds ahead f.0.0 f.0.1).count in
    let o = ap more f.3 in
    let g = grows_more later (ahead ++ Some f.0 ∷ []) in
    let j = ap (λ x. length (bindings_of x)) (append_assoc ahead (Some f.0 ∷ []) later) in
    let m = ap (λ x. length (bindings_of (ahead ++ x ∷ later))) same in
    let full = f.4 in
    omega (arith, a, o, g, j, m, n, full)
no_reason Memory sizes ahead later line e f s k n = f

-- the law of files that fail
pub failing_files : FailingFilesAreNone
failing_files reason sizes bytes number entries f i =
    let lines = lines_once bytes i.lines (f.front ++ f.line ∷ f.rest) i.cut f.cut in
    let r = around f.front f.line f.rest entries (subst (λ x. AllSay x entries) lines i.says) in
    let ahead = all_once f.front r.ahead f.entries r.says f.says in
    let fits = subst (AllByRecursion (EntryFits sizes)) r.parts i.fits.0 in
    no_reason reason sizes r.ahead r.later f.line r.entry (subst (λ x. FailsFor reason sizes x f.line) (sym ahead) f.why) r.said
    (fits_at sizes r.ahead r.later r.entry fits)
    (subst (λ x. length (bindings_of x) ≤ sizes.bindings) r.parts i.fits.1)
