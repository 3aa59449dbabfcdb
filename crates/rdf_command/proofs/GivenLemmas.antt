-- What clap's getters hand out, against what its definition says of the words.
use Rattle.rdf_command.proofs.Prelude.{◌≡◌, ◌∙◌, true≢false, refl, sym, subst, ap, ap₂, inl, inr, List, [], ◌∷◌, ◌++◌, ℕ, codes, Bool, true, false, Option, Some, None, option_map, drop, is_some, map, string_bytes, take, unwrap_or, ⊎_elim, append_assoc, map-append, take-append-drop, ◌≢◌, Bor, all_of, fault_of, first_value, kind_of, rows_of, subcommand_of, HasKind, IsAmong, OutOfMemory, first_value-rows, Form, AreDocuments, CanSkip, Entered, GivesNone, IsFormBy, IsFormless, base_by, further_by, further_of, name_by, number_of, NoBaseOf, NoFormOf, NoFormsOf, NoGraphOf, NoSkipOf, NoTaskBy, NoWordOf, fault_by}
use Rattle.clap.specs.Words.{App, Text, first_of}
use Rattle.clap.specs.declared.error.Error.{Error}
use Rattle.clap.specs.declared.error.kind.ErrorKind.{ErrorKind}
use Rattle.clap.specs.declared.parser.matches.Found.{Found}
use Rattle.rdf_command.specs.declared.task.Document.{Document}
use Rattle.rdf_command.specs.declared.task.WordsFault.{WordsFault}
use Rattle.rdf_command.specs.declared.task.WordsFault.TheVariants.{Usage, BadBase, BadNodePrefix, BadGraph, BadSkip, NoFormat, Memory}

-- what is there is not none
some≢none : {X : Type 0} (x : X) → None ≡ Some x → ⊥
some≢none x e = true≢false (ap is_some (sym e))

-- ---- texts

-- the text of an option, if it was given
abbrev text_of : Option (Bor Text) → Option Text
text_of = option_map (λ s. s.now)

module _ (f : Found) (id text : Text) (o : Option (Bor Text)) (got : text_of o ≡ first_value f id) (is : first_of id (rows_of f) ≡ Some text) where
  same : text_of o ≡ Some text
  same = got ∙ first_value-rows f id ∙ is

  pub text_given : is_some o ≡ true
  text_given = go o same
    where
      go : (o : Option (Bor Text)) → text_of o ≡ Some text → is_some o ≡ true
      go None e = absurd (some≢none text e)
      go (Some s) e = refl

  pub text_is : (s : Bor Text) → o ≡ Some s → s.now ≡ text
  text_is s e = ap (λ x. unwrap_or x text) (sym (ap text_of e) ∙ same)

-- ---- the subcommand

-- two parts of one thing
abbrev both_of : {X A B : Type 0} → (X → A) → (X → B) → X → A × B
both_of f g b = (f b, g b)

-- a name and rows that are each given are those of the pair
pub pair_is : {X Y A B : Type 0} (f : X → A) (g : X → B) (n : Y → A) (w : Y → B) (r : Option Y) (o : Option X) (y : Y) → r ≡ Some y
    → option_map n r ≡ option_map f o → option_map w r ≡ option_map (λ (p : A × B). p.1) (option_map (both_of f g) o)
    → option_map (both_of f g) o ≡ Some (n y, w y)
pair_is f g n w r None y is e h = absurd (some≢none (n y) (sym e ∙ ap (option_map n) is))
pair_is f g n w r (Some x) y is e h =
    ap₂ (λ a b. Some (a, b)) (ap (λ z. unwrap_or z (f x)) (sym e ∙ ap (option_map n) is)) (ap (λ z. unwrap_or z (g x)) (sym h ∙ ap (option_map w) is))

-- equal answers have equal parts
pub same_some : {X : Type 0} (x y : X) → Some x ≡ Some y → x ≡ y
same_some x y e = ap (λ o. unwrap_or o x) e

-- ---- errors

-- the kind of error that is want of memory
is_memory : ErrorKind → Bool
is_memory OutOfMemory = true
is_memory _ = false

-- an error of clap is want of memory, or refuses the words with a kind that its definition names
pub refuses : (a : App) (words : List Text) (e : Error) → HasKind (fault_of a words) e → GivesNone a words (fault_by (kind_of e) e)
unfolding is_memory
refuses a words e h = go (kind_of e) refl
  where
    among : (kind_of e ≢ OutOfMemory) → IsAmong (kind_of e) (fault_of a words)
    among other = ⊎_elim (λ m. absurd (other m)) (λ x. x) h

    go : (k : ErrorKind) → kind_of e ≡ k → GivesNone a words (fault_by k e)
    go OutOfMemory is = tt
    go k is = let other : kind_of e ≢ OutOfMemory = λ m. true≢false (sym (ap is_memory m) ∙ ap is_memory is) in (other, among other)

-- words that clap takes, but that are no task, are refused for this reason
pub refused_by : (a : App) (words : List Text) (p : Entered) (fault : WordsFault) → fault_of a words ≡ [] → subcommand_of a words ≡ Some p →
    NoTaskBy p fault → GivesNone a words fault
refused_by a words p (Usage e) none is h = absurd h
refused_by a words p BadBase none is h = record { entered = p; taken = none; matches = is; holds = h }
refused_by a words p BadNodePrefix none is h = record { entered = p; taken = none; matches = is; holds = h }
refused_by a words p BadGraph none is h = record { entered = p; taken = none; matches = is; holds = h }
refused_by a words p BadSkip none is h = record { entered = p; taken = none; matches = is; holds = h }
refused_by a words p (NoFormat name) none is h = record { entered = p; taken = none; matches = is; holds = h }
refused_by a words p Memory none is h = tt

-- a base that is none is the base of the matches
pub no_task : (p : Entered) (most : ℕ) (base : Option Text) (fault : WordsFault) → base ≡ base_by (first_of (codes "base") p.1) →
    number_of (codes "iri") p.1 ≡ Some most → NoBaseOf most base fault → NoTaskBy p fault
no_task p most base (Usage e) is limit h = absurd h
no_task p most base BadBase is limit h = (h.0, most, sym is ∙ h.1, limit, h.2)
no_task p most base BadNodePrefix is limit h = absurd h
no_task p most base BadGraph is limit h = absurd h
no_task p most base BadSkip is limit h = absurd h
no_task p most base (NoFormat name) is limit h = absurd h
no_task p most base Memory is limit h = tt

-- a text that is no word is that of the matches
pub no_word : (p : Entered) (word : Option Text) (fault : WordsFault) → word ≡ first_of (codes "node-prefix") p.1 → NoWordOf word fault → NoTaskBy p fault
no_word p word (Usage e) is h = absurd h
no_word p word BadBase is h = absurd h
no_word p word BadNodePrefix is h = (h.0, sym is ∙ h.1, h.2)
no_word p word BadGraph is h = absurd h
no_word p word BadSkip is h = absurd h
no_word p word (NoFormat name) is h = absurd h
no_word p word Memory is h = tt

-- a graph that is none is the graph of the matches
pub no_graph : (p : Entered) (most : ℕ) (graph : Option Text) (fault : WordsFault) → graph ≡ first_of (codes "graph") p.1 →
    number_of (codes "iri") p.1 ≡ Some most → NoGraphOf most graph fault → NoTaskBy p fault
no_graph p most graph (Usage e) is limit h = absurd h
no_graph p most graph BadBase is limit h = absurd h
no_graph p most graph BadNodePrefix is limit h = absurd h
no_graph p most graph BadGraph is limit h = (h.0, most, sym is ∙ h.1, limit, h.2)
no_graph p most graph BadSkip is limit h = absurd h
no_graph p most graph (NoFormat name) is limit h = absurd h
no_graph p most graph Memory is limit h = tt

-- a first document without a format is that of the matches
pub no_form : (p : Entered) (word : Text) (first : Option Text) (fault : WordsFault) → first_of (codes "format") p.1 ≡ Some word →
    first ≡ first_of (codes "file") p.1
    → NoFormOf word (name_by first) fault → NoTaskBy p fault
no_form p word first (Usage e) given is h = absurd h
no_form p word first BadBase given is h = absurd h
no_form p word first BadNodePrefix given is h = absurd h
no_form p word first BadGraph given is h = absurd h
no_form p word first BadSkip given is h = absurd h
no_form p word first (NoFormat at) given is h =
    record { word = word; given = given; formless = subst (IsFormless word) (sym h.0) h.1; named = inl (h.0 ∙ ap name_by is) }
no_form p word first Memory given is h = tt

-- so is a further one
pub no_forms : (p : Entered) (word : Text) (more : List Text) (fault : WordsFault) → first_of (codes "format") p.1 ≡ Some word
    → more ≡ further_by p.0 (all_of (codes "file") p.1) → NoFormsOf word more fault → NoTaskBy p fault
no_forms p word more (Usage e) given is h = absurd h
no_forms p word more BadBase given is h = absurd h
no_forms p word more BadNodePrefix given is h = absurd h
no_forms p word more BadGraph given is h = absurd h
no_forms p word more BadSkip given is h = absurd h
no_forms p word more (NoFormat at) given is h =
    record { word = word; given = given; formless = h.0; named = inr (h.1.0, h.1.1, sym is ∙ h.1.2) }
no_forms p word more Memory given is h = tt

-- a file for bad lines that is none is that of the matches
pub no_skip : (p : Entered) (word : Text) (f : Form) (skip : Option Text) (further : List Text) (fault : WordsFault) → first_of (codes "format") p.1 ≡ Some word
    → IsFormBy word (name_by (first_of (codes "file") p.1)) f → skip ≡ first_of (codes "skip") p.1 → further ≡ further_by p.0 (all_of (codes "file") p.1)
    → NoSkipOf f further skip fault → NoTaskBy p fault
no_skip p word f skip further (Usage e) given form is are h = absurd h
no_skip p word f skip further BadBase given form is are h = absurd h
no_skip p word f skip further BadNodePrefix given form is are h = absurd h
no_skip p word f skip further BadGraph given form is are h = absurd h
no_skip p word f skip further BadSkip given form is are h =
    record { given = (h.0.0, sym is ∙ h.0.1); word = word; format = given; form = f; is_form = form; bad = λ can. h.1 (subst (CanSkip f) (sym are) can) }
no_skip p word f skip further (NoFormat at) given form is are h = absurd h
no_skip p word f skip further Memory given form is are h = tt

-- ---- documents

-- a name that has no format is among the names
pub formless_among : (word name : Text) (front rest names : List Text) (fault : WordsFault) → names ≡ front ++ name ∷ rest →
    NoFormOf word name fault → NoFormsOf word names fault
formless_among word name front rest names (Usage e) is h = absurd h
formless_among word name front rest names BadBase is h = absurd h
formless_among word name front rest names BadNodePrefix is h = absurd h
formless_among word name front rest names BadGraph is h = absurd h
formless_among word name front rest names BadSkip is h = absurd h
formless_among word name front rest names (NoFormat at) is h =
    (subst (IsFormless word) (sym h.0) h.1, (front, rest, is ∙ ap (λ n. front ++ n ∷ rest) (sym h.0)))
formless_among word name front rest names Memory is h = tt

-- the text behind a reference
abbrev pub now_of : Bor Text → Text
now_of s = s.now

-- with a document more those of fewer names are left
pub next_document : (word : Text) (all : List Text) (left rest : List (Bor Text)) (x : Bor Text) (docs : List Document) (d : Document) → left ≡ x ∷ rest
    → IsFormBy word x.now d.form → string_bytes d.name ≡ x.now
    → ((tail : List (Form × Text)) → AreDocuments word (map (λ s. s.now) left) tail → AreDocuments word all (further_of docs ++ tail))
    → (tail : List (Form × Text)) → AreDocuments word (map (λ s. s.now) rest) tail → AreDocuments word all (further_of (docs ++ d ∷ []) ++ tail)
next_document word all left rest x docs d is form name before tail are =
    let more : List (Form × Text) = (d.form, string_bytes d.name) ∷ tail in
    subst (AreDocuments word all) same (before more (subst (λ names. AreDocuments word (map now_of names) more) (sym is) ((form, name), are)))
  where
    same : further_of docs ++ ((d.form, string_bytes d.name) ∷ tail) ≡ further_of (docs ++ d ∷ []) ++ tail
    same = sym (ap (λ xs. xs ++ tail) (map-append _ docs (d ∷ [])) ∙ append_assoc (further_of docs) ((d.form, string_bytes d.name) ∷ []) tail)

-- a name at its place among all
pub name_among : (names : List (Bor Text)) (i : ℕ) (x : Bor Text) (rest : List (Bor Text)) → drop i names ≡ x ∷ rest
    → map now_of names ≡ map now_of (take i names) ++ x.now ∷ map now_of rest
name_among names i x rest is =
    sym (ap (map now_of) (take-append-drop i names))
    ∙ (map-append now_of (take i names) (drop i names) ∙ ap (λ ys. map now_of (take i names) ++ map now_of ys) is)
