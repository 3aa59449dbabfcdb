-- What a parse without a fault leaves at a level: the rows pass, and each argument that has a default or is required has a row.
use Rattle.rdf_command.proofs.Prelude.{◌≡◌, ◌∙◌, ◌<◌, ◌&&◌, ◌||◌, ◌⊎◌, Bool, true, false, not, true≢false, refl, sym, subst, arith, inl, inr, eqb-true, List, [], ◌∷◌, ◌++◌, length, Option, Some, None, is_some, find, fold, cond, bytes_eq, codes, option_map, IfSome, list_any, option_map_or, bytes_eq-Decides, action_of, answers_to, arg_by_id, finished, has_row, is_empty, nothing_held, reading_by, default_rows, rows_after, settled, stronger, walk, walk_from, with_default, with_values, Shape, entered, label_of, names_of, rows_at, check_kinds, request_kinds, built_fault, check_fault, default_fault, defaults_fault, entered_fault, given_default_fault, level_fault, settle_fault, values_fault, walk_fault}
use Rattle.std.proofs.lemmas.Bool.{or_right}
use Rattle.clap.specs.Facts.{explicit_source}
use Rattle.clap.specs.Walk.{Row, Rule, Text}
use Rattle.clap.specs.Simple.{App}
use Rattle.clap.specs.Takes.{is_given}
use Rattle.clap.specs.declared.builder.value_parser.Reading.{Reading}
use Rattle.clap.specs.declared.parser.matches.ValueSource.{ValueSource}
use Rattle.clap.specs.declared.parser.matches.ValueSource.TheVariants.{DefaultValue}
use Rattle.rdf_command.proofs.RowLemmas.{Each, IsRead, RowsPass, found_holds, no_kind, same_text, some_kind, values_passed, with_values-passes}
use Rattle.rdf_command.proofs.WalkLemmas.{StopsNamed, settled-passes, walk-named, walk-passes}

-- ---- rows that stay

-- values that are added for one argument keep the rows of all others
with_values-keeps : (id key : Text) (how : Reading) (s : ValueSource) (values : List Text) (rows : List Row) → has_row id rows ≡ true →
    has_row id (with_values key how s values rows) ≡ true
with_values-keeps id key how s values [] has = absurd (true≢false (sym has))
with_values-keeps id key how s values (r ∷ rs) has = go (bytes_eq r.id key) (with_values-keeps id key how s values rs)
  where
    other : (b : Bool) → (b || has_row id rs) ≡ true → (has_row id rs ≡ true → has_row id (with_values key how s values rs) ≡ true) →
        (b || has_row id (with_values key how s values rs)) ≡ true
    other true some rest = refl
    other false some rest = rest some

    go : (b : Bool) → (has_row id rs ≡ true → has_row id (with_values key how s values rs) ≡ true)
        → has_row id (cond b (record r { values = r.values ++ values; source = Some (stronger r.source s) } ∷ rs) (r ∷ with_values key how s values rs)) ≡ true
    go true rest = has
    go false rest = other (bytes_eq r.id id) has rest

-- values that are added for an argument give it a row
with_values-adds : (key : Text) (how : Reading) (s : ValueSource) (values : List Text) (rows : List Row) →
    has_row key (with_values key how s values rows) ≡ true
with_values-adds key how s values [] = rw ((bytes_eq-Decides key key).1 refl) refl
with_values-adds key how s values (r ∷ rs) = go (bytes_eq r.id key) refl (with_values-adds key how s values rs)
  where
    go : (b : Bool) → bytes_eq r.id key ≡ b → has_row key (with_values key how s values rs) ≡ true
        → has_row key (cond b (record r { values = r.values ++ values; source = Some (stronger r.source s) } ∷ rs) (r ∷ with_values key how s values rs)) ≡ true
    go true e rest = rw e refl
    go false e rest = or_right (bytes_eq r.id key) _ rest

-- ---- defaults

-- a default keeps the rows that are there
default-keeps : (id : Text) (a : Rule) (rows : List Row) → has_row id rows ≡ true → has_row id (with_default rows a) ≡ true
default-keeps id a rows has = go (has_row a.id rows) a.defaults
  where
    go : (b : Bool) (defaults : List Text) → has_row id (cond b rows (default_rows a.id (reading_by a) defaults rows)) ≡ true
    go true defaults = has
    go false [] = has
    go false (v ∷ vs) = with_values-keeps id a.id (reading_by a) DefaultValue (v ∷ vs) rows has

-- a default gives its argument a row
default-adds : (a : Rule) (rows : List Row) → 0 < length a.defaults → has_row a.id (with_default rows a) ≡ true
default-adds a rows some = go (has_row a.id rows) refl a.defaults some
  where
    go : (b : Bool) → has_row a.id rows ≡ b → (defaults : List Text) → 0 < length defaults →
        has_row a.id (cond b rows (default_rows a.id (reading_by a) defaults rows)) ≡ true
    go true e defaults some = e
    go false e [] some = absurd (omega arith)
    go false e (v ∷ vs) some = with_values-adds a.id (reading_by a) DefaultValue (v ∷ vs) rows

-- a text with a byte is not empty
not_empty : (v : Text) (vs : List Text) → is_empty (v ∷ vs) ≡ false
not_empty v vs = go (is_empty (v ∷ vs)) refl
  where
    go : (b : Bool) → is_empty (v ∷ vs) ≡ b → is_empty (v ∷ vs) ≡ false
    go true e = let none : length (v ∷ vs) ≡ 0 = eqb-true _ _ e in absurd (omega arith)
    go false e = e

-- a default that has no fault passes its test
default-passes : (c : List Rule) (a : Rule) (rows : List Row) → arg_by_id c a.id ≡ Some a → default_fault rows a ≡ [] → RowsPass c rows →
    RowsPass c (with_default rows a)
default-passes c a rows known e h = go (has_row a.id rows) a.defaults e
  where
    values_pass : (v : Text) (vs : List Text) → cond (is_empty (v ∷ vs)) [] (given_default_fault a (v ∷ vs)) ≡ [] → values_fault a (v ∷ vs) ≡ []
    values_pass v vs none = (no_kind (request_kinds (action_of a)) (values_fault a (v ∷ vs)) (rw (not_empty v vs) at none)).1

    go : (b : Bool) (defaults : List Text) → cond (b || is_empty defaults) [] (given_default_fault a defaults) ≡ [] →
        RowsPass c (cond b rows (default_rows a.id (reading_by a) defaults rows))
    go true defaults e = h
    go false [] e = h
    go false (v ∷ vs) e =
        let some : 0 < length (v ∷ vs) = omega arith in
        with_values-passes c a known (reading_by a) DefaultValue (v ∷ vs) rows (some, values_passed a (v ∷ vs) (values_pass v vs e)) h

-- all defaults keep the rows that are there
defaults-keep : (id : Text) (rules : List Rule) (rows : List Row) → has_row id rows ≡ true → has_row id (fold with_default rows rules) ≡ true
defaults-keep id [] rows has = has
defaults-keep id (a ∷ rest) rows has = defaults-keep id rest (with_default rows a) (default-keeps id a rows has)

-- the defaults give each of their arguments a row
defaults-add : (rules : List Rule) (rows : List Row) → Each (λ a. 0 < length a.defaults → has_row a.id (fold with_default rows rules) ≡ true) rules
defaults-add [] rows = tt
defaults-add (a ∷ rest) rows = (λ some. defaults-keep a.id rest (with_default rows a) (default-adds a rows some), defaults-add rest (with_default rows a))

-- all of them pass, where no fault is found
defaults-pass : (c rules : List Rule) (rows : List Row) → Each (IsRead c) rules → defaults_fault rows rules ≡ [] → RowsPass c rows →
    RowsPass c (fold with_default rows rules)
unfolding defaults_fault
defaults-pass c [] rows read e h = h
defaults-pass c (a ∷ rest) rows read e h =
    let parts = no_kind (default_fault rows a) (defaults_fault (with_default rows a) rest) e in
    defaults-pass c rest (with_default rows a) read.1 parts.1 (default-passes c a rows read.0.0 parts.0 h)

-- ---- what is required

-- an argument that was given has a row
given-has : (id : Text) (rows : List Row) → is_given id rows ≡ true → has_row id rows ≡ true
given-has id [] e = absurd (true≢false (sym e))
given-has id (r ∷ rs) e = go (bytes_eq r.id id) e (given-has id rs)
  where
    go : (b : Bool) → option_map_or (λ x. explicit_source x.source) (cond b (Some r) (find (λ x. bytes_eq x.id id) rs)) false ≡ true →
        (is_given id rs ≡ true → has_row id rs ≡ true)
        → (b || has_row id rs) ≡ true
    go true e rest = refl
    go false e rest = rest e

-- an argument that is required has a row, where no fault is found
required-has : (rules : List Rule) (rows : List Row) → list_any (λ a. a.required && not (is_given a.id rows)) rules ≡ false →
    Each (λ a. a.required ≡ true → has_row a.id rows ≡ true) rules
required-has [] rows e = tt
required-has (a ∷ rest) rows e =
    (λ needed. given-has a.id rows (go a.required (is_given a.id rows) (or_false _ _ e).0 needed), required-has rest rows (or_false _ _ e).1)
  where
    or_false : (x y : Bool) → (x || y) ≡ false → (x ≡ false) × (y ≡ false)
    or_false true y e = absurd (true≢false e)
    or_false false y e = (refl, e)

    go : (needs given : Bool) → (needs && not given) ≡ false → needs ≡ true → given ≡ true
    go needs true e needed = refl
    go true false e needed = absurd (true≢false e)
    go false false e needed = absurd (true≢false (sym needed))

-- no fault means that nothing is missing
no_check : (help subcommand argument : Bool) → check_kinds help subcommand argument ≡ [] → (subcommand ≡ false) × (argument ≡ false)
no_check true subcommand argument e = absurd (some_kind _ _ e)
no_check false true argument e = absurd (some_kind _ _ e)
no_check false false true e = absurd (some_kind _ _ e)
no_check false false false e = (refl, refl)

-- ---- a level

-- what holds of the rows of a level without a fault
pub record LevelHolds (c : List Rule) (rows : List Row) : Type 0 where
  pub pass : RowsPass c rows
  pub defaults : Each (λ a. 0 < length a.defaults → has_row a.id rows ≡ true) c
  pub required : Each (λ a. a.required ≡ true → has_row a.id rows ≡ true) c

-- after each parse without a fault the rows pass, and what is required is there
pub level-holds : (s : Shape) (words : List Text) → Each (IsRead s.rules) s.rules → s.subcommand_negates_reqs ≡ false →
    level_fault s [] nothing_held words false [] ≡ []
    → LevelHolds s.rules (rows_after s.rules [] words)
level-holds s words read always e =
    let end = (walk s.rules [] nothing_held words).held in
    let walks = no_kind (walk_fault s [] (walk_from nothing_held) words) _ e in
    let settles = no_kind (settle_fault s.rules s.args_override_self end) _ walks.1 in
    let ends = no_kind (defaults_fault (settled s.rules end).rows s.rules) (check_fault s (finished s.rules end) false) settles.1 in
    let walked = walk-passes s [] read (walk_from nothing_held) words walks.0 tt in
    let checked = (no_check _ _ _ ends.1).1 in
    record {
      pass = defaults-pass s.rules s.rules (settled s.rules end).rows read ends.0 (settled-passes s.rules s.args_override_self read end settles.0 walked);
      defaults = defaults-add s.rules (settled s.rules end).rows;
      required = required-has s.rules (finished s.rules end) (rw always at checked);
    }

-- ---- the subcommand

-- the subcommand `help` that clap adds
abbrev pub IsHelp : Shape → Type 0
IsHelp s = (s.name ≡ codes "help") × (s.aliases ≡ [])

-- a level that is no help, and what holds of its rows after the words
abbrev pub EntersAt : (Shape → Type 0) → Option (Text × List Row) → Type 0
EntersAt Q o = (s : Shape) × (words : List Text) × Q s × (o ≡ Some (s.name, rows_after s.rules [] words)) × LevelHolds s.rules (rows_after s.rules [] words)

-- what is found passes the test
found_passes : {X : Type 0} (test : X → Bool) (xs : List X) → IfSome (find test xs) (λ y. test y ≡ true)
found_passes test [] = tt
found_passes {X = X} test (y ∷ ys) = go (test y) refl (found_passes test ys)
  where
    go : (b : Bool) → test y ≡ b → IfSome (find test ys) (λ z. test z ≡ true) → IfSome (cond b (Some y) (find test ys)) (λ z. test z ≡ true)
    go true e rest = e
    go false e rest = rest

-- what is known to have been found passes the test
found_by : {X : Type 0} (test : X → Bool) (xs : List X) (x : X) → find test xs ≡ Some x → test x ≡ true
found_by test xs x is = subst (λ o. IfSome o (λ y. test y ≡ true)) is (found_passes test xs)

-- texts that differ do so either way round
not_reversed : (x y : Text) → bytes_eq x y ≡ false → bytes_eq y x ≡ false
not_reversed x y e = go (bytes_eq y x) refl
  where
    go : (b : Bool) → bytes_eq y x ≡ b → bytes_eq y x ≡ false
    go false is = is
    go true is = absurd (true≢false (sym ((bytes_eq-Decides x y).1 (sym (same_text y x is))) ∙ e))

-- A built command that needs a subcommand has met one, by the stop of its walk, where there is no fault.
module _ (a : App) (Q : Shape → Type 0) (ready : (s : Shape) → Q s → Each (IsRead s.rules) s.rules × (s.subcommand_negates_reqs ≡ false))
    (subs : Each (λ s. Q s ⊎ IsHelp s) a.subs) where
  found-enters : (stop : Text × List Text) (o : Option Shape) → find (λ s. answers_to stop.0 (label_of s)) a.subs ≡ o → StopsNamed (Some stop)
      → IfSome o (λ s. Q s ⊎ IsHelp s) → option_map_or (λ s. level_fault s [] nothing_held stop.1 false []) o [] ≡ [] →
      is_some (option_map (λ s. rows_at s stop.1) o) ≡ true
      → EntersAt Q (option_map (λ s. rows_at s stop.1) o)
  found-enters stop None is named h e some = absurd (true≢false (sym some))
  found-enters stop (Some s) is named (inl q) e some =
      let r = ready s q in
      (s, stop.1, q, refl, level-holds s stop.1 r.0 r.1 e)
  found-enters stop (Some s) is named (inr help) e some =
      absurd (true≢false (sym (found_by (λ s. answers_to stop.0 (label_of s)) a.subs s is)
      ∙ rw (help.0, help.1, not_reversed stop.0 (codes "help") named) refl))

  stop-enters : (stop : Option (Text × List Text)) → StopsNamed stop → entered_fault a stop ≡ [] → is_some (entered a stop) ≡ true → EntersAt Q (entered a stop)
  stop-enters None named e some = absurd (true≢false (sym some))
  stop-enters (Some p) named e some = found-enters p (find (λ s. answers_to p.0 (label_of s)) a.subs) refl named (found_holds _ _ a.subs subs) e some

  pub enters : (words : List Text) → a.top.subcommand_required ≡ true → a.top.disable_help_subcommand ≡ false → built_fault a nothing_held words ≡ []
      → EntersAt Q (entered a (walk a.top.rules (names_of a) nothing_held words).stopped)
  enters words needs offers e =
      let stop = (walk a.top.rules (names_of a) nothing_held words).stopped in
      let end = (walk a.top.rules (names_of a) nothing_held words).held in
      let walks = no_kind (walk_fault a.top (names_of a) (walk_from nothing_held) words) _ e in
      let below = no_kind (entered_fault a stop) _ walks.1 in
      let settles = no_kind (settle_fault a.top.rules a.top.args_override_self end) _ below.1 in
      let ends = no_kind (defaults_fault (settled a.top.rules end).rows a.top.rules) _ settles.1 in
      let checked = (no_check _ _ _ ends.1).0 in
      stop-enters stop (walk-named a.top (names_of a) offers (walk_from nothing_held) words walks.0 tt) below.0
      (met (is_some (entered a stop)) (rw needs at checked))
    where
      met : (b : Bool) → (not b && true) ≡ false → b ≡ true
      met true e = refl
      met false e = absurd (true≢false e)
