-- Where clap finds no fault with a use of an argument, the values that it keeps passed the argument's test.
use Rattle.rdf_command.proofs.Prelude.{◌≡◌, ◌∙◌, ◌<◌, ◌||◌, ◌⊎◌, ℕ, Bool, true, false, true≢false, refl, sym, ap, subst, arith, List, [], ◌∷◌, ◌++◌, length, Some, find, cond, bytes_eq, eqb-true, length-append, inl, inr, unwrap_or, ◌+◌, ◌==◌, option_and_then, slice_get, IfSome, list_all, bytes_eq-Decides, action_of, arg_by_id, at_row, has_row, more_values, most_values, reading_by, used, used_as, values_or_missing, with_values, without, Kinds, or_else, range_kinds, values_kinds, value_kinds, action_fault, use_fault, values_fault, ValueParser, InvalidValue, WrongNumberOfValues, both}
use Rattle.std.proofs.lemmas.List.Folds.{list_all-append}
use Rattle.clap.specs.Walk.{Row, Rule, Text, first_of}
use Rattle.clap.specs.Facts.{unwrap_or_range, parser_of_value}
use Rattle.clap.specs.Takes.{value_passes, values_pass}
use Rattle.clap.specs.Values.{refused_kind}
use Rattle.clap.specs.ValueTests.{accepts}
use Rattle.clap.specs.declared.builder.action.ArgAction.TheVariants.{Append, Set, SetTrue, Help}
use Rattle.clap.specs.declared.parser.matches.ValueSource.{ValueSource}
use Rattle.clap.specs.declared.parser.matches.ValueSource.TheVariants.{CommandLine}
use Rattle.clap.specs.declared.builder.value_parser.Reading.{Reading}
use Rattle.clap.specs.declared.error.kind.ErrorKind.{ErrorKind}

-- ---- each element of a list

-- a property of each element of a list
abbrev pub Each : {X : Type 0} → (X → Type 0) → List X → Type 0
Each P [] = Unit {0}
Each P (x ∷ xs) = P x × Each P xs

-- what holds of each element of a list holds of one that is found in it
pub found_holds : {X : Type 0} (P : X → Type 0) (test : X → Bool) (xs : List X) → Each P xs → IfSome (find test xs) P
found_holds P test [] h = tt
found_holds P test (x ∷ xs) h = go (test x) (found_holds P test xs h.1)
  where
    go : (b : Bool) → IfSome (find test xs) P → IfSome (cond b (Some x) (find test xs)) P
    go true rest = h.0
    go false rest = rest

-- ---- kinds of faults

-- some fault was found
has_kind : Kinds → Bool
has_kind [] = false
has_kind (k ∷ ks) = true

-- a list with a fault is not empty
pub some_kind : (k : ErrorKind) (ks : Kinds) → k ∷ ks ≡ [] → ⊥
unfolding has_kind
some_kind k ks e = true≢false (ap has_kind e)

-- two lists without a fault have none each
pub no_kind : (a b : Kinds) → or_else a b ≡ [] → (a ≡ []) × (b ≡ [])
no_kind [] b e = (refl, e)
no_kind (k ∷ ks) b e = absurd (some_kind k ks e)

-- values without a fault are accepted
values_ok : (i : Bool) (p : ValueParser) (vs : List Text) → values_kinds i p vs ≡ [] → list_all (accepts i p) vs ≡ true
values_ok i p [] e = refl
values_ok i p (v ∷ vs) e =
    let parts = no_kind (value_kinds i p v) (values_kinds i p vs) e in
    rw (accepted (accepts i p v) parts.0) (values_ok i p vs parts.1)
  where
    accepted : (b : Bool) → (cond b [] (refused_kind p ∷ [])) ≡ [] → b ≡ true
    accepted true none = refl
    accepted false none = absurd (some_kind (refused_kind p) [] none)

-- the values of an argument that has no fault pass its test
pub values_passed : (a : Rule) (vs : List Text) → values_fault a vs ≡ [] → values_pass a vs ≡ true
values_passed a vs e = values_ok a.ignore_case (parser_of_value a.parser) vs e

-- ---- rows

-- there are values, and each passed the test of the argument
abbrev pub Passed : Rule → List Text → Type 0
Passed a values = (0 < length values) × (values_pass a values ≡ true)

-- the values of a row pass the test of its argument
abbrev pub RowPasses : List Rule → Row → Type 0
RowPasses c r = (a : Rule) → arg_by_id c r.id ≡ Some a → Passed a r.values

-- the values of all rows pass the tests of their arguments
abbrev pub RowsPass : List Rule → List Row → Type 0
RowsPass c rows = Each (RowPasses c) rows

-- texts that compare as equal are
pub same_text : (a b : Text) → bytes_eq a b ≡ true → a ≡ b
same_text a b = (bytes_eq-Decides a b).0

-- what holds of two lists holds of both together
each_append : {X : Type 0} (P : X → Type 0) (xs ys : List X) → Each P xs → Each P ys → Each P (xs ++ ys)
each_append P [] ys p q = q
each_append P (x ∷ xs) ys p q = (p.0, each_append P xs ys p.1 q)

-- whoever changes the first row of an id, or adds one, keeps that the rows pass
at_row-passes : (P : Row → Type 0) (id : Text) (change : Row → List Row) (missing rows : List Row) → Each P missing → Each P rows
    → ((r : Row) → r.id ≡ id → P r → Each P (change r)) → Each P (at_row id change missing rows)
at_row-passes P id change missing [] none h changed = none
at_row-passes P id change missing (r ∷ rs) none h changed = go (bytes_eq r.id id) refl (at_row-passes P id change missing rs none h.1 changed)
  where
    go : (b : Bool) → bytes_eq r.id id ≡ b → Each P (at_row id change missing rs) → Each P (cond b (change r ++ rs) (r ∷ at_row id change missing rs))
    go true e rest = each_append P (change r) rs (changed r (same_text r.id id e) h.0) h.1
    go false e rest = (h.0, rest)

-- rows that are left when one is removed pass
without-passes : (c : List Rule) (id : Text) (rows : List Row) → RowsPass c rows → RowsPass c (without id rows)
without-passes c id rows h = at_row-passes (RowPasses c) id (λ _. []) [] rows tt h (λ r e p. tt)

-- values that are added to values that pass do so too, if they pass
passed_also : (a : Rule) (xs ys : List Text) → Passed a xs → Passed a ys → Passed a (xs ++ ys)
passed_also a xs ys p q =
    let size : length (xs ++ ys) ≡ length xs + length ys = length-append xs ys in
    let pos : 0 < length xs = p.0 in
    (rw size (omega arith), list_all-append (value_passes a) xs ys ∙ rw (p.1, q.1) refl)

-- values that passed, at the row of their argument
module _ (c : List Rule) (a : Rule) (known : arg_by_id c a.id ≡ Some a) where
  some-same : (b : Rule) → arg_by_id c a.id ≡ Some b → a ≡ b
  some-same b e = ap (λ o. unwrap_or o a) (sym known ∙ e)

  values_pass-at : (id : Text) (values now : List Text) → id ≡ a.id → now ≡ values → Passed a values → (b : Rule) → arg_by_id c id ≡ Some b → Passed b now
  values_pass-at id values now is same p b e =
      subst (λ x. Passed x now) (some-same b (ap (arg_by_id c) (sym is) ∙ e)) (subst (Passed a) (sym same) p)

  pub with_values-passes : (how : Reading) (s : ValueSource) (values : List Text) (rows : List Row) → Passed a values → RowsPass c rows →
      RowsPass c (with_values a.id how s values rows)
  with_values-passes how s values rows p h =
      at_row-passes (RowPasses c) a.id (more_values s values) _ rows (values_pass-at a.id values values refl refl p, tt) h
      (λ r is old. (
        values_pass-at r.id (r.values ++ values) (r.values ++ values) is refl
            (passed_also a r.values values (old a (ap (arg_by_id c) is ∙ known)) p),
        tt,
      ))

-- a use of the argument has one value
abbrev pub HasOne : Rule → Type 0
HasOne a = ((unwrap_or_range a.range).start_inclusive ≡ 1) × (most_values a ≡ 1)

-- the argument takes one value
abbrev pub TakesOne : Rule → Type 0
TakesOne a = (action_of a ≡ Set) × HasOne a

-- the argument takes a value with each use
abbrev pub TakesMore : Rule → Type 0
TakesMore a = (action_of a ≡ Append) × HasOne a

-- the argument is a flag, and a use of it without a value stands for one
abbrev pub IsFlag : Rule → Type 0
IsFlag a = (action_of a ≡ SetTrue) × (0 < length a.missing)

-- the argument is found by its name, and takes one value or more, is a flag or asks for help
abbrev pub IsRead : List Rule → Rule → Type 0
IsRead c a = (arg_by_id c a.id ≡ Some a) × (TakesOne a ⊎ (IsFlag a ⊎ (TakesMore a ⊎ (action_of a ≡ Help))))

-- an argument that takes one value was given one
only_one : (n : ℕ) → range_kinds 1 1 n ≡ [] → n ≡ 1
only_one n e = go (n == 0) (1 == n) (eqb-true 1 n) e
  where
    go : (none one : Bool) → (one ≡ true → 1 ≡ n) → cond none (InvalidValue ∷ []) (cond one [] (WrongNumberOfValues ∷ [])) ≡ [] → n ≡ 1
    go true one is e = absurd (some_kind _ _ e)
    go false true is e = sym (is refl)
    go false false is e = absurd (some_kind _ _ e)

-- one value is the first and only one of its list
one_value : (values : List Text) → length values ≡ 1 → (v : Text) × (values ≡ v ∷ [])
one_value [] e = absurd (omega arith)
one_value (v ∷ []) e = (v, refl)
one_value (v ∷ w ∷ rest) e = absurd (omega arith)

-- a use of a flag has values
flag_value : (a : Rule) (values : List Text) → 0 < length a.missing → 0 < length (values_or_missing a values)
flag_value a [] some = some
flag_value a (v ∷ vs) some = omega arith

module _ (c : List Rule) (again : Bool) where
  -- a use without a fault keeps that the rows pass
  pub used-passes : (a : Rule) (values : List Text) (rows : List Row) → IsRead c a → use_fault again a values rows ≡ [] → RowsPass c rows →
      RowsPass c (used a values rows)
  used-passes a values rows read e h = go read.1
    where
      parts : (range_kinds (unwrap_or_range a.range).start_inclusive (most_values a) (length values) ≡ [])
          × (action_fault (action_of a) again a (values_or_missing a values) rows ≡ [])
      parts = no_kind _ _ e

      -- the one value of a use
      single : HasOne a → (v : Text) × (values_or_missing a values ≡ v ∷ [])
      single one =
          let range : range_kinds 1 1 (length values) ≡ [] = rw (one.0, one.1) at parts.0 in
          let found = one_value values (only_one (length values) range) in
          (found.0, ap (values_or_missing a) found.1)

      passed : HasOne a → values_fault a (values_or_missing a values) ≡ [] → Passed a (values_or_missing a values)
      passed one none = let some : 0 < length (values_or_missing a values) = rw (single one).1 (omega arith) in
          (some, values_passed a (values_or_missing a values) none)

      go : TakesOne a ⊎ (IsFlag a ⊎ (TakesMore a ⊎ (action_of a ≡ Help))) → RowsPass c (used a values rows)
      go (inr (inr (inr help))) = absurd (some_kind _ _ (ap (λ x. action_fault x again a (values_or_missing a values) rows) (sym help) ∙ parts.1))
      go (inr (inr (inl more))) =
          let each : action_fault Append again a (values_or_missing a values) rows ≡ [] =
          ap (λ x. action_fault x again a (values_or_missing a values) rows) (sym more.0) ∙ parts.1 in
          subst (λ x. RowsPass c (used_as x a.id (reading_by a) (values_or_missing a values) rows)) (sym more.0)
          (with_values-passes c a read.0 (reading_by a) CommandLine (values_or_missing a values) rows (passed more.1 each) h)
      go (inr (inl flag)) =
          let set : action_fault SetTrue again a (values_or_missing a values) rows ≡ [] =
          ap (λ x. action_fault x again a (values_or_missing a values) rows) (sym flag.0) ∙ parts.1 in
          let pass : Passed a (values_or_missing a values) = (flag_value a values flag.1, values_passed a (values_or_missing a values) (no_kind _ _ set).1) in
          subst (λ x. RowsPass c (used_as x a.id (reading_by a) (values_or_missing a values) rows)) (sym flag.0)
          (with_values-passes c a read.0 (reading_by a) CommandLine (values_or_missing a values) (without a.id rows) pass (without-passes c a.id rows h))
      go (inl one) =
          let set : action_fault Set again a (values_or_missing a values) rows ≡ [] =
          ap (λ x. action_fault x again a (values_or_missing a values) rows) (sym one.0) ∙ parts.1 in
          subst (λ x. RowsPass c (used_as x a.id (reading_by a) (values_or_missing a values) rows)) (sym one.0)
          (with_values-passes c a read.0 (reading_by a) CommandLine (values_or_missing a values) (without a.id rows)
          (passed one.1 (no_kind _ _ set).1) (without-passes c a.id rows h))

-- ---- what is read of rows that pass

-- an argument with a row has a first value, which passed
pub value-of : (c : List Rule) (a : Rule) (rows : List Row) → arg_by_id c a.id ≡ Some a → RowsPass c rows → has_row a.id rows ≡ true
    → (t : Text) × (first_of a.id rows ≡ Some t) × (value_passes a t ≡ true)
value-of c a [] known h has = absurd (true≢false (sym has))
value-of c a (r ∷ rs) known h has = go (bytes_eq r.id a.id) refl has (value-of c a rs known h.1)
  where
    first : (values : List Text) → Passed a values → (t : Text) × (slice_get values 0 ≡ Some t) × (value_passes a t ≡ true)
    first [] p = absurd (omega arith)
    first (v ∷ vs) p = (v, refl, (both _ _ p.1).0)

    go : (b : Bool) → bytes_eq r.id a.id ≡ b → (b || has_row a.id rs) ≡ true
        → (has_row a.id rs ≡ true → (t : Text) × (first_of a.id rs ≡ Some t) × (value_passes a t ≡ true))
        → (t : Text) × (option_and_then (λ (x : Row). slice_get x.values 0) (cond b (Some r) (find (λ x. bytes_eq x.id a.id) rs)) ≡ Some t)
        × (value_passes a t ≡ true)
    go true e some rest = first r.values (h.0 a (ap (arg_by_id c) (same_text r.id a.id e) ∙ known))
    go false e some rest = rest some
