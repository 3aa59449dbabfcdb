-- Where clap finds no fault with a word, the rows that it holds pass after the word as before, and a subcommand that the word names is not `help`.
use Rattle.rdf_command.proofs.Prelude.{◌≡◌, ◌&&◌, ℕ, Bool, zero, suc, true, false, not, true≢false, refl, ap, List, [], ◌∷◌, length, drop, Option, Some, None, is_some, fold, cond, bytes_eq, codes, chars, encode_utf8, slice_get, IfSome, option_map_or, Held, Outcome, Step, Waiting, Walk, after_flag, after_step, arg_by_id, arg_by_index, arg_by_long, arg_by_short, attached_value, bundle, bundle_met, bundle_step, done, flag_met, idle, is_pending, long_met, long_or_other, next, option, option_met, option_word, plain, plain_word, positional, pushed, reacted, refused, settled, settled_rows, short_met, short_or_plain, subcommand, subcommand_met, subcommand_or_other, takes_several, takes_values, to_positional, trailing, used_by_id, value, waits, walked, walked_from, word_met, Shape, Kinds, or_else, bundle_fault, bundle_step_fault, flag_word_fault, flags_fault, long_fault, option_fault, other_fault, positional_fault, react_fault, settle_fault, short_fault, step_fault, turn_fault, use_fault, walk_fault, word_fault, DisplayHelp, InvalidSubcommand, TooManyValues}
use Rattle.clap.specs.Lexer.{long_of, short_of}
use Rattle.clap.specs.Walk.{Names, Rule, Text}
use Rattle.rdf_command.proofs.RowLemmas.{Each, IsRead, RowsPass, found_holds, no_kind, some_kind, used-passes}

-- ---- one use

module _ (c : List Rule) (again : Bool) (read : Each (IsRead c) c) where
  pub settled-passes : (h : Held) → settle_fault c again h ≡ [] → RowsPass c h.rows → RowsPass c (settled c h).rows
  settled-passes h e rows = go h.pending e
    where
      use_by : (o : Option Rule) (values : List Text) → IfSome o (IsRead c) →
          option_map_or (λ a. use_fault again a values h.rows) o [] ≡ [] → RowsPass c (used_by_id o values h.rows)
      use_by None values is e = rows
      use_by (Some a) values is e = used-passes c again a values h.rows is e rows

      go : (p : Option (Text × List Text)) → option_map_or (λ q. option_map_or (λ a. use_fault again a q.1 h.rows) (arg_by_id c q.0) []) p
          [] ≡ [] → RowsPass c (settled_rows c p h.rows)
      go None e = rows
      go (Some q) e = use_by (arg_by_id c q.0) q.1 (found_holds (IsRead c) _ c read) e

  reacted-passes : (a : Rule) (values : List Text) (h : Held) → IsRead c a → react_fault c again a values h ≡ [] → RowsPass c h.rows →
      RowsPass c (reacted c a values h).rows
  reacted-passes a values h is e rows =
      let parts = no_kind (settle_fault c again h) (use_fault again a values (settled c h).rows) e in
      used-passes c again a values (settled c h).rows is parts.1 (settled-passes h parts.0 rows)

  option-passes : (a : Rule) (v : Option Text) (h : Held) → IsRead c a → option_fault c again a v h ≡ [] → RowsPass c h.rows →
      RowsPass c (option_met c a v h).0.rows
  option-passes a (Some v) h is e rows = reacted-passes a (v ∷ []) h is e rows
  option-passes a None h is e rows = settled-passes h e rows

  flag-passes : (a : Rule) (v : Option Text) (h : Held) → IsRead c a → cond (is_some v) (TooManyValues ∷ []) (react_fault c again a [] h)
      ≡ [] → RowsPass c h.rows → RowsPass c (flag_met c a v h).0.rows
  flag-passes a (Some v) h is e rows = rows
  flag-passes a None h is e rows = reacted-passes a [] h is e rows

  long-passes : (o : Option Rule) (v : Option Text) (h : Held) → IfSome o (IsRead c) → long_fault c again o v h ≡ [] → RowsPass c h.rows →
      RowsPass c (long_met c o v h).0.rows
  long-passes None v h is e rows = rows
  long-passes (Some a) v h is e rows = go (takes_values a) e
    where
      go : (b : Bool) → cond b (option_fault c again a v h) (cond (is_some v) (TooManyValues ∷ []) (react_fault c again a [] h)) ≡ []
          → RowsPass c (cond b (option_met c a v h) (flag_met c a v h)).0.rows
      go true e = option-passes a v h is e rows
      go false e = flag-passes a v h is e rows

  -- ---- a bundle of flags

  short-passes : (o : Option Rule) (rest : Text) (h : Held) (fault : Held → Kinds) (then : Held → Held × Outcome) → IfSome o (IsRead c)
      → ((now : Held) → fault now ≡ [] → RowsPass c now.rows → RowsPass c (then now).0.rows)
      → short_fault c again o rest h fault ≡ [] → RowsPass c h.rows → RowsPass c (short_met c o rest h then).0.rows
  short-passes None rest h fault then is later e rows = rows
  short-passes (Some a) rest h fault then is later e rows = go (takes_values a) e
    where
      go : (b : Bool) → cond b (option_fault c again a (attached_value rest) h) (or_else (react_fault c again a [] h) (fault (reacted c a [] h))) ≡ []
          → RowsPass c (cond b (option_met c a (attached_value rest) h) (then (reacted c a [] h))).0.rows
      go true e = option-passes a (attached_value rest) h is e rows
      go false e =
          let parts = no_kind (react_fault c again a [] h) (fault (reacted c a [] h)) e in
          later (reacted c a [] h) parts.1 (reacted-passes a [] h is parts.0 rows)

  bundle_met-passes : (k : ℕ) (flags : Text) (skip : ℕ) (so_far : Outcome) (h : Held) → flags_fault c again k flags skip h ≡ [] → RowsPass c h.rows
      → RowsPass c (bundle_met c k flags skip so_far h).0.rows
  unfolding flags_fault bundle_met
  bundle_met-passes zero flags skip so_far h e rows = rows
  bundle_met-passes (suc k) flags skip so_far h e rows = go (slice_get (chars flags) 0) skip e (bundle_met-passes k)
    where
      go : (x : Option ℕ) (skip : ℕ) → bundle_step_fault c again x flags skip h (flags_fault c again k) ≡ []
          → ((flags : Text) (skip : ℕ) (so_far : Outcome) (h : Held) → flags_fault c again k flags skip h ≡ [] → RowsPass c h.rows →
          RowsPass c (bundle_met c k flags skip so_far h).0.rows)
          → RowsPass c (bundle_step c x flags skip so_far h (bundle_met c k)).0.rows
      go None skip e rest = rows
      go (Some x) zero e rest =
          short-passes (arg_by_short c x) (drop (length (encode_utf8 x)) flags) h _ (bundle_met c k (drop (length (encode_utf8 x)) flags) 0 done)
          (found_holds (IsRead c) _ c read) (rest (drop (length (encode_utf8 x)) flags) 0 done) e rows
      go (Some x) (suc skip) e rest = rest (drop (length (encode_utf8 x)) flags) skip so_far h e rows

  -- ---- a word

  option_word-passes : (o : Option Rule) (id word : Text) (h : Held) → RowsPass c h.rows → RowsPass c (option_word o id word h).0.rows
  option_word-passes None id word h rows = rows
  option_word-passes (Some a) id word h rows = rows

  plain-passes : (waiting : Waiting) (word : Text) (h : Held) → RowsPass c h.rows → RowsPass c (plain_word c waiting word h).0.rows
  plain-passes idle word h rows = rows
  plain-passes positional word h rows = rows
  plain-passes (option id) word h rows = option_word-passes (arg_by_id c id) id word h rows

  after_flag-passes : (waiting : Waiting) (word : Text) (h : Held) (o : Outcome) → RowsPass c h.rows → RowsPass c (after_flag c waiting word h o).0.rows
  after_flag-passes waiting word h done rows = rows
  after_flag-passes waiting word h (waits id) rows = rows
  after_flag-passes waiting word h plain rows = plain-passes waiting word h rows
  after_flag-passes waiting word h refused rows = plain-passes waiting word h rows

  short_or_plain-passes : (waiting : Waiting) (word : Text) (o : Option Text) (h : Held) →
      option_map_or (λ flags. bundle_fault c again flags h) o [] ≡ [] → RowsPass c h.rows
      → RowsPass c (short_or_plain c waiting word o h).0.rows
  short_or_plain-passes waiting word None h e rows = plain-passes waiting word h rows
  short_or_plain-passes waiting word (Some flags) h e rows =
      after_flag-passes waiting word (bundle c flags h).0 (bundle c flags h).1
      (bundle_met-passes (length flags) flags h.skip plain (record h { skip = 0 }) e rows)

  long_or_other-passes : (waiting : Waiting) (word : Text) (o : Option (Text × Option Text)) (h : Held) →
      flag_word_fault c again o word h ≡ [] → RowsPass c h.rows
      → RowsPass c (long_or_other c waiting word o h).0.rows
  long_or_other-passes waiting word (Some p) h e rows =
      let met = long_met c (arg_by_long c p.0) p.1 h in
      after_flag-passes waiting word met.0 met.1 (long-passes (arg_by_long c p.0) p.1 h (found_holds (IsRead c) _ c read) e rows)
  long_or_other-passes waiting word None h e rows = short_or_plain-passes waiting word (short_of word) h e rows

module _ (s : Shape) (names : Names) (read : Each (IsRead s.rules) s.rules) where
  other-passes : (met : Option Text) (waiting : Waiting) (position : ℕ) (word : Text) (h : Held) → other_fault s met word h ≡ [] → RowsPass s.rules h.rows
      → RowsPass s.rules (subcommand_or_other s.rules met waiting position word h).0.rows
  other-passes (Some name) waiting position word h e rows = rows
  other-passes None waiting position word h e rows = go (bytes_eq word (45 ∷ 45 ∷ [])) e
    where
      go : (b : Bool) → cond b [] (flag_word_fault s.rules s.args_override_self (long_of word) word h) ≡ []
          → RowsPass s.rules (cond b (h, trailing position) (long_or_other s.rules waiting word (long_of word) h)).0.rows
      go true e = rows
      go false e = long_or_other-passes s.rules s.args_override_self read waiting word (long_of word) h e rows

  word-passes : (is_trailing : Bool) (waiting : Waiting) (position : ℕ) (word : Text) (h : Held) →
      word_fault s names is_trailing waiting word h ≡ [] → RowsPass s.rules h.rows
      → RowsPass s.rules (word_met s.rules names is_trailing waiting position word h).0.rows
  word-passes true waiting position word h e rows = rows
  word-passes false waiting position word h e rows = other-passes (subcommand_met names waiting word) waiting position word h e rows

  positional-passes : (o : Option Rule) (word : Text) (w : Walk) (h : Held) (stray : Kinds) →
      option_map_or (λ a. positional_fault s.rules s.args_override_self a h) o stray ≡ [] → RowsPass s.rules h.rows
      → RowsPass s.rules (to_positional s.rules o word w h).held.rows
  positional-passes None word w h stray e rows = rows
  positional-passes (Some a) word w h stray e rows = go (is_pending a h.pending && takes_several a) e
    where
      go : (b : Bool) → cond b [] (settle_fault s.rules s.args_override_self h) ≡ [] → RowsPass s.rules (pushed a.id word (cond b h (settled s.rules h))).rows
      go true e = rows
      go false e = settled-passes s.rules s.args_override_self read h e rows

  step-passes : (step : Step) (word : Text) (w : Walk) (h : Held) → step_fault s w.position h step ≡ [] → RowsPass s.rules h.rows →
      RowsPass s.rules (after_step s.rules word w h step).held.rows
  step-passes (next waiting) word w h e rows = rows
  step-passes (trailing position) word w h e rows = rows
  step-passes (subcommand name) word w h e rows = rows
  step-passes value word w h e rows = positional-passes (arg_by_index s.rules w.position) word w h _ e rows

  turn-passes : (w : Walk) (word : Text) → turn_fault s names w word ≡ [] → RowsPass s.rules w.held.rows →
      RowsPass s.rules (walked s.rules names w word).held.rows
  unfolding walked
  turn-passes w word e rows = go w.stopped e
    where
      met : Held × Step
      met = word_met s.rules names w.is_trailing w.waiting w.position word w.held

      go : (stopped : Option (Text × List Text)) → cond (is_some stopped) []
          (or_else (word_fault s names w.is_trailing w.waiting word w.held) (step_fault s w.position met.0 met.1)) ≡ []
          → RowsPass s.rules (walked_from s.rules names stopped w word).held.rows
      go (Some p) e = rows
      go None e =
          let parts = no_kind (word_fault s names w.is_trailing w.waiting word w.held) (step_fault s w.position met.0 met.1) e in
          step-passes met.1 word w met.0 parts.1 (word-passes w.is_trailing w.waiting w.position word w.held parts.0 rows)

  -- the rows at the end of the words pass
  pub walk-passes : (w : Walk) (words : List Text) → walk_fault s names w words ≡ [] → RowsPass s.rules w.held.rows →
      RowsPass s.rules (fold (walked s.rules names) w words).held.rows
  unfolding walk_fault
  walk-passes w [] e rows = rows
  walk-passes w (word ∷ rest) e rows =
      let parts = no_kind (turn_fault s names w word) (walk_fault s names (walked s.rules names w word) rest) e in
      walk-passes (walked s.rules names w word) rest parts.1 (turn-passes w word parts.0 rows)

-- ---- the subcommand

-- no subcommand was met, or one of another name than `help`
abbrev pub StopsNamed : Option (Text × List Text) → Type 0
StopsNamed stopped = IfSome stopped (λ p. bytes_eq p.0 (codes "help") ≡ false)

-- the word names a subcommand
abbrev names_subcommand : Step → Bool
names_subcommand (subcommand name) = true
names_subcommand _ = false

module _ (c : List Rule) where
  plain-names : (waiting : Waiting) (word : Text) (h : Held) → names_subcommand (plain_word c waiting word h).1 ≡ false
  plain-names idle word h = refl
  plain-names positional word h = refl
  plain-names (option id) word h = refl

  after_flag-names : (waiting : Waiting) (word : Text) (h : Held) (o : Outcome) → names_subcommand (after_flag c waiting word h o).1 ≡ false
  after_flag-names waiting word h done = refl
  after_flag-names waiting word h (waits id) = refl
  after_flag-names waiting word h plain = plain-names waiting word h
  after_flag-names waiting word h refused = plain-names waiting word h

  short_or_plain-names : (waiting : Waiting) (word : Text) (o : Option Text) (h : Held) → names_subcommand (short_or_plain c waiting word o h).1 ≡ false
  short_or_plain-names waiting word None h = plain-names waiting word h
  short_or_plain-names waiting word (Some flags) h = after_flag-names waiting word (bundle c flags h).0 (bundle c flags h).1

  long_or_other-names : (waiting : Waiting) (word : Text) (o : Option (Text × Option Text)) (h : Held) →
      names_subcommand (long_or_other c waiting word o h).1 ≡ false
  long_or_other-names waiting word (Some p) h = after_flag-names waiting word _ (long_met c (arg_by_long c p.0) p.1 h).1
  long_or_other-names waiting word None h = short_or_plain-names waiting word (short_of word) h

  -- after a step that names no subcommand the walk stands where it stood
  step-goes_on : (step : Step) (word : Text) (w : Walk) (h : Held) → names_subcommand step ≡ false → w.stopped ≡ None →
      (after_step c word w h step).stopped ≡ None
  step-goes_on (next waiting) word w h other none = none
  step-goes_on (trailing position) word w h other none = none
  step-goes_on (subcommand name) word w h other none = absurd (true≢false other)
  step-goes_on value word w h other none = go (arg_by_index c w.position)
    where
      go : (o : Option Rule) → (to_positional c o word w h).stopped ≡ None
      go None = none
      go (Some a) = refl

module _ (s : Shape) (names : Names) (offers : s.disable_help_subcommand ≡ false) where
  named : (name : Text) → cond (bytes_eq name (codes "help") && not s.disable_help_subcommand) (DisplayHelp ∷ InvalidSubcommand ∷ []) []
      ≡ [] → bytes_eq name (codes "help") ≡ false
  named name e = go (bytes_eq name (codes "help")) (rw offers at e)
    where
      go : (b : Bool) → cond (b && true) (DisplayHelp ∷ InvalidSubcommand ∷ []) [] ≡ [] → b ≡ false
      go true e = absurd (some_kind _ _ e)
      go false e = refl

  none-named : (o : Option (Text × List Text)) → o ≡ None → StopsNamed o
  none-named None e = tt
  none-named (Some p) e = absurd (true≢false (ap is_some e))

  other-named : (met : Option Text) (word : Text) (w : Walk) → w.stopped ≡ None → other_fault s met word w.held ≡ []
      → StopsNamed (after_step s.rules word w (subcommand_or_other s.rules met w.waiting w.position word w.held).0
      (subcommand_or_other s.rules met w.waiting w.position word w.held).1).stopped
  other-named (Some name) word w none e = named name e
  other-named None word w none e = go (bytes_eq word (45 ∷ 45 ∷ []))
    where
      go : (b : Bool) → StopsNamed
          (after_step s.rules word w (cond b (w.held, trailing w.position) (long_or_other s.rules w.waiting word (long_of word) w.held)).0
          (cond b (w.held, trailing w.position) (long_or_other s.rules w.waiting word (long_of word) w.held)).1).stopped
      go true = none-named _ none
      go false = none-named _ (step-goes_on s.rules _ word w _ (long_or_other-names s.rules w.waiting word (long_of word) w.held) none)

  word-named : (is_trailing : Bool) (word : Text) (w : Walk) → w.stopped ≡ None → word_fault s names is_trailing w.waiting word w.held ≡ []
      → StopsNamed (after_step s.rules word w (word_met s.rules names is_trailing w.waiting w.position word w.held).0
      (word_met s.rules names is_trailing w.waiting w.position word w.held).1).stopped
  word-named true word w none e = none-named _ (step-goes_on s.rules value word w w.held refl none)
  word-named false word w none e = other-named (subcommand_met names w.waiting word) word w none e

  turn-named : (w : Walk) (word : Text) → turn_fault s names w word ≡ [] → StopsNamed w.stopped → StopsNamed (walked s.rules names w word).stopped
  unfolding walked
  turn-named w word e named = go w.stopped refl e named
    where
      met : Held × Step
      met = word_met s.rules names w.is_trailing w.waiting w.position word w.held

      go : (stopped : Option (Text × List Text)) → w.stopped ≡ stopped
          → cond (is_some stopped) [] (or_else (word_fault s names w.is_trailing w.waiting word w.held) (step_fault s w.position met.0 met.1)) ≡ []
          → StopsNamed stopped → StopsNamed (walked_from s.rules names stopped w word).stopped
      go (Some p) is e named = named
      go None is e named = word-named w.is_trailing word w is
          (no_kind (word_fault s names w.is_trailing w.waiting word w.held) (step_fault s w.position met.0 met.1) e).0

  -- the subcommand that the words name is not `help`
  pub walk-named : (w : Walk) (words : List Text) → walk_fault s names w words ≡ [] → StopsNamed w.stopped →
      StopsNamed (fold (walked s.rules names) w words).stopped
  unfolding walk_fault
  walk-named w [] e named = named
  walk-named w (word ∷ rest) e named =
      let parts = no_kind (turn_fault s names w word) (walk_fault s names (walked s.rules names w word) rest) e in
      walk-named (walked s.rules names w word) rest parts.1 (turn-named w word parts.0 named)
