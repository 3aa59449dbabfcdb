-- A parse of the program's words that finds no fault enters a subcommand with all that a task needs.
use Rattle.rdf_command.proofs.Prelude.{◌≡◌, ◌∙◌, ◌||◌, ◌⊎◌, Bool, true, false, true≢false, refl, sym, ap, subst, arith, inl, inr, List, [], ◌∷◌, ◌++◌, map, Option, Some, option_map, bytes_eq, codes, list_any, Bor, HasMatchesOf, fault_of, found_of, is_simple, is_simple_and_free, rows_of, subcommand_name_of, subcommand_of, subcommand_rows_of, rows_after, texts, Shape, argument_words, built, filled_from, help_rule, ValueParser, Unsigned, list_any-map, Form, action_app, ascii_rule, file_rule, files_rule, graph_rule, node_prefix_rule, output_rule, prefixes_rule, rdfconv, skip_rule, Entered, action_name, by_name, form_name, format_names, forms, HasLimits, IsEntered, IsFormatWord}
use Rattle.clap.specs.Words.{App, Row, Rule, Text, first_of}
use Rattle.clap.specs.declared.parser.matches.ArgMatches.{ArgMatches}
use Rattle.clap.specs.declared.builder.value_parser.ValueParser.TheVariants.{Names}
use Rattle.clap.proofs.OnLiterals.{clap_on_literals}
use Rattle.clap.proofs.ValueTestLemmas.{accepts-Accepts}
use Rattle.rdf_command.specs.declared.task.Action.{Action}
use Rattle.rdf_command.specs.declared.task.Action.TheVariants.{Check, Show, Convert}
use Rattle.rdf_command.proofs.RowLemmas.{Each, IsRead, same_text, value-of}
use Rattle.rdf_command.proofs.GivenLemmas.{pair_is, same_some}
use Rattle.rdf_command.proofs.LevelLemmas.{IsHelp, LevelHolds, enters}

-- a text among the words for forms is one
format_word : (forms : List Form) (text : Text) → list_any (λ name. bytes_eq name text) (map form_name forms ++ by_name ∷ []) ≡ true → IsFormatWord text
format_word [] text e = go (bytes_eq by_name text) refl e
  where
    go : (b : Bool) → bytes_eq by_name text ≡ b → (b || false) ≡ true → IsFormatWord text
    go true is e = inr (sym (same_text by_name text is))
    go false is e = absurd (true≢false (sym e))
format_word (f ∷ rest) text e = go (bytes_eq (form_name f) text) refl e (format_word rest text)
  where
    go : (b : Bool) → bytes_eq (form_name f) text ≡ b → (b || list_any (λ name. bytes_eq name text) (map form_name rest ++ by_name ∷ [])) ≡ true
        → (list_any (λ name. bytes_eq name text) (map form_name rest ++ by_name ∷ []) ≡ true → IsFormatWord text) → IsFormatWord text
    go true is e later = inl (f, same_text (form_name f) text is)
    go false is e later = later e

module _ (names : Bor (List (Bor Text))) (known : texts names.now ≡ format_names) where
  -- the options that an action has beside those of all
  abbrev own_rules : Action → List Rule
  own_rules Check = prefixes_rule ∷ skip_rule ∷ []
  own_rules Show = []
  own_rules Convert = prefixes_rule ∷ ascii_rule ∷ node_prefix_rule ∷ graph_rule ∷ output_rule ∷ skip_rule ∷ []

  -- what it reads
  abbrev reads : Action → Rule
  reads Check = files_rule
  reads Show = file_rule
  reads Convert = file_rule

  -- the options of a built subcommand
  abbrev options : Action → List Rule
  options a = filled_from 1 ((action_app (Names names) (reads a) []).top.rules ++ own_rules a ++ help_rule ∷ [])

  are_read : (a : Action) → Each (IsRead (options a)) (options a)
  unfolding clap_on_literals
  are_read Check =
      let set = inl (refl, (refl, refl)) in
      let flag = inr (inl (refl, omega arith)) in (
        (refl, set),
        (
          (refl, set),
          (
            (refl, set),
            (
              (refl, set),
              (
                (refl, set),
                (
                  (refl, set),
                  (
                    (refl, flag),
                    ((refl, inr (inr (inl (refl, (refl, refl))))), ((refl, set), ((refl, set), ((refl, inr (inr (inr refl))), tt)))),
                  ),
                ),
              ),
            ),
          ),
        ),
      )
  are_read Show =
      let set = inl (refl, (refl, refl)) in
      let flag = inr (inl (refl, omega arith)) in (
        (refl, set),
        (
          (refl, set),
          (
            (refl, set),
            (
              (refl, set),
              (
                (refl, set),
                (
                  (refl, set),
                  (
                    (refl, flag),
                    ((refl, set), ((refl, inr (inr (inr refl))), tt)),
                  ),
                ),
              ),
            ),
          ),
        ),
      )
  are_read Convert =
      let set = inl (refl, (refl, refl)) in
      let flag = inr (inl (refl, omega arith)) in (
        (refl, set),
        (
          (refl, set),
          (
            (refl, set),
            (
              (refl, set),
              (
                (refl, set),
                (
                  (refl, set),
                  (
                    (refl, flag),
                    (
                      (refl, set),
                      (
                        (refl, set),
                        ((refl, flag), ((refl, set), ((refl, set), ((refl, set), ((refl, set), ((refl, inr (inr (inr refl))), tt)))))),
                      ),
                    ),
                  ),
                ),
              ),
            ),
          ),
        ),
      )

  -- a built subcommand of the program
  abbrev IsAction : Shape → Type 0
  IsAction s = (a : Action) × (action_name a ≡ s.name) × (s.rules ≡ options a) × (s.subcommand_negates_reqs ≡ false)

  is_ready_leaf : (s : Shape) → IsAction s → Each (IsRead s.rules) s.rules × (s.subcommand_negates_reqs ≡ false)
  is_ready_leaf s is = (subst (λ rules. Each (IsRead rules) rules) (sym is.2) (are_read is.0), is.3)

  subcommands : Each (λ s. IsAction s ⊎ IsHelp s) (built (rdfconv (Names names))).subs
  unfolding clap_on_literals
  subcommands = (inl (Check, refl, refl, refl), (inl (Show, refl, refl, refl), (inl (Convert, refl, refl, refl), (inr (refl, refl), tt))))

  needs_subcommand : (built (rdfconv (Names names))).top.subcommand_required ≡ true
  unfolding clap_on_literals
  needs_subcommand = refl

  offers_help : (built (rdfconv (Names names))).top.disable_help_subcommand ≡ false
  unfolding clap_on_literals
  offers_help = refl

  module _ (a : Action) (rows : List Row) (holds : LevelHolds (options a) rows) where
    limits-of : HasLimits rows
    unfolding clap_on_literals
    limits-of =
        let token = value-of (options a) _ rows (are_read a).1.1.0.0 holds.pass (holds.defaults.1.1.0 (omega arith)) in
        let depth = value-of (options a) _ rows (are_read a).1.1.1.0.0 holds.pass (holds.defaults.1.1.1.0 (omega arith)) in
        let bindings = value-of (options a) _ rows (are_read a).1.1.1.1.0.0 holds.pass (holds.defaults.1.1.1.1.0 (omega arith)) in
        let iri = value-of (options a) _ rows (are_read a).1.1.1.1.1.0.0 holds.pass (holds.defaults.1.1.1.1.1.0 (omega arith)) in
        record {
          token = (token.0, token.1, accepts-Accepts false (Unsigned 1 268435456) token.0 token.2);
          depth = (depth.0, depth.1, accepts-Accepts false (Unsigned 0 1048576) depth.0 depth.2);
          bindings = (bindings.0, bindings.1, accepts-Accepts false (Unsigned 0 16777216) bindings.0 bindings.2);
          iri = (iri.0, iri.1, accepts-Accepts false (Unsigned 1 268435456) iri.0 iri.2);
        }

    format-of : (word : Text) × (first_of (codes "format") rows ≡ Some word) × IsFormatWord word
    unfolding clap_on_literals
    format-of =
        let format = value-of (options a) _ rows (are_read a).0.0 holds.pass (holds.defaults.0 (omega arith)) in
        let among : list_any (λ name. bytes_eq name format.0) (texts names.now) ≡ true =
        sym (list_any-map (λ name. bytes_eq name format.0) (λ (s : Bor Text). s.now) names.now) ∙ format.2 in
        (format.0, format.1, format_word forms format.0 (subst (λ xs. list_any (λ name. bytes_eq name format.0) xs ≡ true) known among))

  -- the subcommand that the words name, with its matches
  pub entered : (words : List Text) → fault_of (rdfconv (Names names)) words ≡ [] →
      (p : Entered) × (subcommand_of (rdfconv (Names names)) words ≡ Some p) × IsEntered p
  entered words none =
      let at = enters (built (rdfconv (Names names))) IsAction is_ready_leaf subcommands
      (argument_words (rdfconv (Names names)) words) needs_subcommand offers_help none in
      let rows = rows_after at.0.rules [] at.1 in
      let holds : LevelHolds (options at.2.0) rows = subst (λ rules. LevelHolds rules rows) at.2.2 at.4 in
      ((at.0.name, rows), at.3, record { action = (at.2.0, at.2.1); format = format-of at.2.0 rows holds; limits = limits-of at.2.0 rows holds })

  -- the same, of what a parse was seen to enter
  pub entered-at : (words : List Text) (p : Entered) → fault_of (rdfconv (Names names)) words ≡ [] →
      subcommand_of (rdfconv (Names names)) words ≡ Some p → IsEntered p
  entered-at words p none is =
      let met = entered words none in
      subst IsEntered (same_some met.0 p (sym met.1 ∙ is)) met.2

-- ---- a parse by the code

-- the command line is of the simple form for which clap says when a parse finds no fault
pub is_free : (f : ValueParser) → is_simple_and_free (rdfconv f) ≡ true
unfolding clap_on_literals
is_free f = refl

-- the command line is of the form for which clap says what a parse gives
is_ready : (f : ValueParser) → is_simple (rdfconv f) ≡ true
unfolding clap_on_literals
is_ready f = refl

-- where the parse of a command that reads as the program's enters a subcommand, the definition has no fault and enters it
pub enters-at : (names : Bor (List (Bor Text))) (a : App) (words : List Text) (m : ArgMatches) (o : Option (Bor Text × Bor ArgMatches))
    (met : Bor Text × Bor ArgMatches)
    → a ≡ rdfconv (Names names) → (is_simple_and_free a ≡ true → fault_of a words ≡ []) → HasMatchesOf a words m → o ≡ Some met
    → option_map (λ p. p.0.now) o ≡ subcommand_name_of m → option_map (λ p. rows_of (found_of p.1.now)) o ≡ option_map (λ p. p.1) (subcommand_rows_of m)
    → (fault_of (rdfconv (Names names)) words ≡ []) × (subcommand_of (rdfconv (Names names)) words ≡ Some (met.0.now, rows_of (found_of met.1.now)))
enters-at names a words m o met is kinds has got name rows = (
  ap (λ (x : App). fault_of x words) (sym is) ∙ kinds (ap is_simple_and_free is ∙ is_free (Names names)),
  ap (λ (x : App). subcommand_of x words) (sym is) ∙ sym (has (ap is_simple is ∙ is_ready (Names names))).1
      ∙ pair_is _ _ (λ (p : Bor Text × Bor ArgMatches). p.0.now) (λ (p : Bor Text × Bor ArgMatches). rows_of (found_of p.1.now)) o _ met got name rows,
)
