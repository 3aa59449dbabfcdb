-- The line of one of several documents has its name in front where the line of a run has the program's.
use Rattle.rdf_command.proofs.Prelude.{◌≡◌, ◌⊎◌, ◌∙◌, ◌++◌, ◌-◌, ℕ, Bool, List, Option, ap, arith, drop, inl, inr, length, subst, take, length-drop, take_all, report_text, Evidence, NearRead, StreamFault, ReportsExplainedOf, ReportsOf, explanation}

module _ (asked : Bool) (name : List ℕ) (fault : StreamFault) (evidence : Evidence NearRead) (old new : Option (List ℕ)) (failed : Bool)
    (line text : List ℕ) (same : line ≡ text) where
  -- what stands after the program's name
  rest : take (length line - 9) (drop 9 line) ≡ drop 9 text
  rest = take_all (length line - 9) (drop 9 line) (omega (arith, length-drop 9 line)) ∙ ap (drop 9) same

  abbrev reports : List ℕ → Type 0
  reports told = ReportsOf name told old new failed

  pub told_of : (text ≡ report_text fault ++ explanation asked name fault evidence) ⊎ (text ≡ report_text fault)
      → ReportsOf name (take (length line - 9) (drop 9 line)) old new failed → ReportsExplainedOf asked name fault evidence old new failed
  told_of (inl both) told = inl (subst reports (rest ∙ ap (drop 9) both) told)
  told_of (inr one) told = inr (subst reports (rest ∙ ap (drop 9) one) told)
