-- A dot and a run, or what may stand first too.
use Rattle.rdf_tokens.proofs.Prelude.{◌∙◌, ℕ, Option, Some, None, sym, IfSome, BeginsLocal, RestsInLocal}
use Rattle.rdf_tokens.proofs.LocalLemmas.{rests_dot, rests_in}
use Rattle.rdf_tokens.proofs.local.onward_end.Goals as goal

pub returns-then-end-at-clause-rests : goal.returns-then-end-at-clause-rests
returns-then-end-at-clause-rests c =
    rests_dot c.args.bytes.now c.args.at c.run_end-end.result (sym c.stands_at.ensures ∙ c.if-stands_at.true) c.run_end-end.ensures c.if-end-at.true

pub returns-clause-rests : goal.returns-clause-rests
returns-clause-rests c = go c.part_end.result c.part_end.ensures
  where
    go : (o : Option ℕ) → IfSome o (λ end. BeginsLocal c.args.bytes.now c.args.at end) → IfSome o (λ end. RestsInLocal c.args.bytes.now c.args.at end)
    go None b = b
    go (Some end) b = rests_in c.args.bytes.now c.args.at end b.1
