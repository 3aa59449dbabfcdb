-- A quote with a run after it, or an escape with one.
use Rattle.rdf_tokens.proofs.Prelude.{◌≡◌, ◌+◌, ◌∙◌, Option, Some, None, ℕ, List, sym, subst, true, arith, ◌<◌, IfSome, Run, IsRun, goes_over, Quote, FitsInString, IsEscapeThen, RestsInLong, long_run, stands_at}
use Rattle.rdf_tokens.proofs.FitEscapes.{fits_then, long_slash}
use Rattle.rdf_tokens.proofs.LongLemmas.{quoted_fits, quoted_rests}
use Rattle.rdf_tokens.proofs.RestEscapes.{escape_on, long_then}
use Rattle.rdf_tokens.proofs.quick.inner_end.Goals as goal

-- what an escape with its run is to the string
after : (q : Quote) (r : Run) (bs : List ℕ) (at : ℕ) (o : Option ℕ) → r ≡ long_run q → IfSome o (λ end. IsEscapeThen r bs at end) →
    IfSome o (λ end. RestsInLong q bs at end) × IfSome o (λ end. FitsInString bs at end) × IfSome o (λ end. at < end)
after q r bs at None e x = (tt, tt, tt)
after q r bs at (Some end) e x =
    let y = subst (λ r. IsEscapeThen r bs at end) e x in
    (long_then q bs at end y, fits_then (long_run q) bs at end (long_slash q) y, escape_on r bs at end x)

pub returns-then-stands_at-clause-rests : goal.returns-then-stands_at-clause-rests
returns-then-stands_at-clause-rests c =
    let bs = c.args.bytes.now in
    let at = c.args.at in
    let end = c.run_end-end.result in
    let run = subst (λ r. IsRun (goes_over r) bs (at + 1) end) c.long_run-run.ensures c.run_end-end.ensures in
    quoted_rests c.args.quote bs at end (subst (λ b. stands_at b bs at ≡ true) c.quote_byte.ensures
    (sym c.stands_at.ensures ∙ c.if-stands_at.true)) run (omega (arith, run.from))

pub returns-then-stands_at-clause-fits : goal.returns-then-stands_at-clause-fits
returns-then-stands_at-clause-fits c =
    let bs = c.args.bytes.now in
    let at = c.args.at in
    let end = c.run_end-end.result in
    let run = subst (λ r. IsRun (goes_over r) bs (at + 1) end) c.long_run-run.ensures c.run_end-end.ensures in
    quoted_fits c.args.quote bs at end (subst (λ b. stands_at b bs at ≡ true) c.quote_byte.ensures
    (sym c.stands_at.ensures ∙ c.if-stands_at.true)) run (omega (arith, run.from))

pub returns-clause-rests : goal.returns-clause-rests
returns-clause-rests c = (after c.args.quote c.long_run-run.result c.args.bytes.now c.args.at c.escape_end.result c.long_run-run.ensures c.escape_end.ensures).0

pub returns-clause-fits : goal.returns-clause-fits
returns-clause-fits c = (after c.args.quote c.long_run-run.result c.args.bytes.now c.args.at c.escape_end.result c.long_run-run.ensures c.escape_end.ensures).1

pub returns-clause-on : goal.returns-clause-on
returns-clause-on c = (after c.args.quote c.long_run-run.result c.args.bytes.now c.args.at c.escape_end.result c.long_run-run.ensures c.escape_end.ensures).2
