use Rattle.rdf_stream.proofs.Prelude.{ap, sym, ◌∙◌, length, nat_eq, slice_index_or, arith, false≢true}
use Rattle.rdf_stream.proofs.SieveLemmas.{no_mark}
use Rattle.rdf_stream.proofs.sieve.has_mark.Goals as goal
use Rattle.rdf_stream.proofs.sieve.has_mark.Goals.{then-bytes, else-bytes}

pub returns-then-bytes-lt3-clause-unmarked : goal.returns-then-bytes-lt3-clause-unmarked
returns-then-bytes-lt3-clause-unmarked c = λ e. no_mark c.args.bytes.now (λ m. let l = ap length m.1 in let h = c.if-bytes-lt3.true in omega (arith, l, h))

pub returns-then-bytes-2-clause-unmarked : goal.returns-then-bytes-2-clause-unmarked
returns-then-bytes-2-clause-unmarked c = λ e. no_mark c.args.bytes.now (λ m. false≢true (sym e ∙ ap (λ w. nat_eq (slice_index_or w 2 0) 191) m.1))

pub returns-else-bytes-2-clause-unmarked : goal.returns-else-bytes-2-clause-unmarked
returns-else-bytes-2-clause-unmarked c = λ e.
    no_mark c.args.bytes.now (λ m.
    elim c.if-bytes.branch [
      | then-bytes w ↦ false≢true (sym (sym w.value-is ∙ e) ∙ ap (λ v. nat_eq (slice_index_or v 1 0) 187) m.1)
      | else-bytes w ↦ absurd (w.if-bytes.false (ap (λ v. slice_index_or v 0 0) m.1))
    ])
