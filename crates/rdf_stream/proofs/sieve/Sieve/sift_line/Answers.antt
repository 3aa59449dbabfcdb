use Rattle.rdf_stream.proofs.Prelude.{arith, subst, Fault, PutBadFails, PutsBad, PutsNone}
use Rattle.rdf_stream.proofs.PiecesLemmas.{if_err, if_ok}
use Rattle.rdf_stream.proofs.SieveLemmas.{bad_fails, fault_fits, known, line_bad, line_fails, line_good}
use Rattle.rdf_stream.proofs.sieve.Sieve.sift_line.Goals as goal

pub fault-requires-clause-offset : goal.fault-requires-clause-offset
fault-requires-clause-offset g c =
    let none = known (λ (w : Fault). PutsNone c.args.self.now c.args.drain.now c.args.line.now w c.put_good.new.self c.put_good.new.drain)
    c.in-Ok-Some.field-0 c.in-Ok-Some.fault c.in-Ok-Some.field-0-is c.in-Ok-Some.ensures.bad in
    let h = fault_fits c.args.line.now c.in-Ok-Some.fault none.why.place in let n = h.0 in let r = c.requires.room.few in omega (arith, n, r)

pub fault-requires-clause-within : goal.fault-requires-clause-within
fault-requires-clause-within g c =
    let none = known (λ (w : Fault). PutsNone c.args.self.now c.args.drain.now c.args.line.now w c.put_good.new.self c.put_good.new.drain)
    c.in-Ok-Some.field-0 c.in-Ok-Some.fault c.in-Ok-Some.field-0-is c.in-Ok-Some.ensures.bad in
    (fault_fits c.args.line.now c.in-Ok-Some.fault none.why.place).1

pub fault-requires-clause-first : goal.fault-requires-clause-first
fault-requires-clause-first g c =
    let none = known (λ (w : Fault). PutsNone c.args.self.now c.args.drain.now c.args.line.now w c.put_good.new.self c.put_good.new.drain)
    c.in-Ok-Some.field-0 c.in-Ok-Some.fault c.in-Ok-Some.field-0-is c.in-Ok-Some.ensures.bad in
    (fault_fits c.args.line.now c.in-Ok-Some.fault none.why.place).2

pub returns-in-Ok-None-clause-sifted : goal.returns-in-Ok-None-clause-sifted
returns-in-Ok-None-clause-sifted g c = line_good g.D.Drain g.B.Drain _ _ _ _ _ _ _ c.requires.bad_live (c.in-Ok-None.ensures.good c.in-Ok-None.field-0-is)

pub returns-in-Ok-Some-clause-sifted : goal.returns-in-Ok-Some-clause-sifted
returns-in-Ok-Some-clause-sifted g c =
    let none = known (λ (w : Fault). PutsNone c.args.self.now c.args.drain.now c.args.line.now w c.put_good.new.self c.put_good.new.drain)
    c.in-Ok-Some.field-0 c.in-Ok-Some.fault c.in-Ok-Some.field-0-is c.in-Ok-Some.ensures.bad in
    if_ok c.put_bad.result _ _
    (λ x h. line_bad g.D.Drain g.B.Drain _ c.in-Ok-Some.fault _ _ _ _ _ _ _ _ c.requires.live none
    (subst (λ f. PutsBad g.B.Drain c.put_good.new.self c.args.bad.now f c.args.line.now c.put_bad.new.self c.put_bad.new.bad) c.fault.ensures h))
    c.put_bad.ensures.put

pub returns-in-Ok-Some-clause-fails : goal.returns-in-Ok-Some-clause-fails
returns-in-Ok-Some-clause-fails g c =
    let none = known (λ (w : Fault). PutsNone c.args.self.now c.args.drain.now c.args.line.now w c.put_good.new.self c.put_good.new.drain)
    c.in-Ok-Some.field-0 c.in-Ok-Some.fault c.in-Ok-Some.field-0-is c.in-Ok-Some.ensures.bad in
    if_err c.put_bad.result _ _
    (λ f h. bad_fails g.D.Drain g.B.Drain _ f c.in-Ok-Some.fault _ _ _ _ _ _ _ _ c.requires.live c.requires.bad_live none
    (subst (λ w. PutBadFails g.B.Drain f c.put_good.new.self c.args.bad.now w c.args.line.now c.put_bad.new.self c.put_bad.new.bad) c.fault.ensures h))
    c.put_bad.ensures.fails

pub returns-in-Err-clause-fails : goal.returns-in-Err-clause-fails
returns-in-Err-clause-fails g c = line_fails g.D.Drain g.B.Drain _ c.in-Err.fault _ _ _ _ _ _ c.requires.live c.requires.bad_live c.in-Err.ensures.fails
