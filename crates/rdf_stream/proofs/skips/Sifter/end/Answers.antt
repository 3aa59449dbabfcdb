use Rattle.rdf_stream.proofs.Prelude.{[], arith, inl, inr, subst, append-nil, HasRoom, Keeps-refl}
use Rattle.rdf_stream.proofs.SkipLemmas.{flush_halts, held_few, held_room, held_start, rest_halts, skip_ends}
use Rattle.rdf_stream.proofs.skips.Sifter.end.Goals as goal

pub returns-in-Err-clause-halts : goal.returns-in-Err-clause-halts
returns-in-Err-clause-halts g c =
    λ first bytes i. rest_halts g.D.Drain g.B.Drain first bytes _ _ _ i c.in-Err.fault _ _ _ _ (held_start g.D.Drain g.B.Drain first bytes _
    _ _ i c.start-start.result c.start-start.ensures.offset c.start-start.ensures.line) c.in-Err.ensures.fails

pub returns-in-Err-flush-clause-halts : goal.returns-in-Err-flush-clause-halts
returns-in-Err-flush-clause-halts g c = λ first bytes i.
    flush_halts g.D.Drain g.B.Drain first bytes _ _ _ i _
    (held_start g.D.Drain g.B.Drain first bytes _ _ _ i c.start-start.result c.start-start.ensures.offset c.start-start.ensures.line)
    c.sift_rest.new.self _ _ c.in-Ok.ensures.sifted _ _ c.in-Err-flush.ensures.bytes (Keeps-refl _) (inl c.in-Err-flush.ensures.failed)

pub returns-in-Err-flush-2-clause-halts : goal.returns-in-Err-flush-2-clause-halts
returns-in-Err-flush-2-clause-halts g c = λ first bytes i.
    flush_halts g.D.Drain g.B.Drain first bytes _ _ _ i _ (held_start g.D.Drain g.B.Drain first bytes _ _ _ i c.start-start.result
    c.start-start.ensures.offset c.start-start.ensures.line) c.sift_rest.new.self _ _ c.in-Ok.ensures.sifted _ _
    c.in-Ok-flush.ensures.bytes c.in-Err-flush-2.ensures.bytes (inr c.in-Err-flush-2.ensures.failed)

pub returns-clause-ends : goal.returns-clause-ends
returns-clause-ends g c = λ first bytes i.
    skip_ends g.D.Drain g.B.Drain first bytes _ _ _ i _ (held_start g.D.Drain g.B.Drain first bytes _ _ _ i c.start-start.result
    c.start-start.ensures.offset c.start-start.ensures.line) c.sift_rest.new.self _ _ c.in-Ok.ensures.sifted _ _
    c.in-Ok-flush.ensures.bytes c.in-Ok-flush-2.ensures.bytes c.requires.styled c.in-Ok-flush.ensures.flushed
    c.in-Ok-flush-2.ensures.flushed c.in-Ok.ensures.same

pub start-start-requires : goal.start-start-requires
start-start-requires g c = let (first, bytes, i) = c.requires.begun in record { within = held_few g.D.Drain g.B.Drain first bytes _ _ _ i }

pub sift_rest-requires-clause-room : goal.sift_rest-requires-clause-room
sift_rest-requires-clause-room g c =
    let (first, bytes, i) = c.requires.begun in
    let few = i.few in
    let count = i.count in
    subst (HasRoom c.start-start.result) (append-nil c.args.self.now.part.items)
    (held_room g.D.Drain g.B.Drain first bytes _ _ _ i c.start-start.result c.start-start.ensures.offset c.start-start.ensures.line []
    (omega (arith, few, count)))
