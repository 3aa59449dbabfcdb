-- The white space before the token is moved over, and the token is given.
use Rattle.rdf_tokens.proofs.Prelude.{false, refl, sym, blank}
use Rattle.rdf_tokens.proofs.FlatLemmas.{flat_text}
use Rattle.rdf_tokens.proofs.PeekLemmas.{colon_peeked, look_peeked, takes_seen}
use Rattle.rdf_tokens.proofs.scanner.Scanner.take.Goals as goal

pub move_on-requires : goal.move_on-requires
move_on-requires g c =
    let v = c.args.self.now in
    let s = c.requires in
    (blank v.dialect false v.text, s.space, sym s.flat)

pub give-requires-clause-bytes : goal.give-requires-clause-bytes
give-requires-clause-bytes g c =
    let l = look_peeked c.args.self.now c.move_on.new.self c.args.peeked c.requires c.move_on.ensures in
    (l.0, l.3, λ f. flat_text _ _ _ _ l.0 c.args.peeked.kind l.1 f)

pub give-requires-clause-colon : goal.give-requires-clause-colon
give-requires-clause-colon g c = colon_peeked c.args.self.now c.move_on.new.self c.args.peeked c.requires c.move_on.ensures

pub returns : goal.returns
returns g c = ((refl, (λ _. tt), takes_seen c.args.self.now c.move_on.new.self c.args.peeked c.requires c.move_on.ensures c.give.follows.holds-at-none), tt)
