-- A token that is continued where its states had come to, in each family of states.
use Rattle.rdf_tokens.proofs.Prelude.{◌≡◌, ℕ, List, arith, subst, None, Dialect, State, kind_here, with_length, Reached}
use Rattle.rdf_tokens.specs.declared.front.Walk.{Walk}
use Rattle.rdf_tokens.specs.declared.states.machine.State.TheVariants.{Iri, Label, Text, Tag, Number, Name}
use Rattle.rdf_tokens.specs.Walk.{IsWalk}
use Rattle.rdf_tokens.proofs.StateLemmas.{reached-again}
use Rattle.rdf_tokens.proofs.front.resumed_front.Goals as goal

-- the state of a walk, taken out of its family, was reached where the walk stands
again : (d : Dialect) (bs : List ℕ) (w : Walk) (s : State) → IsWalk d bs w → w.state ≡ s →
    Reached d bs w.at s (with_length w.at (kind_here d bs s) (with_length w.len w.kind None))
again d bs w s h e =
    let best = with_length w.len w.kind None in
    let some = h.enough in
    reached-again d bs w.at s best (omega arith) (subst (λ s. Reached d bs w.at s best) e h.reached)

pub front_from-requires : goal.front_from-requires
front_from-requires c = again c.args.dialect c.args.text.now c.args.walk.now (Iri c.in-Iri.state) c.requires c.in-Iri.is

pub front_from-requires-in-Label : goal.front_from-requires-in-Label
front_from-requires-in-Label c = again c.args.dialect c.args.text.now c.args.walk.now (Label c.in-Label.state) c.requires c.in-Label.is

pub front_from-requires-in-Text : goal.front_from-requires-in-Text
front_from-requires-in-Text c = again c.args.dialect c.args.text.now c.args.walk.now (Text c.in-Text.state) c.requires c.in-Text.is

pub front_from-requires-in-Tag : goal.front_from-requires-in-Tag
front_from-requires-in-Tag c = again c.args.dialect c.args.text.now c.args.walk.now (Tag c.in-Tag.state) c.requires c.in-Tag.is

pub front_from-requires-in-Number : goal.front_from-requires-in-Number
front_from-requires-in-Number c = again c.args.dialect c.args.text.now c.args.walk.now (Number c.in-Number.state) c.requires c.in-Number.is

pub front_from-requires-in-Name : goal.front_from-requires-in-Name
front_from-requires-in-Name c = again c.args.dialect c.args.text.now c.args.walk.now (Name c.in-Name.state) c.requires c.in-Name.is
