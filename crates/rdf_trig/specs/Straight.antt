-- Names that go straight into the text that they are for.
use Rattle.std.specs.Prelude.{◌≡◌, ℕ, List, Option, Some}
use Rattle.rdf_tokens.specs.declared.token.Token.{Token as Given}
use Rattle.rdf_iri.specs.Scope.{InForce}
use Rattle.rdf_trig.specs.declared.state.State.{State}
use Rattle.rdf_trig.specs.declared.straight.Slot.{Slot}
use Rattle.rdf_trig.specs.declared.straight.Slot.TheVariants as slot
use Rattle.rdf_trig.specs.declared.turn.SubjectStart.TheVariants as subject
use Rattle.rdf_trig.specs.declared.turn.Verb.TheVariants as verb
use Rattle.rdf_trig.specs.declared.turn.ObjectStart.TheVariants as object
use Rattle.rdf_trig.specs.declared.turn.Turn.{Turn}
use Rattle.rdf_trig.specs.declared.turn.Turn.TheVariants as turn
use Rattle.rdf_trig.specs.Quads.{named}
use Rattle.rdf_trig.specs.Machine as M
use Rattle.rdf_trig.specs.States.{leaf}
use Rattle.rdf_trig.specs.Scopes.{Names}
use Rattle.rdf_trig.specs.Holding.{NameFits}
use Rattle.rdf_trig.specs.Turns.{Takes, TakesFit, FramesTaken}

-- the turn of a token whose IRI goes there
abbrev pub slot_turn : Slot → Turn
slot_turn (slot.Subject v) = turn.Subject v subject.Name
slot_turn (slot.Verb a) = turn.Verb a verb.Name
slot_turn slot.Object = turn.Object object.Name
slot_turn slot.Datatype = turn.Datatype

-- the token stands for an IRI, which is the subject or object
pub record IsTopic (s : InForce) (t : Given) (x : M.Topic) : Type 0 where
  pub iri : List ℕ
  pub names : Names s t.kind (leaf t) (Some iri)
  pub limit : NameFits s.limits.iri (Some iri)
  pub topic : x ≡ M.sized (named (Some iri))

-- the turn was taken with the IRI that the token stands for
pub record Fills {A : Type 0} (s : InForce) (old : State A) (t : Turn) (token : Given) (new : State A) : Type 0 where
  pub name : Option (List ℕ)
  pub names : Names s token.kind (leaf token) name
  pub limit : NameFits s.limits.iri name
  pub takes : Takes (record old { name = name }) t (leaf token) new
  pub depth : new.depth ≡ old.depth
  pub stack : FramesTaken old t new
  pub fits : TakesFit (record old { name = name }) token new
  pub same : new.name ≡ old.name
