-- States that agree in every look-up, and where a run leads, up to that.
use Rattle.std.specs.Prelude.{◌≡◌, List}
use Rattle.rdf_terms.specs.Terms.{Quad}
use Rattle.rdf_tokens.specs.Tokens.{Token}
use Rattle.rdf_iri.specs.Scope.{InForce}
use Rattle.rdf_trig.specs.declared.form.DocForm.{DocForm}
use Rattle.rdf_trig.specs.Names.{SameNames}
use Rattle.rdf_trig.specs.Machine.{State, at_start, ran, accept_all}

-- the states differ in nothing but the order in which the bindings of their scopes are kept
pub record SameState (s t : State) : Type 0 where
  pub scope : SameNames s.setting.scope t.setting.scope
  pub graph : s.setting.graph ≡ t.setting.graph
  pub mode : s.mode ≡ t.mode
  pub ready : s.ready ≡ t.ready

-- The machine accepts the tokens, gives out these quads, and stands where the state does.
pub record RunsTo (form : DocForm) (start : InForce) (ts : List Token) (qs : List Quad) (state : State) : Type 0 where
  pub machine : State
  pub accepted : accept_all form (at_start start) ts ≡ ran machine qs
  pub same : SameState machine state
