-- What a look-up answers, and scopes that agree in every look-up.
use Rattle.std.specs.Prelude.{◌≡◌, ℕ, true, List, is_some, Option, Some, None, ⊤}
use Rattle.rdf_terms.specs.declared.kind.Kind.{Kind}
use Rattle.rdf_terms.specs.declared.kind.Kind.TheVariants.{IriRef, PnameNs, PnameLn}
use Rattle.rdf_terms.specs.Values.{local_value}
use Rattle.rdf_terms.specs.declared.reason.Reason.TheVariants as reason
use Rattle.rdf_iri.specs.declared.fault.IriFault.{IriFault}
use Rattle.rdf_iri.specs.declared.fault.IriFault.TheVariants as iri
use Rattle.rdf_iri.specs.Limits.{Sizes}
use Rattle.rdf_iri.specs.Scope.{InForce, Binds}
use Rattle.rdf_tokens.specs.Leaves.{Leaf}
use Rattle.rdf_tokens.specs.declared.token.Token.{Token as Given}
use Rattle.rdf_trig.specs.declared.form.DocForm.{DocForm}
use Rattle.rdf_trig.specs.declared.state.Mode.{Mode}
use Rattle.rdf_trig.specs.declared.state.State.{State}
use Rattle.rdf_trig.specs.declared.fault.StepFault.{StepFault}
use Rattle.rdf_trig.specs.declared.fault.StepFault.TheVariants as fault
use Rattle.rdf_trig.specs.Names.{reference_in, with_base, is_full, SameNames}
use Rattle.rdf_trig.specs.Events.{Use, stands, binds}
use Rattle.rdf_trig.specs.Machine as M
use Rattle.rdf_trig.specs.Machine.{by_use, refuses}
use Rattle.rdf_trig.specs.States.{leaf, mode_at, name_at, use_at, IsNamed, NameIn, IsNamedIn, use_in, scope_in}

-- a token of the kind is an IRIREF, to be resolved against the base
abbrev pub IsReference : Kind → Type 0
IsReference IriRef = ⊤
IsReference k = ⊥

-- a token of the kind is a prefixed name, with a local part or without one
abbrev pub IsPrefixed : Kind → Type 0
IsPrefixed PnameNs = ⊤
IsPrefixed PnameLn = ⊤
IsPrefixed k = ⊥

-- a token of the kind is one or the other
abbrev pub StandsForIri : Kind → Type 0
StandsForIri IriRef = ⊤
StandsForIri PnameNs = ⊤
StandsForIri PnameLn = ⊤
StandsForIri k = ⊥

-- the text means something as a local part
abbrev pub MeansLocal : List ℕ → Type 0
MeansLocal w = is_some (local_value w) ≡ true

-- a fault of a scope, as one of a step
abbrev pub step_fault : IriFault → StepFault
step_fault iri.NoBase = fault.NoBase
step_fault iri.IriTooLong = fault.IriTooLong
step_fault iri.Memory = fault.Memory
step_fault iri.Unbound = fault.Unbound
step_fault iri.TooManyBindings = fault.TooManyBindings

-- what the token stands for is allowed; or it is refused for this reason, or memory is short
abbrev pub IsAdmitted : Sizes → Kind → Use → Type 0
IsAdmitted sizes k u = (a : M.Answer) → by_use sizes k u a ≡ a

-- what the token stands for is refused for this reason, whatever the grammar says; for want of memory anything may be
abbrev pub IsDenied : Sizes → Kind → Use → StepFault → Type 0
IsDenied sizes k u fault.Unbound = (a : M.Answer) → by_use sizes k u a ≡ refuses reason.Unbound
IsDenied sizes k u fault.NoBase = (a : M.Answer) → by_use sizes k u a ≡ refuses reason.NoBase
IsDenied sizes k u fault.IriTooLong = (a : M.Answer) → by_use sizes k u a ≡ refuses reason.IriTooLong
IsDenied sizes k u fault.TooManyBindings = (a : M.Answer) → by_use sizes k u a ≡ refuses reason.TooManyBindings
IsDenied sizes k u fault.Memory = ⊤
IsDenied sizes k u r = ⊥

-- the token stands for this IRI, or for none
pub record Names (s : InForce) (k : Kind) (l : Leaf) (i : Option (List ℕ)) : Type 0 where
  pub name : name_at s k l ≡ i
  pub named : IsNamed k i
  pub admitted : IsAdmitted s.limits k (use_at s k l)

-- the token stands for no IRI that is allowed, for this reason
abbrev pub Unnamed : InForce → Kind → Leaf → StepFault → Type 0
Unnamed s k l r = IsDenied s.limits k (use_at s k l) r

-- the reference is the base
pub record Based (s : InForce) (l : Leaf) (t : InForce) : Type 0 where
  pub admitted : IsAdmitted s.limits IriRef (stands (reference_in s l))
  pub scope : t ≡ with_base s (reference_in s l)

-- the prefix is bound to the reference's IRI
pub record Binding (s : InForce) (prefix : List ℕ) (l : Leaf) (t : InForce) : Type 0 where
  pub iri : List ℕ
  pub reference : reference_in s l ≡ Some iri
  pub admitted : IsAdmitted s.limits IriRef (binds (is_full s prefix) (reference_in s l))
  pub binds : Binds s prefix iri t

-- the binding of the prefix to the reference's IRI is refused for this reason
abbrev pub NotBinding : InForce → List ℕ → Leaf → StepFault → Type 0
NotBinding s prefix l r = IsDenied s.limits IriRef (binds (is_full s prefix) (reference_in s l)) r

-- the same base and limits, and each prefix bound alike
abbrev pub SameScope : InForce → InForce → Type 0
SameScope s t = SameNames s t

-- what a token stands for in a mode is allowed: its IRI comes, or the scope changes; or it is not
pub record LooksUp (s : InForce) (m : M.Mode) (k : Kind) (l : Leaf) (i : Option (List ℕ)) (t : InForce) : Type 0 where
  pub admitted : IsAdmitted s.limits k (use_in s m k l)
  pub name : NameIn s m k l i
  pub named : IsNamedIn m k i
  pub scope : SameScope (scope_in s m k l) t

-- what the token stands for in this mode is refused for this reason
abbrev pub LooksUpNone : InForce → M.Mode → Kind → Leaf → StepFault → Type 0
LooksUpNone s m k l r = IsDenied s.limits k (use_in s m k l) r

-- in a mode of a state, and in each scope that agrees with the reader's, the token stands for this IRI, if for one, and leads to this scope
abbrev pub Finds : {A : Type 0} → State A → Mode → InForce → Given → Option (List ℕ) → InForce → Type 0
Finds r m here t i next = (form : DocForm) (s : InForce) → SameScope s here → LooksUp s (mode_at form r m) t.kind (leaf t) i next

-- there it is refused for this reason
abbrev pub FindsNone : {A : Type 0} → State A → Mode → InForce → Given → StepFault → Type 0
FindsNone r m here t e = (form : DocForm) (s : InForce) → SameScope s here → LooksUpNone s (mode_at form r m) t.kind (leaf t) e

-- the same in a directive, however it is spelled, where no IRI comes with the token
abbrev pub FindsIri : (M.Spelling → M.Mode) → InForce → Given → InForce → Type 0
FindsIri m here t next = (w : M.Spelling) (s : InForce) → SameScope s here → LooksUp s (m w) t.kind (leaf t) None next

abbrev pub FindsNoIri : (M.Spelling → M.Mode) → InForce → Given → StepFault → Type 0
FindsNoIri m here t e = (w : M.Spelling) (s : InForce) → SameScope s here → LooksUpNone s (m w) t.kind (leaf t) e
