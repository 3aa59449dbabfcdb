-- Why a token is refused after some tokens that begin a document.
use Rattle.std.specs.Prelude.{◌≡◌, ◌⊎◌, Bool, List, [], ◌∷◌, ◌++◌, None}
use Rattle.rdf_terms.specs.declared.kind.Kind.TheVariants.{IriRef, PnameNs, PnameLn}
use Rattle.rdf_terms.specs.declared.reason.Reason.{Reason}
use Rattle.rdf_terms.specs.declared.reason.Reason.TheVariants.{Unexpected, TooDeep, Unbound, NoBase, IriTooLong, TooManyBindings}
use Rattle.rdf_tokens.specs.Tokens.{Token}
use Rattle.rdf_tokens.specs.Grammars.{Viable}
use Rattle.rdf_iri.specs.Scope.{InForce}
use Rattle.rdf_trig.specs.declared.form.DocForm.{DocForm}
use Rattle.rdf_trig.specs.Events.{Use, stands, binds}
use Rattle.rdf_trig.specs.Documents.{documents, trees, InTree, StandsFor, IsDeep, IsLong, IsOneMore}

-- with the token no document begins so, but some tree does
pub record Excluded (form : DocForm) (start : InForce) (ahead : List Token) (t : Token) : Type 0 where
  pub shaped : Viable (trees form start) (ahead ++ t ∷ [])
  pub excluded : Viable (documents form start) (ahead ++ t ∷ []) → ⊥

-- The token is unexpected where no tree has it after those before it. A name or reference that stands for nothing is in some tree, and in no document.
-- A token that passes a limit is in some document. A binding is one too many only where its IRI is not too long. No other reason is a grammar's.
abbrev pub Blamed : DocForm → InForce → Reason → List Token → Token → Type 0
Blamed form start Unexpected ahead t = Viable (trees form start) (ahead ++ t ∷ []) → ⊥
Blamed form start Unbound ahead t = Excluded form start ahead t × (((t.kind ≡ PnameLn) ⊎ (t.kind ≡ PnameNs)) × InTree form start ahead t (stands None))
Blamed form start NoBase ahead t =
    Excluded form start ahead t × ((t.kind ≡ IriRef) × (InTree form start ahead t (stands None) ⊎ ((full : Bool) × InTree form start ahead t (binds full None))))
Blamed form start TooDeep ahead t = (u : Use) × StandsFor form start ahead t u × IsDeep start ahead t
Blamed form start IriTooLong ahead t = (u : Use) × StandsFor form start ahead t u × IsLong start.limits u
Blamed form start TooManyBindings ahead t = (u : Use) × StandsFor form start ahead t u × IsOneMore u × (IsLong start.limits u → ⊥)
Blamed form start why ahead t = ⊥
