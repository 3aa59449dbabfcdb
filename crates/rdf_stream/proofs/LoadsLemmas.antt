-- From the pieces of a source to a file of bindings.
use Rattle.rdf_stream.proofs.Prelude.{◌≡◌, ◌<◌, ℕ, true, false, List, [], ◌++◌, Option, IfErr, Result, Ok, Err, refl, sym, subst, ◌∙◌, append-nil, false≢true, Consumes-kept, Consumes-trans, IsErrAnd, Consumes, IsAtEnd, Keeps, HasGiven}
use Rattle.rdf_iri.specs.Limits.{Sizes}
use Rattle.rdf_iri.specs.Bindings.{FailsAt, IsRefused}
use Rattle.rdf_iri.specs.declared.fault.BindingReason.{BindingReason}
use Rattle.rdf_iri.specs.declared.fault.BindingReason.TheVariants.{Memory as OutOfMemory, BadBinding, TokenTooLong, IriTooLong, TooManyBindings}
use Rattle.rdf_iri.specs.declared.fault.BindingFault.{BindingFault}
use Rattle.rdf_stream.specs.declared.fault.LoadFault.{LoadFault}
use Rattle.rdf_stream.specs.declared.fault.LoadFault.TheVariants.{Bad, Memory, Read}
use Rattle.rdf_stream.specs.Devices.{Reading}
use Rattle.rdf_stream.specs.Loads.{BindsNot, HasGivenAll, LoadStops, ReadsNot}
use Rattle.rdf_stream.specs.LoadFaults.{load_fault}

-- Since a source was asked first it gave these bytes, and it may be asked for more.
pub record IsGiving (known : Option (List ℕ)) (left : Reading) (bytes : List ℕ) (room : ℕ) : Type 0 where
  pub consumed : Consumes known left.remaining bytes
  pub more : left.has_ended ≡ false
  pub live : left.has_failed ≡ false
  pub has_room : 0 < room

-- so the promise of `load_bindings` can say what its source gave, where it stopped before the end
pub giving_given : (known : Option (List ℕ)) (left : Reading) (bytes : List ℕ) (room : ℕ) → IsGiving known left bytes room → HasGiven known left
giving_given known left bytes room i = record { bytes = bytes; consumed = i.consumed; ended = λ e. absurd (false≢true (sym i.more ∙ e)); live = i.live }

-- and where it came to the end
pub all_given : (known : Option (List ℕ)) (left : Reading) (bytes : List ℕ) → HasGivenAll known left bytes → HasGiven known left
all_given known left bytes h = record { bytes = bytes; consumed = h.consumed; ended = λ e. h.at_end; live = h.live }

-- so is a fault of the file
pub refused : (f : BindingFault) (sizes : Sizes) (bytes : List ℕ) → IsRefused f.reason sizes bytes f.line → BindsNot (load_fault f.reason f) sizes bytes
refused f sizes bytes r = by f.reason refl r
  where
    by : (reason : BindingReason) → f.reason ≡ reason → IsRefused reason sizes bytes f.line → BindsNot (load_fault reason f) sizes bytes
    by OutOfMemory e r = tt
    by BadBinding e r = subst (λ x. FailsAt x sizes bytes f.line) (sym e) r
    by TokenTooLong e r = subst (λ x. FailsAt x sizes bytes f.line) (sym e) r
    by IriTooLong e r = subst (λ x. FailsAt x sizes bytes f.line) (sym e) r
    by TooManyBindings e r = subst (λ x. FailsAt x sizes bytes f.line) (sym e) r

-- the bytes that a source gave are no bindings
pub binds_not : (fault : LoadFault) (sizes : Sizes) (known : Option (List ℕ)) (left : Reading) (bytes : List ℕ) →
    HasGivenAll known left bytes → BindsNot fault sizes bytes
    → LoadStops fault sizes known left
binds_not (Bad f) sizes known left bytes h r = (bytes, h, r)
binds_not Read sizes known left bytes h r = absurd r
binds_not Memory sizes known left bytes h r = all_given known left bytes h

module _ (known : Option (List ℕ)) (left left' : Reading) (bytes : List ℕ) (room : ℕ) (i : IsGiving known left bytes room) where
  -- the source failed
  pub source_failed : Keeps left.remaining left'.remaining → left'.has_failed ≡ true → left'.has_ended ≡ false → ReadsNot Read known left'
  source_failed k e o = ((e, o), bytes, Consumes-kept known left.remaining left'.remaining bytes i.consumed k)

  -- a piece more
  pub gives_more : (piece : List ℕ) → Consumes left.remaining left'.remaining piece → left'.has_ended ≡ false → left'.has_failed ≡ false →
      (room' : ℕ) → 0 < room'
      → IsGiving known left' (bytes ++ piece) room'
  gives_more piece c more live room' some =
      record { consumed = Consumes-trans known left.remaining left'.remaining bytes piece i.consumed c; more = more; live = live; has_room = some }

  -- the end
  pub gives_all : Consumes left.remaining left'.remaining [] → IsAtEnd left'.remaining → left'.has_ended ≡ true → left'.has_failed ≡ false →
      HasGivenAll known left' bytes
  gives_all c at_end reported live = record {
    consumed = subst (Consumes known left'.remaining) (append-nil bytes) (Consumes-trans known left.remaining left'.remaining bytes [] i.consumed c);
    at_end = at_end;
    ended = reported;
    live = live;
  }

-- a `?` that reported a fault
pub reported_fault : {T : Type 0} (r : Result T LoadFault) (reported : LoadFault) (P : LoadFault → Type 0) →
    IsErrAnd r (λ t. t ≡ reported) → P reported → IfErr r P
reported_fault (Ok x) reported P e h = tt
reported_fault (Err t) reported P e h = subst P (sym e) h
