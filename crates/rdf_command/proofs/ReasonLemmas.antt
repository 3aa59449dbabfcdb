-- A device's reason is among those that such a device in its state tells.
use Rattle.rdf_command.proofs.Prelude.{◌≡◌, ℕ, Bool, true, false, List, Option, None, Some, option_map, refl, subst, sym, report_text, told, Evidence, NearRead, LoadFault, Bad, StreamFault, Refused, Write, Device, OneTells, ReportsBindings, ReportsFailed, ReportsStop, ReportsStopOf, broken, device, source_tells, ReportsExplained, ReportsExplainedOf}
use Rattle.clap.specs.Words.{Text}
use Rattle.rdf_stream.specs.declared.devices.Source as source
use Rattle.rdf_stream.specs.declared.fault.LoadFault.TheVariants as load
use Rattle.rdf_stream.specs.declared.fault.StreamFault.TheVariants.{Read, Memory}
use Rattle.rdf_command.specs.declared.explains.Explains as explains

-- one relation holds of all reasons of which another holds
abbrev pub Among : (Option Text → Type 0) → (Option Text → Type 0) → Type 0
Among P Q = (why : Option Text) → P why → Q why

module _ (old new : Option (List ℕ)) (failed : Bool) where
  -- what is reported by a line is reported by a line like it, and of a fault that is known
  pub stop_read : (document output : Device) (line : List ℕ) (fault : StreamFault) (evidence : Evidence NearRead) → fault ≡ Read → line ≡ report_text Read
      → ReportsFailed true line document old new failed → ReportsStop true document output fault evidence old new failed
  stop_read document output line fault evidence is same r =
      subst (λ x. ReportsStop true document output x evidence old new failed) (sym is) (subst (λ l. ReportsFailed true l document old new failed) same r)

  pub stop_write : (document output : Device) (line : List ℕ) (fault : StreamFault) (evidence : Evidence NearRead) → fault ≡ Write → line ≡ report_text Write
      → ReportsFailed true line output old new failed → ReportsStop true document output fault evidence old new failed
  stop_write document output line fault evidence is same r =
      subst (λ x. ReportsStop true document output x evidence old new failed) (sym is) (subst (λ l. ReportsFailed true l output old new failed) same r)

  pub stop_as : (document output : Device) (known fault : StreamFault) (evidence : Evidence NearRead) → fault ≡ known
      → (ReportsExplained true document.name known evidence old new failed → ReportsStop true document output known evidence old new failed)
      → ReportsExplained true document.name fault evidence old new failed → ReportsStop true document output fault evidence old new failed
  stop_as document output known fault evidence is so r =
      subst (λ x. ReportsStop true document output x evidence old new failed) (sym is)
      (so (subst (λ x. ReportsExplained true document.name x evidence old new failed) is r))

  pub stop_as_of : (document output : Device) (known fault : StreamFault) (evidence : Evidence NearRead) → fault ≡ known
      → (ReportsExplainedOf true document.name known evidence old new failed → ReportsStopOf true document output known evidence old new failed)
      → ReportsExplainedOf true document.name fault evidence old new failed → ReportsStopOf true document output fault evidence old new failed
  stop_as_of document output known fault evidence is so r =
      subst (λ x. ReportsStopOf true document output x evidence old new failed) (sym is)
      (so (subst (λ x. ReportsExplainedOf true document.name x evidence old new failed) is r))

  pub bindings_read : (file : Device) (line : List ℕ) (fault : LoadFault) → fault ≡ load.Read → line ≡ report_text Read
      → ReportsFailed true line file old new failed → ReportsBindings true file fault old new failed
  bindings_read file line fault is same r =
      subst (λ x. ReportsBindings true file x old new failed) (sym is) (subst (λ l. ReportsFailed true l file old new failed) same r)

  pub stop_among : (asked : Bool) (document output : Text) (P Q R S : Option Text → Type 0) (fault : StreamFault)
      (evidence : Evidence NearRead) → Among P Q → Among R S
      → ReportsStop asked (device document P) (device output R) fault evidence old new failed
      → ReportsStop asked (device document Q) (device output S) fault evidence old new failed
  stop_among true document output P Q R S Read evidence source drain r = (r.0, source r.0 r.1, r.2)
  stop_among true document output P Q R S Write evidence source drain r = (r.0, drain r.0 r.1, r.2)
  stop_among true document output P Q R S (Refused f) evidence source drain r = r
  stop_among true document output P Q R S Memory evidence source drain r = r
  stop_among false document output P Q R S fault evidence source drain r = r

  -- the same of one of several documents
  pub stop_among_of : (asked : Bool) (document output : Text) (P Q R S : Option Text → Type 0) (fault : StreamFault)
      (evidence : Evidence NearRead) → Among P Q → Among R S
      → ReportsStopOf asked (device document P) (device output R) fault evidence old new failed
      → ReportsStopOf asked (device document Q) (device output S) fault evidence old new failed
  stop_among_of true document output P Q R S Read evidence source drain r = (r.0, source r.0 r.1, r.2)
  stop_among_of true document output P Q R S Write evidence source drain r = (r.0, drain r.0 r.1, r.2)
  stop_among_of true document output P Q R S (Refused f) evidence source drain r = r
  stop_among_of true document output P Q R S Memory evidence source drain r = r
  stop_among_of false document output P Q R S fault evidence source drain r = r

  -- the same of the first of two devices where it has failed, and else of the second
  pub broken_among : (asked is_broken : Bool) (document first second : Text) (P Q R S T U : Option Text → Type 0) (fault : StreamFault)
      (evidence : Evidence NearRead)
      → Among P Q → Among R S → Among T U
      → ReportsStop asked (device document P) (broken is_broken (device first R) (device second T)) fault evidence old new failed
      → ReportsStop asked (device document Q) (broken is_broken (device first S) (device second U)) fault evidence old new failed
  broken_among asked true document first second P Q R S T U fault evidence source one other r =
      stop_among asked document first P Q R S fault evidence source one r
  broken_among asked false document first second P Q R S T U fault evidence source one other r =
      stop_among asked document second P Q T U fault evidence source other r

  -- the same of a file of bindings
  pub bindings_among : (asked : Bool) (name : Text) (P Q : Option Text → Type 0) (fault : LoadFault) → Among P Q
      → ReportsBindings asked (device name P) fault old new failed → ReportsBindings asked (device name Q) fault old new failed
  bindings_among true name P Q (Bad f) among r = r
  bindings_among true name P Q load.Read among r = (r.0, among r.0 r.1, r.2)
  bindings_among true name P Q load.Memory among r = r
  bindings_among false name P Q fault among r = r

-- what a source tells, where there is one, is told by some source in its state
pub one_among : {S : Type 0} (says : source.Ghosts S) (asked : explains.Ghosts S) (s : Option S)
    → Among (OneTells asked.tells s) (OneTells (source_tells says asked) (option_map (told says) s))
one_among says asked None why none = none
one_among says asked (Some s) why tells = (s, refl, tells)
