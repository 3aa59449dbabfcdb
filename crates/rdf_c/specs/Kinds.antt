-- What a call tells of an unexpected token.
use Rattle.std.specs.Prelude.{◌≡◌, ◌≢◌, ℕ, Bool, true, false, List, [], ◌++◌, MatchOption, Result, Err}
use Rattle.rdf_driver.specs.declared.summary.Summary.{Summary}
use Rattle.rdf_diagnostics.specs.declared.sight.Sight.{Sight}
use Rattle.rdf_diagnostics.specs.declared.sight.Sight.TheVariants.{Token, Stop, BadEscape, Unknown}
use Rattle.rdf_stream.specs.declared.watch.Nearby.{Nearby}
use Rattle.rdf_stream.specs.declared.watch.Nearby.TheVariants.{Asked, Told}
use Rattle.rdf_stream.specs.Places.{HandsOut, IsNear, NearRead}
use Rattle.rdf_terms.specs.declared.kind.Kind.{Kind}
use Rattle.rdf_terms.specs.declared.reason.Reason.{Reason}
use Rattle.rdf_terms.specs.declared.reason.Reason.TheVariants.{Unexpected as UnexpectedToken}
use Rattle.rdf_driver.specs.Kinds.{has}
use Rattle.rdf_tokens.specs.Tokens.{Place}
use Rattle.rdf_stream.specs.declared.expected.Details.{Details}
use Rattle.rdf_stream.specs.declared.fault.StreamFault.{StreamFault}
use Rattle.rdf_stream.specs.declared.fault.StreamFault.TheVariants.{Refused}
use Rattle.rdf_stream.specs.Expected.{CouldStand, NoDetails, trees_of}
use Rattle.rdf_stream.specs.Jobs.{JobRead}
use Rattle.rdf_stream.specs.Languages.{language_of}
use Rattle.rdf_tokens.specs.Scans.{place_of}
use Rattle.rdf_c.specs.Calls.{AsksFor}
use Rattle.rdf_c.specs.Numbers.{number_of_reason}
use Rattle.rdf_c.specs.declared.kinds.Unexpected.{Unexpected}
use Rattle.rdf_c.specs.declared.outcome.Outcome.{Outcome}
use Rattle.rdf_c.specs.declared.request.Request.{Request}

-- the bits of a kind alone
pub record IsAlone (bits : ℕ) (kind : Kind) : Type 0 where
  pub there : has bits kind ≡ true
  pub others : (k : Kind) → k ≢ kind → has bits k ≡ false

-- what is known, as bits: none are set where no kind was found
abbrev pub HasBits : Unexpected → Details → Type 0
HasBits u details = MatchOption details.found ((u.found ≡ 0) × (u.expected ≡ 0)) (λ kind. IsAlone u.found kind × (u.expected ≡ details.expected))

-- how many bytes stand at a place, as far as it is told; of a token with a bad escape none are
abbrev pub length_by : Sight → ℕ
length_by (Token kind n) = n
length_by (Stop n) = n
length_by (BadEscape n) = 0
length_by Unknown = 0

abbrev pub length_of : Nearby NearRead → ℕ
length_of (Told near) = length_by near.sight
length_of near = 0

-- The document is refused, and this is told of the place, by the bytes of it that were read then.
pub record IsPlaced (job : JobRead) (input : List ℕ) (o : Outcome) (near : NearRead) : Type 0 where
  pub refused : o.status ≡ 1
  pub read : List ℕ
  pub rest : List ℕ
  pub parts : input ≡ read ++ rest
  pub is_end : Bool
  pub tells : IsNear (language_of job).dialect (language_of job).limit read is_end o.offset near

-- the same of the job that a call asks for
abbrev pub IsPlacedFor : Request → List ℕ → List ℕ → List ℕ → Outcome → NearRead → Type 0
IsPlacedFor request base_text prefixes input o near = (job : JobRead) × AsksFor request base_text prefixes [] job × IsPlaced job input o near

-- of a refusal of the job's document: what is known of an unexpected token
abbrev pub TellsOf : Reason → JobRead → List ℕ → Place → Details → Type 0
TellsOf UnexpectedToken job input at details = CouldStand (language_of job) (trees_of job) input true at details
TellsOf reason job input at details = NoDetails details

-- what is told beside the outcome of a check of the job: nothing but of a refused document
pub record HasTold (job : JobRead) (input : List ℕ) (o : Outcome) (details : Details) : Type 0 where
  pub refused : o.status ≡ 1 → (reason : Reason) × (o.reason ≡ number_of_reason reason) × TellsOf reason job input (record { offset = o.offset; line = o.line }) details
  pub others : o.status ≢ 1 → NoDetails details

-- the same beside that of a call
pub record HasToldFor (request : Request) (base_text prefixes input : List ℕ) (o : Outcome) (details : Details) : Type 0 where
  pub refused : o.status ≡ 1 → (job : JobRead) × AsksFor request base_text prefixes [] job × HasTold job input o details
  pub others : o.status ≢ 1 → NoDetails details

-- and as the bits of a call
pub record HasExpected (request : Request) (base_text prefixes input : List ℕ) (o : Outcome) (u : Unexpected) : Type 0 where
  pub details : Details
  pub told : HasToldFor request base_text prefixes input o details
  pub bits : HasBits u details
  pub near : Nearby NearRead
  pub placed : HandsOut Asked (IsPlacedFor request base_text prefixes input o) near
  pub length : u.length ≡ length_of near

-- ---- within a call

-- what is handed out beside a fault
abbrev pub TellsFor : StreamFault → JobRead → List ℕ → Details → Type 0
TellsFor (Refused f) job input details = TellsOf f.reason job input (place_of f) details
TellsFor fault job input details = NoDetails details

-- what is told of the place of a fault
abbrev pub PlacesFor : JobRead → List ℕ → Result Summary StreamFault → NearRead → Type 0
PlacesFor job input (Err (Refused f)) near =
    (read : List ℕ) × (rest : List ℕ) × (input ≡ read ++ rest) × (is_end : Bool)
    × IsNear (language_of job).dialect (language_of job).limit read is_end f.offset near
PlacesFor job input result near = ⊥
