-- What reading a piece part by part does.
use Rattle.std.specs.Prelude.{◌≡◌, ℕ, ◌<◌, Bool, true, false, List, ◌++◌, length, take, drop}
use Rattle.std.specs.List.{AllByRecursion}
use Rattle.rdf_stream.specs.declared.fault.StreamFault.{StreamFault}
use Rattle.rdf_stream.specs.Pieces.{HaltsOn}

-- With this part, whatever comes after it, the bytes are not read on.
abbrev pub HaltsWithin : {R : Type 0} → (R → List ℕ → R → Type 0) → (StreamFault → R → List ℕ → Bool → R → Type 0) → StreamFault → R → List ℕ → R → Type 0
HaltsWithin {R} taken halts f old part new = (more : List ℕ) → HaltsOn taken halts f old (λ bytes. bytes ++ (part ++ more)) false new

-- each byte of the text is below 128
abbrev pub IsAsciiText : List ℕ → Type 0
IsAsciiText text = AllByRecursion (λ b. b < 128) text

-- The text stands in another from a place on, and is ASCII where that is asked for.
pub record MayPass (text : List ℕ) (at : ℕ) (is_ascii : Bool) (front : List ℕ) : Type 0 where
  pub stands : front ≡ take (length front) (drop at text)
  pub ascii : is_ascii ≡ true → IsAsciiText front
