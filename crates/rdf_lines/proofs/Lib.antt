mod Prelude
pub mod NextToken
pub mod UcharLemmas
pub mod AsciiLemmas
pub mod FormsAgree
pub mod WritingLemmas
pub mod SpelledLine
pub mod Renamed
pub mod NodePrefixLemmas
pub mod WrittenText
pub mod ReadBack
mod Complete
mod Sound
pub mod PlainQuads
mod GoodTreesLemmas
mod LinesLemmas
mod Runs
mod Viable
mod Refusals
mod Lag
mod Due
pub mod EncodedLine
mod PlainTypeLemmas
pub mod EscapedRuns
pub mod EscapedTokens
pub mod EscapedParts
pub mod EscapedLine
pub mod EscapedPassing
pub mod PlainRuns
pub mod WrittenBytesLemmas
pub mod PlacedLines
mod BufferLemmas
mod PlacedCharacters
mod DigitPairs
pub mod LawExamples
mod SpelledLemmas
mod StatesLemmas
mod HeldLemmas
mod GivenLemmas
mod EndLemmas
pub mod AcceptedLemmas
pub mod FormReadBack
pub mod WellFormed
pub mod WrittenLimits
mod SettledLemmas
pub mod AcceptingLemmas
mod NextKinds
pub mod CanonicalLines
pub mod FrontsLemmas
mod PlainLabels
mod PassedLemmas
pub mod WithoutCrs
mod LineEnds
mod DocumentLines
pub mod SplitLemmas
