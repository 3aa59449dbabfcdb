mod Prelude
pub mod ViewsLemmas
pub mod WellFormedLemmas
pub mod PutLemmas
pub mod OutputLemmas
pub mod LineOutLemmas
pub mod PiecesLemmas
pub mod PartsLemmas
pub mod PassesLemmas
pub mod ConvertingLemmas
pub mod GrowthLemmas
pub mod ConvertsLemmas
pub mod DocumentLemmas
pub mod ExpectedLemmas
pub mod ExplainsLemmas
pub mod BracketLemmas
pub mod ChecksLemmas
pub mod TokenWordsLemmas
pub mod ShowsLemmas
pub mod LoadsLemmas
mod WithoutCrsLemmas
pub mod LineCuts
pub mod SieveLemmas
pub mod SkipLemmas
mod WatchLemmas
