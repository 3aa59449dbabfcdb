mod Prelude
pub mod ReportLemmas
pub mod RowLemmas
pub mod WalkLemmas
pub mod LevelLemmas
pub mod EnterLemmas
pub mod GivenLemmas
pub mod RunLemmas
pub mod OutputLemmas
pub mod AsideLemmas
pub mod SeveralLemmas
pub mod ReasonLemmas
pub mod BadIriLemmas
