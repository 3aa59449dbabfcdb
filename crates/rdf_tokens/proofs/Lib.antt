mod Prelude
pub mod TokensLemmas
pub mod GoodLemmas
pub mod FrontLemmas
pub mod PlaceLemmas
mod CountLemmas
pub mod ReadLemmas
pub mod SortLemmas
pub mod FamilyLemmas
pub mod IriLemmas
pub mod LabelLemmas
pub mod TextLemmas
pub mod TagLemmas
pub mod NumberLemmas
mod NumberQuick
mod PlainQuick
mod TagQuick
mod WordQuick
mod LocalLemmas
mod LongLemmas
mod LongQuick
pub mod NameLemmas
pub mod NameSorts
pub mod IriSorts
pub mod FamilySorts
pub mod NoNamesLemmas
pub mod TextSorts
pub mod FixedLemmas
pub mod MachineLemmas
pub mod ByteLemmas
pub mod SpellingLemmas
pub mod StateLemmas
pub mod WalkLemmas
pub mod BlankLemmas
pub mod BlankRuns
pub mod StepLemmas
pub mod OverLemmas
pub mod LookLemmas
pub mod PastGood
mod PeekLemmas
pub mod GrammarsLemmas
pub mod GrammarFronts
pub mod LanguageLemmas
pub mod CutLemmas
pub mod HeldLemmas
pub mod MoveLemmas
pub mod NextLemmas
mod RoomLemmas
pub mod Inside
pub mod LawLemmas
pub mod RefusalPlaces
pub mod PassingLemmas
pub mod OutcomeLemmas
pub mod OpenText
pub mod LawExamples
pub mod LimitLemmas
mod RestLemmas
mod RestStates
mod RestEscapes
mod FitEscapes
mod FlatLemmas
mod QuickLemmas
mod StringLemmas
