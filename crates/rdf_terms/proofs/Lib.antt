mod Prelude
pub mod RegexLemmas
pub mod ShapesLemmas
pub mod Disjoint
pub mod KindsLemmas
mod LawExamples
pub mod CharsLemmas
pub mod TermsLemmas
pub mod UsedCharacters
pub mod EscapesLemmas
pub mod CodeTables
pub mod ValuesLemmas
pub mod InsideLemmas
pub mod KnownLemmas
pub mod NamesLemmas
pub mod ViewLemmas
pub mod LocalLemmas
pub mod PiecesLemmas
pub mod UcharLemmas
pub mod SinksLemmas
pub mod IriBytes
pub mod LookUps
pub mod RunsLemmas
pub mod Places
pub mod ValueBytes
pub mod PlainTokens
pub mod SchemeLemmas
pub mod SpelledLemmas
