-- Trees, their tokens and events, and what their names stand for.
pub mod TokensOfEvents
pub mod MarksOfEvents
pub mod Senses
pub mod BoundNames
pub mod CompletedBeginnings
pub mod NamesLemmas
pub mod ScopeCalls
