-- what has to be believed
pub mod Trees
pub mod Names
pub mod Quads
pub mod Events
pub mod Documents
pub mod Owed
pub mod Texts
pub mod Refusals
pub mod Language
pub mod ReadWhole
-- what need not be: functions that compute, machines and states, what the code's side speaks of, and the laws
pub mod Machine
pub mod TreeTokens
pub mod TreeQuads
pub mod Laws
pub mod Alike
pub mod States
pub mod Slots
pub mod Spelled
pub mod Holding
pub mod Turns
pub mod Steps
pub mod Scopes
pub mod Straight
pub mod Coded
pub mod Accepting
