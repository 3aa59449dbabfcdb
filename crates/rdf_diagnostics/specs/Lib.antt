-- what has to be believed
pub mod Excerpts
pub mod Signs
pub mod Causes
pub mod BadEscapes
pub mod Sights
-- what need not be: functions that compute, machines and states, what the code's side speaks of, and the laws
pub mod SightRuns
pub mod EscapeWalks
