-- what has to be believed
pub mod Lines
pub mod Writing
pub mod NodePrefixes
pub mod Forms
pub mod Documents
pub mod SplitLines
-- what need not be: functions that compute, machines and states, what the code's side speaks of, and the laws
pub mod Machine
pub mod GoodTrees
pub mod NodeNames
pub mod Laws
pub mod WrittenBytes
pub mod Placing
pub mod Slots
pub mod States
pub mod Spelled
pub mod Accepting
pub mod Canonical
pub mod Fronts
pub mod Escaped
