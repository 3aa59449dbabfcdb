-- what has to be believed
pub mod Classes
pub mod Expressions
pub mod Terminals
pub mod Pieces
pub mod Terms
pub mod Views
pub mod Owned
pub mod Sinks
pub mod Known
-- what need not be: functions that compute, what the code's side speaks of, and the laws, which say that both agree
pub mod Regex
pub mod Shapes
pub mod Values
pub mod Buffers
pub mod Escapes
pub mod Names
pub mod Local
pub mod Runs
pub mod Placing
pub mod Laws
