-- what has to be believed
pub mod Numbers
pub mod Calls
pub mod Kinds
