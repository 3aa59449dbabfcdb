-- what has to be believed
pub mod Words
pub mod Addresses
pub mod Statuses
pub mod BadIris
pub mod Reasons
pub mod Runs
pub mod Several
pub mod Outputs
pub mod Asides
pub mod Programs
-- what need not be: what the code's side speaks of
pub mod WordSteps
pub mod RunSteps
