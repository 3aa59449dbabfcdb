-- what has to be believed
pub mod Texts
pub mod Reference
pub mod DotSegments
pub mod Resolution
pub mod Limits
pub mod Faults
pub mod Scope
pub mod BindingLines
pub mod Bindings
-- what need not be: functions that compute, what the code's side speaks of, and the laws, which say that both agree
pub mod Cuts
pub mod Parts
pub mod Dots
pub mod Resolve
pub mod Directory
pub mod Seen
pub mod Prefixes
pub mod Table
pub mod Rules
pub mod Steps
pub mod Roots
pub mod BindingSteps
pub mod Laws
pub mod BindingLaws
