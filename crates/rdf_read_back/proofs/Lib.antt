mod Prelude
-- What is written for a document of Turtle or TriG is read back, and each law at a document.
pub mod WrittenParts
pub mod WrittenSteps
pub mod WrittenLimits
pub mod PlacedLimits
pub mod OfConverting
pub mod OfWriting
pub mod RefusedOnce
pub mod BlamedOnce
pub mod RefusalLaws
