-- Documents, and each law at one.
pub mod Documents
pub mod OfBindings
pub mod OfLaws
pub mod OfReading
