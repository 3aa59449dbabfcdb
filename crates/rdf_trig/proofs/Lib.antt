mod Prelude
pub mod trees
pub mod machine
pub mod code
pub mod theorems
pub mod examples
