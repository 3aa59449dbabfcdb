-- The laws as they are stated.
pub mod StatedLaws
pub mod DocumentsRead
