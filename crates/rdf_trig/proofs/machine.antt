-- The machine that reads a token at a time: its steps and runs, and which documents it reads.
pub mod Completeness
pub mod Soundness
pub mod ClosingTokens
pub mod ViableTokens
pub mod DepthAndSense
pub mod DueQuads
pub mod AcceptedTokens
pub mod RefusedTokens
pub mod ExactDocuments
pub mod TwoQuadsAToken
pub mod OneTokenMore
pub mod AlikeLemmas
pub mod EndOfInput
pub mod Fallbacks
pub mod OpenSizes
