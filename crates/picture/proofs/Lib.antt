-- The laws of the picture.
pub mod Drawing
pub mod Saying
pub mod Tasks
pub mod Session
