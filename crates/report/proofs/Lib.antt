-- The laws of the listing.
pub mod Placing
pub mod Saying
pub mod Lining
pub mod Tasks
pub mod Session
