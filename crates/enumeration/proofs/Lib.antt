-- The laws of the small histories.
pub mod Places
pub mod Ranking
pub mod Legality
pub mod Listing
pub mod Counting
pub mod Accepting
pub mod Texts
pub mod Progress
