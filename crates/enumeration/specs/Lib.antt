-- The small histories and their listing. This is what a reader believes:
pub mod Small
pub mod Ranking
pub mod Counting
pub mod Lines
pub mod Sending
-- Inner contracts, which no promise cites.
pub mod Parts
