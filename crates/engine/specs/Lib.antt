-- What the engine promises. This is what a reader believes:
pub mod Answers
pub mod Effects
pub mod Promise
pub mod Runs
pub mod Matching
-- Inner contracts, which no promise cites: what each part of an update does, on tables with any contents, and what is to come of it. The proofs bind them to the promise.
pub mod Preparing
pub mod Judging
pub mod Outcomes
pub mod Done
