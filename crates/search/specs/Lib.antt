-- How verdicts spread, on tables with any contents. Inner contracts, which no promise cites: the engine's proofs bind them to its promise.
pub mod Counting
pub mod Spreading
pub mod Working
pub mod Offering
pub mod Releasing
pub mod Escaping
pub mod Settling
pub mod Searches
