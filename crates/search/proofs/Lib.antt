-- The laws that the proofs of the search rest on.
pub mod Counting
pub mod Marking
pub mod Walking
pub mod Offering
pub mod Spreading
pub mod Releasing
pub mod Escaping
pub mod Settling
pub mod Living
pub mod Dying
