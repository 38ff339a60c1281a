-- What the table check promises. This is what a reader believes:
pub mod Audited
-- Inner contracts, which no promise cites: the facts by which it judges, and what each part of it does, on tables with any contents. The proofs bind them to the promise.
pub mod Facts
pub mod Parts
pub mod Contents
