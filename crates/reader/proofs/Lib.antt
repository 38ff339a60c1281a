-- The laws that the reader's proofs rest on, and what a whole record comes to.
pub mod Opening
pub mod Lines
pub mod Following
pub mod Going
pub mod Whole
pub mod Parts
pub mod Ending
pub mod Refusing
