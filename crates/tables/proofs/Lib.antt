-- The laws of the tables and of the refusals.
pub mod Keeping
pub mod Numbers
pub mod Refusing
pub mod Dead
pub mod Sizes
pub mod Bits
pub mod BitLaws
pub mod Marking
pub mod Listed
pub mod Starting
