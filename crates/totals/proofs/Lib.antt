-- The laws of counts.
pub mod Counting
