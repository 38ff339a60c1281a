-- The laws of walks.
pub mod Walks
