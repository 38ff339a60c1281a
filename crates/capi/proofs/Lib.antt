-- The laws that the calls for C rest on.
pub mod Few
