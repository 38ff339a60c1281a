-- What the calls for C answer.
pub mod Calls
