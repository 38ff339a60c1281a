-- The status of a state after a record.
pub mod Answering
