-- The laws of the status call.
pub mod Numbers
pub mod Asking
mod Rounds
