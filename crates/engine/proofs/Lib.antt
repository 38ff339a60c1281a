-- The proof that the engine keeps its promise.
pub mod Acting
pub mod Naming
pub mod Settlement
pub mod Listing
pub mod Preparing
pub mod Sending
pub mod Reviving
pub mod Closing
pub mod Fitting
pub mod Keeping
pub mod Again
pub mod Promising
pub mod Running
pub mod Twins
pub mod Demands
pub mod Replay
pub mod Earlier
