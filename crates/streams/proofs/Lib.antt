-- The laws of the programs' streams.
pub mod Serving
pub mod Driving
