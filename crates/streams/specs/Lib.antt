-- What the programs promise of their streams.
pub mod Serving
pub mod Driving
