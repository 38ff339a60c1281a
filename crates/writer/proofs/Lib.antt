-- The laws of the writer's definitions, and the round trip.
pub mod Bytes
pub mod Deciding
pub mod Alike
pub mod Splits
pub mod Accepting
pub mod Members
pub mod RoundTrip
