-- The laws of first places.
pub mod Places
