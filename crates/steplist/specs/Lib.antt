-- What the search of the step list answers. This is what a reader believes:
pub mod Places
-- Inner contracts, which no promise cites: what a block of places holds.
pub mod Blocks
