-- How many states have each status. This is what a reader believes:
pub mod Counting
-- Inner contracts, which no promise cites: what a block of states adds.
pub mod Blocks
