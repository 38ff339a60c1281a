-- The laws of the record's definitions.
pub mod Sameness
pub mod Filling
pub mod Decimals
pub mod Reading
pub mod Splitting
pub mod Writing
pub mod Placing
pub mod Putting
pub mod Heading
pub mod Lending
