-- How the listing program ends.
pub mod Ending
