-- How the drawing program ends.
pub mod Ending
