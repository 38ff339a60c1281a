-- What a picture is, and what it is a picture of. This is what a reader believes:
pub mod Picture
pub mod Progress
-- Inner contracts: what each call does, on tables with any contents. proofs/Session.antt proves that the calls keep the progress of a drawing.
pub mod Drawer
pub mod Shown
pub mod Driving
