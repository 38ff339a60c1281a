-- What a listing prints. This is what a reader believes:
pub mod Texts
pub mod Listing
pub mod Progress
-- Inner contracts: what lines print and what each call does, on tables with any contents. proofs/Session.antt proves that the calls keep the progress of a listing.
pub mod Printing
pub mod Lister
