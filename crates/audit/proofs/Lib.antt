-- Why the facts that the table check tests are those of tables that fit, and what its parts rest on.
pub mod Reading
pub mod Canonical
pub mod Founding
pub mod Meeting
pub mod Chaining
pub mod Differing
pub mod Gathering
pub mod Judging
pub mod Checking
