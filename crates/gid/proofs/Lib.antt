-- The laws of the definitions.
pub mod Decide
pub mod Systems
pub mod Paths
pub mod Following
pub mod Tests
pub mod Listing
pub mod Deadness
pub mod After
pub mod Statuses
pub mod News
pub mod Chains
pub mod Pruning
pub mod Repeats
pub mod Examples
pub mod Worked
