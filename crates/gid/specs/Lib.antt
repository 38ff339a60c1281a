-- What a verdict means. Read in this order.
pub mod Updates
pub mod Histories
pub mod Verdicts
pub mod Systems
pub mod Statuses
pub mod News
pub mod Successors
pub mod Pruning
pub mod Refusals
pub mod Outcomes
pub mod Examples
