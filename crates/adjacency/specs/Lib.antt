-- Walks over the steps at a state: how an entry leads on, the steps chained at one end and that they can be walked, and those of a struct of src/. Inner contracts, which no promise cites.
pub mod Walks
pub mod Chains
pub mod Adjacencies
