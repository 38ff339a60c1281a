-- What the writer writes, what it answers, and what reading it back comes to. This is what a reader believes:
pub mod Order
pub mod Answering
pub mod Rereading
-- Inner contracts: what one state adds to the record.
pub mod Sizing
