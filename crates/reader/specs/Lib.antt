-- What reading a record does to tables. This is what a reader of these pages believes:
pub mod Opening
pub mod Replaying
pub mod Standing
pub mod Reading
pub mod Underway
-- Inner contracts: what comes of a line, and the fold over a record's lines, on tables with any contents.
pub mod Turning
pub mod Advancing
pub mod Pieces
