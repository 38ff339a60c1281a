-- What a record is. This is what a reader believes, in the words of documents 01 and 02:
pub mod Text
pub mod Grammar
pub mod Lines
pub mod Items
-- Inner contracts: what text is put into a buffer (Putting), and what the code's values stand for. proofs/Splitting.antt proves that what the splitter tells is the record's items.
pub mod Putting
pub mod Buffer
pub mod Parsing
pub mod Splitting
