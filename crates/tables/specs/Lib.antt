-- What the engine is handed, and what "the tables fit" means. This is what a reader believes. Inner contracts, which no promise cites, are in it `Long` (Tables), `with_bit` and `without_bit` (Bits), `HasMark`, `mark`, `unmark` and `NoneBetween` (Visits) and `number`, `lent_number` and `sent_number` (Refused): the code's form of what the promises say by `check_needs` and `refusal_on`.
pub mod Tables
pub mod Keeping
pub mod Numbers
pub mod Lending
pub mod Marks
pub mod Bits
pub mod Visits
pub mod Earlier
pub mod Work
pub mod Refused
pub mod Fitting
pub mod Listing
