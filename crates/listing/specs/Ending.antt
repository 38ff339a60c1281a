-- How the listing program ends.
-- Assumes nothing.
use Rattle.std.specs.Prelude.{◌≡◌, true, List, ℕ}
use Rattle.tables.specs.Tables.{Tables}
use Rattle.reader.specs.declared.task.Task.TheVariants.{End}
use Rattle.report.specs.Progress.{ListingBegun}
use Rattle.listing.specs.declared.ListingEnd.{ListingEnd}

-- The calls followed one another as they ask for, so that what was written is the listing's start; and the program is over only where the library says that it is.
pub record EndsListing (r : ListingEnd) (output : List ℕ) (t : Tables) : Type 0 where
  pub over : r.over ≡ true → r.lister.task ≡ End
  pub progress : ListingBegun r.lister output t
