-- `list_input` begins a listing, and goes on with it to its end.
-- Assumes nothing.
use Rattle.report.proofs.Session.{progress_begun}
use Rattle.listing.proofs.list_input.Goals as goal

pub drive-over-requires : goal.drive-over-requires
drive-over-requires g c = progress_begun c.begin-lister.ensures.begins c.requires.room c.requires.opens
