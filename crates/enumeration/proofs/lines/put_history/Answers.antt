-- `put_history` meets its contract.
-- Assumes nothing.
use native.Mathlib.Omega.{arith}
use mathlib.Core.List.{[], ◌∷◌}
use lib.ListN.{length-append}
use Rattle.enumeration.specs.Ranking.{unranked}
use Rattle.enumeration.specs.Lines.{comma_separated}
use Rattle.enumeration.proofs.Listing.{small_ranked}
use Rattle.enumeration.proofs.Accepting.{statuses_right}
use Rattle.enumeration.proofs.Texts.{separated_few, status_few, line_placed}
use Rattle.enumeration.proofs.lines.put_history.Goals as goal

pub overflow_add-digits : goal.overflow_add-digits
overflow_add-digits c =
    let s = statuses_right (small_ranked c.args.rank c.requires.in_range c.requires.legal) c.statuses_after.ensures in
    omega (arith, s.0, status_few (unranked c.args.rank) 0)

pub overflow_add-digits-2 : goal.overflow_add-digits-2
overflow_add-digits-2 c =
    let s = statuses_right (small_ranked c.args.rank c.requires.in_range c.requires.legal) c.statuses_after.ensures in
    omega (arith, s.1, status_few (unranked c.args.rank) 1)

pub put_separated-requires : goal.put_separated-requires
put_separated-requires c = omega (arith, c.requires.room, separated_few c.args.rank c.requires.in_range)

pub put_bytes-requires : goal.put_bytes-requires
put_bytes-requires c = omega (arith, c.requires.room, separated_few c.args.rank c.requires.in_range, c.put_separated.ensures.wrote.after, c.put_separated.ensures.size, length-append (comma_separated (unranked c.args.rank)) (58 ∷ []))

pub returns : goal.returns
returns c =
    record {
      puts = line_placed c.args.rank c.statuses_after.result c.requires.in_range c.requires.legal c.statuses_after.ensures c.put_separated.ensures c.put_bytes.ensures;
      within = omega (arith, separated_few c.args.rank c.requires.in_range, c.put_separated.ensures.wrote.after, length-append (comma_separated (unranked c.args.rank)) (58 ∷ []), c.put_bytes.ensures.wrote.after);
    }
