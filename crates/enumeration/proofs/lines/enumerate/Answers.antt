-- `enumerate` meets its contract.
-- Assumes nothing.
use Rattle.std.proofs.Common.{rules}
use native.Mathlib.Omega.{arith}
use Rattle.record.proofs.Putting.{puts_then}
use Rattle.enumeration.proofs.Progress.{count_room, enumeration_placed}
use Rattle.enumeration.proofs.lines.enumerate.Goals as goal

pub put_number-requires : goal.put_number-requires
put_number-requires c = omega (arith, count_room c.enumerate_ranks-count.ensures c.if-output-lt-ROOM.false)

pub put_byte-requires : goal.put_byte-requires
put_byte-requires c = omega (arith, count_room c.enumerate_ranks-count.ensures c.if-output-lt-ROOM.false, c.put_number.ensures.wrote.after, c.put_number.ensures.size)

pub returns : goal.returns
returns c =
    let listed = c.enumerate_ranks-count.ensures in
    let all = puts_then (puts_then listed.puts c.put_number.ensures) c.put_byte.ensures in
    let wrote = all.wrote in
    let same = all.same in
    enumeration_placed listed.counted (search rules) c.if-output-lt-ROOM.false
