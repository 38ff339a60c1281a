-- The lent slices as the tables that the definitions speak of.
-- Assumes nothing.
use Rattle.std.specs.Prelude.{◌≡◌}
use Rattle.tables.specs.declared.lent.LentTables.{LentTables}
use Rattle.tables.specs.Tables.{Tables, tables_of}

-- What stands in the slices.
abbrev pub contents : LentTables → Tables
contents t = tables_of t.status.now t.marks.now t.from.now t.to.now t.key.now t.successor.now t.news.now t.in_head.now t.out_head.now t.queue.now t.visited.now t.in_next.now t.out_next.now

-- The slices are the same ones, so that what is written to them is the lender's.
pub record StillLent (t t' : LentTables) : Type 0 where
  pub status : t'.status.ghost_name ≡ t.status.ghost_name
  pub marks : t'.marks.ghost_name ≡ t.marks.ghost_name
  pub from : t'.from.ghost_name ≡ t.from.ghost_name
  pub to : t'.to.ghost_name ≡ t.to.ghost_name
  pub key : t'.key.ghost_name ≡ t.key.ghost_name
  pub successor : t'.successor.ghost_name ≡ t.successor.ghost_name
  pub news : t'.news.ghost_name ≡ t.news.ghost_name
  pub in_head : t'.in_head.ghost_name ≡ t.in_head.ghost_name
  pub out_head : t'.out_head.ghost_name ≡ t.out_head.ghost_name
  pub queue : t'.queue.ghost_name ≡ t.queue.ghost_name
  pub visited : t'.visited.ghost_name ≡ t.visited.ghost_name
  pub in_next : t'.in_next.ghost_name ≡ t.in_next.ghost_name
  pub out_next : t'.out_next.ghost_name ≡ t.out_next.ghost_name
