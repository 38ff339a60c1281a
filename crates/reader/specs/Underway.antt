-- A record that comes in parts: where a reader stands in it.
-- Assumes nothing.
use Rattle.std.specs.Prelude.{◌≡◌, List, [], ◌++◌, ℕ}
use Rattle.tables.specs.declared.Graph.{Graph}
use Rattle.tables.specs.Tables.{Tables}
use Rattle.record.specs.declared.splitter.Item.{Item}
use Rattle.record.specs.declared.splitter.Splitter.{Splitter}
use Rattle.record.specs.Items.{items}
use Rattle.record.specs.Splitting.{run}
use Rattle.reader.specs.Replaying.{start_of, after_items}
use Rattle.reader.specs.Standing.{Standing}

-- The bytes `got` of a record have come, and `left` of them are still to be read. The lines read so far are its first ones, whatever follows, and the tables stand for what they come to. A reader that starts with the state value `start` has taken its n from the first of them.
pub record Underway (start : Graph) (got : List ℕ) (s : Splitter) (left : List ℕ) (g : Graph) (t : Tables) : Type 0 where
  pub lines : List Item
  pub told : (rest : List ℕ) → items (got ++ rest) ≡ lines ++ run s (left ++ rest)
  pub stands : Standing (start_of start lines) (after_items (start_of start lines) [] lines) g t
