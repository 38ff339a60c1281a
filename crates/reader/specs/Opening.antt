-- Opening the tables: "It tests 2 and 3 first, then makes the lent tables fresh (the news list keeps its contents), with n = 2,048 and its caller's step limit."
-- Assumes nothing.
use Rattle.std.specs.Prelude.{◌≡◌, ℕ, Result, Ok, Err}
use Rattle.std.proofs.Math.Option.{Option, some, none}
use Rattle.gid.specs.Successors.{no_successor}
use Rattle.gid.specs.Refusals.{max_states, first}
use Rattle.gid.specs.Outcomes.{Outcome, refused, accepted, by_number}
use Rattle.tables.specs.declared.Graph.{Graph}
use Rattle.tables.specs.Tables.{Tables, visited_length, long_enough}
use Rattle.tables.specs.Keeping.{filled}
use Rattle.tables.specs.Refused.{lent_rules}
use Rattle.tables.specs.declared.refusal.Refusal.{Refusal}
use Rattle.tables.specs.Numbers.{number_of}
use Rattle.engine.specs.declared.Engine.{Engine}

-- For how many states a reader makes tables fresh.
abbrev pub reader_states : ℕ
reader_states = max_states

-- The state value that a reader starts with.
abbrev pub reader_graph : ℕ → Graph
reader_graph limit = record { n = reader_states; limit = limit; steps = 0 }

-- The number of the test 2 or 3, if it applies (1 and 4 never do).
abbrev pub open_refusal : ℕ → Tables → Option ℕ
open_refusal limit t = first (lent_rules (reader_graph limit) (long_enough (reader_graph limit) t))

-- The tables made fresh (proofs/Opening.antt: `opened_fresh`).
abbrev pub freshened : ℕ → Tables → Tables
freshened limit t =
    record {
      status = filled reader_states 0 t.status;
      marks = filled reader_states 0 t.marks;
      from = t.from;
      to = t.to;
      key = t.key;
      successor = filled reader_states no_successor t.successor;
      news = t.news;
      in_head = filled reader_states 0 t.in_head;
      out_head = filled reader_states 0 t.out_head;
      queue = filled reader_states 0 t.queue;
      visited = filled (visited_length reader_states) 0 t.visited;
      in_next = filled limit 0 t.in_next;
      out_next = filled limit 0 t.out_next;
    }

-- Document 01's number and value for each answer: the state value of the fresh tables.
abbrev pub opened_outcome : Result Engine Refusal → Outcome Graph
opened_outcome (Ok e) = accepted e.graph
opened_outcome (Err r) = refused (number_of r)

-- The tables after it: as they were where it is refused.
abbrev pub opened_tables : ℕ → Tables → Option ℕ → Tables
opened_tables limit t none = freshened limit t
opened_tables limit t (some k) = t

pub record Opens (limit : ℕ) (t t' : Tables) (r : Result Engine Refusal) : Type 0 where
  pub answer : opened_outcome r ≡ by_number (open_refusal limit t) (reader_graph limit)
  pub tables : t' ≡ opened_tables limit t (open_refusal limit t)
