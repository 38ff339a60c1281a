-- The chains of an adjacency.
-- Assumes nothing.
use Rattle.adjacency.specs.declared.Adjacency.{Adjacency}
use Rattle.adjacency.specs.Chains.{Chains, chains}

abbrev pub chains_of : Adjacency → Chains
chains_of a = chains a.n a.steps a.ends.now a.head.now a.next.now
