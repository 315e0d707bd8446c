-- Sum trees: numbers behind their sums, two by two. No public clause cites this module.
use Rattle.std.specs.Prelude.{◌≡◌, ℕ, ◌+◌, ◌*◌, ◌/◌, ◌^◌, ◌<◌, ◌≤◌, ◌≢◌, ◌++◌, List, drop, length, replicate, slice_index, take}
use Rattle.std.specs.List.{sum}

-- the leaves: the second half of the nodes
abbrev pub leaves_of : List ℕ → List ℕ
leaves_of nodes = drop (length nodes / 2) nodes

-- the number of a node is the sum of those of its two children
abbrev pub IsSum : List ℕ → ℕ → Type 0
IsSum nodes node = slice_index nodes node ≡ slice_index nodes (2 * node) + slice_index nodes (2 * node + 1)

-- so it is at each node from 1 on that has children, one aside
abbrev pub AreSumsBut : ℕ → List ℕ → Type 0
AreSumsBut but nodes = (node : ℕ) → 0 < node → 2 * node < length nodes → node ≢ but → IsSum nodes node

-- no nodes, or a whole tree of some height in which each node that has children has the sum of their numbers; node 0 is none
pub record IsSumTree (nodes : List ℕ) : Type 0 where
  pub height : ℕ
  pub size : 0 < length nodes → length nodes ≡ 2 * 2 ^ height
  pub sums : (node : ℕ) → 0 < node → 2 * node < length nodes → IsSum nodes node

-- the first leaves, so many, are numbers, the others add nothing, and the sum fits a word
pub record HasLeaves (nodes : List ℕ) (count : ℕ) : Type 0 where
  pub tree : IsSumTree nodes
  pub fits : sum (leaves_of nodes) < 2 ^ 64
  pub within : count ≤ length (leaves_of nodes)
  pub others : sum (leaves_of nodes) ≡ sum (take count (leaves_of nodes))

-- a tree with the same leaves, and behind them some more, which are 0
pub record HasMoreLeaves (nodes grown : List ℕ) : Type 0 where
  pub tree : IsSumTree grown
  pub more : ℕ
  pub some : 0 < more
  pub leaves : leaves_of grown ≡ leaves_of nodes ++ replicate more 0

-- a tree with the same numbers, and a leaf left for one more
pub record HasRoom (old new : List ℕ) (count : ℕ) : Type 0 where
  pub has : HasLeaves new count
  pub left : count < length (leaves_of new)
  pub same : take count (leaves_of new) ≡ take count (leaves_of old)

-- a unit, counted from 0 over all numbers, lies in the number at a place, with so many units before it there
pub record IsUnitAt (numbers : List ℕ) (unit place rest : ℕ) : Type 0 where
  pub within : place < length numbers
  pub before : sum (take place numbers) + rest ≡ unit
  pub less : rest < slice_index numbers place
