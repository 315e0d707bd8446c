-- Tournament trees: numbers behind their minima, two by two. No public clause cites this module.
use Rattle.std.specs.Prelude.{◌≡◌, ℕ, ◌+◌, ◌-◌, ◌*◌, ◌/◌, ◌^◌, ◌<◌, ◌≢◌, List, drop, length, min, replicate, slice_index}

-- the leaves: the second half of the nodes
abbrev pub leaves_of : List ℕ → List ℕ
leaves_of nodes = drop (length nodes / 2) nodes

-- the leaves from a place on are free: each has the greatest number of 128 bits, which is no deadline
abbrev pub AreFree : ℕ → List ℕ → Type 0
AreFree place leaves = drop place leaves ≡ replicate (length leaves - place) (2 ^ 128 - 1)

-- the number of a node is the lesser of those of its two children
abbrev pub IsLesser : List ℕ → ℕ → Type 0
IsLesser nodes node = slice_index nodes node ≡ min (slice_index nodes (2 * node)) (slice_index nodes (2 * node + 1))

-- so it is at each node from 1 on that has children, one aside
abbrev pub AreLesserBut : ℕ → List ℕ → Type 0
AreLesserBut but nodes = (node : ℕ) → 0 < node → 2 * node < length nodes → node ≢ but → IsLesser nodes node

-- a whole tree of some height in which each node that has children has the lesser of their numbers; node 0 is none
pub record IsTournament (nodes : List ℕ) : Type 0 where
  pub height : ℕ
  pub size : length nodes ≡ 2 * 2 ^ height
  pub lesser : (node : ℕ) → 0 < node → 2 * node < length nodes → IsLesser nodes node
