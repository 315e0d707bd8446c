-- Lists in blocks: the items of the blocks one behind another, of which the last one alone takes more.
use Rattle.std.specs.Prelude.{◌≡◌, ℕ, ◌+◌, ◌-◌, ◌^◌, ◌<◌, ◌⊎◌, List, [], length, map, slice_index_or, take}
use Rattle.std.specs.List.{flat_map, sum}

-- the items of all blocks
abbrev pub joined : {T : Type 0} → List (List T) → List T
joined blocks = flat_map (λ block. block) blocks

-- the blocks before the last
abbrev pub closed_of : {T : Type 0} → List (List T) → List (List T)
closed_of blocks = take (length blocks - 1) blocks

-- an item's place in the list is such a place in such a block
pub record IsPlaceIn {T : Type 0} (blocks : List (List T)) (place block offset : ℕ) : Type 0 where
  pub within : block < length blocks
  pub before : length (joined (take block blocks)) + offset ≡ place
  pub less : offset < length (slice_index_or blocks block [])

-- as many blocks are full as were, or one more, which is the last of some
abbrev pub IsFullCount : ℕ → ℕ → ℕ → ℕ → Type 0
IsFullCount full blocks len count = (count ≡ full) ⊎ ((count ≡ full + 1) × (blocks ≡ full + 1) × (len ≡ 64))

-- the lengths of the closed blocks are known, the first so many have 64 items each, and the number of all items fits a word
pub record AreBlocks {T : Type 0} (closed : List (List T)) (lengths : List ℕ) (full : ℕ) (last : List T) : Type 0 where
  pub lengths_are : lengths ≡ map length closed
  pub full_are : (block : ℕ) → block < full → length (slice_index_or closed block []) ≡ 64
  pub fits : sum lengths + length last < 2 ^ 64

-- the sums of the closed blocks are known, and the sum of all numbers fits a word
pub record AreSums (blocks : List (List ℕ)) (sums : List ℕ) : Type 0 where
  pub sums_are : sums ≡ map sum (closed_of blocks)
  pub fits : sum (joined blocks) < 2 ^ 64
