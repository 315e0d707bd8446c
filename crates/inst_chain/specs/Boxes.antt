-- Boxes by their places. No public clause names this.
use Rattle.std.specs.Prelude.{◌≡◌, ℕ, List, [], ◌∷◌, ◌++◌}
use denote.RawPtr.{Ptr, block_ptr}

-- a box: where it lies, the handle that frees it, and what is in it
abbrev pub Lodged : Type 0 → Type 0 → Type 0
Lodged X Z = Ptr × Z × X

-- a block of memory starts at p, so p is not null
abbrev pub IsStart : Ptr → Type 0
IsStart p = (b : ℕ) × (p ≡ block_ptr b 0)

-- the first box lies at p, and z frees it
abbrev pub IsFirst : {X Z : Type 0} → List (Lodged X Z) → Ptr → Z → Type 0
IsFirst {X} {Z} bs p z = (x : X) × (rest : List (Lodged X Z)) × (bs ≡ (p, z, x) ∷ rest)

-- the first box lies at p
abbrev pub HasFirst : {X Z : Type 0} → List (Lodged X Z) → Ptr → Type 0
HasFirst {X} {Z} bs p = (z : Z) × IsFirst bs p z

-- the first box lies at p, has x in it, and cs come after
abbrev pub Shows : {X Z : Type 0} → List (Lodged X Z) → Ptr → X → List (Lodged X Z) → Type 0
Shows {X} {Z} bs p x cs = (z : Z) × (bs ≡ (p, z, x) ∷ cs)

-- the last box lies at p
abbrev pub IsLast : {X Z : Type 0} → List (Lodged X Z) → Ptr → Type 0
IsLast {X} {Z} bs p = (front : List (Lodged X Z)) × (z : Z) × (x : X) × (bs ≡ front ++ (p, z, x) ∷ [])
