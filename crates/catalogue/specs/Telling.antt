-- What a refusal of a query text tells.
use Rattle.std.specs.Prelude.{◌≡◌, ℕ, List, [], map, slice_index_or}
use Rattle.resubscribe.specs.Cycle.{IsCycle}
use Rattle.catalogue.specs.declared.fault.LoadFault.{LoadFault}
use Rattle.catalogue.specs.declared.fault.LoadFault.TheVariants.{Bad, Cycle, Memory}
use Rattle.catalogue.specs.declared.fault.QueryFault.{QueryFault}

-- a fault with its line, or a cycle; want of memory tells nothing
abbrev pub Tells : (ℕ → QueryFault → Type 0) → (List (List ℕ) → Type 0) → LoadFault → Type 0
Tells P Q (Bad line why) = P line why
Tells P Q (Cycle names) = Q names
Tells P Q Memory = Unit {0}

-- a fault with its line, and never a cycle
abbrev pub TellsBad : (ℕ → QueryFault → Type 0) → LoadFault → Type 0
TellsBad P fault = Tells P (λ names. ⊥) fault

-- a cycle, and never a fault with a line
abbrev pub TellsCycle : (List (List ℕ) → Type 0) → LoadFault → Type 0
TellsCycle Q fault = Tells (λ line why. ⊥) Q fault

-- the names are those of the cycle of queries that have these names
pub record AreOfCycle (reads : List (List ℕ)) (queries : List (List ℕ)) (names : List (List ℕ)) : Type 0 where
  pub cycle : List ℕ
  pub is_cycle : IsCycle reads cycle
  pub names_are : names ≡ map (λ number. slice_index_or queries number []) cycle
