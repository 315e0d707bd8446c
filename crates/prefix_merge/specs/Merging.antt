-- Merged networks, in which lines that begin alike share their states.
use Rattle.std.specs.Prelude.{◌≡◌, ◌≤◌, ◌<◌, ◌-◌, ◌==◌, ℕ, Bool, true, false, IsTrue, Contains, Option, count_by, length, slice_get}
use Rattle.std.specs.List.{list_any}
use Rattle.std.specs.Option.{option_map}
use Rattle.automaton.specs.declared.network.End.{End}
use Rattle.automaton.specs.Networks.{IsAt, IsNetwork}
use Rattle.automaton.specs.Prefixes.{Prefix, beginnings}
use Rattle.automaton.specs.States.{Net, ends_at, is_used}

-- a state stands for the prefix
abbrev pub HasPrefix : Net → Prefix → Type 0
HasPrefix net prefix = (number : ℕ) × IsAt net number prefix

-- an end of this kind uses the prefix: it stands at a state whose prefix begins with it
pub record IsUsedBy (net : Net) (kind : End → Bool) (prefix : Prefix) : Type 0 where
  pub last : ℕ
  pub whole : Prefix
  pub here : IsAt net last whole
  pub ends : IsTrue (list_any kind (ends_at net last))
  pub begins : Contains (beginnings whole) prefix

-- no two states stand for one prefix, and each state's prefix is used by an end
pub record IsMerged (net : Net) : Type 0 where
  pub apart : (number other : ℕ) (prefix : Prefix) → IsAt net number prefix → IsAt net other prefix → number ≡ other
  pub needed : (number : ℕ) (prefix : Prefix) → IsAt net number prefix → IsUsedBy net (λ end. true) prefix

-- how many ends at a state have the number
abbrev pub ends_numbered : Net → ℕ → ℕ → ℕ
ends_numbered net number state = count_by (λ end. end.number == number) (ends_at net state)

-- the number of the end at a place of a state, where one stands there
abbrev pub number_at : Net → ℕ → ℕ → Option ℕ
number_at net state place = option_map (λ end. end.number) (slice_get (ends_at net state) place)

-- an end has the number
abbrev pub HasEnd : Net → ℕ → Type 0
HasEnd net number = (state : ℕ) × (1 ≤ ends_numbered net number state)

-- no two ends have one number
pub record HasOwnNumbers (net : Net) : Type 0 where
  pub one : (number state : ℕ) → ends_numbered net number state ≤ 1
  pub apart : (number state other : ℕ) → 1 ≤ ends_numbered net number state → 1 ≤ ends_numbered net number other → state ≡ other

-- the last place is that of a state, if there is one
abbrev pub EndsInState : Net → Type 0
EndsInState net = 0 < length net → IsTrue (is_used net (length net - 1))

-- it is a merged network, whose last place is that of a state
pub record IsSettled (net : Net) : Type 0 where
  pub network : IsNetwork net
  pub merged : IsMerged net
  pub last : EndsInState net

-- no state has the number, and each number below it is that of a state
pub record IsLowestFree (net : Net) (number : ℕ) : Type 0 where
  pub free : is_used net number ≡ false
  pub lowest : (below : ℕ) → below < number → IsTrue (is_used net below)
