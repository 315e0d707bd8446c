-- The births of the ends that use a state.
use Rattle.std.specs.Prelude.{◌≡◌, ℕ, zero, suc, Contains, Option, Some}
use Rattle.automaton.specs.States.{Net, before_at, ends_at}
use Rattle.automaton.specs.declared.network.End.{End}

-- the last state stands behind a state, so many forward edges on
abbrev pub IsBehind : Net → ℕ → ℕ → ℕ → Type 0
IsBehind net state zero last = last ≡ state
IsBehind net state (suc hops) last = (before : ℕ) × (before_at net last ≡ Some before) × IsBehind net state hops before

-- an end with this birth uses a state: it stands there or behind
abbrev pub IsBirthBehind : Net → ℕ → Option ℕ → Type 0
IsBirthBehind net state birth = (hops : ℕ) × (last : ℕ) × (end : End) × IsBehind net state hops last × Contains (ends_at net last) end × (end.birth ≡ birth)
