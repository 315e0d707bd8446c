-- Turns that go, one after another, and files that grow behind them.
use Rattle.std.specs.Prelude.{◌≡◌, ◌≤◌, ◌+◌, ◌==◌, ℕ, zero, suc, true, List, [], ◌++◌, Some, count_by, drop, length, option_map, slice_get}
use Rattle.source_merge.specs.Ranks.{Taken}
use Rattle.source_merge.specs.Turns.{Between, Goes, Input, SourceLine, Turn, Waits, after_turns, before_turns, next_turn}

-- so many turns that all go lead from the one state of the files to the other
abbrev pub GoesThrough : ℕ → ℕ → Between → Between → Type 0
GoesThrough slack zero b c = c ≡ b
GoesThrough slack (suc many) b c = (next : Between) × (next_turn slack b ≡ Goes next) × GoesThrough slack many next c

-- turns that all go are the first so many turns
abbrev pub ComeFirst : Type 0
ComeFirst = (slack many : ℕ) (b c : Between) → GoesThrough slack many b c → after_turns slack many b ≡ c

-- how many lines of a file were taken: each was an event
abbrev pub lines_given : ℕ → List Taken → ℕ
lines_given number taken = count_by (λ t. t.0.file == number) taken

-- what is left of a file behind so many lines
abbrev pub without_lines : ℕ → Input → Input
without_lines given input = record { left = drop given input.left; whole = input.whole }

-- each file has left the lines behind those that it gave; it had at least as many as it gave
pub record LeavesLines (inputs : List Input) (b : Between) : Type 0 where
  pub left : (number : ℕ) → slice_get b.inputs number ≡ option_map (without_lines (lines_given number b.taken)) (slice_get inputs number)
  pub there : (number : ℕ) (input : Input) → slice_get inputs number ≡ Some input → lines_given number b.taken ≤ length input.left

-- so it is behind turns that go
abbrev pub TurnsLeaveLines : Type 0
TurnsLeaveLines = (slack many : ℕ) (inputs : List Input) (b : Between) → GoesThrough slack many (before_turns inputs) b → LeavesLines inputs b

-- the later lines are the earlier ones and those behind them; where the file had ended, it is the same
pub record InputGoesOn (earlier later : Input) : Type 0 where
  pub more : List SourceLine
  pub left : later.left ≡ earlier.left ++ more
  pub whole : earlier.whole ≡ true → (more ≡ []) × (later.whole ≡ true)

-- each file goes on
pub record InputsGoOn (earlier later : List Input) : Type 0 where
  pub as_many : length later ≡ length earlier
  pub each_file : (number : ℕ) (input : Input) → slice_get earlier number ≡ Some input → (other : Input) × (slice_get later number ≡ Some other) × InputGoesOn input other

-- the files were read as far, and the same events were taken
pub record IsAsFar (b c : Between) : Type 0 where
  pub sources : c.sources ≡ b.sources
  pub taken : c.taken ≡ b.taken
  pub inputs : InputsGoOn b.inputs c.inputs

-- a turn that ends the turns comes to the same
abbrev pub EndsAlike : Turn → Turn → Type 0
EndsAlike (Goes next) other = Unit {0}
EndsAlike (Waits number) other = Unit {0}
EndsAlike turn other = other ≡ turn

-- where the files go on, turns that went go the same way; and a turn that stops, or finds all ended, does so again
abbrev pub TurnsStay : Type 0
TurnsStay =
    (slack many : ℕ) (inputs others : List Input) (b : Between) → InputsGoOn inputs others → GoesThrough slack many (before_turns inputs) b
    → (c : Between) × GoesThrough slack many (before_turns others) c × IsAsFar b c × EndsAlike (next_turn slack b) (next_turn slack c)

-- a turn goes
abbrev pub DoesGo : Turn → Type 0
DoesGo (Goes next) = Unit {0}
DoesGo other = ⊥

-- turns end in one way
abbrev pub EndInOneWay : Type 0
EndInOneWay =
    (slack many other : ℕ) (b : Between) → (DoesGo (next_turn slack (after_turns slack many b)) → ⊥) → (DoesGo (next_turn slack (after_turns slack other b)) → ⊥)
    → after_turns slack other b ≡ after_turns slack many b
