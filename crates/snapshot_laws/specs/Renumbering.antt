-- Lines whose streams have other numbers: what flows along them and waits at their states is the same.
use Rattle.std.specs.Prelude.{◌≡◌, ℕ, List, map}
use Rattle.std.specs.List.{All}
use Rattle.std.specs.List.Sorted.{IsPermutation}
use Rattle.semantics.specs.Histories.{Event, heard_on}
use Rattle.automaton.specs.NetworkLines.{ArePrefixes}
use Rattle.automaton.specs.Networks.{IsAt}
use Rattle.automaton.specs.Prefixes.{Prefix, Root, After, prefixes}
use Rattle.automaton.specs.States.{Net}
use Rattle.automaton.specs.declared.line.Hop.{Hop}
use Rattle.automaton.specs.declared.line.Line.{Line}
use Rattle.automaton.specs.declared.wait.Wait.{Wait}
use Rattle.epoch_laws.specs.BornLines.{BornLine, lines_in}
use Rattle.epoch_laws.specs.Closing.{Stores}
use Rattle.epoch_laws.specs.Histories.{streams_over}
use Rattle.epoch_laws.specs.InstanceFlow.{waiting_instances}
use Rattle.epoch_laws.specs.StoresStandFor.{StoresStandFor}

-- the same wait on the stream with another number
abbrev pub renumbered_wait : (ℕ → ℕ) → Wait → Wait
renumbered_wait number wait = record { stream = number wait.stream; choose = wait.choose; fold = wait.fold }

-- the same hop
abbrev pub renumbered_hop : (ℕ → ℕ) → Hop → Hop
renumbered_hop number hop = record { step = hop.step; wait = renumbered_wait number hop.wait }

-- the same prefix
abbrev pub renumbered_prefix : (ℕ → ℕ) → Prefix → Prefix
renumbered_prefix number (Root stream) = Root (number stream)
renumbered_prefix number (After prefix hop) = After (renumbered_prefix number prefix) (renumbered_hop number hop)

-- the same line
abbrev pub renumbered_line : (ℕ → ℕ) → Line → Line
renumbered_line number line = record { root = number line.root; hops = map (renumbered_hop number) line.hops; last = line.last; out = number line.out }

-- the same line with its birth
abbrev pub renumbered : (ℕ → ℕ) → BornLine → BornLine
renumbered number born = record { line = renumbered_line number born.line; birth = born.birth }

-- each number given to a stream leads back to it, and on the stream with the new number the same tuples were heard
pub record Renumbers (number back : ℕ → ℕ) (history : List Event) : Type 0 where
  pub returns : (stream : ℕ) → back (number stream) ≡ stream
  pub heard : (stream : ℕ) → heard_on history (number stream) ≡ heard_on history stream

-- each stream has the same tuples under its new number
abbrev pub RenumberedLinesGiveTheSame : Type 0
RenumberedLinesGiveTheSame =
    (number back : ℕ → ℕ) (lines : List BornLine) (order : List ℕ) (history : List Event) → Renumbers number back history
    → (stream : ℕ) → streams_over (map (renumbered number) lines) (map number order) history (number stream) ≡ streams_over lines order history stream

-- and at each state the same instances wait
abbrev pub RenumberedStatesWaitAlike : Type 0
RenumberedStatesWaitAlike =
    (number back : ℕ → ℕ) (lines : List BornLine) (order : List ℕ) (history : List Event) → Renumbers number back history
    → (prefix : Prefix) (hop : Hop) → waiting_instances (streams_over (map (renumbered number) lines) (map number order) history) (renumbered_prefix number prefix) (renumbered_hop number hop)
    ≡ waiting_instances (streams_over lines order history) prefix hop

-- a state of the network stands for the prefix
abbrev pub IsSomewhere : Net → Prefix → Type 0
IsSomewhere net prefix = (number : ℕ) × IsAt net number prefix

-- at states that stand for a prefix and for the renumbered one the same instances are stored, up to order
abbrev pub StoreAlike : (ℕ → ℕ) → Net → Net → Stores → Stores → Type 0
StoreAlike number net other stores others =
    (state same : ℕ) (prefix : Prefix) (hop : Hop) → IsAt net state (After prefix hop) → IsAt other same (After (renumbered_prefix number prefix) (renumbered_hop number hop)) → IsPermutation (stores state) (others same)

-- stores that stand for lines and a history stand, in a network of the renumbered lines, for these and the same history
abbrev pub StoresStandRenumbered : Type 0
StoresStandRenumbered =
    (number back : ℕ → ℕ) (net other : Net) (lines : List BornLine) (order : List ℕ) (time : ℕ) (stores others : Stores) (history : List Event)
    → Renumbers number back history → StoresStandFor net lines order time stores history
    → All (IsSomewhere net) (prefixes (lines_in lines)) → ArePrefixes other (lines_in (map (renumbered number) lines)) → StoreAlike number net other stores others
    → StoresStandFor other (map (renumbered number) lines) (map number order) time others history
