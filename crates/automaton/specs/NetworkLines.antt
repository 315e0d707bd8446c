-- The lines of a network, one for each end, and layouts that fit it.
use Rattle.std.specs.Prelude.{◌≡◌, ℕ, IsTrue, List, Option, length, map, Contains}
use Rattle.std.specs.List.{flat_map, range_with_len}
use Rattle.std.specs.List.Sorted.{IsPermutation}
use Rattle.automaton.specs.declared.layout.Layout.{Layout}
use Rattle.automaton.specs.declared.line.Line.{Line}
use Rattle.automaton.specs.declared.network.End.{End}
use Rattle.automaton.specs.Layouts.{LayoutFits}
use Rattle.automaton.specs.Networks.{IsAt}
use Rattle.automaton.specs.Prefixes.{Prefix, hops_of, prefixes, root_of}
use Rattle.automaton.specs.States.{Net, ends_at, is_used}

-- a line with the number and the birth of its end
pub record Ending : Type 0 where
  pub line : Line
  pub number : ℕ
  pub birth : Option ℕ

-- the line of an end at the state of a prefix
abbrev pub ending_at : Prefix → End → Ending
ending_at prefix end = record { line = record { root = root_of prefix; hops = hops_of prefix; last = end.step; out = end.out }; number = end.number; birth = end.birth }

-- each state stands for the prefix that is given for its number
abbrev pub ArePlaces : Net → (ℕ → Prefix) → Type 0
ArePlaces net places = (number : ℕ) → IsTrue (is_used net number) → IsAt net number (places number)

-- the lines of all ends, where these are the prefixes of the states
abbrev pub endings_by : (ℕ → Prefix) → Net → List Ending
endings_by places net = flat_map (λ number. map (ending_at (places number)) (ends_at net number)) (range_with_len 0 (length net))

-- the network has exactly these lines with the numbers and the births of their ends, each as often as it stands, in whatever order
pub record HasEndings (net : Net) (endings : List Ending) : Type 0 where
  pub places : ℕ → Prefix
  pub are_places : ArePlaces net places
  pub same : IsPermutation (endings_by places net) endings

-- states stand for prefixes of these lines alone
abbrev pub ArePrefixes : Net → List Line → Type 0
ArePrefixes net lines = (number : ℕ) (prefix : Prefix) → IsAt net number prefix → Contains (prefixes lines) prefix

-- the network has exactly these lines, whatever the numbers and the births of their ends, and no states but those of their prefixes
abbrev pub HasLines : Net → List Line → Type 0
HasLines net lines = (endings : List Ending) × HasEndings net endings × (map (λ ending. ending.line) endings ≡ lines) × ArePrefixes net lines

-- a layout fits a network where it fits the network's lines
abbrev pub NetworkFits : Net → Layout → Type 0
NetworkFits net layout = (lines : List Line) × HasLines net lines × LayoutFits lines layout
