-- Networks in which lines share no waiting state.
use Rattle.std.specs.Prelude.{◌≡◌, ℕ, ◌+◌, ◌==◌, if◌then◌else◌, is_some, List, [], ◌∷◌, length, Some, None, sum_by, count_by}
use Rattle.std.specs.List.{list_any}
use Rattle.automaton.specs.declared.line.Line.{Line}
use Rattle.automaton.specs.NetworkLines.{ArePrefixes, Ending, HasEndings}
use Rattle.automaton.specs.States.{Net, before_at, before_in, edges_at, ends_at, root_in, tells}

-- the lines with the numbers of their places, from a number on, and without births
abbrev pub numbered : ℕ → List Line → List Ending
numbered number [] = []
numbered number (line ∷ lines) = record { line = line; number = number; birth = None } ∷ numbered (number + 1) lines

-- the plain network of lines: each line has one end, with the place of the line as its number and no birth; each stream in which a line begins has one root state, and no other stream has any; there is one waiting state for each hop of each line, from which one forward edge or one end leads on, so it belongs to one line alone; and there is no state but those of prefixes of the lines
pub record IsPlain (lines : List Line) (net : Net) : Type 0 where
  pub endings : HasEndings net (numbered 0 lines)
  pub roots : (stream : ℕ) → count_by (λ slot. tells stream (root_in slot)) net ≡ (if list_any (λ line. line.root == stream) lines then 1 else 0)
  pub waiting : count_by (λ slot. is_some (before_in slot)) net ≡ sum_by (λ line. length line.hops) lines
  pub apart : (number before : ℕ) → before_at net number ≡ Some before → length (edges_at net number) + length (ends_at net number) ≡ 1
  pub prefixes_only : ArePrefixes net lines
