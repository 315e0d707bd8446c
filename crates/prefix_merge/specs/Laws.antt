-- Laws over merged networks.
use Rattle.std.specs.Prelude.{◌≡◌, ◌↔◌, ℕ, List, [], ◌∷◌, ◌++◌, Contains, Option, None, count_by, is_some, length, map}
use Rattle.automaton.specs.declared.line.Line.{Line}
use Rattle.automaton.specs.NetworkLines.{Ending, HasEndings, HasLines}
use Rattle.automaton.specs.Plain.{numbered}
use Rattle.automaton.specs.Prefixes.{Prefix, prefixes}
use Rattle.automaton.specs.States.{Net, root_in}
use Rattle.prefix_merge.specs.Counts.{ListPrefixes, is_root}
use Rattle.prefix_merge.specs.Insertion.{Inserts}
use Rattle.prefix_merge.specs.Listed.{states_of}
use Rattle.prefix_merge.specs.Merging.{EndsInState, HasPrefix, IsMerged, IsSettled}
use Rattle.prefix_merge.specs.Removal.{Removes}

-- the states of a merged network are exactly the prefixes of its lines
abbrev pub StatesArePrefixes : Type 0
StatesArePrefixes =
    (net : Net) (endings : List Ending) → IsMerged net → HasEndings net endings
    → (prefix : Prefix) → HasPrefix net prefix ↔ Contains (prefixes (map (λ ending. ending.line) endings)) prefix

-- a merged network has as many states as its lines have distinct prefixes
abbrev pub StatesAreCounted : Type 0
StatesAreCounted = (net : Net) (lines : List Line) (distinct : List Prefix) → IsMerged net → HasLines net lines → ListPrefixes lines distinct → count_by is_some net ≡ length distinct

-- a list of the lines' distinct prefixes: it has as many prefixes as the network has states, and as many roots as the network has root states
pub record ListsStates (net : Net) (lines : List Line) : Type 0 where
  pub distinct : List Prefix
  pub are : ListPrefixes lines distinct
  pub states : count_by is_some net ≡ length distinct
  pub roots : count_by (λ slot. is_some (root_in slot)) net ≡ count_by is_root distinct

-- each merged network that has the lines has such a list
abbrev pub StatesAreListed : Type 0
StatesAreListed = (net : Net) (lines : List Line) → IsMerged net → HasLines net lines → ListsStates net lines

-- whichever lines there are, their prefixes are listed, each once
abbrev pub PrefixesAreListed : Type 0
PrefixesAreListed = (lines : List Line) → ListPrefixes lines (states_of lines)

-- a line that comes and is taken away again leaves a merged network as it was
abbrev pub TakenBackIsBefore : Type 0
TakenBackIsBefore =
    (line : Line) (end : ℕ) (birth : Option ℕ) (old middle new : Net) → IsSettled old → IsSettled middle → EndsInState new → Inserts line end birth old middle → Removes end middle new → new ≡ old

-- a merged network has the lines of its endings, and no others
abbrev pub LinesAreItsOwn : Type 0
LinesAreItsOwn = (net : Net) (endings : List Ending) → IsMerged net → HasEndings net endings → HasLines net (map (λ ending. ending.line) endings)

-- lines that come one after another, each with its place as the number of its end and without a birth, are the network's lines
pub record LinesComeInTurn : Type 0 where
  pub none : HasEndings [] []
  pub next : (lines : List Line) (line : Line) (old new : Net) → HasEndings old (numbered 0 lines) → Inserts line (length lines) None old new → HasEndings new (numbered 0 (lines ++ line ∷ []))
  pub all : (lines : List Line) (net : Net) → IsMerged net → HasEndings net (numbered 0 lines) → HasLines net lines
