-- What holds of the canonical text.
use Rattle.std.specs.Prelude.{ℕ, ◌+◌, ◌-◌, ◌≤◌, max, List, [], ◌∷◌, length}
use Rattle.cel_grammar.specs.Sentences.{ReadsAs}
use Rattle.cel_grammar.specs.Symbols.{Symbol}
use Rattle.cel_grammar.specs.Symbols as the
use Rattle.cel_grammar.specs.Statements.{IsStatement}
use Rattle.cel_grammar.specs.Trees.{Statement}
use Rattle.cel_print.specs.Words.{symbols}
use Rattle.cel_print.specs.Spelled.{canon}
use Rattle.cel_print.specs.StatementWords.{statement_words}

-- the canonical symbols of a statement
abbrev pub canonical_symbols : Statement → List Symbol
canonical_symbols statement = symbols (statement_words statement [])

-- the most parentheses and braces that are open at once, where some are open before
abbrev pub nesting : ℕ → List Symbol → ℕ
nesting depth [] = depth
nesting depth (the.Open ∷ ts) = max depth (nesting (depth + 1) ts)
nesting depth (the.BraceOpen ∷ ts) = max depth (nesting (depth + 1) ts)
nesting depth (the.Close ∷ ts) = max depth (nesting (depth - 1) ts)
nesting depth (the.BraceClose ∷ ts) = max depth (nesting (depth - 1) ts)
nesting depth (t ∷ ts) = nesting depth ts

-- the canonical symbols of the statement read as it, and have neither more symbols nor deeper nesting than these, which read as it too
pub record IsBest (ts : List Symbol) (statement : Statement) : Type 0 where
  pub read : IsStatement (canonical_symbols statement) statement []
  pub shortest : length (canonical_symbols statement) ≤ length ts
  pub shallowest : nesting 0 (canonical_symbols statement) ≤ nesting 0 ts

-- where some symbols read as a statement, its canonical ones read as it, and none are fewer or nested less
abbrev pub CanonicalIsBest : Type 0
CanonicalIsBest = (ts : List Symbol) (statement : Statement) → IsStatement ts statement [] → IsBest ts statement

-- the lines from one on, one for each statement
abbrev pub lines_from : ℕ → List Statement → List ℕ
lines_from line [] = []
lines_from line (statement ∷ statements) = line ∷ lines_from (line + 1) statements

-- where some text reads as statements, their canonical text reads as them, each on a line of its own
abbrev pub CanonicalIsRead : Type 0
CanonicalIsRead = (text : List ℕ) (statements : List Statement) (lines : List ℕ) → ReadsAs text statements lines → ReadsAs (canon statements) statements (lines_from 1 statements)
