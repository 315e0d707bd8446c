-- Sentences one after another. No public clause cites this module.
use Rattle.std.specs.Prelude.{◌≡◌, ℕ, true, List, ◌∷◌, drop}
use Rattle.cel_lexer.specs.Listing.{Listing}
use Rattle.cel_grammar.specs.Sentences.{IsSentenceOf, Sentence, placed_of, sentences}
use Rattle.cel_grammar.specs.Symbols.{Symbol}
use Rattle.cel_grammar.specs.Trees.{Statement}
use Rattle.cel_parser.specs.Faults.{IsFaulty}
use Rattle.cel_parser.specs.declared.fault.SyntaxFault.{SyntaxFault}

-- the sentences of the tokens from this place on
abbrev pub left_at : Listing → ℕ → List Sentence
left_at listing place = sentences (drop place (placed_of listing))

-- these symbols and a semicolon, from this line on
abbrev pub ended_on : ℕ → List Symbol → Sentence
ended_on line symbols = record { line = line; symbols = symbols; ended = true }

-- the first of the sentences is this statement, which begins on this line, and these follow it
pub record Begins (all : List Sentence) (line : ℕ) (statement : Statement) (later : List Sentence) : Type 0 where
  pub sentence : Sentence
  pub front : all ≡ sentence ∷ later
  pub there : sentence.line ≡ line
  pub says : IsSentenceOf sentence statement

-- the first of the sentences, which has this number, has this fault
pub record BeginsFaulty (number : ℕ) (all : List Sentence) (fault : SyntaxFault) : Type 0 where
  pub sentence : Sentence
  pub later : List Sentence
  pub front : all ≡ sentence ∷ later
  pub faulty : IsFaulty number sentence fault
