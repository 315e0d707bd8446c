-- Why a text reads as no statements.
use Rattle.std.specs.Prelude.{◌≡◌, ℕ, ◌+◌, ◌<◌, ◌≤◌, true, false, List, [], ◌∷◌, length, Ok}
use Rattle.cel_lexer.specs.Faults.{tokens_of}
use Rattle.cel_lexer.specs.declared.token.Token.{Token}
use Rattle.cel_grammar.specs.Sentences.{IsSmall, IsSentenceOf, Sentence, is_deep, placed_of, sentences}
use Rattle.cel_grammar.specs.Statements.{IsStatement}
use Rattle.cel_grammar.specs.Trees.{Statement}
use Rattle.cel_parser.specs.declared.fault.SyntaxFault.{SyntaxFault}
use Rattle.cel_parser.specs.declared.fault.SyntaxFault.TheVariants as fault

-- the fault of the sentence with this number: it has more than 1,024 symbols; or else it is nested more than 64 deep; or else the grammar does not have it. A sentence without its semicolon is not in the grammar, whatever it has
pub data IsFaulty : ℕ → Sentence → SyntaxFault → Type 0 where
  many : {number : ℕ} {sentence : Sentence} → sentence.ended ≡ true → 1024 < length sentence.symbols → IsFaulty number sentence (fault.TooManyTokens number sentence.line)
  deep : {number : ℕ} {sentence : Sentence} → sentence.ended ≡ true → length sentence.symbols ≤ 1024 → is_deep 0 sentence.symbols ≡ true → IsFaulty number sentence (fault.TooDeep number sentence.line)
  bad : {number : ℕ} {sentence : Sentence} → sentence.ended ≡ true → IsSmall sentence.symbols → ((s : Statement) → IsStatement sentence.symbols s [] → ⊥) → IsFaulty number sentence (fault.BadStatement number sentence.line)
  unended : {number : ℕ} {sentence : Sentence} → sentence.ended ≡ false → IsFaulty number sentence (fault.BadStatement number sentence.line)

-- the fault of some sentences, which are numbered from this number on: that of the first one that is faulty, behind sentences that are statements
pub data Explains : ℕ → List Sentence → SyntaxFault → Type 0 where
  here : {number : ℕ} {sentence : Sentence} {later : List Sentence} {e : SyntaxFault} → IsFaulty number sentence e → Explains number (sentence ∷ later) e
  behind : {number : ℕ} {sentence : Sentence} {later : List Sentence} {s : Statement} {e : SyntaxFault} → IsSentenceOf sentence s → Explains (number + 1) later e → Explains number (sentence ∷ later) e

-- the text has tokens, and this is the fault of its sentences, numbered from 1
pub record HasSyntaxFault (text : List ℕ) (fault : SyntaxFault) : Type 0 where
  pub tokens : List Token
  pub all : tokens_of text ≡ Ok tokens
  pub explained : Explains 1 (sentences (placed_of (record { source = text; items = tokens }))) fault
