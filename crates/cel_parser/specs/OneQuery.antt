-- Which texts are exactly one query, and why others are not.
use Rattle.std.specs.Prelude.{◌≡◌, ℕ, List, [], ◌∷◌, Ok}
use Rattle.cel_lexer.specs.Faults.{tokens_of}
use Rattle.cel_lexer.specs.declared.token.Token.{Token}
use Rattle.cel_grammar.specs.Sentences.{IsSentenceOf, ReadsAs, Sentence, placed_of, sentences}
use Rattle.cel_grammar.specs.Trees.{Column, Item, Query, Source, Statement, Stream}
use Rattle.cel_parser.specs.Faults.{IsFaulty}
use Rattle.cel_parser.specs.declared.fault.SyntaxFault.{SyntaxFault}
use Rattle.cel_parser.specs.declared.fault.SyntaxFault.TheVariants as fault

-- the statement is a query
pub data IsQuery : Statement → Type 0 where
  query : {items : List Item} {source : Source} {name : List ℕ} → IsQuery (Query items source name)

-- the text reads as this one statement, which begins on this line and is a query
pub record IsOneQuery (text : List ℕ) (statement : Statement) (line : ℕ) : Type 0 where
  pub reads : ReadsAs text (statement ∷ []) (line ∷ [])
  pub query : IsQuery statement

-- why sentences behind a query are too many: the first of them is faulty, or is a statement
pub data AreTooMany : List Sentence → SyntaxFault → Type 0 where
  faulty : {sentence : Sentence} {later : List Sentence} {e : SyntaxFault} → IsFaulty 2 sentence e → AreTooMany (sentence ∷ later) e
  more : {sentence : Sentence} {later : List Sentence} {s : Statement} → IsSentenceOf sentence s → AreTooMany (sentence ∷ later) (fault.BadStatement 2 sentence.line)

-- why a first statement on this line, behind which these sentences stand, is not the only query: it declares a stream, or they are too many
pub data IsNotAlone : Statement → ℕ → List Sentence → SyntaxFault → Type 0 where
  declared : {name : List ℕ} {columns : List Column} {line : ℕ} {later : List Sentence} → IsNotAlone (Stream name columns) line later (fault.BadStatement 1 line)
  followed : {statement : Statement} {line : ℕ} {later : List Sentence} {e : SyntaxFault} → IsQuery statement → AreTooMany later e → IsNotAlone statement line later e

-- why sentences are not one query: there is none, which is told of line 1; or the first is faulty; or it is a statement that is not the only query
pub data AreNotOneQuery : List Sentence → SyntaxFault → Type 0 where
  none : AreNotOneQuery [] (fault.BadStatement 1 1)
  first : {sentence : Sentence} {later : List Sentence} {e : SyntaxFault} → IsFaulty 1 sentence e → AreNotOneQuery (sentence ∷ later) e
  not_alone : {sentence : Sentence} {later : List Sentence} {s : Statement} {e : SyntaxFault} → IsSentenceOf sentence s → IsNotAlone s sentence.line later e → AreNotOneQuery (sentence ∷ later) e

-- the text has tokens, and this is why its sentences are not one query
pub record IsNotOneQuery (text : List ℕ) (fault : SyntaxFault) : Type 0 where
  pub tokens : List Token
  pub all : tokens_of text ≡ Ok tokens
  pub explained : AreNotOneQuery (sentences (placed_of (record { source = text; items = tokens }))) fault
