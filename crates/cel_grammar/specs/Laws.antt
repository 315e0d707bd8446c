-- What holds of the grammar.
use Rattle.std.specs.Prelude.{◌≡◌, ◌↔◌, ℕ, true, false, List, [], ◌∷◌, map}
use Rattle.std.specs.List.{All}
use Rattle.cel_grammar.specs.Symbols.{Symbol}
use Rattle.cel_grammar.specs.Symbols as the
use Rattle.cel_grammar.specs.Parens.{holds_test}
use Rattle.cel_grammar.specs.Predicates.{IsPred}
use Rattle.cel_grammar.specs.Scalars.{IsScalar}
use Rattle.cel_grammar.specs.Sources.{IsSource}
use Rattle.cel_grammar.specs.Sentences.{IsSmall, Placed, AreSentencesOf, sentences}
use Rattle.cel_grammar.specs.Statements.{IsFile, IsStatement}
use Rattle.cel_grammar.specs.Trees.{Pred, Scalar, Source, Statement}

-- symbols spell at most one scalar
abbrev pub OneScalar : Type 0
OneScalar = (ts : List Symbol) (x y : Scalar) → IsScalar ts x [] → IsScalar ts y [] → x ≡ y

-- symbols spell at most one predicate
abbrev pub OnePred : Type 0
OnePred = (ts : List Symbol) (p q : Pred) → IsPred ts p [] → IsPred ts q [] → p ≡ q

-- symbols spell at most one source
abbrev pub OneSource : Type 0
OneSource = (ts : List Symbol) (e f : Source) → IsSource ts e [] → IsSource ts f [] → e ≡ f

-- symbols spell at most one statement
abbrev pub OneStatement : Type 0
OneStatement = (ts : List Symbol) (s t : Statement) → IsStatement ts s [] → IsStatement ts t [] → s ≡ t

-- symbols spell at most one file
abbrev pub OneFile : Type 0
OneFile = (ts : List Symbol) (ss others : List Statement) → IsFile ts ss → IsFile ts others → ss ≡ others

-- a parenthesis around a predicate holds a test, and one around a scalar holds none
pub record ParenLaw : Type 0 where
  pub predicate : (ts rest : List Symbol) (p : Pred) → IsPred ts p (the.Close ∷ rest) → holds_test 0 ts ≡ true
  pub scalar : (ts rest : List Symbol) (x : Scalar) → IsScalar ts x (the.Close ∷ rest) → holds_test 0 ts ≡ false

-- the sentences of some symbols are statements, each within the limits, exactly where the symbols are a file of these statements and each sentence is within the limits
abbrev pub SentencesAreAFile : Type 0
SentencesAreAFile =
    (symbols : List Placed) (statements : List Statement)
    → ((lines : List ℕ) × AreSentencesOf (sentences symbols) statements lines) ↔ (IsFile (map (λ placed. placed.symbol) symbols) statements × All (λ sentence. IsSmall sentence.symbols) (sentences symbols))
