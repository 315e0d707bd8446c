-- What follows from the definitions of texts that are one query, and of those that are not.
use Rattle.std.specs.Prelude.{◌≡◌, ◌⊎◌, ℕ, List, Ok}
use Rattle.cel_lexer.specs.Faults.{tokens_of}
use Rattle.cel_lexer.specs.declared.token.Token.{Token}
use Rattle.cel_grammar.specs.Trees.{Statement}
use Rattle.cel_parser.specs.OneQuery.{IsNotOneQuery, IsOneQuery}
use Rattle.cel_parser.specs.declared.fault.SyntaxFault.{SyntaxFault}

-- the same statement on the same line
pub record SameQuery (statement other : Statement) (line other_line : ℕ) : Type 0 where
  pub statements : statement ≡ other
  pub lines : line ≡ other_line

-- a text is at most one query on one line
abbrev pub OneQueryReading : Type 0
OneQueryReading = (text : List ℕ) (s other : Statement) (line other_line : ℕ) → IsOneQuery text s line → IsOneQuery text other other_line → SameQuery s other line other_line

-- a text has at most one fault for which it is not one query
abbrev pub OneFaultOfQuery : Type 0
OneFaultOfQuery = (text : List ℕ) (e other : SyntaxFault) → IsNotOneQuery text e → IsNotOneQuery text other → e ≡ other

-- a text that is one query has no such fault
abbrev pub QueryNotBoth : Type 0
QueryNotBoth = (text : List ℕ) (s : Statement) (line : ℕ) (e : SyntaxFault) → IsOneQuery text s line → IsNotOneQuery text e → ⊥

-- a text with tokens is one query, or has such a fault
abbrev pub QueryOrFault : Type 0
QueryOrFault = (text : List ℕ) (tokens : List Token) → tokens_of text ≡ Ok tokens → ((s : Statement) × (line : ℕ) × IsOneQuery text s line) ⊎ ((e : SyntaxFault) × IsNotOneQuery text e)
