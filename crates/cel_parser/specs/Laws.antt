-- What follows from the definitions of readings and faults.
use Rattle.std.specs.Prelude.{◌≡◌, ◌⊎◌, ℕ, List, Ok}
use Rattle.cel_lexer.specs.Faults.{tokens_of}
use Rattle.cel_lexer.specs.declared.token.Token.{Token}
use Rattle.cel_grammar.specs.Sentences.{ReadsAs}
use Rattle.cel_grammar.specs.Trees.{Statement}
use Rattle.cel_parser.specs.Faults.{HasSyntaxFault}
use Rattle.cel_parser.specs.declared.fault.SyntaxFault.{SyntaxFault}

-- the same statements on the same lines
pub record SameFile (ss others : List Statement) (ls other_ls : List ℕ) : Type 0 where
  pub statements : ss ≡ others
  pub lines : ls ≡ other_ls

-- a text reads as at most one list of statements with their lines
abbrev pub OneReading : Type 0
OneReading =
    (text : List ℕ) (ss others : List Statement) (lines other_lines : List ℕ)
    → ReadsAs text ss lines → ReadsAs text others other_lines → SameFile ss others lines other_lines

-- a text has at most one fault
abbrev pub OneFault : Type 0
OneFault = (text : List ℕ) (e other : SyntaxFault) → HasSyntaxFault text e → HasSyntaxFault text other → e ≡ other

-- a text that reads as statements has no fault
abbrev pub NotBoth : Type 0
NotBoth = (text : List ℕ) (ss : List Statement) (lines : List ℕ) (e : SyntaxFault) → ReadsAs text ss lines → HasSyntaxFault text e → ⊥

-- some statements with their lines are what the text reads as
pub record Readable (text : List ℕ) : Type 0 where
  pub statements : List Statement
  pub lines : List ℕ
  pub reads : ReadsAs text statements lines

-- some fault is the text's
pub record Refusable (text : List ℕ) : Type 0 where
  pub fault : SyntaxFault
  pub refused : HasSyntaxFault text fault

-- a text with tokens reads as statements or has a fault
abbrev pub OneOfBoth : Type 0
OneOfBoth = (text : List ℕ) (tokens : List Token) → tokens_of text ≡ Ok tokens → Readable text ⊎ Refusable text
