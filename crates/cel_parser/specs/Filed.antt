-- What contracts see of a `File`.
use Rattle.std.specs.Prelude.{ℕ, List, map, refl}
use Rattle.std.specs.Coded.{Coded, code_by, coded×, coded_list, coded_ℕ}
use Rattle.cel_grammar.specs.contracts.statement.Statement as contract
use Rattle.cel_grammar.specs.Sentences.{ReadsAs}
use Rattle.cel_grammar.specs.Views.{statement_of}
use Rattle.cel_grammar.specs.declared.statement.Statement.{Statement}

-- statements, and the line on which each begins
pub record Filed : Type 0 where
  pub statements : List Statement
  pub lines : List ℕ

-- a file is stored as the pair of its lists
abbrev pub filed_code : Coded Filed
filed_code =
    code_by (List Statement × List ℕ) (coded× (coded_list contract.the_row.coded) (coded_list coded_ℕ))
    (λ file. (file.statements, file.lines)) (λ pair. record { statements = pair.0; lines = pair.1 }) (λ _. refl)

-- the text reads as these statements, on these lines
abbrev pub Reads : List ℕ → Filed → Type 0
Reads text file = ReadsAs text (map statement_of file.statements) file.lines

-- some text reads so
pub record IsRead (file : Filed) : Type 0 where
  pub text : List ℕ
  pub reads : Reads text file
