-- Tokens without their places: keywords, names, numbers, decimals, texts, marks and signs.
use Rattle.std.specs.Prelude.{ℕ, List}
use Rattle.event_types.specs.declared.comparison.Cmp.{Cmp}

-- a name and a text have their bytes, a number its value, a decimal its scale and its units; End is the semicolon, Dollar1, Dollar2 and Dollar are the marks
pub data Symbol : Type 0 where
  Stream : Symbol
  Int : Symbol
  Text : Symbol
  Select : Symbol
  As : Symbol
  From : Symbol
  Publish : Symbol
  Filter : Symbol
  Next : Symbol
  Fold : Symbol
  Union : Symbol
  And : Symbol
  Or : Symbol
  Not : Symbol
  True : Symbol
  Dur : Symbol
  Min : Symbol
  Max : Symbol
  Name : List ℕ → Symbol
  Number : ℕ → Symbol
  Quoted : List ℕ → Symbol
  Dollar1 : Symbol
  Dollar2 : Symbol
  Dollar : Symbol
  Open : Symbol
  Close : Symbol
  BraceOpen : Symbol
  BraceClose : Symbol
  Comma : Symbol
  End : Symbol
  Dot : Symbol
  Star : Symbol
  Plus : Symbol
  Minus : Symbol
  Compare : Cmp → Symbol
  Decimal : ℕ → ℕ → Symbol
