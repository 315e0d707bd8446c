-- How many lines expressions have, whatever streams they publish, and whether they read a stream.
use Rattle.std.specs.Prelude.{◌==◌, ◌||◌, ℕ, ◌+◌, Bool, List, sum_by}
use Rattle.expressions.specs.declared.expression.Expr.{Expr}
use Rattle.expressions.specs.Views.{ex_of}
use Rattle.semantics.specs.Expressions.{Ex, Read, Filter, Select, Union, Next, Fold}

-- a right side that reads a stream has no line of its own; another has so many
abbrev pub right_many : Ex → ℕ → ℕ
right_many (Read stream) many = 0
right_many f many = many

-- how many lines an expression has
abbrev pub lines_in : Ex → ℕ
lines_in (Read stream) = 1
lines_in (Filter p e) = lines_in e
lines_in (Select m e) = lines_in e
lines_in (Union e f) = lines_in e + lines_in f
lines_in (Next p e f) = lines_in e + right_many f (lines_in f)
lines_in (Fold p q m e f) = lines_in e + right_many f (lines_in f)

-- how many lines expressions have together
abbrev pub lines_all : List Expr → ℕ
lines_all expressions = sum_by (λ x. lines_in (ex_of x)) expressions

-- whether an expression reads a stream
abbrev pub reads : ℕ → Ex → Bool
reads stream (Read read) = read == stream
reads stream (Filter p e) = reads stream e
reads stream (Select m e) = reads stream e
reads stream (Union e f) = reads stream e || reads stream f
reads stream (Next p e f) = reads stream e || reads stream f
reads stream (Fold p q m e f) = reads stream e || reads stream f
