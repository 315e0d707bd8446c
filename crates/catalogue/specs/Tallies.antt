-- How often expressions read each stream. No public clause cites this.
use Rattle.std.specs.Prelude.{◌≡◌, ◌≤◌, ◌==◌, ℕ, ◌+◌, if◌then◌else◌, List, slice_index_or, sum_by}
use Rattle.expressions.specs.declared.expression.Expr.{Expr}
use Rattle.expressions.specs.Views.{ex_of}
use Rattle.semantics.specs.Expressions.{Ex, Read, Filter, Select, Union, Next, Fold}

-- how many reads of a stream an expression has
abbrev pub reads_many : ℕ → Ex → ℕ
reads_many stream (Read read) = if read == stream then 1 else 0
reads_many stream (Filter p e) = reads_many stream e
reads_many stream (Select m e) = reads_many stream e
reads_many stream (Union e f) = reads_many stream e + reads_many stream f
reads_many stream (Next p e f) = reads_many stream e + reads_many stream f
reads_many stream (Fold p q m e f) = reads_many stream e + reads_many stream f

-- how many reads of a stream expressions have together
abbrev pub reads_all : ℕ → List Expr → ℕ
reads_all stream expressions = sum_by (λ x. reads_many stream (ex_of x)) expressions

-- the tally of a stream, by its number; a stream behind the last has none
abbrev pub tally_of : List ℕ → ℕ → ℕ
tally_of tallies stream = slice_index_or tallies stream 0

-- of each stream the tally is how many reads of it the expressions have
abbrev pub AreTallied : List Expr → List ℕ → Type 0
AreTallied expressions tallies = (stream : ℕ) → tally_of tallies stream ≡ reads_all stream expressions

-- the tallies stay
abbrev pub StayTallied : List ℕ → List ℕ → Type 0
StayTallied old new = (stream : ℕ) → tally_of new stream ≡ tally_of old stream

-- the tallies with the reads of one expression more
abbrev pub AddsReads : Ex → List ℕ → List ℕ → Type 0
AddsReads e old new = (stream : ℕ) → tally_of new stream ≡ tally_of old stream + reads_many stream e

-- the reads of the expression are in the tallies
abbrev pub HaveReads : Ex → List ℕ → Type 0
HaveReads e tallies = (stream : ℕ) → reads_many stream e ≤ tally_of tallies stream
