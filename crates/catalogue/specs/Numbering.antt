-- Whether numbers are left for the hidden streams of an expression and one behind them. No public clause cites this.
use Rattle.std.specs.Prelude.{ℕ, ◌^◌, ◌<◌}
use Rattle.semantics.specs.Expressions.{Ex, Read, Filter, Select, Union, Next, Fold}
use Rattle.splitter.specs.Splitting.{parts_of, right_side_of}

-- from a number on each part of the expression ends at a number of 64 bits
abbrev pub HasNumbers : Ex → ℕ → Type 0
HasNumbers (Read stream) next = next < 2 ^ 64
HasNumbers (Filter p e) next = HasNumbers e next
HasNumbers (Select m e) next = HasNumbers e next
HasNumbers (Union e f) next = HasNumbers e next × HasNumbers f (parts_of e next).next
HasNumbers (Next p e f) next = let left = parts_of e next in HasNumbers e next × HasNumbers f left.next × ((right_side_of f (parts_of f left.next)).next < 2 ^ 64)
HasNumbers (Fold p q m e f) next = let left = parts_of e next in HasNumbers e next × HasNumbers f left.next × ((right_side_of f (parts_of f left.next)).next < 2 ^ 64)
