-- Whether numbers are left for the hidden streams of an expression. No public clause cites this.
use Rattle.std.specs.Prelude.{⊤, ℕ, ◌^◌, ◌≤◌}
use Rattle.semantics.specs.Expressions.{Ex, Read, Filter, Select, Union, Next, Fold}
use Rattle.splitter.specs.Splitting.{parts_of, right_side_of}

-- from a number on each hidden stream has a number of 64 bits
abbrev pub HasRoom : Ex → ℕ → Type 0
HasRoom (Read stream) next = ⊤
HasRoom (Filter p e) next = HasRoom e next
HasRoom (Select m e) next = HasRoom e next
HasRoom (Union e f) next = HasRoom e next × HasRoom f (parts_of e next).next
HasRoom (Next p e f) next = let left = parts_of e next in HasRoom e next × HasRoom f left.next × ((right_side_of f (parts_of f left.next)).next ≤ 2 ^ 64)
HasRoom (Fold p q m e f) next = let left = parts_of e next in HasRoom e next × HasRoom f left.next × ((right_side_of f (parts_of f left.next)).next ≤ 2 ^ 64)
