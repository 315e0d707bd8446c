-- The streams that expressions read, and expressions over streams with other numbers.
use Rattle.std.specs.Prelude.{ℕ}
use Rattle.semantics.specs.Expressions.{Ex, Read, Filter, Select, Union, Next, Fold}

-- this is so of each stream that the expression reads
abbrev pub ReadsOnly : (ℕ → Type 0) → Ex → Type 0
ReadsOnly IsSo (Read stream) = IsSo stream
ReadsOnly IsSo (Filter p e) = ReadsOnly IsSo e
ReadsOnly IsSo (Select m e) = ReadsOnly IsSo e
ReadsOnly IsSo (Union e f) = ReadsOnly IsSo e × ReadsOnly IsSo f
ReadsOnly IsSo (Next p e f) = ReadsOnly IsSo e × ReadsOnly IsSo f
ReadsOnly IsSo (Fold p q m e f) = ReadsOnly IsSo e × ReadsOnly IsSo f

-- the expression with another number for each stream
abbrev pub renumbered : (ℕ → ℕ) → Ex → Ex
renumbered number (Read stream) = Read (number stream)
renumbered number (Filter p e) = Filter p (renumbered number e)
renumbered number (Select m e) = Select m (renumbered number e)
renumbered number (Union e f) = Union (renumbered number e) (renumbered number f)
renumbered number (Next p e f) = Next p (renumbered number e) (renumbered number f)
renumbered number (Fold p q m e f) = Fold p q m (renumbered number e) (renumbered number f)
