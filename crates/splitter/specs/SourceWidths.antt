-- Projections that have the width of the tuples that come to them.
use Rattle.std.specs.Prelude.{◌≡◌, ⊤, ℕ, ◌+◌, List, length}
use Rattle.event_types.specs.declared.kind.Kind.{Kind}
use Rattle.semantics.specs.Expressions.{Ex, Read, Filter, Select, Union, Next, Fold}

-- how many values each tuple of a typed expression has
abbrev pub width_of : (ℕ → List Kind) → Ex → ℕ
width_of kinds (Read stream) = length (kinds stream)
width_of kinds (Filter p e) = width_of kinds e
width_of kinds (Select m e) = length m.parts
width_of kinds (Union e f) = width_of kinds e
width_of kinds (Next p e f) = width_of kinds e + width_of kinds f
width_of kinds (Fold p q m e f) = width_of kinds e

-- the projection of each SELECT has the width of its source
abbrev pub HasWidths : (ℕ → List Kind) → Ex → Type 0
HasWidths kinds (Read stream) = ⊤
HasWidths kinds (Filter p e) = HasWidths kinds e
HasWidths kinds (Select m e) = HasWidths kinds e × (width_of kinds e ≡ m.width)
HasWidths kinds (Union e f) = HasWidths kinds e × HasWidths kinds f
HasWidths kinds (Next p e f) = HasWidths kinds e × HasWidths kinds f
HasWidths kinds (Fold p q m e f) = HasWidths kinds e × HasWidths kinds f
