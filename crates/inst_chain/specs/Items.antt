-- Items where there may be none. No public clause names this.
use Rattle.std.specs.Prelude.{List, [], Option, Some, None}

-- the items of what is there
abbrev pub items : {T : Type 0} → Option (List T) → List T
items None = []
items (Some xs) = xs
