-- The front of a list.
use Rattle.std.specs.Prelude.{List, [], ◌∷◌, Option, Some, None}

-- the first item, where there is one
abbrev pub head : {T : Type 0} → List T → Option T
head [] = None
head (x ∷ xs) = Some x
