-- Keys of conditions. No public clause cites this module.
use Rattle.std.specs.Prelude.{⊤, List, map, Option, Some, None, Contains}
use Rattle.instances.specs.Keys.{Key}
use Rattle.semantics.specs.Scalars.{Pr}
use Rattle.scalar_expr.specs.Classes as class

-- the key is one of the condition's key parts, or there is none
abbrev pub IsKeyOf : Option Key → List Pr → Type 0
IsKeyOf None choose = ⊤
IsKeyOf (Some key) choose = Contains (map class.class_of choose) (class.Key key.event key.binding)
