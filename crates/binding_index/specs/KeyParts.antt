-- The key of a condition.
use Rattle.std.specs.Prelude.{List, [], ◌∷◌, Option, Some, None}
use Rattle.std.specs.Option.{option_or}
use Rattle.semantics.specs.Scalars.{Pr}
use Rattle.scalar_expr.specs.Classes.{Class, class_of}
use Rattle.scalar_expr.specs.Classes as class
use Rattle.instances.specs.Keys.{Key}
use Rattle.binding_index.specs.declared.key.KeyPart.{KeyPart}

-- the key of a class, where it is that of a key part
abbrev pub key_in : Class → Option Key
key_in (class.Key event binding) = Some (record { event = event; binding = binding })
key_in other = None

-- the key of a condition: that of its first key part
abbrev pub first_key : List Pr → Option Key
first_key [] = None
first_key (part ∷ parts) = option_or (key_in (class_of part)) (first_key parts)

-- the key that is handed out
abbrev pub key_of_part : KeyPart → Key
key_of_part part = record { event = part.event; binding = part.binding }
