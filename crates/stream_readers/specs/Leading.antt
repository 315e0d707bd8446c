-- By which key a waiting state is found.
use Rattle.std.specs.Prelude.{ℕ, ◌==◌, Bool, false, true, if◌then◌else◌, List, Option, Some, None, is_some}
use Rattle.std.specs.List.{list_any}
use Rattle.event_types.specs.declared.comparison.Cmp.TheVariants as cmp
use Rattle.semantics.specs.Scalars.{Pr}
use Rattle.scalar_expr.specs.Classes.{Class, class_of}
use Rattle.scalar_expr.specs.Classes as class
use Rattle.instances.specs.Keys.{Key}
use Rattle.automaton.specs.States.{Net, wait_at}
use Rattle.automaton.specs.declared.wait.Wait.{Wait}
use Rattle.binding_index.specs.KeyParts.{first_key}

-- whether a part asks that an attribute of the event equals a literal
abbrev pub asks_literal : Class → Bool
asks_literal (class.Fixed attr cmp.Eq lit) = true
asks_literal other = false

-- the key by which a state that waits by this condition is found: the condition's, unless an attribute has to equal a literal
abbrev pub lead_key : List Pr → Option Key
lead_key choose = if list_any (λ part. asks_literal (class_of part)) choose then None else first_key choose

-- the same of a wait, if there is one
abbrev pub lead_key_in : Option Wait → Option Key
lead_key_in None = None
lead_key_in (Some wait) = lead_key wait.choose

-- the same of the state with a number
abbrev pub lead_key_at : Net → ℕ → Option Key
lead_key_at net number = lead_key_in (wait_at net number)

-- whether there is a key, and it stands at this attribute of the event
abbrev pub is_at : ℕ → Option Key → Bool
is_at attribute None = false
is_at attribute (Some key) = key.event == attribute

-- whether a state is found by a key
abbrev pub is_keyed : Net → ℕ → Bool
is_keyed net number = is_some (lead_key_at net number)
