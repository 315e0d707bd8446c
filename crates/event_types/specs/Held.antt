-- How a text holds its bytes. No public clause cites it.
use Rattle.std.specs.Prelude.{◌≤◌, ℕ, List, take, IsUtf8, ⊤}
use Rattle.std.specs.Rc.{rc_str_bytes}
use Rattle.event_types.specs.declared.text.Held.{Held}
use Rattle.event_types.specs.declared.text.Held.TheVariants as held

-- the bytes that are held
abbrev pub held_bytes : Held → List ℕ
held_bytes (held.Short len bytes) = take len bytes
held_bytes (held.Long text) = rc_str_bytes text

-- few bytes in place, which are text
abbrev pub IsHeld : Held → Type 0
IsHeld (held.Short len bytes) = (len ≤ 14) × IsUtf8 (take len bytes)
IsHeld (held.Long text) = ⊤
