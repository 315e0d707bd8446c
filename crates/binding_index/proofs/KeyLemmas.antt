-- The first key part of a condition, looked for part by part.
use Rattle.std.proofs.Common.{◌≡◌, sym, ap, ℕ, zero, suc, true, false, drop, is_some, List, [], ◌∷◌}
use Rattle.std.specs.Prelude.{Option, Some, None, slice_get}
use Rattle.std.specs.Option.{option_map, option_or}
use Rattle.semantics.specs.Scalars.{Pr}
use Rattle.scalar_expr.specs.Classes.{Class, class_of}
use Rattle.instances.specs.Keys.{Key}
use Rattle.binding_index.specs.KeyParts.{first_key, key_in, key_of_part}
use Rattle.binding_index.specs.declared.key.KeyPart.{KeyPart}

-- the part at a place is looked at before those behind it
pub first_at : (parts : List Pr) (place : ℕ) (c : Class) → option_map class_of (slice_get parts place) ≡ Some c → first_key (drop place parts) ≡ option_or (key_in c) (first_key (drop (suc place) parts))
first_at [] place c is = cc
first_at (p ∷ ps) zero c is = let same : class_of p ≡ c = cc in ap (λ d. option_or (key_in d) (first_key ps)) same
first_at (p ∷ ps) (suc place) c is = first_at ps place c is

-- a key that was found at a place is the first from there on
pub is_first : (r : Option KeyPart) (k rest : Option Key) → is_some r ≡ true → option_map key_of_part r ≡ k → option_map key_of_part r ≡ option_or k rest
is_first None k rest some e = cc
is_first (Some part) k rest some e = ap (λ o. option_or o rest) e

-- where the part there has no key, the first key is that of the parts behind it
pub is_behind : (r : Option KeyPart) (k rest : Option Key) → is_some r ≡ false → option_map key_of_part r ≡ k → option_or k rest ≡ rest
is_behind None k rest none e = sym (ap (λ o. option_or o rest) e)
is_behind (Some part) k rest none e = cc
