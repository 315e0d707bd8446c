-- Values are read from their bytes.
use Rattle.std.proofs.Common.{◌≡◌, ℕ, ℤ, zero, suc, ◌≤◌, ltb, false, cond, List, [], ◌∷◌, ◌++◌, Ok, Err, refl, subst}
use Rattle.std.specs.Prelude.{FitsSigned}
use Rattle.std.specs.Int.{w128}
use Rattle.std.proofs.lemmas.Bool.{ltb-false, le-ltb}
use Rattle.event_types.specs.declared.value.Value.{Value}
use Rattle.event_types.specs.declared.value.Value.TheVariants.{Int, Over, Text, Dec}
use Rattle.snap_codec.specs.declared.fault.SnapFault.TheVariants.{BadByte}
use Rattle.snap_codec.specs.Reading.{decimal_from, place_in, text_from, value_at, whole_from}
use Rattle.snap_codec.specs.Spelling.{text_bytes, value_bytes, whole_bytes}
use Rattle.snap_codec.proofs.FieldLemmas.{tagged, text_reads}
use Rattle.snap_codec.proofs.NumberLemmas.{whole_reads}
use Rattle.snap_codec.proofs.Short.{ShortValue}
use Rattle.snap_codec.proofs.Taking.{IsBytes, IsBytes-rest, Reads, Takes, bind_ok, guard_ok, ok_is}

-- what a value's bytes are, and that it fits
abbrev IsTaken : List ℕ → Value × List ℕ → Type 0
IsTaken bytes read = Takes bytes (value_bytes read.0) read.1 × ShortValue read.0

decimal_takes : (place : ℕ) (bytes : List ℕ) (value : Value) (rest : List ℕ) → IsBytes bytes → decimal_from place bytes ≡ Ok (value, rest) → IsTaken (3 ∷ bytes) (value, rest)
unfolding decimal_from
decimal_takes place [] value rest fits e = absurd cc
decimal_takes place (scale ∷ bytes) value rest fits e =
    let b = bind_ok (whole_from place bytes) (λ units. cond (ltb 18 scale) (Err (BadByte place)) (Ok (Dec scale units.0, units.1))) (value, rest) e in
    let t = (whole_reads place).takes bytes b.0.0 b.0.1 (IsBytes-rest scale bytes fits) b.1 in
    let g = guard_ok (ltb 18 scale) (BadByte place) (Ok (Dec scale b.0.0, b.0.1)) (Ok (value, rest)) (value, rest) refl b.2 in
    let inner = tagged scale bytes (whole_bytes b.0.0) b.0.1 t.0 in
    subst (IsTaken (3 ∷ scale ∷ bytes)) (ok_is (Dec scale b.0.0, b.0.1) (value, rest) g.1) (tagged 3 (scale ∷ bytes) (scale ∷ whole_bytes b.0.0) b.0.1 inner, (ltb-false _ _ g.0, t.1))

value_takes : (total : ℕ) (bytes : List ℕ) (value : Value) (rest : List ℕ) → IsBytes bytes → value_at total bytes ≡ Ok (value, rest) → Takes bytes (value_bytes value) rest × ShortValue value
unfolding value_at
value_takes total [] value rest fits e = absurd cc
value_takes total (zero ∷ bytes) value rest fits e =
    let b = bind_ok (whole_from (place_in total (0 ∷ bytes)) bytes) (λ n. Ok (Int n.0, n.1)) (value, rest) e in
    let t = (whole_reads (place_in total (0 ∷ bytes))).takes bytes b.0.0 b.0.1 (IsBytes-rest 0 bytes fits) b.1 in
    subst (IsTaken (0 ∷ bytes)) (ok_is (Int b.0.0, b.0.1) (value, rest) b.2) (tagged 0 bytes (whole_bytes b.0.0) b.0.1 t.0, t.1)
value_takes total (suc zero ∷ bytes) value rest fits e =
    subst (IsTaken (1 ∷ bytes)) (ok_is (Over, bytes) (value, rest) e) (record { parts = refl; rest_fits = IsBytes-rest 1 bytes fits }, tt)
value_takes total (suc (suc zero) ∷ bytes) value rest fits e =
    let b = bind_ok (text_from (place_in total (2 ∷ bytes)) bytes) (λ t. Ok (Text t.0, t.1)) (value, rest) e in
    let t = (text_reads (place_in total (2 ∷ bytes))).takes bytes b.0.0 b.0.1 (IsBytes-rest 2 bytes fits) b.1 in
    subst (IsTaken (2 ∷ bytes)) (ok_is (Text b.0.0, b.0.1) (value, rest) b.2) (tagged 2 bytes (text_bytes b.0.0) b.0.1 t.0, t.1)
value_takes total (suc (suc (suc zero)) ∷ bytes) value rest fits e = decimal_takes (place_in total (3 ∷ bytes)) bytes value rest (IsBytes-rest 3 bytes fits) e
value_takes total (suc (suc (suc (suc tag))) ∷ bytes) value rest fits e = absurd cc

decimal_again : (place scale : ℕ) (units : ℤ) (rest : List ℕ) → scale ≤ 18 → FitsSigned w128 units → decimal_from place (scale ∷ (whole_bytes units ++ rest)) ≡ Ok (Dec scale units, rest)
unfolding decimal_from
decimal_again place scale units rest few fits =
    let least : ltb 18 scale ≡ false = le-ltb _ _ few in
    rw ((whole_reads place).again units rest fits, least) refl

value_again : (total : ℕ) (value : Value) (rest : List ℕ) → ShortValue value → value_at total (value_bytes value ++ rest) ≡ Ok (value, rest)
unfolding value_at
value_again total (Int z) rest h = rw ((whole_reads (place_in total (0 ∷ (whole_bytes z ++ rest)))).again z rest h) refl
value_again total Over rest h = refl
value_again total (Text t) rest h = rw ((text_reads (place_in total (2 ∷ (text_bytes t ++ rest)))).again t rest h) refl
value_again total (Dec scale units) rest h = decimal_again (place_in total (3 ∷ scale ∷ (whole_bytes units ++ rest))) scale units rest h.0 h.1

-- a value is read from its bytes
pub value_reads : (total : ℕ) → Reads value_bytes ShortValue (value_at total)
value_reads total = record { takes = value_takes total; again = value_again total }
