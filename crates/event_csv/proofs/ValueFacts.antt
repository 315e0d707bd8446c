-- The values of fields, one after another.
use Rattle.std.proofs.Common.{◌≡◌, ◌∙◌, ℕ, zero, suc, ◌+◌, List, [], ◌∷◌, ◌++◌, Some, None, Result, Ok, Err, refl, ap, length, drop, arith}
use Rattle.std.specs.Prelude.{slice_get}
use Rattle.event_types.specs.declared.kind.Kind.{Kind}
use Rattle.event_types.specs.declared.value.Value.{Value}
use Rattle.event_csv.specs.Event.{no_value, value_before, value_of, values_of}
use Rattle.event_csv.specs.declared.fault.LineFault.{LineFault}
use Rattle.event_csv.specs.declared.fault.LineFault.TheVariants as fault

-- what is read, behind values that were read before
abbrev pub onto : List Value → Result (List Value) LineFault → Result (List Value) LineFault
onto [] r = r
onto (v ∷ vals) r = value_before (fault.BadInt 0) (Some v) (onto vals r)

value_before-any : (n m : LineFault) (v : Value) (r : Result (List Value) LineFault) → value_before n (Some v) r ≡ value_before m (Some v) r
value_before-any n m v (Ok vals) = refl
value_before-any n m v (Err f) = refl

-- a value goes behind those before it
pub onto-push : (vals : List Value) (v : Value) (n : LineFault) (r : Result (List Value) LineFault) → onto vals (value_before n (Some v) r) ≡ onto (vals ++ v ∷ []) r
onto-push [] v n r = value_before-any n (fault.BadInt 0) v r
onto-push (x ∷ vals) v n r = ap (value_before (fault.BadInt 0) (Some x)) (onto-push vals v n r)

-- behind all values there are no more
pub onto-ok : (vals : List Value) → onto vals (Ok []) ≡ Ok vals
onto-ok [] = refl
onto-ok (v ∷ vals) = rw (onto-ok vals) refl

-- a fault is told whatever values stand before it
pub onto-err : (vals : List Value) (f : LineFault) → onto vals (Err f) ≡ Err f
onto-err [] f = refl
onto-err (v ∷ vals) f = rw (onto-err vals f) refl

-- the item at a place is the first of those from there on
pub drop-slice_get : {X : Type 0} (xs : List X) (i : ℕ) (x : X) → slice_get xs i ≡ Some x → drop i xs ≡ x ∷ drop (i + 1) xs
drop-slice_get [] i x h = cc
drop-slice_get (y ∷ xs) zero x h = let same : y ≡ x = cc in ap (λ z. z ∷ xs) same
drop-slice_get (y ∷ xs) (suc i) x h = let e : suc i + 1 ≡ suc (i + 1) = omega arith in rw e (drop-slice_get xs i x h)

-- what is read of the fields from one on
pub values_of-more : (n : ℕ) (kinds : List Kind) (i : ℕ) (k : Kind) (field : List ℕ) (fields : List (List ℕ)) → slice_get kinds i ≡ Some k
    → values_of n (drop i kinds) (field ∷ fields) ≡ value_before (no_value k n) (value_of k field) (values_of (n + 1) (drop (i + 1) kinds) fields)
values_of-more n kinds i k field fields h = rw (drop-slice_get kinds i k h) refl

-- no fields have no values
pub values_of-all : (n : ℕ) (kinds : List Kind) → values_of n kinds [] ≡ Ok []
values_of-all n [] = refl
values_of-all n (k ∷ kinds) = refl

-- one more value was read
pub read-more : (whole : Result (List Value) LineFault) (vals : List Value) (kinds : List Kind) (k : Kind) (v : Value) (before : List (List ℕ)) (f : List ℕ) (rest : List (List ℕ)) (n : ℕ)
    → whole ≡ onto vals (values_of (length vals + 4) (drop (length vals) kinds) before) → before ≡ f ∷ rest → slice_get kinds (length vals) ≡ Some k → Some v ≡ value_of k f → n ≡ length vals + 1
    → whole ≡ onto (vals ++ v ∷ []) (values_of (n + 4) (drop n kinds) rest)
read-more whole vals kinds k v before f rest n is e kind value size =
    let next : length vals + 4 + 1 ≡ n + 4 = omega arith in
    let step = rw (← value) at (values_of-more (length vals + 4) kinds (length vals) k f rest kind) in
    let here = is ∙ ap (λ (fs : List (List ℕ)). onto vals (values_of (length vals + 4) (drop (length vals) kinds) fs)) e ∙ ap (onto vals) step
    ∙ onto-push vals v (no_value k (length vals + 4)) (values_of (length vals + 4 + 1) (drop (length vals + 1) kinds) rest) in
    rw (next, ← size) at here

-- the next field writes no value
pub read-bad : (whole : Result (List Value) LineFault) (vals : List Value) (kinds : List Kind) (k : Kind) (before : List (List ℕ)) (f : List ℕ) (rest : List (List ℕ))
    → whole ≡ onto vals (values_of (length vals + 4) (drop (length vals) kinds) before) → before ≡ f ∷ rest → slice_get kinds (length vals) ≡ Some k → None ≡ value_of k f
    → whole ≡ Err (no_value k (length vals + 4))
read-bad whole vals kinds k before f rest is e kind value =
    let step = rw (← value) at (values_of-more (length vals + 4) kinds (length vals) k f rest kind) in
    is ∙ rw e (ap (onto vals) step ∙ onto-err vals (no_value k (length vals + 4)))

-- no field is left
pub read-all : (whole : Result (List Value) LineFault) (vals : List Value) (kinds : List Kind) (before : List (List ℕ))
    → whole ≡ onto vals (values_of (length vals + 4) (drop (length vals) kinds) before) → before ≡ [] → whole ≡ Ok vals
read-all whole vals kinds before is e = is ∙ rw (e, values_of-all (length vals + 4) (drop (length vals) kinds)) (onto-ok vals)
