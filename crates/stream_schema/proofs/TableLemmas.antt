-- The streams of a list by number: one more stream, and what stands at a number.
use Rattle.std.proofs.Common.{◌≡◌, ℕ, zero, suc, ◌+◌, List, [], ◌∷◌, ◌++◌, Bool, length, false, refl, sym, ap, map, arith}
use Rattle.std.specs.Prelude.{Option, Some, None, String, slice_get, slice_set, string_bytes}
use Rattle.std.specs.List.{AllByRecursion, prefix_len}
use Rattle.std.specs.Str.{bytes_eq}
use Rattle.std.proofs.lemmas.Bool.{false_from_ne_true}
use Rattle.std.proofs.lemmas.Slice.Eq.{bytes_eq-Decides}
use Rattle.stream_schema.specs.Streams.{declared_of, renamed, retired_name, schemas_of, stream_names}
use Rattle.stream_schema.specs.Table.{name_at, streams_from}
use Rattle.stream_schema.specs.declared.streams.Stream.{Stream}
use Rattle.stream_schema.proofs.TextLemmas.{own-string}

-- the items before the first that passes, in a list of images
pub prefix_len-map : {X Y : Type 0} (f : X → Y) (p : Y → Bool) (xs : List X) → prefix_len p (map f xs) ≡ prefix_len (λ x. p (f x)) xs
prefix_len-map f p [] = refl
prefix_len-map f p (x ∷ xs) = rw (prefix_len-map f p xs) refl

-- as many streams as items
pub length-streams_from : (n : ℕ) (xs : List Stream) → length (streams_from n xs) ≡ length xs
length-streams_from n [] = refl
length-streams_from n (x ∷ xs) = ap suc (length-streams_from (n + 1) xs)

-- one more stream, which has a name
pub streams_from-push : (n : ℕ) (xs : List Stream) (x : Stream) (name : List ℕ) → ((k : ℕ) → name_at k x.name ≡ name)
    → streams_from n (xs ++ x ∷ []) ≡ streams_from n xs ++ record { name = name; schema = x.schema; declared = x.declared } ∷ []
streams_from-push n [] x name named = rw (named n) refl
streams_from-push n (y ∷ xs) x name named = rw (streams_from-push (n + 1) xs x name named) refl

-- the schema of the stream at a place
pub schema-at : (n : ℕ) (xs : List Stream) (i : ℕ) (x : Stream) → slice_get xs i ≡ Some x → slice_get (schemas_of (streams_from n xs)) i ≡ Some x.schema
schema-at n [] i x e = cc
schema-at n (y ∷ xs) zero x e = cc
schema-at n (y ∷ xs) (suc i) x e = schema-at (n + 1) xs i x e

-- whether the stream at a place is declared
pub declared-at : (n : ℕ) (xs : List Stream) (i : ℕ) (x : Stream) → slice_get xs i ≡ Some x → slice_get (declared_of (streams_from n xs)) i ≡ Some x.declared
declared-at n [] i x e = cc
declared-at n (y ∷ xs) zero x e = cc
declared-at n (y ∷ xs) (suc i) x e = declared-at (n + 1) xs i x e

-- the name of the stream at a place
pub name-at : (n : ℕ) (xs : List Stream) (i : ℕ) (x : Stream) → slice_get xs i ≡ Some x → slice_get (stream_names (streams_from n xs)) i ≡ Some (name_at (n + i) x.name)
name-at n [] i x e = cc
name-at n (y ∷ xs) zero x e = let same : n + 0 ≡ n = omega arith in rw same cc
name-at n (y ∷ xs) (suc i) x e = let same : n + suc i ≡ n + 1 + i = omega arith in rw same (name-at (n + 1) xs i x e)

-- names that differ
pub apart-names : (x y : List ℕ) → (x ≡ y → ⊥) → bytes_eq x y ≡ false
apart-names x y apart = false_from_ne_true _ (λ same. apart ((bytes_eq-Decides x y).0 same))

-- a retired stream's name isn't that of a stream with a name or another number
not-here : {A : Type 0} (n i : ℕ) (name : Option (String A)) → (n ≡ i → name ≡ None → ⊥) → bytes_eq (retired_name i) (name_at n name) ≡ false
not-here n i (Some k) apart = apart-names (retired_name i) (string_bytes k) (λ same. own-string k i (sym same))
not-here n i None apart = apart-names (retired_name i) (retired_name n) (λ same. let number : n ≡ i = cc in apart number refl)

-- a stream that isn't retired has the number of none that is, by induction on the streams
pub retired-apart : (n i : ℕ) (xs : List Stream) → ((j : ℕ) (x : Stream) → slice_get xs j ≡ Some x → n + j ≡ i → x.name ≡ None → ⊥) → AllByRecursion (λ y. bytes_eq (retired_name i) y ≡ false) (stream_names (streams_from n xs))
retired-apart n i [] none = tt
retired-apart n i (x ∷ xs) none = (
  not-here n i x.name (λ same. let at : n + 0 ≡ i = omega (arith, same) in none 0 x refl at),
  retired-apart (n + 1) i xs (λ j y at same. let further : n + suc j ≡ i = omega (arith, same) in none (suc j) y at further),
)

-- the streams, where that at a place loses its name
pub streams_from-retired : (n : ℕ) (xs : List Stream) (i : ℕ) (x y : Stream) → slice_get xs i ≡ Some x → y.name ≡ None → y.schema ≡ x.schema → y.declared ≡ x.declared
    → streams_from n (slice_set xs i y) ≡ renamed (streams_from n xs) i (retired_name (n + i))
streams_from-retired n [] i x y at no_name schema declared = cc
streams_from-retired n (z ∷ xs) zero x y at no_name schema declared =
    let same : z ≡ x = cc in let here : n + 0 ≡ n = omega arith in rw (no_name, schema, declared, here, same) refl
streams_from-retired n (z ∷ xs) (suc i) x y at no_name schema declared =
    let further : n + suc i ≡ n + 1 + i = omega arith in rw (further, streams_from-retired (n + 1) xs i x y at no_name schema declared) refl

-- an item that is put where it stands
pub set-same : {X : Type 0} (xs : List X) (i : ℕ) (x : X) → slice_get xs i ≡ Some x → slice_set xs i x ≡ xs
set-same [] i x at = cc
set-same (y ∷ xs) zero x at = let same : y ≡ x = cc in rw same refl
set-same (y ∷ xs) (suc i) x at = rw (set-same xs i x at) refl
