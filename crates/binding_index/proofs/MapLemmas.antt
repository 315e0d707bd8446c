-- What the buckets' map says of them.
use Rattle.std.proofs.Common.{◌≡◌, ◌∙◌, sym, ap, subst, ℕ, zero, suc, ◌+◌, Bool, get_or, length, length-append, min, take, List, [], ◌∷◌, ◌++◌, append_assoc, arith}
use Rattle.std.specs.Prelude.{IfSome, Option, Some, None, slice_get}
use Rattle.std.specs.Option.{unwrap_or}
use Rattle.std.specs.List.{flat_map}
use Rattle.std.specs.Map.{lookup, lookup_key, values_of}
use Rattle.std.proofs.lemmas.List.{append-nil}
use Rattle.std.proofs.lemmas.Map.Made.{lookup_key_same}
use Rattle.event_types.specs.declared.value.Value.{Value}
use Rattle.event_types.specs.contracts.value.ValuePartialEq.TheImpl as derived
use Rattle.indexmap.specs.IndexMap.{IndexMap, IsReordered, get, insert_entry}
use Rattle.indexmap.proofs.CallerLemmas.{insert_entry-new}
use Rattle.instances.specs.declared.instance.Instance.{Instance}
use Rattle.binding_index.specs.Buckets.{AreSame, Bucket}
use Rattle.binding_index.specs.Among.{is_key}
use Rattle.binding_index.specs.Entries.{IsKeptAt, has_any, is_filled, items_at}
use Rattle.binding_index.proofs.EqualityLemmas.{eq_same, key_decides}

-- a map in another order has the same buckets
pub reordered : {S : Type 0} (old new : IndexMap Value (List Instance) S) → IsReordered (derived.eq-value).it old new → AreSame old.entries new.entries
reordered old new h = record {
  permuted = h.0;
  same = λ key. ap (λ (o : Option (List Instance)). unwrap_or o []) (subst (λ (e : Value → Value → Bool). (q : Value) → get e new q ≡ get e old q) eq_same h.2 key);
}

-- whether the bucket at a place has instances
pub filled_there : (bs : List Bucket) (i : ℕ) (v : List Instance) → slice_get (values_of bs) i ≡ Some v → (d : Bucket) → is_filled (get_or bs i d) ≡ has_any v
filled_there [] i v at d = cc
filled_there (b ∷ bs) zero v at d = let one : b.1 ≡ v = cc in ap has_any one
filled_there (b ∷ bs) (suc i) v at d = filled_there bs i v at d

-- a look-up by the derived equality
pub by_order : {V : Type 0} (bs : List (Value × V)) (key : Value) (found : Option V) → lookup ((derived.eq-value).it key) bs ≡ found → lookup (is_key key) bs ≡ found
by_order {V} bs key found h = subst (λ (e : Value → Value → Bool). lookup (e key) bs ≡ found) eq_same h

-- the entry that is found for a key is its own
pub found_entry : {V : Type 0} (bs : List (Value × V)) (i : ℕ) (k key : Value) (v : V) → slice_get bs i ≡ Some (k, v) → lookup_key ((derived.eq-value).it key) bs ≡ Some k → lookup ((derived.eq-value).it key) bs ≡ Some v → IsKeptAt bs key i
found_entry {V} bs i k key v at own value =
    let same : key ≡ k = lookup_key_same key_decides key bs k (subst (λ (e : Value → Value → Bool). lookup_key (e key) bs ≡ Some k) eq_same own) in
    (v, at ∙ (λ j. Some (sym same j, v)), by_order bs key (Some v) value)

-- its items are those that are kept under the key
pub items_stand : {Y : Type 0} (bs : List (Value × List Y)) (key : Value) (i : ℕ) → IsKeptAt bs key i → slice_get bs i ≡ Some (key, items_at bs key)
items_stand {Y} bs key i (v, at, found) = at ∙ ap (λ (o : Option (List Y)). Some (key, unwrap_or o [])) (sym found)

-- so it is at a place that was found for a key
pub items_found : {Y : Type 0} (bs : List (Value × List Y)) (key : Value) (r : Option ℕ) → IfSome r (IsKeptAt bs key) → IfSome r (λ i. slice_get bs i ≡ Some (key, items_at bs key))
items_found {Y} bs key None h = h
items_found {Y} bs key (Some i) h = items_stand bs key i h

module _ {Y : Type 0} where
  flat_next : (bs : List (Value × List Y)) (i : ℕ) (v : List Y) → slice_get (values_of bs) i ≡ Some v → flat_map (λ b. b.1) (take (suc i) bs) ≡ flat_map (λ b. b.1) (take i bs) ++ v
  flat_next [] i v at = cc
  flat_next (b ∷ bs) zero v at = let one : b.1 ≡ v = cc in append-nil b.1 ∙ one
  flat_next (b ∷ bs) (suc i) v at = ap (λ ys. b.1 ++ ys) (flat_next bs i v at) ∙ sym (append_assoc b.1 (flat_map (λ c. c.1) (take i bs)) v)

  -- the items up to a place are those before it and those that stand there
  pub flat_more : (bs : List (Value × List Y)) (i : ℕ) (v : List Y) → slice_get (values_of bs) i ≡ Some v → flat_map (λ b. b.1) (take (i + 1) bs) ≡ flat_map (λ b. b.1) (take i bs) ++ v
  flat_more bs i v at = ap (λ n. flat_map (λ (b : Value × List Y). b.1) (take n bs)) (next i) ∙ flat_next bs i v at
    where
      next : (place : ℕ) → place + 1 ≡ suc place
      next place = omega arith

-- the number of the instances up to a place is that of those before it and of those that stand there, as far as it is counted
pub count_more : (bs : List Bucket) (i : ℕ) (v : List Instance) (most count here all : ℕ) → slice_get (values_of bs) i ≡ Some v → count ≡ min (length (flat_map (λ b. b.1) (take i bs))) most → here ≡ min (length v) most → all ≡ min (count + here) most
    → all ≡ min (length (flat_map (λ b. b.1) (take (i + 1) bs))) most
count_more bs i v most count here all at e f g =
    let long : length (flat_map (λ b. b.1) (take (i + 1) bs)) ≡ length (flat_map (λ b. b.1) (take i bs)) + length v = ap length (flat_more bs i v at) ∙ length-append (flat_map (λ b. b.1) (take i bs)) v in
    omega (arith, long, e, f, g)

-- the entry of a new key goes behind all others
pub put_behind : {V S : Type 0} (map : IndexMap Value V S) (key : Value) (v : V) (new : List (Value × V)) → lookup (is_key key) map.entries ≡ None → new ≡ insert_entry (derived.eq-value).it map.entries key v → new ≡ map.entries ++ (key, v) ∷ []
put_behind {V} map key v new absent put = put ∙ insert_entry-new (derived.eq-value).it map key v (subst (λ (e : Value → Value → Bool). lookup (e key) map.entries ≡ None) (sym eq_same) absent)

-- an empty bucket of a new key goes behind all others
pub put_last : {S : Type 0} (map : IndexMap Value (List Instance) S) (key : Value) (v : List Instance) (new : List Bucket) → lookup (is_key key) map.entries ≡ None → v ≡ [] → new ≡ insert_entry (derived.eq-value).it map.entries key v → new ≡ map.entries ++ (key, []) ∷ []
put_last map key v new absent empty put = put_behind map key v new absent put ∙ ap (λ is. map.entries ++ (key, is) ∷ []) empty
