-- How many pairs of a key and a state there are, from one call to the next.
use Rattle.std.proofs.Common.{◌≡◌, ◌∙◌, ap, subst, sym, ℕ, zero, suc, ◌+◌, length, length-append, min, take, List, [], ◌∷◌, ◌++◌, arith}
use Rattle.std.specs.Prelude.{Err, IfOk, None, Ok, Result, Some, slice_get}
use Rattle.std.specs.List.{flat_map}
use Rattle.std.specs.Map.{lookup, values_of}
use Rattle.event_types.specs.declared.value.Value.{Value}
use Rattle.event_types.specs.contracts.value.ValuePartialEq.TheImpl as derived
use Rattle.indexmap.specs.IndexMap.{IndexMap, insert_entry, set_value_at}
use Rattle.binding_index.specs.Among.{is_key}
use Rattle.binding_index.specs.Leads.{Entries, pairs_of}
use Rattle.binding_index.proofs.MapLemmas.{flat_more, put_behind}

-- one key more
pub pairs_more : (bs : Entries) (i : ℕ) (v : List ℕ) (most count here all : ℕ) → slice_get (values_of bs) i ≡ Some v → count ≡ min (length (flat_map (λ b. b.1) (take i bs))) most → here ≡ length v → all ≡ min (count + here) most
    → all ≡ min (length (flat_map (λ b. b.1) (take (i + 1) bs))) most
pairs_more bs i v most count here all at e f g =
    let long : length (flat_map (λ b. b.1) (take (i + 1) bs)) ≡ length (flat_map (λ b. b.1) (take i bs)) + length v = ap length (flat_more bs i v at) ∙ length-append (flat_map (λ b. b.1) (take i bs)) v in
    omega (arith, long, e, f, g)

-- the states of a key that were written over are so many more
pub pairs_written : (bs : Entries) (i : ℕ) (v w : List ℕ) (more : ℕ) → slice_get (values_of bs) i ≡ Some v → length w ≡ length v + more → pairs_of (set_value_at bs i w) ≡ pairs_of bs + more
pairs_written [] i v w more at long = cc
pairs_written (b ∷ bs) zero v w more at long =
    let one : length b.1 ≡ length v = let same : b.1 ≡ v = cc in ap length same in
    let new = length-append w (flat_map (λ (c : Value × List ℕ). c.1) bs) in
    let old = length-append b.1 (flat_map (λ (c : Value × List ℕ). c.1) bs) in
    omega (arith, one, new, old, long)
pairs_written (b ∷ bs) (suc i) v w more at long =
    let rest = pairs_written bs i v w more at long in
    let new = length-append b.1 (flat_map (λ (c : Value × List ℕ). c.1) (set_value_at bs i w)) in
    let old = length-append b.1 (flat_map (λ (c : Value × List ℕ). c.1) bs) in
    omega (arith, rest, new, old)

-- where there was memory for more states of a key, there are so many more pairs
pub pairs_noted : {E : Type 0} (bs : Entries) (i : ℕ) (v w : List ℕ) (r : Result ℕ E) → slice_get (values_of bs) i ≡ Some v → IfOk r (λ more. length w ≡ length v + more) → IfOk r (λ more. pairs_of (set_value_at bs i w) ≡ pairs_of bs + more)
pairs_noted bs i v w (Ok more) at long = pairs_written bs i v w more at long
pairs_noted bs i v w (Err e) at long = long

-- an entry behind all others adds its states
pairs_behind : (bs : Entries) (key : Value) (w : List ℕ) → pairs_of (bs ++ (key, w) ∷ []) ≡ pairs_of bs + length w
pairs_behind [] key w = let long = length-append w [] in omega (arith, long)
pairs_behind (b ∷ bs) key w =
    let rest = pairs_behind bs key w in
    let new = length-append b.1 (flat_map (λ (c : Value × List ℕ). c.1) (bs ++ (key, w) ∷ [])) in
    let old = length-append b.1 (flat_map (λ (c : Value × List ℕ). c.1) bs) in
    omega (arith, rest, new, old)

-- a new key adds as many pairs as it leads to states
pub pairs_put : {S : Type 0} (map : IndexMap Value (List ℕ) S) (key given : Value) (none w : List ℕ) (new : Entries) (more : ℕ) → given ≡ key → lookup (is_key key) map.entries ≡ None → none ≡ [] → length w ≡ length none + more
    → new ≡ insert_entry (derived.eq-value).it map.entries given w → pairs_of new ≡ pairs_of map.entries + more
pairs_put map key given none w new more same absent empty long put =
    let behind : pairs_of new ≡ pairs_of map.entries + length w =
    ap pairs_of (put_behind map given w new (subst (λ (k : Value). lookup (is_key k) map.entries ≡ None) (sym same) absent) put) ∙ pairs_behind map.entries given w in
    let first : length none ≡ 0 = ap length empty in
    omega (arith, behind, first, long)
