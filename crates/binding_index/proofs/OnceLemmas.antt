-- No state stands twice under a key, from one call to the next.
use Rattle.std.proofs.Common.{◌≡◌, sym, ap, refl, subst, ℕ, ◌≢◌, ◌≤◌, Bool, true, false, drop, filter, length, map, take, List, [], ◌∷◌, ◌++◌, arith}
use Rattle.std.specs.Prelude.{AllPairs, None, Some, slice_get}
use Rattle.std.specs.Map.{lookup, values_of}
use Rattle.std.proofs.lemmas.List.Elements.{All-nil, All-cons, All-head, All-tail, All-filter, All-push}
use Rattle.std.proofs.lemmas.List.Kept.{AllPairs-filter}
use Rattle.event_types.specs.declared.value.Value.{Value}
use Rattle.event_types.specs.contracts.value.ValuePartialEq.TheImpl as derived
use Rattle.indexmap.specs.IndexMap.{IndexMap, insert_entry, set_value_at}
use Rattle.binding_index.specs.Among.{is_key}
use Rattle.binding_index.specs.Entries.{is_filled, items_at}
use Rattle.binding_index.specs.Leads.{Entries, StandOnce}
use Rattle.binding_index.proofs.BucketLemmas.{here, past}
use Rattle.binding_index.proofs.LeadLemmas.{all_kept, items_there}
use Rattle.binding_index.proofs.MapLemmas.{put_behind}
use Rattle.binding_index.proofs.WriteLemmas.{all_at, all_written, keeping}

-- no state stands twice in the list
abbrev pub Apart : List ℕ → Type 0
Apart states = AllPairs (λ state other. state ≢ other) states

-- none stands twice where none stands
pub apart_none : (states : List ℕ) → states ≡ [] → Apart states
apart_none states none = λ i j d less within. let long = ap length none in absurd (omega (arith, within, long))

-- no state stands twice under one key
pub once_at : (bs : Entries) (key : Value) → StandOnce bs → Apart (items_at bs key)
once_at [] key once = apart_none [] refl
once_at (b ∷ bs) key once = go (once_at bs key (All-tail (λ entry. Apart entry.1) b bs once)) (is_key key b.0) refl
  where
    go : Apart (items_at bs key) → (t : Bool) → is_key key b.0 ≡ t → Apart (items_at (b ∷ bs) key)
    go rest true e = subst Apart (sym (here b bs key e)) (All-head (λ entry. Apart entry.1) b bs once)
    go rest false e = subst Apart (sym (past b bs key e)) rest

-- the states of one key are written over
pub once_written : (bs : Entries) (i : ℕ) (key : Value) (v w : List ℕ) → slice_get bs i ≡ Some (key, items_at bs key) → slice_get (values_of bs) i ≡ Some v → (Apart v → Apart w) → StandOnce bs → StandOnce (set_value_at bs i w)
once_written bs i key v w at there more once =
    let is : v ≡ items_at bs key = items_there bs i key (items_at bs key) v at there in
    all_written (λ entry. Apart entry.1) bs i key (items_at bs key) w at (more (subst Apart (sym is) (all_at (λ entry. Apart entry.1) bs i (key, items_at bs key) at once))) once

-- a new key leads to one state
pub once_put : {S : Type 0} (map : IndexMap Value (List ℕ) S) (key given : Value) (none w : List ℕ) (new : Entries) → given ≡ key → lookup (is_key key) map.entries ≡ None → none ≡ [] → (Apart none → Apart w)
    → new ≡ insert_entry (derived.eq-value).it map.entries given w → StandOnce map.entries → StandOnce new
once_put map key given none w new same absent empty more put once =
    subst StandOnce (sym (put_behind map given w new (subst (λ (k : Value). lookup (is_key k) map.entries ≡ None) (sym same) absent) put))
    (All-push (λ entry. Apart entry.1) map.entries (given, w) once (more (apart_none none empty)))

module _ (test : Value → ℕ → Bool) where
  -- fewer states under each key
  once_keeping : (bs : Entries) → StandOnce bs → StandOnce (map (keeping test) bs)
  once_keeping [] once = All-nil (λ entry. Apart entry.1)
  once_keeping (b ∷ bs) once =
      All-cons (λ entry. Apart entry.1) (keeping test b) (map (keeping test) bs) (AllPairs-filter (λ x y. x ≢ y) (test b.0) b.1 (All-head (λ entry. Apart entry.1) b bs once))
      (once_keeping bs (All-tail (λ entry. Apart entry.1) b bs once))

  -- once all were walked and those that lead nowhere are dropped
  pub once_swept : (bs cs ds : Entries) (n : ℕ) → cs ≡ map (keeping test) (take n bs) ++ drop n bs → length bs ≤ n → ds ≡ filter is_filled cs → StandOnce bs → StandOnce ds
  once_swept bs cs ds n e le gone once =
      subst StandOnce (sym gone) (All-filter is_filled (λ entry. Apart entry.1) cs (subst StandOnce (sym (all_kept test bs cs n e le)) (once_keeping bs once)))
