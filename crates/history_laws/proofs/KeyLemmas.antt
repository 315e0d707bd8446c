-- A keyed program over the events of some keys.
use Rattle.std.proofs.Common.{◌≡◌, ◌∙◌, sym, ap, refl, ℕ, zero, suc, ◌==◌, ◌⊎◌, inl, inr, Bool, true, false, ◌&&◌, cond, nat_le, nat_lt, List, [], ◌∷◌, ◌++◌, map}
use Rattle.std.specs.Prelude.{None, Some, slice_index_or}
use Rattle.std.specs.List.{All, filter, flat_map}
use Rattle.std.specs.Ordering.{int_cmp}
use Rattle.std.proofs.lemmas.List.Elements.{All-contains, All-weaker, filter-append, filter_agree}
use Rattle.std.proofs.lemmas.List.Sums.{AllPass-from_list_all}
use Rattle.event_types.specs.declared.comparison.Cmp.TheVariants as cmp
use Rattle.event_types.specs.declared.value.Value.{Value}
use Rattle.event_types.specs.declared.value.Value.TheVariants as value
use Rattle.event_types.specs.Order.{sorted}
use Rattle.event_types.specs.OrderLaws.{tied_values}
use Rattle.event_types.specs.Tuple.{TupleView}
use Rattle.event_types.proofs.NumberLemmas.{same_number}
use Rattle.semantics.specs.Denotation.{Streams, denote, joined, matches, selected}
use Rattle.semantics.specs.Expressions.{Ex, Read, Filter, Select, Union, Next, Fold}
use Rattle.semantics.specs.Histories.{Event, heard_on, upto}
use Rattle.semantics.specs.Nexts.{is_eligible}
use Rattle.semantics.specs.Programs.{Program, Query, declared_streams, env, published}
use Rattle.semantics.specs.Results.{results}
use Rattle.semantics.specs.Runs.{rebound, runs}
use Rattle.semantics.specs.Scalars.{Pr, Sc, Test, Binding}
use Rattle.semantics.specs.Scalars as term
use Rattle.semantics.specs.Truth.{all_true, is_met, order_of, truth}
use Rattle.semantics.specs.Values.{val, value_at}
use Rattle.semantics.proofs.ListLemmas.{filter-filter, filter_swap, filter-map}
use Rattle.algebra.proofs.SoundLemmas.{denote_sound}
use Rattle.history_laws.specs.Keys.{AreKeyed, Gives, IsKeyed, JoinsByKey, events_with_keys, with_keys}
use Rattle.history_laws.specs.LateStarts.{AreSound}
use Rattle.history_laws.proofs.SiftLemmas.{matches_sifted, runs_sifted}
use Rattle.history_laws.proofs.StreamLemmas.{AllSound, Commutes, Sift, heard_sound, published_sifted, results_sifted, sifted}

-- values that are met as equal are one
same_values : (x y : Value) → is_met cmp.Eq (order_of x y) ≡ true → x ≡ y
same_values (value.Int x) (value.Int y) e = tied_values (value.Int x) (value.Int y) e
same_values (value.Text x) (value.Text y) e = tied_values (value.Text x) (value.Text y) e
same_values (value.Dec s x) (value.Dec t y) e = go (s == t) refl e
  where
    go : (b : Bool) → (s == t) ≡ b → is_met cmp.Eq (cond b (Some (int_cmp x y)) None) ≡ true → value.Dec s x ≡ value.Dec t y
    go true same e = let units : value.Int x ≡ value.Int y = tied_values (value.Int x) (value.Int y) e in let scale = same_number s t same in cc
    go false other e = absurd (cc)
same_values x y e = absurd (cc)

-- and OVER is met with none
none_is_over : (x : Value) → is_met cmp.Eq (order_of x value.Over) ≡ true → ⊥
none_is_over (value.Int x) e = cc
none_is_over value.Over e = cc
none_is_over (value.Text x) e = cc
none_is_over (value.Dec s x) e = cc

-- the second of two true facts
second_true : (x y : Bool) → (x && y) ≡ true → y ≡ true
second_true true y e = e
second_true false y e = absurd (cc)

-- the value at a place of a list
abbrev at_place : List Value → ℕ → Value
at_place vals place = slice_index_or vals place value.Over

-- a value that isn't OVER stays at its place where more follow
place_stays : (vals more : List Value) (place : ℕ) → (at_place vals place ≡ value.Over → ⊥) → at_place (vals ++ more) place ≡ at_place vals place
place_stays [] more place there = absurd (there refl)
place_stays (v ∷ vals) more zero there = refl
place_stays (v ∷ vals) more (suc place) there = place_stays vals more place there

-- what the scalar at a place gives
value_given : (f : Sc → Value) (parts : List Sc) (place : ℕ) (scalar : Sc) → Gives parts place scalar → at_place (map f parts) place ≡ f scalar
value_given f [] place scalar gives = cc
value_given f (s ∷ parts) zero scalar gives = let same : s ≡ scalar = cc in ap f same
value_given f (s ∷ parts) (suc place) scalar gives = value_given f parts place scalar gives

module _ (p : List Pr) (place bound : ℕ) (joins : JoinsByKey p place bound) (b r : TupleView) (e : is_eligible p b r ≡ true) where
  key_met : is_met cmp.Eq (order_of (value_at r place) (value_at b bound)) ≡ true
  key_met =
      All-contains (λ c. truth c r (Some b) ≡ true) p (Test (term.Event place) cmp.Eq (Binding bound))
      (AllPass-from_list_all (λ c. truth c r (Some b)) p (second_true (nat_lt b.at r.from) (all_true p r (Some b)) e)) joins

  -- what is eligible has the binding's key
  key_follows : value_at r place ≡ value_at b bound
  key_follows = same_values (value_at r place) (value_at b bound) key_met

  -- so has the pair of both
  key_joined : value_at (joined b r) bound ≡ value_at b bound
  key_joined = place_stays b.vals r.vals bound (λ over. none_is_over (value_at r place) (ap (λ v. is_met cmp.Eq (order_of (value_at r place) v)) (sym over) ∙ key_met))

  -- and a new binding that takes it from either
  key_rebound : (m : List Sc) → Gives m bound (Binding bound) ⊎ Gives m bound (term.Event place) → value_at (rebound m b r) bound ≡ value_at b bound
  key_rebound m (inl own) = value_given (λ s. val s r (Some b)) m bound (Binding bound) own
  key_rebound m (inr taken) = value_given (λ s. val s r (Some b)) m bound (term.Event place) taken ∙ key_follows

module _ (keys : ℕ → ℕ) (is_ours : Value → Bool) where
  -- whether the key at a place is ours
  abbrev has : ℕ → TupleView → Bool
  has place tuple = is_ours (value_at tuple place)

  -- the same by the key of each stream
  abbrev keep : Sift
  keep stream = has (keys stream)

  -- the tuples of our keys that a keyed expression denotes are those over the tuples of our keys, by induction on it
  keys_denoted : (e : Ex) (place : ℕ) → IsKeyed keys e place → (streams : Streams) → AllSound streams → filter (has place) (denote e streams) ≡ denote e (sifted keep streams)
  keys_denoted (Read stream) place keyed streams all = ap (λ k. filter (has k) (streams stream)) (sym keyed)
  keys_denoted (Filter p e) place keyed streams all =
      filter_swap (has place) (λ (t : TupleView). all_true p t None) (denote e streams) ∙ ap (filter (λ (t : TupleView). all_true p t None)) (keys_denoted e place keyed streams all)
  keys_denoted (Select m e) place keyed streams all =
      filter-map (has place) (selected m.parts) (denote e streams)
      ∙ ap (map (selected m.parts)) (filter_agree (λ t. has place (selected m.parts t)) (has keyed.0) (λ t. ap is_ours (value_given (λ s. val s t None) m.parts place (term.Event keyed.0) keyed.2)) (denote e streams)
      ∙ keys_denoted e keyed.0 keyed.1 streams all)
  keys_denoted (Union e f) place keyed streams all =
      filter-append (has place) (denote e streams) (denote f streams) ∙ (λ i. keys_denoted e place keyed.0 streams all i ++ keys_denoted f place keyed.1 streams all i)
  keys_denoted (Next p e f) place keyed streams all =
      matches_sifted (has place) (has keyed.0) p (λ b r sound ours is. ap is_ours (key_follows p keyed.0 place keyed.3 b r is) ∙ ours) (λ b r is. ap is_ours (key_joined p keyed.0 place keyed.3 b r is)) (denote e streams) (denote f streams) (denote_sound streams all e)
      ∙ (λ i. flat_map (matches p (keys_denoted f keyed.0 keyed.2 streams all i)) (keys_denoted e place keyed.1 streams all i))
  keys_denoted (Fold p q m e f) place keyed streams all =
      runs_sifted (has place) (has keyed.0) p (λ b r sound ours is. ap is_ours (key_follows p keyed.0 place keyed.3 b r is) ∙ ours) q m.parts (λ b r is. ap is_ours (key_rebound p keyed.0 place keyed.3 b r is m.parts keyed.4)) (denote e streams) (denote f streams) (denote_sound streams all e) (denote_sound streams all f)
      ∙ (λ i. flat_map (runs p q m.parts (keys_denoted f keyed.0 keyed.2 streams all i)) (keys_denoted e place keyed.1 streams all i))

  each_commutes : (order : List Query) → All (λ query. IsKeyed keys query.expr (keys query.stream)) order → All (Commutes keep) order
  each_commutes order all = All-weaker (λ query. IsKeyed keys query.expr (keys query.stream)) (Commutes keep) (λ query keyed streams sound. keys_denoted query.expr (keys query.stream) keyed streams sound) order all

  same_key : (event : Event) (stream : ℕ) (b : Bool) → (event.stream == stream) ≡ b → (b && is_ours (value_at event.tuple (keys event.stream))) ≡ (b && has (keys stream) event.tuple)
  same_key event stream true is = ap (λ s. is_ours (value_at event.tuple (keys s))) (same_number event.stream stream is)
  same_key event stream false is = refl

  -- what was heard of the events of our keys is what has our keys
  heard_with_keys : (history : List Event) (stream : ℕ) → heard_on (events_with_keys is_ours keys history) stream ≡ filter (keep stream) (heard_on history stream)
  heard_with_keys history stream =
      let on : Event → Bool = λ event. event.stream == stream in
      let ours : Event → Bool = λ event. is_ours (value_at event.tuple (keys event.stream)) in
      let here : Event → Bool = λ event. has (keys stream) event.tuple in
      ap (map (λ (event : Event). event.tuple))
      (filter_swap on ours history
      ∙ filter-filter ours on history
      ∙ filter_agree (λ event. on event && ours event) (λ event. on event && here event) (λ event. same_key event stream (on event) refl) history
      ∙ sym (filter-filter here on history))
      ∙ sym (filter-map (keep stream) (λ (event : Event). event.tuple) (filter on history))

  declared_with_keys : (declared : ℕ) (history : List Event) → declared_streams declared (events_with_keys is_ours keys history) ≡ sifted keep (declared_streams declared history)
  declared_with_keys declared history i stream = on stream (nat_lt stream declared) i
    where
      on : (stream : ℕ) (b : Bool) → cond b (heard_on (events_with_keys is_ours keys history) stream) [] ≡ filter (keep stream) (cond b (heard_on history stream) [])
      on stream true = heard_with_keys history stream
      on stream false = refl

  -- the streams of a part
  pub streams_of_part : (program : Program) (history : List Event) → AreSound history → AreKeyed keys program → (stream : ℕ) → env program (events_with_keys is_ours keys history) stream ≡ with_keys is_ours (keys stream) (env program history stream)
  streams_of_part program history sound keyed stream =
      ap (λ (s : Streams). published s program.order stream) (declared_with_keys program.declared history)
      ∙ sym (published_sifted keep program.order (each_commutes program.order keyed) (declared_streams program.declared history) (heard_sound program.declared history sound) stream)

  -- and its results
  pub results_of_part : (program : Program) (history : List Event) → AreSound history → AreKeyed keys program
      → (stream time : ℕ) → results program (events_with_keys is_ours keys history) stream time ≡ with_keys is_ours (keys stream) (results program history stream time)
  results_of_part program history sound keyed stream time =
      ap (λ (events : List Event). sorted (filter (λ tuple. tuple.at == time) (env program events stream))) (filter_swap (λ event. nat_le event.tuple.at time) (λ event. is_ours (value_at event.tuple (keys event.stream))) history)
      ∙ ap (λ (s : Streams). sorted (filter (λ tuple. tuple.at == time) (published s program.order stream))) (declared_with_keys program.declared (upto time history))
      ∙ sym (results_sifted keep program (each_commutes program.order keyed) history sound stream time)
