-- What one more tuple of an epoch brings.
use Rattle.std.proofs.Common.{◌≡◌, ◌∙◌, sym, ap, refl, ℕ, ◌==◌, Bool, true, false, cond, List, [], ◌∷◌, ◌++◌, map}
use Rattle.std.specs.Prelude.{Option, Some, None}
use Rattle.std.specs.List.{flat_map}
use Rattle.std.specs.List.Sorted.{IsPermutation}
use Rattle.std.proofs.lemmas.Grind.{flat_map-append}
use Rattle.std.proofs.lemmas.List.{append-nil, map-append}
use Rattle.std.proofs.lemmas.List.Sorted.{IsPermutation-refl, IsPermutation-sym, IsPermutation-trans, IsPermutation-append_left}
use Rattle.event_types.specs.Tuple.{TupleView}
use Rattle.event_types.proofs.NumberLemmas.{same_number}
use Rattle.instances.specs.declared.instance.Instance.{Instance}
use Rattle.scalar_expr.proofs.Bags.{permuted_from}
use Rattle.semantics.specs.Denotation.{Streams}
use Rattle.semantics.specs.Programs.{with_stream}
use Rattle.automaton.specs.States.{Net, entrance_at}
use Rattle.automaton.specs.declared.network.Entrance.{Entrance}
use Rattle.automaton.specs.declared.network.Entrance.TheVariants.{Root, Waiting}
use Rattle.automaton.specs.declared.wait.Wait.{Wait}
use Rattle.epoch_laws.specs.Closing.{Stores, leaving_state, leaving_by}
use Rattle.epoch_laws.specs.Epochs.{took}
use Rattle.epoch_laws.proofs.Bags.{permuted_is}
use Rattle.epoch_laws.specs.Instances.{begins}
use Rattle.epoch_draft.specs.Comes.{gets, gets_by}
use Rattle.epoch_draft.specs.Pairs.{met}
use Rattle.epoch_draft.proofs.Pairs.{met_took}

-- the streams with one more tuple behind those of a stream
abbrev pub with_tuple : Streams → ℕ → TupleView → Streams
with_tuple seen stream tuple = with_stream seen stream (seen stream ++ tuple ∷ [])

-- one more tuple at a wait
took_more : (w : Wait) (store : List Instance) (tuples : List TupleView) (r : TupleView) → IsPermutation (took w.choose w.fold (tuples ++ r ∷ []) store) (took w.choose w.fold tuples store ++ met w store r)
took_more w store tuples r =
    IsPermutation-trans _ _ _ (IsPermutation-sym _ _ (met_took w store (tuples ++ r ∷ [])))
    (permuted_from (flat_map-append (met w store) tuples (r ∷ []) ∙ ap (λ rows. flat_map (met w store) tuples ++ rows) (append-nil (met w store r)))
    (IsPermutation-append_left (met w store r) (flat_map (met w store) tuples) (took w.choose w.fold tuples store) (met_took w store tuples)))

-- at a root
root_more : (tuples : List TupleView) (r : TupleView) (b : Bool) → map begins (cond b (tuples ++ r ∷ []) tuples) ≡ map begins tuples ++ cond b (begins r ∷ []) []
root_more tuples r true = map-append begins tuples (r ∷ [])
root_more tuples r false = sym (append-nil (map begins tuples))

-- the same of a wait
wait_more : (w : Wait) (store : List Instance) (tuples : List TupleView) (r : TupleView) (b : Bool)
    → IsPermutation (took w.choose w.fold (cond b (tuples ++ r ∷ []) tuples) store) (took w.choose w.fold tuples store ++ cond b (met w store r) [])
wait_more w store tuples r true = took_more w store tuples r
wait_more w store tuples r false = permuted_is (sym (append-nil (took w.choose w.fold tuples store)))

-- the tuples of a stream, with one more behind those of another or of itself
with_is : (seen : Streams) (s t : ℕ) (r : TupleView) → with_tuple seen s r t ≡ cond (t == s) (seen t ++ r ∷ []) (seen t)
with_is seen s t r = go (t == s) refl
  where
    go : (b : Bool) → (t == s) ≡ b → cond b (seen s ++ r ∷ []) (seen t) ≡ cond b (seen t ++ r ∷ []) (seen t)
    go true e = ap (λ n. seen n ++ r ∷ []) (sym (same_number t s e))
    go false e = refl

-- what leaves each state with one more tuple, by how the state is entered
pub tuple_comes : (net : Net) (stores : Stores) (seen : Streams) (s : ℕ) (r : TupleView) (n : ℕ) → IsPermutation (leaving_state net (with_tuple seen s r) stores n) (leaving_state net seen stores n ++ gets net stores s r n)
tuple_comes net stores seen s r n = go (entrance_at net n)
  where
    go : (o : Option Entrance) → IsPermutation (leaving_by o (with_tuple seen s r) (stores n)) (leaving_by o seen (stores n) ++ gets_by o s r (stores n))
    go None = IsPermutation-refl []
    go (Some (Root t)) = permuted_is (ap (map begins) (with_is seen s t r) ∙ root_more (seen t) r (t == s))
    go (Some (Waiting before hop)) =
        permuted_from (ap (λ rows. took hop.wait.choose hop.wait.fold rows (stores n)) (with_is seen s hop.wait.stream r))
        (wait_more hop.wait (stores n) (seen hop.wait.stream) r (hop.wait.stream == s))
