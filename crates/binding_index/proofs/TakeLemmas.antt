-- What an event finds among the buckets of a store, and what stays when it takes.
use Rattle.std.proofs.Common.{◌≡◌, ◌∙◌, sym, ap, refl, subst, ℕ, inl, inr, not, cond, filter, List, []}
use Rattle.std.specs.Prelude.{IsTrue, Option, Some, None, slice_get}
use Rattle.std.specs.List.{All, IsDistinct}
use Rattle.std.specs.Map.{keys_of, values_of}
use Rattle.std.proofs.lemmas.List.Elements.{filter_passes}
use Rattle.event_types.specs.Tuple.{TupleView}
use Rattle.event_types.specs.declared.value.Value.{Value}
use Rattle.indexmap.specs.IndexMap.{set_value_at}
use Rattle.semantics.specs.Nexts.{is_eligible}
use Rattle.semantics.specs.Scalars.{Pr}
use Rattle.semantics.specs.Values.{value_at}
use Rattle.instances.specs.declared.instance.Instance.{Instance}
use Rattle.instances.specs.Keys.{Key, candidates_of, is_matched, key_matches, unmatched}
use Rattle.binding_index.specs.Buckets.{AreKeyed, AreSame, Bucket, HasBucketAt, HasNoCandidates, instances_in_order, instances_at}
use Rattle.binding_index.specs.Among.{is_key}
use Rattle.binding_index.proofs.BucketLemmas.{filter_in_order, same_in_order}
use Rattle.binding_index.proofs.CandidateLemmas.{all_stay, candidates_are, no_candidates, over_stays, stay_at}
use Rattle.binding_index.proofs.StoreLemmas.{value_there}
use Rattle.binding_index.proofs.WriteLemmas.{keys_written, written_at}

-- the key part holds for each candidate
pub candidates_match : (key : Option Key) (event : TupleView) (is : List Instance) → All (λ (n : Instance). IsTrue (key_matches key event n.tuple)) (candidates_of key event is)
candidates_match None event is = λ _ _ _. refl
candidates_match (Some key) event is = filter_passes (λ (n : Instance). key_matches (Some key) event n.tuple) is

module _ (key : Key) (event : TupleView) (bs : List Bucket) (keyed : AreKeyed key.binding bs) (distinct : IsDistinct is_key (keys_of bs)) where
  abbrev here : Value
  here = value_at event key.event

  module _ (k : Value) (is : here ≡ k) where
    none_is : HasNoCandidates bs k → HasNoCandidates bs here
    none_is h = subst (HasNoCandidates bs) (sym is) h

    found_is : (place : ℕ) → HasBucketAt bs k place → HasBucketAt bs here place
    found_is place h = subst (λ (v : Value). HasBucketAt bs v place) (sym is) h

    -- where the key of an event has no candidates, it finds none
    pub none_are : HasNoCandidates bs k → [] ≡ candidates_of (Some key) event (instances_in_order bs)
    none_are h = go (none_is h)
      where
        go : HasNoCandidates bs here → [] ≡ candidates_of (Some key) event (instances_in_order bs)
        go (inl over) = no_candidates key event bs keyed distinct over
        go (inr (value, none)) = sym none ∙ candidates_are key event bs keyed distinct value

    -- where the key of an event has none, it takes none out
    pub none_go : (choose : List Pr) → HasNoCandidates bs k → instances_in_order bs ≡ unmatched (Some key) choose event (instances_in_order bs)
    none_go choose h = go (none_is h)
      where
        go : HasNoCandidates bs here → instances_in_order bs ≡ unmatched (Some key) choose event (instances_in_order bs)
        go (inl over) = over_stays key event bs keyed choose over
        go (inr (value, none)) = all_stay key event bs keyed choose value none

    module _ (place : ℕ) (finds : HasBucketAt bs k place) (v : List Instance) (there : slice_get (values_of bs) place ≡ Some v) where
      same : v ≡ instances_at bs here
      same = value_there bs place here (instances_at bs here) v (found_is place finds).at there

      -- the bucket has the candidates
      pub found_are : v ≡ candidates_of (Some key) event (instances_in_order bs)
      found_are = same ∙ candidates_are key event bs keyed distinct (found_is place finds).is_value

      -- and once those for which the event is eligible are taken out of it, they are taken out of all
      pub found_go : (choose : List Pr) (w : List Instance) (cs : List Bucket) → w ≡ filter (λ (n : Instance). not (is_eligible choose n.tuple event)) v → AreSame (set_value_at bs place w) cs
          → instances_in_order cs ≡ unmatched (Some key) choose event (instances_in_order bs)
      found_go choose w cs taken written =
          let f = found_is place finds in
          same_in_order (set_value_at bs place w) cs written
          ∙ filter_in_order (λ n. not (is_matched (Some key) choose event n)) bs (set_value_at bs place w) (keys_written bs place w)
          (λ q. written_at bs place here (instances_at bs here) w distinct f.at q
          ∙ ap (λ (x : List Instance). cond (is_key here q) x (instances_at bs q)) (taken ∙ ap (filter (λ (n : Instance). not (is_eligible choose n.tuple event))) same)
          ∙ sym (stay_at key event bs keyed choose f.is_value q))
