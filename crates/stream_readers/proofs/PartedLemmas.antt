-- Readers of a network that an end comes to, or that an end or a state leaves.
use Rattle.std.proofs.Common.{◌≡◌, ◌∙◌, sym, ap, refl, subst, ℕ, ◌+◌, ◌-◌, ◌<◌, ◌==◌, Bool, true, false, cond, length, List, [], ◌∷◌, ◌++◌, map, append_assoc, arith}
use Rattle.std.specs.Prelude.{Option, Some, None, count_by, is_some}
use Rattle.std.specs.Option.{option_and_then, option_map, unwrap_or}
use Rattle.std.specs.List.{flat_map, range_with_len, swap_remove}
use Rattle.std.specs.List.Sorted.{IsPermutation}
use Rattle.std.proofs.lemmas.Grind.{flat_map-append}
use Rattle.std.proofs.lemmas.List.Sorted.{IsPermutation-append_right, IsPermutation-refl, IsPermutation-sym}
use Rattle.std.proofs.lemmas.List.Sums.{sum_by-cons}
use Rattle.std.proofs.lemmas.Option.{slice_get_within}
use Rattle.event_types.proofs.NumberLemmas.{other_number, same_number, self_equal}
use Rattle.scalar_expr.proofs.Bags.{permuted_from, permuted_to}
use Rattle.automaton.specs.Changes.{AddsEnd, RemovesEnd, with_end, with_ends}
use Rattle.automaton.specs.Networks.{IsNetwork}
use Rattle.automaton.specs.States.{Net, edges_at, edges_in, ends_at, ends_in, entrance_at, entrance_in, is_used, root_at, root_by, root_in, state_at, step_at, step_by, tells}
use Rattle.automaton.specs.declared.network.End.{End}
use Rattle.automaton.specs.declared.network.State.{State}
use Rattle.stream_readers.specs.Changing.{Files, Parts}
use Rattle.stream_readers.specs.Filing.{Filed, filed_under}
use Rattle.stream_readers.specs.Leaving.{left_by}
use Rattle.stream_readers.specs.Readers.{AreReadersOf}
use Rattle.stream_readers.specs.Ways.{first_parts}
use Rattle.stream_readers.specs.declared.leaving.Gone.{Gone}
use Rattle.stream_readers.specs.declared.leaving.Gone.TheVariants as leaving
use Rattle.stream_readers.specs.declared.reader.Reader.{Reader}
use Rattle.stream_readers.specs.declared.target.Target.TheVariants.{Edge}
use Rattle.stream_readers.proofs.ChangeLemmas.{given_permuted, given_twice}
use Rattle.stream_readers.proofs.EndLemmas.{end_filed, end_left, ends_last, ends_stay, gone_at}
use Rattle.stream_readers.proofs.EntryLemmas.{edge_filed, edges_alike, ends_filed, entry, entry_of, no_root, past_unused, stays, targets_given, unused_entry, waits_alike}
use Rattle.stream_readers.proofs.GrownLemmas.{targets_alike, targets_at_one, targets_come, targets_leave, targets_stay, waiting_alike, waits_stay}

-- edges stay where an end leaves
edges_stay : (net : Net) (number place last : ℕ) (edges : List ℕ) → flat_map (left_by (gone_at number place last)) (map (edge_filed net) edges) ≡ map (edge_filed net) edges
edges_stay net number place last [] = refl
edges_stay net number place last (edge ∷ edges) = ap (λ fs. edge_filed net edge ∷ fs) (edges_stay net number place last edges)

-- ends stay where an edge leaves
pub ends_kept : (gone number place : ℕ) (ends : List End) → flat_map (left_by (leaving.Edge gone)) (ends_filed number place ends) ≡ ends_filed number place ends
ends_kept gone number place [] = refl
ends_kept gone number place (end ∷ ends) = ap (λ fs. end_filed number place end ∷ fs) (ends_kept gone number (place + 1) ends)

-- so do edges that lead elsewhere
pub edges_kept : (net : Net) (gone : ℕ) (edges : List ℕ) → count_by (λ edge. edge == gone) edges ≡ 0 → flat_map (left_by (leaving.Edge gone)) (map (edge_filed net) edges) ≡ map (edge_filed net) edges
edges_kept net gone [] none = refl
edges_kept net gone (edge ∷ edges) none = go (edge == gone) (sym (sum_by-cons (λ edge. cond (edge == gone) 1 0) edge edges) ∙ none) (edges_kept net gone edges)
  where
    rest : List Filed
    rest = flat_map (left_by (leaving.Edge gone)) (map (edge_filed net) edges)

    go : (b : Bool) → cond b 1 0 + count_by (λ edge. edge == gone) edges ≡ 0 → (count_by (λ edge. edge == gone) edges ≡ 0 → rest ≡ map (edge_filed net) edges)
        → filed_under (first_parts (step_at net edge)) (cond b None (Some (Edge edge))) ++ rest ≡ map (edge_filed net) (edge ∷ edges)
    go true counted more = absurd (omega (arith, counted))
    go false counted more = ap (λ fs. edge_filed net edge ∷ fs) (more (omega (arith, counted)))

-- what is left of what is filed of a state
pub left_entry : (gone : Gone) (b : Bool) (edges ends : List Filed) → flat_map (left_by gone) (cond b (edges ++ ends) []) ≡ cond b (flat_map (left_by gone) edges ++ flat_map (left_by gone) ends) []
left_entry gone true edges ends = flat_map-append (left_by gone) edges ends
left_entry gone false edges ends = refl

-- what is left of what is filed of all states, in whatever order
pub targets_left : (old new : Net) (stream : ℕ) (gone : Gone) → ((k : ℕ) → IsPermutation (flat_map (left_by gone) (entry old stream k)) (entry new stream k)) → IsPermutation (flat_map (left_by gone) (targets_given old stream)) (targets_given new stream)
targets_left old new stream gone same =
    permuted_from (given_twice (left_by gone) (entry old stream) (range_with_len 0 (length old)))
    (given_permuted (λ k. flat_map (left_by gone) (entry old stream k)) (entry new stream) (length old) (length new) same (λ k le. ap (flat_map (left_by gone)) (unused_entry old stream k (past_unused old k le)))
    (λ k le. unused_entry new stream k (past_unused new k le)))

module _ (old new : Net) (network : IsNetwork old) where
  module _ (state : ℕ) (end : End) (known : is_used old state ≡ true) (adds : AddsEnd state end old new) where
    end_entered : (m : ℕ) → entrance_at new m ≡ entrance_at old m
    end_entered m = go (m == state) refl
      where
        kept : (o : Option State) → entrance_in (with_end end o) ≡ entrance_in o
        kept None = refl
        kept (Some state) = refl

        go : (b : Bool) → (m == state) ≡ b → entrance_at new m ≡ entrance_at old m
        go true is = let e = same_number m state is in ap (entrance_at new) e ∙ ap entrance_in adds.here ∙ kept (state_at old state) ∙ ap (entrance_at old) (sym e)
        go false differs = ap entrance_in (adds.others m (other_number m state differs))

    end_edges : (k : ℕ) → map (edge_filed new) (edges_at old k) ≡ map (edge_filed old) (edges_at old k)
    end_edges k = edges_alike old new network (λ m used. end_entered m) k

    end_others : (s k : ℕ) → (k ≡ state → ⊥) → entry new s k ≡ entry old s k
    end_others s k other = stays old new s k (end_edges k) (adds.others k other)

    end_same : (s : ℕ) → tells s (root_at old state) ≡ false → (k : ℕ) → entry new s k ≡ entry old s k
    end_same s none k = go (k == state) refl
      where
        go : (b : Bool) → (k == state) ≡ b → entry new s k ≡ entry old s k
        go true is =
            let e = same_number k state is in
            let out = ap (λ n. tells s (root_at old n)) e ∙ none in no_root new s k (ap (λ o. tells s (option_and_then root_by o)) (end_entered k) ∙ out) ∙ sym (no_root old s k out)
        go false differs = end_others s k (other_number k state differs)

    end_more : (s : ℕ) → tells s (root_at old state) ≡ true → entry new s state ≡ entry old s state ++ end_filed state (length (ends_at old state)) end ∷ []
    end_more s told = ap (entry_of (edge_filed new) s state) adds.here ∙ go (state_at old state) told (end_edges state)
      where
        go : (o : Option State) → tells s (root_in o) ≡ true → map (edge_filed new) (edges_in o) ≡ map (edge_filed old) (edges_in o)
            → entry_of (edge_filed new) s state (with_end end o) ≡ entry_of (edge_filed old) s state o ++ end_filed state (length (ends_in o)) end ∷ []
        go None told edges = absurd (cc)
        go (Some st) told edges =
            let own = map (edge_filed old) st.edges in
            let x : List Filed = end_filed state (length st.ends) end ∷ [] in
            ap (λ b. cond b (map (edge_filed new) st.edges ++ ends_filed state 0 (st.ends ++ end ∷ [])) []) told
            ∙ ap (λ fs. fs ++ ends_filed state 0 (st.ends ++ end ∷ [])) edges ∙ ap (λ fs. own ++ fs) (ends_last state 0 st.ends end ∙ ap (λ k. ends_filed state 0 st.ends ++ end_filed state k end ∷ []) (let e : 0 + length st.ends ≡ length st.ends = omega arith in e))
            ∙ sym (append_assoc own (ends_filed state 0 st.ends) x) ∙ ap (λ b. cond b (own ++ ends_filed state 0 st.ends) [] ++ x) (sym told)

    end_there : is_used new state ≡ true
    end_there = ap is_some adds.here ∙ go (state_at old state) known
      where
        go : (o : Option State) → is_some o ≡ true → is_some (with_end end o) ≡ true
        go None some = some
        go (Some st) some = refl

    -- an end comes to a root
    pub end_comes : (stream : ℕ) (readers filed : List Reader) → Some stream ≡ root_at old state → Files stream (end_filed state (length (ends_at old state)) end ∷ []) readers filed → AreReadersOf old readers → AreReadersOf new filed
    end_comes stream readers filed root files are = λ s. record {
      targets =
          targets_come old new readers filed stream x files (λ s. (are s).targets)
          (targets_at_one old new stream state x (permuted_from (end_more stream (ap (tells stream) (sym root) ∙ self_equal stream)) (IsPermutation-refl (entry old stream state ++ x))) (end_others stream) end_there)
          (λ other differs. targets_alike old new other (end_same other (ap (tells other) (sym root) ∙ differs))) s;
      waits = waits_stay old new readers filed files.waits (λ s. (are s).waits) (λ s. waiting_alike old new s (λ k. waits_alike old new s k (end_entered k))) s;
    }
      where
        x : List Filed
        x = end_filed state (length (ends_at old state)) end ∷ []

    -- and to a waiting state
    pub no_end_comes : (readers : List Reader) → None ≡ root_at old state → AreReadersOf old readers → AreReadersOf new readers
    no_end_comes readers root are = λ s. record {
      targets = targets_stay old new readers readers (λ s. refl) (λ s. (are s).targets) (λ s. targets_alike old new s (end_same s (ap (tells s) (sym root)))) s;
      waits = waits_stay old new readers readers (λ s. refl) (λ s. (are s).waits) (λ s. waiting_alike old new s (λ k. waits_alike old new s k (end_entered k))) s;
    }

  module _ (state place : ℕ) (removes : RemovesEnd state place old new) where
    cut_entered : (m : ℕ) → entrance_at new m ≡ entrance_at old m
    cut_entered m = go (m == state) refl
      where
        kept : (ends : List End) (o : Option State) → entrance_in (with_ends ends o) ≡ entrance_in o
        kept ends None = refl
        kept ends (Some state) = refl

        go : (b : Bool) → (m == state) ≡ b → entrance_at new m ≡ entrance_at old m
        go true is =
            let e = same_number m state is in
            ap (entrance_at new) e ∙ ap entrance_in removes.here ∙ kept (swap_remove (ends_at old state) place removes.gone) (state_at old state) ∙ ap (entrance_at old) (sym e)
        go false differs = ap entrance_in (removes.others m (other_number m state differs))

    cut_edges : (k : ℕ) → map (edge_filed new) (edges_at old k) ≡ map (edge_filed old) (edges_at old k)
    cut_edges k = edges_alike old new network (λ m used. cut_entered m) k

    cut_same : (s : ℕ) → tells s (root_at old state) ≡ false → (k : ℕ) → entry new s k ≡ entry old s k
    cut_same s none k = go (k == state) refl
      where
        go : (b : Bool) → (k == state) ≡ b → entry new s k ≡ entry old s k
        go true is =
            let e = same_number k state is in
            let out = ap (λ n. tells s (root_at old n)) e ∙ none in no_root new s k (ap (λ o. tells s (option_and_then root_by o)) (cut_entered k) ∙ out) ∙ sym (no_root old s k out)
        go false differs = stays old new s k (cut_edges k) (removes.others k (other_number k state differs))

    module _ (last : ℕ) (at_last : last ≡ length (ends_at old state) - 1) where
      cut_here : (s : ℕ) → IsPermutation (flat_map (left_by (gone_at state place last)) (entry old s state)) (entry new s state)
      cut_here s = permuted_to (go (state_at old state) (cut_edges state) (slice_get_within (ends_at old state) place removes.gone removes.there) at_last) (ap (entry_of (edge_filed new) s state) (sym removes.here))
        where
          go : (o : Option State) → map (edge_filed new) (edges_in o) ≡ map (edge_filed old) (edges_in o) → place < length (ends_in o) → last ≡ length (ends_in o) - 1
              → IsPermutation (flat_map (left_by (gone_at state place last)) (entry_of (edge_filed old) s state o)) (entry_of (edge_filed new) s state (with_ends (swap_remove (ends_in o) place removes.gone) o))
          go None edges lt at = absurd (omega (arith, lt))
          go (Some st) edges lt at =
              let own = map (edge_filed old) st.edges in
              permuted_from (left_entry (gone_at state place last) (tells s (root_in (Some st))) own (ends_filed state 0 st.ends))
              (permuted_to (rooted (tells s (root_in (Some st)))) (ap (λ fs. cond (tells s (root_in (Some st))) (fs ++ ends_filed state 0 (swap_remove st.ends place removes.gone)) []) (edges_stay old state place last st.edges ∙ sym edges)))
            where
              rooted : (b : Bool)
                  → IsPermutation (cond b (flat_map (left_by (gone_at state place last)) (map (edge_filed old) st.edges) ++ flat_map (left_by (gone_at state place last)) (ends_filed state 0 st.ends)) []) (cond b (flat_map (left_by (gone_at state place last)) (map (edge_filed old) st.edges) ++ ends_filed state 0 (swap_remove st.ends place removes.gone)) [])
              rooted true = IsPermutation-append_right (flat_map (left_by (gone_at state place last)) (map (edge_filed old) st.edges)) _ _ (IsPermutation-sym _ _ (end_left state place last st.ends removes.gone lt at))
              rooted false = IsPermutation-refl []

      cut_other : (s k : ℕ) → (k == state) ≡ false → flat_map (left_by (gone_at state place last)) (entry old s k) ≡ entry new s k
      cut_other s k differs =
          let b = tells s (root_at old k) in
          let edges = map (edge_filed old) (edges_at old k) in
          let ends = ends_filed k 0 (ends_at old k) in
          left_entry (gone_at state place last) b edges ends
          ∙ ap (λ fs. cond b (flat_map (left_by (gone_at state place last)) edges ++ fs) []) (ends_stay state place last k 0 (ends_at old k) differs) ∙ ap (λ fs. cond b (fs ++ ends) []) (edges_stay old state place last (edges_at old k))
          ∙ sym (stays old new s k (cut_edges k) (removes.others k (other_number k state differs)))

      cut_each : (s k : ℕ) → IsPermutation (flat_map (left_by (gone_at state place last)) (entry old s k)) (entry new s k)
      cut_each s k = go (k == state) refl
        where
          go : (b : Bool) → (k == state) ≡ b → IsPermutation (flat_map (left_by (gone_at state place last)) (entry old s k)) (entry new s k)
          go true is = subst (λ (n : ℕ). IsPermutation (flat_map (left_by (gone_at state place last)) (entry old s n)) (entry new s n)) (sym (same_number k state is)) (cut_here s)
          go false differs = permuted_from (cut_other s k differs) (IsPermutation-refl (entry new s k))

      -- an end leaves a root
      pub end_leaves : (stream : ℕ) (readers left : List Reader) → Some stream ≡ root_at old state → Parts stream (gone_at state place last) readers left → AreReadersOf old readers → AreReadersOf new left
      end_leaves stream readers left root parts are = λ s. record {
        targets =
            targets_leave old new readers left stream (gone_at state place last) parts (λ s. (are s).targets) (targets_left old new stream (gone_at state place last) (cut_each stream))
            (λ other differs. targets_alike old new other (cut_same other (ap (tells other) (sym root) ∙ differs))) s;
        waits = waits_stay old new readers left parts.waits (λ s. (are s).waits) (λ s. waiting_alike old new s (λ k. waits_alike old new s k (cut_entered k))) s;
      }

    -- and a waiting state
    pub no_end_leaves : (readers : List Reader) → None ≡ root_at old state → AreReadersOf old readers → AreReadersOf new readers
    no_end_leaves readers root are = λ s. record {
      targets = targets_stay old new readers readers (λ s. refl) (λ s. (are s).targets) (λ s. targets_alike old new s (cut_same s (ap (tells s) (sym root)))) s;
      waits = waits_stay old new readers readers (λ s. refl) (λ s. (are s).waits) (λ s. waiting_alike old new s (λ k. waits_alike old new s k (cut_entered k))) s;
    }

-- readers are those of a network with the same states
pub same_readers : (old new : Net) (readers : List Reader) → ((k : ℕ) → state_at new k ≡ state_at old k) → AreReadersOf old readers → AreReadersOf new readers
same_readers old new readers same are = λ s. record {
  targets = targets_stay old new readers readers (λ s. refl) (λ s. (are s).targets) (λ s. targets_alike old new s (λ k. stays old new s k (alike (edges_at old k)) (same k))) s;
  waits = waits_stay old new readers readers (λ s. refl) (λ s. (are s).waits) (λ s. waiting_alike old new s (λ k. waits_alike old new s k (ap entrance_in (same k)))) s;
}
  where
    alike : (edges : List ℕ) → map (edge_filed new) edges ≡ map (edge_filed old) edges
    alike [] = refl
    alike (edge ∷ edges) = ap (λ f. f ∷ map (edge_filed new) edges) (ap (λ (slot : Option State). record { target = Edge edge; parts = first_parts (unwrap_or (option_map step_by (entrance_in slot)) []) }) (same edge)) ∙ ap (λ fs. edge_filed old edge ∷ fs) (alike edges)

-- nothing reads a stream of a network without states
pub none_read : AreReadersOf [] []
none_read s = record { targets = IsPermutation-refl []; waits = refl }
