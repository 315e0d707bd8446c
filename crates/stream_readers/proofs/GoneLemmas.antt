-- Readers of a network that a state leaves.
use Rattle.std.proofs.Common.{◌≡◌, ◌∙◌, sym, ap, refl, subst, ℕ, ◌+◌, ◌==◌, ◌&&◌, not, Bool, true, false, cond, length, List, [], ◌∷◌, ◌++◌, map, arith}
use Rattle.std.specs.Prelude.{Option, Some, None, count_by, is_some, slice_get}
use Rattle.std.specs.Option.{option_and_then, option_map, unwrap_or}
use Rattle.std.specs.List.{flat_map, range_with_len, swap_remove}
use Rattle.std.specs.List.Sorted.{IsPermutation}
use Rattle.std.proofs.lemmas.List.Sums.{sum_by-cons}
use Rattle.std.proofs.lemmas.List.Sorted.{IsPermutation-append_left, IsPermutation-map, IsPermutation-refl, IsPermutation-swap_remove}
use Rattle.std.proofs.lemmas.Option.{get_or_from_slice_get, slice_get_within}
use Rattle.event_types.proofs.NumberLemmas.{other_number, same_number, self_equal}
use Rattle.automaton.specs.Changes.{LosesEdge, RemovesState, with_edges}
use Rattle.automaton.specs.Networks.{IsNetwork}
use Rattle.automaton.specs.States.{Net, before_at, edges_at, edges_in, ends_at, entrance_at, entrance_in, is_used, root_at, root_by, root_in, state_at, step_at, step_by, tells, wait_at}
use Rattle.automaton.specs.declared.network.End.{End}
use Rattle.automaton.specs.declared.network.Entrance.{Entrance}
use Rattle.automaton.specs.declared.network.State.{State}
use Rattle.automaton.specs.declared.wait.Wait.{Wait}
use Rattle.automaton.proofs.ClearedLemmas.{lost_entry}
use Rattle.automaton.proofs.CountLemmas.{bit, count-taken}
use Rattle.static_index.specs.Conditions.{HasId, without}
use Rattle.stream_readers.specs.Changing.{HaveTargets, HaveWaits, Parts, PartsWait}
use Rattle.stream_readers.specs.Filing.{Filed, filed_under, has_id}
use Rattle.stream_readers.specs.Leading.{lead_key}
use Rattle.stream_readers.specs.Leaving.{left_by}
use Rattle.stream_readers.specs.Ways.{first_parts, parts_in}
use Rattle.scalar_expr.proofs.Bags.{flat_map_permuted, permuted_from, permuted_to}
use Rattle.stream_readers.specs.declared.leaving.Gone.TheVariants as leaving
use Rattle.stream_readers.specs.declared.reader.Reader.{Reader}
use Rattle.stream_readers.specs.declared.target.Target.TheVariants.{Edge}
use Rattle.stream_readers.proofs.ChangeLemmas.{given_below, row_has, row_lacks, row_left, row_of}
use Rattle.stream_readers.proofs.EntryLemmas.{asked, asked_at, edge_filed, ends_filed, entry, entry_of, no_root, stays, unused_asked, unused_entry, used_within, waits_alike, waits_given}
use Rattle.stream_readers.proofs.GrownLemmas.{targets_alike, targets_leave, targets_stay, wait_given, wait_leaves, waiting_alike, waits_stay}
use Rattle.stream_readers.specs.Readers.{reader_at}
use Rattle.stream_readers.proofs.SlotLemmas.{has_from, has_not}
use Rattle.instances.specs.Keys.{Key}
use Rattle.stream_readers.proofs.PartedLemmas.{edges_kept, ends_kept, left_entry, targets_left}

told_is : (n : ℕ) (o : Option ℕ) → tells n o ≡ true → o ≡ Some n
told_is n None is = absurd (cc)
told_is n (Some m) is = ap Some (same_number m n is)

module _ (old new : Net) (number : ℕ) (removes : RemovesState number old new) where
  -- each other state is entered as before
  pub gone_entered : (k : ℕ) → (k ≡ number → ⊥) → entrance_at new k ≡ entrance_at old k
  gone_entered k other = go (tells k (before_at old number)) refl
    where
      go : (b : Bool) → tells k (before_at old number) ≡ b → entrance_at new k ≡ entrance_at old k
      go true told = lost_entry number (state_at old k) (state_at new k) (removes.edge k (told_is k (before_at old number) told))
      go false none = ap entrance_in (removes.others k other none)

  -- edges that lead elsewhere are filed alike
  pub gone_edges : (edges : List ℕ) → count_by (λ edge. edge == number) edges ≡ 0 → map (edge_filed new) edges ≡ map (edge_filed old) edges
  gone_edges [] none = refl
  gone_edges (edge ∷ edges) none = go (edge == number) refl (sym (sum_by-cons (λ edge. cond (edge == number) 1 0) edge edges) ∙ none) (gone_edges edges)
    where
      go : (b : Bool) → (edge == number) ≡ b → cond (edge == number) 1 0 + count_by (λ edge. edge == number) edges ≡ 0 → (count_by (λ edge. edge == number) edges ≡ 0 → map (edge_filed new) edges ≡ map (edge_filed old) edges)
          → map (edge_filed new) (edge ∷ edges) ≡ map (edge_filed old) (edge ∷ edges)
      go true is counted more = absurd (let one : bit (edge == number) ≡ 1 = ap bit is in omega (arith, counted, one))
      go false differs counted more =
          ap (λ (e : Option Entrance). record { target = Edge edge; parts = first_parts (unwrap_or (option_map step_by e) []) } ∷ map (edge_filed new) edges) (gone_entered edge (other_number edge number differs))
          ∙ ap (λ fs. edge_filed old edge ∷ fs) (more (omega (arith, counted)))

  -- the edge leaves those of a state, and the last of them takes its place
  pub edges_part : (edges : List ℕ) (place : ℕ) → slice_get edges place ≡ Some number → count_by (λ edge. edge == number) edges ≡ 1 → IsPermutation (flat_map (left_by (leaving.Edge number)) (map (edge_filed old) edges)) (map (edge_filed new) (swap_remove edges place number))
  edges_part edges place there one =
      permuted_to (flat_map_permuted (left_by (leaving.Edge number)) _ _ (IsPermutation-map (edge_filed old) edges (number ∷ rest) (IsPermutation-swap_remove edges place number (slice_get_within edges place number there) (sym (get_or_from_slice_get edges place number number there)))))
      (ap (λ b. filed_under (first_parts (step_at old number)) (cond b None (Some (Edge number))) ++ flat_map (left_by (leaving.Edge number)) (map (edge_filed old) rest)) (self_equal number) ∙ edges_kept old number rest none ∙ sym (gone_edges rest none))
    where
      rest : List ℕ
      rest = swap_remove edges place number

      none : count_by (λ edge. edge == number) rest ≡ 0
      none =
          let counted = count-taken (λ edge. edge == number) edges place number there in
          let one' : bit (number == number) ≡ 1 = ap bit (self_equal number) in
          omega (arith, counted, one)

module _ (old new : Net) (network : IsNetwork old) (number : ℕ) (removes : RemovesState number old new) (last : edges_at old number ≡ []) (endless : ends_at old number ≡ []) where
  -- no edge leads there but from the state before
  gone_apart : (k : ℕ) → tells k (before_at old number) ≡ false → count_by (λ edge. edge == number) (edges_at old k) ≡ 0
  gone_apart k none = network.edges k number ∙ ap (λ b. cond b 1 0) none

  gone_alike : (k : ℕ) → tells k (before_at old number) ≡ false → map (edge_filed new) (edges_at old k) ≡ map (edge_filed old) (edges_at old k)
  gone_alike k none = gone_edges old new number removes (edges_at old k) (gone_apart k none)

  gone_none : (s : ℕ) → entry old s number ≡ []
  gone_none s =
      ap (λ (edges : List ℕ). cond (tells s (root_at old number)) (map (edge_filed old) edges ++ ends_filed number 0 (ends_at old number)) []) last
      ∙ ap (λ (ends : List End). cond (tells s (root_at old number)) (ends_filed number 0 ends) []) endless ∙ empty (tells s (root_at old number))
    where
      none : List Filed
      none = []

      empty : (b : Bool) → cond b none none ≡ none
      empty true = refl
      empty false = refl

  gone_here : (s : ℕ) → entry new s number ≡ []
  gone_here s = unused_entry new s number (ap is_some removes.here)

  -- what is left of what is filed of a state
  abbrev left : List Filed → List Filed
  left filed = flat_map (left_by (leaving.Edge number)) filed

  gone_from : (s k : ℕ) → tells k (before_at old number) ≡ true → IsPermutation (left (entry old s k)) (entry new s k)
  gone_from s k told = permuted_to (go (state_at old k) loses.there (network.edges k number ∙ ap (λ b. cond b 1 0) told)) (ap (entry_of (edge_filed new) s k) (sym loses.rest))
    where
      loses : LosesEdge number (state_at old k) (state_at new k)
      loses = removes.edge k (told_is k (before_at old number) told)

      go : (o : Option State) → slice_get (edges_in o) loses.place ≡ Some number → count_by (λ edge. edge == number) (edges_in o) ≡ 1
          → IsPermutation (left (entry_of (edge_filed old) s k o)) (entry_of (edge_filed new) s k (with_edges (swap_remove (edges_in o) loses.place number) o))
      go None there one = IsPermutation-refl []
      go (Some st) there one = permuted_from (left_entry (leaving.Edge number) (tells s (root_in (Some st))) (map (edge_filed old) st.edges) (ends_filed k 0 st.ends)) (rooted (tells s (root_in (Some st))))
        where
          rest : List Filed
          rest = map (edge_filed new) (swap_remove st.edges loses.place number)

          rooted : (b : Bool) → IsPermutation (cond b (left (map (edge_filed old) st.edges) ++ left (ends_filed k 0 st.ends)) []) (cond b (rest ++ ends_filed k 0 st.ends) [])
          rooted true =
              permuted_to (IsPermutation-append_left (left (ends_filed k 0 st.ends)) (left (map (edge_filed old) st.edges)) rest (edges_part old new number removes st.edges loses.place there one)) (ap (λ fs. rest ++ fs) (ends_kept number k 0 st.ends))
          rooted false = IsPermutation-refl []

  gone_other : (s k : ℕ) → (k ≡ number → ⊥) → tells k (before_at old number) ≡ false → left (entry old s k) ≡ entry new s k
  gone_other s k other none =
      let b = tells s (root_at old k) in
      let edges = map (edge_filed old) (edges_at old k) in
      let ends = ends_filed k 0 (ends_at old k) in
      left_entry (leaving.Edge number) b edges ends ∙ ap (λ fs. cond b (fs ++ left ends) []) (edges_kept old number (edges_at old k) (gone_apart k none))
      ∙ ap (λ fs. cond b (edges ++ fs) []) (ends_kept number k 0 (ends_at old k)) ∙ sym (stays old new s k (gone_alike k none) (removes.others k other none))

  gone_each : (s k : ℕ) → IsPermutation (left (entry old s k)) (entry new s k)
  gone_each s k = go (k == number) refl (tells k (before_at old number)) refl
    where
      go : (b : Bool) → (k == number) ≡ b → (d : Bool) → tells k (before_at old number) ≡ d → IsPermutation (left (entry old s k)) (entry new s k)
      go true is d told =
          subst (λ (n : ℕ). IsPermutation (left (entry old s n)) (entry new s n)) (sym (same_number k number is)) (permuted_from (ap left (gone_none s)) (permuted_to (IsPermutation-refl []) (sym (gone_here s))))
      go false differs true told = gone_from s k told
      go false differs false none = permuted_from (gone_other s k (other_number k number differs) none) (IsPermutation-refl (entry new s k))

  -- where the edge isn't filed all stays
  gone_still : (s : ℕ) → ((k : ℕ) → tells k (before_at old number) ≡ true → tells s (root_at old k) ≡ false) → (k : ℕ) → entry new s k ≡ entry old s k
  gone_still s out k = go (k == number) refl (tells k (before_at old number)) refl
    where
      go : (b : Bool) → (k == number) ≡ b → (d : Bool) → tells k (before_at old number) ≡ d → entry new s k ≡ entry old s k
      go true is d told = subst (λ (n : ℕ). entry new s n ≡ entry old s n) (sym (same_number k number is)) (gone_here s ∙ sym (gone_none s))
      go false differs true told =
          let none = out k told in
          no_root new s k (ap (λ o. tells s (option_and_then root_by o)) (gone_entered old new number removes k (other_number k number differs)) ∙ none) ∙ sym (no_root old s k none)
      go false differs false told = stays old new s k (gone_alike k told) (removes.others k (other_number k number differs) told)

  -- the edge leaves, where the state before is a root
  pub edge_leaves : (before stream : ℕ) (readers left : List Reader) → Some before ≡ before_at old number → Some stream ≡ root_at old before → Parts stream (leaving.Edge number) readers left → HaveTargets old readers → HaveTargets new left
  edge_leaves before stream readers left from root parts have =
      targets_leave old new readers left stream (leaving.Edge number) parts have (targets_left old new stream (leaving.Edge number) (gone_each stream)) (λ other differs. targets_alike old new other (gone_still other (out other differs)))
    where
      out : (other : ℕ) → (stream == other) ≡ false → (k : ℕ) → tells k (before_at old number) ≡ true → tells other (root_at old k) ≡ false
      out other differs k told = let e = same_number before k (ap (tells k) from ∙ told) in ap (λ n. tells other (root_at old n)) (sym e) ∙ ap (tells other) (sym root) ∙ differs

  -- and none, where it isn't
  pub no_edge_leaves : (before : ℕ) (readers : List Reader) → Some before ≡ before_at old number → None ≡ root_at old before → HaveTargets old readers → HaveTargets new readers
  no_edge_leaves before readers from root have = targets_stay old new readers readers (λ s. refl) have (λ s. targets_alike old new s (gone_still s (λ k told. let e = same_number before k (ap (tells k) from ∙ told) in ap (λ n. tells s (root_at old n)) (sym e) ∙ ap (tells s) (sym root))))

  -- nor to a root
  pub no_edge_there : (readers : List Reader) → None ≡ before_at old number → HaveTargets old readers → HaveTargets new readers
  no_edge_there readers from have = targets_stay old new readers readers (λ s. refl) have (λ s. targets_alike old new s (gone_still s (λ k told. absurd (let e : false ≡ true = ap (tells k) from ∙ told in cc))))

module _ (old new : Net) (number : ℕ) (removes : RemovesState number old new) where
  gone_waits : (s k : ℕ) → (k ≡ number → ⊥) → asked_at new s k ≡ asked_at old s k
  gone_waits s k other = waits_alike old new s k (gone_entered old new number removes k other)

  gone_asked : (s : ℕ) → asked_at new s number ≡ None
  gone_asked s = unused_asked new s number (ap is_some removes.here)

  gone_quiet : (s : ℕ) → asked_at old s number ≡ None → waits_given new s ≡ waits_given old s
  gone_quiet s none = waiting_alike old new s (λ k. go k (k == number) refl)
    where
      go : (k : ℕ) (b : Bool) → (k == number) ≡ b → asked_at new s k ≡ asked_at old s k
      go k true is = subst (λ (n : ℕ). asked_at new s n ≡ asked_at old s n) (sym (same_number k number is)) (gone_asked s ∙ sym none)
      go k false differs = gone_waits s k (other_number k number differs)

  gone_row : (s : ℕ) → without number (waits_given old s) ≡ waits_given new s
  gone_row s =
      row_left (asked_at old s) (asked_at new s) number (gone_waits s) (range_with_len 0 (length old)) (gone_asked s)
      ∙ ap (given_below (λ k. row_of k (asked_at new s k))) (sym removes.places)

  -- the state leaves, where it has no key to find it
  pub wait_dropped : (wait : Wait) (readers left : List Reader) → Some wait ≡ wait_at old number → PartsWait wait.stream number readers left → HaveWaits old readers → HaveWaits new left
  wait_dropped wait readers left is parts have =
      wait_leaves old new readers left wait.stream number parts have (gone_row wait.stream)
      (λ other differs. gone_quiet other (ap (asked other) (sym is) ∙ ap (λ b. cond (b && not (is_some (lead_key wait.choose))) (Some (parts_in (Some wait))) None) differs))

  -- and nothing, where it has one
  pub keyed_dropped : (wait : Wait) (readers : List Reader) → Some wait ≡ wait_at old number → is_some (lead_key wait.choose) ≡ true → HaveWaits old readers → HaveWaits new readers
  keyed_dropped wait readers is keyed have = waits_stay old new readers readers (λ s. refl) have (λ s. gone_quiet s (ap (asked s) (sym is) ∙ go s (wait.stream == s)))
    where
      go : (s : ℕ) (b : Bool) → cond (b && not (is_some (lead_key wait.choose))) (Some (parts_in (Some wait))) None ≡ None
      go s true = ap (λ b. cond (not b) (Some (parts_in (Some wait))) None) keyed
      go s false = refl

  -- or where it is no waiting state
  pub root_dropped : (readers : List Reader) → None ≡ wait_at old number → HaveWaits old readers → HaveWaits new readers
  root_dropped readers is have = waits_stay old new readers readers (λ s. refl) have (λ s. gone_quiet s (ap (asked s) (sym is) ∙ refl))

-- a state without a key is listed where it waits
pub plain_listed : (net : Net) (number : ℕ) (wait : Wait) (readers : List Reader) → is_used net number ≡ true → Some wait ≡ wait_at net number → lead_key wait.choose ≡ None → HaveWaits net readers → HasId number (reader_at readers wait.stream).waits
plain_listed net number wait readers used is plain have =
    has_from number (reader_at readers wait.stream).waits
    (ap (has_id number) (wait_given net readers have wait.stream)
    ∙ row_has (asked_at net wait.stream) number (parts_in (Some wait)) 0 (length net)
    (ap (asked wait.stream) (sym is) ∙ ap (λ b. cond (b && not (is_some (lead_key wait.choose))) (Some (parts_in (Some wait))) None) (self_equal wait.stream) ∙ ap (λ (o : Option Key). cond (not (is_some o)) (Some (parts_in (Some wait))) None) plain)
    (omega arith) (let within = used_within net number used in omega (arith, within)))

-- and a number that no state has isn't
pub unused_unlisted : (net : Net) (number stream : ℕ) (readers : List Reader) → is_used net number ≡ false → HaveWaits net readers → HasId number (reader_at readers stream).waits → ⊥
unused_unlisted net number stream readers unused have =
    has_not number (reader_at readers stream).waits (ap (has_id number) (wait_given net readers have stream) ∙ row_lacks (asked_at net stream) number (range_with_len 0 (length net)) (unused_asked net stream number unused))
