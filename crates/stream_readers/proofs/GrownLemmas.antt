-- Readers of a network that a state or an end comes to.
use Rattle.std.proofs.Common.{◌≡◌, ◌∙◌, sym, ap, refl, subst, ℕ, ◌==◌, ◌&&◌, not, Bool, true, false, cond, length, List, [], ◌∷◌, ◌++◌, map, append_assoc}
use Rattle.std.specs.Prelude.{Option, Some, None, is_some}
use Rattle.std.specs.Option.{option_and_then, option_map, unwrap_or}
use Rattle.std.specs.List.{flat_map}
use Rattle.std.specs.List.Sorted.{IsPermutation}
use Rattle.std.proofs.lemmas.List.{map-append}
use Rattle.std.proofs.lemmas.List.Sorted.{IsPermutation-append_comm, IsPermutation-append_left, IsPermutation-append_right, IsPermutation-sym, IsPermutation-trans}
use Rattle.event_types.proofs.NumberLemmas.{is_other, other_number, same_number, self_equal}
use Rattle.scalar_expr.proofs.Bags.{flat_map_permuted, permuted_from, permuted_to}
use Rattle.automaton.specs.Changes.{AddsHop, AddsRoot, with_edge}
use Rattle.automaton.specs.Networks.{IsNetwork}
use Rattle.automaton.specs.States.{Net, edges_at, edges_in, entrance_at, entrance_in, is_used, root_at, root_by, root_in, state_at, step_by, tells, wait_by}
use Rattle.automaton.specs.declared.line.Hop.{Hop}
use Rattle.automaton.specs.declared.network.State.{State}
use Rattle.instances.specs.Keys.{Key}
use Rattle.static_index.specs.Conditions.{Condition, with_condition, without}
use Rattle.static_index.specs.FixedParts.{fixed_parts}
use Rattle.static_index.specs.declared.fixed_part.FixedPart.{FixedPart}
use Rattle.stream_readers.specs.Changing.{Files, FilesWait, HaveTargets, HaveWaits, KeepTargets, KeepWaits, Parts, PartsWait}
use Rattle.stream_readers.specs.Filing.{Filed}
use Rattle.stream_readers.specs.Leading.{lead_key}
use Rattle.stream_readers.specs.Leaving.{left_by}
use Rattle.stream_readers.specs.Readers.{AreReadersOf, reader_at}
use Rattle.stream_readers.specs.Ways.{first_parts}
use Rattle.stream_readers.specs.declared.reader.Reader.{Reader}
use Rattle.stream_readers.specs.declared.leaving.Gone.{Gone}
use Rattle.stream_readers.specs.declared.target.Target.TheVariants.{Edge}
use Rattle.stream_readers.proofs.ChangeLemmas.{given_alike, given_at, row_given, row_of}
use Rattle.stream_readers.proofs.EntryLemmas.{asked, asked_at, edge_filed, edges_alike, ends_filed, entry, entry_of, no_root, past_unused, stays, targets_each, targets_given, unused_asked, unused_entry, unused_slot, used_within, waits_alike, waits_each, waits_given}

-- readers have what is filed of each state
pub have_given : (net : Net) (readers : List Reader) → HaveTargets net readers → (stream : ℕ) → IsPermutation (reader_at readers stream).targets (targets_given net stream)
have_given net readers have stream = permuted_to (have stream) (targets_each net stream (length net))

pub given_have : (net : Net) (readers : List Reader) → ((stream : ℕ) → IsPermutation (reader_at readers stream).targets (targets_given net stream)) → HaveTargets net readers
given_have net readers given stream = permuted_to (given stream) (sym (targets_each net stream (length net)))

pub wait_given : (net : Net) (readers : List Reader) → HaveWaits net readers → (stream : ℕ) → (reader_at readers stream).waits ≡ waits_given net stream
wait_given net readers have stream = have stream ∙ waits_each net stream (length net)

pub given_wait : (net : Net) (readers : List Reader) → ((stream : ℕ) → (reader_at readers stream).waits ≡ waits_given net stream) → HaveWaits net readers
given_wait net readers given stream = given stream ∙ sym (waits_each net stream (length net))

module _ (old new : Net) where
  -- what is filed of each state alike
  pub targets_alike : (stream : ℕ) → ((k : ℕ) → entry new stream k ≡ entry old stream k) → targets_given new stream ≡ targets_given old stream
  targets_alike stream same =
      given_alike (entry old stream) (entry new stream) (length old) (length new) same (λ k le. unused_entry old stream k (past_unused old k le)) (λ k le. unused_entry new stream k (past_unused new k le))

  pub waiting_alike : (stream : ℕ) → ((k : ℕ) → asked_at new stream k ≡ asked_at old stream k) → waits_given new stream ≡ waits_given old stream
  waiting_alike stream same =
      given_alike (λ k. row_of k (asked_at old stream k)) (λ k. row_of k (asked_at new stream k)) (length old) (length new) (λ k. ap (row_of k) (same k))
      (λ k le. ap (row_of k) (unused_asked old stream k (past_unused old k le))) (λ k le. ap (row_of k) (unused_asked new stream k (past_unused new k le)))

  -- what one state has more
  pub targets_at_one : (stream number : ℕ) (xs : List Filed) → IsPermutation (entry new stream number) (entry old stream number ++ xs) → ((k : ℕ) → (k ≡ number → ⊥) → entry new stream k ≡ entry old stream k) → is_used new number ≡ true
      → IsPermutation (targets_given new stream) (targets_given old stream ++ xs)
  targets_at_one stream number xs here same used =
      given_at (entry old stream) (entry new stream) number xs (length old) (length new) here same (used_within new number used) (λ k le. unused_entry old stream k (past_unused old k le)) (λ k le. unused_entry new stream k (past_unused new k le))

  pub wait_at_one : (stream number : ℕ) (parts : List FixedPart) → asked_at old stream number ≡ None → asked_at new stream number ≡ Some parts → ((k : ℕ) → (k ≡ number → ⊥) → asked_at new stream k ≡ asked_at old stream k) → is_used new number ≡ true
      → with_condition (record { id = number; parts = parts }) (waits_given old stream) ≡ waits_given new stream
  wait_at_one stream number parts was is same used =
      row_given (asked_at old stream) (asked_at new stream) number same parts (length old) (length new) was is (used_within new number used) (λ k le. unused_asked old stream k (past_unused old k le)) (λ k le. unused_asked new stream k (past_unused new k le))

  module _ (before after : List Reader) where
    -- readers whose targets stay
    pub targets_stay : KeepTargets before after → HaveTargets old before → ((stream : ℕ) → targets_given new stream ≡ targets_given old stream) → HaveTargets new after
    targets_stay kept have same = given_have new after (λ stream. permuted_from (kept stream) (permuted_to (have_given old before have stream) (sym (same stream))))

    pub waits_stay : KeepWaits before after → HaveWaits old before → ((stream : ℕ) → waits_given new stream ≡ waits_given old stream) → HaveWaits new after
    waits_stay kept have same = given_wait new after (λ stream. kept stream ∙ wait_given old before have stream ∙ sym (same stream))

    -- targets that come to one stream
    pub targets_come : (stream : ℕ) (xs : List Filed) → Files stream xs before after → HaveTargets old before → IsPermutation (targets_given new stream) (targets_given old stream ++ xs)
        → ((other : ℕ) → (stream == other) ≡ false → targets_given new other ≡ targets_given old other) → HaveTargets new after
    targets_come stream xs files have here others = given_have new after (λ other. go other (other == stream) refl)
      where
        go : (other : ℕ) (b : Bool) → (other == stream) ≡ b → IsPermutation (reader_at after other).targets (targets_given new other)
        go other true is =
            subst (λ (s : ℕ). IsPermutation (reader_at after s).targets (targets_given new s)) (sym (same_number other stream is))
            (IsPermutation-trans _ _ _ files.here (IsPermutation-trans _ _ _ (IsPermutation-append_left xs _ _ (have_given old before have stream)) (IsPermutation-sym _ _ here)))
        go other false differs =
            let apart = other_number other stream differs in
            permuted_from (files.others other apart) (permuted_to (have_given old before have other) (sym (others other (is_other stream other (λ e. apart (sym e))))))

    -- a target that leaves one stream
    pub targets_leave : (stream : ℕ) (gone : Gone) → Parts stream gone before after → HaveTargets old before → IsPermutation (flat_map (left_by gone) (targets_given old stream)) (targets_given new stream)
        → ((other : ℕ) → (stream == other) ≡ false → targets_given new other ≡ targets_given old other) → HaveTargets new after
    targets_leave stream gone parts have here others = given_have new after (λ other. go other (other == stream) refl)
      where
        go : (other : ℕ) (b : Bool) → (other == stream) ≡ b → IsPermutation (reader_at after other).targets (targets_given new other)
        go other true is =
            subst (λ (s : ℕ). IsPermutation (reader_at after s).targets (targets_given new s)) (sym (same_number other stream is))
            (permuted_from parts.here (IsPermutation-trans _ _ _ (flat_map_permuted (left_by gone) _ _ (have_given old before have stream)) here))
        go other false differs =
            let apart = other_number other stream differs in
            permuted_from (parts.others other apart) (permuted_to (have_given old before have other) (sym (others other (is_other stream other (λ e. apart (sym e))))))

    -- a waiting state that comes to one stream
    pub wait_comes : (stream : ℕ) (condition : Condition) → FilesWait stream condition before after → HaveWaits old before → with_condition condition (waits_given old stream) ≡ waits_given new stream
        → ((other : ℕ) → (stream == other) ≡ false → waits_given new other ≡ waits_given old other) → HaveWaits new after
    wait_comes stream condition files have here others = given_wait new after (λ other. go other (other == stream) refl)
      where
        go : (other : ℕ) (b : Bool) → (other == stream) ≡ b → (reader_at after other).waits ≡ waits_given new other
        go other true is =
            subst (λ (s : ℕ). (reader_at after s).waits ≡ waits_given new s) (sym (same_number other stream is)) (files.here ∙ ap (with_condition condition) (wait_given old before have stream) ∙ here)
        go other false differs =
            let apart = other_number other stream differs in files.others other apart ∙ wait_given old before have other ∙ sym (others other (is_other stream other (λ e. apart (sym e))))

    -- a waiting state that leaves one stream
    pub wait_leaves : (stream number : ℕ) → PartsWait stream number before after → HaveWaits old before → without number (waits_given old stream) ≡ waits_given new stream
        → ((other : ℕ) → (stream == other) ≡ false → waits_given new other ≡ waits_given old other) → HaveWaits new after
    wait_leaves stream number parts have here others = given_wait new after (λ other. go other (other == stream) refl)
      where
        go : (other : ℕ) (b : Bool) → (other == stream) ≡ b → (reader_at after other).waits ≡ waits_given new other
        go other true is =
            subst (λ (s : ℕ). (reader_at after s).waits ≡ waits_given new s) (sym (same_number other stream is)) (parts.here ∙ ap (without number) (wait_given old before have stream) ∙ here)
        go other false differs =
            let apart = other_number other stream differs in parts.others other apart ∙ wait_given old before have other ∙ sym (others other (is_other stream other (λ e. apart (sym e))))

-- what isn't used and what is are two
unused_apart : (net : Net) (m n : ℕ) → is_used net n ≡ false → is_used net m ≡ true → m ≡ n → ⊥
unused_apart net m n unused used e = absurd (let f : false ≡ true = sym unused ∙ ap (is_used net) (sym e) ∙ used in cc)

module _ (old new : Net) (number stream : ℕ) (unused : is_used old number ≡ false) (adds : AddsRoot number stream old new) where
  root_entered : (m : ℕ) → (m ≡ number → ⊥) → entrance_at new m ≡ entrance_at old m
  root_entered m other = ap entrance_in (adds.others m other)

  -- no step leads into a root, nor to a number that no state has
  root_edge : (m : ℕ) → edge_filed new m ≡ edge_filed old m
  root_edge m = go (m == number) refl
    where
      filed : Option State → Filed
      filed slot = record { target = Edge m; parts = first_parts (unwrap_or (option_map step_by (entrance_in slot)) []) }

      go : (b : Bool) → (m == number) ≡ b → filed (state_at new m) ≡ filed (state_at old m)
      go true is = let e = same_number m number is in ap filed (ap (state_at new) e ∙ adds.here) ∙ sym (ap filed (unused_slot (state_at old m) (ap (is_used old) e ∙ unused)))
      go false differs = ap filed (adds.others m (other_number m number differs))

  root_edges : (edges : List ℕ) → map (edge_filed new) edges ≡ map (edge_filed old) edges
  root_edges [] = refl
  root_edges (edge ∷ edges) = ap (λ f. f ∷ map (edge_filed new) edges) (root_edge edge) ∙ ap (λ fs. edge_filed old edge ∷ fs) (root_edges edges)

  root_entries : (s k : ℕ) → entry new s k ≡ entry old s k
  root_entries s k = go (k == number) refl
    where
      none : List Filed
      none = []

      empty : (b : Bool) → cond b (none ++ none) none ≡ none
      empty true = refl
      empty false = refl

      go : (b : Bool) → (k == number) ≡ b → entry new s k ≡ entry old s k
      go true is =
          let e = same_number k number is in
          ap (entry_of (edge_filed new) s k) (ap (state_at new) e ∙ adds.here) ∙ empty (stream == s) ∙ sym (unused_entry old s k (ap (is_used old) e ∙ unused))
      go false differs = stays old new s k (root_edges (edges_at old k)) (adds.others k (other_number k number differs))

  root_asked : (s k : ℕ) → asked_at new s k ≡ asked_at old s k
  root_asked s k = go (k == number) refl
    where
      go : (b : Bool) → (k == number) ≡ b → asked_at new s k ≡ asked_at old s k
      go true is =
          let e = same_number k number is in
          ap (λ (slot : Option State). asked s (option_and_then wait_by (entrance_in slot))) (ap (state_at new) e ∙ adds.here) ∙ sym (unused_asked old s k (ap (is_used old) e ∙ unused))
      go false differs = waits_alike old new s k (root_entered k (other_number k number differs))

  -- nothing is filed of a root that comes
  pub root_comes : (readers : List Reader) → AreReadersOf old readers → AreReadersOf new readers
  root_comes readers are = λ s. record {
    targets = targets_stay old new readers readers (λ s. refl) (λ s. (are s).targets) (λ s. targets_alike old new s (root_entries s)) s;
    waits = waits_stay old new readers readers (λ s. refl) (λ s. (are s).waits) (λ s. waiting_alike old new s (root_asked s)) s;
  }

module _ (old new : Net) (network : IsNetwork old) where
  module _ (number before : ℕ) (hop : Hop) (unused : is_used old number ≡ false) (known : is_used old before ≡ true) (adds : AddsHop number before hop old new) where
    hop_entered : (m : ℕ) → (m ≡ number → ⊥) → entrance_at new m ≡ entrance_at old m
    hop_entered m other = go (m == before) refl
      where
        kept : (o : Option State) → entrance_in (with_edge number o) ≡ entrance_in o
        kept None = refl
        kept (Some state) = refl

        go : (b : Bool) → (m == before) ≡ b → entrance_at new m ≡ entrance_at old m
        go true is = let e = same_number m before is in ap (entrance_at new) e ∙ ap entrance_in adds.edge ∙ kept (state_at old before) ∙ ap (entrance_at old) (sym e)
        go false differs = ap entrance_in (adds.others m other (other_number m before differs))

    hop_edges : (k : ℕ) → map (edge_filed new) (edges_at old k) ≡ map (edge_filed old) (edges_at old k)
    hop_edges k = edges_alike old new network (λ m used. hop_entered m (unused_apart old m number unused used)) k

    -- of the new state nothing is filed
    hop_none : (s : ℕ) → entry new s number ≡ entry old s number
    hop_none s = ap (entry_of (edge_filed new) s number) adds.here ∙ sym (unused_entry old s number unused)

    hop_others : (s k : ℕ) → (k ≡ before → ⊥) → entry new s k ≡ entry old s k
    hop_others s k other = go (k == number) refl
      where
        go : (b : Bool) → (k == number) ≡ b → entry new s k ≡ entry old s k
        go true is = subst (λ (n : ℕ). entry new s n ≡ entry old s n) (sym (same_number k number is)) (hop_none s)
        go false differs = stays old new s k (hop_edges k) (adds.others k (other_number k number differs) other)

    hop_here : (s : ℕ) → tells s (root_at old before) ≡ true → IsPermutation (entry new s before) (entry old s before ++ edge_filed new number ∷ [])
    hop_here s told = permuted_from (ap (entry_of (edge_filed new) s before) adds.edge) (go (state_at old before) told (hop_edges before))
      where
        x : List Filed
        x = edge_filed new number ∷ []

        go : (o : Option State) → tells s (root_in o) ≡ true → map (edge_filed new) (edges_in o) ≡ map (edge_filed old) (edges_in o) → IsPermutation (entry_of (edge_filed new) s before (with_edge number o)) (entry_of (edge_filed old) s before o ++ x)
        go None told edges = absurd (cc)
        go (Some state) told edges =
            let ends = ends_filed before 0 state.ends in
            let own = map (edge_filed old) state.edges in
            permuted_from
            (ap (λ b. cond b (map (edge_filed new) (state.edges ++ number ∷ []) ++ ends) []) told
            ∙ ap (λ fs. fs ++ ends) (map-append (edge_filed new) state.edges (number ∷ []) ∙ ap (λ fs. fs ++ x) edges) ∙ append_assoc own x ends)
            (permuted_to (IsPermutation-append_right own (x ++ ends) (ends ++ x) (IsPermutation-append_comm x ends)) (sym (append_assoc own ends x) ∙ ap (λ b. cond b (own ++ ends) [] ++ x) (sym told)))

    hop_same : (s : ℕ) → tells s (root_at old before) ≡ false → entry new s before ≡ entry old s before
    hop_same s none = no_root new s before (ap (λ e. tells s (option_and_then root_by e)) (hop_entered before (λ e. unused_apart old before number unused known e)) ∙ none) ∙ sym (no_root old s before none)

    hop_before : is_used new before ≡ true
    hop_before = ap is_some adds.edge ∙ go (state_at old before) known
      where
        go : (o : Option State) → is_some o ≡ true → is_some (with_edge number o) ≡ true
        go None some = some
        go (Some state) some = refl

    hop_still : (s : ℕ) → tells s (root_at old before) ≡ false → targets_given new s ≡ targets_given old s
    hop_still s none = targets_alike old new s (λ k. go k (k == before) refl)
      where
        go : (k : ℕ) (b : Bool) → (k == before) ≡ b → entry new s k ≡ entry old s k
        go k true is = subst (λ (n : ℕ). entry new s n ≡ entry old s n) (sym (same_number k before is)) (hop_same s none)
        go k false differs = hop_others s k (other_number k before differs)

    -- the edge comes, where the state before is a root
    pub edge_comes : (stream : ℕ) (readers filed : List Reader) → Some stream ≡ root_at old before → Files stream (record { target = Edge number; parts = first_parts hop.step } ∷ []) readers filed → HaveTargets old readers → HaveTargets new filed
    edge_comes stream readers filed root files have =
        targets_come old new readers filed stream (record { target = Edge number; parts = first_parts hop.step } ∷ []) files have
        (permuted_to (targets_at_one old new stream before (edge_filed new number ∷ []) (hop_here stream (ap (tells stream) (sym root) ∙ self_equal stream)) (hop_others stream) hop_before)
        (ap (λ (slot : Option State). targets_given old stream ++ record { target = Edge number; parts = first_parts (unwrap_or (option_map step_by (entrance_in slot)) []) } ∷ []) adds.here))
        (λ other differs. hop_still other (ap (tells other) (sym root) ∙ differs))

    -- and nothing, where it isn't
    pub no_edge_comes : (readers : List Reader) → None ≡ root_at old before → HaveTargets old readers → HaveTargets new readers
    no_edge_comes readers root have = targets_stay old new readers readers (λ s. refl) have (λ s. hop_still s (ap (tells s) (sym root)))

    hop_waits : (s k : ℕ) → (k ≡ number → ⊥) → asked_at new s k ≡ asked_at old s k
    hop_waits s k other = waits_alike old new s k (hop_entered k other)

    hop_asked : (s : ℕ) → asked_at new s number ≡ asked s (Some hop.wait)
    hop_asked s = ap (λ (slot : Option State). asked s (option_and_then wait_by (entrance_in slot))) adds.here

    hop_quiet : (s : ℕ) → asked s (Some hop.wait) ≡ None → waits_given new s ≡ waits_given old s
    hop_quiet s none = waiting_alike old new s (λ k. go k (k == number) refl)
      where
        go : (k : ℕ) (b : Bool) → (k == number) ≡ b → asked_at new s k ≡ asked_at old s k
        go k true is = subst (λ (n : ℕ). asked_at new s n ≡ asked_at old s n) (sym (same_number k number is)) (hop_asked s ∙ none ∙ sym (unused_asked old s number unused))
        go k false differs = hop_waits s k (other_number k number differs)

    -- the state comes, where it has no key to find it
    pub wait_filed : (readers filed : List Reader) → lead_key hop.wait.choose ≡ None → FilesWait hop.wait.stream (record { id = number; parts = fixed_parts hop.wait.choose }) readers filed → HaveWaits old readers → HaveWaits new filed
    wait_filed readers filed plain files have =
        let s = hop.wait.stream in
        wait_comes old new readers filed s (record { id = number; parts = fixed_parts hop.wait.choose }) files have
        (wait_at_one old new s number (fixed_parts hop.wait.choose) (unused_asked old s number unused) (hop_asked s ∙ ap (λ b. cond (b && not (is_some (lead_key hop.wait.choose))) (Some (fixed_parts hop.wait.choose)) None) (self_equal s) ∙ ap (λ (o : Option Key). cond (not (is_some o)) (Some (fixed_parts hop.wait.choose)) None) plain)
        (hop_waits s) (ap is_some adds.here))
        (λ other differs. hop_quiet other (ap (λ b. cond (b && not (is_some (lead_key hop.wait.choose))) (Some (fixed_parts hop.wait.choose)) None) differs))

    -- and nothing, where it has one
    pub no_wait_filed : (readers : List Reader) → is_some (lead_key hop.wait.choose) ≡ true → HaveWaits old readers → HaveWaits new readers
    no_wait_filed readers keyed have = waits_stay old new readers readers (λ s. refl) have (λ s. hop_quiet s (go s (hop.wait.stream == s)))
      where
        go : (s : ℕ) (b : Bool) → cond (b && not (is_some (lead_key hop.wait.choose))) (Some (fixed_parts hop.wait.choose)) None ≡ None
        go s true = ap (λ b. cond (not b) (Some (fixed_parts hop.wait.choose)) None) keyed
        go s false = refl
