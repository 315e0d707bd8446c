-- Closing an epoch over the states of a network.
use Rattle.std.proofs.Common.{◌≡◌, ◌∙◌, sym, ap, refl, subst, ℕ, ◌≤◌, ◌==◌, Bool, true, false, length, List, [], ◌∷◌, ◌++◌, map}
use Rattle.std.specs.Prelude.{Contains, Option, Some, None, is_some}
use Rattle.std.specs.Option.{option_and_then, option_map, unwrap_or}
use Rattle.std.specs.List.{All, filter, flat_map, range_with_len}
use Rattle.std.specs.List.Sorted.{IsPermutation}
use Rattle.std.proofs.lemmas.List.Elements.{All-contains_itself, All-filter, All-nil, All-cons, All-head, All-tail, All-weaker}
use Rattle.std.proofs.lemmas.List.Folds.{flat_map-map}
use Rattle.std.proofs.lemmas.List.Sorted.{All-permutation, IsPermutation-sym, IsPermutation-trans, IsPermutation-map}
use Rattle.std.proofs.lemmas.Simd.{map-map}
use Rattle.event_types.specs.Tuple.{TupleView}
use Rattle.instances.specs.Births.{began_after}
use Rattle.instances.specs.Bounds.{alive_instances}
use Rattle.instances.specs.declared.instance.Instance.{Instance}
use Rattle.semantics.specs.Denotation.{Streams}
use Rattle.semantics.proofs.ListLemmas.{filter-map}
use Rattle.scalar_expr.proofs.Bags.{filter_permuted, flat_map_permuted, permuted_from, permuted_to}
use Rattle.automaton.specs.NetworkLines.{endings_by, ending_at}
use Rattle.automaton.specs.Networks.{IsAt}
use Rattle.automaton.specs.Prefixes.{Prefix, Root, After, extended, hops_of, root_of}
use Rattle.automaton.specs.States.{Net, ends_at, entrance_at, root_by, state_at}
use Rattle.automaton.specs.Work.{ReadsNone, is_in}
use Rattle.automaton.specs.declared.line.Hop.{Hop}
use Rattle.automaton.specs.declared.line.Line.{Line}
use Rattle.automaton.specs.declared.network.End.{End}
use Rattle.automaton.specs.declared.step.Stage.{Stage}
use Rattle.automaton.specs.declared.network.Entrance.{Entrance}
use Rattle.automaton.specs.declared.network.Entrance.TheVariants as entrance
use Rattle.automaton.specs.declared.network.State.{State}
use Rattle.semantics.specs.Births.{is_after}
use Rattle.epoch_laws.specs.Births.{passing_after}
use Rattle.epoch_laws.specs.BornLines.{BornLine, HasBornLines, IsReadAfter, born_by}
use Rattle.epoch_laws.specs.Closing.{Stores, leaving_state, leaving_by, given_by_end, given_by_ends, given_by_ends_at, stepped_by, stores_after}
use Rattle.epoch_laws.specs.Epochs.{stepped}
use Rattle.epoch_laws.specs.InstanceFlow.{waiting_instances}
use Rattle.epoch_laws.specs.Instances.{begins, instances_entering, pass_instance}
use Rattle.epoch_laws.specs.Lines.{flow_now, given_now}
use Rattle.epoch_laws.specs.Stores.{IsWithin, Purged}
use Rattle.epoch_laws.proofs.Bags.{filter_inside, filter_map_permuted, filter_map_within, flat_map_alike, permuted_is, within_through, within_to, within_whole}
use Rattle.epoch_laws.proofs.CutStores.{cut_holds, cut_passing, cut_stepped, cut_took, stepped_within, took_within}
use Rattle.epoch_laws.proofs.Lists.{All_last, every, filter-flat_map, flat_map-flat_map, map-flat_map, map_all}
use Rattle.epoch_laws.proofs.Purges.{holds_between, store_gives, store_keeps}
use Rattle.semantics.proofs.ReportLemmas.{flat_map_same}

-- the line of an end at a prefix begins with that prefix
extended_hops : (p : Prefix) (hops more : List Hop) → extended p (hops ++ more) ≡ extended (extended p hops) more
extended_hops p [] more = refl
extended_hops p (h ∷ hops) more = extended_hops (After p h) hops more

-- a prefix is its root with its hops
pub path_back : (p : Prefix) → extended (Root (root_of p)) (hops_of p) ≡ p
path_back (Root s) = refl
path_back (After p h) = extended_hops (Root (root_of p)) (hops_of p) (h ∷ []) ∙ ap (λ q. After q h) (path_back p)

-- the line from a prefix to an end
abbrev pub line_at : Prefix → End → Line
line_at p e = (ending_at p e).line

-- what holds of each item of a concatenation
module _ {Y : Type 0} (Q : Y → Type 0) where
  front : (ys zs : List Y) → All Q (ys ++ zs) → All Q ys
  front [] zs all = All-nil Q
  front (y ∷ ys) zs all = All-cons Q y ys (All-head Q y (ys ++ zs) all) (front ys zs (All-tail Q y (ys ++ zs) all))

  back : (ys zs : List Y) → All Q (ys ++ zs) → All Q zs
  back [] zs all = all
  back (y ∷ ys) zs all = back ys zs (All-tail Q y (ys ++ zs) all)

module _ {X Y : Type 0} (Q : Y → Type 0) where
  -- what holds of all items holds of those of each list
  pub flat_all : (f : X → List Y) (xs : List X) → All Q (flat_map f xs) → All (λ x. All Q (f x)) xs
  flat_all f [] all = All-nil (λ x. All Q (f x))
  flat_all f (x ∷ xs) all = All-cons (λ x. All Q (f x)) x xs (front Q (f x) (flat_map f xs) all) (flat_all f xs (back Q (f x) (flat_map f xs) all))

-- the same with the birth of the end
abbrev pub born_at : Prefix → End → BornLine
born_at p e = born_by (ending_at p e)

-- what holds of the lines of a network holds of the line of each end
module _ (net : Net) (lines : List BornLine) (has : HasBornLines net lines) where
  -- the prefix of each state
  abbrev pub places : ℕ → Prefix
  places = has.1.places

  -- the ends of a state on a stream
  abbrev pub ends_of : ℕ → ℕ → List End
  ends_of s n = filter (λ e. e.out == s) (ends_at net n)

  -- the numbers of the states
  abbrev pub numbers : List ℕ
  numbers = range_with_len 0 (length net)

  -- the lines of a stream, state by state
  abbrev pub by_state : ℕ → List BornLine
  by_state s = flat_map (λ n. map (born_at (places n)) (ends_of s n)) numbers

  by_state_is : (s : ℕ) → filter (λ (b : BornLine). b.line.out == s) (map born_by (endings_by places net)) ≡ by_state s
  by_state_is s =
      ap (filter (λ (b : BornLine). b.line.out == s)) (map-flat_map born_by (λ n. map (ending_at (places n)) (ends_at net n)) numbers)
      ∙ filter-flat_map (λ (b : BornLine). b.line.out == s) (λ n. map born_by (map (ending_at (places n)) (ends_at net n))) numbers
      ∙ flat_map_same (λ n. filter (λ (b : BornLine). b.line.out == s) (map born_by (map (ending_at (places n)) (ends_at net n)))) (λ n. map (born_at (places n)) (ends_of s n)) numbers
      (every (λ n. filter (λ (b : BornLine). b.line.out == s) (map born_by (map (ending_at (places n)) (ends_at net n))) ≡ map (born_at (places n)) (ends_of s n)) one numbers)
    where
      one : (n : ℕ) → filter (λ (b : BornLine). b.line.out == s) (map born_by (map (ending_at (places n)) (ends_at net n))) ≡ map (born_at (places n)) (ends_of s n)
      one n = ap (filter (λ (b : BornLine). b.line.out == s)) (map-map born_by (ending_at (places n)) (ends_at net n)) ∙ filter-map (λ (b : BornLine). b.line.out == s) (born_at (places n)) (ends_at net n)

  -- the lines of a stream are those of the ends at each state
  pub lines_by_state : (s : ℕ) → IsPermutation (filter (λ (b : BornLine). b.line.out == s) lines) (by_state s)
  lines_by_state s =
      permuted_from (ap (filter (λ (b : BornLine). b.line.out == s)) (sym has.2))
      (permuted_to (filter_permuted (λ (b : BornLine). b.line.out == s) _ _ (IsPermutation-map born_by _ _ (IsPermutation-sym _ _ has.1.same))) (by_state_is s))

  -- what holds of the lines of a stream holds of each end
  pub each_end : (Q : BornLine → Type 0) (s : ℕ) → All Q (filter (λ (b : BornLine). b.line.out == s) lines) → All (λ n. All (λ e. Q (born_at (places n) e)) (ends_of s n)) numbers
  each_end Q s all =
      All-weaker (λ n. All Q (map (born_at (places n)) (ends_of s n))) (λ n. All (λ e. Q (born_at (places n) e)) (ends_of s n)) (λ n h. map_all Q (born_at (places n)) (ends_of s n) h) numbers
      (flat_all Q (λ n. map (born_at (places n)) (ends_of s n)) numbers (All-permutation Q _ _ (lines_by_state s) all))

  -- what all lines of a stream give, end by end
  pub flat_ends : {Y : Type 0} (f : BornLine → List Y) (s : ℕ) → IsPermutation (flat_map f (filter (λ (b : BornLine). b.line.out == s) lines)) (flat_map (λ n. flat_map (λ e. f (born_at (places n) e)) (ends_of s n)) numbers)
  flat_ends f s =
      permuted_to (flat_map_permuted f _ _ (lines_by_state s))
      (flat_map-flat_map f (λ n. map (born_at (places n)) (ends_of s n)) numbers
      ∙ flat_map_same (λ n. flat_map f (map (born_at (places n)) (ends_of s n))) (λ n. flat_map (λ e. f (born_at (places n) e)) (ends_of s n)) numbers
      (every (λ n. flat_map f (map (born_at (places n)) (ends_of s n)) ≡ flat_map (λ e. f (born_at (places n) e)) (ends_of s n)) (λ n. flat_map-map f (born_at (places n)) (ends_of s n)) numbers))

-- what instances give through a step after a birth depends on those alone that began after it, in whatever order
pub passing_permuted : (step : List Stage) (birth : Option ℕ) (xs ys : List Instance) → IsPermutation (began_after birth xs) (began_after birth ys) → IsPermutation (passing_after step birth xs) (passing_after step birth ys)
passing_permuted step birth xs ys h =
    IsPermutation-map (λ (i : Instance). i.tuple) _ _
    (permuted_from (cut_passing birth step xs) (permuted_to (filter_map_permuted (pass_instance step) (began_after birth xs) (began_after birth ys) h) (sym (cut_passing birth step ys))))

-- a line that uses a longer prefix uses the shorter one
pub reads_before : (lines : List BornLine) (p : Prefix) (h : Hop) (birth : Option ℕ) → IsReadAfter lines (After p h) birth → IsReadAfter lines p birth
reads_before lines p h birth used = (used.0, h ∷ used.1, used.2, used.3, used.4)

-- what leaves one state
pub root_leaves : (o : Option Entrance) (s : ℕ) (news : Streams) (store : List Instance) → option_and_then root_by o ≡ Some s → leaving_by o news store ≡ map begins (news s)
root_leaves None s news store e = absurd (cc)
root_leaves (Some (entrance.Root t)) s news store e = let same : t ≡ s = cc in ap (λ r. map begins (news r)) same
root_leaves (Some (entrance.Waiting before hop)) s news store e = absurd (cc)

-- where there is no state, there are no ends
pub no_ends : (o : Option State) → is_some o ≡ false → unwrap_or (option_map (λ state. state.ends) o) [] ≡ []
no_ends None e = refl
no_ends (Some state) e = absurd (cc)

module _ (net : Net) (lines : List BornLine) (now : ℕ) (stores : Stores) (news exact earlier : Streams)
    (late : (s : ℕ) → All (λ r. now ≤ r.at) (exact s))
    (holds : (number : ℕ) (p : Prefix) (h : Hop) → IsAt net number (After p h) → Purged now (IsReadAfter lines (After p h)) h.wait.choose (waiting_instances earlier p h) (stores number)) where
  -- the stream of a root, or the one on which the last hop waits
  abbrev pub Knows : Prefix → Type 0
  Knows (Root s) = IsPermutation (news s) (exact s)
  Knows (After p h) = IsPermutation (news h.wait.stream) (exact h.wait.stream)

  -- what leaves a root
  leaves_root : (number s : ℕ) → IsAt net number (Root s) → Knows (Root s) → IsPermutation (leaving_state net news stores number) (flow_now exact earlier (Root s))
  leaves_root number s at known = permuted_from (root_leaves (entrance_at net number) s news (stores number) at) (IsPermutation-map begins (news s) (exact s) known)

  -- what leaves a state is within what comes through its prefix
  pub leaves_within : (number : ℕ) (p : Prefix) → IsAt net number p → Knows p → IsWithin (leaving_state net news stores number) (flow_now exact earlier p)
  leaves_within number (Root s) at known = within_whole _ _ (leaves_root number s at known)
  leaves_within number (After p h) at known =
      subst (λ xs. IsWithin xs (flow_now exact earlier (After p h))) (sym (ap (λ o. leaving_by o news (stores number)) at.1))
      (took_within h.wait.choose h.wait.fold (exact h.wait.stream) (news h.wait.stream) known (stores number) (waiting_instances earlier p h) (holds number p h at).at_most)

  -- and what of it began after the birth of a line that uses the state is all of that which did
  pub leaves_later : (number : ℕ) (p : Prefix) → IsAt net number p → Knows p → (birth : Option ℕ) → IsReadAfter lines p birth
      → IsPermutation (began_after birth (leaving_state net news stores number)) (began_after birth (flow_now exact earlier p))
  leaves_later number (Root s) at known birth used = filter_permuted (λ (i : Instance). is_after birth i.first) _ _ (leaves_root number s at known)
  leaves_later number (After p h) at known birth used =
      permuted_from (ap (λ o. began_after birth (leaving_by o news (stores number))) at.1 ∙ cut_took birth h.wait.choose h.wait.fold (news h.wait.stream) (stores number))
      (permuted_to
      (store_gives now h.wait.choose h.wait.fold (exact h.wait.stream) (news h.wait.stream) (began_after birth (stores number)) (began_after birth (waiting_instances earlier p h)) (late h.wait.stream) known
      (cut_holds birth now (IsReadAfter lines (After p h)) h.wait.choose (waiting_instances earlier p h) (stores number) (holds number p h at) used))
      (sym (cut_took birth h.wait.choose h.wait.fold (exact h.wait.stream) (waiting_instances earlier p h))))

  -- a line that reads none of some streams, where all others are known
  knows_of : (order : List ℕ) → ((t : ℕ) → is_in order t ≡ false → IsPermutation (news t) (exact t)) → (p : Prefix) (e : End) → ReadsNone order (line_at p e) → Knows p
  knows_of order known (Root s) e reads = known s reads.root
  knows_of order known (After p h) e reads = known h.wait.stream (All_last (λ h. is_in order h.wait.stream ≡ false) (hops_of p) h reads.hops)

  -- what the ends of a stream give
  pub published_alike : (has : HasBornLines net lines) (s : ℕ) (order : List ℕ) → All (λ (b : BornLine). ReadsNone order b.line) (filter (λ (b : BornLine). b.line.out == s) lines)
      → ((t : ℕ) → is_in order t ≡ false → IsPermutation (news t) (exact t))
      → IsPermutation (given_by_ends net news stores s) (flat_map (given_now exact earlier) (filter (λ (b : BornLine). b.line.out == s) lines))
  published_alike has s order reads known =
      IsPermutation-trans _ _ _
      (flat_map_alike (given_by_ends_at net news stores s) (λ n. flat_map (λ e. f (born_at (places net lines has n) e)) (ends_of net lines has s n)) (numbers net lines has)
      (All-weaker (λ n. All (λ e. Reads (born_at (places net lines has n) e)) (ends_of net lines has s n)) (λ n. IsPermutation (given_by_ends_at net news stores s n) (flat_map (λ e. f (born_at (places net lines has n) e)) (ends_of net lines has s n)))
      (λ n all. at_state n all (is_some (state_at net n)) refl) (numbers net lines has) (each_end net lines has Reads s reads_there)))
      (IsPermutation-sym _ _ (flat_ends net lines has f s))
    where
      f : BornLine → List TupleView
      f b = given_now exact earlier b

      -- it is one of the lines, and reads none of these
      Reads : BornLine → Type 0
      Reads b = ReadsNone order b.line × Contains lines b

      reads_there : All Reads (filter (λ (b : BornLine). b.line.out == s) lines)
      reads_there i d lt = (reads i d lt, All-filter (λ (b : BornLine). b.line.out == s) (Contains lines) lines (All-contains_itself lines) i d lt)

      given : ℕ → End → List TupleView
      given n e = given_by_end (leaving_state net news stores n) e

      at_state : (n : ℕ) → All (λ e. Reads (born_at (places net lines has n) e)) (ends_of net lines has s n) → (used : Bool) → is_some (state_at net n) ≡ used
          → IsPermutation (given_by_ends_at net news stores s n) (flat_map (λ e. f (born_at (places net lines has n) e)) (ends_of net lines has s n))
      at_state n all true is =
          flat_map_alike (given n) (λ e. f (born_at (places net lines has n) e)) (ends_of net lines has s n)
          (All-weaker (λ e. Reads (born_at (places net lines has n) e)) (λ e. IsPermutation (given n e) (f (born_at (places net lines has n) e))) one (ends_of net lines has s n) all)
        where
          one : (e : End) → Reads (born_at (places net lines has n) e) → IsPermutation (given n e) (f (born_at (places net lines has n) e))
          one e reads =
              let p = places net lines has n in
              passing_permuted e.step e.birth _ _
              (permuted_to (leaves_later n p (has.1.are_places n is) (knows_of order known p e reads.0) e.birth (born_at p e, [], reads.1, path_back p, refl))
              (ap (λ q. began_after e.birth (flow_now exact earlier q)) (sym (path_back p))))
      at_state n all false is =
          permuted_is (ap (λ es. flat_map (given n) (filter (λ e. e.out == s) es)) (no_ends (state_at net n) is)
          ∙ sym (ap (λ es. flat_map (λ e. f (born_at (places net lines has n) e)) (filter (λ e. e.out == s) es)) (no_ends (state_at net n) is)))

  -- the store of a waiting state after the epoch
  pub stores_keep : (later : ℕ) → now ≤ later → ((s : ℕ) → IsPermutation (news s) (exact s)) → (number : ℕ) (p : Prefix) (h : Hop) → IsAt net number (After p h)
      → (after : List Instance) → IsPermutation after (stepped h.wait.choose h.wait.fold (exact h.wait.stream) (instances_entering h (flow_now exact earlier p)) (waiting_instances earlier p h))
      → Purged later (IsReadAfter lines (After p h)) h.wait.choose after (stores_after net news stores number)
  stores_keep later le known number p h at after is =
      subst (Purged later (IsReadAfter lines (After p h)) h.wait.choose after) (sym (ap (λ o. stepped_by o news (leaving_state net news stores) (stores number)) at.1))
      (record { at_least = least; at_most = within_to _ _ _ most (IsPermutation-sym _ _ is) })
    where
      all_known : (p : Prefix) → Knows p
      all_known (Root s) = known s
      all_known (After q k) = known k.wait.stream

      new : List TupleView
      new = news h.wait.stream

      waits : List Instance
      waits = waiting_instances earlier p h

      comes : List Instance
      comes = leaving_state net news stores at.0

      most : IsWithin (stepped h.wait.choose h.wait.fold new (instances_entering h comes) (stores number)) (stepped h.wait.choose h.wait.fold (exact h.wait.stream) (instances_entering h (flow_now exact earlier p)) waits)
      most =
          stepped_within h.wait.choose h.wait.fold (exact h.wait.stream) new (known h.wait.stream) (instances_entering h comes) (instances_entering h (flow_now exact earlier p)) (stores number) waits
          (filter_map_within (pass_instance h.step) comes (flow_now exact earlier p) (leaves_within at.0 p at.2 (all_known p))) (holds number p h at).at_most

      least : (birth : Option ℕ) → IsReadAfter lines (After p h) birth
          → IsWithin (alive_instances later h.wait.choose (began_after birth after)) (stepped h.wait.choose h.wait.fold new (instances_entering h comes) (stores number))
      least birth used =
          within_through _ _ _
          (subst (IsWithin (alive_instances later h.wait.choose (began_after birth after))) (sym (cut_stepped birth h.wait.choose h.wait.fold new (instances_entering h comes) (stores number)))
          (holds_between later h.wait.choose (stepped h.wait.choose h.wait.fold new (began_after birth (instances_entering h comes)) (began_after birth (stores number))) (began_after birth after)
          (store_keeps now h.wait.choose h.wait.fold later (exact h.wait.stream) new (began_after birth (instances_entering h (flow_now exact earlier p))) (began_after birth (instances_entering h comes)) (began_after birth (stores number)) (began_after birth waits)
          (began_after birth after) le (late h.wait.stream) (known h.wait.stream) entered
          (cut_holds birth now (IsReadAfter lines (After p h)) h.wait.choose waits (stores number) (holds number p h at) used)
          (permuted_to (filter_permuted (λ (i : Instance). is_after birth i.first) _ _ is) (cut_stepped birth h.wait.choose h.wait.fold (exact h.wait.stream) (instances_entering h (flow_now exact earlier p)) waits)))))
          (filter_inside (λ (i : Instance). is_after birth i.first) (stepped h.wait.choose h.wait.fold new (instances_entering h comes) (stores number)))
        where
          entered : IsPermutation (began_after birth (instances_entering h comes)) (began_after birth (instances_entering h (flow_now exact earlier p)))
          entered =
              permuted_from (cut_passing birth h.step comes)
              (permuted_to (filter_map_permuted (pass_instance h.step) _ _ (leaves_later at.0 p at.2 (all_known p) birth (reads_before lines p h birth used))) (sym (cut_passing birth h.step (flow_now exact earlier p))))
