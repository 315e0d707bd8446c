-- Derived streams that are put in order once all are made.
use Rattle.std.proofs.Common.{◌≡◌, ◌∙◌, sym, ap, refl, subst, inl, inr, ℕ, ◌+◌, ◌<◌, ◌⊎◌, Bool, true, false, cond, length, get_or, set, take, List, [], ◌++◌, arith}
use Rattle.std.specs.Prelude.{Contains, Option, Some, option_to_list, slice_get}
use Rattle.std.specs.Option.{option_map}
use Rattle.std.specs.List.Sorted.{IsPermutation}
use Rattle.std.proofs.lemmas.Grind.{get_or-set_at}
use Rattle.std.proofs.lemmas.List.{get_or-set_other, length-set}
use Rattle.std.proofs.lemmas.List.Elements.{All-contains, All-weaker}
use Rattle.std.proofs.lemmas.List.Sorted.{All-permutation, IsPermutation-refl, IsPermutation-sym, IsPermutation-trans, length_permutation}
use Rattle.event_types.specs.Order.{sorted}
use Rattle.event_types.specs.Tuple.{TupleView}
use Rattle.binding_index.specs.declared.store.Store.{Store}
use Rattle.instances.specs.declared.instance.Instance.{Instance}
use Rattle.semantics.specs.Denotation.{Streams}
use Rattle.semantics.specs.Kinds.{HasKinds}
use Rattle.scalar_expr.proofs.Bags.{permuted_from, permuted_to}
use Rattle.automaton.specs.States.{Net, entrance_at}
use Rattle.automaton.specs.Work.{is_in}
use Rattle.automaton.specs.declared.layout.Layout.{Layout}
use Rattle.automaton.specs.declared.line.Hop.{Hop}
use Rattle.automaton.specs.declared.network.Entrance.TheVariants.{Waiting}
use Rattle.stream_readers.specs.Finding.{waits_on}
use Rattle.epoch_laws.specs.Closing.{given_by_ends, leaving_state}
use Rattle.epoch_laws.specs.Epochs.{again, took}
use Rattle.epoch_laws.specs.Instances.{instances_entering}
use Rattle.epoch_laws.proofs.Lists.{every}
use Rattle.epoch_draft.specs.Agenda.{IsUnread, read_by}
use Rattle.epoch_draft.specs.Deriving.{DrawnUpTo, news_of}
use Rattle.epoch_draft.specs.Drafts.{DraftFits}
use Rattle.epoch_draft.specs.Drawn.{Drawn, Paired}
use Rattle.epoch_draft.specs.EpochWork.{pairs_work}
use Rattle.epoch_draft.specs.Held.{held}
use Rattle.epoch_draft.specs.Takes.{tuple_of}
use Rattle.epoch_draft.specs.Typed.{HaveKinds}
use Rattle.epoch_draft.specs.declared.draft.Draft.{Draft}
use Rattle.epoch_draft.specs.declared.draft.Pair.{Pair}
use Rattle.epoch_draft.proofs.DeriveLemmas.{AreReadInOrder, MadeUpTo, contains_in, sort_permutes, sort_twice}
use Rattle.automaton.proofs.NumberLemmas.{are_same_or_not}
use Rattle.epoch_draft.proofs.Lists.{more_contains, none_in}
use Rattle.epoch_draft.proofs.TakeLemmas.{takes_agree}
use Rattle.epoch_draft.proofs.UnreadLemmas.{AreReadAlike, given_same, leaving_same, read_same, waits_read}

module _ (net : Net) (layout : Layout) (stores : List (Option Store)) (opened : List (List TupleView)) (old new : Draft) (pairs : List Pair) (was : MadeUpTo net layout stores opened layout.order old pairs) (in_order : AreReadInOrder net old.made layout.order)
    (made : (s : ℕ) → get_or new.made s [] ≡ sorted (get_or old.made s [])) where
  abbrev seen : Streams
  seen = news_of opened old.made layout.order

  abbrev later : Streams
  later = news_of opened new.made layout.order

  -- what some state reads is as it was
  alike : AreReadAlike net seen later
  alike s = go (is_in layout.order s) refl
    where
      same : IsUnread net s ⊎ (sorted (get_or old.made s []) ≡ get_or old.made s []) → IsUnread net s ⊎ (get_or new.made s [] ≡ get_or old.made s [])
      same (inl unread) = inl unread
      same (inr ordered) = inr (made s ∙ ordered)

      go : (b : Bool) → is_in layout.order s ≡ b → IsUnread net s ⊎ (cond b (get_or new.made s []) (get_or opened s []) ≡ cond b (get_or old.made s []) (get_or opened s []))
      go true e = same (All-contains (λ t. IsUnread net t ⊎ (sorted (get_or old.made t []) ≡ get_or old.made t [])) layout.order s in_order (contains_in layout.order s e))
      go false e = inr refl

  -- all streams have the same tuples
  permuted : (s : ℕ) → IsPermutation (later s) (seen s)
  permuted s = go (is_in layout.order s)
    where
      go : (b : Bool) → IsPermutation (cond b (get_or new.made s []) (get_or opened s [])) (cond b (get_or old.made s []) (get_or opened s []))
      go true = permuted_from (made s) (sort_permutes (get_or old.made s []))
      go false = IsPermutation-refl (get_or opened s [])

  given : (s : ℕ) → given_by_ends net later (held stores) s ≡ given_by_ends net seen (held stores) s
  given = given_same net (held stores) seen later alike

  kinds : HaveKinds layout.kinds later
  kinds s known is = All-permutation (HasKinds known) (seen s) (later s) (IsPermutation-sym _ _ (permuted s)) (was.kinds s known is)

  drawn : new.beads ≡ old.beads → Drawn net (held stores) later new
  drawn beads = record {
    made = λ s. permuted_to (permuted_from (made s) (IsPermutation-trans _ _ _ (sort_permutes (get_or old.made s [])) (was.drawn.made s))) (sym (given s));
    bound = λ n before hop at.
        permuted_from (ap (λ (lists : List (List Instance)). get_or lists n []) beads)
        (permuted_to (was.drawn.bound n before hop at)
        (sym (ap (λ (leaving : ℕ → List Instance). instances_entering hop (leaving before) ++ again hop.wait.fold (took hop.wait.choose hop.wait.fold (later hop.wait.stream) (held stores n))) (leaving_same net (held stores) seen later alike)
        ∙ ap (λ (rows : List TupleView). instances_entering hop (leaving_state net seen (held stores) before) ++ again hop.wait.fold (took hop.wait.choose hop.wait.fold rows (held stores n)))
        (read_same net (held stores) seen later alike n hop.wait.stream (reads n before hop at)))));
    unbound = λ n none. ap (λ (lists : List (List Instance)). get_or lists n []) beads ∙ was.drawn.unbound n none;
  }
    where
      reads : (n before : ℕ) (hop : Hop) → entrance_at net n ≡ Some (Waiting before hop) → ◌≡◌ {A = Option ℕ} (option_map read_by (entrance_at net n)) (Some hop.wait.stream)
      reads n before hop at = ap (option_map read_by) at

  paired : Paired net (held stores) later pairs
  paired = record {
    sound =
        All-weaker (λ (p : Pair). Contains (waits_on net p.stream) p.state × (p.place < length (seen p.stream))) (λ (p : Pair). Contains (waits_on net p.stream) p.state × (p.place < length (later p.stream)))
        (λ p h. (h.0, let many = length_permutation _ _ (permuted p.stream) in let less = h.1 in omega (arith, many, less))) pairs was.paired.sound;
    listed = λ s k r got n c. was.paired.listed s k r (ap (λ (rows : List TupleView). slice_get rows k) (sym (read_same net (held stores) seen later alike n s (waits_read net s n c))) ∙ got) n c;
  }

  -- once they are in order all is drawn
  pub drawn_in_order : new.beads ≡ old.beads → DraftFits (length old.made) (length old.beads) new → DrawnUpTo net layout stores opened layout.order new pairs
  drawn_in_order beads fits = record {
    fits = subst (λ (m : ℕ). DraftFits m (length net) new) was.fits.made (subst (λ (m : ℕ). DraftFits (length old.made) m new) was.fits.beads fits);
    drawn = drawn beads;
    paired = paired;
    epoch = record {
      declared = λ s out. IsPermutation-trans _ _ _ (permuted s) (was.epoch.declared s out);
      derived =
          All-weaker (λ s. IsPermutation (seen s) (given_by_ends net seen (held stores) s)) (λ s. IsPermutation (later s) (given_by_ends net later (held stores) s))
          (λ s h. permuted_to (IsPermutation-trans _ _ _ (permuted s) h) (sym (given s))) layout.order was.epoch.derived;
    };
    kinds = kinds;
    ordered = every (λ s. sorted (get_or new.made s []) ≡ get_or new.made s []) (λ s. ap sorted (made s) ∙ sort_twice (get_or old.made s []) ∙ sym (made s)) layout.order;
  }

  -- and the pairs take out what they did
  pub takes_in_order : pairs_work net layout.order stores opened new.made pairs ≡ pairs_work net layout.order stores opened old.made pairs
  takes_in_order =
      takes_agree net (held stores) later seen pairs
      (All-weaker (λ (p : Pair). Contains (waits_on net p.stream) p.state × (p.place < length (seen p.stream))) (λ (p : Pair). tuple_of later p ≡ tuple_of seen p)
      (λ p h. ap (λ (rows : List TupleView). option_to_list (slice_get rows p.place)) (read_same net (held stores) seen later alike p.state p.stream (waits_read net p.stream p.state h.0))) pairs was.paired.sound)

-- the lists at these places are in order, and the others are as they were, or in order too
pub record OrderedSoFar (numbers : List ℕ) (old new : List (List TupleView)) : Type 0 where
  pub as_many : length new ≡ length old
  pub each : (k : ℕ) → (get_or new k [] ≡ get_or old k []) ⊎ (get_or new k [] ≡ sorted (get_or old k []))
  pub ordered : (k : ℕ) → Contains numbers k → get_or new k [] ≡ sorted (get_or old k [])

-- none is in order yet
pub ordered_none : (lists : List (List TupleView)) → OrderedSoFar [] lists lists
ordered_none lists = record { as_many = refl; each = λ k. inl refl; ordered = λ k c. absurd (none_in k c) }

-- one more is
pub ordered_more : (numbers : List ℕ) (i : ℕ) (first old : List (List TupleView)) (rows : List TupleView) → i < length numbers → get_or numbers i 0 < length first → rows ≡ sorted (get_or old (get_or numbers i 0) [])
    → OrderedSoFar (take i numbers) first old → OrderedSoFar (take (i + 1) numbers) first (set old (get_or numbers i 0) rows)
ordered_more numbers i first old rows lt below is was = record {
  as_many = length-set old m rows ∙ was.as_many;
  each = λ k. each k (are_same_or_not k m);
  ordered = λ k c. ordered k (are_same_or_not k m) (more_contains numbers i 0 k lt c);
}
  where
    m : ℕ
    m = get_or numbers i 0

    there : m < length old
    there = omega (arith, was.as_many, below)

    this : rows ≡ sorted (get_or first m [])
    this = go (was.each m)
      where
        go : (get_or old m [] ≡ get_or first m []) ⊎ (get_or old m [] ≡ sorted (get_or first m [])) → rows ≡ sorted (get_or first m [])
        go (inl same) = is ∙ ap sorted same
        go (inr ordered) = is ∙ ap sorted ordered ∙ sort_twice (get_or first m [])

    at : (k : ℕ) → k ≡ m → get_or (set old m rows) k [] ≡ sorted (get_or first k [])
    at k same = get_or-set_at old m k rows [] same there ∙ this ∙ ap (λ (n : ℕ). sorted (get_or first n [])) (sym same)

    each : (k : ℕ) → (k ≡ m) ⊎ (k ≡ m → ⊥) → (get_or (set old m rows) k [] ≡ get_or first k []) ⊎ (get_or (set old m rows) k [] ≡ sorted (get_or first k []))
    each k (inl same) = inr (at k same)
    each k (inr other) = subst (λ (ts : List TupleView). (ts ≡ get_or first k []) ⊎ (ts ≡ sorted (get_or first k []))) (sym (get_or-set_other old m k rows [] other)) (was.each k)

    ordered : (k : ℕ) → (k ≡ m) ⊎ (k ≡ m → ⊥) → Contains (take i numbers) k ⊎ (m ≡ k) → get_or (set old m rows) k [] ≡ sorted (get_or first k [])
    ordered k (inl same) c = at k same
    ordered k (inr other) (inl c) = get_or-set_other old m k rows [] other ∙ was.ordered k c
    ordered k (inr other) (inr same) = absurd (other (sym same))

-- where all others are empty, all are
pub ordered_all : (numbers : List ℕ) (old new : List (List TupleView)) → ((k : ℕ) → (get_or old k [] ≡ []) ⊎ Contains numbers k) → OrderedSoFar numbers old new → (k : ℕ) → get_or new k [] ≡ sorted (get_or old k [])
ordered_all numbers old new others was k = go (others k) (was.each k)
  where
    go : (get_or old k [] ≡ []) ⊎ Contains numbers k → (get_or new k [] ≡ get_or old k []) ⊎ (get_or new k [] ≡ sorted (get_or old k [])) → get_or new k [] ≡ sorted (get_or old k [])
    go (inr c) h = was.ordered k c
    go (inl none) (inr ordered) = ordered
    go (inl none) (inl same) = same ∙ none ∙ sym (ap sorted none)
