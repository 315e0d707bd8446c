-- Readers of one state more.
use Rattle.std.proofs.Common.{◌≡◌, ◌∙◌, sym, ap, refl, subst, ℕ, ◌+◌, ◌<◌, ◌==◌, ◌&&◌, not, Bool, true, false, cond, length, List, [], ◌∷◌, ◌++◌, map, append-nil, arith}
use Rattle.std.specs.Prelude.{Option, Some, None, is_some}
use Rattle.std.specs.List.{All}
use Rattle.std.specs.List.Sorted.{IsPermutation}
use Rattle.std.proofs.lemmas.List.Sorted.{IsPermutation-append_left, IsPermutation-refl, IsPermutation-trans}
use Rattle.event_types.proofs.NumberLemmas.{is_other, other_number, same_number, self_equal}
use Rattle.scalar_expr.proofs.Bags.{permuted_from, permuted_to}
use Rattle.instances.specs.Keys.{Key}
use Rattle.automaton.specs.States.{Net, edges_at, ends_at, is_used, root_at, tells, wait_at}
use Rattle.automaton.specs.declared.wait.Wait.{Wait}
use Rattle.binding_index.specs.KeyParts.{key_of_part}
use Rattle.binding_index.specs.declared.key.KeyPart.{KeyPart}
use Rattle.std.specs.Option.{option_map}
use Rattle.static_index.specs.Conditions.{Condition, HasId, ids_of}
use Rattle.static_index.specs.FixedParts.{fixed_parts}
use Rattle.stream_readers.specs.Changing.{Files, FilesWait}
use Rattle.stream_readers.specs.Filing.{Filed, filed_to}
use Rattle.stream_readers.specs.Leading.{lead_key}
use Rattle.stream_readers.specs.Making.{AreReadersBelow}
use Rattle.stream_readers.specs.Readers.{AreReadersOf, reader_at}
use Rattle.stream_readers.specs.Targets.{targets_at}
use Rattle.stream_readers.specs.Ways.{parts_in}
use Rattle.stream_readers.specs.declared.reader.Reader.{Reader}
use Rattle.stream_readers.proofs.ChangeLemmas.{given_below, given_next, row_of, rows_below}
use Rattle.stream_readers.proofs.EntryLemmas.{asked, asked_at, edge_filed, ends_filed, entry, no_root, state_as, targets_each, unused_asked, unused_entry, waits_each}
use Rattle.stream_readers.proofs.FilingLemmas.{all_below, with_last}

-- whether there is a key, as the program tells
pub has_key : (o : Option Key) (part : Option KeyPart) → option_map key_of_part part ≡ o → is_some part ≡ true → is_some o ≡ true
has_key o None same some = absurd (cc)
has_key o (Some part) same some = ap is_some (sym same)

-- where there is none, as the program tells
pub no_key : (o : Option Key) (part : Option KeyPart) → option_map key_of_part part ≡ o → is_some part ≡ false → o ≡ None
no_key o None same none = sym same
no_key o (Some part) same none = absurd (cc)

-- nothing reads any stream of a network without states
pub none_made : (net : Net) → AreReadersBelow net 0 0 []
none_made net = record { of_roots = λ s. IsPermutation-refl []; waiting = λ s. refl }

module _ (net : Net) where
  abbrev roots : ℕ → ℕ → List Filed
  roots s n = given_below (entry net s) n

  abbrev waiting : ℕ → ℕ → List Condition
  waiting s n = given_below (λ k. row_of k (asked_at net s k)) n

  -- a number of which no target is filed
  roots_on : (s n : ℕ) → entry net s n ≡ [] → roots s (n + 1) ≡ roots s n
  roots_on s n none = given_next (entry net s) n ∙ ap (λ fs. roots s n ++ fs) none ∙ append-nil (roots s n)

  waits_on : (s n : ℕ) → asked_at net s n ≡ None → waiting s (n + 1) ≡ waiting s n
  waits_on s n none = given_next (λ k. row_of k (asked_at net s k)) n ∙ ap (λ o. waiting s n ++ row_of n o) none ∙ append-nil (waiting s n)

  -- nothing is filed of a number that no state has
  pub nothing_made : (n : ℕ) (readers : List Reader) → is_used net n ≡ false → AreReadersBelow net n n readers → AreReadersBelow net (n + 1) (n + 1) readers
  nothing_made n readers unused below = record {
    of_roots = λ s. permuted_to (below.of_roots s) (targets_each net s n ∙ sym (roots_on s n (unused_entry net s n unused)) ∙ sym (targets_each net s (n + 1)));
    waiting = λ s. below.waiting s ∙ waits_each net s n ∙ sym (waits_on s n (unused_asked net s n unused)) ∙ sym (waits_each net s (n + 1));
  }

  -- no target is filed of a waiting state
  pub no_root_made : (n m : ℕ) (readers : List Reader) → None ≡ root_at net n → AreReadersBelow net n m readers → AreReadersBelow net (n + 1) m readers
  no_root_made n m readers none below = record {
    of_roots = λ s. permuted_to (below.of_roots s) (targets_each net s n ∙ sym (roots_on s n (no_root net s n (ap (tells s) (sym none)))) ∙ sym (targets_each net s (n + 1)));
    waiting = below.waiting;
  }

  -- the targets of a root are filed
  pub root_made : (n m stream : ℕ) (old new : List Reader) → Some stream ≡ root_at net n → Files stream (map (filed_to net) (targets_at net n)) old new → AreReadersBelow net n m old → AreReadersBelow net (n + 1) m new
  root_made n m stream old new root files below = record { of_roots = λ s. permuted_to (go s (s == stream) refl) (sym (targets_each net s (n + 1))); waiting = λ s. files.waits s ∙ below.waiting s }
    where
      own : List Filed
      own = map (filed_to net) (targets_at net n)

      here : entry net stream n ≡ own
      here = ap (λ b. cond b (map (edge_filed net) (edges_at net n) ++ ends_filed n 0 (ends_at net n)) []) (ap (tells stream) (sym root) ∙ self_equal stream) ∙ sym (state_as net n)

      go : (s : ℕ) (b : Bool) → (s == stream) ≡ b → IsPermutation (reader_at new s).targets (roots s (n + 1))
      go s true is =
          subst (λ (k : ℕ). IsPermutation (reader_at new k).targets (roots k (n + 1))) (sym (same_number s stream is))
          (IsPermutation-trans _ _ _ files.here
          (permuted_to (IsPermutation-append_left own (reader_at old stream).targets (roots stream n) (permuted_to (below.of_roots stream) (targets_each net stream n))) (sym (given_next (entry net stream) n ∙ ap (λ fs. roots stream n ++ fs) here))))
      go s false differs =
          let other = other_number s stream differs in
          permuted_from (files.others s other)
          (permuted_to (below.of_roots s) (targets_each net s n ∙ sym (roots_on s n (no_root net s n (ap (tells s) (sym root) ∙ is_other stream s (λ e. other (sym e)))))))

  -- nothing waits
  pub no_wait_made : (n m : ℕ) (readers : List Reader) → ((s : ℕ) → asked_at net s m ≡ None) → AreReadersBelow net n m readers → AreReadersBelow net n (m + 1) readers
  no_wait_made n m readers none below = record {
    of_roots = below.of_roots;
    waiting = λ s. below.waiting s ∙ waits_each net s m ∙ sym (waits_on s m (none s)) ∙ sym (waits_each net s (m + 1));
  }

  pub root_quiet : (m : ℕ) → None ≡ wait_at net m → (s : ℕ) → asked_at net s m ≡ None
  root_quiet m none s = ap (asked s) (sym none)

  pub keyed_quiet : (m : ℕ) (wait : Wait) → Some wait ≡ wait_at net m → is_some (lead_key wait.choose) ≡ true → (s : ℕ) → asked_at net s m ≡ None
  keyed_quiet m wait is keyed s = ap (asked s) (sym is) ∙ go (wait.stream == s)
    where
      go : (b : Bool) → cond (b && not (is_some (lead_key wait.choose))) (Some (parts_in (Some wait))) None ≡ None
      go true = ap (λ b. cond (not b) (Some (parts_in (Some wait))) None) keyed
      go false = refl

  lesser : (n m s : ℕ) (readers : List Reader) → AreReadersBelow net n m readers → All (λ k. k < m) (ids_of (reader_at readers s).waits)
  lesser n m s readers below = subst (λ (cs : List Condition). All (λ k. k < m) (ids_of cs)) (sym (below.waiting s ∙ waits_each net s m)) (rows_below (asked_at net s) 0 m m (omega arith))

  -- the next number isn't there yet
  pub wait_absent : (n m s : ℕ) (readers : List Reader) → AreReadersBelow net n m readers → HasId m (reader_at readers s).waits → ⊥
  wait_absent n m s readers below has = all_below m (ids_of (reader_at readers s).waits) (lesser n m s readers below) has

  -- a waiting state comes
  pub wait_made : (n m : ℕ) (wait : Wait) (old new : List Reader) → Some wait ≡ wait_at net m → lead_key wait.choose ≡ None → FilesWait wait.stream (record { id = m; parts = fixed_parts wait.choose }) old new
      → AreReadersBelow net n m old → AreReadersBelow net n (m + 1) new
  wait_made n m wait old new is plain files below = record { of_roots = λ s. permuted_from (files.targets s) (below.of_roots s); waiting = λ s. go s (s == wait.stream) refl ∙ sym (waits_each net s (m + 1)) }
    where
      t : ℕ
      t = wait.stream

      one : Condition
      one = record { id = m; parts = fixed_parts wait.choose }

      here : asked_at net t m ≡ Some (fixed_parts wait.choose)
      here =
          ap (asked t) (sym is) ∙ ap (λ b. cond (b && not (is_some (lead_key wait.choose))) (Some (fixed_parts wait.choose)) None) (self_equal t)
          ∙ ap (λ (o : Option Key). cond (not (is_some o)) (Some (fixed_parts wait.choose)) None) plain

      go : (s : ℕ) (b : Bool) → (s == t) ≡ b → (reader_at new s).waits ≡ waiting s (m + 1)
      go s true same =
          subst (λ (k : ℕ). (reader_at new k).waits ≡ waiting k (m + 1)) (sym (same_number s t same))
          (files.here ∙ with_last one (reader_at old t).waits (lesser n m t old below) ∙ ap (λ cs. cs ++ one ∷ []) (below.waiting t ∙ waits_each net t m)
          ∙ sym (given_next (λ k. row_of k (asked_at net t k)) m ∙ ap (λ o. waiting t m ++ row_of m o) here))
      go s false differs =
          let other = other_number s t differs in
          files.others s other ∙ below.waiting s ∙ waits_each net s m
          ∙ sym (waits_on s m (ap (asked s) (sym is) ∙ ap (λ b. cond (b && not (is_some (lead_key wait.choose))) (Some (fixed_parts wait.choose)) None) (is_other t s (λ e. other (sym e)))))

  -- all states were gone through
  pub readers_made : (readers : List Reader) → AreReadersBelow net (length net) (length net) readers → AreReadersOf net readers
  readers_made readers below s = record { targets = below.of_roots s; waits = below.waiting s }
