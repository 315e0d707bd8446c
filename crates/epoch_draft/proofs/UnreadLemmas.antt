-- Streams that no state reads.
use Rattle.std.proofs.Common.{◌≡◌, ◌∙◌, sym, ap, refl, subst, inl, inr, ℕ, zero, suc, ◌==◌, ◌⊎◌, true, false, cond, length, get_or, set, List, [], ◌∷◌, map, append-nil, arith}
use Rattle.std.specs.Prelude.{Contains, Option, Some, None, slice_get}
use Rattle.std.specs.Option.{option_and_then, option_map}
use Rattle.std.specs.List.{filter, flat_map, range_with_len}
use Rattle.std.proofs.lemmas.Bool.Decides.{nat_tests}
use Rattle.std.proofs.lemmas.List.{length-set}
use Rattle.std.proofs.lemmas.List.Elements.{All-contains, All-nil, filter_passes}
use Rattle.std.proofs.lemmas.List.Sorted.{IsPermutation-refl}
use Rattle.event_types.specs.Tuple.{TupleView}
use Rattle.event_types.proofs.NumberLemmas.{same_number}
use Rattle.instances.specs.declared.instance.Instance.{Instance}
use Rattle.semantics.specs.Denotation.{Streams}
use Rattle.automaton.specs.States.{Net, ends_at, entrance_at, tells, wait_by}
use Rattle.automaton.specs.declared.network.End.{End}
use Rattle.automaton.specs.declared.network.Entrance.{Entrance}
use Rattle.automaton.specs.declared.network.Entrance.TheVariants.{Root, Waiting}
use Rattle.automaton.specs.declared.wait.Wait.{Wait}
use Rattle.stream_readers.specs.Finding.{is_wait_on, waits_on}
use Rattle.epoch_laws.specs.Closing.{Stores, given_by_end, given_by_ends, leaving_by, leaving_state}
use Rattle.epoch_laws.specs.Epochs.{took}
use Rattle.epoch_laws.specs.Instances.{begins}
use Rattle.epoch_laws.proofs.Lists.{every}
use Rattle.epoch_draft.specs.Agenda.{IsUnread, read_at, read_by}
use Rattle.epoch_draft.specs.Comes.{gets, gets_by}
use Rattle.epoch_draft.specs.Deriving.{Meets}
use Rattle.epoch_draft.specs.Drafts.{DraftFits, Grows, without}
use Rattle.epoch_draft.specs.Meeting.{IsPairOf, moves_of, moves_of_all}
use Rattle.epoch_draft.specs.Moves.{Move, moves_from}
use Rattle.epoch_draft.specs.Pairs.{met}
use Rattle.epoch_draft.specs.declared.draft.Draft.{Draft}
use Rattle.epoch_draft.specs.declared.draft.Pair.{Pair}
use Rattle.epoch_draft.proofs.Concats.{nothing_of}
use Rattle.epoch_draft.proofs.DraftLemmas.{grows_none, without_fits}
use Rattle.epoch_draft.proofs.MarkLemmas.{marks_same}
use Rattle.semantics.proofs.ReportLemmas.{flat_map_same}

other_test : (m n : ℕ) → (m ≡ n → ⊥) → (m == n) ≡ false
other_test m n ne = grind (arith, nat_tests)

-- a state that waits on a stream reads it
pub waits_read : (net : Net) (s n : ℕ) → Contains (waits_on net s) n → read_at net n ≡ Some s
waits_read net s n c =
    go (entrance_at net n) refl (All-contains (λ n. is_wait_on net s n ≡ true) (waits_on net s) n (filter_passes (is_wait_on net s) (range_with_len 0 (length net))) c)
  where
    go : (o : Option Entrance) → entrance_at net n ≡ o → tells s (option_map (λ (w : Wait). w.stream) (option_and_then wait_by o)) ≡ true → option_map read_by o ≡ Some s
    go None is e = absurd (cc)
    go (Some (Root root)) is e = absurd (cc)
    go (Some (Waiting before hop)) is e = ap Some (same_number hop.wait.stream s e)

module _ (net : Net) (stores : Stores) (s : ℕ) (unread : IsUnread net s) where
  -- no tuple lets anything leave a state
  gets_none : (r : TupleView) (n : ℕ) → gets net stores s r n ≡ []
  gets_none r n = go (entrance_at net n) refl
    where
      go : (o : Option Entrance) → entrance_at net n ≡ o → gets_by o s r (stores n) ≡ []
      go None is = refl
      go (Some (Root root)) is = ap (λ b. cond b (begins r ∷ []) []) (other_test root s (λ same. unread n (ap (option_map read_by) is ∙ ap Some same)))
      go (Some (Waiting before hop)) is = ap (λ b. cond b (met hop.wait (stores n) r) []) (other_test hop.wait.stream s (λ same. unread n (ap (option_map read_by) is ∙ ap Some same)))

  moves_none : (r : TupleView) → moves_of net stores s r ≡ []
  moves_none r =
      let range = range_with_len 0 (length net) in
      flat_map_same (λ n. moves_from net n (gets net stores s r n)) (λ n. []) range (every (λ n. moves_from net n (gets net stores s r n) ≡ []) (λ n. ap (moves_from net n) (gets_none r n)) range) ∙ nothing_of range

  -- nothing comes of its tuples
  pub moves_all_none : (rows : List TupleView) → moves_of_all net stores s rows ≡ []
  moves_all_none rows = flat_map_same (moves_of net stores s) (λ r. []) rows (every (λ r. moves_of net stores s r ≡ []) moves_none rows) ∙ nothing_of rows

set_same : (lists : List (List TupleView)) (s : ℕ) → set (set lists s []) s (get_or lists s []) ≡ lists
set_same [] s = refl
set_same (rows ∷ lists) zero = refl
set_same (rows ∷ lists) (suc s) = ap (λ ls. rows ∷ ls) (set_same lists s)

-- a stream of which nothing comes is met as it is
pub skipped_meets : (net : Net) (stores : Stores) (s : ℕ) (draft : Draft) (pairs : List Pair) → DraftFits (length draft.made) (length net) draft → (get_or draft.made s [] ≡ []) ⊎ IsUnread net s
    → (meets : Meets net stores s draft draft pairs pairs) × (meets.tuples ≡ get_or draft.made s [])
skipped_meets net stores s draft pairs fits skips = (
  record {
    tuples = rows;
    same = IsPermutation-refl rows;
    met = without draft s;
    grows = subst (λ (moves : List Move). Grows net moves (without draft s) (without draft s)) (sym (silent skips)) (grows_none net (without draft s) bare);
    made = sym (set_same draft.made s);
    beads = refl;
    fits = fits;
    due = marks_same draft.due fits.due;
    newly_due = λ t c. inl c;
    lists = record {
      added = [];
      are = sym (append-nil pairs);
      sound = All-nil (IsPairOf net s rows);
      listed = λ k t at n c. absurd (none_waits skips k t at n c);
      takes = omega arith;
    };
  },
  refl,
)
  where
    rows : List TupleView
    rows = get_or draft.made s []

    silent : (rows ≡ []) ⊎ IsUnread net s → moves_of_all net stores s rows ≡ []
    silent (inl none) = ap (moves_of_all net stores s) none
    silent (inr unread) = moves_all_none net stores s unread rows

    bare : DraftFits (length (without draft s).made) (length net) (without draft s)
    bare =
        subst (λ (m : ℕ). DraftFits m (length net) (without draft s)) (sym (length-set draft.made s []))
        (subst (λ (m : ℕ). DraftFits (length draft.made) m (without draft s)) fits.beads (without_fits draft s (subst (λ (m : ℕ). DraftFits (length draft.made) m draft) (sym fits.beads) fits)))

    none_waits : (rows ≡ []) ⊎ IsUnread net s → (k : ℕ) (t : TupleView) → slice_get rows k ≡ Some t → (n : ℕ) → Contains (waits_on net s) n → ⊥
    none_waits (inl none) k t at n c = absurd (let no = ap (λ (ts : List TupleView). slice_get ts k) (sym none) ∙ at in cc)
    none_waits (inr unread) k t at n c = unread n (waits_read net s n c)

-- streams that differ from others in such alone as no state reads
abbrev pub AreReadAlike : Net → Streams → Streams → Type 0
AreReadAlike net seen later = (s : ℕ) → IsUnread net s ⊎ (later s ≡ seen s)

module _ (net : Net) (stores : Stores) (seen later : Streams) (alike : AreReadAlike net seen later) where
  -- the stream that a state reads is the same
  pub read_same : (n s : ℕ) → read_at net n ≡ Some s → later s ≡ seen s
  read_same n s reads = go (alike s)
    where
      go : IsUnread net s ⊎ (later s ≡ seen s) → later s ≡ seen s
      go (inl unread) = absurd (unread n reads)
      go (inr same) = same

  leaves_same : (n : ℕ) → leaving_state net later stores n ≡ leaving_state net seen stores n
  leaves_same n = go (entrance_at net n) refl
    where
      go : (o : Option Entrance) → entrance_at net n ≡ o → leaving_by o later (stores n) ≡ leaving_by o seen (stores n)
      go None is = refl
      go (Some (Root root)) is = ap (map begins) (read_same n root (ap (option_map read_by) is))
      go (Some (Waiting before hop)) is = ap (λ (rows : List TupleView). took hop.wait.choose hop.wait.fold rows (stores n)) (read_same n hop.wait.stream (ap (option_map read_by) is))

  -- the same leaves each state
  pub leaving_same : leaving_state net later stores ≡ leaving_state net seen stores
  leaving_same = λ i n. leaves_same n i

  -- and the ends give the same
  pub given_same : (t : ℕ) → given_by_ends net later stores t ≡ given_by_ends net seen stores t
  given_same t = ap (λ (leaving : ℕ → List Instance). flat_map (λ n. flat_map (given_by_end (leaving n)) (filter (λ (e : End). e.out == t) (ends_at net n))) (range_with_len 0 (length net))) leaving_same
