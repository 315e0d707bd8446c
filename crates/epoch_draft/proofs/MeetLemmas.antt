-- What comes of a tuple of a stream.
use Rattle.std.proofs.Common.{inr, ◌≡◌, ◌∙◌, sym, ap, refl, subst, ℕ, ◌+◌, ◌<◌, ◌==◌, Bool, true, false, cond, length, get_or, take, List, [], ◌∷◌, ◌++◌, map}
use Rattle.std.specs.Prelude.{IsTrue, Option, Some, None, is_some, option_to_list}
use Rattle.std.specs.Option.{option_and_then, option_map}
use Rattle.std.specs.List.{All, filter, flat_map, range_with_len}
use Rattle.std.specs.List.Sorted.{IsPermutation}
use Rattle.std.proofs.lemmas.Grind.{flat_map-append}
use Rattle.std.proofs.lemmas.List.{append-nil, take_more}
use Rattle.std.proofs.lemmas.List.Elements.{All-cons, All-head, All-nil, All-tail, All-weaker, filter_passes}
use Rattle.std.proofs.lemmas.List.Sorted.{All-permutation, IsPermutation-append, IsPermutation-map, IsPermutation-sym, IsPermutation-trans}
use Rattle.event_types.specs.Tuple.{TupleView}
use Rattle.inst_chain.specs.Heads.{head}
use Rattle.instances.specs.declared.instance.Instance.{Instance}
use Rattle.semantics.specs.Nexts.{is_eligible}
use Rattle.scalar_expr.proofs.Bags.{flat_map_permuted, permuted_from, permuted_to}
use Rattle.automaton.specs.States.{Net, entrance_at, is_used, root_by, state_at, tells, wait_at, wait_by}
use Rattle.automaton.specs.declared.network.Entrance.{Entrance}
use Rattle.automaton.specs.declared.network.Entrance.TheVariants.{Root, Waiting}
use Rattle.automaton.specs.declared.network.State.{State}
use Rattle.automaton.specs.declared.wait.Wait.{Wait}
use Rattle.stream_readers.specs.Finding.{FindsWays, IsSilent, is_root_on, is_wait_on, waits_on, ways_on}
use Rattle.stream_readers.specs.Targets.{way_of}
use Rattle.stream_readers.specs.Ways.{Back, Into, Out, Way, ways_at}
use Rattle.stream_readers.specs.declared.target.Target.{Target}
use Rattle.epoch_laws.specs.Closing.{Stores}
use Rattle.epoch_laws.specs.Instances.{began, begins}
use Rattle.epoch_laws.proofs.Bags.{flat_map_parts}
use Rattle.epoch_laws.proofs.Lists.{every, map-flat_map}
use Rattle.epoch_draft.specs.Comes.{gets, gets_by}
use Rattle.epoch_draft.specs.Drafts.{Adds, DraftFits, Grows}
use Rattle.epoch_draft.specs.Meeting.{FindsWaits, MatchesNone, met_at, met_by, moves_met, moves_of}
use Rattle.epoch_draft.specs.Moves.{Move, bound_by, bound_of, made_by, made_of, moves_from, moves_on}
use Rattle.epoch_draft.specs.Pairs.{followed, met}
use Rattle.epoch_draft.specs.declared.draft.Draft.{Draft}
use Rattle.epoch_draft.proofs.Concats.{tested_of}
use Rattle.epoch_draft.proofs.DraftLemmas.{nothing_given, grows_none, grows_same, grows_trans}
use Rattle.epoch_draft.proofs.GoingLemmas.{all_left, all_right, moves_append}
use Rattle.semantics.proofs.ReportLemmas.{flat_map_same}

-- moves that make nothing
pub grows_silent : (net : Net) (a b : List Move) (old new : Draft) → ((t : ℕ) → made_of t b ≡ []) → ((w : ℕ) → bound_of net w b ≡ []) → Grows net a old new → Grows net (a ++ b) old new
grows_silent net a b old new none unbound grows = record {
  fits = grows.fits;
  due = grows.due;
  newly_due = grows.newly_due;
  made = λ t.
      subst (λ (rows : List TupleView). Adds rows (get_or old.made t []) (get_or new.made t []))
      (sym (flat_map-append (λ (m : Move). made_by t m.instance m.way) a b ∙ ap (λ rows. made_of t a ++ rows) (none t) ∙ append-nil (made_of t a))) (grows.made t);
  bound = λ w.
      permuted_to (grows.bound w)
      (ap (λ rows. get_or old.beads w [] ++ rows)
      (sym (flat_map-append (λ (m : Move). bound_by net w m.instance m.way) a b ∙ ap (λ rows. bound_of net w a ++ rows) (unbound w) ∙ append-nil (bound_of net w a))));
}

nothing_passes : {X : Type 0} (b : Bool) → cond b (option_to_list {X = X} None) [] ≡ []
nothing_passes true = refl
nothing_passes false = refl

-- nothing comes of a tuple on silent ways
silent_made : (net : Net) (t : ℕ) (r : TupleView) (way : Way) → IsSilent net r way → made_by t (begins r) way ≡ []
silent_made net t r (Into k) silent = refl
silent_made net t r (Out e) silent = ap (λ rows. cond (e.out == t) rows []) (nothing_given e (begins r) (inr silent)) ∙ nothing_passes (e.out == t)
silent_made net t r (Back n) silent = absurd silent

silent_bound : (net : Net) (w : ℕ) (r : TupleView) (way : Way) → IsSilent net r way → bound_by net w (begins r) way ≡ []
silent_bound net w r (Into k) silent = ap (λ o. cond (k == w) (option_to_list (option_map (began r.at) o)) []) silent ∙ nothing_passes (k == w)
silent_bound net w r (Out e) silent = refl
silent_bound net w r (Back n) silent = absurd silent

silent_all : {Z : Type 0} (f : Instance → Way → List Z) (net : Net) (r : TupleView) → ((way : Way) → IsSilent net r way → f (begins r) way ≡ []) → (ways : List Way) → All (IsSilent net r) ways
    → flat_map (λ (m : Move). f m.instance m.way) (moves_on ways (begins r)) ≡ []
silent_all f net r one [] all = refl
silent_all f net r one (way ∷ ways) all =
    ap (λ rows. rows ++ flat_map (λ (m : Move). f m.instance m.way) (moves_on ways (begins r))) (one way (All-head (IsSilent net r) way ways all)) ∙ silent_all f net r one ways (All-tail (IsSilent net r) way ways all)

-- nor of one that is eligible for none of the instances
unmatched_met : (w : Wait) (r : TupleView) (store : List Instance) → All (λ (i : Instance). is_eligible w.choose i.tuple r ≡ false) store → met w store r ≡ []
unmatched_met w r [] none = refl
unmatched_met w r (i ∷ store) none =
    ap (λ t. map (began i.first) (cond t (followed w.fold i.tuple r) []) ++ met w store r) (All-head (λ (i : Instance). is_eligible w.choose i.tuple r ≡ false) i store none)
    ∙ unmatched_met w r store (All-tail (λ (i : Instance). is_eligible w.choose i.tuple r ≡ false) i store none)

unmatched_state : (net : Net) (stores : Stores) (r : TupleView) (n : ℕ) → MatchesNone net stores r n → met_at net stores r n ≡ []
unmatched_state net stores r n none = go (wait_at net n) (λ w e. none w e)
  where
    go : (o : Option Wait) → ((w : Wait) → o ≡ Some w → All (λ (i : Instance). is_eligible w.choose i.tuple r ≡ false) (stores n)) → met_by o (stores n) r ≡ []
    go None none = refl
    go (Some w) none = unmatched_met w r (stores n) (none w refl)

unmatched_moves : (net : Net) (stores : Stores) (r : TupleView) (ns : List ℕ) → All (MatchesNone net stores r) ns → moves_met net stores r ns ≡ []
unmatched_moves net stores r [] all = refl
unmatched_moves net stores r (n ∷ ns) all =
    ap (λ rows. moves_from net n rows ++ moves_met net stores r ns) (unmatched_state net stores r n (All-head (MatchesNone net stores r) n ns all)) ∙ unmatched_moves net stores r ns (All-tail (MatchesNone net stores r) n ns all)

-- a tuple moves on the ways out of its roots, and what it makes of instances moves out of their states
pub moves_split : (net : Net) (stores : Stores) (s : ℕ) (r : TupleView) → IsPermutation (moves_of net stores s r) (moves_on (ways_on net s) (begins r) ++ moves_met net stores r (waits_on net s))
moves_split net stores s r =
    permuted_from
    (flat_map_same (λ n. moves_from net n (gets net stores s r n)) (λ n. root n ++ wait n) range (every (λ n. moves_from net n (gets net stores s r n) ≡ root n ++ wait n) each range))
    (permuted_to (flat_map_parts root wait range)
    (ap (λ ms. ms ++ flat_map wait range)
    (tested_of (is_root_on net s) (λ n. moves_on (ways_at net n) (begins r)) range ∙ sym (map-flat_map (λ (way : Way). record { instance = begins r; way = way }) (ways_at net) (filter (is_root_on net s) range)))
    ∙ ap (λ ms. moves_on (ways_on net s) (begins r) ++ ms) (tested_of (is_wait_on net s) (λ n. moves_from net n (met_at net stores r n)) range)))
  where
    range : List ℕ
    range = range_with_len 0 (length net)

    root : ℕ → List Move
    root n = cond (is_root_on net s n) (moves_on (ways_at net n) (begins r)) []

    wait : ℕ → List Move
    wait n = cond (is_wait_on net s n) (moves_from net n (met_at net stores r n)) []

    each : (n : ℕ) → moves_from net n (gets net stores s r n) ≡ root n ++ wait n
    each n = go (entrance_at net n)
      where
        at_root : (b : Bool) → moves_from net n (cond b (begins r ∷ []) []) ≡ cond b (moves_on (ways_at net n) (begins r)) [] ++ []
        at_root true = refl
        at_root false = refl

        at_wait : (rows : List Instance) (b : Bool) → moves_from net n (cond b rows []) ≡ cond b (moves_from net n rows) []
        at_wait rows true = refl
        at_wait rows false = refl

        go : (o : Option Entrance)
            → moves_from net n (gets_by o s r (stores n))
            ≡ cond (tells s (option_and_then root_by o)) (moves_on (ways_at net n) (begins r)) [] ++ cond (tells s (option_map (λ (w : Wait). w.stream) (option_and_then wait_by o))) (moves_from net n (met_by (option_and_then wait_by o) (stores n) r)) []
        go None = refl
        go (Some (Root t)) = at_root (t == s)
        go (Some (Waiting before hop)) = at_wait (met hop.wait (stores n) r) (hop.wait.stream == s)

-- what look-ups found is enough
pub found_grows : (net : Net) (stores : Stores) (s : ℕ) (r : TupleView) (targets : List Target) (states : List ℕ) (old mid new : Draft) → FindsWays net s r targets → FindsWaits net stores s r states
    → Grows net (moves_on (flat_map (way_of net) targets) (begins r)) old mid → Grows net (moves_met net stores r states) mid new → Grows net (moves_of net stores s r) old new
found_grows net stores s r targets states old mid new ways waits one two =
    grows_same net (moves_on (found ++ ways.others) (begins r) ++ moves_met net stores r states) (moves_of net stores s r) old new
    (IsPermutation-trans _ _ _
    (IsPermutation-append (moves_on (found ++ ways.others) (begins r)) (moves_on (ways_on net s) (begins r)) (moves_met net stores r states) (moves_met net stores r (waits_on net s))
    (IsPermutation-map (λ (way : Way). record { instance = begins r; way = way }) (found ++ ways.others) (ways_on net s) ways.all)
    (permuted_from
    (sym (flat_map-append (λ n. moves_from net n (met_at net stores r n)) states waits.others ∙ ap (λ ms. moves_met net stores r states ++ ms) (unmatched_moves net stores r waits.others waits.unmatched) ∙ append-nil (moves_met net stores r states)))
    (flat_map_permuted (λ n. moves_from net n (met_at net stores r n)) (states ++ waits.others) (waits_on net s) waits.all)))
    (IsPermutation-sym _ _ (moves_split net stores s r)))
    (grows_trans net (moves_on (found ++ ways.others) (begins r)) (moves_met net stores r states) old mid new
    (subst (λ ms. Grows net ms old mid) (sym (moves_append found ways.others (begins r)))
    (grows_silent net (moves_on found (begins r)) (moves_on ways.others (begins r)) old mid (λ t. silent_all (made_by t) net r (silent_made net t r) ways.others ways.silent) (λ w. silent_all (bound_by net w) net r (silent_bound net w r) ways.others ways.silent) one))
    two)
  where
    found : List Way
    found = flat_map (way_of net) targets

-- these moves are still to be made of all
pub record Follows (net : Net) (rest all : List Move) (start now : Draft) : Type 0 where
  pub fits : DraftFits (length start.made) (length net) now
  pub whole : (new : Draft) → Grows net rest now new → Grows net all start new

-- the first of them were made
pub follows_more : (net : Net) (a rest all : List Move) (start old new : Draft) → Follows net (a ++ rest) all start old → Grows net a old new → Follows net rest all start new
follows_more net a rest all start old new was grows = record {
  fits = subst (λ (m : ℕ). DraftFits m (length net) new) was.fits.made grows.fits;
  whole = λ next h. was.whole next (grows_trans net a rest old new next grows h);
}

-- none is left
pub follows_none : (net : Net) (all : List Move) (start now : Draft) → Follows net [] all start now → Grows net all start now
follows_none net all start now was = was.whole now (grows_none net now (subst (λ (m : ℕ). DraftFits m (length net) now) (sym was.fits.made) was.fits))

-- none is made yet
pub follows_all : (net : Net) (all : List Move) (start : Draft) → DraftFits (length start.made) (length net) start → Follows net all all start start
follows_all net all start fits = record { fits = fits; whole = λ new h. h }

-- one target more of a loop
pub targets_more : {X : Type 0} (f : X → List Way) (net : Net) (xs : List X) (i : ℕ) (d : X) (r : Instance) (old mid new : Draft) → i < length xs → Grows net (moves_on (flat_map f (take i xs)) r) old mid → Grows net (moves_on (f (get_or xs i d)) r) mid new
    → Grows net (moves_on (flat_map f (take (i + 1) xs)) r) old new
targets_more f net xs i d r old mid new lt one two =
    subst (λ ms. Grows net ms old new)
    (sym (ap (λ ys. moves_on (flat_map f ys) r) (take_more xs i d lt) ∙ ap (λ ways. moves_on ways r) (flat_map-append f (take i xs) (get_or xs i d ∷ []) ∙ ap (λ ways. flat_map f (take i xs) ++ ways) (append-nil (f (get_or xs i d))))
    ∙ moves_append (flat_map f (take i xs)) (f (get_or xs i d)) r))
    (grows_trans net (moves_on (flat_map f (take i xs)) r) (moves_on (f (get_or xs i d)) r) old mid new one two)

-- one item more of a loop
pub moves_more : {X : Type 0} (f : X → List Move) (net : Net) (xs : List X) (i : ℕ) (d : X) (old mid new : Draft) → i < length xs → Grows net (flat_map f (take i xs)) old mid → Grows net (f (get_or xs i d)) mid new → Grows net (flat_map f (take (i + 1) xs)) old new
moves_more f net xs i d old mid new lt one two =
    subst (λ ms. Grows net ms old new)
    (sym (ap (flat_map f) (take_more xs i d lt) ∙ flat_map-append f (take i xs) (get_or xs i d ∷ []) ∙ ap (λ ms. flat_map f (take i xs) ++ ms) (append-nil (f (get_or xs i d)))))
    (grows_trans net (flat_map f (take i xs)) (f (get_or xs i d)) old mid new one two)

module _ {X Y : Type 0} (P : Y → Type 0) (f : X → List Y) where
  pub all_flat : (xs : List X) → All P (flat_map f xs) → All (λ x. All P (f x)) xs
  all_flat [] all = All-nil (λ x. All P (f x))
  all_flat (x ∷ xs) all = All-cons (λ x. All P (f x)) x xs (all_left P (f x) (flat_map f xs) all) (all_flat xs (all_right P (f x) (flat_map f xs) all))

-- what holds of all ways holds of those that were found
pub found_ways : (P : Way → Type 0) (net : Net) (s : ℕ) (r : TupleView) (targets : List Target) → FindsWays net s r targets → All P (ways_on net s) → All (λ (t : Target). All P (way_of net t)) targets
found_ways P net s r targets finds all =
    all_flat P (way_of net) targets (all_left P (flat_map (way_of net) targets) finds.others (All-permutation P (ways_on net s) (flat_map (way_of net) targets ++ finds.others) (IsPermutation-sym _ _ finds.all) all))

-- what holds of all waiting states holds of those that were found
pub found_all : (P : ℕ → Type 0) (net : Net) (stores : Stores) (s : ℕ) (r : TupleView) (states : List ℕ) → FindsWaits net stores s r states → All P (waits_on net s) → All P states
found_all P net stores s r states finds all = all_left P states finds.others (All-permutation P (waits_on net s) (states ++ finds.others) (IsPermutation-sym _ _ finds.all) all)

-- waiting states are there
pub waits_used : (net : Net) (s : ℕ) → All (λ n. IsTrue (is_used net n)) (waits_on net s)
waits_used net s = All-weaker (λ n. is_wait_on net s n ≡ true) (λ n. IsTrue (is_used net n)) used (waits_on net s) (filter_passes (is_wait_on net s) (range_with_len 0 (length net)))
  where
    used : (n : ℕ) → is_wait_on net s n ≡ true → IsTrue (is_used net n)
    used n e = go (state_at net n) e
      where
        go : (o : Option State) → tells s (option_map (λ (w : Wait). w.stream) (option_and_then wait_by (option_map (λ (x : State). x.entrance) o))) ≡ true → IsTrue (is_some o)
        go None e = absurd (cc)
        go (Some state) e = refl

-- a list without a first item is empty
pub head_none : (xs : List Instance) → None ≡ head xs → xs ≡ []
head_none [] e = refl
head_none (x ∷ xs) e = absurd (cc)
