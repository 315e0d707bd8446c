-- Numbers of tests.
use Rattle.std.proofs.Common.{◌≡◌, ◌∙◌, ap, refl, ℕ, zero, suc, ◌+◌, ◌<◌, ◌≤◌, Bool, true, length, get_or, take, List, [], ◌∷◌, ◌++◌, map, arith}
use Rattle.std.specs.Prelude.{Option, Some, None, sum_by}
use Rattle.std.specs.List.{All, filter, flat_map}
use Rattle.std.specs.List.Sorted.{IsPermutation}
use Rattle.std.proofs.lemmas.Grind.{flat_map-append}
use Rattle.std.proofs.lemmas.List.{append-nil, map-append, take_more}
use Rattle.std.proofs.lemmas.List.Elements.{All-weaker, filter-append}
use Rattle.std.proofs.lemmas.List.Sorted.{sum_by-IsPermutation}
use Rattle.scalar_expr.proofs.Bags.{filter_permuted}
use Rattle.semantics.proofs.ReportLemmas.{filter_all}
use Rattle.std.proofs.lemmas.List.Sums.{sum_by-append, sum_by-cons, sum_by_push}
use Rattle.event_types.specs.Tuple.{TupleView}
use Rattle.automaton.specs.States.{Net, edges_at, ends_at, wait_at}
use Rattle.automaton.specs.declared.wait.Turn.{Turn}
use Rattle.automaton.specs.declared.wait.Wait.{Wait}
use Rattle.static_index.proofs.LawLemmas.{matched_is_looked_up}
use Rattle.stream_readers.specs.Ways.{MeetsParts, Way, backs_by, backs_in, Into, Out, parts_on, ways_at, is_state_looked_up, is_way_looked_up}
use Rattle.stream_readers.specs.Finding.{FindsWays, waits_on, ways_on}
use Rattle.epoch_laws.specs.Closing.{Stores}
use Rattle.epoch_draft.specs.Meeting.{FindsWaits}
use Rattle.stream_readers.specs.Targets.{way_of}
use Rattle.stream_readers.specs.declared.target.Target.{Target}
use Rattle.epoch_draft.specs.Work.{way_work, ways_work}

-- one way more
pub ways_more : {X : Type 0} (f : X → Way) (net : Net) (xs : List X) (i : ℕ) (d : X) → i < length xs → ways_work net (map f (take (i + 1) xs)) ≡ ways_work net (map f (take i xs)) + way_work net (f (get_or xs i d))
ways_more f net xs i d lt =
    ap (ways_work net) (ap (map f) (take_more xs i d lt) ∙ map-append f (take i xs) (get_or xs i d ∷ [])) ∙ sum_by_push (way_work net) (map f (take i xs)) (f (get_or xs i d))

no_work : (net : Net) (n : ℕ) (fold : Option Turn) → ways_work net (backs_in n fold) ≡ 0
no_work net n None = refl
no_work net n (Some turn) = refl

backs_work : (net : Net) (n : ℕ) (o : Option Wait) → ways_work net (backs_by n o) ≡ 0
backs_work net n None = refl
backs_work net n (Some w) = no_work net n w.fold

-- the ways out of a state
pub out_work : (net : Net) (n : ℕ) → ways_work net (ways_at net n) ≡ ways_work net (map Into (edges_at net n)) + ways_work net (map Out (ends_at net n))
out_work net n =
    let one = sum_by-append (way_work net) (map Into (edges_at net n)) (map Out (ends_at net n) ++ backs_by n (wait_at net n)) in
    let two = sum_by-append (way_work net) (map Out (ends_at net n)) (backs_by n (wait_at net n)) in
    let three = backs_work net n (wait_at net n) in omega (arith, one, two, three)

-- the ways so far and the next one are within all of them
pub ways_part : {X : Type 0} (f : X → Way) (net : Net) (xs : List X) (i : ℕ) (d : X) → i < length xs → ways_work net (map f (take i xs)) + way_work net (f (get_or xs i d)) ≤ ways_work net (map f xs)
ways_part f net [] i d lt = absurd (omega arith)
ways_part f net (x ∷ xs) zero d lt = let one = sum_by-cons (way_work net) (f x) (map f xs) in omega (arith, one)
ways_part f net (x ∷ xs) (suc i) d lt =
    let rest = ways_part f net xs i d (omega (arith, lt)) in
    let one = sum_by-cons (way_work net) (f x) (map f xs) in
    let two = sum_by-cons (way_work net) (f x) (map f (take i xs)) in omega (arith, rest, one, two)

-- the ways of the targets so far and of the next one are within those of all
pub flat_part : {X : Type 0} (f : X → List Way) (net : Net) (xs : List X) (i : ℕ) (d : X) → i < length xs → ways_work net (flat_map f (take i xs)) + ways_work net (f (get_or xs i d)) ≤ ways_work net (flat_map f xs)
flat_part f net [] i d lt = absurd (omega arith)
flat_part f net (x ∷ xs) zero d lt = let one = sum_by-append (way_work net) (f x) (flat_map f xs) in omega (arith, one)
flat_part f net (x ∷ xs) (suc i) d lt =
    let rest = flat_part f net xs i d (omega (arith, lt)) in
    let one = sum_by-append (way_work net) (f x) (flat_map f xs) in
    let two = sum_by-append (way_work net) (f x) (flat_map f (take i xs)) in omega (arith, rest, one, two)

-- the ways of one target more
pub flat_more : {X : Type 0} (f : X → List Way) (net : Net) (xs : List X) (i : ℕ) (d : X) → i < length xs → ways_work net (flat_map f (take (i + 1) xs)) ≡ ways_work net (flat_map f (take i xs)) + ways_work net (f (get_or xs i d))
flat_more f net xs i d lt =
    ap (ways_work net) (ap (flat_map f) (take_more xs i d lt) ∙ flat_map-append f (take i xs) (get_or xs i d ∷ []) ∙ ap (λ ws. flat_map f (take i xs) ++ ws) (append-nil (f (get_or xs i d))))
    ∙ sum_by-append (way_work net) (flat_map f (take i xs)) (f (get_or xs i d))

-- what was found is no more than what is looked up
pub found_less : {X : Type 0} (f : X → ℕ) (p : X → Bool) (found others all : List X) → IsPermutation (found ++ others) all → All (λ x. p x ≡ true) found → sum_by f found ≤ sum_by f (filter p all)
found_less f p found others all same passes =
    let e = sum_by-IsPermutation f (filter p (found ++ others)) (filter p all) (filter_permuted p (found ++ others) all same) in
    let two = ap (sum_by f) (filter-append p found others ∙ ap (λ xs. xs ++ filter p others) (filter_all p found passes)) ∙ sum_by-append f found (filter p others) in
    omega (arith, e, two)

-- the targets that a tuple finds lead on ways that are looked up
pub ways_less : (net : Net) (s : ℕ) (t : TupleView) (targets : List Target) → FindsWays net s t targets → ways_work net (flat_map (way_of net) targets) ≤ ways_work net (filter (is_way_looked_up net t) (ways_on net s))
ways_less net s t targets finds = found_less (way_work net) (is_way_looked_up net t) (flat_map (way_of net) targets) finds.others (ways_on net s) finds.all
    (All-weaker (MeetsParts net t) (λ way. is_way_looked_up net t way ≡ true) (λ way met. matched_is_looked_up t (parts_on net way) met) (flat_map (way_of net) targets) finds.met)

-- the states that it finds are looked up
pub states_less : (work : ℕ → ℕ) (net : Net) (stores : Stores) (s : ℕ) (t : TupleView) (states : List ℕ) → FindsWaits net stores s t states → sum_by work states ≤ sum_by work (filter (is_state_looked_up net t) (waits_on net s))
states_less work net stores s t states finds = found_less work (is_state_looked_up net t) states finds.others (waits_on net s) finds.all finds.looked_up
