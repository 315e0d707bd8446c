-- The targets of roots, and their ways.
use Rattle.std.proofs.Common.{◌≡◌, ◌∙◌, sym, ap, refl, subst, ℕ, ◌+◌, ◌<◌, Bool, true, false, ◌&&◌, nat_lt, IsTrue, cond, length, get_or, List, [], ◌∷◌, ◌++◌, map, append_assoc, arith}
use Rattle.std.specs.Prelude.{Contains, Option, Some, None, is_some, slice_get}
use Rattle.std.specs.Option.{option_and_then}
use Rattle.std.specs.List.{All, filter, flat_map, range_with_len}
use Rattle.std.proofs.lemmas.Grind.{flat_map-append}
use Rattle.std.proofs.lemmas.List.{append-nil, length-append}
use Rattle.std.proofs.lemmas.List.Elements.{All-append, All-cons, All-contains_itself, All-head, All-map, All-nil, All-tail, All-weaker, filter_passes}
use Rattle.event_types.specs.Tuple.{TupleView}
use Rattle.semantics.specs.Scalars.{Pr}
use Rattle.semantics.specs.Truth.{all_true}
use Rattle.automaton.specs.Networks.{IsNetwork}
use Rattle.automaton.specs.States.{Net, edges_at, ends_at, ends_in, entrance_at, is_used, root_by, state_at, step_at, tells, wait_at, wait_by}
use Rattle.automaton.specs.Steps.{pass}
use Rattle.automaton.specs.declared.network.End.{End}
use Rattle.automaton.specs.declared.network.Entrance.{Entrance}
use Rattle.automaton.specs.declared.network.Entrance.TheVariants.{Root, Waiting}
use Rattle.automaton.specs.declared.network.State.{State}
use Rattle.automaton.specs.declared.step.Stage.{Stage}
use Rattle.automaton.specs.declared.step.Stage.TheVariants.{Keep, Make}
use Rattle.automaton.specs.declared.wait.Wait.{Wait}
use Rattle.automaton.proofs.ClearedLemmas.{edge_leads, entered_used}
use Rattle.static_index.specs.FixedParts.{all_hold, fixed_parts}
use Rattle.static_index.proofs.LawLemmas.{holding_is_matched}
use Rattle.stream_readers.specs.Finding.{IsDeaf, IsSilent, is_root_on, ways_on}
use Rattle.stream_readers.specs.Readers.{targets_on}
use Rattle.stream_readers.specs.Targets.{IsTarget, end_at, out_by, step_of, step_to, targets_at, way_of}
use Rattle.stream_readers.specs.Ways.{Into, MeetsParts, Out, backs_by, first_parts, parts_at, parts_in, ways_at}
use Rattle.stream_readers.specs.declared.target.Target.{Target}
use Rattle.stream_readers.specs.declared.target.Target.TheVariants as target
use Rattle.stream_readers.proofs.FilingLemmas.{at_seam, range_below}

-- edges lead to states
pub edges_used : (net : Net) → IsNetwork net → (n : ℕ) → All (λ k. IsTrue (is_used net k)) (edges_at net n)
edges_used net network n = All-weaker (Contains (edges_at net n)) (λ k. IsTrue (is_used net k)) (λ k there. used k there) (edges_at net n) (All-contains_itself (edges_at net n))
  where
    used : (k : ℕ) → Contains (edges_at net n) k → IsTrue (is_used net k)
    used k there = subst (λ (m : ℕ). is_used net m ≡ true) there.2 (entered_used net network (get_or (edges_at net n) there.0 k) n (edge_leads net network n there.0 k there.1))

-- where an end is, a state is
pub ends_used : (net : Net) (n place : ℕ) → place < length (ends_at net n) → IsTrue (is_used net n)
ends_used net n place lt = go (state_at net n) lt
  where
    go : (o : Option State) → place < length (ends_in o) → IsTrue (is_some o)
    go None lt = absurd (omega arith)
    go (Some state) lt = refl

-- the targets of a state are there
targets_are : (net : Net) → IsNetwork net → (n : ℕ) → All (IsTarget net) (targets_at net n)
targets_are net network n =
    let count = length (ends_at net n) in
    All-append (IsTarget net) (map target.Edge (edges_at net n)) (map (end_at net n) (range_with_len 0 count)) (All-map (IsTarget net) target.Edge (edges_at net n) (edges_used net network n))
    (All-map (IsTarget net) (end_at net n) (range_with_len 0 count)
    (All-weaker (λ (k : ℕ). k < count) (λ k. IsTarget net (end_at net n k)) (λ k lt. (ends_used net n k lt, lt, refl)) (range_with_len 0 count) (range_below 0 count count (omega arith))))

-- those of the roots of a stream are there
pub targets_there : (net : Net) → IsNetwork net → (stream : ℕ) → All (IsTarget net) (targets_on net stream)
targets_there net network stream = go (filter (is_root_on net stream) (range_with_len 0 (length net)))
  where
    go : (numbers : List ℕ) → All (IsTarget net) (flat_map (targets_at net) numbers)
    go [] = All-nil (IsTarget net)
    go (n ∷ numbers) = All-append (IsTarget net) (targets_at net n) (flat_map (targets_at net) numbers) (targets_are net network n) (go numbers)

into_ways : (net : Net) (states : List ℕ) → flat_map (way_of net) (map target.Edge states) ≡ map Into states
into_ways net [] = refl
into_ways net (k ∷ states) = ap (λ ways. Into k ∷ ways) (into_ways net states)

-- the ends behind the first ones, by their places
out_ways : (net : Net) (n : ℕ) (before after : List End) → ends_at net n ≡ before ++ after → flat_map (way_of net) (map (end_at net n) (range_with_len (length before) (length after))) ≡ map Out after
out_ways net n before [] is = refl
out_ways net n before (end ∷ after) is =
    ap (λ o. out_by o ++ flat_map (way_of net) (map (end_at net n) (range_with_len (length before + 1) (length after)))) (ap (λ (ends : List End). slice_get ends (length before)) is ∙ at_seam before after end)
    ∙ ap (λ ways. Out end ∷ ways)
    (ap (λ m. flat_map (way_of net) (map (end_at net n) (range_with_len m (length after)))) (sym (length-append before (end ∷ []))) ∙ out_ways net n (before ++ end ∷ []) after (is ∙ sym (append_assoc before (end ∷ []) after)))

-- nothing goes back to a root
root_backs : (net : Net) (stream n : ℕ) → is_root_on net stream n ≡ true → backs_by n (wait_at net n) ≡ []
root_backs net stream n is = go (entrance_at net n) is
  where
    go : (o : Option Entrance) → tells stream (option_and_then root_by o) ≡ true → backs_by n (option_and_then wait_by o) ≡ []
    go None is = refl
    go (Some (Root root)) is = refl
    go (Some (Waiting before hop)) is = absurd (cc)

-- the targets of a root lead on its ways
root_ways : (net : Net) (stream n : ℕ) → is_root_on net stream n ≡ true → flat_map (way_of net) (targets_at net n) ≡ ways_at net n
root_ways net stream n is =
    let edges = map Into (edges_at net n) in
    let ends = map Out (ends_at net n) in
    flat_map-append (way_of net) (map target.Edge (edges_at net n)) (map (end_at net n) (range_with_len 0 (length (ends_at net n))))
    ∙ ap (λ ways. ways ++ flat_map (way_of net) (map (end_at net n) (range_with_len 0 (length (ends_at net n))))) (into_ways net (edges_at net n)) ∙ ap (λ ways. edges ++ ways) (out_ways net n [] (ends_at net n) refl)
    ∙ ap (λ ways. edges ++ ways) (sym (append-nil ends)) ∙ ap (λ ways. edges ++ (ends ++ ways)) (sym (root_backs net stream n is))

-- the targets of the roots of a stream lead on the ways out of these roots
pub targets_ways : (net : Net) (stream : ℕ) → flat_map (way_of net) (targets_on net stream) ≡ ways_on net stream
targets_ways net stream = let roots = filter (is_root_on net stream) (range_with_len 0 (length net)) in go roots (filter_passes (is_root_on net stream) (range_with_len 0 (length net)))
  where
    go : (numbers : List ℕ) → All (λ n. is_root_on net stream n ≡ true) numbers → flat_map (way_of net) (flat_map (targets_at net) numbers) ≡ flat_map (ways_at net) numbers
    go [] all = refl
    go (n ∷ numbers) all =
        flat_map-append (way_of net) (targets_at net n) (flat_map (targets_at net) numbers)
        ∙ ap (λ ways. ways ++ flat_map (way_of net) (flat_map (targets_at net) numbers)) (root_ways net stream n (All-head (λ (m : ℕ). is_root_on net stream m ≡ true) n numbers all))
        ∙ ap (λ ways. ways_at net n ++ ways) (go numbers (All-tail (λ (m : ℕ). is_root_on net stream m ≡ true) n numbers all))

-- a condition of which a fixed part fails doesn't hold
parts_fail : (condition : List Pr) (tuple : TupleView) (binding : Option TupleView) → all_hold tuple (fixed_parts condition) ≡ false → all_true condition tuple binding ≡ false
parts_fail condition tuple binding fails = go (all_true condition tuple binding) refl
  where
    go : (b : Bool) → all_true condition tuple binding ≡ b → b ≡ false
    go false is = refl
    go true is = let holds = holding_is_matched condition tuple binding is in absurd (cc)

-- so nothing passes a step that begins with it
silent_step : (tuple : TupleView) (step : List Stage) → all_hold tuple (first_parts step) ≡ false → pass step tuple ≡ None
silent_step tuple [] fails = absurd (cc)
silent_step tuple (Keep condition ∷ step) fails = ap (λ b. option_and_then (pass step) (cond b (Some tuple) None)) (parts_fail condition tuple None fails)
silent_step tuple (Make m ∷ step) fails = absurd (cc)

-- nothing comes of a tuple on the way to a target of which a fixed part fails
pub silent_target : (net : Net) (tuple : TupleView) (target : Target) → all_hold tuple (first_parts (step_to net target)) ≡ false → All (IsSilent net tuple) (way_of net target)
silent_target net tuple (target.Edge next) fails = All-cons (IsSilent net tuple) (Into next) [] (silent_step tuple (step_at net next) fails) (All-nil (IsSilent net tuple))
silent_target net tuple (target.End place) fails = go (slice_get (ends_at net place.state) place.place) fails
  where
    go : (o : Option End) → all_hold tuple (first_parts (step_of o)) ≡ false → All (IsSilent net tuple) (out_by o)
    go None fails = All-nil (IsSilent net tuple)
    go (Some end) fails = All-cons (IsSilent net tuple) (Out end) [] (silent_step tuple end.step fails) (All-nil (IsSilent net tuple))

-- where the fixed parts of a target all hold, so do those on its way
pub met_target : (net : Net) (tuple : TupleView) (target : Target) → all_hold tuple (first_parts (step_to net target)) ≡ true → All (MeetsParts net tuple) (way_of net target)
met_target net tuple (target.Edge next) holds = All-cons (MeetsParts net tuple) (Into next) [] holds (All-nil (MeetsParts net tuple))
met_target net tuple (target.End place) holds = go (slice_get (ends_at net place.state) place.place) holds
  where
    go : (o : Option End) → all_hold tuple (first_parts (step_of o)) ≡ true → All (MeetsParts net tuple) (out_by o)
    go None holds = All-nil (MeetsParts net tuple)
    go (Some end) holds = All-cons (MeetsParts net tuple) (Out end) [] holds (All-nil (MeetsParts net tuple))

-- a tuple is eligible for no binding at a state of which a fixed part fails
pub deaf_state : (net : Net) (tuple : TupleView) (n : ℕ) → all_hold tuple (parts_at net n) ≡ false → IsDeaf net tuple n
deaf_state net tuple n fails wait is binding =
    ap (λ b. nat_lt binding.at tuple.from && b) (parts_fail wait.choose tuple (Some binding) (ap (λ (o : Option Wait). all_hold tuple (parts_in o)) (sym is) ∙ fails)) ∙ and_false (nat_lt binding.at tuple.from)
  where
    and_false : (b : Bool) → (b && false) ≡ false
    and_false true = refl
    and_false false = refl
