-- Examples that need each premise of the laws, each worked out by hand. No contract cites them.
use Rattle.std.proofs.Common.{◌≡◌, refl, ℕ, ◌==◌, pos, Bool, false, List, [], ◌∷◌, length}
use Rattle.std.specs.Prelude.{codes, None}
use Rattle.event_types.specs.declared.comparison.Cmp.TheVariants as cmp
use Rattle.event_types.specs.declared.value.Value.{Value}
use Rattle.event_types.specs.declared.value.Value.TheVariants as value
use Rattle.event_types.specs.Tuple.{TupleView}
use Rattle.semantics.specs.Expressions.{Ex, Read, Union, Next, Fold}
use Rattle.semantics.specs.Histories.{Event, times}
use Rattle.semantics.specs.Programs.{Program, Query}
use Rattle.semantics.specs.Results.{results}
use Rattle.semantics.specs.Scalars.{Add, Binding, Not, Or, Pr, Test, True, Two}
use Rattle.semantics.specs.Scalars as term
use Rattle.semantics.proofs.Examples.{number, pair, tuple}
use Rattle.history_laws.specs.Keys.{events_with_keys, with_keys}
use Rattle.history_laws.specs.LateStarts.{late}

-- a program of two declared streams, 0 and 1, and one query, which publishes 2
abbrev asking : Ex → Program
asking expr =
    let query : Query = record { name = codes "Q"; stream = 2; hidden = 3; expr = expr; birth = None } in
    record { declared = 2; queries = query ∷ []; order = query ∷ [] }

-- an event of one number, or of two, on a stream
abbrev one : ℕ → ℕ → ℕ → ℕ → Event
one stream n from at = record { stream = stream; tuple = tuple n from at }

abbrev two : ℕ → ℕ → ℕ → ℕ → Event
two stream m n at = record { stream = stream; tuple = pair m n at at }

-- SELECT * FROM S NEXT {$2.k = $1.k} S PUBLISH Q;
abbrev same_key : Pr
same_key = Test (term.Event 0) cmp.Eq (Binding 0)

abbrev joins : Program
joins = asking (Next (same_key ∷ []) (Read 0) (Read 0))

-- the same with T on the right
abbrev joins_other : Program
joins_other = asking (Next (same_key ∷ []) (Read 0) (Read 1))

-- where a detection time falls, the epochs come in another order
times_in_order : times (one 0 7 1 1 ∷ one 0 7 2 2 ∷ []) ≡ 1 ∷ 2 ∷ []
times_in_order = refl

times_that_fall : times (one 0 7 2 2 ∷ one 0 7 1 1 ∷ []) ≡ 2 ∷ 1 ∷ []
times_that_fall = refl

-- a result that starts before 2 depends on the event of 1, though it is detected late
early_start_is_there : results joins (one 0 7 1 1 ∷ one 0 7 9 9 ∷ []) 2 9 ≡ pair 7 7 1 9 ∷ []
early_start_is_there = refl

-- so a monitor that began at 2 lacks it, as it spans more than has passed
early_start_is_lost : results joins (one 0 7 9 9 ∷ []) 2 9 ≡ []
early_start_is_lost = refl

-- where the event of T of 1 is heard before that of S of 0, it is the first to follow, and no result is at 9
next_is_there : results joins_other (one 1 7 1 1 ∷ one 0 7 0 0 ∷ one 1 7 9 9 ∷ []) 2 9 ≡ []
next_is_there = refl

-- a monitor that missed it has one, which spans 9: so that its own results span no more is asked as well
next_is_missing : results joins_other (one 0 7 0 0 ∷ one 1 7 9 9 ∷ []) 2 9 ≡ pair 7 7 0 9 ∷ []
next_is_missing = refl

-- a binding that started after its detection would meet an event that starts before 5
unsound_start_meets_an_early_event : late 5 (results joins_other (one 0 7 5 1 ∷ one 1 7 3 9 ∷ []) 2 9) ≡ pair 7 7 5 9 ∷ []
unsound_start_meets_an_early_event = refl

unsound_start_meets_none : late 5 (results joins_other (one 0 7 5 1 ∷ []) 2 9) ≡ []
unsound_start_meets_none = refl

-- the key of each stream is its first attribute, and 7 is ours
abbrev first : ℕ → ℕ
first stream = 0

abbrev is_seven : Value → Bool
is_seven (value.Int (pos n)) = n == 7
is_seven v = false

-- the results at a time over the events of our key, and those of our key over all events
abbrev of_part : Program → List Event → ℕ → List TupleView
of_part program history time = results program (events_with_keys is_seven first history) 2 time

abbrev of_whole : Program → List Event → ℕ → List TupleView
of_whole program history time = with_keys is_seven 0 (results program history 2 time)

-- where the condition has the key, a part has its results
abbrev sevens : List Event
sevens = one 0 7 1 1 ∷ one 0 8 2 2 ∷ one 0 7 3 3 ∷ []

key_holds : (of_part joins sevens 3 ≡ pair 7 7 1 3 ∷ []) × (of_whole joins sevens 3 ≡ pair 7 7 1 3 ∷ [])
key_holds = (refl, refl)

-- under OR the key joins none: 7 meets 8 in the whole alone
key_under_or : (of_part (asking (Next (Or same_key True ∷ []) (Read 0) (Read 0))) sevens 2 ≡ []) × (of_whole (asking (Next (Or same_key True ∷ []) (Read 0) (Read 0))) sevens 2 ≡ pair 7 8 1 2 ∷ [])
key_under_or = (refl, refl)

-- nor under NOT
key_under_not : (of_part (asking (Next (Not same_key ∷ []) (Read 0) (Read 0))) sevens 2 ≡ []) × (of_whole (asking (Next (Not same_key ∷ []) (Read 0) (Read 0))) sevens 2 ≡ pair 7 8 1 2 ∷ [])
key_under_not = (refl, refl)

-- FOLD {$2.k = $.k, TRUE, $.k + 1 AS k} makes an 8 of two sevens, which is no result of our key
abbrev counts_up : Program
counts_up = asking (Fold (same_key ∷ []) [] (record { width = 1; parts = Two Add (Binding 0) (number 1) ∷ [] }) (Read 0) (Read 0))

key_assigned : (of_part counts_up sevens 3 ≡ tuple 8 1 3 ∷ []) × (of_whole counts_up sevens 3 ≡ [])
key_assigned = (refl, refl)

-- in the second condition of FOLD alone it joins none: in the whole 8 is the first to follow, and it ends the run
abbrev goes_on_by_key : Program
goes_on_by_key = asking (Fold [] (same_key ∷ []) (record { width = 1; parts = Binding 0 ∷ [] }) (Read 0) (Read 0))

key_in_second : (of_part goes_on_by_key sevens 3 ≡ tuple 7 1 3 ∷ []) × (of_whole goes_on_by_key sevens 3 ≡ [])
key_in_second = (refl, refl)

-- the key of S is its first attribute, and that of T its second: their union has it neither at the first place nor at the second
abbrev by_stream : ℕ → ℕ
by_stream stream = stream

abbrev both : Program
both = asking (Union (Read 0) (Read 1))

key_at_first : (results both (events_with_keys is_seven by_stream (two 1 5 7 1 ∷ [])) 2 1 ≡ pair 5 7 1 1 ∷ []) × (with_keys is_seven 0 (results both (two 1 5 7 1 ∷ []) 2 1) ≡ [])
key_at_first = (refl, refl)

key_at_second : (results both (events_with_keys is_seven by_stream (two 0 7 5 1 ∷ [])) 2 1 ≡ pair 7 5 1 1 ∷ []) × (with_keys is_seven 1 (results both (two 0 7 5 1 ∷ []) 2 1) ≡ [])
key_at_second = (refl, refl)

-- an event that started after its detection would follow itself, once more for each event of another key
abbrev follows_itself : Program
follows_itself = asking (Fold (same_key ∷ []) [] (record { width = 1; parts = Binding 0 ∷ [] }) (Read 0) (Read 1))

unsound_run_of_part : length (of_part follows_itself (one 0 7 0 0 ∷ one 1 7 5 1 ∷ one 1 8 1 1 ∷ []) 1) ≡ 1
unsound_run_of_part = refl

unsound_run_of_whole : length (of_whole follows_itself (one 0 7 0 0 ∷ one 1 7 5 1 ∷ one 1 8 1 1 ∷ []) 1) ≡ 2
unsound_run_of_whole = refl
