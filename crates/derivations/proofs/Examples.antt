-- Examples of derivations, each worked out by hand. No contract cites them.
use Rattle.std.proofs.Common.{◌≡◌, refl, ℕ, List, [], ◌∷◌, ◌++◌, lit<}
use Rattle.std.specs.Prelude.{None, codes}
use Rattle.std.specs.declared.cmp.Ordering.TheVariants.{Less}
use Rattle.std.proofs.lemmas.Fmt.{decimal_digit}
use Rattle.event_types.specs.declared.comparison.Cmp.TheVariants as cmp
use Rattle.semantics.specs.Scalars.{Event, Binding, Two, Add, Test}
use Rattle.semantics.specs.Expressions.{Ex, Read, Filter, Select, Union, Next, Fold}
use Rattle.semantics.specs.Histories.{Event as TheEvent}
use Rattle.semantics.specs.Programs.{Program, Query}
use Rattle.semantics.proofs.Examples.{number, pair, tuple}
use Rattle.derivations.specs.Derivation.{Derivation, Derivations}
use Rattle.derivations.specs.Derivation as the
use Rattle.derivations.specs.DerivationOrder.{by_cmp}
use Rattle.derivations.specs.DerivedPrograms.{derived_env}
use Rattle.derivations.specs.Derives.{Derives}
use Rattle.derivations.specs.Derives as row
use Rattle.derivations.specs.Texts.{all_text, by_text}
use Rattle.derivations.specs.declared.history.Heard.{Heard}
use Rattle.derivations.proofs.ListLemmas.{first_in}

-- the program of one declared stream and one query, which publishes the stream 1
abbrev query_of : Ex → Query
query_of e = record { name = []; stream = 1; hidden = 2; expr = e; birth = None }

abbrev program_of : Ex → Program
program_of e = record { declared = 1; queries = query_of e ∷ []; order = query_of e ∷ [] }

-- an event of one number at a time
abbrev event : ℕ → ℕ → TheEvent
event n time = record { stream = 0; tuple = tuple n time time }

-- the prices 10, 11 and 12 at the times 1, 2 and 3
abbrev rising : List TheEvent
rising = event 10 1 ∷ event 11 2 ∷ event 12 3 ∷ []

-- S NEXT {TRUE} S
abbrev followed : Program
followed = program_of (Next [] (Read 0) (Read 0))

-- each event is joined with the next one alone
followed_by : derived_env followed rising 1 ≡ record { tuple = pair 10 11 1 2; by = the.Next (the.Event 1) (the.Event 2) } ∷ record { tuple = pair 11 12 2 3; by = the.Next (the.Event 2) (the.Event 3) } ∷ []
followed_by = refl

-- the prices 10, 9 and 8 at these times
abbrev falling : List TheEvent
falling = event 10 1 ∷ event 9 2 ∷ event 8 3 ∷ []

-- S FOLD {$2.a < $.a, TRUE, $2.a AS a} S
abbrev iterated : Program
iterated = program_of (Fold (Test (Event 0) cmp.Lt (Binding 0) ∷ []) [] (record { width = 1; parts = Event 0 ∷ [] }) (Read 0) (Read 0))

-- a run has all its events, and a run goes out from each event
iterated_by : derived_env iterated falling 1
    ≡ record { tuple = tuple 9 1 2; by = the.Fold (the.Event 1) (the.More (the.Event 2) the.None) }
    ∷ record { tuple = tuple 8 1 3; by = the.Fold (the.Event 1) (the.More (the.Event 2) (the.More (the.Event 3) the.None)) }
    ∷ record { tuple = tuple 8 2 3; by = the.Fold (the.Event 2) (the.More (the.Event 3) the.None) } ∷ []
iterated_by = refl

-- S UNION S
abbrev united : Program
united = program_of (Union (Read 0) (Read 0))

-- an event comes out on both sides, by two derivations
united_by : derived_env united (event 10 1 ∷ []) 1 ≡ record { tuple = tuple 10 1 1; by = the.Left (the.Event 1) } ∷ record { tuple = tuple 10 1 1; by = the.Right (the.Event 1) } ∷ []
united_by = refl

-- equal events are told apart by their places
equal_events_differ : derived_env (program_of (Filter [] (Read 0))) (event 10 1 ∷ event 10 1 ∷ []) 1 ≡ record { tuple = tuple 10 1 1; by = the.Event 1 } ∷ record { tuple = tuple 10 1 1; by = the.Event 2 } ∷ []
equal_events_differ = refl

-- SELECT and FILTER leave no trace
projected_by : derived_env (program_of (Select (record { width = 1; parts = Event 0 ∷ Two Add (Event 0) (Event 0) ∷ [] }) (Filter (Test (Event 0) cmp.Gt (number 10) ∷ []) (Read 0)))) rising 1
    ≡ record { tuple = pair 11 22 2 2; by = the.Event 2 } ∷ record { tuple = pair 12 24 3 3; by = the.Event 3 } ∷ []
projected_by = refl

-- a query over a query: its tuples come by those of the other
abbrev chained : Program
chained =
    let first : Query = query_of (Union (Read 0) (Read 0)) in
    let second : Query = record { name = []; stream = 2; hidden = 3; expr = Next [] (Read 1) (Read 0); birth = None } in record { declared = 1; queries = second ∷ first ∷ []; order = first ∷ second ∷ [] }

chained_by : derived_env chained (event 10 1 ∷ event 11 2 ∷ []) 2
    ≡ record { tuple = pair 10 11 1 2; by = the.Next (the.Query (the.Left (the.Event 1))) (the.Event 2) } ∷ record { tuple = pair 10 11 1 2; by = the.Next (the.Query (the.Right (the.Event 1))) (the.Event 2) } ∷ []
chained_by = refl

-- the event at this place derives its tuple
event_derives : (e : Ex) → Derives (program_of e) rising (Read 0) (the.Event 2) (tuple 11 2 2)
event_derives e = row.event (record { declared = lit< tt; index = 1; counted = refl; heard = refl })

-- the first two events derive their match
match_derives : Derives followed rising (Next [] (Read 0) (Read 0)) (the.Next (the.Event 1) (the.Event 2)) (pair 10 11 1 2)
match_derives =
    row.next (row.event (record { declared = lit< tt; index = 0; counted = refl; heard = refl })) (event_derives (Next [] (Read 0) (Read 0))) (first_in (tuple 11 2 2) []) refl

-- the run of all three falling prices
run_derives : Derives iterated falling (Fold (Test (Event 0) cmp.Lt (Binding 0) ∷ []) [] (record { width = 1; parts = Event 0 ∷ [] }) (Read 0) (Read 0)) (the.Fold (the.Event 1) (the.More (the.Event 2) (the.More (the.Event 3) the.None))) (tuple 8 1 3)
run_derives =
    row.fold (row.event (record { declared = lit< tt; index = 0; counted = refl; heard = refl }))
    (row.more (row.event (record { declared = lit< tt; index = 1; counted = refl; heard = refl })) (first_in (tuple 9 2 2) [])
    (row.last (row.event (record { declared = lit< tt; index = 2; counted = refl; heard = refl })) (first_in (tuple 8 3 3) []) refl))

-- the falling prices stand in the lines 2, 3 and 5 of a text
abbrev lines : List Heard
lines = record { stream = 0; tuple = tuple 10 1 1; line = 2 } ∷ record { stream = 0; tuple = tuple 9 2 2; line = 3 } ∷ record { stream = 0; tuple = tuple 8 3 3; line = 5 } ∷ []

-- an event is written by its line
match_text : by_text lines (the.Next (the.Event 1) (the.Event 3)) ≡ codes "N(2,5)"
match_text = λ i. codes "N(" ++ decimal_digit 2 (lit< tt) i ++ codes "," ++ decimal_digit 5 (lit< tt) i ++ codes ")"

-- a tuple of a query's stream, and a side of UNION
side_text : by_text lines (the.Query (the.Left (the.Event 3))) ≡ codes "Q(L(5))"
side_text = λ i. codes "Q(" ++ (codes "L(" ++ decimal_digit 5 (lit< tt) i ++ codes ")") ++ codes ")"

-- a run is written with all its events, a comma before each
last_text : all_text lines (the.More (the.Event 3) the.None) ≡ codes ",5"
last_text = λ i. codes "," ++ decimal_digit 5 (lit< tt) i ++ []

run_text : by_text lines (the.Fold (the.Event 1) (the.More (the.Event 2) (the.More (the.Event 3) the.None))) ≡ codes "F(2,3,5)"
run_text = λ i. codes "F(" ++ decimal_digit 2 (lit< tt) i ++ (codes "," ++ decimal_digit 3 (lit< tt) i ++ last_text i) ++ codes ")"

-- the left side comes before the right one, whatever its events
sides_in_order : by_cmp (the.Left (the.Event 9)) (the.Right (the.Event 1)) ≡ Less
sides_in_order = refl

-- a run comes before the longer ones that begin with it
runs_in_order : by_cmp (the.Fold (the.Event 1) (the.More (the.Event 2) the.None)) (the.Fold (the.Event 1) (the.More (the.Event 2) (the.More (the.Event 3) the.None))) ≡ Less
runs_in_order = refl
