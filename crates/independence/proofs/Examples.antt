-- Examples of what lines depend on, worked out by hand. No contract cites them.
use Rattle.std.proofs.Common.{◌≡◌, refl, ℕ, zero, suc, ◌+◌, ◌-◌, true, false, List, [], ◌∷◌, map, arith}
use Rattle.std.specs.Prelude.{Err, None, Ok, codes}
use Rattle.event_types.specs.declared.kind.Kind.TheVariants as kind
use Rattle.semantics.specs.Expressions.{Read}
use Rattle.semantics.specs.Programs.{Query as ProgramQuery}
use Rattle.stream_schema.specs.Streams.{Entry}
use Rattle.cel_grammar.specs.Trees.{Statement, Stream, Query, Col, All, Name}
use Rattle.catalogue.specs.Adding.{AddedQuery}
use Rattle.courses.specs.ControlLines.{OfControl, dropped_entry, query_named}
use Rattle.courses.specs.declared.fault.ControlFault.TheVariants as fault
use Rattle.courses.specs.Course.{Adds, Drops, Hears, set_after}
use Rattle.courses.specs.QuerySet.{QuerySet, newcomer}
use Rattle.independence.specs.Courses.{AreOneEntry}
use Rattle.independence.specs.Renumbered.{DifferInNumbersAlone, StandAmong}
use Rattle.independence.specs.ReadsFrom.{ReadsFrom, own, through}
use Rattle.independence.proofs.WithinLemmas.{reads-among}

-- STREAM S (x INT); SELECT * FROM S PUBLISH P; SELECT * FROM P PUBLISH Q; SELECT * FROM S PUBLISH R;
abbrev statements : List Statement
statements =
    Stream (codes "S") (Col (codes "x") kind.Int ∷ []) ∷ Query (All ∷ []) (Name (codes "S")) (codes "P") ∷ Query (All ∷ []) (Name (codes "P")) (codes "Q")
    ∷ Query (All ∷ []) (Name (codes "S")) (codes "R") ∷ []

-- Q reads from S, through the stream that P publishes
reads_through : ReadsFrom statements (codes "Q") (codes "S")
reads_through =
    through (Query (All ∷ []) (Name (codes "S")) (codes "P")) (1, omega arith, refl)
    (through (Query (All ∷ []) (Name (codes "P")) (codes "Q")) (2, omega arith, refl) own (0, omega arith, refl)) (0, omega arith, refl)

-- and not from R, though both read from S
reads_no_other : ReadsFrom statements (codes "Q") (codes "R") → ⊥
reads_no_other reads = let e : false ≡ true = reads-among statements (codes "Q") (codes "Q" ∷ codes "P" ∷ codes "S" ∷ []) refl refl (codes "R") reads in cc

-- two queries that read the first stream, and the sets of one of them and of both
abbrev first_query : ProgramQuery
first_query = record { name = codes "P"; stream = 1; hidden = 2; expr = Read 0; birth = None }

abbrev second_query : ProgramQuery
second_query = record { name = codes "R"; stream = 2; hidden = 3; expr = Read 0; birth = None }

abbrev smaller : QuerySet
smaller = record { streams = []; program = record { declared = 1; queries = first_query ∷ []; order = first_query ∷ [] } }

abbrev larger : QuerySet
larger = record { streams = []; program = record { declared = 1; queries = first_query ∷ second_query ∷ []; order = first_query ∷ second_query ∷ [] } }

-- a control line that drops a query which the larger set alone has is refused with the smaller, so the law asks that no line is refused with either
dropped_from_larger : dropped_entry larger (codes "R") (query_named larger (codes "R")) ≡ Ok (Drops second_query)
dropped_from_larger = refl

refused_with_smaller : dropped_entry smaller (codes "R") (query_named smaller (codes "R")) ≡ Err (OfControl (fault.UnknownQuery (codes "R")))
refused_with_smaller = refl

-- a declared stream without attributes
abbrev stream : List ℕ → Entry
stream name = record { name = name; schema = []; declared = true }

-- one event, where the streams stand in another order: its stream has the same name, and not the same number
one_event : AreOneEntry (stream (codes "S") ∷ stream (codes "T") ∷ []) (stream (codes "T") ∷ stream (codes "S") ∷ []) (Hears (record { stream = 0; tuple = record { vals = []; from = 1; at = 1 } })) (Hears (record { stream = 1; tuple = record { vals = []; from = 1; at = 1 } }))
one_event = record { streams_are = record { name = codes "S"; first = refl; second = refl }; tuples_are = refl }

-- a set of one stream, and a query that is added to it
abbrev base : QuerySet
base = record { streams = stream (codes "S") ∷ []; program = record { declared = 1; queries = []; order = [] } }

abbrev added : List ℕ → AddedQuery
added name = record { statement = Query (All ∷ []) (Name (codes "S")) name; schema = []; expr = Read 0 }

-- P comes; and X comes and leaves, and then P comes
abbrev direct : QuerySet
direct = set_after base (Adds (added (codes "P")) ∷ [])

abbrev around : QuerySet
around = set_after base (Adds (added (codes "X")) ∷ Drops (newcomer base (added (codes "X")) None) ∷ Adds (added (codes "P")) ∷ [])

-- P's stream has the number 1 in the one set, and 2 in the other, where that of X is retired
there_from_direct : StandAmong (λ n. n + n) direct.streams around.streams
there_from_direct zero entry at there = at
there_from_direct (suc zero) entry at there = at
there_from_direct (suc (suc n)) entry at there = cc

back_from_around : StandAmong (λ n. n - 1) around.streams direct.streams
back_from_around zero entry at there = at
back_from_around (suc zero) entry at there = absurd (there refl)
back_from_around (suc (suc zero)) entry at there = at
back_from_around (suc (suc (suc n))) entry at there = cc

-- so the sets aren't equal, and differ in numbers alone
differ_in_numbers : DifferInNumbersAlone direct around
differ_in_numbers = record {
  number = λ n. n + n;
  number_back = λ n. n - 1;
  there = record { streams_are = there_from_direct; queries_are = (record { names_are = refl; streams_are = refl; expressions_are = refl; births_are = refl }, tt) };
  back = record { streams_are = back_from_around; queries_are = (record { names_are = refl; streams_are = refl; expressions_are = refl; births_are = refl }, tt) };
}

other_number : map (λ (q : ProgramQuery). q.stream) direct.program.queries ≡ 1 ∷ []
other_number = refl

other_number_around : map (λ (q : ProgramQuery). q.stream) around.program.queries ≡ 2 ∷ []
other_number_around = refl
