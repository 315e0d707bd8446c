-- Examples of courses and of event texts with control lines, each worked out by hand. No contract cites them.
use Rattle.std.proofs.Common.{◌≡◌, ◌∙◌, ap, cond, is_none, refl, lit<, ℕ, ◌+◌, ◌<◌, false, true, List, [], ◌∷◌, ◌++◌, map}
use Rattle.std.specs.Prelude.{codes, None, Some, Ok, Err}
use Rattle.std.specs.List.{join_with_byte}
use Rattle.std.proofs.lemmas.Fmt.{decimal_digit}
use Rattle.event_types.specs.declared.comparison.Cmp.TheVariants as cmp
use Rattle.event_types.specs.declared.kind.Kind.TheVariants as kind
use Rattle.event_types.specs.Tuple.{TupleView}
use Rattle.semantics.specs.Expressions.{Ex, Next, Read, Select}
use Rattle.semantics.specs.Histories.{Event}
use Rattle.semantics.specs.Programs.{Query}
use Rattle.semantics.specs.Report.{line, quoted}
use Rattle.semantics.specs.Results.{results}
use Rattle.semantics.specs.Scalars.{Binding, Test}
use Rattle.semantics.specs.Scalars.{Event as EventAt}
use Rattle.semantics.proofs.Examples.{pair, tuple}
use Rattle.stream_schema.specs.Schema.{Attr}
use Rattle.stream_schema.specs.Streams.{Entry}
use Rattle.cel_grammar.specs.declared.mark.Mark.TheVariants.{First, Second}
use Rattle.cel_grammar.specs.Trees as tree
use Rattle.catalogue.specs.Adding.{AddedQuery}
use Rattle.event_csv.specs.Control.{is_control}
use Rattle.event_csv.specs.Lines.{Line, lines_from}
use Rattle.event_csv.specs.declared.control.ControlError.TheVariants as error
use Rattle.courses.specs.declared.fault.ControlFault.TheVariants as fault
use Rattle.courses.specs.declared.refusal.Refusal.TheVariants.{IsOutOfOrder}
use Rattle.courses.specs.ControlLines.{OfControl, control_entry, dropped_entry, entry_of, query_named}
use Rattle.courses.specs.Course.{Adds, Course, Drops, Hears, after, events_in, start}
use Rattle.courses.specs.Heard.{closed_after, heard_after, refusal_of, refused_after, without_open}
use Rattle.courses.specs.QuerySet.{QuerySet, without}
use Rattle.courses.specs.Reports.{course_report, program_at}
use Rattle.courses.proofs.HeardLemmas.{one_more, refused_here}

-- an attribute of whole numbers
abbrev pub int : List ℕ → Attr
int name = record { name = name; kind = kind.Int }

-- streams that are declared, and that are published
abbrev pub declared : List ℕ → List Attr → Entry
declared name schema = record { name = name; schema = schema; declared = true }

abbrev published : List ℕ → List Attr → Entry
published name schema = record { name = name; schema = schema; declared = false }

-- SELECT * FROM S NEXT {$2.a > $1.a} S: the condition is turned round, and both attributes are selected
abbrev rising : Ex
rising = Select (record { width = 2; parts = EventAt 0 ∷ EventAt 1 ∷ [] }) (Next (Test (Binding 0) cmp.Lt (EventAt 0) ∷ []) (Read 0) (Read 0))

abbrev risings : List Attr
risings = int (codes "a") ∷ int (codes "a_2") ∷ []

abbrev pair_query : Query
pair_query = record { name = codes "Pair"; stream = 1; hidden = 2; expr = rising; birth = None }

-- STREAM S (a INT);
-- SELECT * FROM S NEXT {$2.a > $1.a} S PUBLISH Pair;
abbrev pub one_query : QuerySet
one_query = record {
  streams = declared (codes "S") (int (codes "a") ∷ []) ∷ published (codes "Pair") risings ∷ [];
  program = record { declared = 1; queries = pair_query ∷ []; order = pair_query ∷ [] };
}

-- SELECT * FROM S NEXT {$2.a > $1.a} S PUBLISH Pair2; in `LineExamples` it is what the line says that adds it
abbrev pub pair_more : AddedQuery
pair_more = record {
  statement = tree.Query (tree.All ∷ [])
      (tree.Next (tree.Test (tree.Attr Second (codes "a")) cmp.Gt (tree.Attr First (codes "a"))) (tree.Name (codes "S")) (tree.Name (codes "S"))) (codes "Pair2");
  schema = risings;
  expr = rising;
}

-- SELECT * FROM S PUBLISH Q; which a line adds too, also behind the second pairs
abbrev pub all_of_s : AddedQuery
all_of_s = record {
  statement = tree.Query (tree.All ∷ []) (tree.Name (codes "S")) (codes "Q");
  schema = int (codes "a") ∷ [];
  expr = Select (record { width = 1; parts = EventAt 0 ∷ [] }) (Read 0);
}

abbrev heard : ℕ → ℕ → Event
heard n at = record { stream = 0; tuple = tuple n at at }

abbrev two_heard : Course
two_heard = Hears (heard 5 1) ∷ Hears (heard 6 2) ∷ []

-- the second query comes between the events of 2 and 3
abbrev comes : Course
comes = two_heard ++ Adds pair_more ∷ Hears (heard 7 3) ∷ Hears (heard 8 4) ∷ []

-- the results of each query that is there at a time
abbrev results_at : Course → ℕ → List (List TupleView)
results_at course time = let program = program_at (start one_query) course time in map (λ query. results program (events_in course) query.stream time) program.queries

-- at 2 the second query isn't there; at 3 it lacks the pair that began before its birth; at 4 both have the pair that began at 3
results_of_comes : map (results_at comes) (1 ∷ 2 ∷ 3 ∷ 4 ∷ []) ≡ ([] ∷ []) ∷ ((pair 5 6 1 2 ∷ []) ∷ []) ∷ ((pair 6 7 2 3 ∷ []) ∷ [] ∷ []) ∷ ((pair 7 8 3 4 ∷ []) ∷ (pair 7 8 3 4 ∷ []) ∷ []) ∷ []
results_of_comes = refl

line_of_pair : (name : List ℕ) (m n from at : ℕ) → m < 10 → n < 10 → from < 10 → at < 10 → quoted name ≡ name
    → line name (pair m n from at) ≡ join_with_byte 44 (name ∷ ((48 + from) ∷ []) ∷ ((48 + at) ∷ []) ∷ ((48 + m) ∷ []) ∷ ((48 + n) ∷ []) ∷ []) ++ 10 ∷ []
line_of_pair name m n from at a b c d plain = λ i. join_with_byte 44 (plain i ∷ decimal_digit from c i ∷ decimal_digit at d i ∷ decimal_digit m a i ∷ decimal_digit n b i ∷ []) ++ 10 ∷ []

-- the added query's lines stand behind those of the first one
report_of_comes : course_report one_query comes ≡ codes "Pair,1,2,5,6\nPair,2,3,6,7\nPair,3,4,7,8\nPair2,3,4,7,8\n"
report_of_comes =
    let at_two = line_of_pair (codes "Pair") 5 6 1 2 (lit< tt) (lit< tt) (lit< tt) (lit< tt) refl in
    let at_three = line_of_pair (codes "Pair") 6 7 2 3 (lit< tt) (lit< tt) (lit< tt) (lit< tt) refl in
    let at_four = line_of_pair (codes "Pair") 7 8 3 4 (lit< tt) (lit< tt) (lit< tt) (lit< tt) refl in
    let of_second = line_of_pair (codes "Pair2") 7 8 3 4 (lit< tt) (lit< tt) (lit< tt) (lit< tt) refl in
    λ i. ((at_two i ++ []) ++ []) ++ (((at_three i ++ []) ++ []) ++ (((at_four i ++ []) ++ ((of_second i ++ []) ++ [])) ++ []))

-- a query that comes before the first event has no birth, and one that comes behind an event has its time
births_of_comes : map (λ (query : Query). query.birth) (after (start one_query) comes).set.program.queries ≡ None ∷ Some 2 ∷ []
births_of_comes = refl

birth_before_all : map (λ (query : Query). query.birth) (after (start one_query) (Adds pair_more ∷ two_heard ++ Adds all_of_s ∷ [])).set.program.queries ≡ None ∷ None ∷ Some 2 ∷ []
birth_before_all = refl

-- where the query leaves after the event of 2, that of 3 gives nothing
results_of_leaves : map (results_at (two_heard ++ Drops pair_query ∷ Hears (heard 7 3) ∷ [])) (2 ∷ 3 ∷ []) ≡ ((pair 5 6 1 2 ∷ []) ∷ []) ∷ [] ∷ []
results_of_leaves = refl

-- an event of 2 may come behind that of 2, but not behind the control line, which closed 2
may_come_again : refusal_of 3 (after (start one_query) two_heard) (Ok (Hears (heard 1 2))) ≡ None
may_come_again = refl

is_closed_already : refusal_of 4 (after (start one_query) (two_heard ++ Drops pair_query ∷ [])) (Ok (Hears (heard 1 2))) ≡ Some (IsOutOfOrder 4 2 2)
is_closed_already = refl

-- without a control line 2 is open, and with one it is closed
abbrev closed_of : Course → Course
closed_of course = without_open (after (start one_query) course) course

two_is_open : closed_of two_heard ≡ Hears (heard 5 1) ∷ []
two_is_open = refl

two_is_closed : closed_of (two_heard ++ Drops pair_query ∷ []) ≡ two_heard ++ Drops pair_query ∷ []
two_is_closed = refl

-- no query has the name: neither another one nor that of a declared stream
no_such_query : dropped_entry one_query (codes "Pair2") (query_named one_query (codes "Pair2")) ≡ Err (OfControl (fault.UnknownQuery (codes "Pair2")))
no_such_query = refl

declared_is_none : dropped_entry one_query (codes "S") (query_named one_query (codes "S")) ≡ Err (OfControl (fault.UnknownQuery (codes "S")))
declared_is_none = refl

-- a line of neither form
neither_form : control_entry one_query (Err error.BadForm) ≡ Err (OfControl fault.BadForm)
neither_form = refl

-- SELECT * FROM Pair PUBLISH P;
abbrev reader : Query
reader = record { name = codes "P"; stream = 2; hidden = 3; expr = Select (record { width = 2; parts = EventAt 0 ∷ EventAt 1 ∷ [] }) (Read 1); birth = None }

abbrev two_queries : QuerySet
two_queries = record {
  streams = one_query.streams ++ published (codes "P") risings ∷ [];
  program = record { declared = 1; queries = pair_query ∷ reader ∷ []; order = pair_query ∷ reader ∷ [] };
}

-- P reads Pair, and none reads P
is_read : dropped_entry two_queries (codes "Pair") (query_named two_queries (codes "Pair")) ≡ Err (OfControl (fault.InUse (codes "Pair") (codes "P")))
is_read = refl

is_unread : dropped_entry two_queries (codes "P") (query_named two_queries (codes "P")) ≡ Ok (Drops reader)
is_unread = refl

-- three lines, of which the second drops Pair, and the third has an event of the time that it closed: that one is refused, what stands before it is heard, and all of that is closed
module _ (first second third : Line)
    (hears : entry_of one_query first.bytes ≡ Ok (Hears (heard 6 2)))
    (drops : entry_of one_query second.bytes ≡ Ok (Drops pair_query))
    (hears_again : entry_of (without one_query pair_query) third.bytes ≡ Ok (Hears (heard 1 2))) where
  abbrev before : Course
  before = Hears (heard 6 2) ∷ Drops pair_query ∷ []

  at_third : (refused_after one_query before (third ∷ []) ≡ Some (IsOutOfOrder third.number 2 2)) × (heard_after one_query before (third ∷ []) ≡ before)
  at_third = refused_here one_query before third [] (IsOutOfOrder third.number 2 2) (ap (refusal_of third.number (after (start one_query) before)) hears_again)

  at_second : (refused_after one_query (Hears (heard 6 2) ∷ []) (second ∷ third ∷ []) ≡ refused_after one_query before (third ∷ [])) × (heard_after one_query (Hears (heard 6 2) ∷ []) (second ∷ third ∷ []) ≡ heard_after one_query before (third ∷ []))
  at_second = one_more one_query (Hears (heard 6 2) ∷ []) second (third ∷ []) (Drops pair_query) (ap (refusal_of second.number (after (start one_query) (Hears (heard 6 2) ∷ []))) drops) drops

  at_first : (refused_after one_query [] (first ∷ second ∷ third ∷ []) ≡ refused_after one_query (Hears (heard 6 2) ∷ []) (second ∷ third ∷ []))
      × (heard_after one_query [] (first ∷ second ∷ third ∷ []) ≡ heard_after one_query (Hears (heard 6 2) ∷ []) (second ∷ third ∷ []))
  at_first = one_more one_query [] first (second ∷ third ∷ []) (Hears (heard 6 2)) (ap (refusal_of first.number (start one_query)) hears) hears

  third_is_refused : refused_after one_query [] (first ∷ second ∷ third ∷ []) ≡ Some (IsOutOfOrder third.number 2 2)
  third_is_refused = at_first.0 ∙ at_second.0 ∙ at_third.0

  all_before_is_closed : closed_after one_query [] (first ∷ second ∷ third ∷ []) true ≡ before
  all_before_is_closed =
      let all = at_first.1 ∙ at_second.1 ∙ at_third.1 in
      ap (λ o. cond (is_none o) (heard_after one_query [] (first ∷ second ∷ third ∷ [])) (closed_of (heard_after one_query [] (first ∷ second ∷ third ∷ [])))) third_is_refused ∙ ap closed_of all

-- a mark that doesn't stand at the front of the text stands in its line, which is no control line then
abbrev mark : List ℕ
mark = 239 ∷ 187 ∷ 191 ∷ []

mark_in_the_middle : map (λ l. is_control l.bytes) (lines_from 0 false (codes ">DROP Pair\n" ++ mark ++ codes ">DROP Pair\n") false) ≡ true ∷ false ∷ []
mark_in_the_middle = refl

-- a header is skipped where it is the first line that isn't empty, and not behind a control line
header_first : lines_from 0 false (codes "\nstream,from\n>STOP\n") false ≡ record { number = 3; bytes = codes ">STOP" } ∷ []
header_first = refl

header_behind : lines_from 0 false (codes ">STOP\nstream\n") false ≡ record { number = 1; bytes = codes ">STOP" } ∷ record { number = 2; bytes = codes "stream" } ∷ []
header_behind = refl
