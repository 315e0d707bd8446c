-- Examples of programs and of their results over a history, each worked out by hand. No contract cites them.
use Rattle.std.proofs.Common.{◌≡◌, refl, lit<, ℕ, zero, suc, ◌<◌, pos, true, List, [], ◌∷◌, ◌++◌, map, arith}
use Rattle.std.specs.Prelude.{codes, nat_lt, slice_index_or, None, Option, Some}
use Rattle.std.specs.List.{All, join_with_byte, list_all}
use Rattle.std.proofs.lemmas.Bool.Decides.{nat_tests}
use Rattle.std.proofs.lemmas.Fmt.{decimal_digit}
use Rattle.std.proofs.lemmas.List.Elements.{All-nil, All-cons}
use Rattle.std.proofs.lemmas.List.Sums.{AllPass-from_list_all}
use Rattle.std.proofs.lemmas.List.Sorted.{IsPermutation-append_comm}
use Rattle.event_types.specs.declared.comparison.Cmp.TheVariants as cmp
use Rattle.event_types.specs.declared.kind.Kind.{Kind}
use Rattle.event_types.specs.declared.kind.Kind.TheVariants as kind
use Rattle.event_types.specs.declared.value.Value.TheVariants as value
use Rattle.event_types.specs.Tuple.{TupleView}
use Rattle.semantics.specs.Scalars.{Sc, Event, Binding, Test}
use Rattle.semantics.specs.Expressions.{Ex, Read, Filter, Next}
use Rattle.semantics.specs.Histories.{Event as TheEvent, times}
use Rattle.semantics.specs.Programs.{Program, Query, env}
use Rattle.semantics.specs.TypedPrograms.{IsProgram}
use Rattle.semantics.specs.Typing.{AreTyped, IsOfKind, IsTyped, IsTypedOver}
use Rattle.semantics.specs.Results.{results}
use Rattle.semantics.specs.Report.{quoted, line, report}
use Rattle.semantics.proofs.Examples.{number, tuple, pair, rises}

-- STREAM S (a INT);
-- SELECT * FROM FILTER {a_2 > 8} Up PUBLISH High;
-- SELECT * FROM S NEXT {$2.a > $1.a} S PUBLISH Up;
-- in which Up is worked out first, since High reads it
abbrev high : Query
high = record { name = codes "High"; stream = 2; hidden = 4; expr = Filter (Test (Event 1) cmp.Gt (number 8) ∷ []) (Read 1); birth = None }

abbrev up : Query
up = record { name = codes "Up"; stream = 1; hidden = 3; expr = Next rises (Read 0) (Read 0); birth = None }

abbrev program : Program
program = record { declared = 1; queries = high ∷ up ∷ []; order = up ∷ high ∷ [] }

abbrev heard : ℕ → ℕ → ℕ → TheEvent
heard n from at = record { stream = 0; tuple = tuple n from at }

abbrev history : List TheEvent
history = heard 5 1 1 ∷ heard 7 2 2 ∷ heard 9 3 3 ∷ heard 8 3 3 ∷ heard 9 4 4 ∷ []

-- each detection time once
epochs : times history ≡ 1 ∷ 2 ∷ 3 ∷ 4 ∷ []
epochs = refl

-- at 3 the binding of 7 meets two simultaneous events, whose pairs are sorted by their values
pairs_at_three : results program history 1 3 ≡ pair 7 8 2 3 ∷ pair 7 9 2 3 ∷ []
pairs_at_three = refl

-- a query that reads another sees its tuples in the same epoch
high_at_three : results program history 2 3 ≡ pair 7 9 2 3 ∷ []
high_at_three = refl

line_of_pair : (name : List ℕ) → quoted name ≡ name → line name (pair 7 9 2 3) ≡ (name ++ codes ",2,3,7,9") ++ codes "\n"
line_of_pair name plain =
    let two = decimal_digit 2 (lit< tt) in
    let three = decimal_digit 3 (lit< tt) in
    let seven = decimal_digit 7 (lit< tt) in
    let nine = decimal_digit 9 (lit< tt) in
    λ i. join_with_byte 44 (plain i ∷ two i ∷ three i ∷ seven i ∷ nine i ∷ []) ++ 10 ∷ []

-- the lines of an epoch stand in the order of the file, whatever the order of work; the epoch of 2 has none
two_epochs : report program (heard 7 2 2 ∷ heard 9 3 3 ∷ []) ≡ codes "High,2,3,7,9\nUp,2,3,7,9\n"
two_epochs =
    let high_line = line_of_pair (codes "High") refl in
    let up_line = line_of_pair (codes "Up") refl in
    λ i. ((high_line i ++ []) ++ ((up_line i ++ []) ++ [])) ++ []

-- Up alone, added with this birth
abbrev up_born : Option ℕ → Program
up_born birth = let born = record up { birth = birth } in record { declared = 1; queries = born ∷ []; order = born ∷ [] }

-- born at 2 it doesn't read the 7 of 2, so the pairs that began with it are missing, and it has that of the 8 of 3 with the 9 of 4
born_reads_later : map (results (up_born (Some 2)) history 1) (2 ∷ 3 ∷ 4 ∷ []) ≡ [] ∷ [] ∷ (pair 8 9 3 4 ∷ []) ∷ []
born_reads_later = refl

-- without a birth it has a pair at 2, two at 3 and that one at 4
unborn_reads_all : map (results (up_born None) history 1) (2 ∷ 3 ∷ 4 ∷ []) ≡ (pair 5 7 1 2 ∷ []) ∷ (pair 7 8 2 3 ∷ pair 7 9 2 3 ∷ []) ∷ (pair 8 9 3 4 ∷ []) ∷ []
unborn_reads_all = refl

-- an event counts by its detection: the 6 that starts at 1 is detected after 2, and is paired; the 5 of 1 is not
detection_counts : results (up_born (Some 2)) (heard 5 1 1 ∷ heard 6 1 3 ∷ heard 9 4 4 ∷ []) 1 4 ≡ pair 6 9 1 4 ∷ []
detection_counts = refl

-- both queries, where High is added later than Up
abbrev high_born : ℕ → Program
high_born birth = let born = record high { birth = Some birth } in record { declared = 1; queries = up ∷ born ∷ []; order = up ∷ born ∷ [] }

-- born at 2, it reads the pair that Up publishes at 3, though this began at 2; born at 3 it doesn't
high_reads_by_detection : map (results (high_born 2) history 2) (3 ∷ 4 ∷ []) ≡ (pair 7 9 2 3 ∷ []) ∷ (pair 8 9 3 4 ∷ []) ∷ []
high_reads_by_detection = refl

high_born_later : map (results (high_born 3) history 2) (3 ∷ 4 ∷ []) ≡ [] ∷ (pair 8 9 3 4 ∷ []) ∷ []
high_born_later = refl

-- and the birth of one changes nothing for the other
up_is_as_before : map (results (high_born 3) history 1) (2 ∷ 3 ∷ 4 ∷ []) ≡ map (results (up_born None) history 1) (2 ∷ 3 ∷ 4 ∷ [])
up_is_as_before = refl

-- the same queries on streams whose numbers leave gaps: Up publishes 4 and hides from 6 on, High publishes 9
abbrev with_gaps : Program
with_gaps =
    let up = record up { stream = 4; hidden = 6 } in
    let high = record high { stream = 9; hidden = 12; expr = Filter (Test (Event 1) cmp.Gt (number 8) ∷ []) (Read 4) } in
    record { declared = 1; queries = high ∷ up ∷ []; order = up ∷ high ∷ [] }

-- they give the same, and nothing stands on the numbers between
gaps_change_no_results : results with_gaps history 9 3 ≡ pair 7 9 2 3 ∷ []
gaps_change_no_results = refl

streams_in_gaps_are_empty : (env with_gaps history 1 ≡ []) × (env with_gaps history 6 ≡ [])
streams_in_gaps_are_empty = (refl, refl)

-- STREAM S (a INT); of number 0
-- STREAM T (a INT); of number 3, while 1 and 2 stay free
-- SELECT * FROM Run NEXT {$2.a > $1.a_3} T PUBLISH Longer;
-- SELECT * FROM S NEXT {$2.a > $1.a} (T NEXT {$2.a > $1.a} T) PUBLISH Run;
-- in which Run publishes 5 and hides its right side on 6, and Longer publishes 9
abbrev on_t : Ex
on_t = Next rises (Read 3) (Read 3)

abbrev run : Query
run = record { name = codes "Run"; stream = 5; hidden = 6; expr = Next rises (Read 0) on_t; birth = None }

abbrev longer : Query
longer = record { name = codes "Longer"; stream = 9; hidden = 10; expr = Next (Test (Event 0) cmp.Gt (Binding 2) ∷ []) (Read 5) (Read 3); birth = None }

abbrev sparse : Program
sparse = record { declared = 4; queries = longer ∷ run ∷ []; order = run ∷ longer ∷ [] }

-- the event of one number on a stream
abbrev event_on : ℕ → ℕ → ℕ → TheEvent
event_on stream n time = record { stream = stream; tuple = tuple n time time }

abbrev sparse_history : List TheEvent
sparse_history = event_on 0 5 1 ∷ event_on 3 6 2 ∷ event_on 3 7 3 ∷ event_on 0 8 3 ∷ event_on 3 9 4 ∷ []

-- the tuple of these three numbers with these times, and that of four
abbrev three : ℕ → ℕ → ℕ → ℕ → ℕ → TupleView
three k m n from at = record { vals = value.Int (pos k) ∷ value.Int (pos m) ∷ value.Int (pos n) ∷ []; from = from; at = at }

abbrev four : ℕ → ℕ → ℕ → ℕ → ℕ → ℕ → TupleView
four j k m n from at = record { vals = value.Int (pos j) ∷ value.Int (pos k) ∷ value.Int (pos m) ∷ value.Int (pos n) ∷ []; from = from; at = at }

-- a declared stream has what was heard on it, whichever numbers lie between
heard_across_a_gap : env sparse sparse_history 3 ≡ tuple 6 2 2 ∷ tuple 7 3 3 ∷ tuple 9 4 4 ∷ []
heard_across_a_gap = refl

-- the right side has 6 and 7 from 2 to 3, and 7 and 9 from 3 to 4; the 5 of 1 meets the earlier pair, and for the 8 of 3 both start too early
run_publishes : env sparse sparse_history 5 ≡ three 5 6 7 1 3 ∷ []
run_publishes = refl

-- of the numbers on T only the 9 of 4 comes after 3
longer_publishes : env sparse sparse_history 9 ≡ four 5 6 7 9 1 4 ∷ []
longer_publishes = refl

-- no tuple stands on a number between, on that of a hidden stream, or behind the last
free_numbers_are_empty : map (env sparse sparse_history) (1 ∷ 2 ∷ 4 ∷ 6 ∷ 7 ∷ 8 ∷ 10 ∷ []) ≡ [] ∷ [] ∷ [] ∷ [] ∷ [] ∷ [] ∷ [] ∷ []
free_numbers_are_empty = refl

-- an event on a published or a free number is heard by no one: Run has the same, and 4 nothing
abbrev astray : List TheEvent
astray = event_on 5 1 1 ∷ event_on 4 1 1 ∷ sparse_history

strays_are_not_heard : map (env sparse astray) (4 ∷ 5 ∷ []) ≡ [] ∷ (three 5 6 7 1 3 ∷ []) ∷ []
strays_are_not_heard = refl

-- each query has its results at its own times
results_across_gaps : (results sparse sparse_history 5 3 ≡ three 5 6 7 1 3 ∷ []) × (results sparse sparse_history 5 4 ≡ [])
results_across_gaps = (refl, refl)

longer_results_across_gaps : (results sparse sparse_history 9 3 ≡ []) × (results sparse sparse_history 9 4 ≡ four 5 6 7 9 1 4 ∷ [])
longer_results_across_gaps = (refl, refl)

-- and the report has no line for a number between
report_across_gaps : report sparse sparse_history ≡ codes "Run,1,3,5,6,7\nLonger,1,4,5,6,7,9\n"
report_across_gaps =
    let one = decimal_digit 1 (lit< tt) in
    let digit_3 = decimal_digit 3 (lit< tt) in
    let digit_4 = decimal_digit 4 (lit< tt) in
    let five = decimal_digit 5 (lit< tt) in
    let six = decimal_digit 6 (lit< tt) in
    let seven = decimal_digit 7 (lit< tt) in
    let nine = decimal_digit 9 (lit< tt) in
    let run_line : line (codes "Run") (three 5 6 7 1 3) ≡ codes "Run,1,3,5,6,7\n" =
    λ i. join_with_byte 44 (codes "Run" ∷ one i ∷ digit_3 i ∷ five i ∷ six i ∷ seven i ∷ []) ++ 10 ∷ [] in
    let longer_line : line (codes "Longer") (four 5 6 7 9 1 4) ≡ codes "Longer,1,4,5,6,7,9\n" =
    λ i. join_with_byte 44 (codes "Longer" ∷ one i ∷ digit_4 i ∷ five i ∷ six i ∷ seven i ∷ nine i ∷ []) ++ 10 ∷ [] in
    λ i. ((run_line i ++ []) ++ []) ++ (((longer_line i ++ []) ++ []) ++ [])

-- so many whole numbers
abbrev ints : ℕ → List Kind
ints zero = []
ints (suc n) = kind.Int ∷ ints n

-- the kinds of the streams; a free number has none
abbrev sparse_kinds : ℕ → List Kind
sparse_kinds stream = slice_index_or (ints 1 ∷ [] ∷ [] ∷ ints 1 ∷ [] ∷ ints 3 ∷ [] ∷ [] ∷ [] ∷ ints 4 ∷ []) stream []

-- numbers that are tested to be below one are
below : (n : ℕ) (xs : List ℕ) → list_all (λ x. nat_lt x n) xs ≡ true → All (λ x. x < n) xs
below n xs tested k d lt =
    let each : nat_lt (slice_index_or xs k d) n ≡ true = AllPass-from_list_all (λ x. nat_lt x n) xs tested k d lt in
    grind (arith, nat_tests)

-- an attribute of whole numbers above another one
one_is_typed : (x y : Sc) (right left : List Kind) → IsOfKind x right (Some left) kind.Int → IsOfKind y right (Some left) kind.Int → AreTyped (Test x cmp.Gt y ∷ []) right (Some left)
one_is_typed x y right left is_x is_y =
    let typed : IsTyped (Test x cmp.Gt y) right (Some left) = (kind.Int, is_x, is_y) in
    All-cons (λ p. IsTyped p right (Some left)) (Test x cmp.Gt y) [] typed (All-nil (λ p. IsTyped p right (Some left)))

-- numbers that ascend make a program, whatever they leave out
gaps_make_a_program : IsProgram sparse_kinds sparse
gaps_make_a_program =
    let on_t_is_typed : IsTypedOver on_t 5 sparse_kinds (ints 2) = (ints 1, ints 1, (lit< tt, refl), (lit< tt, refl), one_is_typed (Event 0) (Binding 0) (ints 1) (ints 1) refl refl, refl) in
    record {
      same_queries = IsPermutation-append_comm (longer ∷ []) (run ∷ []);
      in_turn = (
        below 5 (0 ∷ 1 ∷ 2 ∷ 3 ∷ []) refl,
        ((0, lit< tt, refl), ((3, lit< tt, refl), (3, lit< tt, refl))),
        (ints 1, ints 2, (lit< tt, refl), on_t_is_typed, one_is_typed (Event 0) (Binding 0) (ints 2) (ints 1) refl refl, refl),
        (
          below 9 (0 ∷ 1 ∷ 2 ∷ 3 ∷ 5 ∷ []) refl,
          ((4, lit< tt, refl), (3, lit< tt, refl)),
          (ints 3, ints 1, (lit< tt, refl), (lit< tt, refl), one_is_typed (Event 0) (Binding 2) (ints 1) (ints 3) refl refl, refl),
          tt,
        ),
      );
    }

-- the same with Run on 9 and Longer on 5
abbrev falling : Program
falling =
    let run = record run { stream = 9; hidden = 10 } in
    let longer = record longer { stream = 5; expr = Next (Test (Event 0) cmp.Gt (Binding 2) ∷ []) (Read 9) (Read 3) } in
    record { declared = 4; queries = longer ∷ run ∷ []; order = run ∷ longer ∷ [] }

-- numbers that fall make none
falling_numbers_make_no_program : (kinds : ℕ → List Kind) → IsProgram kinds falling → ⊥
falling_numbers_make_no_program kinds is = let lt : 9 < 5 = is.in_turn.3.0 4 0 (lit< tt) in omega arith
