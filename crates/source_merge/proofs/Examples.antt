-- Examples of merges, each worked out by hand. No contract cites them.
use Rattle.std.proofs.Common.{◌≡◌, ◌∙◌, ap, refl, ℕ, ◌+◌, ◌<◌, ◌≤◌, Bool, true, false, List, [], ◌∷◌, Some, None, Ok, Err, arith, get_or, length, map}
use Rattle.std.specs.Prelude.{◌==◌, IsUtf8, codes}
use Rattle.std.specs.List.{list_all}
use Rattle.stream_schema.specs.Streams.{Entry}
use Rattle.event_csv.specs.Event.{record_event}
use Rattle.event_csv.specs.Fields.{is_plain, parts_of}
use Rattle.event_csv.specs.Lines.{line_limit}
use Rattle.event_csv.specs.declared.event.Seen.{Seen}
use Rattle.event_csv.specs.declared.fault.LineFault.TheVariants as fault
use Rattle.event_csv.proofs.EventFacts.{event-text}
use Rattle.event_csv.proofs.PlainLines.{line_fields-plain, strip-head}
use Rattle.source_merge.specs.Calls.{MergeCall, after_calls, unmerged}
use Rattle.source_merge.specs.Merging.{comes_late, next_given, turn_of}
use Rattle.source_merge.specs.Ranks.{Taken}
use Rattle.source_merge.specs.Readings.{source_line}
use Rattle.source_merge.specs.Sources.{watermark}
use Rattle.source_merge.specs.Turns.{Between, HasFault, Input, IsLate, Over, SourceLine, Stops, Waits, after_turns, before_turns, next_turn, settled_between}

-- an event of a stream without attributes, detected at a time; those of one time are told apart by their streams
abbrev seen_of : ℕ → ℕ → Seen
seen_of stream at = record { stream = stream; tuple = record { vals = []; from = at; at = at } }

abbrev seen_at : ℕ → Seen
seen_at at = seen_of 0 at

abbrev takes : ℕ → MergeCall
takes at = MergeCall.Takes (seen_at at)

-- streams and times of events, in their order
abbrev events_of : List Taken → List Seen
events_of taken = map (λ t. t.1) taken

abbrev given_after : ℕ → ℕ → List MergeCall → List Seen
given_after files slack calls = events_of (after_calls (unmerged files slack) calls).given

-- the first turn is the first file's, and then the second's, which has no event yet
the_first_file_has_the_first_turn : turn_of (unmerged 2 0).now ≡ Some 0
the_first_file_has_the_first_turn = refl

a_file_without_an_event_comes_first : turn_of (after_calls (unmerged 2 0) (takes 1 ∷ [])).now ≡ Some 1
a_file_without_an_event_comes_first = refl

-- the file whose events are behind has the next turn, and of two that are as far the one with the lower number
the_file_behind_has_the_next_turn : turn_of (after_calls (unmerged 2 0) (takes 5 ∷ takes 2 ∷ [])).now ≡ Some 1
the_file_behind_has_the_next_turn = refl

ties_go_to_the_lower_number : turn_of (after_calls (unmerged 2 0) (takes 5 ∷ takes 5 ∷ [])).now ≡ Some 0
ties_go_to_the_lower_number = refl

-- events at 1 and 3 in the first file, and at 2 in the second: nothing is given before the event at 3, and then the one at 1
abbrev two_files : List MergeCall
two_files = takes 1 ∷ MergeCall.Gives ∷ takes 2 ∷ MergeCall.Gives ∷ takes 3 ∷ MergeCall.Gives ∷ []

the_first_event_is_settled_by_the_third : given_after 2 0 two_files ≡ seen_at 1 ∷ []
the_first_event_is_settled_by_the_third = refl

-- the second file has the next turn and ends, and then the first one
abbrev two_files_ended : List MergeCall
two_files_ended = takes 1 ∷ takes 2 ∷ takes 3 ∷ MergeCall.Gives ∷ MergeCall.Ends ∷ MergeCall.Gives ∷ MergeCall.Gives ∷ MergeCall.Ends ∷ MergeCall.Gives ∷ MergeCall.Gives ∷ []

all_are_given_in_order : given_after 2 0 two_files_ended ≡ seen_at 1 ∷ seen_at 2 ∷ seen_at 3 ∷ []
all_are_given_in_order = refl

-- with a lateness of 2 the events 2, 1 and 3 of one file are given in order once it has ended
abbrev one_file : List MergeCall
one_file = takes 2 ∷ takes 1 ∷ takes 3 ∷ MergeCall.Gives ∷ MergeCall.Ends ∷ MergeCall.Gives ∷ MergeCall.Gives ∷ MergeCall.Gives ∷ []

an_event_within_the_lateness_comes_in_its_place : given_after 1 2 one_file ≡ seen_at 1 ∷ seen_at 2 ∷ seen_at 3 ∷ []
an_event_within_the_lateness_comes_in_its_place = refl

-- before that the watermark is 1, and no event is below it
nothing_is_given_at_the_watermark : next_given (after_calls (unmerged 1 2) (takes 2 ∷ takes 1 ∷ takes 3 ∷ [])).now ≡ None
nothing_is_given_at_the_watermark = refl

-- without a lateness the event at 1 is late behind that at 2
an_event_below_its_file_is_late : comes_late (after_calls (unmerged 1 0) (takes 2 ∷ [])).now 1 ≡ true
an_event_below_its_file_is_late = refl

an_event_at_the_bound_is_not_late : comes_late (after_calls (unmerged 1 2) (takes 3 ∷ [])).now 1 ≡ false
an_event_at_the_bound_is_not_late = refl

-- a lateness beyond all times makes no event late
no_bound_is_negative : comes_late (after_calls (unmerged 1 9) (takes 3 ∷ [])).now 0 ≡ false
no_bound_is_negative = refl

-- one file's lateness isn't another's: in the second file an event at 1 is taken behind the first one's event at 5
an_event_is_late_by_its_own_file_alone : comes_late (after_calls (unmerged 2 0) (takes 5 ∷ [])).now 1 ≡ false
an_event_is_late_by_its_own_file_alone = refl

-- of one time the first file's events come first, and those of one file in their order
abbrev ties : List MergeCall
ties =
    MergeCall.Takes (seen_of 3 7) ∷ MergeCall.Takes (seen_of 2 7) ∷ MergeCall.Takes (seen_of 1 7) ∷ MergeCall.Ends ∷ MergeCall.Ends ∷ MergeCall.Gives ∷ MergeCall.Gives ∷ MergeCall.Gives ∷ []

events_of_one_time_come_by_file_and_place : given_after 2 0 ties ≡ seen_of 3 7 ∷ seen_of 1 7 ∷ seen_of 2 7 ∷ []
events_of_one_time_come_by_file_and_place = refl

-- a file with no event yet holds the others back
a_file_without_an_event_settles_nothing : watermark 0 (after_calls (unmerged 2 0) (takes 4 ∷ [])).now.sources ≡ Some 0
a_file_without_an_event_settles_nothing = refl

-- lines from a number on, each with an event
abbrev lines_from : ℕ → List ℕ → List SourceLine
lines_from number [] = []
lines_from number (at ∷ more) = record { number = number; found = Ok (seen_at at) } ∷ lines_from (number + 1) more

-- a file of such lines, whose bytes have ended or not
abbrev file_of : List ℕ → Bool → Input
file_of times whole = record { left = lines_from 1 times; whole = whole }

-- the lines of two files: events at 1 and 3 in one and at 2 in the other
abbrev two_texts : Between
two_texts = before_turns (file_of (1 ∷ 3 ∷ []) true ∷ file_of (2 ∷ []) true ∷ [])

three_turns_settle_the_first : events_of (settled_between 0 (after_turns 0 3 two_texts)) ≡ seen_at 1 ∷ []
three_turns_settle_the_first = refl

five_turns_end_both_files : next_turn 0 (after_turns 0 5 two_texts) ≡ Over
five_turns_end_both_files = refl

all_events_are_settled_then : events_of (settled_between 0 (after_turns 0 5 two_texts)) ≡ seen_at 1 ∷ seen_at 2 ∷ seen_at 3 ∷ []
all_events_are_settled_then = refl

-- an empty file ends in its first turn, and holds the other one back no more
abbrev empty_text : Between
empty_text = before_turns (file_of [] true ∷ file_of (1 ∷ 4 ∷ []) true ∷ [])

an_empty_file_ends_in_its_first_turn : (after_turns 0 1 empty_text).sources ≡ record { greatest = None; ended = true } ∷ record { greatest = None; ended = false } ∷ []
an_empty_file_ends_in_its_first_turn = refl

it_holds_nothing_back : events_of (settled_between 0 (after_turns 0 3 empty_text)) ≡ seen_at 1 ∷ []
it_holds_nothing_back = refl

-- three files: 4 and 9, 2 and 6, and 5; their first turns take 4, 2 and 5, then the second file brings 6, and the first one 9
abbrev three_texts : Between
three_texts = before_turns (file_of (4 ∷ 9 ∷ []) true ∷ file_of (2 ∷ 6 ∷ []) true ∷ file_of (5 ∷ []) true ∷ [])

the_least_of_three_bounds_is_the_watermark : events_of (settled_between 0 (after_turns 0 5 three_texts)) ≡ seen_at 2 ∷ seen_at 4 ∷ []
the_least_of_three_bounds_is_the_watermark = refl

-- then the third file ends, the second one and the first one
the_least_of_two_is_left : events_of (settled_between 0 (after_turns 0 6 three_texts)) ≡ seen_at 2 ∷ seen_at 4 ∷ seen_at 5 ∷ []
the_least_of_two_is_left = refl

eight_turns_end_three_files : next_turn 0 (after_turns 0 8 three_texts) ≡ Over
eight_turns_end_three_files = refl

events_of_three_files_are_settled_in_order : events_of (settled_between 0 (after_turns 0 8 three_texts)) ≡ seen_at 2 ∷ seen_at 4 ∷ seen_at 5 ∷ seen_at 6 ∷ seen_at 9 ∷ []
events_of_three_files_are_settled_in_order = refl

-- 2, 1 and 3 in one file, with a lateness of 2
abbrev one_text : Between
one_text = before_turns (file_of (2 ∷ 1 ∷ 3 ∷ []) true ∷ [])

it_ends_after_four_turns : next_turn 2 (after_turns 2 4 one_text) ≡ Over
it_ends_after_four_turns = refl

its_events_are_settled_then : events_of (settled_between 2 (after_turns 2 4 one_text)) ≡ seen_at 1 ∷ seen_at 2 ∷ seen_at 3 ∷ []
its_events_are_settled_then = refl

-- and without one: the second line, whose number is told, is below the bound 2, and nothing is settled
it_stops_at_the_late_line : next_turn 0 (after_turns 0 1 one_text) ≡ Stops 0 2 (IsLate 1 2)
it_stops_at_the_late_line = refl

nothing_is_settled_then : settled_between 0 (after_turns 0 1 one_text) ≡ []
nothing_is_settled_then = refl

-- a file of which no line is there yet is waited for, though another has one
a_file_is_waited_for : next_turn 0 (after_turns 0 1 (before_turns (file_of (1 ∷ 2 ∷ []) true ∷ file_of [] false ∷ []))) ≡ Waits 1
a_file_is_waited_for = refl

-- a line with a fault stops the turns, though other files go on
it_stops_at_a_fault : next_turn 0 (after_turns 0 1 (before_turns (file_of (1 ∷ []) true ∷ record { left = record { number = 4; found = Err fault.NotUtf8 } ∷ []; whole = false } ∷ []))) ≡ Stops 1 4 (HasFault fault.NotUtf8)
it_stops_at_a_fault = refl

-- a line that begins with > is no control line: no stream has its first field as its name, though `A` is declared
abbrev streams : List Entry
streams = record { name = codes "A"; schema = []; declared = true } ∷ []

-- a short line of text without quotes, line feeds and mark is read by its parts between commas
read_plainly : (line : List ℕ) → length line ≤ line_limit → IsUtf8 line → (get_or line 0 0 == 239) ≡ false → list_all is_plain line ≡ true → 0 < length line
    → source_line streams (record { number = 3; bytes = line }) ≡ record { number = 3; found = record_event streams (Some (parts_of line)) }
read_plainly line short text begins plain some =
    ap (λ found. record { number = 3; found = found }) (event-text streams line short text ∙ ap (record_event streams) (line_fields-plain line (strip-head line begins) plain some))

a_control_line_names_an_unknown_stream : source_line streams (record { number = 3; bytes = codes ">A,,1" }) ≡ record { number = 3; found = Err fault.UnknownStream }
unfolding lib.Utf8.encode
a_control_line_names_an_unknown_stream = read_plainly (codes ">A,,1") (omega arith) (codes ">A,,1", (refl, refl)) refl refl (omega arith)

without_that_sign_it_is_an_event : source_line streams (record { number = 3; bytes = codes "A,,1" }) ≡ record { number = 3; found = Ok (seen_at 1) }
unfolding lib.Utf8.encode
without_that_sign_it_is_an_event = read_plainly (codes "A,,1") (omega arith) (codes "A,,1", (refl, refl)) refl refl (omega arith)
