-- The tests of the closing of an epoch, and of the lines that are left.
use Rattle.std.proofs.Common.{sym, ◌≡◌, ◌∙◌, ap, refl, subst, ℕ, ◌+◌, ◌≤◌, ◌<◌, Bool, true, false, cond, is_some, nat_lt, List, [], ◌∷◌, ◌++◌, Some, None, Ok, Option, arith}
use Rattle.std.specs.Prelude.{IsSome}
use Rattle.std.proofs.lemmas.Bool.{le-ltb, lt-ltb, ltb-true}
use Rattle.cay_host.specs.Told.{Told}
use Rattle.semantics.specs.Histories.{Event}
use Rattle.automaton.specs.declared.line.Line.{Line}
use Rattle.splitter.specs.Chains.{lines_of}
use Rattle.prefix_merge.specs.Counts.{ListPrefixes}
use Rattle.prefix_merge.specs.Listed.{states_of}
use Rattle.prefix_merge.proofs.ListedLemmas.{prefixes_are_listed}
use Rattle.birth_laws.proofs.BornLemmas.{plain_chain}
use Rattle.epoch_engine.specs.EngineView.{EngineView}
use Rattle.epoch_engine.specs.Work.{work}
use Rattle.epoch_engine.specs.WorkLaws.{RisesByWork}
use Rattle.event_csv.specs.Fed.{Fed, unread_lines}
use Rattle.event_csv.specs.Lines as lines
use Rattle.catalogue.specs.Catalogued.{Catalogued, query_in}
use Rattle.catalogue.specs.Taking.{added_of}
use Rattle.catalogue.specs.Standing.{StandsInOrder}
use Rattle.change_laws.specs.AtOne.{AreAtOne}
use Rattle.courses.specs.declared.refusal.Refusal.{Refusal}
use Rattle.courses.specs.declared.refusal.Refusal.TheVariants.{IsOutOfOrder}
use Rattle.courses.specs.ControlLines.{entry_of}
use Rattle.courses.specs.Course as course
use Rattle.courses.specs.Course.{Adds, CourseEntry, Drops, Hears, Moment, after_entry, events_at, events_in}
use Rattle.courses.specs.Heard.{disorder, entries_in, heard_from, refusal_at, refusal_of}
use Rattle.courses.specs.QuerySet.{set_in}
use Rattle.session.specs.declared.control.Change.{Change}
use Rattle.session.specs.declared.control.Change.TheVariants as change
use Rattle.session.specs.declared.work.Work.{Work}
use Rattle.session.specs.Says.{entry_by}
use Rattle.session.specs.Standing.{StandsFor, lines_over, moment_at, program_over}
use Rattle.session.specs.Owes.{AdvancesPast, closes, is_later}
use Rattle.session.specs.TestsLeft.{RisesByClosing, RisesByLines, RisesByOpen, TestsGoOn, open_tests, tests_left, tests_of, tests_of_closing}
use Rattle.courses.proofs.HeardLemmas.{first_none}
use Rattle.session.proofs.OwesLemmas.{events_one, open_is}
use Rattle.session.proofs.PlanLemmas.{laid_over}

-- what the closing of an engine takes is no more than the open epoch asks for
pub open_rises : (c : Catalogued) (standing : StandsInOrder c) (engine : EngineView) (old new : ℕ) → AreAtOne c engine → IsSome engine.time → RisesByWork engine old new → RisesByOpen c engine old new
open_rises c standing engine old new at_one opened rises history stands = go engine.time refl opened
  where
    go : (o : Option ℕ) → engine.time ≡ o → IsSome o → new ≤ old + tests_of (program_over c) history o
    go None is some = absurd (cc)
    go (Some time) is some =
        subst (λ (order : List ℕ). new ≤ old + work (states_of (lines_of (program_over c))) (lines_over c) order history time) (laid_over c engine standing at_one).order
        (rises.waiting (lines_over c) (states_of (lines_of (program_over c))) history time
        (record { stands = stands.engine; is_open = is; listed = subst (λ (ls : List Line). ListPrefixes ls (states_of (lines_of (program_over c)))) (sym (plain_chain (program_over c).order)) (prefixes_are_listed (lines_of (program_over c))) }))

-- no tests are few enough
pub rises_none : (c : Catalogued) (engine : EngineView) (old : ℕ) → RisesByOpen c engine old old
rises_none c engine old history stands = omega arith

-- a later event closes the open epoch
pub closing_rises : (c : Catalogued) (engine : EngineView) (seen at old new : ℕ) → engine.time ≡ Some seen → seen < at → RisesByOpen c engine old new → RisesByClosing c at engine old new
closing_rises c engine seen at old new is later rises history stands =
    let few = rises history stands in
    let is_late : is_later engine.time at ≡ true = ap (λ (o : Option ℕ). is_later o at) is ∙ lt-ltb seen at later in
    let same : tests_of_closing (program_over c) history engine.time at ≡ tests_of (program_over c) history engine.time = ap (λ b. cond b (tests_of (program_over c) history engine.time) 0) is_late in
    omega (arith, few, same)

-- where nothing is closed, nothing is tested
pub closing_none : (c : Catalogued) (engine : EngineView) (at old : ℕ) → RisesByClosing c at engine old old
closing_none c engine at old history stands = omega arith

-- a line with a fault, or none, tests nothing
pub lines_none : (c : Catalogued) (feed : Fed) (ended : Bool) (engine : EngineView) (old : ℕ) → RisesByLines c feed ended engine old old
lines_none c feed ended engine old history stands = omega arith

-- whatever events an engine stands for, a count of tests rose by at most what an entry closes
abbrev pub RisesByEntry : Catalogued → CourseEntry → EngineView → ℕ → ℕ → Type 0
RisesByEntry c entry engine old new =
    (history : List Event) → StandsFor c history engine
    → new ≤ old + cond (closes (moment_at c engine) (Ok entry)) (open_tests (moment_at c engine) history) 0

-- an event closes the open epoch where it is later
pub by_event : (c : Catalogued) (event : Event) (engine : EngineView) (old new : ℕ) → RisesByClosing c event.tuple.at engine old new → RisesByEntry c (Hears event) engine old new
by_event c event engine old new rises history stands =
    subst (λ o. new ≤ old + cond (is_later o event.tuple.at) (tests_of (program_over c) history o) 0) (sym (open_is c engine)) (rises history stands)

-- an entry that is no event closes it
pub by_control : (c : Catalogued) (entry : CourseEntry) (engine : EngineView) (old new : ℕ) → closes (moment_at c engine) (Ok entry) ≡ true → RisesByOpen c engine old new → RisesByEntry c entry engine old new
by_control c entry engine old new is rises history stands =
    subst (λ b. new ≤ old + cond b (open_tests (moment_at c engine) history) 0) (sym is)
    (subst (λ o. new ≤ old + tests_of (program_over c) history o) (sym (open_is c engine)) (rises history stands))

-- a change of the queries closes it
pub by_change : (c : Catalogued) (made : Change) (engine : EngineView) (old new : ℕ) → RisesByOpen c engine old new → RisesByEntry c (entry_by c made) engine old new
by_change c (change.Comes query) engine old new rises = by_control c (Adds (added_of query)) engine old new refl rises
by_change c (change.Leaves number) engine old new rises = by_control c (Drops (query_in c number)) engine old new refl rises

module _ (m : Moment) (ended : Bool) (line : lines.Line) (others : List lines.Line) (history : List Event) (entry : CourseEntry) (says : entry_of m.set line.bytes ≡ Ok entry) where
  abbrev closed : ℕ
  closed = cond (closes m (Ok entry)) (open_tests m history) 0

  -- the tests that are left by a line of this entry, by its refusal
  left_is : tests_left m ended (line ∷ others) history ≡ cond (is_some (refusal_of line.number m (Ok entry))) 0 (closed + tests_left (after_entry m entry) ended others (history ++ events_at entry))
  left_is =
      ap
      (λ found. cond (is_some (refusal_of line.number m found)) 0
      (cond (closes m found) (open_tests m history) 0 + tests_left (course.after m (entries_in found)) ended others (history ++ events_in (entries_in found)))) says
      ∙ ap (λ events. cond (is_some (refusal_of line.number m (Ok entry))) 0 (closed + tests_left (after_entry m entry) ended others (history ++ events))) (events_one entry)

  -- of an entry in time
  timely_left : refusal_of line.number m (Ok entry) ≡ None → tests_left m ended (line ∷ others) history ≡ closed + tests_left (after_entry m entry) ended others (history ++ events_at entry)
  timely_left timely = left_is ∙ ap (λ o. cond (is_some o) 0 (closed + tests_left (after_entry m entry) ended others (history ++ events_at entry))) timely

-- an entry that is refused closes nothing
refused_closes : (number : ℕ) (m : Moment) (entry : CourseEntry) (refusal : Refusal) → refusal_of number m (Ok entry) ≡ Some refusal → closes m (Ok entry) ≡ false
refused_closes number m (Adds added) refusal e = cc
refused_closes number m (Drops query) refusal e = cc
refused_closes number m (Hears event) refusal e = by_open m.is_open m.seen e
  where
    by_late : (seen : ℕ) (b : Bool) → nat_lt event.tuple.at seen ≡ b → cond b (Some (IsOutOfOrder number event.tuple.at seen)) None ≡ Some refusal → nat_lt seen event.tuple.at ≡ false
    by_late seen true late f = let below : event.tuple.at < seen = ltb-true _ _ late in le-ltb _ _ (omega (arith, below))
    by_late seen false late f = cc

    by_open : (is_open : Bool) (seen : Option ℕ) → disorder number is_open seen event.tuple.at ≡ Some refusal → is_later (cond is_open seen None) event.tuple.at ≡ false
    by_open true None f = refl
    by_open true (Some seen) f = by_late seen (nat_lt event.tuple.at seen) refl f
    by_open false seen f = refl

-- what an entry closes is among what is left, where its line comes
entry_within : (m : Moment) (ended : Bool) (line : lines.Line) (others : List lines.Line) (history : List Event) (entry : CourseEntry) → entry_of m.set line.bytes ≡ Ok entry
    → cond (closes m (Ok entry)) (open_tests m history) 0 ≤ tests_left m ended (line ∷ others) history
entry_within m ended line others history entry says = by_refusal (refusal_of line.number m (Ok entry)) refl (left_is m ended line others history entry says)
  where
    rest : ℕ
    rest = tests_left (after_entry m entry) ended others (history ++ events_at entry)

    by_refusal : (o : Option Refusal) → refusal_of line.number m (Ok entry) ≡ o
        → tests_left m ended (line ∷ others) history ≡ cond (is_some (refusal_of line.number m (Ok entry))) 0 (cond (closes m (Ok entry)) (open_tests m history) 0 + rest)
        → cond (closes m (Ok entry)) (open_tests m history) 0 ≤ tests_left m ended (line ∷ others) history
    by_refusal (Some refusal) e left =
        let none : cond (closes m (Ok entry)) (open_tests m history) 0 ≡ 0 = ap (λ b. cond b (open_tests m history) 0) (refused_closes line.number m entry refusal e) in
        omega (arith, none)
    by_refusal None e left =
        let all = left ∙ ap (λ o. cond (is_some o) 0 (cond (closes m (Ok entry)) (open_tests m history) 0 + rest)) e in
        omega (arith, all)

-- at the line of an entry no more is tested than the lines that are left ask for
pub entry_rises : (c : Catalogued) (feed : Fed) (ended : Bool) (line : lines.Line) (others : List lines.Line) (entry : CourseEntry) (engine : EngineView) (old new : ℕ)
    → unread_lines feed ended ≡ line ∷ others → entry_of (set_in c) line.bytes ≡ Ok entry → RisesByEntry c entry engine old new → RisesByLines c feed ended engine old new
entry_rises c feed ended line others entry engine old new shows says rises history stands =
    let few = rises history stands in
    let within = entry_within (moment_at c engine) ended line others history entry says in
    let same = ap (λ ls. tests_left (moment_at c engine) ended ls history) shows in
    omega (arith, few, within, same)

-- where the entry of a line was taken, what is no longer to come is what it closes
pub entry_moves : (c d : Catalogued) (ended : Bool) (line : lines.Line) (others : List lines.Line) (entry : CourseEntry) (history : List Event) (old new : Work) (a b : Told) (before after : ℕ)
    → entry_of (set_in c) line.bytes ≡ Ok entry → AdvancesPast c d entry history old new a b → StandsFor c history old.engine → RisesByEntry c entry old.engine before after
    → after + tests_left (moment_at d new.engine) ended others (history ++ events_at entry) ≤ before + tests_left (moment_at c old.engine) ended (line ∷ others) history
entry_moves c d ended line others entry history old new a b before after says takes stands rises =
    let m = moment_at c old.engine in
    let few = rises history stands in
    let past = takes.advances ended line [] says in
    let not_refused : refusal_at m line ≡ None = first_none (refusal_at m line) None past.refused in
    let timely : refusal_of line.number m (Ok entry) ≡ None = ap (λ found. refusal_of line.number m found) (sym says) ∙ not_refused in
    let next : course.after m (heard_from m (line ∷ [])) ≡ after_entry m entry =
    ap (λ o. course.after m (cond (is_some o) [] (entries_in (entry_of m.set line.bytes) ++ []))) not_refused ∙ ap (λ found. course.after m (entries_in found ++ [])) says in
    let now = ap (λ n. tests_left n ended others (history ++ events_at entry)) (sym past.moment ∙ next) in
    let then = timely_left m ended line others history entry says timely in
    omega (arith, few, now, then)

-- the work has gone on, and then no more is tested than the lines ask for that are left
pub moved_rises : (c d : Catalogued) (feed left : Fed) (engine now : EngineView) (before mid after : ℕ)
    → ((history : List Event) → StandsFor c history engine → TestsGoOn (unread_lines feed false) (unread_lines left false) (moment_at c engine) history d now before mid)
    → RisesByLines d left false now mid after → RisesByLines c feed false engine before after
moved_rises c d feed left engine now before mid after moved rises history stands =
    let gone = moved history stands in
    let one = gone.fewer in
    let two = rises gone.heard gone.stands in
    omega (arith, one, two)

-- the work goes on, and on
pub moves_further : {c d : Catalogued} {first second third : List lines.Line} {m : Moment} {history : List Event} {y z : EngineView} {before mid after : ℕ}
    → TestsGoOn first second m history c y before mid → ((heard : List Event) → StandsFor c heard y → TestsGoOn second third (moment_at c y) heard d z mid after) → TestsGoOn first third m history d z before after
moves_further p more =
    let q = more p.heard p.stands in
    record { heard = q.heard; stands = q.stands; fewer = let one = p.fewer in let two = q.fewer in omega (arith, one, two) }

-- the work hasn't begun
pub not_moved : (c : Catalogued) (ls : List lines.Line) (history : List Event) (engine : EngineView) (before : ℕ) → StandsFor c history engine → TestsGoOn ls ls (moment_at c engine) history c engine before before
not_moved c ls history engine before stands = record { heard = history; stands = stands; fewer = omega arith }

-- an entry was taken, and the lines are others
pub took_tests : (c d : Catalogued) (line : lines.Line) (ls others : List lines.Line) (entry : CourseEntry) (history : List Event) (old new : Work) (a b : Told) (before after : ℕ) → ls ≡ line ∷ others → entry_of (set_in c) line.bytes ≡ Ok entry
    → AdvancesPast c d entry history old new a b → StandsFor c history old.engine → RisesByEntry c entry old.engine before after → TestsGoOn ls others (moment_at c old.engine) history d new.engine before after
took_tests c d line ls others entry history old new a b before after shows says takes stands rises = record {
  heard = history ++ events_at entry;
  stands = takes.stands;
  fewer =
      let few = entry_moves c d false line others entry history old new a b before after says takes stands rises in
      let same = ap (λ l. tests_left (moment_at c old.engine) false l history) shows in
      omega (arith, few, same);
}

-- no line is left of a text that has ended, and its last epoch was closed
pub last_rises : (c : Catalogued) (feed : Fed) (engine : EngineView) (old new : ℕ) → unread_lines feed true ≡ [] → RisesByOpen c engine old new → RisesByLines c feed true engine old new
last_rises c feed engine old new shows rises history stands =
    let few = rises history stands in
    let same = ap (λ ls. tests_left (moment_at c engine) true ls history) shows in
    let open_epoch = ap (tests_of (program_over c) history) (open_is c engine) in
    omega (arith, few, same, open_epoch)

-- one line is left of it, its entry was taken, and the last epoch was closed
pub last_entry_rises : (c d : Catalogued) (feed : Fed) (line : lines.Line) (entry : CourseEntry) (old new : Work) (a b : Told) (before mid after : ℕ) → unread_lines feed true ≡ line ∷ [] → entry_of (set_in c) line.bytes ≡ Ok entry
    → ((history : List Event) → StandsFor c history old.engine → AdvancesPast c d entry history old new a b)
    → RisesByEntry c entry old.engine before mid → RisesByOpen d new.engine mid after → RisesByLines c feed true old.engine before after
last_entry_rises c d feed line entry old new a b before mid after shows says takes rises last history stands =
    let took = takes history stands in
    let one = entry_moves c d true line [] entry history old new a b before mid says took stands rises in
    let two = last (history ++ events_at entry) took.stands in
    let open_epoch = ap (tests_of (program_over d) (history ++ events_at entry)) (open_is d new.engine) in
    let same = ap (λ ls. tests_left (moment_at c old.engine) true ls history) shows in
    omega (arith, one, two, same, open_epoch)
