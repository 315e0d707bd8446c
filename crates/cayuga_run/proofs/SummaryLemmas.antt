-- From the hearing of the generator's events to the line of their numbers, and to what is written of it.
use Rattle.std.proofs.Common.{◌≡◌, ◌∙◌, sym, ap, refl, subst, ℕ, ◌+◌, ◌-◌, ◌^◌, List, [], ◌∷◌, ◌++◌, Some, append_assoc, codes, decimal, max, min, arith}
use Rattle.semantics.specs.Histories.{Event}
use Rattle.cay_host.specs.Output.{add_lines, count_lf}
use Rattle.cay_host.specs.TallyHost.{silent_told}
use Rattle.cay_host.specs.Told.{Told}
use Rattle.catalogue.specs.Catalogued.{program_in}
use Rattle.catalogue.specs.Judgement.{Accepts, Judged}
use Rattle.courses.specs.QuerySet.{QuerySet, set_of}
use Rattle.load_texts.specs.Epochs.{epoch_count}
use Rattle.load_texts.specs.EventText.{event_text}
use Rattle.load_texts.specs.QueryText.{query_count, query_text}
use Rattle.session.specs.SessionView.{SessionView, WorksFor}
use Rattle.cayuga_run.specs.declared.status.Status.{Status}
use Rattle.cayuga_run.specs.declared.status.Status.TheVariants.{Done, Usage, BadQuery, Cycle, BadEvent, OutOfOrder, AttachFault, ReadFault, WriteFault, TooMuch, Memory, BadControl}
use Rattle.cayuga_run.specs.Accepting.{IsAcceptedWith}
use Rattle.cayuga_run.specs.LoadHearing.{FailsHearing, HasTotals, HearsWhole}
use Rattle.cayuga_run.specs.LoadOutcome.{IsSummary, LoadFails, LoadOutcome, load_line}
use Rattle.cayuga_run.specs.QueryFailing.{TextFails}
use Rattle.cayuga_run.specs.Reports.{events_heard, program_behind, report_of_heard}
use Rattle.cayuga_run.specs.Works.{Load}
use Rattle.cayuga_run.specs.WritingText.{WritesText}

-- a count from none on
from_none : (results many : ℕ) → Some results ≡ Some (max 0 (min (0 + many) (2 ^ 64 - 1))) → results ≡ min many (2 ^ 64 - 1)
from_none results many e = let same : results ≡ max 0 (min (0 + many) (2 ^ 64 - 1)) = cc in omega (arith, same)

-- the lines that a host counted from none on
counted : (report : List ℕ) (old new : Told) (results : ℕ) → old ≡ silent_told → new.lines ≡ add_lines old.lines report → new.lines ≡ Some results → results ≡ min (count_lf report) (2 ^ 64 - 1)
counted report old new results silent wrote lines = from_none results (count_lf report) (sym lines ∙ wrote ∙ ap (λ (told : Told). add_lines told.lines report) silent)

-- the line of the numbers, where the events were heard to their end
pub sums : (judged : Judged) (load : Load) (session : SessionView) (old new : Told) (results : ℕ) (line : List ℕ) → HearsWhole (set_of judged) (event_text load.seed load.events) session old new → old ≡ silent_told → new.lines ≡ Some results
    → ((history : List Event) → WorksFor session history → HasTotals (program_in session.catalogue) history load.events results line) → IsSummary judged load line
sums judged load session old new results line hears silent lines totals =
    let text = event_text load.seed load.events in
    let own : HasTotals (program_in session.catalogue) (events_heard (set_of judged) text) load.events results line = totals _ hears.finished.works in
    let here : HasTotals (program_behind (set_of judged) text) (events_heard (set_of judged) text) load.events results line =
    subst (λ (set : QuerySet). HasTotals set.program (events_heard (set_of judged) text) load.events results line) hears.finished.holds own in
    record {
      none_refused = hears.none_refused;
      totals = record { states = here.states; results = results; live = here.live };
      are = record {
        states = here.counts_states;
        results = counted (report_of_heard (set_of judged) text) old new results silent hears.wrote.lines lines;
        live = here.counts_live;
      };
      value = here.value;
    }

-- seven parts, and what stands behind them
seven_before : (a b c d e f g behind : List ℕ) → (a ++ (b ++ (c ++ (d ++ (e ++ (f ++ g)))))) ++ behind ≡ a ++ (b ++ (c ++ (d ++ (e ++ (f ++ (g ++ behind))))))
seven_before a b c d e f g behind = simp append_assoc

-- the line of its two halves
pub joined_line : (line front back : List ℕ) (events epochs queries states results live : ℕ) → line ≡ front ++ back
    → front ≡ codes "events " ++ (decimal events ++ (codes ", epochs " ++ (decimal epochs ++ (codes ", queries " ++ (decimal queries ++ codes ", ")))))
    → back ≡ codes "states " ++ (decimal states ++ (codes ", results " ++ (decimal results ++ (codes ", live " ++ (decimal live ++ 10 ∷ [])))))
    → epochs ≡ epoch_count events → queries ≡ query_count events → line ≡ load_line events (record { states = states; results = results; live = live })
joined_line line front back events epochs queries states results live joined first second times asked =
    joined ∙ ap (λ (text : List ℕ). text ++ back) first ∙ seven_before (codes "events ") (decimal events) (codes ", epochs ") (decimal epochs) (codes ", queries ") (decimal queries) (codes ", ") back
    ∙ rw (second, times, asked) refl

-- why there is no line, where the queries aren't accepted
pub load_refused : (load : Load) (status : Status) → TextFails (query_text load.events) status → LoadFails load status
load_refused load Done f = f
load_refused load Usage f = f
load_refused load (BadQuery line why) f = f
load_refused load (Cycle names) f = f
load_refused load (BadEvent line why) f = absurd f
load_refused load (OutOfOrder line at seen) f = absurd f
load_refused load (BadControl line why) f = absurd f
load_refused load (AttachFault side) f = f
load_refused load (ReadFault side) f = f
load_refused load WriteFault f = f
load_refused load (TooMuch most) f = f
load_refused load Memory f = f

-- and where they are
pub load_unheard : (load : Load) (judged : Judged) → Accepts (query_text load.events) judged → (status : Status) → FailsHearing (set_of judged) (event_text load.seed load.events) status → LoadFails load status
load_unheard load judged accepts Done f = f
load_unheard load judged accepts Usage f = f
load_unheard load judged accepts (BadQuery line why) f = absurd f
load_unheard load judged accepts (Cycle names) f = absurd f
load_unheard load judged accepts (BadEvent line why) f = record { judged = judged; accepts = accepts; holds = f }
load_unheard load judged accepts (OutOfOrder line at seen) f = record { judged = judged; accepts = accepts; holds = f }
load_unheard load judged accepts (BadControl line why) f = record { judged = judged; accepts = accepts; holds = f }
load_unheard load judged accepts (AttachFault side) f = f
load_unheard load judged accepts (ReadFault side) f = f
load_unheard load judged accepts WriteFault f = f
load_unheard load judged accepts (TooMuch most) f = f
load_unheard load judged accepts Memory f = f

-- the outcome, where the line was to be written
pub load_writes : (load : Load) (line : List ℕ) (old new : Told) (status : Status) → IsAcceptedWith (query_text load.events) (λ judged. IsSummary judged load line) → WritesText line old new status → LoadOutcome load old new status
load_writes load line old new Done h w = record { judged = h.judged; accepts = h.accepts; holds = (line, h.holds, w) }
load_writes load line old new WriteFault h w = (w.0, record { judged = h.judged; accepts = h.accepts; holds = (line, h.holds, w.1) })
load_writes load line old new Usage h w = absurd w
load_writes load line old new (BadQuery number why) h w = absurd w
load_writes load line old new (Cycle names) h w = absurd w
load_writes load line old new (BadEvent number why) h w = absurd w
load_writes load line old new (OutOfOrder number at seen) h w = absurd w
load_writes load line old new (BadControl number why) h w = absurd w
load_writes load line old new (AttachFault side) h w = absurd w
load_writes load line old new (ReadFault side) h w = absurd w
load_writes load line old new (TooMuch most) h w = absurd w
load_writes load line old new Memory h w = absurd w

-- and where there is none
pub load_stops : (load : Load) (told : Told) (status : Status) → LoadFails load status → LoadOutcome load told told status
load_stops load told Done f = absurd f
load_stops load told WriteFault f = absurd f
load_stops load told Usage f = absurd f
load_stops load told (BadQuery line why) f = (f, record { written = refl; lines = refl })
load_stops load told (Cycle names) f = (f, record { written = refl; lines = refl })
load_stops load told (BadEvent line why) f = (f, record { written = refl; lines = refl })
load_stops load told (OutOfOrder line at seen) f = (f, record { written = refl; lines = refl })
load_stops load told (BadControl line why) f = (f, record { written = refl; lines = refl })
load_stops load told (AttachFault side) f = absurd f
load_stops load told (ReadFault side) f = absurd f
load_stops load told (TooMuch most) f = absurd f
load_stops load told Memory f = (f, record { written = refl; lines = refl })
