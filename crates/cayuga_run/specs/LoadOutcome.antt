-- What a run of the generator's texts has done, by its status.
use Rattle.std.specs.Prelude.{◌≡◌, ⊤, ℕ, ◌-◌, ◌^◌, List, ◌∷◌, ◌++◌, [], Some, None, true, codes, decimal, min}
use Rattle.cay_host.specs.Faults.{Rose}
use Rattle.cay_host.specs.Output.{KeepsOutput, Wrote, WrotePart, count_lf}
use Rattle.cay_host.specs.Told.{Told}
use Rattle.birth_laws.specs.BornChains.{born_lines}
use Rattle.catalogue.specs.Judgement.{Circles, Judged, Refuses}
use Rattle.courses.specs.declared.refusal.Refusal.{Refusal}
use Rattle.courses.specs.declared.refusal.Refusal.TheVariants.{HasFault, HasControlFault, IsOutOfOrder}
use Rattle.courses.specs.QuerySet.{QuerySet, set_of}
use Rattle.courses.specs.Reports.{refused_in}
use Rattle.epoch_engine.specs.Counts.{CountsAlive}
use Rattle.load_texts.specs.Epochs.{epoch_count}
use Rattle.load_texts.specs.EventText.{event_text}
use Rattle.load_texts.specs.QueryText.{query_count, query_text}
use Rattle.prefix_merge.specs.Counts.{CountsStates}
use Rattle.splitter.specs.Chains.{lines_of, work_order}
use Rattle.cayuga_run.specs.declared.status.Status.{Status}
use Rattle.cayuga_run.specs.declared.status.Status.TheVariants.{Done, BadQuery, Cycle, BadEvent, OutOfOrder, WriteFault, Memory, BadControl}
use Rattle.cayuga_run.specs.Accepting.{IsAcceptedWith}
use Rattle.cayuga_run.specs.Reports.{events_heard, program_behind, report_of_heard}
use Rattle.cayuga_run.specs.Works.{Load}

-- what a run of accepted queries over an event text comes to: the states of the merged network, the lines of the report, and the bindings that wait and are alive
pub record Totals : Type 0 where
  pub states : ℕ
  pub results : ℕ
  pub live : ℕ

-- they are those of these queries and events; the lines of the report are counted up to 2^64-1
pub record AreTotals (set : QuerySet) (events : List ℕ) (totals : Totals) : Type 0 where
  pub states : CountsStates (lines_of (program_behind set events)) totals.states
  pub results : totals.results ≡ min (count_lf (report_of_heard set events)) (2 ^ 64 - 1)
  pub live : CountsAlive (born_lines (program_behind set events)) (work_order (program_behind set events)) (events_heard set events) totals.live

-- what stands behind the first numbers of the line: `, states 1, results 1, live 0` and an LF
abbrev pub totals_text : Totals → List ℕ
totals_text totals = codes ", states " ++ (decimal totals.states ++ (codes ", results " ++ (decimal totals.results ++ (codes ", live " ++ (decimal totals.live ++ 10 ∷ [])))))

-- the line: `events 4, epochs 2, queries 1, states 1, results 1, live 0` and an LF
abbrev pub load_line : ℕ → Totals → List ℕ
load_line events totals =
    codes "events " ++ (decimal events ++ (codes ", epochs " ++ (decimal (epoch_count events) ++ (codes ", queries " ++ (decimal (query_count events) ++ totals_text totals)))))

-- no line of the generator's events is refused, and this is the line of their numbers
pub record IsSummary (judged : Judged) (load : Load) (line : List ℕ) : Type 0 where
  pub none_refused : refused_in (set_of judged) (event_text load.seed load.events) true ≡ None
  pub totals : Totals
  pub are : AreTotals (set_of judged) (event_text load.seed load.events) totals
  pub value : line ≡ load_line load.events totals

-- the generator's queries are accepted and none of its events is refused, and the line of their numbers was written, in this way
abbrev pub IsLoaded : (List ℕ → Told → Told → Type 0) → Load → Told → Told → Type 0
IsLoaded W load old new = IsAcceptedWith (query_text load.events) (λ judged. (line : List ℕ) × IsSummary judged load line × W line old new)

-- the generator's queries are accepted, and this is the first refusal of its events
abbrev pub RefusesLoad : Refusal → Load → Type 0
RefusesLoad refusal load = IsAcceptedWith (query_text load.events) (λ judged. refused_in (set_of judged) (event_text load.seed load.events) true ≡ Some refusal)

-- why there is no line, by the status
abbrev pub LoadFails : Load → Status → Type 0
LoadFails load (BadQuery line why) = Refuses (query_text load.events) line why
LoadFails load (Cycle names) = Circles (query_text load.events) names
LoadFails load (BadEvent line why) = RefusesLoad (HasFault line why) load
LoadFails load (BadControl line why) = RefusesLoad (HasControlFault line why) load
LoadFails load (OutOfOrder line at seen) = RefusesLoad (IsOutOfOrder line at seen) load
LoadFails load Memory = ⊤
LoadFails load other = ⊥

-- the table of the statuses: the line was written, or a proper prefix of it, or nothing
abbrev pub LoadOutcome : Load → Told → Told → Status → Type 0
LoadOutcome load old new Done = IsLoaded Wrote load old new
LoadOutcome load old new WriteFault = Rose old.write_faults new.write_faults × IsLoaded WrotePart load old new
LoadOutcome load old new other = LoadFails load other × KeepsOutput old new
