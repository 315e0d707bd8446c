-- From the end of the events, and what was written behind their report, to the outcome of the run.
use Rattle.std.proofs.Common.{◌≡◌, ◌∙◌, sym, ap, refl, subst, inr, ℕ, ◌≤◌, List, [], ◌++◌, Bool, true, false, cond, ◌&&◌, is_none, Some, None, IfSome, arith, length, take, append-nil}
use Rattle.std.proofs.lemmas.List.{take_all}
use Rattle.std.specs.Io.KnownBytes.{prepend_known}
use Rattle.cay_host.specs.declared.side.Side.TheVariants.{Queries, Events}
use Rattle.cay_host.specs.Faults.{Rose}
use Rattle.cay_host.specs.Output.{KeepsOutput, SameButOutput, Wrote, WrotePart}
use Rattle.cay_host.specs.Told.{Told}
use Rattle.cay_host.proofs.OutputLemmas.{Wrote-append, Wrote-nil}
use Rattle.semantics.specs.Histories.{Event}
use Rattle.semantics.specs.Programs.{Program}
use Rattle.catalogue.specs.Judgement.{Judged}
use Rattle.courses.specs.declared.refusal.Refusal.TheVariants.{HasFault, HasControlFault, IsOutOfOrder}
use Rattle.courses.specs.Course.{after, start}
use Rattle.courses.specs.Heard.{without_open}
use Rattle.courses.specs.QuerySet.{QuerySet, set_of}
use Rattle.courses.specs.Reports.{closed_in, course_report, heard_in, refused_in, report_of_closed}
use Rattle.session.specs.SessionView.{SessionView}
use Rattle.cayuga_run.specs.declared.status.Status.{Status}
use Rattle.cayuga_run.specs.declared.status.Status.TheVariants.{Done, Usage, BadQuery, Cycle, BadEvent, OutOfOrder, AttachFault, ReadFault, WriteFault, TooMuch, Memory, BadControl}
use Rattle.cayuga_run.specs.HearingOutcome.{Hears, HearsAlone, HearsUpTo}
use Rattle.cayuga_run.specs.Reports.{events_heard, program_behind, report_of_heard}
use Rattle.cayuga_run.specs.RunOutcome.{IsDone, IsMemory, IsReadFault, IsWriteFault, RunOutcome, WritingStopped}
use Rattle.cayuga_run.specs.Stats.{ComesBehind}
use Rattle.cayuga_run.specs.StatsOutcome.{StatsOutcome, WritesStats}
use Rattle.cayuga_run.specs.Works.{Run}
use Rattle.cayuga_run.proofs.OutcomeLemmas.{IsRunReady, at_end, memory_after, of_both, queries_read, read_fault_after, refused_after, too_much_after, write_fault_after}
use Rattle.cayuga_run.proofs.RunLemmas.{Wrote-after}

-- where no line is refused, the end of the text closes all that was heard
pub closed_is_heard : (set : QuerySet) (text : List ℕ) → refused_in set text true ≡ None → closed_in set text true ≡ heard_in set text true
closed_is_heard set text e =
    let heard = heard_in set text true in
    ap (λ o. cond (true && is_none o) heard (without_open (after (start set) heard) heard)) e

-- nothing comes behind the report where no stats are asked for
nothing_behind : (stats : Bool) (program : Program) (history : List Event) → stats ≡ false → ComesBehind stats program history []
nothing_behind false program history plain = refl
nothing_behind true program history plain = absurd cc

-- a stats line comes behind it where they are
line_behind : (stats : Bool) {program : Program} {history : List Event} {line : List ℕ} → stats ≡ true → ComesBehind true program history line → ComesBehind stats program history line
line_behind true asked behind = behind
line_behind false asked behind = absurd cc

-- an output that stays as it is
Wrote-before : {bs : List ℕ} {old mid new : Told} → Wrote bs old mid → KeepsOutput mid new → Wrote bs old new
Wrote-before w s = record { written = s.written ∙ w.written; lines = s.lines ∙ w.lines }

-- nothing is told anew
pub same_told : (told : Told) → SameButOutput told told
same_told told = record { later = omega arith; attach_faults = refl; read_faults = refl; attached = refl; files = refl; left = refl }

-- all events were heard, and then at most something was written
module _ {run : Run} {limit : ℕ} {judged : Judged} {old mid heard new : Told} (r : IsRunReady run judged old mid) {bytes : List ℕ} (h : HearsUpTo (set_of judged) limit bytes true None mid heard) (same : SameButOutput heard new) where
  within : length bytes ≤ limit
  within = (h.takes.whole refl).0

  none_left : IfSome (new.left Events) (λ rest. rest ≡ [])
  none_left = subst (λ f. IfSome (f Events) (λ (rest : List ℕ). rest ≡ [])) (sym same.left) (h.takes.whole refl).1

  all_taken : mid.left Events ≡ prepend_known bytes (new.left Events)
  all_taken = h.takes.front ∙ ap (λ f. prepend_known bytes (f Events)) (sym same.left)

  none_refused : refused_in (set_of judged) bytes true ≡ None
  none_refused = ap (λ t. refused_in (set_of judged) t true) (sym (take_all limit bytes within)) ∙ h.refused

  reported : Wrote (report_of_heard (set_of judged) bytes) old heard
  reported =
      let text : report_of_closed (set_of judged) (take limit bytes) true ≡ report_of_heard (set_of judged) bytes =
      ap (λ t. report_of_closed (set_of judged) t true) (take_all limit bytes within) ∙ ap (course_report (set_of judged)) (closed_is_heard (set_of judged) bytes none_refused) in
      Wrote-after r.silent (subst (λ t. Wrote t mid heard) text h.wrote)

  whole_file : (rest : List ℕ) → new.left Events ≡ Some rest → bytes ≡ bytes ++ rest
  whole_file rest e = sym (ap (λ k. bytes ++ k) (at_end (new.left Events) rest none_left e) ∙ append-nil bytes)

  -- this was written behind the report
  done_after : (more : List ℕ) → ComesBehind run.stats (program_behind (set_of judged) bytes) (events_heard (set_of judged) bytes) more → Wrote more heard new → IsDone run limit old new
  done_after more behind wrote = record {
    there = r.there;
    text = of_both _ _ (new.left Events) judged bytes
        (λ c e. (length e ≤ limit) × (refused_in (set_of c) e true ≡ None) × ((more : List ℕ) × ComesBehind run.stats (program_behind (set_of c) e) (events_heard (set_of c) e) more × Wrote (report_of_heard (set_of c) e ++ more) old new)) r.accept (sym r.events ∙ all_taken)
        (λ rest e.
        subst (λ t. (length t ≤ limit) × (refused_in (set_of judged) t true ≡ None) × ((more : List ℕ) × ComesBehind run.stats (program_behind (set_of judged) t) (events_heard (set_of judged) t) more × Wrote (report_of_heard (set_of judged) t ++ more) old new)) (whole_file rest e)
        (within, none_refused, (more, behind, Wrote-append reported wrote)));
    ended = none_left;
  }

  -- a write of the stats line failed
  stats_fault_after : run.stats ≡ true → HearsAlone mid new → Rose old.write_faults new.write_faults → WritesStats WrotePart (program_behind (set_of judged) bytes) (events_heard (set_of judged) bytes) heard new → IsWriteFault run limit old new
  stats_fault_after asked alone rose w = record {
    cause = rose;
    there = r.there;
    others = queries_read r alone;
    text = of_both _ _ (new.left Events) judged bytes (λ c e. WritingStopped run.stats (set_of c) limit e old new) r.accept (sym r.events ∙ all_taken)
        (λ rest e.
        subst (λ t. WritingStopped run.stats (set_of judged) limit t old new) (whole_file rest e)
        (inr (
          asked,
          record {
            within = within;
            none_refused = none_refused;
            read = e ∙ ap Some (at_end (new.left Events) rest none_left e);
            stats = w.stats;
            are = w.are;
            wrote = record { more = _; goes_on = refl; size = w.wrote.0; within = w.wrote.1; wrote = Wrote-append reported w.wrote.2 };
          },
        )));
  }

  -- there was no memory for the stats line
  no_stats_after : KeepsOutput heard new → IsMemory run limit old new
  no_stats_after keeps =
      let written = report_of_closed (set_of judged) (take limit bytes) true in
      memory_after r (record {
        bytes = bytes;
        ended = true;
        takes = record { front = all_taken; whole = λ e. (within, none_left) };
        wrote = record {
          size = length written;
          within = omega arith;
          wrote = subst (λ t. Wrote t mid new) (sym (take_all (length written) written (omega arith))) (Wrote-before h.wrote keeps);
        };
      })

-- the outcome where the stats line was to be written
pub run_tells : (run : Run) (limit : ℕ) (judged : Judged) (old mid heard new : Told) (bytes : List ℕ) (status : Status) → IsRunReady run judged old mid → HearsUpTo (set_of judged) limit bytes true None mid heard → HearsAlone mid heard
    → heard.write_faults ≡ mid.write_faults → run.stats ≡ true → SameButOutput heard new → StatsOutcome (program_behind (set_of judged) bytes) (events_heard (set_of judged) bytes) heard new status → RunOutcome run limit old new status
run_tells run limit judged old mid heard new bytes Done r h alone quiet asked same w =
    done_after r h same _ (line_behind run.stats asked (w.stats, w.are, refl)) w.wrote
run_tells run limit judged old mid heard new bytes WriteFault r h alone quiet asked same w =
    stats_fault_after r h same asked (record { attached = same.attached ∙ alone.attached; queries = ap (λ f. f Queries) same.left ∙ alone.queries })
    (subst (λ n. Rose n new.write_faults) (quiet ∙ r.write_faults) w.0) w.1
run_tells run limit judged old mid heard new bytes Memory r h alone quiet asked same w = no_stats_after r h same w
run_tells run limit judged old mid heard new bytes Usage r h alone quiet asked same w = w
run_tells run limit judged old mid heard new bytes (BadQuery line why) r h alone quiet asked same w = absurd w
run_tells run limit judged old mid heard new bytes (Cycle names) r h alone quiet asked same w = absurd w
run_tells run limit judged old mid heard new bytes (BadEvent line why) r h alone quiet asked same w = absurd w
run_tells run limit judged old mid heard new bytes (OutOfOrder line at seen) r h alone quiet asked same w = absurd w
run_tells run limit judged old mid heard new bytes (AttachFault side) r h alone quiet asked same w = absurd w
run_tells run limit judged old mid heard new bytes (ReadFault side) r h alone quiet asked same w = absurd w
run_tells run limit judged old mid heard new bytes (TooMuch most) r h alone quiet asked same w = absurd w
run_tells run limit judged old mid heard new bytes (BadControl line why) r h alone quiet asked same w = absurd w

-- the outcome where none was to be written, by the status
pub run_hears : (run : Run) (limit : ℕ) (judged : Judged) (session : SessionView) (old mid new : Told) (status : Status) → IsRunReady run judged old mid → Hears (set_of judged) limit session mid new status → HearsAlone mid new
    → (status ≡ Done → run.stats ≡ false) → RunOutcome run limit old new status
run_hears run limit judged session old mid new Done r h alone plain = done_after r h.heard (same_told new) [] (nothing_behind run.stats (program_behind (set_of judged) h.bytes) (events_heard (set_of judged) h.bytes) (plain refl)) (Wrote-nil new)
run_hears run limit judged session old mid new Usage r h alone plain = h
run_hears run limit judged session old mid new (BadQuery line why) r h alone plain = absurd h
run_hears run limit judged session old mid new (Cycle names) r h alone plain = absurd h
run_hears run limit judged session old mid new (BadEvent line why) r h alone plain = refused_after r (HasFault line why) h
run_hears run limit judged session old mid new (OutOfOrder line at seen) r h alone plain = refused_after r (IsOutOfOrder line at seen) h
run_hears run limit judged session old mid new (AttachFault side) r h alone plain = absurd h
run_hears run limit judged session old mid new (ReadFault side) r h alone plain =
    subst (λ k. IsReadFault k run limit old new) (sym h.0) (read_fault_after r alone h.1 h.2.0 h.2.1 h.2.2)
run_hears run limit judged session old mid new WriteFault r h alone plain = write_fault_after r alone h.0 h.1
run_hears run limit judged session old mid new (TooMuch most) r h alone plain = (h.0, too_much_after r h.1.0 h.1.1 h.1.2)
run_hears run limit judged session old mid new Memory r h alone plain = memory_after r h
run_hears run limit judged session old mid new (BadControl line why) r h alone plain = refused_after r (HasControlFault line why) h
