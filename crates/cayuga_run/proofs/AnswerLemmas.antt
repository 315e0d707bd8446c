-- From the table of the statuses to what each answer says.
use Rattle.std.proofs.Common.{◌≡◌, refl, subst, ℕ, false}
use Rattle.cay_host.specs.declared.side.Side.{Side}
use Rattle.cay_host.specs.Told.{Told}
use Rattle.cayuga_run.specs.declared.status.Status.{Status}
use Rattle.cayuga_run.specs.declared.status.Status.TheVariants.{Done, Usage, BadQuery, Cycle, BadEvent, OutOfOrder, AttachFault, ReadFault, WriteFault, TooMuch, Memory, BadControl}
use Rattle.cayuga_run.specs.Answers.{Answers}
use Rattle.cayuga_run.specs.Blaming.{BlamesHost}
use Rattle.cayuga_run.specs.ExplainOutcome.{ExplainOutcome}
use Rattle.cayuga_run.specs.LoadOutcome.{LoadOutcome}
use Rattle.cayuga_run.specs.Outcome.{DidNothing, Outcome}
use Rattle.cayuga_run.specs.Reading.{Reads}
use Rattle.cayuga_run.specs.RunOutcome.{RunOutcome}
use Rattle.cayuga_run.specs.Works.{Work, Nothing, Reports, Writes, Loads, Explains, has_side}
use Rattle.cayuga_run.specs.WritingOutcome.{WritingOutcome}
use Rattle.cayuga_run.proofs.ExplainAnswers.{explain_complete_by, explain_decided, explain_refused_by}
use Rattle.cayuga_run.proofs.LoadAnswers.{load_complete_by, load_decided, load_refused_by}
use Rattle.cayuga_run.proofs.RunAnswers.{complete_by, decided, refused_by}
use Rattle.cayuga_run.proofs.WritingAnswers.{writing_complete_by, writing_decided, writing_refused_by}

-- words that ask for nothing
without_work : (limit : ℕ) (old new : Told) (status : Status) → DidNothing old new status → BlamesHost old new status → new.left ≡ old.left → ((side : Side) → new.attached side ≡ false) → Answers Nothing limit old new status
without_work limit old new Usage same blames reads sides = record {
  usage = λ other. (λ e. refl, λ e. refl);
  usage_does = λ e. same;
  done = λ e. cc;
  bad_query = λ line why e. cc;
  cycle = λ names e. cc;
  bad_event = λ line why e. cc;
  bad_control = λ line why e. cc;
  out_of_order = λ line at seen e. cc;
  too_much = λ most e. cc;
  attach_fault = λ side e. cc;
  read_fault = λ side e. cc;
  write_fault = λ e. cc;
  memory = λ e. cc;
  blames = blames;
  reads = reads;
  sides = λ side e. sides side;
  refused = tt;
  determined = tt;
  complete = tt;
}
without_work limit old new Memory same blames reads sides = record {
  usage = λ other. absurd (other refl);
  usage_does = λ e. cc;
  done = λ e. cc;
  bad_query = λ line why e. cc;
  cycle = λ names e. cc;
  bad_event = λ line why e. cc;
  bad_control = λ line why e. cc;
  out_of_order = λ line at seen e. cc;
  too_much = λ most e. cc;
  attach_fault = λ side e. cc;
  read_fault = λ side e. cc;
  write_fault = λ e. cc;
  memory = λ e. same;
  blames = blames;
  reads = reads;
  sides = λ side e. sides side;
  refused = tt;
  determined = tt;
  complete = tt;
}
without_work limit old new Done same blames reads sides = absurd same
without_work limit old new (BadQuery line why) same blames reads sides = absurd same
without_work limit old new (Cycle names) same blames reads sides = absurd same
without_work limit old new (BadEvent line why) same blames reads sides = absurd same
without_work limit old new (OutOfOrder line at seen) same blames reads sides = absurd same
without_work limit old new (AttachFault side) same blames reads sides = absurd same
without_work limit old new (ReadFault side) same blames reads sides = absurd same
without_work limit old new WriteFault same blames reads sides = absurd same
without_work limit old new (TooMuch most) same blames reads sides = absurd same
without_work limit old new (BadControl line why) same blames reads sides = absurd same

-- the answers, by what is asked for
pub answers : (work : Work) (limit : ℕ) (old new : Told) (status : Status) → Outcome work limit old new status → BlamesHost old new status → Reads work limit old new → ((side : Side) → has_side work side ≡ false → new.attached side ≡ false) → Answers work limit old new status
answers Nothing limit old new status o blames reads sides = without_work limit old new status o blames reads (λ side. sides side refl)
answers (Reports run) limit old new status o blames reads sides = record {
  usage = λ other. (λ e. absurd (subst (RunOutcome run limit old new) e o), λ e. cc);
  usage_does = λ e. absurd (subst (RunOutcome run limit old new) e o);
  done = λ e. subst (RunOutcome run limit old new) e o;
  bad_query = λ line why e. subst (RunOutcome run limit old new) e o;
  cycle = λ names e. subst (RunOutcome run limit old new) e o;
  bad_event = λ line why e. subst (RunOutcome run limit old new) e o;
  bad_control = λ line why e. subst (RunOutcome run limit old new) e o;
  out_of_order = λ line at seen e. subst (RunOutcome run limit old new) e o;
  too_much = λ most e. subst (RunOutcome run limit old new) e o;
  attach_fault = λ side e. subst (RunOutcome run limit old new) e o;
  read_fault = λ side e. subst (RunOutcome run limit old new) e o;
  write_fault = λ e. subst (RunOutcome run limit old new) e o;
  memory = λ e. subst (RunOutcome run limit old new) e o;
  blames = blames;
  reads = reads;
  sides = sides;
  refused = refused_by run limit old new status o;
  determined = decided run limit old new status o;
  complete = complete_by run limit old new status o;
}
answers (Writes writing) limit old new status o blames reads sides = record {
  usage = λ other. (λ e. absurd (subst (WritingOutcome writing old new) e o), λ e. cc);
  usage_does = λ e. absurd (subst (WritingOutcome writing old new) e o);
  done = λ e. subst (WritingOutcome writing old new) e o;
  bad_query = λ line why e. subst (WritingOutcome writing old new) e o;
  cycle = λ names e. subst (WritingOutcome writing old new) e o;
  bad_event = λ line why e. subst (WritingOutcome writing old new) e o;
  bad_control = λ line why e. subst (WritingOutcome writing old new) e o;
  out_of_order = λ line at seen e. subst (WritingOutcome writing old new) e o;
  too_much = λ most e. absurd (subst (WritingOutcome writing old new) e o);
  attach_fault = λ side e. subst (WritingOutcome writing old new) e o;
  read_fault = λ side e. subst (WritingOutcome writing old new) e o;
  write_fault = λ e. subst (WritingOutcome writing old new) e o;
  memory = λ e. subst (WritingOutcome writing old new) e o;
  blames = blames;
  reads = reads;
  sides = sides;
  refused = writing_refused_by writing old new status o;
  determined = writing_decided writing old new status o;
  complete = writing_complete_by writing old new status o;
}
answers (Loads load) limit old new status o blames reads sides = record {
  usage = λ other. (λ e. absurd (subst (LoadOutcome load old new) e o).0, λ e. cc);
  usage_does = λ e. absurd (subst (LoadOutcome load old new) e o).0;
  done = λ e. subst (LoadOutcome load old new) e o;
  bad_query = λ line why e. subst (LoadOutcome load old new) e o;
  cycle = λ names e. subst (LoadOutcome load old new) e o;
  bad_event = λ line why e. subst (LoadOutcome load old new) e o;
  bad_control = λ line why e. subst (LoadOutcome load old new) e o;
  out_of_order = λ line at seen e. subst (LoadOutcome load old new) e o;
  too_much = λ most e. absurd (subst (LoadOutcome load old new) e o).0;
  attach_fault = λ side e. (subst (LoadOutcome load old new) e o).0;
  read_fault = λ side e. (subst (LoadOutcome load old new) e o).0;
  write_fault = λ e. subst (LoadOutcome load old new) e o;
  memory = λ e. (subst (LoadOutcome load old new) e o).1;
  blames = blames;
  reads = reads;
  sides = sides;
  refused = load_refused_by load old new status o;
  determined = load_decided load old new status o;
  complete = load_complete_by load old new status o;
}
answers (Explains explaining) limit old new status o blames reads sides = record {
  usage = λ other. (λ e. absurd (subst (ExplainOutcome explaining limit old new) e o), λ e. cc);
  usage_does = λ e. absurd (subst (ExplainOutcome explaining limit old new) e o);
  done = λ e. subst (ExplainOutcome explaining limit old new) e o;
  bad_query = λ line why e. subst (ExplainOutcome explaining limit old new) e o;
  cycle = λ names e. subst (ExplainOutcome explaining limit old new) e o;
  bad_event = λ line why e. subst (ExplainOutcome explaining limit old new) e o;
  bad_control = λ line why e. subst (ExplainOutcome explaining limit old new) e o;
  out_of_order = λ line at seen e. subst (ExplainOutcome explaining limit old new) e o;
  too_much = λ most e. subst (ExplainOutcome explaining limit old new) e o;
  attach_fault = λ side e. subst (ExplainOutcome explaining limit old new) e o;
  read_fault = λ side e. subst (ExplainOutcome explaining limit old new) e o;
  write_fault = λ e. subst (ExplainOutcome explaining limit old new) e o;
  memory = λ e. subst (ExplainOutcome explaining limit old new) e o;
  blames = blames;
  reads = reads;
  sides = sides;
  refused = explain_refused_by explaining limit old new status o;
  determined = explain_decided explaining limit old new status o;
  complete = explain_complete_by explaining limit old new status o;
}
