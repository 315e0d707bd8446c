use Rattle.std.proofs.Common.{◌≡◌, ◌<◌, ◌⊎◌, sym, subst, ℕ, List, [], get_or, length, take, arith}
use Rattle.std.specs.Prelude.{Contains}
use Rattle.epoch_draft.proofs.AgendaLemmas.{below_more}
use Rattle.epoch_draft.proofs.Lists.{on_ok}
use Rattle.epoch_draft.proofs.MarkLemmas.{all_below}
use Rattle.epoch_engine.specs.Batches.{ArePrinted}
use Rattle.epoch_engine.specs.Prints.{AreListed}
use Rattle.epoch_engine.proofs.BatchLemmas.{printed_all, printed_due}
use Rattle.epoch_engine.proofs.room.Room.list.Goals as goal

-- the streams that are due are those that are marked
pub list_due-requires : goal.list_due-requires
list_due-requires c =
    let draft = c.args.self.now.drawing.draft in
    let fits = c.requires.fits in
    let due = c.as_slice-due.result.now in
    let many = c.requires.plan.prints.many in
    below_more (length draft.due.flags) (length c.args.plan.now.prints.turns.given) due (omega (arith, many, fits.due_below)) (all_below draft.due fits.due due c.as_slice-due.ensures)

-- each stands once among them
pub returns-clause-listed : goal.returns-clause-listed
returns-clause-listed c =
    let plan = c.args.plan.now in
    let draft = c.args.self.now.drawing.draft in
    let outs = plan.layout.outs in
    let due = c.as_slice-due.result.now in
    let same = sym c.as_slice-due.ensures in
    let streams = c.list_due.new.streams in
    on_ok c.list_due.result (AreListed plan.prints.turns due streams) (ArePrinted outs draft.made streams)
    (printed_due outs due streams plan.prints.turns draft.made (c.requires.plan.prints.in_turn c.if-not-plan.false) c.requires.plan.prints.others
    (subst (λ (due : List ℕ). (place : ℕ) → place < length due → Contains (take place due) (get_or due place 0) → ⊥) same c.requires.fits.due.once)
    (λ stream. subst (λ (due : List ℕ). (get_or draft.made stream [] ≡ []) ⊎ Contains due stream) same (c.requires.fits.due_all stream))) c.list_due.ensures

-- or all are listed
pub returns-then-not-plan-clause-listed : goal.returns-then-not-plan-clause-listed
returns-then-not-plan-clause-listed c =
    let outs = c.args.plan.now.layout.outs in
    let made = c.args.self.now.drawing.draft.made in
    let streams = c.list_all.new.streams in on_ok c.list_all.result (streams ≡ outs) (ArePrinted outs made streams) (printed_all outs streams made) c.list_all.ensures
