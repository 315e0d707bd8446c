use Rattle.std.proofs.Common.{◌≡◌, sym, subst, ◌<◌, ◌⊎◌, ℕ, get_or, length, List, []}
use Rattle.std.specs.Prelude.{Contains}
use Rattle.std.specs.List.{All}
use Rattle.event_types.specs.Order.{sorted}
use Rattle.epoch_draft.specs.Drafts.{DraftFits}
use Rattle.epoch_draft.proofs.DraftLemmas.{ordered_fits}
use Rattle.epoch_draft.proofs.Lists.{on_ok_two}
use Rattle.epoch_draft.proofs.MarkLemmas.{all_below}
use Rattle.epoch_draft.proofs.draft.Draft.put_in_order.Goals as goal

-- the streams that have tuples are due
pub put_in_order-requires : goal.put_in_order-requires
put_in_order-requires c =
    let old = c.args.self.now in record {
      streams = subst (λ (m : ℕ). All (λ n. n < m) c.as_slice.result.now) (c.requires.due_below) (all_below old.due c.requires.due c.as_slice.result.now c.as_slice.ensures);
      others = λ s. subst (λ (ns : List ℕ). (get_or old.made s [] ≡ []) ⊎ Contains ns s) (sym c.as_slice.ensures) (c.requires.due_all s);
    }

-- and no others have some then
pub returns-clause-fits : goal.returns-clause-fits
returns-clause-fits c =
    let old = c.args.self.now in
    let made = c.put_in_order.new.self in
    on_ok_two c.put_in_order.result (length made ≡ length old.made) ((s : ℕ) → get_or made s [] ≡ sorted (get_or old.made s [])) (DraftFits (length old.made) (length old.beads) (record { alloc = old.alloc; made = made; beads = old.beads; due = old.due; reached = old.reached; spent = old.spent }))
    (λ as_many ordered. ordered_fits old made c.requires as_many ordered) c.put_in_order.ensures.as_many c.put_in_order.ensures.ordered
