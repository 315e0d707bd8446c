use Rattle.std.proofs.Common.{◌≡◌, ◌∙◌, ap, ◌++◌, ◌∷◌, [], get_or, length, set, subst}
use Rattle.epoch_draft.specs.Drafts.{DraftFits}
use Rattle.epoch_draft.specs.Made.{IsLastIn}
use Rattle.epoch_draft.proofs.DraftLemmas.{set_fits}
use Rattle.epoch_draft.proofs.Lists.{on_ok}
use Rattle.epoch_draft.proofs.draft.Draft.add_copy.Goals as goal

-- the tuple stands already
pub returns-in-Some-clause-fits : goal.returns-in-Some-clause-fits
returns-in-Some-clause-fits c =
    let old = c.args.self.now in
    let rows = get_or old.made c.args.stream [] ++ c.args.tuple.now ∷ [] in
    let ends = subst (IsLastIn old.made c.args.tuple.now) c.in-Some.is c.requires.last in
    let new = c.add_again.new.self in
    let due = c.mark.new.self in
    on_ok c.add_again.result (new ≡ set old.made c.args.stream rows) (DraftFits (length old.made) (length old.beads) (record { alloc = old.alloc; made = new; beads = old.beads; due = due; reached = old.reached; spent = old.spent }))
    (set_fits old c.args.stream rows new due c.requires.fits c.mark.ensures.more c.in_ok-mark.ensures.marked) (c.add_again.ensures c.args.tuple.now ends)

-- a copy comes behind
pub returns-in_ok-copy-in-None-clause-fits : goal.returns-in_ok-copy-in-None-clause-fits
returns-in_ok-copy-in-None-clause-fits c =
    let old = c.args.self.now in
    let s = c.args.stream in
    let mid = c.copy.new.self in
    let x = c.in_ok-copy-in-None.copy in
    let new = c.add.new.self in
    let due = c.mark.new.self in
    on_ok c.add.result (new ≡ set mid s (get_or mid s [] ++ x ∷ [])) (DraftFits (length old.made) (length old.beads) (record { alloc = old.alloc; made = new; beads = old.beads; due = due; reached = old.reached; spent = old.spent }))
    (λ is. set_fits old s (get_or old.made s [] ++ x ∷ []) new due c.requires.fits c.mark.ensures.more c.in_ok-mark.ensures.marked (is ∙ ap (λ rows. set rows s (get_or rows s [] ++ x ∷ [])) c.copy.ensures.same)) c.add.ensures
