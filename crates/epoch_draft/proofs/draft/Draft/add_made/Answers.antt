use Rattle.std.proofs.Common.{◌≡◌, ◌++◌, ◌∷◌, [], get_or, length, set}
use Rattle.epoch_draft.specs.Drafts.{DraftFits}
use Rattle.epoch_draft.proofs.DraftLemmas.{set_fits}
use Rattle.epoch_draft.proofs.Lists.{on_ok}
use Rattle.epoch_draft.proofs.draft.Draft.add_made.Goals as goal

pub returns-clause-fits : goal.returns-clause-fits
returns-clause-fits c =
    let old = c.args.self.now in
    let rows = get_or old.made c.args.stream [] ++ c.args.tuple ∷ [] in
    let new = c.add.new.self in
    let due = c.mark.new.self in
    on_ok c.add.result (new ≡ set old.made c.args.stream rows) (DraftFits (length old.made) (length old.beads) (record { alloc = old.alloc; made = new; beads = old.beads; due = due; reached = old.reached; spent = old.spent }))
    (set_fits old c.args.stream rows new due c.requires.fits c.mark.ensures.more c.in_ok-mark.ensures.marked) c.add.ensures
