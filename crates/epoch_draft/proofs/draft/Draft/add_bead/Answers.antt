use Rattle.std.proofs.Common.{sym, subst, set, length, List}
use Rattle.event_types.specs.Tuple.{TupleView}
use Rattle.epoch_draft.specs.Drafts.{DraftFits}
use Rattle.epoch_draft.proofs.DraftLemmas.{beads_fit}
use Rattle.epoch_draft.proofs.draft.Draft.add_bead.Goals as goal

pub returns-clause-fits : goal.returns-clause-fits
returns-clause-fits c =
    let old = c.args.self.now in
    subst (λ (made : List (List TupleView)). DraftFits (length old.made) (length old.beads) (record { alloc = old.alloc; made = made; beads = set old.beads c.args.state c.put_first.new.chain; due = old.due; reached = c.mark.new.self; spent = old.spent }))
    (sym c.bead_of.ensures.same) (beads_fit old c.args.state c.put_first.new.chain c.mark.new.self c.requires.fits c.mark.ensures.more c.in_ok-mark.ensures.marked)
