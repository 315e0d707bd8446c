use Rattle.std.proofs.Common.{◌∙◌, false, sym, subst, append-nil, arith, List, []}
use Rattle.std.proofs.lemmas.List.Elements.{All-nil}
use Rattle.std.proofs.lemmas.Option.{get_or_from_slice_get}
use Rattle.epoch_draft.specs.Agenda.{IsUnread}
use Rattle.epoch_draft.specs.Drafts.{Grows}
use Rattle.epoch_draft.specs.Held.{held}
use Rattle.epoch_draft.specs.Meeting.{IsPairOf}
use Rattle.epoch_draft.specs.Moves.{Move}
use Rattle.epoch_draft.proofs.DraftLemmas.{grows_none}
use Rattle.epoch_draft.proofs.UnreadLemmas.{moves_all_none, waits_read}
use Rattle.epoch_draft.proofs.making.meet_read.Goals as goal

-- no state reads the stream
nobody_reads : (g : _) (c : goal.Then-not-get g) → IsUnread c.args.stored.now.network.now c.args.stream
nobody_reads g c = c.requires.turns.unread c.args.stream c.requires.stream (get_or_from_slice_get c.args.stored.now.turns.now.read c.args.stream c.get.result.now false c.get.ensures ∙ c.if-not-get.true)

-- so nothing comes of its tuples
pub returns-then-not-get-clause-grows : goal.returns-then-not-get-clause-grows
returns-then-not-get-clause-grows g c =
    let net = c.args.stored.now.network.now in
    let draft = c.args.drawing.now.draft in
    subst (λ (moves : List Move). Grows net moves draft draft) (sym (moves_all_none net (held c.args.stored.now.stores.now) c.args.stream (nobody_reads g c) c.args.tuples.now))
    (grows_none net draft c.requires.draft.fits)

-- and none of them is listed
pub returns-then-not-get-clause-lists : goal.returns-then-not-get-clause-lists
returns-then-not-get-clause-lists g c =
    let net = c.args.stored.now.network.now in
    record {
      added = [];
      are = sym (append-nil c.args.drawing.now.pairs);
      sound = All-nil (IsPairOf net c.args.stream c.args.tuples.now);
      listed = λ place tuple at state waits. absurd (nobody_reads g c state (waits_read net c.args.stream state waits));
      takes = omega arith;
    }
