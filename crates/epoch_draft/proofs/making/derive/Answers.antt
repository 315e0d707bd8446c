use Rattle.std.proofs.Common.{◌≡◌, sym, ap, refl, subst, ℕ, ◌+◌, ◌<◌, ◌≤◌, [], List, length, get_or, arith}
use Rattle.std.specs.Prelude.{Contains}
use Rattle.std.specs.List.{All}
use Rattle.std.proofs.lemmas.List.Elements.{All-nil}
use Rattle.event_types.specs.Order.{sorted}
use Rattle.semantics.specs.Denotation.{streams_of}
use Rattle.epoch_draft.specs.Agenda.{AreBehind, IsPlannedIn}
use Rattle.epoch_draft.specs.Deriving.{DrawnUpTo}
use Rattle.epoch_draft.specs.Drafts.{DraftFits}
use Rattle.epoch_draft.specs.EpochWork.{TakesNoMore, derived_tests, derived_work, pairs_work}
use Rattle.epoch_draft.specs.Held.{held}
use Rattle.epoch_draft.specs.Suits.{TupleSuits}
use Rattle.epoch_draft.specs.Takes.{take_work}
use Rattle.epoch_draft.specs.Tests.{stream_work, tuple_work}
use Rattle.epoch_draft.proofs.AgendaLemmas.{fresh_part, rest_behind, takes_left, work_left}
use Rattle.epoch_draft.proofs.DeriveLemmas.{AreReadInOrder, MadeUpTo, below, drawn_made, drawn_of, made_suits, made_within}
use Rattle.epoch_draft.proofs.InTurnLemmas.{comes_next, derived_ended, derived_more, derived_none, fresh_ordered, ordered_below, turn_rises}
use Rattle.epoch_draft.proofs.Lists.{on_ok, on_ok_three, taken_all}
use Rattle.epoch_draft.proofs.OrderLemmas.{drawn_in_order, takes_in_order}
use Rattle.epoch_draft.proofs.StoreLemmas.{typed_has}
use Rattle.epoch_draft.proofs.making.derive.Goals as goal

-- there is room for the streams that are due
pub plan-requires-clause-turns : goal.plan-requires-clause-turns
plan-requires-clause-turns g c =
    let layout = c.args.stored.now.layout.now in
    ordered_below layout.order (length layout.kinds) (length c.args.stored.now.turns.now.turns.given) c.as_slice-due.result.now c.requires.can_draw.order c.requires.can_read.turns.many_turns
    (subst (All (Contains layout.order)) (sym c.as_slice-due.ensures) c.requires.due)

pub plan-requires-clause-read : goal.plan-requires-clause-read
plan-requires-clause-read g c =
    let layout = c.args.stored.now.layout.now in
    ordered_below layout.order (length layout.kinds) (length c.args.stored.now.turns.now.read) c.as_slice-due.result.now c.requires.can_draw.order c.requires.can_read.turns.many_read
    (subst (All (Contains layout.order)) (sym c.as_slice-due.ensures) c.requires.due)

-- no stream is derived yet
pub loop-turn-init : goal.loop-turn-init
loop-turn-init g c =
    let net = c.args.stored.now.network.now in
    let layout = c.args.stored.now.layout.now in
    let stores = c.args.stored.now.stores.now in
    let opened = c.args.opened.now in
    let turns = c.args.stored.now.turns.now in
    let draft = c.args.drawing.now.draft in
    let pairs = c.args.drawing.now.pairs in
    let agenda = c.plan.new.agenda.entries in
    derived_none net layout stores opened c.requires.can_draw turns c.requires.can_read.turns draft pairs agenda c.args.steps.now _ _
    (record {
      until = drawn_made net layout stores opened [] draft pairs c.requires.drawn;
      in_order = All-nil _;
      ticks =
          let same : work_left net layout stores opened draft 0 ≡ derived_work net layout.order (held stores) (streams_of opened) = refl in omega (arith, same);
      takes =
          let same : takes_left net layout stores opened draft 0 ≡ derived_tests (take_work net (held stores)) net layout.order (held stores) (streams_of opened) = refl in
          let was = c.requires.takes in omega (arith, same, was);
    })
    c.requires.due c.in_ok-plan.ensures.behind (subst (All (IsPlannedIn turns 0 agenda)) c.as_slice-due.ensures c.in_ok-plan.ensures.planned)

pub derive_stream-requires-clause-stored : goal.derive_stream-requires-clause-stored
derive_stream-requires-clause-stored g c = record {
  network = c.requires.can_draw.network;
  readers = c.requires.can_read.readers;
  stores = typed_has c.args.stored.now.network.now c.args.stored.now.layout.now.kinds c.args.stored.now.stores.now c.requires.can_draw.typed;
  led = c.requires.can_read.led;
}

pub derive_stream-requires-clause-stream : goal.derive_stream-requires-clause-stream
derive_stream-requires-clause-stream g c =
    let net = c.args.stored.now.network.now in
    let layout = c.args.stored.now.layout.now in
    let stores = c.args.stored.now.stores.now in
    let opened = c.args.opened.now in
    let next =
    comes_next net layout stores opened c.requires.can_draw c.args.stored.now.turns.now c.requires.can_read.turns c.loop-turn.drawing.draft c.loop-turn.drawing.pairs c.loop-turn.drawing.agenda.entries c.loop-turn.last c.loop-turn.steps _ _ c.loop-turn.invariant c.in-Some.turn c.in-Some.stream
    c.pop_first.new.self.entries c.in-Some.ensures.removal c.in-Some.ensures.all_above in
    let is = next.is in
    let there = below net layout stores opened c.requires.can_draw next.place next.inside in let room = next.made.until.fits.made in omega (arith, is, there, room)

pub derive_stream-requires-clause-draft : goal.derive_stream-requires-clause-draft
derive_stream-requires-clause-draft g c = drawn_of c.args.stored.now.network.now c.args.stored.now.layout.now c.args.stored.now.stores.now c.args.opened.now c.loop-turn.drawing.draft c.requires.can_draw c.loop-turn.invariant.made.until.fits

pub derive_stream-requires-clause-suits : goal.derive_stream-requires-clause-suits
derive_stream-requires-clause-suits g c =
    let net = c.args.stored.now.network.now in
    let layout = c.args.stored.now.layout.now in
    let stores = c.args.stored.now.stores.now in
    let opened = c.args.opened.now in
    let draft = c.loop-turn.drawing.draft in
    let next =
    comes_next net layout stores opened c.requires.can_draw c.args.stored.now.turns.now c.requires.can_read.turns draft c.loop-turn.drawing.pairs c.loop-turn.drawing.agenda.entries c.loop-turn.last c.loop-turn.steps _ _ c.loop-turn.invariant c.in-Some.turn c.in-Some.stream
    c.pop_first.new.self.entries c.in-Some.ensures.removal c.in-Some.ensures.all_above in
    subst (λ (s : ℕ). All (TupleSuits net (held stores) s) (get_or draft.made s [])) next.is (made_suits net layout stores opened c.requires.can_draw next.place next.inside draft c.loop-turn.drawing.pairs next.made.until)

-- want of memory comes after some of the tests
pub returns-in_err-derive_stream-clause-ticks : goal.returns-in_err-derive_stream-clause-ticks
returns-in_err-derive_stream-clause-ticks g c =
    let net = c.args.stored.now.network.now in
    let layout = c.args.stored.now.layout.now in
    let stores = c.args.stored.now.stores.now in
    let opened = c.args.opened.now in
    let draft = c.loop-turn.drawing.draft in
    let next =
    comes_next net layout stores opened c.requires.can_draw c.args.stored.now.turns.now c.requires.can_read.turns draft c.loop-turn.drawing.pairs c.loop-turn.drawing.agenda.entries c.loop-turn.last c.loop-turn.steps _ _ c.loop-turn.invariant c.in-Some.turn c.in-Some.stream
    c.pop_first.new.self.entries c.in-Some.ensures.removal c.in-Some.ensures.all_above in
    let was = next.made.ticks in
    let one = subst (λ (s : ℕ). c.derive_stream.new.steps ≤ c.loop-turn.steps + stream_work net (held stores) s (get_or draft.made s [])) (sym next.is) c.derive_stream.ensures.ticks in
    let all = made_within net layout stores opened c.requires.can_draw next.place next.inside (tuple_work net (held stores)) draft c.loop-turn.drawing.pairs next.made.until in omega (arith, was, one, all)

-- the streams that are newly due are of the order
pub plan-requires-in-Some-clause-ordered : goal.plan-requires-in-Some-clause-ordered
plan-requires-in-Some-clause-ordered g c =
    let layout = c.args.stored.now.layout.now in
    let derives = c.in_ok-derive_stream.ensures.derives in
    subst (All (Contains layout.order)) (sym (fresh_part c.loop-turn.drawing.draft.due c.derive_stream.new.drawing.draft.due derives.meets.due c.as_slice.result.now c.len-known.result c.as_slice.ensures c.len-known.ensures))
    (fresh_ordered c.args.stored.now.network.now layout c.args.stored.now.stores.now c.args.opened.now c.requires.can_draw c.args.stored.now.turns.now c.requires.can_read.turns c.loop-turn.drawing.draft c.loop-turn.drawing.pairs c.loop-turn.drawing.agenda.entries c.loop-turn.last c.loop-turn.steps _ _
    c.loop-turn.invariant c.in-Some.turn c.in-Some.stream c.pop_first.new.self.entries c.in-Some.ensures.removal c.in-Some.ensures.all_above c.derive_stream.new.drawing.draft c.derive_stream.new.drawing.pairs derives)

-- there is room for them
pub plan-requires-in-Some-clause-turns : goal.plan-requires-in-Some-clause-turns
plan-requires-in-Some-clause-turns g c =
    let layout = c.args.stored.now.layout.now in
    let bound = length c.args.stored.now.turns.now.turns.given in
    let derives = c.in_ok-derive_stream.ensures.derives in
    subst (All (λ s. s < bound)) (sym (fresh_part c.loop-turn.drawing.draft.due c.derive_stream.new.drawing.draft.due derives.meets.due c.as_slice.result.now c.len-known.result c.as_slice.ensures c.len-known.ensures))
    (ordered_below layout.order (length layout.kinds) bound derives.meets.due.added c.requires.can_draw.order c.requires.can_read.turns.many_turns
    (fresh_ordered c.args.stored.now.network.now layout c.args.stored.now.stores.now c.args.opened.now c.requires.can_draw c.args.stored.now.turns.now c.requires.can_read.turns c.loop-turn.drawing.draft c.loop-turn.drawing.pairs c.loop-turn.drawing.agenda.entries c.loop-turn.last c.loop-turn.steps _ _
    c.loop-turn.invariant c.in-Some.turn c.in-Some.stream c.pop_first.new.self.entries c.in-Some.ensures.removal c.in-Some.ensures.all_above c.derive_stream.new.drawing.draft c.derive_stream.new.drawing.pairs derives))

pub plan-requires-in-Some-clause-read : goal.plan-requires-in-Some-clause-read
plan-requires-in-Some-clause-read g c =
    let layout = c.args.stored.now.layout.now in
    let bound = length c.args.stored.now.turns.now.read in
    let derives = c.in_ok-derive_stream.ensures.derives in
    subst (All (λ s. s < bound)) (sym (fresh_part c.loop-turn.drawing.draft.due c.derive_stream.new.drawing.draft.due derives.meets.due c.as_slice.result.now c.len-known.result c.as_slice.ensures c.len-known.ensures))
    (ordered_below layout.order (length layout.kinds) bound derives.meets.due.added c.requires.can_draw.order c.requires.can_read.turns.many_read
    (fresh_ordered c.args.stored.now.network.now layout c.args.stored.now.stores.now c.args.opened.now c.requires.can_draw c.args.stored.now.turns.now c.requires.can_read.turns c.loop-turn.drawing.draft c.loop-turn.drawing.pairs c.loop-turn.drawing.agenda.entries c.loop-turn.last c.loop-turn.steps _ _
    c.loop-turn.invariant c.in-Some.turn c.in-Some.stream c.pop_first.new.self.entries c.in-Some.ensures.removal c.in-Some.ensures.all_above c.derive_stream.new.drawing.draft c.derive_stream.new.drawing.pairs derives))

-- what is still planned is behind the turn
pub plan-requires-in-Some-clause-behind : goal.plan-requires-in-Some-clause-behind
plan-requires-in-Some-clause-behind g c =
    let order = c.args.stored.now.layout.now.order in
    let turns = c.args.stored.now.turns.now.turns in
    subst (AreBehind order turns c.in-Some.turn) (sym c.derive_stream.ensures.agenda)
    (rest_behind order turns c.requires.can_read.turns.in_turn c.loop-turn.last c.in-Some.turn c.in-Some.stream c.loop-turn.drawing.agenda.entries c.pop_first.new.self.entries c.in-Some.ensures.removal c.in-Some.ensures.all_above c.loop-turn.invariant.behind)

pub loop-turn-smaller : goal.loop-turn-smaller
loop-turn-smaller g c =
    let up =
    turn_rises c.args.stored.now.network.now c.args.stored.now.layout.now c.args.stored.now.stores.now c.args.opened.now c.requires.can_draw c.args.stored.now.turns.now c.requires.can_read.turns c.loop-turn.drawing.draft c.loop-turn.drawing.pairs c.loop-turn.drawing.agenda.entries c.loop-turn.last
    c.loop-turn.steps _ _ c.loop-turn.invariant c.in-Some.turn c.in-Some.stream c.pop_first.new.self.entries c.in-Some.ensures.removal c.in-Some.ensures.all_above in
    let after = up.0 in let most = up.1 in omega (arith, after, most)

-- one stream more is derived
pub loop-turn-preserved : goal.loop-turn-preserved
loop-turn-preserved g c =
    let turns = c.args.stored.now.turns.now in
    let now = c.plan-in-Some.new.agenda.entries in
    let derives = c.in_ok-derive_stream.ensures.derives in
    derived_more c.args.stored.now.network.now c.args.stored.now.layout.now c.args.stored.now.stores.now c.args.opened.now c.requires.can_draw turns c.requires.can_read.turns c.loop-turn.drawing.draft c.loop-turn.drawing.pairs c.loop-turn.drawing.agenda.entries c.loop-turn.last c.loop-turn.steps _ _
    c.loop-turn.invariant c.in-Some.turn c.in-Some.stream c.pop_first.new.self.entries c.in-Some.ensures.removal c.in-Some.ensures.all_above c.derive_stream.new.drawing.draft c.derive_stream.new.drawing.pairs derives now c.derive_stream.new.steps c.derive_stream.ensures.ticks
    (subst (λ (entries : List (ℕ × ℕ)). All (Contains now) entries) c.derive_stream.ensures.agenda c.in_ok-plan-2.ensures.kept) c.in_ok-plan-2.ensures.behind
    (subst (All (IsPlannedIn turns c.in-Some.turn now)) (fresh_part c.loop-turn.drawing.draft.due c.derive_stream.new.drawing.draft.due derives.meets.due c.as_slice.result.now c.len-known.result c.as_slice.ensures c.len-known.ensures) c.in_ok-plan-2.ensures.planned)

pub returns-in_err-plan-2-clause-ticks : goal.returns-in_err-plan-2-clause-ticks
returns-in_err-plan-2-clause-ticks g c =
    let net = c.args.stored.now.network.now in
    let layout = c.args.stored.now.layout.now in
    let stores = c.args.stored.now.stores.now in
    let opened = c.args.opened.now in
    let draft = c.loop-turn.drawing.draft in
    let next =
    comes_next net layout stores opened c.requires.can_draw c.args.stored.now.turns.now c.requires.can_read.turns draft c.loop-turn.drawing.pairs c.loop-turn.drawing.agenda.entries c.loop-turn.last c.loop-turn.steps _ _ c.loop-turn.invariant c.in-Some.turn c.in-Some.stream
    c.pop_first.new.self.entries c.in-Some.ensures.removal c.in-Some.ensures.all_above in
    let was = next.made.ticks in
    let one = subst (λ (s : ℕ). c.derive_stream.new.steps ≤ c.loop-turn.steps + stream_work net (held stores) s (get_or draft.made s [])) (sym next.is) c.derive_stream.ensures.ticks in
    let all = made_within net layout stores opened c.requires.can_draw next.place next.inside (tuple_work net (held stores)) draft c.loop-turn.drawing.pairs next.made.until in omega (arith, was, one, all)

-- all is drawn once the others are in order too
pub returns-clause-drawn : goal.returns-clause-drawn
returns-clause-drawn g c =
    let net = c.args.stored.now.network.now in
    let layout = c.args.stored.now.layout.now in
    let stores = c.args.stored.now.stores.now in
    let opened = c.args.opened.now in
    let old = c.loop-turn.drawing.draft in
    let pairs = c.loop-turn.drawing.pairs in
    let made =
    derived_ended net layout stores opened c.requires.can_draw c.args.stored.now.turns.now c.requires.can_read.turns old pairs c.loop-turn.drawing.agenda.entries c.loop-turn.last c.loop-turn.steps _ _ c.loop-turn.invariant (λ some. absurd (let no = c.in_default.ensures.variant.1 some in cc)) in
    let all = taken_all layout.order (length layout.order) (omega arith) in
    let until = subst (λ (done : List ℕ). MadeUpTo net layout stores opened done old pairs) all made.until in
    let in_order = subst (AreReadInOrder net old.made) all made.in_order in
    let new = c.put_in_order.new.self in
    on_ok_three c.put_in_order.result ((s : ℕ) → get_or new.made s [] ≡ sorted (get_or old.made s [])) (new.beads ≡ old.beads) (DraftFits (length old.made) (length old.beads) new) (DrawnUpTo net layout stores opened layout.order new pairs)
    (λ made beads fits. drawn_in_order net layout stores opened old new pairs until in_order made beads fits) c.put_in_order.ensures.made c.put_in_order.ensures.beads c.put_in_order.ensures.fits

-- what all pairs take out
pub returns-clause-takes : goal.returns-clause-takes
returns-clause-takes g c =
    let net = c.args.stored.now.network.now in
    let layout = c.args.stored.now.layout.now in
    let stores = c.args.stored.now.stores.now in
    let opened = c.args.opened.now in
    let old = c.loop-turn.drawing.draft in
    let pairs = c.loop-turn.drawing.pairs in
    let made =
    derived_ended net layout stores opened c.requires.can_draw c.args.stored.now.turns.now c.requires.can_read.turns old pairs c.loop-turn.drawing.agenda.entries c.loop-turn.last c.loop-turn.steps _ _ c.loop-turn.invariant (λ some. absurd (let no = c.in_default.ensures.variant.1 some in cc)) in
    let all = taken_all layout.order (length layout.order) (omega arith) in
    let until = subst (λ (done : List ℕ). MadeUpTo net layout stores opened done old pairs) all made.until in
    let in_order = subst (AreReadInOrder net old.made) all made.in_order in
    let was = made.takes in
    let before = ap (λ (done : List ℕ). pairs_work net done stores opened old.made pairs) all in
    let new = c.put_in_order.new.self in
    on_ok c.put_in_order.result ((s : ℕ) → get_or new.made s [] ≡ sorted (get_or old.made s [])) (TakesNoMore net layout stores opened new.made pairs)
    (λ in_order_now. let same = takes_in_order net layout stores opened old new pairs until in_order in_order_now in omega (arith, was, before, same)) c.put_in_order.ensures.made
