use Rattle.std.proofs.Common.{◌≡◌, ◌∙◌, sym, ap, subst, ℕ, ◌+◌, ◌<◌, ◌≤◌, ◌++◌, ◌∷◌, [], IsTrue, List, get_or, length, take, map, append_assoc, arith}
use Rattle.std.proofs.lemmas.List.Sums.{sum_by-take-le, sum_by_more, sum_by_more_le}
use Rattle.std.proofs.lemmas.List.{map-append, take_more}
use Rattle.std.proofs.lemmas.List.Elements.{All-get_or}
use Rattle.std.proofs.lemmas.Option.{get_or_from_slice_get}
use Rattle.automaton.specs.States.{is_used}
use Rattle.epoch_draft.specs.Drafts.{Grows}
use Rattle.epoch_draft.specs.Held.{held}
use Rattle.epoch_draft.specs.Meeting.{met_at, pair_of}
use Rattle.epoch_draft.specs.Moves.{moves_from}
use Rattle.epoch_draft.specs.Suits.{MeetingSuits}
use Rattle.epoch_draft.specs.Work.{state_work}
use Rattle.epoch_draft.specs.declared.draft.Pair.{Pair}
use Rattle.epoch_draft.proofs.DraftLemmas.{draft_of}
use Rattle.epoch_draft.proofs.MeetLemmas.{moves_more}
use Rattle.epoch_draft.proofs.meeting.meet_waits.Goals as goal

pub get-state-requires : goal.get-state-requires
get-state-requires g c = let same = ap (λ (ns : List ℕ). length ns) c.loop-index.invariant.waits in let lt = c.loop-index-test.true in let end = c.len-index-end.ensures in omega (arith, same, lt, end)

pub meet_wait-requires-clause-used : goal.meet_wait-requires-clause-used
meet_wait-requires-clause-used g c =
    let waits = c.args.drawing.now.found.waits in
    let i = c.loop-index.index in
    let at : get_or waits i 0 ≡ c.get-state.result.now = ap (λ (ns : List ℕ). get_or ns i 0) (sym c.loop-index.invariant.waits) ∙ get_or_from_slice_get c.loop-index.drawing.found.waits i c.get-state.result.now 0 c.get-state.ensures in
    let used = λ (n : ℕ). IsTrue (is_used c.args.stored.now.network.now n) in
    subst used at (All-get_or used waits i 0 (subst (λ (m : ℕ). c.loop-index.index < m) c.len-index-end.ensures c.loop-index-test.true) c.requires.used)

pub meet_wait-requires-clause-draft : goal.meet_wait-requires-clause-draft
meet_wait-requires-clause-draft g c = draft_of c.args.stored.now.network.now c.args.drawing.now.draft c.loop-index.drawing.draft c.requires.draft c.loop-index.invariant.grows.fits

pub meet_wait-requires-clause-suits : goal.meet_wait-requires-clause-suits
meet_wait-requires-clause-suits g c =
    let waits = c.args.drawing.now.found.waits in
    let i = c.loop-index.index in
    let at : get_or waits i 0 ≡ c.get-state.result.now = ap (λ (ns : List ℕ). get_or ns i 0) (sym c.loop-index.invariant.waits) ∙ get_or_from_slice_get c.loop-index.drawing.found.waits i c.get-state.result.now 0 c.get-state.ensures in
    let suits = MeetingSuits c.args.stored.now.network.now (held c.args.stored.now.stores.now) c.args.tuple.now in
    subst suits at (All-get_or suits waits i 0 (subst (λ (m : ℕ). c.loop-index.index < m) c.len-index-end.ensures c.loop-index-test.true) c.requires.suits)

-- one state more
pub loop-index-preserved : goal.loop-index-preserved
loop-index-preserved g c =
    let net = c.args.stored.now.network.now in
    let stores = held c.args.stored.now.stores.now in
    let t = c.args.tuple.now in
    let waits = c.args.drawing.now.found.waits in
    let i = c.loop-index.index in
    let lt = subst (λ (m : ℕ). c.loop-index.index < m) c.len-index-end.ensures c.loop-index-test.true in
    let at : c.get-state.result.now ≡ get_or waits i 0 = sym (get_or_from_slice_get c.loop-index.drawing.found.waits i c.get-state.result.now 0 c.get-state.ensures) ∙ ap (λ (ns : List ℕ). get_or ns i 0) c.loop-index.invariant.waits in
    let pair = pair_of c.args.stream c.args.place in
    let pairs = c.args.drawing.now.pairs in
    let moves = λ (n : ℕ). moves_from net n (met_at net stores t n) in
    record {
      grows =
          moves_more moves net waits i 0 c.args.drawing.now.draft c.loop-index.drawing.draft c.meet_wait.new.draft lt c.loop-index.invariant.grows
          (subst (λ (n : ℕ). Grows net (moves n) c.loop-index.drawing.draft c.meet_wait.new.draft) at c.in_ok-meet_wait.ensures.grows);
      pairs =
          c.in_ok-add.ensures.ok ∙ ap (λ (ps : List Pair). ps ++ pair c.get-state.result.now ∷ []) c.loop-index.invariant.pairs ∙ ap (λ (n : ℕ). (pairs ++ map pair (take i waits)) ++ pair n ∷ []) at
          ∙ append_assoc pairs (map pair (take i waits)) (pair (get_or waits i 0) ∷ [])
          ∙ ap (λ (ps : List Pair). pairs ++ ps) (sym (ap (map pair) (take_more waits i 0 lt) ∙ map-append pair (take i waits) (get_or waits i 0 ∷ [])));
      waits = c.loop-index.invariant.waits;
      agenda = c.loop-index.invariant.agenda;
      ticks =
          let was = c.loop-index.invariant.ticks in
          let one = subst (λ (n : ℕ). c.meet_wait.new.steps ≤ c.loop-index.steps + state_work net stores t n) at c.in_ok-meet_wait.ensures.ticks in
          let more = sum_by_more (state_work net stores t) waits i 0 lt in omega (arith, was, one, more);
    }

-- want of memory comes after some of the tests
pub returns-in_err-add-clause-ticks : goal.returns-in_err-add-clause-ticks
returns-in_err-add-clause-ticks g c =
    let part = sum_by-take-le (state_work c.args.stored.now.network.now (held c.args.stored.now.stores.now) c.args.tuple.now) c.args.drawing.now.found.waits c.loop-index.index in
    let was = c.loop-index.invariant.ticks in omega (arith, part, was)

pub returns-in_err-meet_wait-clause-ticks : goal.returns-in_err-meet_wait-clause-ticks
returns-in_err-meet_wait-clause-ticks g c =
    let waits = c.args.drawing.now.found.waits in
    let i = c.loop-index.index in
    let at : c.get-state.result.now ≡ get_or waits i 0 = sym (get_or_from_slice_get c.loop-index.drawing.found.waits i c.get-state.result.now 0 c.get-state.ensures) ∙ ap (λ (ns : List ℕ). get_or ns i 0) c.loop-index.invariant.waits in
    let work = state_work c.args.stored.now.network.now (held c.args.stored.now.stores.now) c.args.tuple.now in
    let part = sum_by_more_le work waits i 0 (subst (λ (m : ℕ). c.loop-index.index < m) c.len-index-end.ensures c.loop-index-test.true) in
    let was = c.loop-index.invariant.ticks in
    let one = subst (λ (n : ℕ). c.meet_wait.new.steps ≤ c.loop-index.steps + work n) at c.meet_wait.ensures.ticks in omega (arith, part, was, one)
