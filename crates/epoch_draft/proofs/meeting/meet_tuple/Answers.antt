use Rattle.std.proofs.Common.{◌≡◌, sym, subst, ℕ, ◌+◌, ◌≤◌, ◌++◌, IsTrue, List, map, arith}
use Rattle.std.specs.List.{All, flat_map}
use Rattle.automaton.specs.States.{is_used}
use Rattle.stream_readers.specs.Targets.{way_of}
use Rattle.stream_readers.specs.Ways.{MeetsParts}
use Rattle.stream_readers.specs.declared.target.Target.{Target}
use Rattle.epoch_laws.specs.Instances.{begins}
use Rattle.epoch_draft.specs.Drafts.{Grows}
use Rattle.epoch_draft.specs.Held.{held}
use Rattle.epoch_draft.specs.Meeting.{Lists, moves_met, moves_of, pair_of}
use Rattle.epoch_draft.specs.Moves.{moves_on}
use Rattle.epoch_draft.specs.Suits.{MeetingSuits, WaySuits}
use Rattle.epoch_draft.specs.Work.{state_work, ways_work}
use Rattle.epoch_draft.proofs.DraftLemmas.{draft_of}
use Rattle.epoch_draft.proofs.LedLemmas.{finds_all}
use Rattle.epoch_draft.proofs.Lists.{on_ok}
use Rattle.epoch_draft.proofs.WorkLemmas.{states_less, ways_less}
use Rattle.epoch_draft.proofs.MeetLemmas.{all_flat, found_all, found_grows, found_ways, waits_used}
use Rattle.epoch_draft.proofs.meeting.meet_tuple.Goals as goal

pub go_all-requires-clause-suits : goal.go_all-requires-clause-suits
go_all-requires-clause-suits g c =
    let net = c.args.stored.now.network.now in
    let s = c.args.stream in
    let t = c.args.tuple.now in
    subst (All (λ (target : Target). All (WaySuits net t) (way_of net target))) (sym c.as_slice.ensures) (found_ways (WaySuits net t) net s t c.find_targets.new.found.targets (c.in_ok-find_targets.ensures net c.requires.stored.network c.requires.stored.readers) c.requires.suits.roots)

pub go_all-requires-clause-met : goal.go_all-requires-clause-met
go_all-requires-clause-met g c =
    let net = c.args.stored.now.network.now in
    let t = c.args.tuple.now in
    subst (All (λ (target : Target). All (MeetsParts net t) (way_of net target))) (sym c.as_slice.ensures)
    (all_flat (MeetsParts net t) (way_of net) c.find_targets.new.found.targets (c.in_ok-find_targets.ensures net c.requires.stored.network c.requires.stored.readers).met)

pub meet_waits-requires-clause-used : goal.meet_waits-requires-clause-used
meet_waits-requires-clause-used g c =
    let net = c.args.stored.now.network.now in
    let s = c.args.stream in
    let t = c.args.tuple.now in
    let waits = finds_all net c.args.stored.now.keys.now c.args.stored.now.stores.now c.requires.stored.stores c.requires.stored.led s t c.requires.suits.waits c.find_waits.new.found.waits c.find.new.found.waits (c.in_ok-find_waits.ensures.waits net c.requires.stored.readers) c.in_ok-find.ensures.waits in
    found_all (λ (n : ℕ). IsTrue (is_used net n)) net (held c.args.stored.now.stores.now) s t c.find.new.found.waits waits (waits_used net s)

pub meet_waits-requires-clause-draft : goal.meet_waits-requires-clause-draft
meet_waits-requires-clause-draft g c = draft_of c.args.stored.now.network.now c.args.drawing.now.draft c.go_all.new.draft c.requires.draft c.in_ok-go_all.ensures.grows.fits

pub meet_waits-requires-clause-suits : goal.meet_waits-requires-clause-suits
meet_waits-requires-clause-suits g c =
    let net = c.args.stored.now.network.now in
    let s = c.args.stream in
    let t = c.args.tuple.now in
    let stores = held c.args.stored.now.stores.now in
    let waits = finds_all net c.args.stored.now.keys.now c.args.stored.now.stores.now c.requires.stored.stores c.requires.stored.led s t c.requires.suits.waits c.find_waits.new.found.waits c.find.new.found.waits (c.in_ok-find_waits.ensures.waits net c.requires.stored.readers) c.in_ok-find.ensures.waits in
    found_all (MeetingSuits net stores t) net stores s t c.find.new.found.waits waits c.requires.suits.waits

pub returns-clause-grows : goal.returns-clause-grows
returns-clause-grows g c =
    let net = c.args.stored.now.network.now in
    let s = c.args.stream in
    let t = c.args.tuple.now in
    let stores = held c.args.stored.now.stores.now in
    let old = c.args.drawing.now.draft in
    let mid = c.go_all.new.draft in
    let new = c.meet_waits.new.drawing.draft in
    let targets = c.find_targets.new.found.targets in
    let states = c.find.new.found.waits in
    let waits = finds_all net c.args.stored.now.keys.now c.args.stored.now.stores.now c.requires.stored.stores c.requires.stored.led s t c.requires.suits.waits c.find_waits.new.found.waits c.find.new.found.waits (c.in_ok-find_waits.ensures.waits net c.requires.stored.readers) c.in_ok-find.ensures.waits in
    let one = subst (λ (ts : List Target). Grows net (moves_on (flat_map (way_of net) ts) (begins t)) old mid) c.as_slice.ensures c.in_ok-go_all.ensures.grows in
    on_ok c.meet_waits.result (Grows net (moves_met net stores t states) mid new) (Grows net (moves_of net stores s t) old new)
    (λ two. found_grows net stores s t targets states old mid new (c.in_ok-find_targets.ensures net c.requires.stored.network c.requires.stored.readers) waits one two) c.meet_waits.ensures.grows

-- no more is tested than what is looked up
pub returns-in_err-go_all-clause-ticks : goal.returns-in_err-go_all-clause-ticks
returns-in_err-go_all-clause-ticks g c =
    let net = c.args.stored.now.network.now in
    let targets = c.find_targets.new.found.targets in
    let one : c.go_all.new.steps ≤ c.args.steps.now + ways_work net (flat_map (way_of net) targets) =
    subst (λ (ts : List Target). c.go_all.new.steps ≤ c.args.steps.now + ways_work net (flat_map (way_of net) ts)) c.as_slice.ensures c.go_all.ensures.ticks in
    let looked = ways_less net c.args.stream c.args.tuple.now targets (c.in_ok-find_targets.ensures net c.requires.stored.network c.requires.stored.readers) in
    omega (arith, one, looked)

pub returns-in_err-find_waits-clause-ticks : goal.returns-in_err-find_waits-clause-ticks
returns-in_err-find_waits-clause-ticks g c =
    let net = c.args.stored.now.network.now in
    let targets = c.find_targets.new.found.targets in
    let one : c.go_all.new.steps ≤ c.args.steps.now + ways_work net (flat_map (way_of net) targets) =
    subst (λ (ts : List Target). c.go_all.new.steps ≤ c.args.steps.now + ways_work net (flat_map (way_of net) ts)) c.as_slice.ensures c.go_all.ensures.ticks in
    let looked = ways_less net c.args.stream c.args.tuple.now targets (c.in_ok-find_targets.ensures net c.requires.stored.network c.requires.stored.readers) in
    omega (arith, one, looked)

pub returns-in_err-find-clause-ticks : goal.returns-in_err-find-clause-ticks
returns-in_err-find-clause-ticks g c =
    let net = c.args.stored.now.network.now in
    let targets = c.find_targets.new.found.targets in
    let one : c.go_all.new.steps ≤ c.args.steps.now + ways_work net (flat_map (way_of net) targets) =
    subst (λ (ts : List Target). c.go_all.new.steps ≤ c.args.steps.now + ways_work net (flat_map (way_of net) ts)) c.as_slice.ensures c.go_all.ensures.ticks in
    let looked = ways_less net c.args.stream c.args.tuple.now targets (c.in_ok-find_targets.ensures net c.requires.stored.network c.requires.stored.readers) in
    omega (arith, one, looked)

pub returns-clause-ticks : goal.returns-clause-ticks
returns-clause-ticks g c =
    let net = c.args.stored.now.network.now in
    let s = c.args.stream in
    let t = c.args.tuple.now in
    let stores = held c.args.stored.now.stores.now in
    let targets = c.find_targets.new.found.targets in
    let one : c.go_all.new.steps ≤ c.args.steps.now + ways_work net (flat_map (way_of net) targets) =
    subst (λ (ts : List Target). c.go_all.new.steps ≤ c.args.steps.now + ways_work net (flat_map (way_of net) ts)) c.as_slice.ensures c.go_all.ensures.ticks in
    let two = c.meet_waits.ensures.ticks in
    let looked = ways_less net s t targets (c.in_ok-find_targets.ensures net c.requires.stored.network c.requires.stored.readers) in
    let heard = states_less (state_work net stores t) net stores s t c.find.new.found.waits (finds_all net c.args.stored.now.keys.now c.args.stored.now.stores.now c.requires.stored.stores c.requires.stored.led s t c.requires.suits.waits c.find_waits.new.found.waits c.find.new.found.waits (c.in_ok-find_waits.ensures.waits net c.requires.stored.readers) c.in_ok-find.ensures.waits) in
    omega (arith, one, two, looked, heard)

-- the states that are found are listed
pub returns-clause-lists : goal.returns-clause-lists
returns-clause-lists g c =
    let net = c.args.stored.now.network.now in
    let s = c.args.stream in
    let t = c.args.tuple.now in
    let place = c.args.place in
    let old = c.args.drawing.now.pairs in
    let new = c.meet_waits.new.drawing.pairs in
    let states = c.find.new.found.waits in
    let waits = finds_all net c.args.stored.now.keys.now c.args.stored.now.stores.now c.requires.stored.stores c.requires.stored.led s t c.requires.suits.waits c.find_waits.new.found.waits c.find.new.found.waits (c.in_ok-find_waits.ensures.waits net c.requires.stored.readers) c.in_ok-find.ensures.waits in
    on_ok c.meet_waits.result (new ≡ old ++ map (pair_of s place) states) (Lists net (held c.args.stored.now.stores.now) s place t old new)
    (λ are. record { found = states; finds = waits; are = are }) c.meet_waits.ensures.pairs
