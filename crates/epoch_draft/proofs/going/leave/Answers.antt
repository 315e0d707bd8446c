use Rattle.std.proofs.Common.{◌≡◌, ◌∙◌, sym, subst, ℕ, ◌<◌, ◌∷◌, [], length, get_or, set, List, IsTrue, map, ◌+◌, ◌≤◌, arith}
use Rattle.std.specs.Prelude.{Option}
use Rattle.std.specs.List.{All}
use Rattle.automaton.specs.declared.network.End.{End}
use Rattle.automaton.specs.declared.wait.Turn.{Turn}
use Rattle.automaton.specs.States.{is_used, step_at}
use Rattle.stream_readers.specs.Ways.{Into, Out, backs_in, ways_at}
use Rattle.epoch_draft.specs.Drafts.{DraftFits, Grows}
use Rattle.epoch_draft.specs.Moves.{moves_on}
use Rattle.epoch_draft.specs.Suits.{StepSuits}
use Rattle.epoch_draft.proofs.DraftLemmas.{back_grows, grows_none}
use Rattle.epoch_draft.proofs.Lists.{on_ok, on_ok_four}
use Rattle.stream_readers.proofs.TargetLemmas.{edges_used}
use Rattle.epoch_draft.proofs.GoingLemmas.{into_suits, left_all, out_suits, used_below}
use Rattle.epoch_draft.proofs.going.leave.Goals as goal
use Rattle.epoch_draft.specs.Work.{ways_work}
use Rattle.epoch_draft.proofs.WorkLemmas.{out_work}

pub go_into_all-requires-clause-used : goal.go_into_all-requires-clause-used
go_into_all-requires-clause-used g c =
    subst (All (λ k. IsTrue (is_used c.args.waiting.now.network.now k))) (sym (c.as_slice.ensures ∙ c.edges.ensures)) (edges_used c.args.waiting.now.network.now c.requires.waiting.network c.args.waiting.now.state)

pub go_into_all-requires-clause-suits : goal.go_into_all-requires-clause-suits
go_into_all-requires-clause-suits g c =
    subst (All (λ k. StepSuits (step_at c.args.waiting.now.network.now k) c.args.instance.tuple)) (sym (c.as_slice.ensures ∙ c.edges.ensures)) (into_suits c.args.waiting.now.network.now c.args.waiting.now.state c.args.instance.tuple c.requires.suits)

pub go_out_all-requires-clause-suits : goal.go_out_all-requires-clause-suits
go_out_all-requires-clause-suits g c =
    subst (All (λ (e : End). StepSuits e.step c.args.instance.tuple)) (sym (c.as_slice-ends.ensures ∙ c.ends.ensures)) (out_suits c.args.waiting.now.network.now c.args.waiting.now.state c.args.instance.tuple c.requires.suits)

pub hand_out_all-requires-clause-suits : goal.hand_out_all-requires-clause-suits
hand_out_all-requires-clause-suits g c =
    subst (All (λ (e : End). StepSuits e.step c.args.instance.tuple)) (sym (c.as_slice-ends.ensures ∙ c.ends.ensures)) (out_suits c.args.waiting.now.network.now c.args.waiting.now.state c.args.instance.tuple c.requires.suits)

pub returns-in_ok-go_out_all-in-Some-clause-grows : goal.returns-in_ok-go_out_all-in-Some-clause-grows
returns-in_ok-go_out_all-in-Some-clause-grows g c =
    let net = c.args.waiting.now.network.now in
    let n = c.args.waiting.now.state in
    let x = c.args.instance in
    let wait = c.args.waiting.now.wait.now in
    let one = c.go_into_all.new.draft in
    let mid = c.go_out_all.new.draft in
    let new = c.add_bead.new.self in
    let into = subst (λ (ks : List ℕ). Grows net (moves_on (map Into ks) x) c.args.draft.now one) (c.as_slice.ensures ∙ c.edges.ensures) c.in_ok-go_into_all.ensures.grows in
    let out = subst (λ (es : List End). Grows net (moves_on (map Out es) x) one mid) (c.as_slice-ends.ensures ∙ c.ends.ensures) c.in_ok-go_out_all-in-Some.ensures.grows in
    let many : length mid.beads ≡ length net = out.fits.beads in
    on_ok_four c.add_bead.result (new.beads ≡ set mid.beads n (x ∷ get_or mid.beads n [])) (new.made ≡ mid.made) (new.due ≡ mid.due) (DraftFits (length mid.made) (length mid.beads) new)
    (Grows net (moves_on (ways_at net n) x) c.args.draft.now new)
    (λ beads made due fits.
    left_all net n wait x c.args.draft.now one mid new c.requires.waiting.wait into out
    (subst (λ (o : Option Turn). Grows net (moves_on (backs_in n o) x) mid new) (sym c.in-Some.is)
    (back_grows net mid new n x (subst (λ (m : ℕ). n < m) (sym many) (used_below net n c.requires.waiting.used)) many beads made due fits)))
    c.add_bead.ensures.beads c.add_bead.ensures.made c.add_bead.ensures.due c.add_bead.ensures.fits

pub returns-in-None-clause-grows : goal.returns-in-None-clause-grows
returns-in-None-clause-grows g c =
    let net = c.args.waiting.now.network.now in
    let n = c.args.waiting.now.state in
    let x = c.args.instance in
    let wait = c.args.waiting.now.wait.now in
    let one = c.go_into_all.new.draft in
    let new = c.hand_out_all.new.draft in
    let into = subst (λ (ks : List ℕ). Grows net (moves_on (map Into ks) x) c.args.draft.now one) (c.as_slice.ensures ∙ c.edges.ensures) c.in_ok-go_into_all.ensures.grows in
    on_ok c.hand_out_all.result (Grows net (moves_on (map Out c.as_slice-ends.result.now) x) one new) (Grows net (moves_on (ways_at net n) x) c.args.draft.now new)
    (λ grows.
    let out = subst (λ (es : List End). Grows net (moves_on (map Out es) x) one new) (c.as_slice-ends.ensures ∙ c.ends.ensures) grows in
    left_all net n wait x c.args.draft.now one new new c.requires.waiting.wait into out
    (subst (λ (o : Option Turn). Grows net (moves_on (backs_in n o) x) new new) (sym c.in-None.is) (grows_none net new (subst (λ (m : ℕ). DraftFits m (length net) new) (sym out.fits.made) out.fits))))
    c.hand_out_all.ensures.grows

-- want of memory comes after some of the tests
pub returns-in_err-go_into_all-clause-ticks : goal.returns-in_err-go_into_all-clause-ticks
returns-in_err-go_into_all-clause-ticks g c =
    let net = c.args.waiting.now.network.now in
    let one = subst (λ (ks : List ℕ). c.go_into_all.new.steps ≤ c.args.steps.now + ways_work net (map Into ks)) (c.as_slice.ensures ∙ c.edges.ensures) c.go_into_all.ensures.ticks in
    let all = out_work net c.args.waiting.now.state in omega (arith, one, all)

pub returns-in_err-go_out_all-in-Some-clause-ticks : goal.returns-in_err-go_out_all-in-Some-clause-ticks
returns-in_err-go_out_all-in-Some-clause-ticks g c =
    let net = c.args.waiting.now.network.now in
    let one = subst (λ (ks : List ℕ). c.go_into_all.new.steps ≤ c.args.steps.now + ways_work net (map Into ks)) (c.as_slice.ensures ∙ c.edges.ensures) c.go_into_all.ensures.ticks in
    let two = subst (λ (es : List End). c.go_out_all.new.steps ≤ c.go_into_all.new.steps + ways_work net (map Out es)) (c.as_slice-ends.ensures ∙ c.ends.ensures) c.go_out_all.ensures.ticks in
    let all = out_work net c.args.waiting.now.state in omega (arith, one, two, all)

-- all tests are those of the ways out
pub returns-in_ok-go_out_all-in-Some-clause-ticks : goal.returns-in_ok-go_out_all-in-Some-clause-ticks
returns-in_ok-go_out_all-in-Some-clause-ticks g c =
    let net = c.args.waiting.now.network.now in
    let one = subst (λ (ks : List ℕ). c.go_into_all.new.steps ≤ c.args.steps.now + ways_work net (map Into ks)) (c.as_slice.ensures ∙ c.edges.ensures) c.go_into_all.ensures.ticks in
    let two = subst (λ (es : List End). c.go_out_all.new.steps ≤ c.go_into_all.new.steps + ways_work net (map Out es)) (c.as_slice-ends.ensures ∙ c.ends.ensures) c.go_out_all.ensures.ticks in
    let all = out_work net c.args.waiting.now.state in omega (arith, one, two, all)

pub returns-in-None-clause-ticks : goal.returns-in-None-clause-ticks
returns-in-None-clause-ticks g c =
    let net = c.args.waiting.now.network.now in
    let one = subst (λ (ks : List ℕ). c.go_into_all.new.steps ≤ c.args.steps.now + ways_work net (map Into ks)) (c.as_slice.ensures ∙ c.edges.ensures) c.go_into_all.ensures.ticks in
    let two = subst (λ (es : List End). c.hand_out_all.new.steps ≤ c.go_into_all.new.steps + ways_work net (map Out es)) (c.as_slice-ends.ensures ∙ c.ends.ensures) c.hand_out_all.ensures.ticks in
    let all = out_work net c.args.waiting.now.state in omega (arith, one, two, all)
