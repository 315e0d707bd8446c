use Rattle.std.proofs.Common.{◌≡◌, ◌∙◌, ap, subst, [], List, arith}
use Rattle.std.specs.Prelude.{IsTrue, sum_by}
use Rattle.std.proofs.lemmas.List.Sums.{sum_by-cons}
use Rattle.stream_readers.specs.Ways.{ways_at}
use Rattle.epoch_draft.specs.Work.{binding_work}
use Rattle.std.specs.List.{All}
use Rattle.std.proofs.lemmas.Grind.{flat_map-append}
use Rattle.std.proofs.lemmas.List.Elements.{All-head, All-tail}
use Rattle.instances.specs.Keys.{key_matches, key_of_places}
use Rattle.instances.specs.declared.instance.Instance.{Instance}
use Rattle.epoch_draft.specs.Moves.{Move, moves_from, moves_on}
use Rattle.epoch_draft.specs.Pairs.{met, paired_with}
use Rattle.epoch_draft.specs.Suits.{LeavingSuits, WaitSuits}
use Rattle.epoch_draft.proofs.DraftLemmas.{draft_of}
use Rattle.epoch_draft.proofs.GoingLemmas.{all_left, all_right}
use Rattle.epoch_draft.proofs.MeetLemmas.{Follows, follows_more, follows_none, head_none}
use Rattle.epoch_draft.proofs.matching.meet_instances.Goals as goal

pub meet_instance-requires-clause-draft : goal.meet_instance-requires-clause-draft
meet_instance-requires-clause-draft g c = draft_of c.args.waiting.now.network.now c.args.draft.now c.loop-instance.draft c.requires.draft c.loop-instance.invariant.follows.fits

pub meet_instance-requires-clause-suits : goal.meet_instance-requires-clause-suits
meet_instance-requires-clause-suits g c =
    let suits = λ (i : Instance). WaitSuits c.args.waiting.now.wait.now i.tuple c.args.tuple.now in
    All-head suits c.in-Some.instance.now c.next.new.self (subst (All suits) c.in-Some.ensures.rest c.loop-instance.invariant.suits)

pub meet_instance-requires-clause-found : goal.meet_instance-requires-clause-found
meet_instance-requires-clause-found g c =
    let found = λ (i : Instance). IsTrue (key_matches (key_of_places c.args.key) c.args.tuple.now i.tuple) in
    All-head found c.in-Some.instance.now c.next.new.self (subst (All found) c.in-Some.ensures.rest c.loop-instance.invariant.found)

pub meet_instance-requires-clause-leaving : goal.meet_instance-requires-clause-leaving
meet_instance-requires-clause-leaving g c =
    let w = c.args.waiting.now.wait.now in
    let t = c.args.tuple.now in
    let leaving = λ (made : Instance). LeavingSuits c.args.waiting.now.network.now c.args.waiting.now.state made.tuple in
    all_left leaving (paired_with w t c.in-Some.instance.now) (met w c.next.new.self t) (subst (λ (is : List Instance). All leaving (met w is t)) c.in-Some.ensures.rest c.loop-instance.invariant.leaving)

pub loop-instance-preserved : goal.loop-instance-preserved
loop-instance-preserved g c =
    let net = c.args.waiting.now.network.now in
    let n = c.args.waiting.now.state in
    let w = c.args.waiting.now.wait.now in
    let t = c.args.tuple.now in
    let i = c.in-Some.instance.now in
    let rest = c.next.new.self in
    let suits = λ (i : Instance). WaitSuits w i.tuple t in
    let found = λ (i : Instance). IsTrue (key_matches (key_of_places c.args.key) t i.tuple) in
    let leaving = λ (made : Instance). LeavingSuits net n made.tuple in
    let all : List Move = moves_from net n (met w c.args.instances t) in
    let a = moves_from net n (paired_with w t i) in
    let b = moves_from net n (met w rest t) in
    record {
      suits = All-tail suits i rest (subst (All suits) c.in-Some.ensures.rest c.loop-instance.invariant.suits);
      found = All-tail found i rest (subst (All found) c.in-Some.ensures.rest c.loop-instance.invariant.found);
      leaving = all_right leaving (paired_with w t i) (met w rest t) (subst (λ (is : List Instance). All leaving (met w is t)) c.in-Some.ensures.rest c.loop-instance.invariant.leaving);
      follows =
          follows_more net a b all c.args.draft.now c.loop-instance.draft c.meet_instance.new.draft
          (subst (λ (ms : List Move). Follows net ms all c.args.draft.now c.loop-instance.draft)
          (ap (λ (is : List Instance). moves_from net n (met w is t)) c.in-Some.ensures.rest ∙ flat_map-append (moves_on (ways_at net n)) (paired_with w t i) (met w rest t)) c.loop-instance.invariant.follows)
          c.in_ok-meet_instance.ensures.grows;
      ticks = let was = c.loop-instance.invariant.ticks in let one = c.in_ok-meet_instance.ensures.ticks in let work = binding_work net n w t in let all = ap (sum_by work) c.in-Some.ensures.rest ∙ sum_by-cons work i rest in omega (arith, was, one, all);
    }

pub returns-clause-grows : goal.returns-clause-grows
returns-clause-grows g c =
    let net = c.args.waiting.now.network.now in
    let n = c.args.waiting.now.state in
    let w = c.args.waiting.now.wait.now in
    let t = c.args.tuple.now in
    let all : List Move = moves_from net n (met w c.args.instances t) in
    let none : c.loop-instance.instances ≡ [] = head_none c.loop-instance.instances c.in_default.ensures.first in
    follows_none net all c.args.draft.now c.loop-instance.draft
    (subst (λ (is : List Instance). Follows net (moves_from net n (met w is t)) all c.args.draft.now c.loop-instance.draft) none c.loop-instance.invariant.follows)

-- want of memory comes after some of the tests
pub returns-in_err-meet_instance-clause-ticks : goal.returns-in_err-meet_instance-clause-ticks
returns-in_err-meet_instance-clause-ticks g c =
    let i = c.in-Some.instance.now in
    let rest = c.next.new.self in
    let was = c.loop-instance.invariant.ticks in
    let one = c.meet_instance.ensures.ticks in
    let work = binding_work c.args.waiting.now.network.now c.args.waiting.now.state c.args.waiting.now.wait.now c.args.tuple.now in
    let all = ap (sum_by work) c.in-Some.ensures.rest ∙ sum_by-cons work i rest in omega (arith, was, one, all)
