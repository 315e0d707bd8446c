use Rattle.std.proofs.Common.{◌≡◌, ◌∙◌, ◌-◌, arith, refl, subst}
use Rattle.std.proofs.lemmas.List.{get_or-take, length-take}
use Rattle.std.proofs.lemmas.Option.{get_or_from_slice_get}
use Rattle.prefix_merge.specs.Merging.{HasEnd}
use Rattle.prefix_merge.proofs.ComingLemmas.{left_twice, none_left}
use Rattle.prefix_merge.proofs.TurnLemmas.{HasRemoved, all_removed, next_removed, none_removed, others_there}
use Rattle.prefix_merge.proofs.merged.Merged.remove_first.Goals as goal

-- none has left
pub loop-more-init : goal.loop-more-init
loop-more-init c = record { so_far = none_removed c.args.ends.now c.args.count c.args.self.now c.requires.within; there = c.requires.there; noted = none_left c.args.self.now c.args.self.now c.args.left.now (λ n. refl) }

-- the next one is there
pub remove-requires : goal.remove-requires
remove-requires c =
    let ends = c.args.ends.now in
    let place = c.loop-more.more - 1 in
    let short = length-take c.loop-more.more ends in
    let le = c.loop-more.invariant.so_far.within in
    subst (HasEnd c.loop-more.self) (get_or-take c.loop-more.more ends place 0 (omega (arith, c.loop-more-test.true)) ∙ get_or_from_slice_get ends place c.get.result.now 0 c.get.ensures)
    (c.loop-more.invariant.there place 0 (omega (arith, short, c.loop-more-test.true, le, c.requires.within)))

-- it has left
pub loop-more-preserved : goal.loop-more-preserved
loop-more-preserved c =
    let ends = c.args.ends.now in
    let before = c.loop-more.invariant in
    record {
      so_far = next_removed ends c.args.count c.loop-more.more c.get.result.now c.args.self.now c.loop-more.self c.remove.new.self c.requires.within c.loop-more-test.true c.get.ensures c.known.ensures.last c.remove.ensures.removed before.so_far;
      there = others_there ends c.args.count c.loop-more.more c.get.result.now c.loop-more.self c.remove.new.self c.requires.within before.so_far.within c.loop-more-test.true c.requires.apart c.get.ensures c.remove.ensures.removed before.there;
      noted = left_twice c.args.self.now c.loop-more.self c.remove.new.self c.args.left.now c.loop-more.left c.remove.new.left before.noted c.remove.ensures.left;
    }

-- all have left
pub returns-clause-removed : goal.returns-clause-removed
returns-clause-removed c =
    let none : c.loop-more.more ≡ 0 = omega (arith, c.loop-more-test.false) in
    all_removed c.args.ends.now c.args.count c.args.self.now c.loop-more.self (subst (λ more. HasRemoved c.args.ends.now c.args.count more c.args.self.now c.loop-more.self) none c.loop-more.invariant.so_far)
