use Rattle.std.proofs.Common.{◌∙◌, ◌<◌, [], List, ℕ, get_or, length, set, sym, ap, subst}
use Rattle.std.specs.List.{remove, slice_get}
use Rattle.long_lists.specs.Blocks.{AreSums, joined}
use Rattle.long_lists.proofs.BlocksLemmas.{joined_remove, joined_value}
use Rattle.long_lists.proofs.SumsLemmas.{number_within, out_are, sums_fit}
use Rattle.long_lists.proofs.long_sums.LongSums.remove.Goals as goal

pub lessen-requires-clause-within : goal.lessen-requires-clause-within
lessen-requires-clause-within c =
    number_within c.self.inside.numbers c.self.inside.sums c.self.invariant c.args.place c.spot-spot.result.block c.spot-spot.result.offset c.take_out-number.result c.spot-spot.ensures c.take_out-number.ensures.value

pub lessen-requires-clause-fits : goal.lessen-requires-clause-fits
lessen-requires-clause-fits c = sums_fit c.self.inside.numbers c.self.inside.sums c.self.invariant

pub invariant_of-self : goal.invariant_of-self
invariant_of-self c =
    let block = c.spot-spot.result.block in
    let left = remove (get_or c.self.inside.numbers block []) c.spot-spot.result.offset in
    subst (λ numbers. AreSums numbers c.lessen.new.self) (sym c.take_out-number.ensures.others)
    (subst (λ sums. AreSums (set c.self.inside.numbers block left) sums) (sym c.lessen.ensures)
    (out_are c.self.inside.numbers c.self.inside.sums c.self.invariant c.args.place c.spot-spot.result.block c.spot-spot.result.offset c.take_out-number.result c.spot-spot.ensures c.take_out-number.ensures.value))

pub returns-clause-value : goal.returns-clause-value
returns-clause-value c =
    ap (λ (numbers : List ℕ). slice_get numbers c.args.place) (sym c.self.view_is)
    ∙ joined_value c.self.inside.numbers c.args.place c.spot-spot.result.block c.spot-spot.result.offset c.take_out-number.result (subst (λ (numbers : List ℕ). c.args.place < length numbers) (sym c.self.view_is) c.requires) c.spot-spot.ensures c.take_out-number.ensures.value

pub returns-clause-others : goal.returns-clause-others
returns-clause-others c =
    ap joined c.take_out-number.ensures.others ∙ joined_remove c.self.inside.numbers c.args.place c.spot-spot.result.block c.spot-spot.result.offset c.spot-spot.ensures
    ∙ ap (λ (numbers : List ℕ). remove numbers c.args.place) c.self.view_is
