use Rattle.std.proofs.Common.{◌∙◌, ◌++◌, ◌∷◌, [], ap, append-nil, subst, sym, List}
use Rattle.std.specs.Prelude.{slice_get}
use Rattle.std.specs.List.Sorted.{IsPermutation}
use Rattle.std.proofs.lemmas.List.Sorted.{IsPermutation-refl}
use Rattle.scalar_expr.proofs.Bags.{permuted_to}
use Rattle.automaton.specs.declared.network.End.{End}
use Rattle.stream_readers.specs.Ways.{first_parts}
use Rattle.stream_readers.specs.declared.target.Target.{Target}
use Rattle.stream_readers.proofs.FilingLemmas.{ends_more}
use Rattle.stream_readers.proofs.reader.add_ends.Goals as goal

pub loop-place-init : goal.loop-place-init
loop-place-init c = permuted_to (IsPermutation-refl c.args.index.now) (sym (append-nil c.args.index.now))

-- one end more
pub loop-place-preserved : goal.loop-place-preserved
loop-place-preserved c =
    let added = subst (λ (t : Target). IsPermutation c.add_target.new.index (c.loop-place.index ++ record { target = t; parts = first_parts c.get.result.now.step } ∷ [])) c.end_by.ensures c.in_ok-add_target.ensures in
    ends_more c.args.network.now c.args.number c.loop-place.place c.get.result.now c.args.index.now c.loop-place.index c.add_target.new.index
    (ap (λ (ends : List End). slice_get ends c.loop-place.place) (sym c.ends-ends.ensures) ∙ c.get.ensures) c.loop-place.invariant added
