use Rattle.std.proofs.Common.{◌≡◌, ◌∙◌, ap, nat_eq, subst, sym}
use Rattle.std.specs.Prelude.{None}
use Rattle.std.specs.HashMap.{get}
use Rattle.std.specs.Option.{option_copied}
use Rattle.automaton.specs.States.{Net}
use Rattle.prefix_merge.specs.declared.holders.EndSpot.{EndSpot}
use Rattle.prefix_merge.specs.Merging.{HasEnd}
use Rattle.prefix_merge.proofs.NumberedLemmas.{has_there}
use Rattle.prefix_merge.proofs.SpotLemmas.{none_some}
use Rattle.prefix_merge.proofs.indexed.Indexed.holder.Goals as goal

-- the table tells of each end
pub unreachable-requires : goal.unreachable-requires
unreachable-requires c =
    let there = has_there c.self.inside.network c.args.number (subst (λ (net : Net). HasEnd net c.args.number) (sym c.self.view_is) c.requires) in
    let spot : EndSpot = record { state = there.0; place = there.1 } in
    let none : get nat_eq c.self.inside.holders c.args.number ≡ None = sym c.get.ensures.value ∙ ap option_copied c.in-None.is in
    none_some spot (sym none ∙ (c.self.invariant.1 c.args.number spot).1 there.2)
