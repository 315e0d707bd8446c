use Rattle.std.proofs.Common.{◌≡◌, ◌∙◌, ap, sym, arith}
use Rattle.std.proofs.lemmas.Bool.Decides.{nat_tests}
use Rattle.std.specs.Cmp.Lexicographic.{pointwise}
use Rattle.std.specs.Ordering.{eq_by_cmp}
use Rattle.event_types.specs.Order.{value_cmp}
use Rattle.event_types.proofs.EqualLemmas.{tied_tuples}
use Rattle.event_types.proofs.tuple.TuplePartialEq.eq.Goals as goal
use Rattle.event_types.proofs.tuple.TuplePartialEq.eq.Goals.{then-self-other, else-self-other}

-- src/tuple.rt:157:5
pub returns-then-self-other-2 : goal.returns-then-self-other-2
returns-then-self-other-2 c = elim c.if-self-other.branch [
  | then-self-other w ↦
      let from : c.args.self.now.from ≡ c.args.other.now.from = sym (ap (λ t. t.from) c.self.view_is) ∙ w.if-self-other.true ∙ ap (λ t. t.from) c.other.view_is in
      let detected : c.self.inside.at ≡ c.other.inside.at = let tested = sym w.value-is ∙ c.if-self-other-2.true in grind (arith, nat_tests) in
      let at : c.args.self.now.at ≡ c.args.other.now.at = sym (ap (λ t. t.at) c.self.view_is) ∙ detected ∙ ap (λ t. t.at) c.other.view_is in
      c.eq.ensures ∙ (λ i. pointwise (eq_by_cmp value_cmp) (c.vals.ensures i) (c.vals-then-self-other-2.ensures i)) ∙ tied_tuples c.args.self.now c.args.other.now from at
  | else-self-other w ↦ let tested = sym w.value-is ∙ c.if-self-other-2.true in let other = w.if-self-other.false in grind (arith, nat_tests)
]
