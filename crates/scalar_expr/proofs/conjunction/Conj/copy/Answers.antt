use Rattle.scalar_expr.proofs.conjunction.Conj.copy.Goals as goal

pub in_order-requires : goal.in_order-requires
in_order-requires c = rw (c.in_ok-add_copies.ensures, c.new-parts.ensures.items, c.deref.ensures.value) c.self.invariant.0
