use Rattle.std.proofs.Common.{◌∙◌, sym}
use Rattle.std.specs.Cmp.Lexicographic.{texts_ties}
use Rattle.std.specs.Ordering.{eq_by_cmp}
use Rattle.event_types.specs.Order.{value_cmp}
use Rattle.event_types.proofs.value.ValuePartialEq.eq.Goals as goal

-- src/value.rt:123:5
pub returns-in-Text-Text : goal.returns-in-Text-Text
returns-in-Text-Text c =
    let text = c.in-Text-Text in
    c.eq.ensures ∙ texts_ties text.x text.y ∙ sym (λ i. eq_by_cmp value_cmp (text.is-0 i) (text.is-1 i))
