-- The orders of open events and of what waits.
use Rattle.std.specs.Ordering.{nat_cmp, on, then_cmp}
use Rattle.std.specs.Cmp.{IsTotalOrder}
use Rattle.std.specs.declared.cmp.Ordering.{Ordering}
use Rattle.std.proofs.lemmas.Cmp.{nat_cmp_total, on_total, then_total}
use Rattle.event_types.specs.Order.{tuple_cmp}
use Rattle.event_types.specs.OrderLaws.{tuple_total}
use Rattle.snap_codec.specs.declared.image.Item.{Item}
use Rattle.snap_codec.specs.declared.image.Open.{Open}

-- open events by the place of the stream, and then by the tuple
abbrev pub open_cmp : Open → Open → Ordering
open_cmp = then_cmp (on (λ event. event.place) nat_cmp) (on (λ event. event.tuple) tuple_cmp)

-- what waits by the tuple, and then by the time with which it began
abbrev pub item_cmp : Item → Item → Ordering
item_cmp = then_cmp (on (λ item. item.tuple) tuple_cmp) (on (λ item. item.first) nat_cmp)

-- the order of open events is total
pub open_total : IsTotalOrder open_cmp
open_total = then_total (on_total (λ event. event.place) nat_cmp_total) (on_total (λ event. event.tuple) tuple_total)

-- the order of what waits is total
pub item_total : IsTotalOrder item_cmp
item_total = then_total (on_total (λ item. item.tuple) tuple_total) (on_total (λ item. item.first) nat_cmp_total)
