-- The queries of a catalogue to which a query came, or which one left.
use Rattle.std.proofs.Common.{◌≡◌, ap, ℕ}
use Rattle.std.specs.Prelude.{Option}
use Rattle.catalogue.specs.declared.dropping.Dropped.{Dropped}
use Rattle.catalogue.specs.Adding.{AddedQuery}
use Rattle.catalogue.specs.Catalogued.{Catalogued, query_in}
use Rattle.catalogue.specs.Coming.{HasCome}
use Rattle.catalogue.specs.Judgement.{Judged}
use Rattle.catalogue.specs.Leaving.{IsLeft}
use Rattle.catalogue.specs.Loaded.{HoldsJudged}
use Rattle.courses.specs.QuerySet.{set_in, set_of, with_added, without}

-- a catalogue to which a query came has one more
pub come_is_added : (old new : Catalogued) (added : AddedQuery) (birth : Option ℕ) → HasCome old added birth new → set_in new ≡ with_added (set_in old) added birth
come_is_added old new added birth come = λ i. record { streams = come.streams i; program = come.program i }

-- a catalogue that a query left has all but this one
pub left_is_without : (old new : Catalogued) (number : ℕ) (dropped : Dropped) → IsLeft number dropped old new → set_in new ≡ without (set_in old) (query_in old number)
left_is_without old new number dropped left = λ i. record { streams = ap (λ (c : Catalogued). c.streams) left.catalogue i; program = left.program i }

-- a catalogue that holds a judged text has its queries
pub loaded_is : (judged : Judged) (c : Catalogued) → HoldsJudged judged c → set_in c ≡ set_of judged
loaded_is judged c holds = λ i. record { streams = holds.streams i; program = holds.program i }
