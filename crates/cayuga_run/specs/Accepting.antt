-- That a query text is accepted, and this holds of what it stands for.
use Rattle.std.specs.Prelude.{ℕ, List}
use Rattle.catalogue.specs.Judgement.{Accepts, Judged}

-- the query text is accepted, and this holds of what it is accepted as
pub record IsAcceptedWith (text : List ℕ) (P : Judged → Type 0) : Type 0 where
  pub judged : Judged
  pub accepts : Accepts text judged
  pub holds : P judged
