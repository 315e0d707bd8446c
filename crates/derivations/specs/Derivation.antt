-- How a tuple came about: derivations as terms, without where they lie in memory.
use Rattle.std.specs.Prelude.{ℕ, List, [], ◌∷◌}

mutual
  -- the event at a place of the history, counted from 1; a tuple of a query's stream; the side of UNION; both tuples of NEXT; the first binding of FOLD, and the events of its iterations
  pub data Derivation : Type 0 where
    Event : ℕ → Derivation
    Query : Derivation → Derivation
    Left : Derivation → Derivation
    Right : Derivation → Derivation
    Next : Derivation → Derivation → Derivation
    Fold : Derivation → Derivations → Derivation

  -- derivations one after another
  pub data Derivations : Type 0 where
    None : Derivations
    More : Derivation → Derivations → Derivations

-- the derivations of a list
abbrev pub listed : List Derivation → Derivations
listed [] = None
listed (one ∷ others) = More one (listed others)
