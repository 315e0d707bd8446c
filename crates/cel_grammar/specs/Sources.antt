-- The grammar of sources. `IsSource ts e rest` says that a source which is e stands at the front of
-- the symbols ts, and that rest follows it.
use Rattle.std.specs.Prelude.{ℕ, List, [], ◌∷◌}
use Rattle.cel_grammar.specs.declared.mark.Mark.TheVariants as mark
use Rattle.cel_grammar.specs.Symbols.{Symbol}
use Rattle.cel_grammar.specs.Symbols as the
use Rattle.cel_grammar.specs.Scalars.{IsScalar}
use Rattle.cel_grammar.specs.Predicates.{IsPred}
use Rattle.cel_grammar.specs.Trees.{Scalar, Attr, Pred, True, Item, All, Named, Agg, Set, Source, Name, Filter, Select, Union, Next, Fold}

-- *, or name, or scalar AS name
pub data IsItem : List Symbol → Item → List Symbol → Type 0 where
  star : {rest : List Symbol} → IsItem (the.Star ∷ rest) All rest
  name : {a : List ℕ} {rest : List Symbol} → IsItem (the.Name a ∷ rest) (Named (Attr mark.Bare a) a) rest
  named : {ts rest : List Symbol} {x : Scalar} {a : List ℕ} → IsScalar ts x (the.As ∷ the.Name a ∷ rest) → IsItem ts (Named x a) rest

-- item, zero or more of (, item)
pub data IsItems : List Symbol → List Item → List Symbol → Type 0 where
  one : {ts rest : List Symbol} {i : Item} → IsItem ts i rest → IsItems ts (i ∷ []) rest
  more : {ts us rest : List Symbol} {i : Item} {is : List Item} → IsItem ts i (the.Comma ∷ us) → IsItems us is rest → IsItems ts (i ∷ is) rest

-- zero or more of (, scalar AS name)
pub data IsAggs : List Symbol → List Agg → List Symbol → Type 0 where
  none : {rest : List Symbol} → IsAggs rest [] rest
  set : {ts us rest : List Symbol} {x : Scalar} {a : List ℕ} {as' : List Agg} → IsScalar ts x (the.As ∷ the.Name a ∷ us) → IsAggs us as' rest → IsAggs (the.Comma ∷ ts) (Set x a ∷ as') rest

mutual
  -- term, zero or more of (link term), grouped from the left
  pub data IsSource : List Symbol → Source → List Symbol → Type 0 where
    term : {ts rest : List Symbol} {e : Source} → IsTerm ts e rest → IsSource ts e rest
    union : {ts us rest : List Symbol} {e f : Source} → IsSource ts e (the.Union ∷ us) → IsTerm us f rest → IsSource ts (Union e f) rest
    next : {ts us rest : List Symbol} {e f : Source} → IsSource ts e (the.Next ∷ us) → IsTerm us f rest → IsSource ts (Next True e f) rest
    next_where : {ts us vs rest : List Symbol} {e f : Source} {p : Pred} → IsSource ts e (the.Next ∷ the.BraceOpen ∷ us) → IsPred us p (the.BraceClose ∷ vs) → IsTerm vs f rest → IsSource ts (Next p e f) rest
    fold : {ts us vs ws xs rest : List Symbol} {e f : Source} {p q : Pred} {sets : List Agg} → IsSource ts e (the.Fold ∷ the.BraceOpen ∷ us) → IsPred us p (the.Comma ∷ vs) → IsPred vs q ws → IsAggs ws sets (the.BraceClose ∷ xs) → IsTerm xs f rest → IsSource ts (Fold p q sets e f) rest

  -- name; or ( source ); or ( SELECT items FROM source ); or FILTER { pred } term
  pub data IsTerm : List Symbol → Source → List Symbol → Type 0 where
    of : {a : List ℕ} {rest : List Symbol} → IsTerm (the.Name a ∷ rest) (Name a) rest
    group : {ts rest : List Symbol} {e : Source} → IsSource ts e (the.Close ∷ rest) → IsTerm (the.Open ∷ ts) e rest
    select : {ts us rest : List Symbol} {is : List Item} {e : Source} → IsItems ts is (the.From ∷ us) → IsSource us e (the.Close ∷ rest) → IsTerm (the.Open ∷ the.Select ∷ ts) (Select is e) rest
    filter : {ts us rest : List Symbol} {p : Pred} {e : Source} → IsPred ts p (the.BraceClose ∷ us) → IsTerm us e rest → IsTerm (the.Filter ∷ the.BraceOpen ∷ ts) (Filter p e) rest
