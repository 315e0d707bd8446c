-- One step of the readers of items and aggregates.
use Rattle.std.proofs.Common.{◌≡◌, ◌∙◌, ℕ, zero, suc, ◌-◌, ◌<◌, List, [], ◌∷◌, ◌++◌, refl, sym, ap, append_assoc, arith, sub-one}
use Rattle.std.specs.Prelude.{Some, None, if◌then◌else◌}
use Rattle.std.proofs.lemmas.Grind.{common_steps}
use Rattle.cel_grammar.specs.Symbols as the
use Rattle.cel_grammar.specs.Trees.{Agg, Item, Scalar, Set}
use Rattle.cel_parser.specs.Lists.{agg_at, aggs_after, bare_at, full_at, is_bare, items_after, items_behind, with_front}
use Rattle.cel_parser.specs.ScalarReader.{◌>>=◌, Read, done, scalar_at}
use Rattle.cel_parser.specs.SourceReader.{aggs_at, as_at, item_at, items_at, items_more}

-- an item by whether it is a name alone
pub item_next : (n : ℕ) (ts : List the.Symbol) → item_at n ts ≡ (if is_bare ts then bare_at ts else full_at n ts)
unfolding item_at is_bare bare_at full_at
item_next n (the.Star ∷ ts) = refl
item_next n (the.Name a ∷ []) = refl
item_next n (the.Name a ∷ the.Comma ∷ ts) = refl
item_next n (the.Name a ∷ the.From ∷ ts) = refl
item_next n (the.Name a ∷ t ∷ ts) = refl
item_next n ts = refl

-- nothing stands before a list that is read
pub front_none : {A : Type 0} (r : Read (List A)) → with_front [] r ≡ r
front_none None = refl
front_none (Some p) = refl

-- one more before a list that is read
pub front_more : {A : Type 0} (xs : List A) (x : A) (r : Read (List A)) → with_front xs (r >>= λ p. done (x ∷ p.0) p.1) ≡ with_front (xs ++ x ∷ []) r
front_more xs x None = refl
front_more xs x (Some p) = ap (λ ys. done ys p.1) (sym (append_assoc xs (x ∷ []) p.0))

-- nothing stands before the items
pub items_alone : (n : ℕ) (ts : List the.Symbol) → items_after n [] ts ≡ items_at n ts
unfolding items_after
items_alone n ts = front_none (items_at n ts)

-- what goes on behind an item
behind_same : (n : ℕ) (xs : List Item) (i : Item) (ts : List the.Symbol) → with_front xs (items_more n i ts) ≡ items_behind n (xs ++ i ∷ []) ts
unfolding items_more items_after items_behind
behind_same zero xs i ts = refl
behind_same (suc n) xs i (the.Comma ∷ ts) = front_more xs i (items_at n ts)
behind_same (suc n) xs i ts = refl

-- what goes on behind an item that is read
behind_read : (n : ℕ) (xs : List Item) (r : Read Item) → with_front xs (r >>= λ i. items_more n i.0 i.1) ≡ (r >>= λ i. items_behind n (xs ++ i.0 ∷ []) i.1)
behind_read n xs None = refl
behind_read n xs (Some p) = behind_same n xs p.0 p.1

-- an item, and what goes on behind it
pub items_after_next : (n : ℕ) (xs : List Item) (ts : List the.Symbol) → 0 < n → items_after n xs ts ≡ (item_at (n - 1) ts >>= λ i. items_behind (n - 1) (xs ++ i.0 ∷ []) i.1)
unfolding items_at items_after
items_after_next zero xs ts h = absurd (omega arith)
items_after_next (suc n) xs ts h = rw sub-one (behind_read n xs (item_at n ts))

-- no steps are left
pub items_after_none : (n : ℕ) (xs : List Item) (ts : List the.Symbol) → n ≡ 0 → items_after n xs ts ≡ None
unfolding items_at items_after
items_after_none zero xs ts h = refl
items_after_none (suc n) xs ts h = absurd (omega arith)

-- nothing goes on behind the others
front_last : {A : Type 0} (xs : List A) (ts : List the.Symbol) → done xs ts ≡ done (xs ++ []) ts
front_last xs ts = let e : xs ++ [] ≡ xs = grind (arith, common_steps) in ap (λ ys. done ys ts) (sym e)

-- so many steps read aggregates with those that stand before them
abbrev pub Fronts : ℕ → Type 0
Fronts n = (xs : List Agg) (ts : List the.Symbol) → aggs_after n xs ts ≡ with_front xs (aggs_at n ts)

-- the same behind the scalar
named_front : (n : ℕ) → Fronts n → (xs : List Agg) (x : Scalar) (r : Read (List ℕ)) → ((r >>= λ a. done (Set x a.0) a.1) >>= λ g. aggs_after n (xs ++ g.0 ∷ []) g.1) ≡ with_front xs (r >>= λ a. aggs_at n a.1 >>= λ s. done (Set x a.0 ∷ s.0) s.1)
named_front n fronts xs x None = refl
named_front n fronts xs x (Some a) = fronts (xs ++ Set x a.0 ∷ []) a.1 ∙ sym (front_more xs (Set x a.0) (aggs_at n a.1))

-- the same behind the comma
agg_front : (n : ℕ) → Fronts n → (xs : List Agg) (r : Read Scalar) → ((r >>= λ p. as_at p.1 >>= λ a. done (Set p.0 a.0) a.1) >>= λ g. aggs_after n (xs ++ g.0 ∷ []) g.1) ≡ with_front xs (r >>= λ p. as_at p.1 >>= λ a. aggs_at n a.1 >>= λ s. done (Set p.0 a.0 ∷ s.0) s.1)
agg_front n fronts xs None = refl
agg_front n fronts xs (Some p) = named_front n fronts xs p.0 (as_at p.1)

-- aggregates are read with those that stand before them, by induction on the steps
aggs_front : (n : ℕ) → Fronts n
unfolding aggs_at aggs_after agg_at
aggs_front zero xs ts = refl
aggs_front (suc n) xs (the.Comma ∷ ts) = agg_front n (aggs_front n) xs (scalar_at n ts)
aggs_front (suc n) xs ts = front_last xs ts

-- nothing stands before the aggregates
pub aggs_alone : (n : ℕ) (ts : List the.Symbol) → aggs_after n [] ts ≡ aggs_at n ts
aggs_alone n ts = aggs_front n [] ts ∙ front_none (aggs_at n ts)
