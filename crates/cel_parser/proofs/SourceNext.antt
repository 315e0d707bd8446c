-- One step of each reader of sources, where steps are left.
use Rattle.std.proofs.Common.{◌≡◌, ◌∙◌, ℕ, zero, suc, ◌-◌, ◌<◌, List, ◌∷◌, refl, arith, sub-one}
use Rattle.std.specs.Prelude.{Option, Some, None, if◌then◌else◌}
use Rattle.cel_grammar.specs.Symbols.{Symbol}
use Rattle.cel_grammar.specs.Symbols as the
use Rattle.cel_grammar.specs.Trees.{Agg, Filter, Pred, Source}
use Rattle.cel_parser.specs.Links.{condition_at, fold_at, is_link, link_at, linked, next_at, TreeLink, Next, Fold}
use Rattle.cel_parser.specs.Terms.{filter_at, inner_at, linked_at, selection_at, term_step}
use Rattle.cel_parser.specs.ScalarReader.{◌>>=◌, Read, comma_at, done}
use Rattle.cel_parser.specs.PredicateReader.{pred_at}
use Rattle.cel_parser.specs.SourceReader.{aggs_at, brace_at, source_more, term_at}

-- what follows a closing brace
brace_then : {A B : Type 0} (x : A) (r : Option (List Symbol)) (g : A → List Symbol → Option B) → (r >>= λ us. g x us) ≡ ((r >>= done x) >>= λ c. g c.0 c.1)
brace_then x None g = refl
brace_then x (Some us) g = refl

-- what follows a condition
condition_then : {B : Type 0} (r : Read Pred) (g : Pred → List Symbol → Option B) → (r >>= λ p. brace_at p.1 >>= λ us. g p.0 us) ≡ ((r >>= λ p. brace_at p.1 >>= done p.0) >>= λ c. g c.0 c.1)
condition_then None g = refl
condition_then (Some p) g = brace_then p.0 (brace_at p.1) g

-- what follows the condition of NEXT
next_then : {B : Type 0} (r : Read Pred) (g : TreeLink → List Symbol → Option B) → (r >>= λ p. g (Next p.0) p.1) ≡ ((r >>= λ p. done (Next p.0) p.1) >>= λ k. g k.0 k.1)
next_then None g = refl
next_then (Some p) g = refl

-- what follows the aggregates of FOLD
aggs_then : {B : Type 0} (p q : Pred) (r : Read (List Agg)) (g : TreeLink → List Symbol → Option B) → (r >>= λ sets. brace_at sets.1 >>= λ vs. g (Fold p q sets.0) vs) ≡ ((r >>= λ sets. brace_at sets.1 >>= done (Fold p q sets.0)) >>= λ k. g k.0 k.1)
aggs_then p q None g = refl
aggs_then p q (Some sets) g = brace_then (Fold p q sets.0) (brace_at sets.1) g

-- what follows the second condition of FOLD
second_then : {B : Type 0} (n : ℕ) (p : Pred) (r : Read Pred) (g : TreeLink → List Symbol → Option B) → (r >>= λ q. aggs_at n q.1 >>= λ sets. brace_at sets.1 >>= λ vs. g (Fold p q.0 sets.0) vs) ≡ ((r >>= λ q. aggs_at n q.1 >>= λ sets. brace_at sets.1 >>= done (Fold p q.0 sets.0)) >>= λ k. g k.0 k.1)
second_then n p None g = refl
second_then n p (Some q) g = aggs_then p q.0 (aggs_at n q.1) g

-- what follows the comma of FOLD
comma_then : {B : Type 0} (n : ℕ) (p : Pred) (r : Option (List Symbol)) (g : TreeLink → List Symbol → Option B) → (r >>= λ us. pred_at n us >>= λ q. aggs_at n q.1 >>= λ sets. brace_at sets.1 >>= λ vs. g (Fold p q.0 sets.0) vs) ≡ ((r >>= λ us. pred_at n us >>= λ q. aggs_at n q.1 >>= λ sets. brace_at sets.1 >>= done (Fold p q.0 sets.0)) >>= λ k. g k.0 k.1)
comma_then n p None g = refl
comma_then n p (Some us) g = second_then n p (pred_at n us) g

-- what follows the first condition of FOLD
first_then : {B : Type 0} (n : ℕ) (r : Read Pred) (g : TreeLink → List Symbol → Option B) → (r >>= λ p. comma_at p.1 >>= λ us. pred_at n us >>= λ q. aggs_at n q.1 >>= λ sets. brace_at sets.1 >>= λ vs. g (Fold p.0 q.0 sets.0) vs) ≡ ((r >>= λ p. comma_at p.1 >>= λ us. pred_at n us >>= λ q. aggs_at n q.1 >>= λ sets. brace_at sets.1 >>= done (Fold p.0 q.0 sets.0)) >>= λ k. g k.0 k.1)
first_then n None g = refl
first_then n (Some p) g = comma_then n p.0 (comma_at p.1) g

-- a term behind a link, and what goes on behind it
abbrev pub behind_link : ℕ → Source → TreeLink → List Symbol → Read Source
behind_link n e k ts = term_at n ts >>= λ f. source_more n (linked k e f.0) f.1

-- one step
source_same : (n : ℕ) (e : Source) (ts : List Symbol) → source_more (suc n) e ts ≡ (if is_link ts then linked_at n e ts else done e ts)
unfolding source_more is_link linked_at link_at next_at fold_at condition_at
source_same n e (the.Union ∷ ts) = refl
source_same n e (the.Next ∷ the.BraceOpen ∷ ts) =
    condition_then (pred_at n ts) (λ p us. behind_link n e (Next p) us)
    ∙ next_then (pred_at n ts >>= λ p. brace_at p.1 >>= done p.0) (λ k us. behind_link n e k us)
source_same n e (the.Next ∷ ts) = refl
source_same n e (the.Fold ∷ the.BraceOpen ∷ ts) = first_then n (pred_at n ts) (λ k us. behind_link n e k us)
source_same n e ts = refl

-- a source that goes on, or its end
pub source_more_next : (n : ℕ) (e : Source) (ts : List Symbol) → 0 < n → source_more n e ts ≡ (if is_link ts then linked_at (n - 1) e ts else done e ts)
source_more_next zero e ts h = absurd (omega arith)
source_more_next (suc n) e ts h = rw sub-one (source_same n e ts)

-- no steps are left
pub source_more_none : (n : ℕ) (e : Source) (ts : List Symbol) → n ≡ 0 → source_more n e ts ≡ None
unfolding source_more
source_more_none zero e ts h = refl
source_more_none (suc n) e ts h = absurd (omega arith)

-- one step
term_same : (n : ℕ) (ts : List Symbol) → term_at (suc n) ts ≡ term_step n ts
unfolding term_at term_step inner_at selection_at filter_at condition_at
term_same n (the.Name a ∷ ts) = refl
term_same n (the.Open ∷ the.Select ∷ ts) = refl
term_same n (the.Open ∷ ts) = refl
term_same n (the.Filter ∷ the.BraceOpen ∷ ts) = condition_then (pred_at n ts) (λ p us. term_at n us >>= λ e. done (Filter p e.0) e.1)
term_same n ts = refl

-- a term by its first symbols
pub term_next : (n : ℕ) (ts : List Symbol) → 0 < n → term_at n ts ≡ term_step (n - 1) ts
term_next zero ts h = absurd (omega arith)
term_next (suc n) ts h = rw sub-one (term_same n ts)

-- no steps are left
pub term_none : (n : ℕ) (ts : List Symbol) → n ≡ 0 → term_at n ts ≡ None
unfolding term_at
term_none zero ts h = refl
term_none (suc n) ts h = absurd (omega arith)
