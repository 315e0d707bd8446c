-- Numbers that are left for the hidden streams of queries.
use Rattle.std.proofs.Common.{◌≡◌, ℕ, ◌<◌, ◌≤◌, ◌^◌, List, [], ◌∷◌, length, get_or, subst, arith}
use Rattle.std.specs.Prelude.{None, Some, slice_get}
use Rattle.std.specs.List.{All}
use Rattle.std.proofs.lemmas.List.Elements.{All-cons, All-get_or, All-head, All-nil, All-tail}
use Rattle.expressions.specs.declared.expression.Expr.{Expr}
use Rattle.expressions.specs.Views.{ex_of}
use Rattle.semantics.specs.Expressions.{Read}
use Rattle.semantics.specs.Programs.{Query}
use Rattle.splitter.specs.Chains.{hidden_end}
use Rattle.stream_schema.specs.Streams.{Entry}
use Rattle.catalogue.specs.declared.numbering.Published.{Published}
use Rattle.catalogue.specs.Catalogued.{queries_of, query_of}
use Rattle.catalogue.specs.Numbering.{HasNumbers}
use Rattle.catalogue.proofs.NumberedLemmas.{numbers_for}
use Rattle.catalogue.proofs.StandingLemmas.{queries_at, queries_many}

-- where hidden streams end at numbers of streams, numbers are left for each
pub all_numbered : (streams others : List Entry) (published : List Published) (xs : List Expr) (most : ℕ) → most < 2 ^ 64 → All (λ query. hidden_end query ≤ most) (queries_of streams published xs)
    → All (λ query. HasNumbers query.expr query.hidden) (queries_of others published xs)
all_numbered streams others [] xs most small all = All-nil (λ (q : Query). HasNumbers q.expr q.hidden)
all_numbered streams others (p ∷ published) [] most small all = All-nil (λ (q : Query). HasNumbers q.expr q.hidden)
all_numbered streams others (p ∷ published) (x ∷ xs) most small all =
    let end = All-head (λ (q : Query). hidden_end q ≤ most) (query_of streams p x) (queries_of streams published xs) all in
    All-cons (λ (q : Query). HasNumbers q.expr q.hidden) (query_of others p x) (queries_of others published xs) (numbers_for (ex_of x) p.hidden (omega (arith, end, small)))
    (all_numbered streams others published xs most small (All-tail (λ (q : Query). hidden_end q ≤ most) (query_of streams p x) (queries_of streams published xs) all))

module _ (published : List Published) (xs : List Expr) (same : length published ≡ length xs) where
  abbrev work : List Query
  work = queries_of [] published xs

  abbrev none : Query
  none = record { name = []; stream = 0; hidden = 0; expr = Read 0; birth = None }

  work_many : length work ≡ length xs
  work_many = queries_many [] published xs same

  module _ (place : ℕ) (inside : place < length published) (p : Published) (x : Expr) (there : slice_get published place ≡ Some p) (express : slice_get xs place ≡ Some x) where
    here : get_or work place none ≡ query_of [] p x
    here = queries_at [] published xs place none p x there express

    -- numbers are left for the query at a place
    pub numbered_here : All (λ query. HasNumbers query.expr query.hidden) work → HasNumbers (ex_of x) p.hidden
    numbered_here all = subst (λ (q : Query). HasNumbers q.expr q.hidden) here (All-get_or (λ (q : Query). HasNumbers q.expr q.hidden) work place none (omega (arith, inside, same, work_many)) all)
