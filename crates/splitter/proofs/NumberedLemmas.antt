-- Queries that have the next numbers one after another.
use Rattle.std.proofs.Common.{◌≡◌, ap, refl, ℕ, ◌+◌, ◌<◌, ◌≤◌, length, List, [], ◌∷◌, map, subst, ◌⊎◌, inl, inr, arith}
use Rattle.std.specs.Prelude.{⊤, None}
use Rattle.std.specs.List.{All}
use Rattle.std.proofs.lemmas.List.{length-map}
use Rattle.std.proofs.lemmas.List.Elements.{All-nil, All-cons, All-head, All-tail}
use Rattle.semantics.specs.Expressions.{Ex}
use Rattle.semantics.specs.Programs.{Query}
use Rattle.expressions.specs.declared.expression.Expr.{Expr}
use Rattle.expressions.specs.Views.{ex_of}
use Rattle.splitter.specs.Splitting.{parts_of}
use Rattle.splitter.proofs.NumberingLemmas.{parts_up}
use Rattle.splitter.specs.Chains.{HideApart, LeavesHidden, hidden_end}
use Rattle.splitter.specs.Work.{queries_from, work_of}
use Rattle.splitter.proofs.ApartLemmas.{is_below}

-- the queries publish the streams from a number on, and hide those from another on
abbrev pub AreNumbered : ℕ → ℕ → List Query → Type 0
AreNumbered number hidden [] = ⊤
AreNumbered number hidden (query ∷ order) = (query.stream ≡ number) × (query.hidden ≡ hidden) × AreNumbered (number + 1) (parts_of query.expr hidden).next order

-- they leave the hidden streams of a query before them
numbered_leave : (query : Query) (number hidden : ℕ) (order : List Query) → AreNumbered number hidden order → number + length order ≤ query.hidden → hidden_end query ≤ hidden → All (LeavesHidden query) order
numbered_leave query number hidden [] h low up = All-nil (LeavesHidden query)
numbered_leave query number hidden (later ∷ order) h low up =
    All-cons (LeavesHidden query) later order (inl (omega (arith, h.0, low)), omega (arith, h.1, up))
    (numbered_leave query (number + 1) (parts_of later.expr hidden).next order h.2 (omega arith) (omega (arith, up, parts_up later.expr hidden)))

-- so they hide streams apart, where the hidden ones stand behind all that they publish
pub numbered_apart : (number hidden : ℕ) (order : List Query) → AreNumbered number hidden order → number + length order ≤ hidden → HideApart order
numbered_apart number hidden [] h low = tt
numbered_apart number hidden (query ∷ order) h low =
    let next = (parts_of query.expr hidden).next in
    let end : hidden_end query ≡ next = ap (λ n. (parts_of query.expr n).next) h.1 in (
      omega (arith, h.0, h.1, low),
      numbered_leave query (number + 1) next order h.2 (omega (arith, h.1, low)) (omega (arith, end)),
      numbered_apart (number + 1) next order h.2 (omega (arith, low, parts_up query.expr hidden)),
    )

from_numbered : (number hidden : ℕ) (xs : List Ex) → AreNumbered number hidden (queries_from number hidden xs)
from_numbered number hidden [] = tt
from_numbered number hidden (e ∷ xs) = (refl, refl, from_numbered (number + 1) (parts_of e hidden).next xs)

-- there are as many queries as expressions
pub from_long : (number hidden : ℕ) (xs : List Ex) → length (queries_from number hidden xs) ≡ length xs
from_long number hidden [] = refl
from_long number hidden (e ∷ xs) = let more = from_long (number + 1) (parts_of e hidden).next xs in omega (arith, more)

-- the queries of expressions hide streams apart
pub work_apart : (declared : ℕ) (expressions : List Expr) → HideApart (work_of declared expressions)
work_apart declared expressions =
    let hidden = declared + length expressions in
    let many = from_long declared hidden (map ex_of expressions) in
    numbered_apart declared hidden (work_of declared expressions) (from_numbered declared hidden (map ex_of expressions)) (omega (arith, many, length-map expressions ex_of))

-- what is so of each of their streams
pub from_each : (P : ℕ → Type 0) (number hidden : ℕ) (xs : List Ex) → All (λ query. P query.stream) (queries_from number hidden xs) → (stream : ℕ) → number ≤ stream → stream < number + length xs → P stream
from_each P number hidden [] all stream above below = absurd (omega (arith, below))
from_each P number hidden (e ∷ xs) all stream above below =
    go (is_below number stream) (λ more. from_each P (number + 1) (parts_of e hidden).next xs (All-tail (λ (q : Query). P q.stream) query later all) stream (omega arith) (omega (arith, below)))
  where
    query : Query
    query = record { name = []; stream = number; hidden = hidden; expr = e; birth = None }

    later : List Query
    later = queries_from (number + 1) (parts_of e hidden).next xs

    go : (number < stream) ⊎ (stream ≤ number) → (number < stream → P stream) → P stream
    go (inl more) rest = rest more
    go (inr down) rest = let same : number ≡ stream = omega arith in subst P same (All-head (λ (q : Query). P q.stream) query later all)
