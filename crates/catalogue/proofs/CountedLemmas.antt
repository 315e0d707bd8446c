-- How many lines queries have, and whether expressions read a stream.
use Rattle.std.proofs.Common.{◌≡◌, ◌≢◌, ◌∙◌, ℕ, zero, suc, ◌+◌, ◌<◌, ◌≤◌, ◌||◌, List, [], ◌∷◌, Bool, true, false, length, map, take, get_or, refl, ap, subst, arith}
use Rattle.std.specs.Prelude.{◌==◌, None, Some, slice_get}
use Rattle.std.proofs.lemmas.List.{length-append, length-map}
use Rattle.std.proofs.lemmas.List.Sums.{sum_by-cons, sum_by_more_le}
use Rattle.std.proofs.lemmas.Option.{get_or_from_slice_get}
use Rattle.event_types.proofs.NumberLemmas.{is_other, self_equal}
use Rattle.expressions.specs.declared.expression.Expr.{Expr}
use Rattle.expressions.specs.Views.{ex_of}
use Rattle.semantics.specs.Expressions.{Ex, Read, Filter, Select, Union, Next, Fold}
use Rattle.semantics.specs.Reading.{ReadsOnly}
use Rattle.automaton.specs.declared.line.Line.{Line}
use Rattle.automaton.specs.declared.step.Stage.TheVariants.{Keep, Make}
use Rattle.splitter.specs.Chains.{chain_lines}
use Rattle.splitter.specs.Splitting.{Parts, parts_of, published_on, right_side_of, split_lines, with_hop, with_stage}
use Rattle.splitter.proofs.FewLemmas.{size}
use Rattle.stream_schema.specs.Streams.{Entry}
use Rattle.catalogue.specs.declared.numbering.Published.{Published}
use Rattle.catalogue.specs.Catalogued.{queries_of, query_of}
use Rattle.catalogue.specs.Counting.{lines_all, lines_in, reads, right_many}

-- how many hidden lines a right side has
source_count : (f : Ex) (low : ℕ) → length (parts_of f low).open_lines + length (parts_of f low).hidden ≡ lines_in f → length (right_side_of f (parts_of f low)).hidden ≡ right_many f (lines_in f)
source_count (Read stream) low is = refl
source_count f low is =
    let right : Parts = parts_of f low in
    omega (arith, is, length-append right.hidden (map (published_on right.next) right.open_lines), length-map right.open_lines (published_on right.next))

-- an expression has as many open and hidden lines as are counted
parts_count : (e : Ex) (next : ℕ) → length (parts_of e next).open_lines + length (parts_of e next).hidden ≡ lines_in e
parts_count (Read stream) next = refl
parts_count (Filter p e) next = omega (arith, parts_count e next, length-map (parts_of e next).open_lines (with_stage (Keep p)))
parts_count (Select m e) next = omega (arith, parts_count e next, length-map (parts_of e next).open_lines (with_stage (Make m)))
parts_count (Union e f) next =
    let left : Parts = parts_of e next in
    let right : Parts = parts_of f left.next in
    omega (arith, parts_count e next, parts_count f left.next, length-append left.open_lines right.open_lines, length-append left.hidden right.hidden)
parts_count (Next p e f) next =
    let left : Parts = parts_of e next in
    let source = right_side_of f (parts_of f left.next) in
    omega (arith, parts_count e next, source_count f left.next (parts_count f left.next), length-map left.open_lines (with_hop (record { stream = source.stream; choose = p; fold = None })), length-append left.hidden source.hidden)
parts_count (Fold p q m e f) next =
    let left : Parts = parts_of e next in
    let source = right_side_of f (parts_of f left.next) in
    omega (arith, parts_count e next, source_count f left.next (parts_count f left.next), length-map left.open_lines (with_hop (record { stream = source.stream; choose = p; fold = Some (record { on = q; set = m }) })), length-append left.hidden source.hidden)

-- so many lines it has, whatever it publishes
pub split_count : (e : Ex) (out next : ℕ) → length (split_lines e out next) ≡ lines_in e
split_count e out next =
    let parts : Parts = parts_of e next in omega (arith, parts_count e next, length-append parts.hidden (map (published_on out) parts.open_lines), length-map parts.open_lines (published_on out))

-- and so have queries
pub chain_count : (streams : List Entry) (published : List Published) (xs : List Expr) → length published ≡ length xs → length (chain_lines (queries_of streams published xs)) ≡ lines_all xs
chain_count streams [] [] same = refl
chain_count streams [] (x ∷ xs) same = absurd (omega (arith, same))
chain_count streams (p ∷ published) [] same = absurd (omega (arith, same))
chain_count streams (p ∷ published) (x ∷ xs) same =
    omega (
      arith,
      split_count (ex_of x) p.stream p.hidden,
      chain_count streams published xs (omega (arith, same)),
      length-append (split_lines (ex_of x) p.stream p.hidden) (chain_lines (queries_of streams published xs)),
      sum_by-cons (λ (y : Expr). lines_in (ex_of y)) x xs,
    )

-- the first so many queries
pub queries_take : (streams : List Entry) (published : List Published) (xs : List Expr) (k : ℕ) → take k (queries_of streams published xs) ≡ queries_of streams (take k published) (take k xs)
queries_take streams [] [] zero = refl
queries_take streams [] [] (suc k) = refl
queries_take streams [] (x ∷ xs) zero = refl
queries_take streams [] (x ∷ xs) (suc k) = refl
queries_take streams (p ∷ published) [] zero = refl
queries_take streams (p ∷ published) [] (suc k) = refl
queries_take streams (p ∷ published) (x ∷ xs) zero = refl
queries_take streams (p ∷ published) (x ∷ xs) (suc k) = ap (λ qs. query_of streams p x ∷ qs) (queries_take streams published xs k)

-- lines are at most what they and their hops are
pub lines_most : (lines : List Line) → length lines ≤ size lines
lines_most [] = omega arith
lines_most (line ∷ lines) = omega (arith, sum_by-cons (λ (l : Line). 1 + length l.hops) line lines, lines_most lines)

module _ (xs : List Expr) (place : ℕ) (x : Expr) (inside : place < length xs) (there : slice_get xs place ≡ Some x) where
  here : get_or xs place x ≡ x
  here = get_or_from_slice_get xs place x x there

  -- the lines of one expression and of those before it are within all lines
  pub lines_within : lines_all (take place xs) + lines_in (ex_of x) ≤ lines_all xs
  lines_within = subst (λ (y : Expr). lines_all (take place xs) + lines_in (ex_of y) ≤ lines_all xs) here (sum_by_more_le (λ (y : Expr). lines_in (ex_of y)) xs place x inside)

or_left : (a b : Bool) → (a || b) ≡ false → a ≡ false
or_left true b e = e
or_left false b e = refl

or_right : (a b : Bool) → (a || b) ≡ false → b ≡ false
or_right true b e = cc
or_right false b e = e

-- what isn't read is another stream
pub unread : (stream : ℕ) (e : Ex) → reads stream e ≡ false → ReadsOnly (λ read. read ≢ stream) e
unread stream (Read read) e = λ same. let is : (read == stream) ≡ true = ap (λ n. n == stream) same ∙ self_equal stream in cc
unread stream (Filter p x) e = unread stream x e
unread stream (Select m x) e = unread stream x e
unread stream (Union x y) e = (unread stream x (or_left (reads stream x) (reads stream y) e), unread stream y (or_right (reads stream x) (reads stream y) e))
unread stream (Next p x y) e = (unread stream x (or_left (reads stream x) (reads stream y) e), unread stream y (or_right (reads stream x) (reads stream y) e))
unread stream (Fold p q m x y) e = (unread stream x (or_left (reads stream x) (reads stream y) e), unread stream y (or_right (reads stream x) (reads stream y) e))

both_false : (a b : Bool) → a ≡ false → b ≡ false → (a || b) ≡ false
both_false a b e f = ap (λ x. x || b) e ∙ f

-- and where only others are read it isn't
pub not_read : (stream : ℕ) (e : Ex) → ReadsOnly (λ read. read ≢ stream) e → reads stream e ≡ false
not_read stream (Read read) other = is_other read stream other
not_read stream (Filter p x) other = not_read stream x other
not_read stream (Select m x) other = not_read stream x other
not_read stream (Union x y) other = both_false (reads stream x) (reads stream y) (not_read stream x other.0) (not_read stream y other.1)
not_read stream (Next p x y) other = both_false (reads stream x) (reads stream y) (not_read stream x other.0) (not_read stream y other.1)
not_read stream (Fold p q m x y) other = both_false (reads stream x) (reads stream y) (not_read stream x other.0) (not_read stream y other.1)
