-- The lines of an expression are few. Its nodes are the streams that it reads and its NEXTs and FOLDs, each as often as it stands there.
use Rattle.std.proofs.Common.{◌≡◌, ◌∙◌, sym, ap, refl, ℕ, ◌+◌, ◌*◌, ◌≤◌, length, List, [], ◌∷◌, ◌++◌, map, arith}
use Rattle.std.specs.Prelude.{Some, None, sum_by}
use Rattle.std.proofs.lemmas.List.{length-append, length-map, length_push}
use Rattle.std.proofs.lemmas.List.Sums.{sum_by-append, sum_by-cons}
use Rattle.semantics.specs.Expressions.{Ex, Read, Filter, Select, Union, Next, Fold}
use Rattle.automaton.specs.declared.line.Hop.{Hop}
use Rattle.automaton.specs.declared.line.Line.{Line}
use Rattle.automaton.specs.declared.step.Stage.{Stage}
use Rattle.automaton.specs.declared.step.Stage.TheVariants.{Keep, Make}
use Rattle.automaton.specs.declared.wait.Wait.{Wait}
use Rattle.splitter.specs.declared.open.Open.{Open}
use Rattle.splitter.specs.Splitting.{Parts, parts_of, published_on, right_side_of, split_lines, waiting_on, with_hop, with_stage}

-- how many nodes an expression has
abbrev pub nodes : Ex → ℕ
nodes (Read stream) = 1
nodes (Filter p e) = nodes e
nodes (Select m e) = nodes e
nodes (Union e f) = nodes e + nodes f
nodes (Next p e f) = nodes e + nodes f + 1
nodes (Fold p q m e f) = nodes e + nodes f + 1

-- a right side takes at most one number
source_most : (e : Ex) (right : Parts) → (right_side_of e right).next ≤ right.next + 1
source_most (Read stream) right = omega arith
source_most e right = omega arith

-- an expression takes at most as many numbers for hidden streams as it has nodes
pub numbers_few : (e : Ex) (next : ℕ) → (parts_of e next).next ≤ next + nodes e
numbers_few (Read stream) next = omega arith
numbers_few (Filter p e) next = numbers_few e next
numbers_few (Select m e) next = numbers_few e next
numbers_few (Union e f) next = omega (arith, numbers_few e next, numbers_few f (parts_of e next).next)
numbers_few (Next p e f) next = omega (arith, numbers_few e next, numbers_few f (parts_of e next).next, source_most f (parts_of f (parts_of e next).next))
numbers_few (Fold p q m e f) next = omega (arith, numbers_few e next, numbers_few f (parts_of e next).next, source_most f (parts_of f (parts_of e next).next))

-- a line and its hops
abbrev weight : Line → ℕ
weight line = 1 + length line.hops

abbrev open_weight : Open → ℕ
open_weight line = 1 + length line.hops

-- lines and their hops
abbrev pub size : List Line → ℕ
size lines = sum_by (λ line. 1 + length line.hops) lines

abbrev open_size : List Open → ℕ
open_size lines = sum_by (λ line. 1 + length line.hops) lines

sum_by-map : {X Y : Type 0} (f : Y → ℕ) (g : X → Y) (xs : List X) → sum_by f (map g xs) ≡ sum_by (λ x. f (g x)) xs
sum_by-map f g [] = refl
sum_by-map f g (x ∷ xs) = sum_by-cons f (g x) (map g xs) ∙ ap (λ n. f (g x) + n) (sum_by-map f g xs) ∙ sym (sum_by-cons (λ y. f (g y)) x xs)

-- one hop more for each line
hop_size : (wait : Wait) (lines : List Open) → open_size (map (with_hop wait) lines) ≡ open_size lines + length lines
hop_size wait [] = refl
hop_size wait (line ∷ lines) =
    let hop : Hop = record { step = line.last; wait = wait } in
    omega (arith, sum_by-cons open_weight (with_hop wait line) (map (with_hop wait) lines), sum_by-cons open_weight line lines, length_push line.hops hop, hop_size wait lines)

-- the hidden lines of a right side are those within it, and its own
source_size : (e : Ex) (right : Parts) → size (right_side_of e right).hidden ≤ open_size right.open_lines + size right.hidden
source_size (Read stream) right = omega arith
source_size e right =
    let own : size (map (published_on right.next) right.open_lines) ≡ open_size right.open_lines = sum_by-map weight (published_on right.next) right.open_lines in
    omega (arith, own, sum_by-append weight right.hidden (map (published_on right.next) right.open_lines))

-- there are at most so many open lines, and all lines and hops are at most its square
record AreFew (most : ℕ) (parts : Parts) : Type 0 where
  lines : length parts.open_lines ≤ most
  all : open_size parts.open_lines + size parts.hidden ≤ most * most

staged_few : (stage : Stage) (most : ℕ) (inner : Parts) → AreFew most inner → AreFew most (record { open_lines = map (with_stage stage) inner.open_lines; hidden = inner.hidden; next = inner.next })
staged_few stage most inner few = record {
  lines = omega (arith, few.lines, length-map inner.open_lines (with_stage stage));
  all = (let same : open_size (map (with_stage stage) inner.open_lines) ≡ open_size inner.open_lines = sum_by-map open_weight (with_stage stage) inner.open_lines in omega (arith, few.all, same));
}

both_few : (m n : ℕ) (left right : Parts) → AreFew m left → AreFew n right
    → AreFew (m + n) (record { open_lines = left.open_lines ++ right.open_lines; hidden = left.hidden ++ right.hidden; next = right.next })
both_few m n left right few others = record {
  lines = omega (arith, few.lines, others.lines, length-append left.open_lines right.open_lines);
  all = omega (arith, few.all, others.all, sum_by-append open_weight left.open_lines right.open_lines, sum_by-append weight left.hidden right.hidden);
}

waiting_few : (wait : ℕ → Wait) (e : Ex) (m n : ℕ) (left right : Parts) → AreFew m left → AreFew n right → AreFew (m + n + 1) (waiting_on wait left (right_side_of e right))
waiting_few wait e m n left right few others =
    let source = right_side_of e right in record {
      lines = omega (arith, few.lines, length-map left.open_lines (with_hop (wait source.stream)));
      all = omega (arith, few.lines, few.all, others.all, hop_size (wait source.stream) left.open_lines, sum_by-append weight left.hidden source.hidden, source_size e right);
    }

parts_few : (e : Ex) (next : ℕ) → AreFew (nodes e) (parts_of e next)
parts_few (Read stream) next = record { lines = omega arith; all = omega arith }
parts_few (Filter p e) next = staged_few (Keep p) (nodes e) (parts_of e next) (parts_few e next)
parts_few (Select m e) next = staged_few (Make m) (nodes e) (parts_of e next) (parts_few e next)
parts_few (Union e f) next = let left = parts_of e next in both_few (nodes e) (nodes f) left (parts_of f left.next) (parts_few e next) (parts_few f left.next)
parts_few (Next p e f) next =
    let left = parts_of e next in
    waiting_few (λ stream. record { stream = stream; choose = p; fold = None }) f (nodes e) (nodes f) left (parts_of f left.next) (parts_few e next) (parts_few f left.next)
parts_few (Fold p q m e f) next =
    let left = parts_of e next in
    waiting_few (λ stream. record { stream = stream; choose = p; fold = Some (record { on = q; set = m }) }) f (nodes e) (nodes f) left (parts_of f left.next) (parts_few e next) (parts_few f left.next)

-- the lines of an expression and their hops are at most the square of its nodes
pub split_few : (e : Ex) (out next : ℕ) → size (split_lines e out next) ≤ nodes e * nodes e
split_few e out next =
    let parts = parts_of e next in
    let own : size (map (published_on out) parts.open_lines) ≡ open_size parts.open_lines = sum_by-map weight (published_on out) parts.open_lines in
    omega (arith, own, (parts_few e next).all, sum_by-append weight parts.hidden (map (published_on out) parts.open_lines))
