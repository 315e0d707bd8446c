-- Each stream that queries publish has a line, and layouts of their lines fit.
use Rattle.std.proofs.Common.{◌≡◌, ℕ, ◌-◌, ◌<◌, ◌≤◌, ◌==◌, ◌||◌, List, [], ◌∷◌, ◌++◌, length, map, ap, subst, inl, inr, arith}
use Rattle.std.specs.Prelude.{IsTrue}
use Rattle.std.specs.List.{All, list_any}
use Rattle.std.proofs.lemmas.Bool.{cases_lt}
use Rattle.std.proofs.lemmas.List.Elements.{All-append, All-cons, All-nil, All-weaker}
use Rattle.event_types.proofs.NumberLemmas.{self_equal}
use Rattle.semantics.specs.Expressions.{Ex, Read, Filter, Select, Union, Next, Fold}
use Rattle.semantics.specs.Programs.{Query}
use Rattle.automaton.specs.declared.line.Line.{Line}
use Rattle.splitter.specs.declared.open.Open.{Open}
use Rattle.splitter.specs.Chains.{chain_lines, chain_order}
use Rattle.splitter.specs.Laws.{hidden_streams, split_order}
use Rattle.splitter.specs.Splitting.{Parts, parts_of, published_on, right_side_of, split_lines}
use Rattle.splitter.proofs.ApartLemmas.{any_left, any_right, range_all}
use Rattle.splitter.proofs.NumberingLemmas.{parts_up}
use Rattle.splitter.proofs.SplitLemmas.{some_lines}

-- a line publishes the stream
abbrev pub HasLine : List Line → ℕ → Type 0
HasLine lines stream = IsTrue (list_any (λ line. line.out == stream) lines)

own_line : (out : ℕ) (opens : List Open) → 0 < length opens → HasLine (map (published_on out) opens) out
own_line out [] some = absurd (omega (arith, some))
own_line out (line ∷ opens) some = ap (λ b. b || list_any (λ (l : Line). l.out == out) (map (published_on out) opens)) (self_equal out)

-- where each hidden stream within a right side has a line, so has its own
source_has : (f : Ex) (low : ℕ) → ((x : ℕ) → low ≤ x → x < (parts_of f low).next → HasLine (parts_of f low).hidden x) → (x : ℕ) → low ≤ x → x < (right_side_of f (parts_of f low)).next → HasLine (right_side_of f (parts_of f low)).hidden x
source_has (Read stream) low each x above below = absurd (omega (arith, above, below))
source_has f low each x above below =
    let right : Parts = parts_of f low in
    elim (cases_lt x right.next) [
      | inl less ↦ any_left (λ (l : Line). l.out == x) right.hidden (map (published_on right.next) right.open_lines) (each x above less)
      | inr past ↦
          let last : right.next ≡ x = omega (arith, past, below) in
          any_right (λ (l : Line). l.out == x) right.hidden (map (published_on right.next) right.open_lines)
          (subst (λ (n : ℕ). HasLine (map (published_on right.next) right.open_lines) n) last (own_line right.next right.open_lines (some_lines f low)))
    ]

both_have : (lefts rights : List Line) (low mid high : ℕ) → ((x : ℕ) → low ≤ x → x < mid → HasLine lefts x) → ((x : ℕ) → mid ≤ x → x < high → HasLine rights x) → (x : ℕ) → low ≤ x → x < high → HasLine (lefts ++ rights) x
both_have lefts rights low mid high left right x above below = elim (cases_lt x mid) [
  | inl less ↦ any_left (λ (l : Line). l.out == x) lefts rights (left x above less)
  | inr past ↦ any_right (λ (l : Line). l.out == x) lefts rights (right x past below)
]

-- each hidden stream of an expression has a line
hidden_has : (e : Ex) (next : ℕ) → (x : ℕ) → next ≤ x → x < (parts_of e next).next → HasLine (parts_of e next).hidden x
hidden_has (Read stream) next x above below = absurd (omega (arith, above, below))
hidden_has (Filter p e) next x above below = hidden_has e next x above below
hidden_has (Select m e) next x above below = hidden_has e next x above below
hidden_has (Union e f) next x above below =
    let mid : ℕ = (parts_of e next).next in both_have (parts_of e next).hidden (parts_of f mid).hidden next mid (parts_of f mid).next (hidden_has e next) (hidden_has f mid) x above below
hidden_has (Next p e f) next x above below =
    let mid : ℕ = (parts_of e next).next in
    let right = right_side_of f (parts_of f mid) in both_have (parts_of e next).hidden right.hidden next mid right.next (hidden_has e next) (source_has f mid (hidden_has f mid)) x above below
hidden_has (Fold p q m e f) next x above below =
    let mid : ℕ = (parts_of e next).next in
    let right = right_side_of f (parts_of f mid) in both_have (parts_of e next).hidden right.hidden next mid right.next (hidden_has e next) (source_has f mid (hidden_has f mid)) x above below

split_lined : (e : Ex) (out next : ℕ) → All (HasLine (split_lines e out next)) (split_order e out next)
split_lined e out next =
    let parts : Parts = parts_of e next in
    let own : List Line = map (published_on out) parts.open_lines in
    All-append (HasLine (split_lines e out next)) (hidden_streams e next) (out ∷ [])
    (range_all (HasLine (split_lines e out next)) next (parts.next - next) (λ x above below. any_left (λ (l : Line). l.out == x) parts.hidden own (hidden_has e next x above (omega (arith, below, parts_up e next)))))
    (All-cons (HasLine (split_lines e out next)) out [] (any_right (λ (l : Line). l.out == out) parts.hidden own (own_line out parts.open_lines (some_lines e next))) (All-nil (HasLine (split_lines e out next))))

-- each stream of the order of work has a line
pub chain_lined : (order : List Query) → All (HasLine (chain_lines order)) (chain_order order)
chain_lined [] = All-nil (HasLine [])
chain_lined (query ∷ order) =
    let own : List Line = split_lines query.expr query.stream query.hidden in
    All-append (HasLine (own ++ chain_lines order)) (split_order query.expr query.stream query.hidden) (chain_order order)
    (All-weaker (HasLine own) (HasLine (own ++ chain_lines order)) (λ x has. any_left (λ (l : Line). l.out == x) own (chain_lines order) has) (split_order query.expr query.stream query.hidden) (split_lined query.expr query.stream query.hidden))
    (All-weaker (HasLine (chain_lines order)) (HasLine (own ++ chain_lines order)) (λ x has. any_right (λ (l : Line). l.out == x) own (chain_lines order) has) (chain_order order) (chain_lined order))
