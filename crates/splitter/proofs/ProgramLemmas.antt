-- The queries of a program by their expressions.
use Rattle.std.proofs.Common.{◌≡◌, ◌∙◌, sym, ap, refl, subst, ℕ, ◌+◌, ◌<◌, ◌≤◌, ◌*◌, length, List, [], ◌∷◌, ◌++◌, map, arith}
use Rattle.std.specs.Prelude.{Contains, None}
use Rattle.std.specs.List.{All, range_with_len}
use Rattle.std.proofs.lemmas.List.{length-map}
use Rattle.std.proofs.lemmas.List.Elements.{All-nil, All-cons, All-head, All-tail}
use Rattle.std.proofs.lemmas.List.Sums.{sum_by-append}
use Rattle.std.proofs.lemmas.Nat.{mul-le}
use Rattle.event_types.specs.declared.kind.Kind.{Kind}
use Rattle.semantics.specs.Expressions.{Ex}
use Rattle.semantics.specs.Programs.{Program, Query}
use Rattle.semantics.specs.Reading.{ReadsOnly}
use Rattle.semantics.specs.TypedPrograms.{PublishInTurn}
use Rattle.semantics.specs.Typing.{IsTypedOver}
use Rattle.expressions.specs.declared.expression.Expr.{Expr}
use Rattle.expressions.specs.Views.{ex_of}
use Rattle.automaton.specs.declared.line.Line.{Line}
use Rattle.automaton.specs.Layouts.{LayoutFits}
use Rattle.splitter.specs.Laws.{split_order}
use Rattle.splitter.specs.Splitting.{parts_of, split_lines}
use Rattle.splitter.proofs.FewLemmas.{nodes, numbers_few, size, split_few}
use Rattle.splitter.specs.Chains.{chain_end, chain_lines, chain_order, end_of, hidden_end, lines_of, outs_of}
use Rattle.splitter.specs.declared.chains.Chains.{Chains}
use Rattle.splitter.specs.Layouts.{IsLayoutOf}
use Rattle.splitter.specs.SourceWidths.{HasWidths}
use Rattle.splitter.specs.Work.{AreChains, kinds_by, queries_from, work_of}
use Rattle.splitter.proofs.NumberedLemmas.{AreNumbered}

-- the expressions of queries
abbrev pub expressions_of : List Query → List Ex
expressions_of order = map (λ query. query.expr) order

module _ (kinds : ℕ → List Kind) where
  -- the next query, where its stream has this number
  abbrev Turns : List ℕ → Query → List Query → ℕ → Type 0
  Turns there query order number =
      All (λ stream. stream < number) there × ReadsOnly (Contains there) query.expr × IsTypedOver query.expr number kinds (kinds number) × PublishInTurn kinds (there ++ number ∷ []) order

  turn_from : (number hidden : ℕ) (there : List ℕ) (order : List Query) → AreNumbered number hidden order → PublishInTurn kinds there order → PublishInTurn kinds there (queries_from number hidden (expressions_of order))
  turn_from number hidden there [] h turn = tt
  turn_from number hidden there (query ∷ order) h turn =
      let here : Turns there query order number = subst (Turns there query order) h.0 turn in
      (here.0, here.1, here.2, turn_from (number + 1) (parts_of query.expr hidden).next (there ++ number ∷ []) order h.2 here.3)

  wide_from : (number hidden : ℕ) (order : List Query) → All (λ query. HasWidths kinds query.expr) order → All (λ query. HasWidths kinds query.expr) (queries_from number hidden (expressions_of order))
  wide_from number hidden [] all = All-nil (λ (q : Query). HasWidths kinds q.expr)
  wide_from number hidden (query ∷ order) all =
      let next = (parts_of query.expr hidden).next in
      All-cons (λ (q : Query). HasWidths kinds q.expr) (record { name = []; stream = number; hidden = hidden; expr = query.expr; birth = None }) (queries_from (number + 1) next (expressions_of order))
      (All-head (λ (q : Query). HasWidths kinds q.expr) query order all) (wide_from (number + 1) next order (All-tail (λ (q : Query). HasWidths kinds q.expr) query order all))

lines_from : (number hidden : ℕ) (order : List Query) → AreNumbered number hidden order → chain_lines (queries_from number hidden (expressions_of order)) ≡ chain_lines order
lines_from number hidden [] h = refl
lines_from number hidden (query ∷ order) h = λ i. split_lines query.expr (sym h.0 i) (sym h.1 i) ++ lines_from (number + 1) (parts_of query.expr hidden).next order h.2 i

order_from : (number hidden : ℕ) (order : List Query) → AreNumbered number hidden order → chain_order (queries_from number hidden (expressions_of order)) ≡ chain_order order
order_from number hidden [] h = refl
order_from number hidden (query ∷ order) h = λ i. split_order query.expr (sym h.0 i) (sym h.1 i) ++ order_from (number + 1) (parts_of query.expr hidden).next order h.2 i

end_from : (number hidden : ℕ) (order : List Query) (next : ℕ) → AreNumbered number hidden order → chain_end (queries_from number hidden (expressions_of order)) next ≡ chain_end order next
end_from number hidden [] next h = refl
end_from number hidden (query ∷ order) next h =
    let last = (parts_of query.expr hidden).next in
    end_from (number + 1) last order last h.2 ∙ ap (λ n. chain_end order (parts_of query.expr n).next) (sym h.1)

module _ (kinds : List (List Kind)) (program : Program) (expressions : List Expr) (same : expressions_of program.order ≡ map ex_of expressions) (numbered : AreNumbered program.declared (program.declared + length program.order) program.order) where
  as_many : length program.order ≡ length expressions
  as_many = sym (length-map program.order (λ query. query.expr)) ∙ ap length same ∙ length-map expressions ex_of

  abbrev hidden : ℕ
  hidden = program.declared + length program.order

  work_is : queries_from program.declared hidden (expressions_of program.order) ≡ work_of program.declared expressions
  work_is = λ i. queries_from program.declared (program.declared + as_many i) (same i)

  -- what the making of lines asks
  pub work_typed : PublishInTurn (kinds_by kinds) (range_with_len 0 program.declared) program.order → PublishInTurn (kinds_by kinds) (range_with_len 0 program.declared) (work_of program.declared expressions)
  work_typed turn = subst (PublishInTurn (kinds_by kinds) (range_with_len 0 program.declared)) work_is (turn_from (kinds_by kinds) program.declared hidden (range_with_len 0 program.declared) program.order numbered turn)

  -- their expressions have their widths
  pub work_wide : All (λ query. HasWidths (kinds_by kinds) query.expr) program.order → All (λ query. HasWidths (kinds_by kinds) query.expr) (work_of program.declared expressions)
  work_wide all = subst (All (λ (q : Query). HasWidths (kinds_by kinds) q.expr)) work_is (wide_from (kinds_by kinds) program.declared hidden program.order all)

  -- they end at the same number
  pub work_end : chain_end (work_of program.declared expressions) program.declared ≡ end_of program
  work_end = ap (λ order. chain_end order program.declared) (sym work_is) ∙ end_from program.declared hidden program.order program.declared numbered

  -- and what they are
  module _ (places : List ℕ) (outs : map (λ place. program.declared + place) places ≡ outs_of program) (chains : Chains) (made : AreChains program.declared expressions places kinds chains) where
    -- their lines are those of the program
    pub lines_made : chains.lines ≡ lines_of program
    lines_made = made.lines ∙ ap chain_lines (sym work_is) ∙ lines_from program.declared hidden program.order numbered

    -- and their layout is its layout
    pub layout_made : IsLayoutOf program kinds chains.layout
    layout_made = record {
      order = made.order ∙ ap chain_order (sym work_is) ∙ order_from program.declared hidden program.order numbered;
      outs = made.outs ∙ outs;
      hidden = made.hidden;
      kinds_are = made.kinds_are;
      all_kinds = made.all_kinds ∙ work_end;
      fits = subst (λ (lines : List Line). LayoutFits lines chains.layout) lines_made made.fits;
    }

-- the expression has at most 1,024 nodes
abbrev pub IsShort : Ex → Type 0
IsShort e = nodes e ≤ 1024

-- queries of short expressions take few numbers for hidden streams
pub few_taken : (number hidden next : ℕ) (order : List Query) → AreNumbered number hidden order → All (λ query. IsShort query.expr) order → next ≤ hidden → chain_end order next ≤ hidden + 1024 * length order
few_taken number hidden next [] h all up = omega (arith, up)
few_taken number hidden next (query ∷ order) h all up =
    let short : nodes query.expr ≤ 1024 = All-head (λ (q : Query). IsShort q.expr) query order all in
    let last = (parts_of query.expr hidden).next in
    let end : hidden_end query ≡ last = ap (λ n. (parts_of query.expr n).next) h.1 in
    let rest = few_taken (number + 1) last (hidden_end query) order h.2 (All-tail (λ (q : Query). IsShort q.expr) query order all) (omega (arith, end)) in omega (arith, short, numbers_few query.expr hidden, rest)

-- and have few lines
pub few_lines : (order : List Query) → All (λ query. IsShort query.expr) order → size (chain_lines order) ≤ 1048576 * length order
few_lines [] all = omega arith
few_lines (query ∷ order) all =
    let short : nodes query.expr ≤ 1024 = All-head (λ (q : Query). IsShort q.expr) query order all in
    let square = mul-le (nodes query.expr) (nodes query.expr) 1024 1024 short short in
    let rest = few_lines order (All-tail (λ (q : Query). IsShort q.expr) query order all) in
    let both = sum_by-append (λ (line : Line). 1 + length line.hops) (split_lines query.expr query.stream query.hidden) (chain_lines order) in omega (arith, square, split_few query.expr query.stream query.hidden, both, rest)
