-- How far the lines and the layout of queries are, query by query.
use Rattle.std.proofs.Common.{◌≡◌, ◌∙◌, sym, ap, refl, subst, ℕ, ◌+◌, ◌-◌, ◌<◌, ◌≤◌, ◌^◌, ◌==◌, ◌||◌, length, get_or, drop, add-one, List, [], ◌∷◌, ◌++◌, map, append-nil, append_assoc, arith}
use Rattle.std.specs.Prelude.{IsTrue, Some, slice_get, None}
use Rattle.std.specs.List.{All, list_any, range_with_len}
use Rattle.std.proofs.Math.Seq.{drop-cons}
use Rattle.std.proofs.lemmas.List.{drop_all, length-map}
use Rattle.std.proofs.lemmas.List.Elements.{All-nil, All-cons, All-head, All-tail, All-append, All-map, All-same, All-weaker}
use Rattle.std.proofs.lemmas.Option.{get_or_from_slice_get, slice_get-get_or}
use Rattle.event_types.specs.declared.kind.Kind.{Kind}
use Rattle.semantics.specs.Expressions.{Ex}
use Rattle.semantics.specs.Programs.{Query}
use Rattle.semantics.specs.TypedPrograms.{PublishInTurn}
use Rattle.expressions.specs.declared.expression.Expr.{Expr}
use Rattle.expressions.specs.Views.{ex_of}
use Rattle.automaton.specs.declared.layout.Layout.{Layout}
use Rattle.automaton.specs.declared.line.Line.{Line}
use Rattle.automaton.specs.Layouts.{LayoutFits}
use Rattle.automaton.specs.LineKinds.{LineFits}
use Rattle.automaton.specs.Work.{IsInOrder, is_in}
use Rattle.splitter.specs.declared.open.Open.{Open}
use Rattle.splitter.specs.Laws.{IsApart, hidden_streams, split_order}
use Rattle.splitter.specs.Splitting.{parts_of, published_on, split_lines}
use Rattle.splitter.proofs.NumberingLemmas.{parts_up}
use Rattle.splitter.specs.Chains.{chain_end, chain_lines, chain_order}
use Rattle.splitter.specs.Growing.{GrowInTurn}
use Rattle.splitter.specs.SourceWidths.{HasWidths}
use Rattle.splitter.specs.Work.{AreChains, kinds_by, queries_from, work_of}
use Rattle.splitter.proofs.ApartLemmas.{any_left, any_right, is_apart, range_all}
use Rattle.splitter.proofs.ChainLemmas.{chain_has, chain_ordered, chain_outs, reads_below}
use Rattle.splitter.proofs.GrowLemmas.{IsLonger, fits_longer, get_longer, grow_fits, grow_has, grow_same, longer, longer_twice}
use Rattle.splitter.proofs.NumberedLemmas.{from_each, from_long, work_apart}
use Rattle.splitter.proofs.RangeLemmas.{range_next}
use Rattle.splitter.proofs.SplitLemmas.{GrowBy, some_lines, split_typed}
use Rattle.event_types.proofs.NumberLemmas.{self_equal}

-- the stream of the lines has a line
abbrev HasLine : List Line → ℕ → Type 0
HasLine lines stream = IsTrue (list_any (λ line. line.out == stream) lines)

-- the lines and the order of the queries up to a place are there, and the rest comes behind them
pub record Leads (declared : ℕ) (expressions : List Expr) (places : List ℕ) (kinds : List (List Kind)) (place next : ℕ) (lines : List Line) (layout : Layout) : Type 0 where
  pub lines_are : chain_lines (work_of declared expressions) ≡ lines ++ chain_lines (queries_from (declared + place) next (map ex_of (drop place expressions)))
  pub order_is : chain_order (work_of declared expressions) ≡ layout.order ++ chain_order (queries_from (declared + place) next (map ex_of (drop place expressions)))
  pub end_is : chain_end (work_of declared expressions) declared ≡ chain_end (queries_from (declared + place) next (map ex_of (drop place expressions))) next
  pub typed : PublishInTurn (kinds_by kinds) (range_with_len 0 (declared + place)) (queries_from (declared + place) next (map ex_of (drop place expressions)))
  pub wide : All (λ query. HasWidths (kinds_by kinds) query.expr) (queries_from (declared + place) next (map ex_of (drop place expressions)))
  pub up : declared + length expressions ≤ next
  pub size : length layout.kinds ≡ next
  pub long : IsLonger kinds layout.kinds
  pub fits : All (LineFits layout.kinds) lines
  pub has_lines : All (HasLine lines) layout.order
  pub outs_are : layout.outs ≡ map (λ at. declared + at) places

end_up : (number hidden : ℕ) (xs : List Ex) → hidden ≤ chain_end (queries_from number hidden xs) hidden
end_up number hidden [] = omega arith
end_up number hidden (e ∷ xs) = omega (arith, parts_up e hidden, end_up (number + 1) (parts_of e hidden).next xs)

-- without queries their end is the given number
end_given : (order : List Query) (next other : ℕ) → (length order ≡ 0 → next ≡ other) → chain_end order next ≡ chain_end order other
end_given [] next other same = same refl
end_given (query ∷ order) next other same = refl

module _ (declared : ℕ) (expressions : List Expr) (places : List ℕ) (kinds : List (List Kind)) (given : length kinds ≡ declared + length expressions) where
  abbrev Typed : List Query → ℕ → Type 0
  Typed order number = PublishInTurn (kinds_by kinds) (range_with_len 0 number) order

  abbrev Wide : List Query → Type 0
  Wide order = All (λ query. HasWidths (kinds_by kinds) query.expr) order

  -- nothing is there at first
  leads_first : Typed (work_of declared expressions) declared → Wide (work_of declared expressions) → (outs : List ℕ) → outs ≡ map (λ at. declared + at) places
      → Leads declared expressions places kinds 0 (length kinds) [] (record { order = []; outs = outs; kinds = kinds })
  leads_first typed wide outs outs_are =
      let start : declared ≡ declared + 0 = omega arith in
      let same : work_of declared expressions ≡ queries_from (declared + 0) (length kinds) (map ex_of expressions) = λ i. queries_from (start i) (sym given i) (map ex_of expressions) in
      let many = from_long declared (declared + length expressions) (map ex_of expressions) in
      record {
        lines_are = ap chain_lines same;
        order_is = ap chain_order same;
        end_is = end_given (work_of declared expressions) declared (length kinds) (λ none. omega (arith, none, many, length-map expressions ex_of, given)) ∙ ap (λ order. chain_end order (length kinds)) same;
        typed = subst (λ (s : List Query × ℕ). Typed s.0 s.1) (λ i. (same i, start i)) typed;
        wide = subst Wide same wide;
        up = omega (arith, given);
        size = refl;
        long = record { more = []; is = sym (append-nil kinds) };
        fits = All-nil (LineFits kinds);
        has_lines = All-nil (HasLine []);
        outs_are = outs_are;
      }

  -- at first no query was split
  pub leads_start : Typed (work_of declared expressions) declared → Wide (work_of declared expressions) → (next : ℕ) (lines : List Line) (order outs : List ℕ) → next ≡ length kinds → lines ≡ [] → order ≡ [] → outs ≡ map (λ at. declared + at) places
      → Leads declared expressions places kinds 0 next lines (record { order = order; outs = outs; kinds = kinds })
  leads_start typed wide next lines order outs next_is no_lines no_order outs_are =
      subst (λ (s : ℕ × List Line × List ℕ). Leads declared expressions places kinds 0 s.0 s.1 (record { order = s.2; outs = outs; kinds = kinds })) (λ i. (sym next_is i, sym no_lines i, sym no_order i))
      (leads_first typed wide outs outs_are)

  module _ (place next : ℕ) (lines : List Line) (layout : Layout) (leads : Leads declared expressions places kinds place next lines layout) where
    module _ (inside : place < length expressions) (expr : Expr) (there : slice_get expressions place ≡ Some expr) where
      abbrev e : Ex
      e = ex_of expr

      abbrev out : ℕ
      out = declared + place

      abbrev query : Query
      query = record { name = []; stream = out; hidden = next; expr = e; birth = None }

      abbrev last : ℕ
      last = (parts_of e next).next

      -- the queries behind it, whose hidden streams have the numbers from one on
      abbrev later_from : ℕ → List Query
      later_from hidden = queries_from (declared + (place + 1)) hidden (map ex_of (drop (place + 1) expressions))

      abbrev later : List Query
      later = later_from last

      rest_is : queries_from out next (map ex_of (drop place expressions)) ≡ query ∷ later
      rest_is =
          let item : expr ≡ get_or expressions place expr = sym (get_or_from_slice_get expressions place expr expr there) in
          let behind : drop place expressions ≡ expr ∷ drop (place + 1) expressions = drop-cons expressions place expr inside ∙ (λ i. sym item i ∷ drop (sym (add-one place) i) expressions) in
          let number : out + 1 ≡ declared + (place + 1) = omega arith in
          ap (λ xs. queries_from out next (map ex_of xs)) behind ∙ ap (λ n. query ∷ queries_from n last (map ex_of (drop (place + 1) expressions))) number

      typed_here : Typed (query ∷ later) out
      typed_here = subst (λ (order : List Query). Typed order out) rest_is leads.typed

      wide_here : Wide (query ∷ later)
      wide_here = subst Wide rest_is leads.wide

      low : out < next
      low = omega (arith, inside, leads.up)

      -- what the next query asks
      pub query_apart : IsApart e out next
      query_apart = is_apart e out next low (reads_below (kinds_by kinds) (range_with_len 0 out) query later typed_here)

      -- the numbers of its hidden streams are below 2^64
      pub query_room : chain_end (work_of declared expressions) declared < 2 ^ 64 → last < 2 ^ 64
      query_room room =
          let same = leads.end_is ∙ ap (λ order. chain_end order next) rest_is in omega (arith, room, same, end_up (declared + (place + 1)) last (map ex_of (drop (place + 1) expressions)))

      agrees : (stream : ℕ) → stream < out → slice_get layout.kinds stream ≡ Some (kinds_by kinds stream)
      agrees stream less = get_longer kinds layout.kinds stream (kinds_by kinds stream) leads.long (slice_get-get_or kinds stream [] (omega (arith, given)))

      grow_by : GrowBy out (kinds_by kinds) layout.kinds e out next
      grow_by =
          split_typed out (kinds_by kinds) e out next layout.kinds (kinds_by kinds out) agrees leads.size
          (get_longer kinds layout.kinds out (kinds_by kinds out) leads.long (slice_get-get_or kinds out [] (omega (arith, given, inside))))
          typed_here.2 (All-head (λ (q : Query). HasWidths (kinds_by kinds) q.expr) query later wide_here)

      -- its lines grow the layout in turn
      pub query_typed : (all : List (List Kind)) × GrowInTurn layout.kinds (split_lines e out next) all
      query_typed = (grow_by.all, grow_by.grow)

      own_line : (opens : List Open) → 0 < length opens → HasLine (map (published_on out) opens) out
      own_line [] some = absurd (omega (arith, some))
      own_line (line ∷ opens) some = ap (λ b. b || list_any (λ (l : Line). l.out == out) (map (published_on out) opens)) (self_equal out)

      -- and what is there with it
      module _ (new_lines : List Line) (new : Layout) (new_next : ℕ) (lines_is : new_lines ≡ lines ++ split_lines e out next) (order_is : new.order ≡ layout.order ++ split_order e out next) (outs_is : new.outs ≡ layout.outs)
          (grow : GrowInTurn layout.kinds (split_lines e out next) new.kinds) (next_is : new_next ≡ last) where
        new_size : length new.kinds ≡ last
        new_size = ap length (grow_same layout.kinds (split_lines e out next) new.kinds grow_by.all grow grow_by.grow) ∙ grow_by.size

        new_long : IsLonger layout.kinds new.kinds
        new_long = longer layout.kinds (split_lines e out next) new.kinds grow

        all_fit : All (LineFits new.kinds) (lines ++ split_lines e out next)
        all_fit =
            All-append (LineFits new.kinds) lines (split_lines e out next)
            (All-weaker (LineFits layout.kinds) (LineFits new.kinds) (λ line fits. fits_longer layout.kinds new.kinds line new_long fits) lines leads.fits) (grow_fits layout.kinds (split_lines e out next) new.kinds grow)

        hidden_lines : All (HasLine (split_lines e out next)) (hidden_streams e next)
        hidden_lines =
            range_all (HasLine (split_lines e out next)) next (last - next)
            (λ x above below. grow_has layout.kinds (split_lines e out next) new.kinds grow x (omega (arith, leads.size)) (omega (arith, new_size, parts_up e next)))

        own_lines : All (HasLine (split_lines e out next)) (split_order e out next)
        own_lines =
            All-append (HasLine (split_lines e out next)) (hidden_streams e next) (out ∷ []) hidden_lines
            (All-cons (HasLine (split_lines e out next)) out []
            (any_right (λ (l : Line). l.out == out) (parts_of e next).hidden (map (published_on out) (parts_of e next).open_lines) (own_line (parts_of e next).open_lines (some_lines e next)))
            (All-nil (HasLine (split_lines e out next))))

        all_lines : All (HasLine (lines ++ split_lines e out next)) (layout.order ++ split_order e out next)
        all_lines =
            All-append (HasLine (lines ++ split_lines e out next)) layout.order (split_order e out next)
            (All-weaker (HasLine lines) (HasLine (lines ++ split_lines e out next)) (λ s has. any_left (λ (l : Line). l.out == s) lines (split_lines e out next) has) layout.order leads.has_lines)
            (All-weaker (HasLine (split_lines e out next)) (HasLine (lines ++ split_lines e out next)) (λ s has. any_right (λ (l : Line). l.out == s) lines (split_lines e out next) has) (split_order e out next) own_lines)

        -- one more query was split
        pub leads_next : Leads declared expressions places kinds (place + 1) new_next new_lines new
        leads_next = record {
          lines_are =
              leads.lines_are ∙ ap (λ order. lines ++ chain_lines order) rest_is ∙ sym (append_assoc lines (split_lines e out next) (chain_lines later))
              ∙ (λ i. sym lines_is i ++ chain_lines (later_from (sym next_is i)));
          order_is =
              leads.order_is ∙ ap (λ order. layout.order ++ chain_order order) rest_is ∙ sym (append_assoc layout.order (split_order e out next) (chain_order later))
              ∙ (λ i. sym order_is i ++ chain_order (later_from (sym next_is i)));
          end_is = leads.end_is ∙ ap (λ order. chain_end order next) rest_is ∙ (λ i. chain_end (later_from (sym next_is i)) (sym next_is i));
          typed =
              let number : out + 1 ≡ declared + (place + 1) = omega arith in
              let numbers : range_with_len 0 out ++ out ∷ [] ≡ range_with_len 0 (declared + (place + 1)) = range_next out ∙ ap (range_with_len 0) number in
              subst (λ (s : List ℕ × List Query). PublishInTurn (kinds_by kinds) s.0 s.1) (λ i. (numbers i, later_from (sym next_is i))) typed_here.3;
          wide = subst (λ (n : ℕ). Wide (later_from n)) (sym next_is) (All-tail (λ (q : Query). HasWidths (kinds_by kinds) q.expr) query later wide_here);
          up = omega (arith, leads.up, parts_up e next, next_is);
          size = new_size ∙ sym next_is;
          long = longer_twice kinds layout.kinds new.kinds leads.long new_long;
          fits = All-same (LineFits new.kinds) new_lines (lines ++ split_lines e out next) lines_is all_fit;
          has_lines =
              All-same (HasLine new_lines) new.order (layout.order ++ split_order e out next) order_is
              (subst (λ (ls : List Line). All (HasLine ls) (layout.order ++ split_order e out next)) (sym lines_is) all_lines);
          outs_are = outs_is ∙ leads.outs_are;
        }

    -- all is there at the end
    module _ (past : length expressions ≤ place) (typed : Typed (work_of declared expressions) declared) (placed : All (λ at. at < length expressions) places) where
      none_left : queries_from (declared + place) next (map ex_of (drop place expressions)) ≡ []
      none_left = ap (λ xs. queries_from (declared + place) next (map ex_of xs)) (drop_all place expressions past)

      lines_made : lines ≡ chain_lines (work_of declared expressions)
      lines_made = sym (leads.lines_are ∙ ap (λ order. lines ++ chain_lines order) none_left ∙ append-nil lines)

      order_made : layout.order ≡ chain_order (work_of declared expressions)
      order_made = sym (leads.order_is ∙ ap (λ order. layout.order ++ chain_order order) none_left ∙ append-nil layout.order)

      all_in : (stream : ℕ) → declared ≤ stream → stream < declared + length expressions → IsTrue (is_in layout.order stream)
      all_in stream above below =
          let there = λ (number : ℕ). IsTrue (is_in (chain_order (work_of declared expressions)) number) in
          subst (λ (order : List ℕ). IsTrue (is_in order stream)) (sym order_made)
          (from_each there declared (declared + length expressions) (map ex_of expressions) (chain_has (work_of declared expressions)) stream above (omega (arith, below, length-map expressions ex_of)))

      layout_fits : LayoutFits lines layout
      layout_fits = record {
        typed = leads.fits;
        in_order =
            subst (λ (s : List Line × List ℕ). IsInOrder s.0 s.1) (λ i. (sym lines_made i, sym order_made i))
            (chain_ordered (kinds_by kinds) (range_with_len 0 declared) (work_of declared expressions) typed (work_apart declared expressions));
        all_outs =
            subst (λ (s : List Line × List ℕ). All (λ line. IsTrue (is_in s.1 line.out)) s.0) (λ i. (sym lines_made i, sym order_made i))
            (chain_outs (work_of declared expressions));
        only_outs = leads.has_lines;
        printed =
            All-same (λ stream. IsTrue (is_in layout.order stream)) layout.outs (map (λ at. declared + at) places) leads.outs_are
            (All-map (λ stream. IsTrue (is_in layout.order stream)) (λ at. declared + at) places
            (All-weaker (λ at. at < length expressions) (λ at. IsTrue (is_in layout.order (declared + at))) (λ at less. all_in (declared + at) (omega arith) (omega arith)) places placed));
      }

      -- all queries were split
      pub all_made : AreChains declared expressions places kinds (record { lines = lines; layout = layout })
      all_made = record {
        lines = lines_made;
        order = order_made;
        outs = leads.outs_are;
        hidden = leads.long.more;
        kinds_are = leads.long.is;
        all_kinds = leads.size ∙ sym (leads.end_is ∙ ap (λ order. chain_end order next) none_left);
        fits = layout_fits;
      }
