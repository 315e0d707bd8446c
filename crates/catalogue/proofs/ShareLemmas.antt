-- How many lines and streams queries have together, and which are those of one query.
use Rattle.std.proofs.Common.{◌≡◌, ◌∙◌, ℕ, ◌+◌, ◌≤◌, ◌<◌, List, [], ◌∷◌, ◌++◌, length, map, take, drop, get_or, refl, sym, ap, arith}
use Rattle.std.specs.Prelude.{None, Some, slice_get, sum_by}
use Rattle.std.specs.List.{All, flat_map, range_with_len, remove}
use Rattle.std.proofs.lemmas.List.Concat.{length-flat_map}
use Rattle.std.proofs.lemmas.List.Elements.{All-cons, All-nil}
use Rattle.std.proofs.lemmas.List.{get_or-map, length-map, map-append, take-map, take_all, take_more}
use Rattle.std.proofs.lemmas.List.Folds.{length-flat_map-take}
use Rattle.std.proofs.lemmas.List.FromFn.{length-map-range_with_len}
use Rattle.std.proofs.lemmas.List.Sums.{sum_by-cons, sum_by_more}
use Rattle.automaton.specs.declared.line.Line.{Line}
use Rattle.expressions.specs.declared.expression.Expr.{Expr}
use Rattle.semantics.specs.Expressions.{Ex, Read}
use Rattle.semantics.specs.Programs.{Query}
use Rattle.splitter.specs.Chains.{chain_order}
use Rattle.splitter.specs.Laws.{split_order}
use Rattle.splitter.specs.Splitting.{parts_of, split_lines}
use Rattle.splitter.proofs.NumberingLemmas.{parts_up}
use Rattle.stream_schema.specs.Streams.{Entry}
use Rattle.catalogue.specs.declared.numbering.Published.{Published}
use Rattle.catalogue.specs.declared.sharing.Shares.{Shares}
use Rattle.catalogue.specs.Catalogued.{Catalogued, queries_of, query_in, query_of, work_in}
use Rattle.catalogue.specs.Leaving.{lines_before, lines_many, lines_up_to, place_of}
use Rattle.catalogue.specs.Part.{IsPart}
use Rattle.catalogue.specs.Parts.{published_from}
use Rattle.catalogue.specs.Sharing.{share_of, shares_of, streams_many, with_share, without_share}
use Rattle.catalogue.specs.Standing.{StandsInOrder}
use Rattle.catalogue.proofs.LeftLemmas.{ends_within}
use Rattle.catalogue.proofs.LeftProgramLemmas.{at_work, none_such}
use Rattle.work_order.proofs.NumbersLemmas.{map-remove}
use Rattle.catalogue.proofs.RemovingLemmas.{flat_map-remove}
use Rattle.catalogue.proofs.StandingLemmas.{queries_at, queries_many}

module _ (published : List Published) (xs : List Expr) (place : ℕ) (same : length published ≡ length xs) where
  abbrev work : List Query
  work = queries_of [] published xs

  module _ (p : Published) (x : Expr) (within : place < length published) (there : slice_get published place ≡ Some p) (express : slice_get xs place ≡ Some x) where
    -- what is counted of one query more
    counted_more : (f : Query → ℕ) → map f (take place work) ++ f (query_of [] p x) ∷ [] ≡ map f (take (place + 1) work)
    counted_more f =
        let none : Query = record { name = []; stream = 0; hidden = 0; expr = Read 0; birth = None } in
        let inside : place < length work = omega (arith, within, same, queries_many [] published xs same) in
        let here : get_or work place none ≡ query_of [] p x = queries_at [] published xs place none p x there express in
        sym (map-append f (take place work) (query_of [] p x ∷ [])) ∙ ap (map f) (sym (take_more work place none inside ∙ ap (λ (q : Query). take place work ++ q ∷ []) here))

    -- the share of one query more
    pub shares_more : with_share (shares_of (take place work)) (share_of (query_of [] p x)) ≡ shares_of (take (place + 1) work)
    shares_more = λ i. record { lines = counted_more lines_many i; streams = counted_more streams_many i }

  -- the shares of all queries
  pub shares_all : length published ≤ place → shares_of (take place work) ≡ shares_of work
  shares_all past = ap shares_of (take_all place work (omega (arith, past, same, queries_many [] published xs same)))

-- the shares without that of one query
pub shares_less : (queries : List Query) (k : ℕ) → k < length queries → without_share (shares_of queries) k ≡ shares_of (remove queries k)
shares_less queries k within = λ i. record { lines = sym (map-remove lines_many queries k within) i; streams = sym (map-remove streams_many queries k within) i }

-- there are as many shares of lines as of streams
pub shares_even : (queries : List Query) (shares : Shares) → shares ≡ shares_of queries → length shares.streams ≡ length shares.lines
shares_even queries shares shared =
    ap (λ (s : Shares). length s.streams) shared ∙ length-map queries streams_many ∙ sym (ap (λ (s : Shares). length s.lines) shared ∙ length-map queries lines_many)

-- the hidden streams of the first queries stand behind all that are not hidden
pub published_ahead : (number hidden : ℕ) (es : List Ex) → number + length es ≤ hidden → All (λ query. query.stream < query.hidden) (published_from number hidden es)
published_ahead number hidden [] up = All-nil (λ (p : Published). p.stream < p.hidden)
published_ahead number hidden (e ∷ es) up =
    All-cons (λ (p : Published). p.stream < p.hidden) (record { stream = number; hidden = hidden; birth = None }) (published_from (number + 1) (parts_of e hidden).next es) (omega (arith, up))
    (published_ahead (number + 1) (parts_of e hidden).next es (omega (arith, up, parts_up e hidden)))

-- names don't matter
counted_unnamed : (f : Query → ℕ) (streams others : List Entry) → ((p : Published) (x : Expr) → f (query_of streams p x) ≡ f (query_of others p x)) → (published : List Published) (xs : List Expr)
    → map f (queries_of streams published xs) ≡ map f (queries_of others published xs)
counted_unnamed f streams others same [] xs = refl
counted_unnamed f streams others same (p ∷ published) [] = refl
counted_unnamed f streams others same (p ∷ published) (x ∷ xs) = λ i. same p x i ∷ counted_unnamed f streams others same published xs i

pub shares_unnamed : (streams others : List Entry) (published : List Published) (xs : List Expr) → shares_of (queries_of streams published xs) ≡ shares_of (queries_of others published xs)
shares_unnamed streams others published xs = λ i. record {
  lines = counted_unnamed lines_many streams others (λ p x. refl) published xs i;
  streams = counted_unnamed streams_many streams others (λ p x. refl) published xs i;
}

-- numbers that are given for items are summed
sum_mapped : {X : Type 0} (f : X → ℕ) (xs : List X) → sum_by (λ n. n) (map f xs) ≡ sum_by f xs
sum_mapped f [] = refl
sum_mapped f (x ∷ xs) = sum_by-cons (λ (n : ℕ). n) (f x) (map f xs) ∙ ap (λ n. f x + n) (sum_mapped f xs) ∙ sym (sum_by-cons f x xs)

module _ {X Y : Type 0} (f : X → List Y) (xs : List X) where
  abbrev counts : List ℕ
  counts = map (λ x. length (f x)) xs

  -- what the first so many give is counted
  first_count : (k : ℕ) → sum_by (λ n. n) (take k counts) ≡ length (flat_map f (take k xs))
  first_count k = ap (sum_by (λ n. n)) (take-map (λ x. length (f x)) k xs) ∙ sum_mapped (λ x. length (f x)) (take k xs) ∙ sym (length-flat_map f (take k xs))

  -- with what the next one gives
  next_count : (k : ℕ) (d : X) → k < length xs → sum_by (λ n. n) (take (k + 1) counts) ≡ length (flat_map f (take k xs)) + length (f (get_or xs k d))
  next_count k d within =
      let inside : k < length counts = omega (arith, within, length-map xs (λ x. length (f x))) in
      sum_by_more (λ (n : ℕ). n) counts k 0 inside ∙ (λ i. first_count k i + get_or-map (λ x. length (f x)) xs k d 0 within i)

module _ (c : Catalogued) (stands : StandsInOrder c) (number : ℕ) (small : number < length c.order) (place : ℕ) (is : place ≡ place_of c number) (shares : Shares) (shared : shares ≡ shares_of (work_in c)) where
  abbrev at : ℕ
  at = place_of c number

  abbrev none : Query
  none = none_such c stands

  abbrev lines_of_one : Query → List Line
  lines_of_one query = split_lines query.expr query.stream query.hidden

  abbrev streams_of_one : Query → List ℕ
  streams_of_one query = split_order query.expr query.stream query.hidden

  within : at < length (work_in c)
  within = at_work c stands number small

  -- the query has its share
  pub lines_within : place < length shares.lines
  lines_within = omega (arith, is, within, ap (λ (s : Shares). length s.lines) shared, length-map (work_in c) lines_many)

  pub streams_within : place < length shares.streams
  streams_within = omega (arith, is, within, ap (λ (s : Shares). length s.streams) shared, length-map (work_in c) streams_many)

  module _ (first end worked_first worked_end : ℕ) (first_is : first ≡ sum_by (λ n. n) (take place shares.lines)) (end_is : end ≡ sum_by (λ n. n) (take (place + 1) shares.lines)) (worked_first_is : worked_first ≡ sum_by (λ n. n) (take place shares.streams))
      (worked_end_is : worked_end ≡ sum_by (λ n. n) (take (place + 1) shares.streams)) where
    lines_first : first ≡ lines_before c number
    lines_first = first_is ∙ (λ i. sum_by (λ n. n) (take (is i) (shared i).lines)) ∙ first_count lines_of_one (work_in c) at

    lines_end : end ≡ lines_up_to c number
    lines_end = end_is ∙ (λ i. sum_by (λ n. n) (take (is i + 1) (shared i).lines)) ∙ next_count lines_of_one (work_in c) at none within

    streams_first : worked_first ≡ length (chain_order (take at (work_in c)))
    streams_first = worked_first_is ∙ (λ i. sum_by (λ n. n) (take (is i) (shared i).streams)) ∙ first_count streams_of_one (work_in c) at

    streams_end : worked_end ≡ length (chain_order (take at (work_in c))) + length (streams_of_one (query_in c number))
    streams_end = worked_end_is ∙ (λ i. sum_by (λ n. n) (take (is i + 1) (shared i).streams)) ∙ next_count streams_of_one (work_in c) at none within

    -- these are its lines and its streams
    pub part_is : IsPart c number (record { first = first; end = end; lost = record { first = worked_first; end = worked_end; out = number } })
    part_is =
        let all_within = length-flat_map-take streams_of_one (work_in c) at none within in
        let outs : length c.layout.outs ≡ length c.order =
        ap length stands.laid.outs ∙ length-map (map (query_in c) (range_with_len 0 (length c.order))) (λ (q : Query). q.stream) ∙ length-map-range_with_len (query_in c) 0 (length c.order) in
        let without : take worked_first c.layout.order ++ drop worked_end c.layout.order ≡ chain_order (remove (work_in c) at) =
        (λ i. take (streams_first i) (stands.laid.order i) ++ drop (streams_end i) (stands.laid.order i)) ∙ sym (flat_map-remove streams_of_one (work_in c) at none within) in
        record {
          first = lines_first;
          end = lines_end;
          within = ends_within c stands number small;
          there = record {
            up = omega (arith, streams_first, streams_end);
            within = omega (arith, streams_end, all_within, ap length stands.laid.order);
            printed = omega (arith, outs, small);
          };
          lost = λ i. record { order = without i; outs = remove c.layout.outs number; kinds = c.layout.kinds };
        }
