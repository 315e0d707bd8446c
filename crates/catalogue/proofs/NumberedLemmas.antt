-- The numbers of the streams that queries publish and hide.
use Rattle.std.proofs.Common.{◌≡◌, ◌∙◌, sym, ap, refl, ℕ, ◌+◌, ◌-◌, ◌<◌, ◌≤◌, ◌^◌, length, get_or, drop, add-one, List, [], ◌∷◌, ◌++◌, map, append-nil, append_assoc, arith}
use Rattle.std.specs.Prelude.{Some, slice_get, None}
use Rattle.std.specs.List.{range_with_len}
use Rattle.std.proofs.Math.Seq.{drop-cons}
use Rattle.std.proofs.lemmas.List.{drop_all, length-append, length-map, map-append}
use Rattle.std.proofs.lemmas.List.FromFn.{length-range_with_len}
use Rattle.std.proofs.lemmas.Option.{get_or_from_slice_get}
use Rattle.expressions.specs.declared.expression.Expr.{Expr}
use Rattle.expressions.specs.Views.{ex_of}
use Rattle.semantics.specs.Expressions.{Ex, Read, Filter, Select, Union, Next, Fold}
use Rattle.semantics.specs.Programs.{Query}
use Rattle.splitter.specs.Chains.{chain_end}
use Rattle.splitter.specs.Splitting as split
use Rattle.splitter.specs.Work.{queries_from, work_of}
use Rattle.splitter.proofs.NumberedLemmas.{from_long}
use Rattle.splitter.proofs.NumberingLemmas.{parts_up, source_up}
use Rattle.splitter.proofs.RangeLemmas.{range_more}
use Rattle.stream_schema.specs.Streams.{Entry, hidden_entries, hidden_entry, with_hidden}
use Rattle.catalogue.specs.declared.numbering.Published.{Published}
use Rattle.catalogue.specs.Numbering.{HasNumbers}
use Rattle.catalogue.specs.Parts.{published_from}

-- where a number is left at the end, one is left for each part
pub numbers_for : (e : Ex) (next : ℕ) → (split.parts_of e next).next < 2 ^ 64 → HasNumbers e next
numbers_for (Read stream) next room = room
numbers_for (Filter p e) next room = numbers_for e next room
numbers_for (Select m e) next room = numbers_for e next room
numbers_for (Union e f) next room = let left = split.parts_of e next in (numbers_for e next (omega (arith, parts_up f left.next)), numbers_for f left.next room)
numbers_for (Next p e f) next room =
    let left = split.parts_of e next in
    let right = split.parts_of f left.next in (numbers_for e next (omega (arith, parts_up f left.next, source_up f right)), numbers_for f left.next (omega (arith, source_up f right)), room)
numbers_for (Fold p q m e f) next room =
    let left = split.parts_of e next in
    let right = split.parts_of f left.next in (numbers_for e next (omega (arith, parts_up f left.next, source_up f right)), numbers_for f left.next (omega (arith, source_up f right)), room)

-- one hidden stream more
pub hidden_more : (streams now : List Entry) (first number : ℕ) → length streams ≡ first → first ≤ number → now ≡ streams ++ hidden_entries first (number - first) → with_hidden now ≡ streams ++ hidden_entries first (number + 1 - first)
hidden_more streams now first number many up is =
    let long : length now ≡ number =
    ap length is ∙ length-append streams (hidden_entries first (number - first)) ∙ (let each = length-map (range_with_len first (number - first)) hidden_entry in let all = length-range_with_len first (number - first) in omega (arith, each, all, many, up)) in
    let longer : range_with_len first (number + 1 - first) ≡ range_with_len first (number - first) ++ number ∷ [] =
    sym (range_more [] (range_with_len first (number - first)) (range_with_len first (number - first) ++ number ∷ []) first number up refl refl) in
    (λ i. is i ++ hidden_entry (long i) ∷ []) ∙ append_assoc streams (hidden_entries first (number - first)) (hidden_entry number ∷ [])
    ∙ ap (λ es. streams ++ es) (sym (ap (map hidden_entry) longer ∙ map-append hidden_entry (range_with_len first (number - first)) (number ∷ [])))

-- up to the last one
pub hidden_all : (streams now : List Entry) (first number last : ℕ) → number ≤ last → last ≤ number → now ≡ streams ++ hidden_entries first (number - first) → now ≡ streams ++ hidden_entries first (last - first)
hidden_all streams now first number last within past is = let same : number - first ≡ last - first = omega arith in is ∙ ap (λ n. streams ++ hidden_entries first n) same

-- what the queries up to a place publish is there, and the rest comes behind it
pub record AreFirst (declared : ℕ) (expressions : List Expr) (place hidden : ℕ) (published : List Published) : Type 0 where
  pub published_are : published_from declared (declared + length expressions) (map ex_of expressions) ≡ published ++ published_from (declared + place) hidden (map ex_of (drop place expressions))
  pub end_is : chain_end (work_of declared expressions) declared ≡ chain_end (queries_from (declared + place) hidden (map ex_of (drop place expressions))) hidden

end_up : (number hidden : ℕ) (xs : List Ex) → hidden ≤ chain_end (queries_from number hidden xs) hidden
end_up number hidden [] = omega arith
end_up number hidden (e ∷ xs) = omega (arith, parts_up e hidden, end_up (number + 1) (split.parts_of e hidden).next xs)

-- without queries their end is the given number
end_given : (order : List Query) (next other : ℕ) → (length order ≡ 0 → next ≡ other) → chain_end order next ≡ chain_end order other
end_given [] next other same = same refl
end_given (query ∷ order) next other same = refl

module _ (declared : ℕ) (expressions : List Expr) where
  -- none is there at first
  pub first_none : AreFirst declared expressions 0 (declared + length expressions) []
  first_none =
      let start : declared ≡ declared + 0 = omega arith in
      let hidden = declared + length expressions in
      let many = from_long declared hidden (map ex_of expressions) in
      record {
        published_are = ap (λ n. published_from n hidden (map ex_of expressions)) start;
        end_is = end_given (work_of declared expressions) declared hidden (λ none. omega (arith, none, many, length-map expressions ex_of)) ∙ ap (λ n. chain_end (queries_from n hidden (map ex_of expressions)) hidden) start;
      }

  module _ (place hidden : ℕ) (published : List Published) (first : AreFirst declared expressions place hidden published) where
    module _ (inside : place < length expressions) (expr : Expr) (there : slice_get expressions place ≡ Some expr) where
      abbrev last : ℕ
      last = (split.parts_of (ex_of expr) hidden).next

      abbrev later : List Ex
      later = map ex_of (drop (place + 1) expressions)

      behind : drop place expressions ≡ expr ∷ drop (place + 1) expressions
      behind =
          let item : expr ≡ get_or expressions place expr = sym (get_or_from_slice_get expressions place expr expr there) in
          drop-cons expressions place expr inside ∙ (λ i. sym item i ∷ drop (sym (add-one place) i) expressions)

      number : declared + place + 1 ≡ declared + (place + 1)
      number = omega arith

      end_then : chain_end (work_of declared expressions) declared ≡ chain_end (queries_from (declared + (place + 1)) last later) last
      end_then = first.end_is ∙ ap (λ xs. chain_end (queries_from (declared + place) hidden (map ex_of xs)) hidden) behind ∙ ap (λ n. chain_end (queries_from n last later) last) number

      -- numbers are left for the next query
      pub next_numbers : chain_end (work_of declared expressions) declared < 2 ^ 64 → HasNumbers (ex_of expr) hidden
      next_numbers room = numbers_for (ex_of expr) hidden (omega (arith, room, end_then, end_up (declared + (place + 1)) last later))

      -- and what it publishes comes to the others
      pub first_more : (more : List Published) (next : ℕ) → more ≡ published ++ record { stream = declared + place; hidden = hidden; birth = None } ∷ [] → next ≡ last → AreFirst declared expressions (place + 1) next more
      first_more more next added next_is = record {
        published_are =
            first.published_are ∙ ap (λ xs. published ++ published_from (declared + place) hidden (map ex_of xs)) behind
            ∙ sym (append_assoc published (record { stream = declared + place; hidden = hidden; birth = None } ∷ []) (published_from (declared + place + 1) last later))
            ∙ (λ i. sym added i ++ published_from (number i) (sym next_is i) later);
        end_is = end_then ∙ ap (λ n. chain_end (queries_from (declared + (place + 1)) n later) n) (sym next_is);
      }

    -- all are there in the end
    pub first_all : length expressions ≤ place → published ≡ published_from declared (declared + length expressions) (map ex_of expressions)
    first_all past =
        sym (first.published_are ∙ ap (λ xs. published ++ published_from (declared + place) hidden (map ex_of xs)) (drop_all place expressions past) ∙ append-nil published)
