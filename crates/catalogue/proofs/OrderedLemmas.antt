-- The numbers of queries, with one query more.
use Rattle.std.proofs.Common.{◌≡◌, ◌≢◌, ◌∙◌, ℕ, zero, suc, ◌+◌, ◌-◌, ◌<◌, ◌≤◌, List, [], ◌∷◌, ◌++◌, length, get_or, map, refl, sym, ap, inl, inr, arith}
use Rattle.std.specs.Prelude.{◌==◌, AllPairs}
use Rattle.std.specs.List.{position_or_len, range_with_len}
use Rattle.std.proofs.Math.Seq.{get_or-append_seam}
use Rattle.std.proofs.lemmas.Bool.{cases_lt}
use Rattle.std.proofs.lemmas.List.{get_or_append_left, get_or-append_right, length-append, length_push}
use Rattle.std.proofs.lemmas.List.Elements.{All-append, All-weaker, Contains-append_cases, Contains-append_left, Contains-append_right, Contains-get_or}
use Rattle.std.proofs.lemmas.List.FromFn.{get_or-range_with_len, length-range_with_len}
use Rattle.std.proofs.lemmas.List.Quantifiers.{all_pairs_push}
use Rattle.std.proofs.lemmas.List.Sums.{position_or_len_is}
use Rattle.event_types.proofs.NumberLemmas.{is_other, self_equal}
use Rattle.splitter.proofs.ApartLemmas.{range_all}
use Rattle.automaton.specs.declared.line.Line.{Line}
use Rattle.work_order.specs.Numbers.{AreNumbers}
use Rattle.catalogue.specs.Standing.{AreEnds}
use Rattle.catalogue.proofs.ChangeLemmas.{one-is}

-- the same images of numbers in turn
pub map_range : {X : Type 0} (f g : ℕ → X) (a many : ℕ) → ((k : ℕ) → a ≤ k → k < a + many → f k ≡ g k) → map f (range_with_len a many) ≡ map g (range_with_len a many)
map_range f g a zero each = refl
map_range f g a (suc many) each = λ i. each a (omega arith) (omega arith) i ∷ map_range f g (a + 1) many (λ k up below. each k (omega arith) (omega arith)) i

-- a number stands first at its own place
pub position_at : (order : List ℕ) → AllPairs (λ x y. x ≢ y) order → (place : ℕ) → place < length order → position_or_len (λ other. get_or order place 0 == other) order ≡ place
position_at order distinct place within =
    position_or_len_is (λ other. get_or order place 0 == other) order place 0 (omega arith)
    (λ k before. is_other (get_or order place 0) (get_or order k 0) (λ same. distinct k place 0 before within (sym same))) (λ inside. self_equal (get_or order place 0))

-- what stands behind others
pub at_end : {X : Type 0} (xs : List X) (x d : X) (many : ℕ) → many ≡ length xs → get_or (xs ++ x ∷ []) many d ≡ x
at_end xs x d many is = ap (λ n. get_or (xs ++ x ∷ []) n d) is ∙ get_or-append_seam xs x [] d

module _ (order : List ℕ) (are : AreNumbers order) where
  abbrev many : ℕ
  many = length order

  abbrev more : List ℕ
  more = order ++ length order ∷ []

  number_small : (k d : ℕ) → k < length order → get_or order k d < length order
  number_small k d within = (are.all (get_or order k d)).0 (Contains-get_or order k d within)

  -- one number more
  pub numbers_more : AreNumbers more
  numbers_more = record {
    distinct = all_pairs_push (λ x y. x ≢ y) order many are.distinct (λ k d within same. (let small = number_small k d within in absurd (omega (arith, small, same))));
    all = λ number. (
      (λ has. elim (Contains-append_cases order (many ∷ []) number has) [
        | inl before ↦ let small = (are.all number).0 before in omega (arith, small, length_push order many)
        | inr last ↦ let is = one-is many number last in omega (arith, is, length_push order many)
      ]),
      (λ small. elim (cases_lt number many) [
        | inl before ↦ Contains-append_left order (many ∷ []) number ((are.all number).1 before)
        | inr past ↦ let is : many ≡ number = omega (arith, small, past, length_push order many) in Contains-append_right order (many ∷ []) number (0, omega arith, is)
      ]),
    );
  }

-- the ends of more lines have the next numbers
module _ (lines others : List Line) (ends : List ℕ) (next : ℕ) (are : AreEnds lines ends next) where
  abbrev new : List ℕ
  new = range_with_len next (length others)

  new_at : (place d : ℕ) → length ends ≤ place → place < length (ends ++ new) → get_or (ends ++ new) place d ≡ next + (place - length ends)
  new_at place d past within =
      let all = length-append ends new in
      let many = length-range_with_len next (length others) in
      get_or-append_right ends new (length ends) place d refl past ∙ get_or-range_with_len next (length others) (place - length ends) d (omega (arith, past, within, all, many))

  pub ends_more : AreEnds (lines ++ others) (ends ++ new) (next + length others)
  ends_more = record {
    as_many = omega (arith, length-append lines others, length-append ends new, length-range_with_len next (length others), are.as_many);
    distinct = λ i j d before within same. elim (cases_lt j (length ends)) [
      | inl low ↦ are.distinct i j d before low (sym (get_or_append_left ends new d i (omega (arith, before, low))) ∙ same ∙ get_or_append_left ends new d j low)
      | inr past ↦ elim (cases_lt i (length ends)) [
        | inl low ↦
            let old : get_or ends i d < next = are.below i d low in
            let left = get_or_append_left ends new d i low in
            let right = new_at j d past within in
            absurd (omega (arith, old, left, right, same))
        | inr high ↦
            let left = new_at i d high (omega (arith, before, within)) in
            let right = new_at j d past within in
            absurd (omega (arith, left, right, same, before, high, past))
      ]
    ];
    below =
        All-append (λ end. end < next + length others) ends new (All-weaker (λ end. end < next) (λ end. end < next + length others) (λ end less. omega (arith, less)) ends are.below)
        (range_all (λ end. end < next + length others) next (length others) (λ end above below. below));
  }
