-- The endings of a part of some lines, and those of the lines before and behind it.
use Rattle.std.proofs.Common.{◌≡◌, ◌≢◌, ◌∙◌, sym, ap, ℕ, ◌+◌, true, false, not, List, [], ◌∷◌, ◌++◌, append-nil, length, arith}
use Rattle.std.specs.Prelude.{AllPairs, Contains}
use Rattle.std.specs.List.{All}
use Rattle.std.proofs.lemmas.List.{get_or_append_left, get_or-append-add, get_or_default, length-append}
use Rattle.std.proofs.lemmas.List.Elements.{All-cons, All-contains_itself, All-head, All-nil, All-tail, All-weaker, Contains-append_left, filter-append}
use Rattle.automaton.specs.NetworkLines.{Ending}
use Rattle.automaton.specs.declared.line.Line.{Line}
use Rattle.epoch_engine.specs.AddingLaws.{going, staying}
use Rattle.epoch_laws.specs.BornLines.{BornLine}
use Rattle.prefix_merge.specs.Turns.{is_among}
use Rattle.semantics.proofs.ReportLemmas.{filter_none}
use Rattle.splitter.proofs.ListLemmas.{filter_whole}
use Rattle.change_laws.specs.AtOne.{ended_by}
use Rattle.change_laws.proofs.EndedLemmas.{ended_append}
use Rattle.change_laws.proofs.UnreadLemmas.{contained, none_of}

-- what is so of each number is so of the endings with these
pub ended_numbers : (P : ℕ → Type 0) (lines : List BornLine) (numbers : List ℕ) → All P numbers → All (λ (e : Ending). P e.number) (ended_by lines numbers)
ended_numbers P [] numbers all = All-nil (λ (e : Ending). P e.number)
ended_numbers P (born ∷ lines) [] all = All-nil (λ (e : Ending). P e.number)
ended_numbers P (born ∷ lines) (number ∷ numbers) all =
    All-cons (λ (e : Ending). P e.number) (record { line = born.line; number = number; birth = born.birth }) (ended_by lines numbers) (All-head P number numbers all) (ended_numbers P lines numbers (All-tail P number numbers all))

-- and of each line
pub ended_lines : (P : Line → Type 0) (lines : List BornLine) (numbers : List ℕ) → All (λ (b : BornLine). P b.line) lines → All (λ (e : Ending). P e.line) (ended_by lines numbers)
ended_lines P [] numbers all = All-nil (λ (e : Ending). P e.line)
ended_lines P (born ∷ lines) [] all = All-nil (λ (e : Ending). P e.line)
ended_lines P (born ∷ lines) (number ∷ numbers) all =
    All-cons (λ (e : Ending). P e.line) (record { line = born.line; number = number; birth = born.birth }) (ended_by lines numbers) (All-head (λ (b : BornLine). P b.line) born lines all)
    (ended_lines P lines numbers (All-tail (λ (b : BornLine). P b.line) born lines all))

module _ (xs ys : List ℕ) (apart : AllPairs (λ x y. x ≢ y) (xs ++ ys)) where
  -- numbers of two parts of a list without doubles differ
  pub differ : (x y : ℕ) → Contains xs x → Contains ys y → x ≢ y
  differ x y (i, i_in, i_is) (j, j_in, j_is) same =
      let long = length-append xs ys in
      apart i (length xs + j) x (omega (arith, i_in)) (omega (arith, j_in, long))
      (get_or_append_left xs ys x i i_in ∙ i_is ∙ same ∙ sym (get_or-append-add xs ys j x ∙ get_or_default ys j x y j_in ∙ j_is))

  -- and each part has none
  pub first_apart : AllPairs (λ x y. x ≢ y) xs
  first_apart i j d before inside same =
      let long = length-append xs ys in
      apart i j d before (omega (arith, inside, long)) (get_or_append_left xs ys d i (omega (arith, before, inside)) ∙ same ∙ sym (get_or_append_left xs ys d j inside))

  pub second_apart : AllPairs (λ x y. x ≢ y) ys
  second_apart i j d before inside same =
      let long = length-append xs ys in
      apart (length xs + i) (length xs + j) d (omega (arith, before)) (omega (arith, inside, long)) (get_or-append-add xs ys i d ∙ same ∙ sym (get_or-append-add xs ys j d))

module _ (before part behind : List BornLine) (ms ns os : List ℕ) (long : length ms ≡ length before) (part_long : length ns ≡ length part) (apart : AllPairs (λ x y. x ≢ y) (ms ++ (ns ++ os))) where
  abbrev whole : List Ending
  whole = ended_by (before ++ (part ++ behind)) (ms ++ (ns ++ os))

  whole_is : whole ≡ ended_by before ms ++ (ended_by part ns ++ ended_by behind os)
  whole_is = ended_append before (part ++ behind) ms (ns ++ os) long ∙ ap (λ es. ended_by before ms ++ es) (ended_append part behind ns os part_long)

  parts_apart : AllPairs (λ x y. x ≢ y) (ns ++ os)
  parts_apart = second_apart ms (ns ++ os) apart

  -- numbers of the first and of the last part are none of the middle one
  first_other : All (λ n. is_among ns n ≡ false) ms
  first_other =
      All-weaker (Contains ms) (λ n. is_among ns n ≡ false) (λ n has. none_of ns n (λ x among. differ ms (ns ++ os) apart n x has (Contains-append_left ns os x among))) ms (All-contains_itself ms)

  last_other : All (λ n. is_among ns n ≡ false) os
  last_other = All-weaker (Contains os) (λ n. is_among ns n ≡ false) (λ n has. none_of ns n (λ x among same. differ ns os parts_apart x n among has (sym same))) os (All-contains_itself os)

  own_among : All (λ n. is_among ns n ≡ true) ns
  own_among = All-weaker (Contains ns) (λ n. is_among ns n ≡ true) (λ n has. contained ns n has) ns (All-contains_itself ns)

  kept : (lines : List BornLine) (numbers : List ℕ) → All (λ n. is_among ns n ≡ false) numbers → staying ns (ended_by lines numbers) ≡ ended_by lines numbers
  kept lines numbers others =
      filter_whole (λ (e : Ending). not (is_among ns e.number)) (ended_by lines numbers) (ended_numbers (λ n. not (is_among ns n) ≡ true) lines numbers (All-weaker (λ n. is_among ns n ≡ false) (λ n. not (is_among ns n) ≡ true) (λ n is. ap not is) numbers others))

  lost : (lines : List BornLine) (numbers : List ℕ) → All (λ n. is_among ns n ≡ false) numbers → going ns (ended_by lines numbers) ≡ []
  lost lines numbers others = filter_none (λ (e : Ending). is_among ns e.number) (ended_by lines numbers) (ended_numbers (λ n. is_among ns n ≡ false) lines numbers others)

  -- without the ends of the part the other lines are left
  pub stay_is : staying ns whole ≡ ended_by (before ++ behind) (ms ++ os)
  stay_is =
      ap (staying ns) whole_is
      ∙ filter-append (λ (e : Ending). not (is_among ns e.number)) (ended_by before ms) (ended_by part ns ++ ended_by behind os)
      ∙ ap (λ es. staying ns (ended_by before ms) ++ es) (filter-append (λ (e : Ending). not (is_among ns e.number)) (ended_by part ns) (ended_by behind os))
      ∙ (λ i. kept before ms first_other i ++ (none i ++ kept behind os last_other i))
      ∙ sym (ended_append before behind ms os long)
    where
      none : staying ns (ended_by part ns) ≡ []
      none =
          filter_none (λ (e : Ending). not (is_among ns e.number)) (ended_by part ns) (ended_numbers (λ n. not (is_among ns n) ≡ false) part ns (All-weaker (λ n. is_among ns n ≡ true) (λ n. not (is_among ns n) ≡ false) (λ n is. ap not is) ns own_among))

  -- and those of the part go
  pub go_is : going ns whole ≡ ended_by part ns
  go_is =
      ap (going ns) whole_is
      ∙ filter-append (λ (e : Ending). is_among ns e.number) (ended_by before ms) (ended_by part ns ++ ended_by behind os)
      ∙ ap (λ es. going ns (ended_by before ms) ++ es) (filter-append (λ (e : Ending). is_among ns e.number) (ended_by part ns) (ended_by behind os))
      ∙ (λ i. lost before ms first_other i ++ (all i ++ lost behind os last_other i))
      ∙ append-nil (ended_by part ns)
    where
      all : going ns (ended_by part ns) ≡ ended_by part ns
      all = filter_whole (λ (e : Ending). is_among ns e.number) (ended_by part ns) (ended_numbers (λ n. is_among ns n ≡ true) part ns own_among)
