-- Sums over blocks of numbers.
use Rattle.std.proofs.Common.{◌≡◌, ◌∙◌, sym, ap, refl, subst, ℕ, suc, ◌+◌, ◌-◌, ◌^◌, ◌<◌, ◌≤◌, inl, inr, get_or, length, map, set, take, drop, List, [], ◌∷◌, ◌++◌, arith}
use Rattle.std.proofs.lemmas.Bool.{cases_lt}
use Rattle.std.proofs.lemmas.List.{append-nil, drop_all, get_or-map, get_or-take, length-append, length-map, length-set, map_push, map-set, set_past, take_all, take-map, take-set-le, take-take}
use Rattle.std.proofs.lemmas.List.Sums.{sum_by_push, sum_by-append, sum_by-cons, sum_by-remove, sum_by-take-le}
use Rattle.std.proofs.lemmas.Option.{get_or_from_slice_get, slice_get_within}
use Rattle.std.proofs.Math.Seq.{take-set-lt}
use Rattle.std.specs.List.{remove, slice_get, sum}
use Rattle.std.specs.Prelude.{Some}
use Rattle.long_lists.specs.Blocks.{AreSums, IsPlaceIn, closed_of, joined}
use Rattle.long_lists.proofs.BlocksLemmas.{closed_is, closed_length, joined_parts, joined_push, joined_remove, joined_take, last_behind, last_items}

-- the sum of all numbers is that of the blocks' sums; by induction on the blocks
pub sum_joined : (blocks : List (List ℕ)) → sum (joined blocks) ≡ sum (map sum blocks)
sum_joined [] = refl
sum_joined (block ∷ blocks) =
    let both = sum_by-append (λ (n : ℕ). n) block (joined blocks) in
    let more = sum_by-cons (λ (n : ℕ). n) (sum block) (map sum blocks) in
    let others = sum_joined blocks in
    omega (arith, both, more, others)

-- an empty block adds nothing
joined_open : (blocks : List (List ℕ)) → joined (blocks ++ [] ∷ []) ≡ joined blocks
joined_open blocks = joined_push blocks [] ∙ append-nil (joined blocks)

-- a number less, or none
sum_by-remove-le : (numbers : List ℕ) (place : ℕ) → sum (remove numbers place) ≤ sum numbers
sum_by-remove-le numbers place =
    elim (cases_lt place (length numbers)) [
      | inl within ↦ let gone = sum_by-remove (λ (n : ℕ). n) numbers place 0 within in omega (arith, gone)
      | inr late ↦
          let parts = sum_by-append (λ (n : ℕ). n) (take place numbers) (drop (suc place) numbers) in
          let first = sum_by-take-le (λ (n : ℕ). n) numbers place in
          let none = ap sum (drop_all (suc place) numbers (omega (arith, late))) in
          let nothing : sum [] ≡ 0 = refl in
          omega (arith, parts, first, none, nothing)
    ]

module _ (blocks : List (List ℕ)) (sums : List ℕ) (are : AreSums blocks sums) where
  -- how many sums there are
  pub count_sums : length sums ≡ length blocks - 1
  count_sums = ap length are.sums_are ∙ length-map (closed_of blocks) sum ∙ closed_length blocks

  -- the sum before a block
  sum_front : (block : ℕ) → block ≤ length blocks - 1 → sum (take block sums) ≡ sum (joined (take block blocks))
  sum_front block early =
      ap (λ sums. sum (take block sums)) are.sums_are ∙ ap sum (take-map sum block (closed_of blocks)) ∙ ap (λ blocks. sum (map sum blocks)) (take-take block (length blocks - 1) blocks early) ∙ sym (sum_joined (take block blocks))

  -- the sum before a place in a block, or behind it
  module _ (place block offset : ℕ) (within : block < length blocks) (before : length (joined (take block blocks)) + offset ≡ place) (some : offset ≤ length (get_or blocks block [])) where
    pub sum_before_place : sum (take block sums) + sum (take offset (get_or blocks block [])) ≡ sum (take place (joined blocks))
    sum_before_place =
        let front = sum_front block (omega (arith, within)) in
        let first = ap (λ n. sum (take n (joined blocks))) (sym before) ∙ ap sum (joined_take blocks block offset within some) ∙ sum_by-append (λ (n : ℕ). n) (joined (take block blocks)) (take offset (get_or blocks block [])) in
        omega (arith, front, first)

    pub sum_before_fits : sum (take block sums) + sum (take offset (get_or blocks block [])) < 2 ^ 64
    sum_before_fits =
        let is = sum_before_place in
        let within = sum_by-take-le (λ (n : ℕ). n) (joined blocks) place in
        let fits = are.fits in
        omega (arith, is, within, fits)

  -- the numbers of a block fit
  pub block_fits : (block : ℕ) → block < length blocks → sum (get_or blocks block []) < 2 ^ 64
  block_fits block within =
      let items = get_or blocks block [] in
      let all = ap sum (take_all (length items) items (omega arith)) in
      let fits = sum_before_fits (length (joined (take block blocks)) + length items) block (length items) within refl (omega arith) in
      omega (arith, all, fits)

  -- the sum of all closed blocks is that before the last
  pub all_closed : sum sums ≡ sum (take (length blocks - 1) sums)
  all_closed = let many = count_sums in ap sum (sym (take_all (length blocks - 1) sums (omega (arith, many))))

  -- the sums are no more than the numbers
  pub sums_fit : sum sums < 2 ^ 64
  sums_fit =
      let same = all_closed ∙ sum_front (length blocks - 1) (omega arith) in
      let parts = ap sum (joined_parts blocks (length blocks - 1)) ∙ sum_by-append (λ (n : ℕ). n) (joined (closed_of blocks)) (joined (drop (length blocks - 1) blocks)) in
      let fits = are.fits in
      omega (arith, same, parts, fits)

  -- the last block's numbers fit with those before them
  pub last_fits : 0 < length blocks → sum sums + sum (get_or blocks (length blocks - 1) []) < 2 ^ 64
  last_fits some =
      let items = get_or blocks (length blocks - 1) [] in
      let all = ap sum (take_all (length items) items (omega arith)) in
      let closed = all_closed in
      let fits = sum_before_fits (length (joined (closed_of blocks)) + length items) (length blocks - 1) (length items) (omega (arith, some)) refl (omega arith) in
      omega (arith, all, closed, fits)

  -- another block is opened
  pub open_are : 0 < length blocks → AreSums (blocks ++ [] ∷ []) (sums ++ sum (get_or blocks (length blocks - 1) []) ∷ [])
  open_are some = record {
    sums_are =
        ap (λ sums. sums ++ sum (get_or blocks (length blocks - 1) []) ∷ []) are.sums_are
        ∙ sym (ap (map sum) (closed_is blocks []) ∙ ap (map sum) (last_behind blocks some) ∙ map_push sum (closed_of blocks) (get_or blocks (length blocks - 1) []));
    fits = let fits = are.fits in let same = ap sum (joined_open blocks) in omega (arith, fits, same);
  }

  -- a number is put into the last block
  pub put_are : (number : ℕ) (new : List (List ℕ)) → sum (joined blocks) + number < 2 ^ 64 → closed_of new ≡ closed_of blocks → joined new ≡ joined blocks ++ number ∷ [] → AreSums new sums
  put_are number new small closed items = record {
    sums_are = are.sums_are ∙ ap (map sum) (sym closed);
    fits = let same = ap sum items ∙ sum_by_push (λ (n : ℕ). n) (joined blocks) number in omega (arith, small, same);
  }

  -- no number was put
  pub kept_are : (new : List (List ℕ)) → closed_of new ≡ closed_of blocks → joined new ≡ joined blocks → AreSums new sums
  kept_are new closed items = record {
    sums_are = are.sums_are ∙ ap (map sum) (sym closed);
    fits = let same = ap sum items in let fits = are.fits in omega (arith, fits, same);
  }

  -- the first numbers are kept
  pub cut_are : (len count : ℕ) (new : List (List ℕ)) → count + 1 ≡ length new → closed_of new ≡ take (length new - 1) (closed_of blocks) → joined new ≡ take len (joined blocks) → AreSums new (take count sums)
  cut_are len count new is closed items = record {
    sums_are =
        let fewer : count ≡ length new - 1 = omega (arith, is) in
        ap (take count) are.sums_are ∙ take-map sum count (closed_of blocks) ∙ ap (λ n. map sum (take n (closed_of blocks))) fewer ∙ ap (map sum) (sym closed);
    fits = let same = ap sum items in let within = sum_by-take-le (λ (n : ℕ). n) (joined blocks) len in let fits = are.fits in omega (arith, same, within, fits);
  }

  -- a number is taken out of its block
  module _ (place block offset number : ℕ) (at : IsPlaceIn blocks place block offset) (read : slice_get (get_or blocks block []) offset ≡ Some number) where
    is : get_or (get_or blocks block []) offset 0 ≡ number
    is = get_or_from_slice_get (get_or blocks block []) offset number 0 read

    left : sum (remove (get_or blocks block []) offset) + number ≡ sum (get_or blocks block [])
    left = let gone = sum_by-remove (λ (n : ℕ). n) (get_or blocks block []) offset 0 at.less in omega (arith, gone, is)

    sum_at : block < length sums → get_or sums block 0 ≡ sum (get_or blocks block [])
    sum_at early =
        let many = count_sums in
        ap (λ sums. get_or sums block 0) are.sums_are ∙ get_or-map sum (closed_of blocks) block [] 0 (let long = closed_length blocks in omega (arith, early, many, long)) ∙ ap sum (get_or-take (length blocks - 1) blocks block [] (omega (arith, early, many)))

    pub number_within : block < length sums → number ≤ get_or sums block 0
    number_within early = let here = sum_at early in omega (arith, here, left)

    pub out_are : AreSums (set blocks block (remove (get_or blocks block []) offset)) (set sums block (get_or sums block 0 - number))
    out_are = record {
      sums_are = elim (cases_lt block (length blocks - 1)) [ inl early ↦ closed early | inr late ↦ last late ];
      fits = let same = ap sum (joined_remove blocks place block offset at) in let fewer = sum_by-remove-le (joined blocks) place in let fits = are.fits in omega (arith, same, fewer, fits);
    }
      where
        items : List ℕ
        items = remove (get_or blocks block []) offset

        long : length (set blocks block items) - 1 ≡ length blocks - 1
        long = ap (λ n. n - 1) (length-set blocks block items)

        closed : block < length blocks - 1 → set sums block (get_or sums block 0 - number) ≡ map sum (closed_of (set blocks block items))
        closed early =
            let many = count_sums in
            let here = sum_at (omega (arith, early, many)) in
            let fewer : get_or sums block 0 - number ≡ sum items = omega (arith, here, left) in
            ap (set sums block) fewer ∙ ap (λ sums. set sums block (sum items)) are.sums_are
            ∙ sym (ap (λ n. map sum (take n (set blocks block items))) long ∙ ap (map sum) (take-set-lt (length blocks - 1) blocks block items early) ∙ map-set sum (closed_of blocks) block items)

        last : length blocks - 1 ≤ block → set sums block (get_or sums block 0 - number) ≡ map sum (closed_of (set blocks block items))
        last late =
            let many = count_sums in
            set_past sums block (get_or sums block 0 - number) (omega (arith, many, late)) ∙ are.sums_are
            ∙ sym (ap (λ n. map sum (take n (set blocks block items))) long ∙ ap (map sum) (take-set-le (length blocks - 1) blocks block items late))

-- a place before the items of the last block is a place in the list
pub early_within : (blocks : List (List ℕ)) (place : ℕ) → place < length (joined (closed_of blocks)) → place < length (joined blocks)
early_within blocks place early =
    let parts = ap length (joined_parts blocks (length blocks - 1)) ∙ length-append (joined (closed_of blocks)) (joined (drop (length blocks - 1) blocks)) in
    omega (arith, early, parts)

module _ (blocks : List (List ℕ)) (sums : List ℕ) (are : AreSums blocks sums) (block : ℕ) (items : List ℕ) (read : slice_get blocks block ≡ Some items) where
  here : get_or blocks block [] ≡ items
  here = get_or_from_slice_get blocks block items [] read

  within : block < length blocks
  within = slice_get_within blocks block items read

  -- the numbers of a block that is read fit
  pub read_fits : sum items < 2 ^ 64
  read_fits = subst (λ items. sum items < 2 ^ 64) here (block_fits blocks sums are block within)

  -- the first numbers of a block that is read, with those before it
  module _ (place offset : ℕ) (at : IsPlaceIn blocks place block offset) where
    pub first_within : offset ≤ length items
    first_within = let less = at.less in let long = ap length here in omega (arith, less, long)

    pub first_sum : sum (take block sums) + sum (take offset items) ≡ sum (take place (joined blocks))
    first_sum =
        let is = sum_before_place blocks sums are place block offset within at.before (let less = at.less in omega (arith, less)) in
        let first = ap (λ items. sum (take offset items)) here in
        omega (arith, is, first)

    pub first_fits : sum (take block sums) + sum (take offset items) < 2 ^ 64
    first_fits =
        let is = first_sum in
        let first = sum_by-take-le (λ (n : ℕ). n) (joined blocks) place in
        let fits = are.fits in
        omega (arith, is, first, fits)

  -- the first numbers of the last block, with those before it
  module _ (is_last : block + 1 ≡ length blocks) where
    last_block : length blocks - 1 ≡ block
    last_block = omega (arith, is_last)

    last_here : get_or blocks (length blocks - 1) [] ≡ items
    last_here = ap (λ n. get_or blocks n []) last_block ∙ here

    module _ (place : ℕ) (late : length (joined (closed_of blocks)) ≤ place) (in_list : place ≤ length (joined blocks)) where
      pub late_within : place - length (joined (closed_of blocks)) ≤ length items
      late_within = let long = last_items blocks (omega (arith, is_last)) in let same = ap length last_here in omega (arith, long, late, in_list, same)

      pub late_sum : sum sums + sum (take (place - length (joined (closed_of blocks))) items) ≡ sum (take place (joined blocks))
      late_sum =
          let before = length (joined (closed_of blocks)) in
          let some = late_within in
          let same = ap length last_here in
          let is = sum_before_place blocks sums are place (length blocks - 1) (place - before) (omega (arith, is_last)) (omega (arith, late)) (omega (arith, some, same)) in
          let first = ap (λ items. sum (take (place - before) items)) last_here in
          let closed = all_closed blocks sums are in
          omega (arith, is, first, closed)

      pub late_fits : sum sums + sum (take (place - length (joined (closed_of blocks))) items) < 2 ^ 64
      late_fits =
          let is = late_sum in
          let first = sum_by-take-le (λ (n : ℕ). n) (joined blocks) place in
          let fits = are.fits in
          omega (arith, is, first, fits)

    -- the sum of the whole last block
    module _ (len number : ℕ) (whole : len ≡ length items) (total : number ≡ sum (take len items)) where
      pub last_sum : sum (get_or blocks (length blocks - 1) []) ≡ number
      last_sum = ap sum last_here ∙ ap sum (sym (take_all len items (omega (arith, whole)))) ∙ sym total

      pub last_fits_behind : sum sums + number < 2 ^ 64
      last_fits_behind = let fits = last_fits blocks sums are (omega (arith, is_last)) in let same = last_sum in omega (arith, fits, same)

      pub opened_are : AreSums (blocks ++ [] ∷ []) (sums ++ number ∷ [])
      opened_are = subst (λ number. AreSums (blocks ++ [] ∷ []) (sums ++ number ∷ [])) last_sum (open_are blocks sums are (omega (arith, is_last)))
