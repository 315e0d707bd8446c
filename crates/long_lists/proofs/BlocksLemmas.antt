-- Blocks: where an item stands, and what becomes of all items where one block changes.
use Rattle.std.proofs.Common.{◌≡◌, ◌∙◌, sym, ap, refl, ℕ, zero, suc, ◌+◌, ◌*◌, ◌/◌, ◌%◌, ◌-◌, ◌^◌, ◌<◌, ◌≤◌, ◌≢◌, inl, inr, get_or, length, map, min, set, take, drop, List, [], ◌∷◌, ◌++◌, arith}
use Rattle.std.proofs.Math.Seq.{take-append-add, take-append_seam}
use Rattle.std.proofs.lemmas.Bool.{cases_lt}
use Rattle.std.proofs.lemmas.List.{append-nil, get_or_append_left, get_or_at, get_or_past, get_or-map, get_or-set_other, length-append, length-map, length-take-le, length_push, map_push, map-set, set_at, set_split, take_all, take_more, take-append-drop, take-append-le, take-map, take-take}
use Rattle.std.proofs.lemmas.List.Concat.{flat_map-append, get_or-flat_map, length-flat_map}
use Rattle.std.proofs.lemmas.List.Edits.{length-remove, remove-append_left, remove-append_right}
use Rattle.std.proofs.lemmas.List.Sums.{sum_by-set, sum_by_push, sum-map}
use Rattle.std.proofs.lemmas.Option.{get_or_from_slice_get, slice_get-get_or}
use Rattle.std.specs.List.{remove, slice_get, sum}
use Rattle.std.specs.Prelude.{Some}
use Rattle.long_lists.specs.Blocks.{AreBlocks, IsFullCount, IsPlaceIn, closed_of, joined}
use Rattle.long_lists.specs.SumTree.{IsUnitAt}

-- one block more, at the end
pub joined_push : {T : Type 0} (blocks : List (List T)) (block : List T) → joined (blocks ++ block ∷ []) ≡ joined blocks ++ block
joined_push blocks block = flat_map-append (λ block. block) blocks (block ∷ []) ∙ ap (λ items. joined blocks ++ items) (append-nil block)

-- all but the last
pub closed_is : {T : Type 0} (closed : List (List T)) (last : List T) → closed_of (closed ++ last ∷ []) ≡ closed
closed_is closed last =
    let long = length_push closed last in
    let fewer : length (closed ++ last ∷ []) - 1 ≡ length closed = omega (arith, long) in
    ap (λ n. take n (closed ++ last ∷ [])) fewer ∙ take-append_seam closed (last ∷ [])

-- the number of all items is the sum of the lengths
pub sum_lengths : {T : Type 0} (blocks : List (List T)) → sum (map length blocks) ≡ length (joined blocks)
sum_lengths blocks = sum-map length blocks ∙ sym (length-flat_map (λ block. block) blocks)

-- a block, with the items before it and behind it
joined_split : {T : Type 0} (blocks : List (List T)) (block : ℕ) (items : List T) → block < length blocks → joined (set blocks block items) ≡ joined (take block blocks) ++ (items ++ joined (drop (suc block) blocks))
joined_split blocks block items within = ap joined (set_split blocks block items within) ∙ flat_map-append (λ items. items) (take block blocks) (items ∷ drop (suc block) blocks)

set_same : {T : Type 0} (blocks : List T) (block : ℕ) (default : T) → blocks ≡ set blocks block (get_or blocks block default)
set_same [] block default = refl
set_same (first ∷ blocks) zero default = refl
set_same (first ∷ blocks) (suc block) default = ap (λ others. first ∷ others) (set_same blocks block default)

-- an item is taken out of its block, so it is taken out of all
pub joined_remove : {T : Type 0} (blocks : List (List T)) (place block offset : ℕ) → IsPlaceIn blocks place block offset → joined (set blocks block (remove (get_or blocks block []) offset)) ≡ remove (joined blocks) place
joined_remove blocks place block offset at =
    let items = get_or blocks block [] in
    let front = joined (take block blocks) in
    let behind = joined (drop (suc block) blocks) in
    let is = at.before in
    let late : length front ≤ place = omega (arith, is) in
    let rest : place - length front ≡ offset = omega (arith, is) in
    joined_split blocks block (remove items offset) at.within
    ∙ ap (λ rest. front ++ rest) (sym (remove-append_left items behind offset at.less) ∙ ap (remove (items ++ behind)) (sym rest))
    ∙ sym (remove-append_right front (items ++ behind) (length front) place refl late)
    ∙ ap (λ items. remove items place) (sym (joined_split blocks block items at.within) ∙ ap joined (sym (set_same blocks block [])))

-- an item at its place in its block is the one at its place in the list
pub joined_get : {T : Type 0} (blocks : List (List T)) (place block offset : ℕ) (default : T) → IsPlaceIn blocks place block offset → get_or (joined blocks) place default ≡ get_or (get_or blocks block []) offset default
joined_get blocks place block offset default at =
    ap (λ n. get_or (joined blocks) n default) (sym at.before) ∙ get_or-flat_map (λ block. block) blocks block offset [] default at.within at.less

module _ {T : Type 0} (closed : List (List T)) (lengths : List ℕ) (full : ℕ) (last : List T) (are : AreBlocks closed lengths full last) where
  pub closed_sum : sum lengths ≡ length (joined closed)
  closed_sum = ap sum are.lengths_are ∙ sum_lengths closed

  pub all_sum : sum lengths + length last ≡ length (joined (closed ++ last ∷ []))
  all_sum =
      let before = closed_sum in
      let all = ap length (joined_push closed last) ∙ length-append (joined closed) last in
      omega (arith, before, all)

  -- a full block is one of the closed blocks
  full_within : (block : ℕ) → block < full → block < length closed
  full_within block early =
      elim (cases_lt block (length closed)) [
        | inl within ↦ within
        | inr past ↦
            let long = are.full_are block early in
            let none = ap length (get_or_past closed block [] past) in
            let nothing : length {A = T} [] ≡ 0 = refl in
            absurd (omega (arith, long, none, nothing))
      ]

  -- the items before a full block; by induction on its number
  full_before : (block : ℕ) → block ≤ full → length (joined (take block closed)) ≡ block * 64
  full_before zero early = omega arith
  full_before (suc block) early =
      let within = full_within block (omega (arith, early)) in
      let next : suc block ≡ block + 1 = omega arith in
      let more = ap (λ n. take n closed) next ∙ take_more closed block [] within in
      let long = ap (λ blocks. length (joined blocks)) more ∙ ap length (joined_push (take block closed) (get_or closed block [])) ∙ length-append (joined (take block closed)) (get_or closed block []) in
      let here = are.full_are block (omega (arith, early)) in
      let before = full_before block (omega (arith, early)) in
      omega (arith, long, here, before)

  -- what is said of a place in a closed block
  closed_place : (place block offset : ℕ) → block < length closed → length (joined (take block closed)) + offset ≡ place → offset < length (get_or closed block []) → IsPlaceIn (closed ++ last ∷ []) place block offset
  closed_place place block offset within before less =
      let long = length_push closed last in
      let front = ap (λ blocks. length (joined blocks)) (take-append-le block closed (last ∷ []) (omega (arith, within))) in
      let here = ap length (get_or_append_left closed (last ∷ []) [] block within) in
      record { within = omega (arith, within, long); before = omega (arith, front, before); less = omega (arith, here, less) }

  pub full_place : (place : ℕ) → place / 64 < full → IsPlaceIn (closed ++ last ∷ []) place (place / 64) (place % 64)
  full_place place early =
      let before = full_before (place / 64) (omega (arith, early)) in
      let long = are.full_are (place / 64) early in
      closed_place place (place / 64) (place % 64) (full_within (place / 64) early) (omega (arith, before)) (omega (arith, long))

  pub found_place : (place block offset : ℕ) → IsUnitAt lengths place block offset → IsPlaceIn (closed ++ last ∷ []) place block offset
  found_place place block offset found =
      let many = ap length are.lengths_are ∙ length-map closed length in
      let in_lengths = found.within in
      let within : block < length closed = omega (arith, many, in_lengths) in
      let front = ap (λ lengths. sum (take block lengths)) are.lengths_are ∙ ap sum (take-map length block closed) ∙ sum_lengths (take block closed) in
      let here = ap (λ lengths. get_or lengths block 0) are.lengths_are ∙ get_or-map length closed block [] 0 within in
      let before = found.before in
      let less = found.less in
      closed_place place block offset within (omega (arith, front, before)) (omega (arith, here, less))

  pub last_place : (place : ℕ) → sum lengths ≤ place → place < length (joined (closed ++ last ∷ [])) → IsPlaceIn (closed ++ last ∷ []) place (length closed) (place - sum lengths)
  last_place place late within =
      let long = length_push closed last in
      let front = ap (λ blocks. length (joined blocks)) (take-append_seam closed (last ∷ [])) in
      let here = ap length (get_or_at closed last [] [] (length closed) refl) in
      let before = closed_sum in
      let all = all_sum in
      record { within = omega (arith, long); before = omega (arith, front, before, late); less = omega (arith, here, all, within, late) }

  -- a closed block is another, with fewer items
  module _ (block : ℕ) (items : List T) (within : block < length closed) (fewer : length items ≤ length (get_or closed block [])) where
    fewer_sum : sum (set lengths block (length items)) ≤ sum lengths
    fewer_sum =
        let many = ap length are.lengths_are ∙ length-map closed length in
        let was = ap (λ lengths. get_or lengths block 0) are.lengths_are ∙ get_or-map length closed block [] 0 within in
        let written = sum_by-set (λ (n : ℕ). n) lengths block (length items) 0 (omega (arith, many, within)) in
        omega (arith, was, written, fewer)

    fewer_fits : sum (set lengths block (length items)) < 2 ^ 64
    fewer_fits = let fits = are.fits in let sums = fewer_sum in omega (arith, fits, sums)

    fewer_are : AreBlocks (set closed block items) (set lengths block (length items)) (min full block) last
    fewer_are =
        let fits = are.fits in
        let sums = fewer_sum in
        record {
          lengths_are = ap (λ lengths. set lengths block (length items)) are.lengths_are ∙ sym (map-set length closed block items);
          full_are = λ other early.
              let same = ap length (get_or-set_other closed block other items [] (λ e. omega (arith, early, e))) in
              let long = are.full_are other (omega (arith, early)) in
              omega (arith, same, long);
          fits = omega (arith, fits, sums);
        }

  -- an item is taken out of a closed block
  module _ (block offset : ℕ) (items : List T) (within : block < length closed) (read : slice_get closed block ≡ Some items) (less : offset < length items) where
    shorter : length (remove items offset) ≤ length (get_or closed block [])
    shorter = let same = ap length (get_or_from_slice_get closed block items [] read) in let long = length-remove items offset less in omega (arith, same, long)

    pub out_fits : sum (set lengths block (length (remove items offset))) < 2 ^ 64
    out_fits = fewer_fits block (remove items offset) within shorter

    pub out_are : AreBlocks (set closed block (remove items offset)) (set lengths block (length (remove items offset))) (min full block) last
    out_are = fewer_are block (remove items offset) within shorter

  -- the last block is another, with no more than one item more
  pub put_are : (items : List T) → length items ≤ length last + 1 → length (joined (closed ++ last ∷ [])) + 1 < 2 ^ 64 → AreBlocks closed lengths full items
  put_are items more small = let all = all_sum in record { lengths_are = are.lengths_are; full_are = are.full_are; fits = omega (arith, all, more, small) }

  -- the last block is closed, and an empty one is opened
  pub close_are : (count : ℕ) → IsFullCount full (length (closed ++ last ∷ [])) (length last) count → AreBlocks (closed ++ last ∷ []) (lengths ++ length last ∷ []) count []
  close_are count is = record {
    lengths_are = ap (λ lengths. lengths ++ length last ∷ []) are.lengths_are ∙ sym (map_push length closed last);
    full_are = λ block early. elim is [ inl as_many ↦ old block (omega (arith, as_many, early)) | inr more ↦ new block more early ];
    fits = let fits = are.fits in let pushed = sum_by_push (λ (n : ℕ). n) lengths (length last) in let none : length {A = T} [] ≡ 0 = refl in omega (arith, fits, pushed, none);
  }
    where
      old : (block : ℕ) → block < full → length (get_or (closed ++ last ∷ []) block []) ≡ 64
      old block early = ap length (get_or_append_left closed (last ∷ []) [] block (full_within block early)) ∙ are.full_are block early

      new : (block : ℕ) → (count ≡ full + 1) × (length (closed ++ last ∷ []) ≡ full + 1) × (length last ≡ 64) → block < count → length (get_or (closed ++ last ∷ []) block []) ≡ 64
      new block more early =
          let one = more.0 in
          let many = more.1 in
          let long = length_push closed last in
          elim (cases_lt block full) [
            | inl before ↦ old block before
            | inr late ↦ ap length (get_or_at closed last [] [] block (omega (arith, one, many, long, early, late))) ∙ more.2
          ]

-- an item is taken out of the last block
pub last_view : {T : Type 0} (closed : List (List T)) (last items : List T) (block : ℕ) → block ≡ length closed → closed ++ items ∷ [] ≡ set (closed ++ last ∷ []) block items
last_view closed last items block is = sym (set_at closed last [] items block (sym is))

-- the block behind the closed ones is the last
pub last_is : {T : Type 0} (closed : List (List T)) (last : List T) (block : ℕ) → block ≡ length closed → get_or (closed ++ last ∷ []) block [] ≡ last
last_is closed last block is = get_or_at closed last [] [] block (sym is)

-- the last block is cut
pub cut_view : {T : Type 0} (closed : List (List T)) (last : List T) (len : ℕ) → joined (closed ++ take len last ∷ []) ≡ take (length (joined (closed_of (closed ++ last ∷ []))) + len) (joined (closed ++ last ∷ []))
cut_view closed last len =
    let front = ap (λ blocks. length (joined blocks) + len) (closed_is closed last) in
    joined_push closed (take len last) ∙ sym (ap (λ n. take n (joined (closed ++ last ∷ []))) front ∙ ap (take (length (joined closed) + len)) (joined_push closed last) ∙ take-append-add (joined closed) last len)

-- a block that isn't the last is one of the closed ones
module _ {T : Type 0} (closed : List (List T)) (last : List T) (blocks : List (List T)) (view : closed ++ last ∷ [] ≡ blocks) (block : ℕ) (within : block < length blocks) (other : block ≢ length closed) where
  pub closed_within : block < length closed
  closed_within = let long = length_push closed last in let same = ap length view in omega (arith, long, same, within, other)

  pub closed_block : (items : List T) → slice_get closed block ≡ Some items → get_or blocks block [] ≡ items
  closed_block items read = sym (ap (λ blocks. get_or blocks block []) view) ∙ get_or_append_left closed (last ∷ []) [] block closed_within ∙ get_or_from_slice_get closed block items [] read

-- how many blocks are before the last
pub closed_length : {T : Type 0} (blocks : List (List T)) → length (closed_of blocks) ≡ length blocks - 1
closed_length blocks = length-take-le (length blocks - 1) blocks (omega arith)

-- where there are items before the last block, there are blocks
pub some_closed : {T : Type 0} (blocks : List (List T)) (len : ℕ) → len < length (joined (closed_of blocks)) → 1 < length blocks
some_closed [] len less = absurd (omega (arith, less))
some_closed (block ∷ []) len less = absurd (omega (arith, less))
some_closed (block ∷ (next ∷ blocks)) len less = omega arith

-- all items are those of the first blocks and those of the others
pub joined_parts : {T : Type 0} (blocks : List (List T)) (count : ℕ) → joined blocks ≡ joined (take count blocks) ++ joined (drop count blocks)
joined_parts blocks count = ap joined (sym (take-append-drop count blocks)) ∙ flat_map-append (λ block. block) (take count blocks) (drop count blocks)

-- the first items, so many, stay where the last blocks are dropped, and the closed blocks are the first of those that were closed
pub record IsReopened {T : Type 0} (old : List (List T)) (len : ℕ) (blocks : List (List T)) : Type 0 where
  pub items : take len (joined blocks) ≡ take len (joined old)
  pub closed : closed_of blocks ≡ take (length blocks - 1) (closed_of old)

pub reopen_begins : {T : Type 0} (old : List (List T)) (len : ℕ) → IsReopened old len old
reopen_begins old len = record { items = refl; closed = let long = closed_length old in sym (take_all (length old - 1) (closed_of old) (omega (arith, long))) }

pub reopen_next : {T : Type 0} (old : List (List T)) (len : ℕ) (blocks : List (List T)) → IsReopened old len blocks → len < length (joined (closed_of blocks)) → IsReopened old len (closed_of blocks)
reopen_next old len blocks is less =
    let long = closed_length blocks in
    let fewer : length (closed_of blocks) - 1 ≤ length blocks - 1 = omega (arith, long) in
    record {
      items = sym (ap (take len) (joined_parts blocks (length blocks - 1)) ∙ take-append-le len (joined (closed_of blocks)) (joined (drop (length blocks - 1) blocks)) (omega (arith, less))) ∙ is.items;
      closed = ap (take (length (closed_of blocks) - 1)) is.closed ∙ take-take (length (closed_of blocks) - 1) (length blocks - 1) (closed_of old) fewer;
    }

-- the last block is cut where no more items are before it than are kept
pub reopen_ends : {T : Type 0} (old : List (List T)) (len : ℕ) (blocks new : List (List T)) → IsReopened old len blocks → length (joined (closed_of blocks)) ≤ len → closed_of new ≡ closed_of blocks → closed_of new ≡ take (length new - 1) (closed_of old)
reopen_ends old len blocks new is late closed =
    let same : length blocks - 1 ≡ length new - 1 = sym (closed_length blocks) ∙ sym (ap length closed) ∙ closed_length new in
    closed ∙ is.closed ∙ ap (λ n. take n (closed_of old)) same

-- an item that is read in its block is read in the list
pub joined_read : {T : Type 0} (blocks : List (List T)) (place block offset : ℕ) (items : List T) (item : T) → place < length (joined blocks) → IsPlaceIn blocks place block offset → slice_get blocks block ≡ Some items → slice_get items offset ≡ Some item → slice_get (joined blocks) place ≡ Some item
joined_read blocks place block offset items item within at here read =
    slice_get-get_or (joined blocks) place item within
    ∙ ap Some (joined_get blocks place block offset item at ∙ ap (λ items. get_or items offset item) (get_or_from_slice_get blocks block items [] here) ∙ get_or_from_slice_get items offset item item read)

-- an item that is taken out of its block stood in the list
pub joined_value : {T : Type 0} (blocks : List (List T)) (place block offset : ℕ) (item : T) → place < length (joined blocks) → IsPlaceIn blocks place block offset → slice_get (get_or blocks block []) offset ≡ Some item → slice_get (joined blocks) place ≡ Some item
joined_value blocks place block offset item within at read =
    slice_get-get_or (joined blocks) place item within ∙ ap Some (joined_get blocks place block offset item at ∙ get_or_from_slice_get (get_or blocks block []) offset item item read)

-- so many items of a block, with all before it, are the first items
pub joined_take : {T : Type 0} (blocks : List (List T)) (block offset : ℕ) → block < length blocks → offset ≤ length (get_or blocks block []) → take (length (joined (take block blocks)) + offset) (joined blocks) ≡ joined (take block blocks) ++ take offset (get_or blocks block [])
joined_take blocks block offset within some =
    let items = get_or blocks block [] in
    let front = joined (take block blocks) in
    let behind = joined (drop (suc block) blocks) in
    ap (take (length front + offset)) (ap joined (set_same blocks block []) ∙ joined_split blocks block items within)
    ∙ take-append-add front (items ++ behind) offset ∙ ap (λ items. front ++ items) (take-append-le offset items behind some)

-- the last block stands behind the closed ones
pub last_behind : {T : Type 0} (blocks : List (List T)) → 0 < length blocks → blocks ≡ closed_of blocks ++ get_or blocks (length blocks - 1) [] ∷ []
last_behind blocks some =
    let one : length blocks ≡ length blocks - 1 + 1 = omega (arith, some) in
    sym (take_all (length blocks) blocks (omega arith)) ∙ ap (λ n. take n blocks) one ∙ take_more blocks (length blocks - 1) [] (omega (arith, some))

pub last_items : {T : Type 0} (blocks : List (List T)) → 0 < length blocks → length (joined blocks) ≡ length (joined (closed_of blocks)) + length (get_or blocks (length blocks - 1) [])
last_items blocks some =
    ap (λ blocks. length (joined blocks)) (last_behind blocks some) ∙ ap length (joined_push (closed_of blocks) (get_or blocks (length blocks - 1) []))
    ∙ length-append (joined (closed_of blocks)) (get_or blocks (length blocks - 1) [])

-- a place before the items of the last block is in a closed one
pub early_block : {T : Type 0} (blocks : List (List T)) (place block offset : ℕ) → IsPlaceIn blocks place block offset → place < length (joined (closed_of blocks)) → block < length blocks - 1
early_block blocks place block offset at early =
    elim (cases_lt block (length blocks - 1)) [
      | inl closed ↦ closed
      | inr late ↦
          let within = at.within in
          let before = at.before in
          let same : block ≡ length blocks - 1 = omega (arith, within, late) in
          let front = ap (λ n. length (joined (take n blocks))) same in
          absurd (omega (arith, before, front, early))
    ]
