-- Reading items one after the other, as a loop does.
use Rattle.std.proofs.Common.{◌≡◌, ℕ, suc, ◌-◌, ◌+◌, ◌≤◌, ◌<◌, List, [], ◌∷◌, ◌++◌, Ok, Err, refl, sym, ap, ◌∙◌, append_assoc, arith}
use Rattle.std.proofs.lemmas.List.{append-nil}
use Rattle.snap_codec.specs.declared.fault.SnapFault.{SnapFault}
use Rattle.snap_codec.specs.declared.fault.SnapFault.TheVariants as faults
use Rattle.snap_codec.specs.Answers.{Fails}
use Rattle.snap_codec.specs.Reading.{◌>>=◌, Read, items_at}

-- what was read before, and what is still read
abbrev pub with_front : {X : Type 0} → List X → Read (List X) → Read (List X)
with_front front read = read >>= λ x. Ok (front ++ x.0, x.1)

-- an item more in front is an item more read before
regroup : {X : Type 0} (front : List X) (item : X) (read : Read (List X)) → with_front front (read >>= λ x. Ok (item ∷ x.0, x.1)) ≡ with_front (front ++ item ∷ []) read
regroup {X} front item (Ok x) = ap (λ (items : List X). Ok (items, x.1)) (simp append_assoc)
regroup front item (Err fault) = refl

module _ {X : Type 0} (item_at : List ℕ → Read X) (front : List X) (count i : ℕ) (bytes : List ℕ) (total : Read (List X)) where
  -- an item is read, and the rest is still to be read
  pub goes_on : (item : X) (after : List ℕ) → i < count → item_at bytes ≡ Ok (item, after)
      → with_front front (items_at item_at (count - i) bytes) ≡ total → with_front (front ++ item ∷ []) (items_at item_at (count - (i + 1)) after) ≡ total
  unfolding items_at
  goes_on item after lt h so_far =
      let k : count - i ≡ suc (count - (i + 1)) = omega arith in
      let one : with_front front (items_at item_at (count - i) bytes) ≡ with_front (front ++ item ∷ []) (items_at item_at (count - (i + 1)) after) = rw (k, h) (regroup front item (items_at item_at (count - (i + 1)) after)) in
      sym one ∙ so_far

  -- an item isn't read, and so nothing is
  pub stops : (fault : SnapFault) → i < count → item_at bytes ≡ Err fault
      → with_front front (items_at item_at (count - i) bytes) ≡ total → total ≡ Err fault
  unfolding items_at
  stops fault lt h so_far =
      let k : count - i ≡ suc (count - (i + 1)) = omega arith in
      let one : with_front front (items_at item_at (count - i) bytes) ≡ Err fault = rw (k, h) refl in
      sym so_far ∙ one

  -- want of memory tells nothing
  pub ends : (fault : SnapFault) → i < count → Fails fault (item_at bytes) → with_front front (items_at item_at (count - i) bytes) ≡ total → Fails fault total
  ends faults.Memory lt h so_far = tt
  ends faults.TooBig lt h so_far = stops faults.TooBig lt h so_far
  ends faults.NotSnapshot lt h so_far = stops faults.NotSnapshot lt h so_far
  ends (faults.Cut at) lt h so_far = stops (faults.Cut at) lt h so_far
  ends (faults.BadByte at) lt h so_far = stops (faults.BadByte at) lt h so_far
  ends (faults.Extra at) lt h so_far = stops (faults.Extra at) lt h so_far
  ends faults.BadQueries lt h so_far = stops faults.BadQueries lt h so_far
  ends faults.BadCount lt h so_far = stops faults.BadCount lt h so_far
  ends faults.BadTime lt h so_far = stops faults.BadTime lt h so_far
  ends faults.Unfit lt h so_far = stops faults.Unfit lt h so_far
  ends faults.Unsorted lt h so_far = stops faults.Unsorted lt h so_far

  -- all are read
  pub is_done : count ≤ i → with_front front (items_at item_at (count - i) bytes) ≡ total → total ≡ Ok (front, bytes)
  unfolding items_at
  is_done le so_far =
      let k : count - i ≡ 0 = omega arith in
      let one : with_front front (items_at item_at (count - i) bytes) ≡ Ok (front, bytes) = rw k (ap (λ (items : List X). Ok (items, bytes)) (append-nil front)) in
      sym so_far ∙ one
