-- Lists are read from their bytes, where their items are.
use Rattle.std.proofs.Common.{◌≡◌, ℕ, zero, suc, List, [], ◌∷◌, ◌++◌, length, Ok, refl, sym, ap, subst, ◌∙◌, append_assoc}
use Rattle.std.specs.List.{flat_map, AllByRecursion}
use Rattle.std.proofs.lemmas.List.Concat.{flat_map-cons}
use Rattle.snap_codec.specs.Fitting.{IsNumber}
use Rattle.snap_codec.specs.Reading.{◌>>=◌, Read, items_at, list_at, number_at, place_in}
use Rattle.snap_codec.specs.Spelling.{list_bytes, number_bytes}
use Rattle.snap_codec.proofs.NumberLemmas.{number_reads}
use Rattle.snap_codec.proofs.Short.{ShortList}
use Rattle.snap_codec.proofs.Taking.{IsBytes, Reads, Takes, Takes-then, bind_ok, ok_is}

module _ {X : Type 0} (bytes_of : X → List ℕ) (Fits : X → Type 0) (read : List ℕ → Read X) (reads : Reads bytes_of Fits read) where
  -- so many items are taken
  items_take : (n : ℕ) (bytes : List ℕ) (items : List X) (rest : List ℕ) → IsBytes bytes → items_at read n bytes ≡ Ok (items, rest)
      → Takes bytes (flat_map bytes_of items) rest × (length items ≡ n) × AllByRecursion Fits items
  unfolding items_at
  items_take zero bytes items rest fits e =
      subst (λ (y : List X × List ℕ). Takes bytes (flat_map bytes_of y.0) y.1 × (length y.0 ≡ 0) × AllByRecursion Fits y.0) (ok_is ([], bytes) (items, rest) e) (record { parts = refl; rest_fits = fits }, refl, tt)
  items_take (suc n) bytes items rest fits e =
      let a = bind_ok (read bytes) (λ first. items_at read n first.1 >>= λ others. Ok (first.0 ∷ others.0, others.1)) (items, rest) e in
      let b = bind_ok (items_at read n a.0.1) (λ others. Ok (a.0.0 ∷ others.0, others.1)) (items, rest) a.2 in
      let first = reads.takes bytes a.0.0 a.0.1 fits a.1 in
      let second = items_take n a.0.1 b.0.0 b.0.1 first.0.rest_fits b.1 in
      let both = Takes-then bytes (bytes_of a.0.0) a.0.1 (flat_map bytes_of b.0.0) b.0.1 first.0 second.0 in
      subst (λ (y : List X × List ℕ). Takes bytes (flat_map bytes_of y.0) y.1 × (length y.0 ≡ suc n) × AllByRecursion Fits y.0) (ok_is (a.0.0 ∷ b.0.0, b.0.1) (items, rest) b.2) (rw flat_map-cons both, ap suc second.1, (first.1, second.2))

  -- and read again
  items_again : (items : List X) (rest : List ℕ) → AllByRecursion Fits items → items_at read (length items) (flat_map bytes_of items ++ rest) ≡ Ok (items, rest)
  unfolding items_at
  items_again [] rest fits = refl
  items_again (x ∷ xs) rest fits =
      let regrouped : flat_map bytes_of (x ∷ xs) ++ rest ≡ bytes_of x ++ (flat_map bytes_of xs ++ rest) = ap (λ (y : List ℕ). y ++ rest) (flat_map-cons bytes_of x xs) ∙ append_assoc (bytes_of x) (flat_map bytes_of xs) rest in
      ap (items_at read (suc (length xs))) regrouped ∙ rw (reads.again x (flat_map bytes_of xs ++ rest) fits.0, items_again xs rest fits.1) refl

module _ {X : Type 0} (bytes_of : X → List ℕ) (Fits : X → Type 0) (read : ℕ → List ℕ → Read X) (reads : (total : ℕ) → Reads bytes_of Fits (read total)) (total : ℕ) where
  list_takes : (bytes : List ℕ) (items : List X) (rest : List ℕ) → IsBytes bytes → list_at read total bytes ≡ Ok (items, rest) → Takes bytes (list_bytes bytes_of items) rest × ShortList Fits items
  unfolding list_at
  list_takes bytes items rest fits e =
      let b = bind_ok (number_at total bytes) (λ count. items_at (read total) count.0 count.1) (items, rest) e in
      let t = (number_reads (place_in total bytes)).takes bytes b.0.0 b.0.1 fits b.1 in
      let i = items_take bytes_of Fits (read total) (reads total) b.0.0 b.0.1 items rest t.0.rest_fits b.2 in
      let both = Takes-then bytes (number_bytes b.0.0) b.0.1 (flat_map bytes_of items) rest t.0 i.0 in
      (subst (λ (k : ℕ). Takes bytes (number_bytes k ++ flat_map bytes_of items) rest) (sym i.1) both, record { all = i.2; long = subst IsNumber (sym i.1) t.1 })

  list_again : (items : List X) (rest : List ℕ) → ShortList Fits items → list_at read total (list_bytes bytes_of items ++ rest) ≡ Ok (items, rest)
  unfolding list_at
  list_again items rest fits =
      let behind = flat_map bytes_of items ++ rest in
      let regrouped : list_bytes bytes_of items ++ rest ≡ number_bytes (length items) ++ behind = append_assoc (number_bytes (length items)) (flat_map bytes_of items) rest in
      ap (list_at read total) regrouped ∙ rw ((number_reads (place_in total (number_bytes (length items) ++ behind))).again (length items) behind fits.long) (items_again bytes_of Fits (read total) (reads total) items rest fits.all)

  -- a list is read from its bytes
  pub list_reads : Reads (list_bytes bytes_of) (ShortList Fits) (list_at read total)
  list_reads = record { takes = list_takes; again = list_again }
