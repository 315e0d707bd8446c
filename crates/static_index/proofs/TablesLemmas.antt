-- Ids in tables.
use Rattle.std.proofs.Common.{◌≡◌, refl, sym, subst, ℕ, List, [], ◌∷◌, ◌++◌, inl, inr, Contains}
use Rattle.std.specs.Prelude.{Option, Some, None}
use Rattle.std.specs.BTreeMap.{BTreeMap, get, is_at}
use Rattle.std.specs.Ordering.{nat_cmp}
use Rattle.std.proofs.lemmas.List.Elements.{Contains-push_cases}
use Rattle.std.proofs.lemmas.Map.Views.{Contains-from_lookup}
use Rattle.event_types.specs.Tuple.{TupleView}
use Rattle.semantics.specs.Values.{value_at}
use Rattle.static_index.specs.Columns.{ids_under}
use Rattle.static_index.specs.Headings.{IsMetBy, Label, MeetsAny, attr_of}
use Rattle.static_index.specs.Tables.{filed_ids, ids_in_column}
use Rattle.static_index.specs.declared.column.Column.{Column}
use Rattle.static_index.specs.declared.tables.Tables.{Tables}
use Rattle.static_index.proofs.BucketLemmas.{nat_exact}
use Rattle.static_index.proofs.IdLemmas.{none_of_nil}

-- an id stays filed where the rest and each column keep it
pub filed_kept : (old new : Tables) (n : ℕ) → (Contains old.rest n → Contains new.rest n)
    → ((label : Label) → Contains (ids_in_column (get nat_cmp old.columns (attr_of label)) label) n → Contains (ids_in_column (get nat_cmp new.columns (attr_of label)) label) n)
    → (other : Option Label) → Contains (filed_ids old other) n → Contains (filed_ids new other) n
filed_kept old new n rest columns None has = rest has
filed_kept old new n rest columns (Some label) has = columns label has

-- what is found in columns for an event
abbrev pub FoundIn : TupleView → List (ℕ × Column) → List ℕ → Type 0
FoundIn event columns found = (attr : ℕ) (column : Column) (label : Label) (n : ℕ) → Contains columns (attr, column) → IsMetBy (value_at event attr) label → Contains (ids_under column label) n → Contains found n

-- one column more
pub FoundIn-more : (event : TupleView) (columns : List (ℕ × Column)) (one : ℕ × Column) (old new : List ℕ) → ((n : ℕ) → Contains old n → Contains new n)
    → ((label : Label) (n : ℕ) → IsMetBy (value_at event one.0) label → Contains (ids_under one.1 label) n → Contains new n)
    → FoundIn event columns old → FoundIn event (columns ++ one ∷ []) new
FoundIn-more event columns one old new kept found before attr column label n there met has =
    elim (Contains-push_cases columns one (attr, column) there) [
      | inl earlier ↦ kept n (before attr column label n earlier met has)
      | inr same ↦
          found label n (subst (λ (p : ℕ × Column). IsMetBy (value_at event p.0) label) (sym same) met)
          (subst (λ (p : ℕ × Column). Contains (ids_under p.1 label) n) (sym same) has)
    ]

-- what is filed under a label that is met is found
pub found_filed : (event : TupleView) (columns : BTreeMap ℕ Column) (found : List ℕ) → FoundIn event columns.entries found
    → (label : Label) (n : ℕ) → IsMetBy (value_at event (attr_of label)) label → Contains (ids_in_column (get nat_cmp columns (attr_of label)) label) n → Contains found n
found_filed event columns found all label n met has = go (get nat_cmp columns (attr_of label)) refl has
  where
    go : (o : Option Column) → get nat_cmp columns (attr_of label) ≡ o → Contains (ids_in_column o label) n → Contains found n
    go None is there = absurd (none_of_nil n there)
    go (Some column) is there =
        all (attr_of label) column label n (Contains-from_lookup {eq = λ x y. is_at (nat_cmp x) y} nat_exact (attr_of label) column columns.entries is) met there

-- the same of the rest
pub filed_found : (event : TupleView) (tables : Tables) (found : List ℕ) → ((n : ℕ) → Contains tables.rest n → Contains found n) → FoundIn event tables.columns.entries found
    → (label : Option Label) (n : ℕ) → MeetsAny event label → Contains (filed_ids tables label) n → Contains found n
filed_found event tables found rest all None n met has = rest n has
filed_found event tables found rest all (Some label) n met has = found_filed event tables.columns found all label n met has
