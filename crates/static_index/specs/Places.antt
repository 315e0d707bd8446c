-- Entries at the places that their ids name, and others behind. No public clause cites it.
use Rattle.std.specs.Prelude.{◌≡◌, ℕ, suc, ◌+◌, ◌≤◌, List, [], ◌∷◌, length, Option, Some, None}
use Rattle.std.specs.List.{AllByRecursion}
use Rattle.std.specs.Map.{keys_of}
use Rattle.static_index.specs.Entries.{AreOrdered}
use Rattle.static_index.specs.declared.entry.Entry.{Entry}

-- an id with its entry, if it has one, before other entries
abbrev pub with_place : ℕ → Option Entry → List (ℕ × Entry) → List (ℕ × Entry)
with_place id None others = others
with_place id (Some entry) others = (id, entry) ∷ others

-- the entries at the places that are named from an id on, before others
abbrev pub entries_from : ℕ → List (Option Entry) → List (ℕ × Entry) → List (ℕ × Entry)
entries_from id [] others = others
entries_from id (place ∷ places) others = with_place id place (entries_from (suc id) places others)

-- ids are at least one
abbrev pub AreFrom : ℕ → List (ℕ × Entry) → Type 0
AreFrom id entries = AllByRecursion (λ n. id ≤ n) (keys_of entries)

-- how many places have an entry
abbrev pub count_filled : List (Option Entry) → ℕ
count_filled [] = 0
count_filled (None ∷ places) = count_filled places
count_filled (Some entry ∷ places) = count_filled places + 1

-- so many places have an entry, and behind them the ids of the others ascend, none of which names a place
pub record AreBehind (places : List (Option Entry)) (filled : ℕ) (others : List (ℕ × Entry)) : Type 0 where
  pub counted : filled ≡ count_filled places
  pub from : AreFrom (length places) others
  pub ordered : AreOrdered others
