-- Entries by ascending ids. No public clause cites it.
use Rattle.std.specs.Prelude.{ℕ, List, Option}
use Rattle.std.specs.BTreeMap.{is_at}
use Rattle.std.specs.List.Sorted.{IsStrictlySortedBy}
use Rattle.std.specs.Map.{keys_of, lookup}
use Rattle.std.specs.Ordering.{nat_cmp}
use Rattle.static_index.specs.declared.entry.Entry.{Entry}

-- the ids ascend, so each stands once
abbrev pub AreOrdered : List (ℕ × Entry) → Type 0
AreOrdered entries = IsStrictlySortedBy nat_cmp (keys_of entries)

-- the entry of an id, if there is one
abbrev pub entry_of : ℕ → List (ℕ × Entry) → Option Entry
entry_of id entries = lookup (is_at (nat_cmp id)) entries
