-- The faults of names: of the name of a statement, and of the names that it reads.
use Rattle.std.specs.Prelude.{ℕ, not, if◌then◌else◌, List, [], Option, Some, None, codes, map, take, slice_index_or}
use Rattle.std.specs.List.{find}
use Rattle.std.specs.Option.{option_map}
use Rattle.std.specs.Str.{bytes_eq}
use Rattle.cel_grammar.specs.Trees.{Statement}
use Rattle.cel_types.specs.Aggregates.{is_among}
use Rattle.catalogue.specs.declared.fault.QueryFault.{QueryFault}
use Rattle.catalogue.specs.declared.fault.QueryFault.TheVariants.{Reserved, Duplicate, Unknown}
use Rattle.catalogue.specs.Statements.{names_in, reads_by}

-- the name that no statement may have: event lines would be taken for a header
abbrev pub reserved_name : List ℕ
reserved_name = codes "stream"

-- the fault of a name behind earlier ones: that it is reserved, or else that an earlier one is the same
abbrev pub name_fault : List (List ℕ) → List ℕ → Option QueryFault
name_fault earlier name = if bytes_eq name reserved_name then Some (Reserved name) else if is_among earlier name then Some (Duplicate name) else None

-- the fault of the name of the statement at a place
abbrev pub name_fault_at : List Statement → ℕ → Option QueryFault
name_fault_at statements place = name_fault (take place (names_in statements)) (slice_index_or (names_in statements) place [])

-- the fault of names that are read: the leftmost that isn't among those of the file
abbrev pub read_fault : List (List ℕ) → List (List ℕ) → Option QueryFault
read_fault names reads = option_map Unknown (find (λ name. not (is_among names name)) reads)

-- the fault of the names that the statement at a place reads
abbrev pub read_fault_at : List Statement → ℕ → Option QueryFault
read_fault_at statements place = read_fault (names_in statements) (slice_index_or (map reads_by statements) place [])
