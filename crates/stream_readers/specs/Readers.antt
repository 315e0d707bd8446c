-- What reads each stream of a network.
use Rattle.std.specs.Prelude.{◌≡◌, ℕ, List, [], length, map, slice_index_or}
use Rattle.std.specs.List.{filter, flat_map, range_with_len}
use Rattle.std.specs.List.Sorted.{IsPermutation}
use Rattle.automaton.specs.States.{Net}
use Rattle.stream_readers.specs.Filing.{filed_to, waiting_as}
use Rattle.stream_readers.specs.Finding.{is_root_on, plain_waits_on}
use Rattle.stream_readers.specs.Targets.{targets_at}
use Rattle.stream_readers.specs.declared.reader.Reader.{Reader}
use Rattle.stream_readers.specs.declared.target.Target.{Target}

-- nothing reads a stream
abbrev pub no_reader : Reader
no_reader = record { targets = []; waits = [] }

-- what reads a stream: nothing, where it isn't listed
abbrev pub reader_at : List Reader → ℕ → Reader
reader_at readers stream = slice_index_or readers stream no_reader

-- the targets of the roots of a stream
abbrev pub targets_on : Net → ℕ → List Target
targets_on net stream = flat_map (targets_at net) (filter (is_root_on net stream) (range_with_len 0 (length net)))

-- a reader has the targets of the roots of a stream, in whatever order, and the states that wait on it without a key to find them, each under what it asks of a tuple alone
pub record IsReaderOf (net : Net) (stream : ℕ) (reader : Reader) : Type 0 where
  pub targets : IsPermutation reader.targets (map (filed_to net) (targets_on net stream))
  pub waits : reader.waits ≡ map (waiting_as net) (plain_waits_on net stream)

-- the readers are those of a network's streams, by their numbers
abbrev pub AreReadersOf : Net → List Reader → Type 0
AreReadersOf net readers = (stream : ℕ) → IsReaderOf net stream (reader_at readers stream)
