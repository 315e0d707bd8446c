-- Readers of the states of a network as far as it was gone through. No public clause cites this module.
use Rattle.std.specs.Prelude.{◌≡◌, ℕ, List, map}
use Rattle.std.specs.List.{filter, flat_map, range_with_len}
use Rattle.std.specs.List.Sorted.{IsPermutation}
use Rattle.automaton.specs.States.{Net}
use Rattle.stream_readers.specs.Filing.{filed_to, waiting_as}
use Rattle.stream_readers.specs.Finding.{is_plain_on, is_root_on}
use Rattle.stream_readers.specs.Readers.{reader_at}
use Rattle.stream_readers.specs.Targets.{targets_at}
use Rattle.stream_readers.specs.declared.reader.Reader.{Reader}

-- the readers have the targets of the roots with numbers below the first one, and the waiting states with numbers below the second
pub record AreReadersBelow (net : Net) (roots waits : ℕ) (readers : List Reader) : Type 0 where
  pub of_roots : (stream : ℕ) → IsPermutation (reader_at readers stream).targets (map (filed_to net) (flat_map (targets_at net) (filter (is_root_on net stream) (range_with_len 0 roots))))
  pub waiting : (stream : ℕ) → (reader_at readers stream).waits ≡ map (waiting_as net) (filter (is_plain_on net stream) (range_with_len 0 waits))
