use Rattle.std.proofs.Common.{ℕ, [], get_or, List}
use Rattle.binding_index.specs.Leads.{Entries}
use Rattle.stream_readers.specs.Sweeping.{IsSwept}
use Rattle.stream_readers.proofs.KeyTableLemmas.{ChangedBelow}
use Rattle.stream_readers.proofs.sweeping.sweep_all.Given as goal

-- the directories of the streams so far are swept
abbrev pub invariant-loop-stream : goal.invariant-loop-stream
invariant-loop-stream l = ChangedBelow (λ (old new : List Entries). (attribute : ℕ) → IsSwept l.stores (get_or old attribute []) (get_or new attribute [])) [] l.stream l.initial.streams l.streams
