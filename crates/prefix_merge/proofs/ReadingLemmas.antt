-- What reads each stream of a network that changes.
use Rattle.std.proofs.Common.{◌≡◌, ◌-◌, ◌<◌, false, length, take, ℕ, List, subst, sym}
use Rattle.std.specs.Prelude.{IfSome, None, Option}
use Rattle.std.proofs.lemmas.Option.{IfSome_then}
use Rattle.automaton.specs.Changes.{AddsRoot}
use Rattle.automaton.specs.States.{Net, is_used}
use Rattle.prefix_merge.proofs.BucketLemmas.{short_states}
use Rattle.stream_readers.specs.Readers.{AreReadersOf}
use Rattle.stream_readers.specs.declared.reader.Reader.{Reader}
use Rattle.stream_readers.proofs.GrownLemmas.{root_comes}
use Rattle.stream_readers.proofs.PartedLemmas.{same_readers}

-- readers stay as a root state comes
pub readers_root : (readers : Option (List Reader)) (number stream : ℕ) (old new : Net) → is_used old number ≡ false → AddsRoot number stream old new → IfSome readers (AreReadersOf old) → IfSome readers (AreReadersOf new)
readers_root readers number stream old new unused adds are = IfSome_then readers are (λ rs. root_comes old new number stream unused adds rs)

-- and as a last place is forgotten
pub readers_short : (readers : Option (List Reader)) (old : Net) → 0 < length old → is_used old (length old - 1) ≡ false → IfSome readers (AreReadersOf old) → IfSome readers (AreReadersOf (take (length old - 1) old))
readers_short readers old some unused are = IfSome_then readers are (λ rs. same_readers old (take (length old - 1) old) rs (short_states old some unused))

-- readers of a network to which a change is to come are those of the changed network
pub readers_changed : (readers : Option (List Reader)) (Changes : Net → Type 0) (new : Net) → Changes new → IfSome readers (λ rs. (net : Net) → Changes net → AreReadersOf net rs) → IfSome readers (AreReadersOf new)
readers_changed readers Changes new changes are = IfSome_then readers are (λ rs will. will new changes)

-- where there are none, there is nothing to keep
pub no_readers : (readers : Option (List Reader)) (net : Net) → readers ≡ None → IfSome readers (AreReadersOf net)
no_readers readers net none = subst (λ (rs : Option (List Reader)). IfSome rs (AreReadersOf net)) (sym none) tt
