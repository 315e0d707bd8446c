-- Why the queries weren't accepted. No public clause cites this module.
use Rattle.std.specs.Prelude.{⊤, ◌≡◌, ℕ, List, IfSome}
use Rattle.cay_host.specs.declared.side.Side.TheVariants.{Queries}
use Rattle.cay_host.specs.Faults.{Rose}
use Rattle.cay_host.specs.Told.{Told}
use Rattle.catalogue.specs.Judgement.{Circles, Refuses}
use Rattle.cayuga_run.specs.declared.status.Status.{Status}
use Rattle.cayuga_run.specs.declared.status.Status.TheVariants.{BadQuery, Cycle, ReadFault, Memory}

-- the text is refused, or there was no memory
abbrev pub TextFails : List ℕ → Status → Type 0
TextFails text (BadQuery line why) = Refuses text line why
TextFails text (Cycle names) = Circles text names
TextFails text Memory = ⊤
TextFails text other = ⊥

-- the queries are refused, or couldn't be read, or there was no memory
abbrev pub QueriesFail : Told → Told → Status → Type 0
QueriesFail before after (BadQuery line why) = IfSome (before.left Queries) (λ text. Refuses text line why)
QueriesFail before after (Cycle names) = IfSome (before.left Queries) (λ text. Circles text names)
QueriesFail before after (ReadFault side) = (side ≡ Queries) × Rose before.read_faults after.read_faults
QueriesFail before after Memory = ⊤
QueriesFail before after other = ⊥
