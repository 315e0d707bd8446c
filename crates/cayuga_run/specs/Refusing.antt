-- What is told where the queries weren't accepted.
use Rattle.std.specs.Prelude.{◌≡◌, ℕ, List, [], true, false, IfSome}
use Rattle.cay_host.specs.declared.side.Side.{Side}
use Rattle.cay_host.specs.declared.side.Side.TheVariants.{Queries, Events}
use Rattle.cay_host.specs.Faults.{Rose}
use Rattle.cay_host.specs.Files.{file_of, lacks}
use Rattle.cay_host.specs.Output.{KeepsOutput}
use Rattle.cay_host.specs.Told.{Told}
use Rattle.catalogue.specs.declared.fault.QueryFault.{QueryFault}
use Rattle.catalogue.specs.Judgement.{Circles, Refuses}
use Rattle.cayuga_run.specs.declared.status.Status.{Status}
use Rattle.cayuga_run.specs.declared.status.Status.TheVariants.{BadQuery, Cycle, AttachFault, ReadFault, Memory}

-- where the host tells the query file of this name
abbrev pub OfQueries : List ℕ → Told → (List ℕ → Type 0) → Type 0
OfQueries queries old P = IfSome (file_of queries old.files) P

-- the query text is refused at that line for that reason, and nothing was written
pub record IsBadQuery (line : ℕ) (why : QueryFault) (queries : List ℕ) (old new : Told) : Type 0 where
  pub there : lacks queries old.files ≡ false
  pub refused : OfQueries queries old (λ text. Refuses text line why)
  pub silent : KeepsOutput old new

-- the queries of the text read one another in the circle of these names, and nothing was written
pub record AnswersCycle (names : List (List ℕ)) (queries : List ℕ) (old new : Told) : Type 0 where
  pub there : lacks queries old.files ≡ false
  pub circles : OfQueries queries old (λ text. Circles text names)
  pub silent : KeepsOutput old new

-- the side isn't attached, the one before it is, and the one after it isn't
abbrev pub StoppedAt : Side → Told → Type 0
StoppedAt Queries new = (new.attached Queries ≡ false) × (new.attached Events ≡ false)
StoppedAt Events new = (new.attached Queries ≡ true) × (new.attached Events ≡ false)

-- nothing is left of the side before this one, and nothing was read of the one after it
abbrev pub ReadsUpTo : Side → Told → Told → Type 0
ReadsUpTo Queries old new = new.left Events ≡ old.left Events
ReadsUpTo Events old new = IfSome (new.left Queries) (λ rest. rest ≡ [])

-- the queries couldn't be attached: the count of attach faults rose, or the host tells that it has no such file; nothing was read or written
pub record AreNotAttached (queries : List ℕ) (old new : Told) : Type 0 where
  pub cause : lacks queries old.files ≡ false → Rose old.attach_faults new.attach_faults
  pub stopped : StoppedAt Queries new
  pub unread : new.left Queries ≡ old.left Queries
  pub others : ReadsUpTo Queries old new
  pub silent : KeepsOutput old new

-- a read of the queries failed: the events weren't attached or read, and nothing was written
pub record StoppedInQueries (queries : List ℕ) (old new : Told) : Type 0 where
  pub there : lacks queries old.files ≡ false
  pub events : new.attached Events ≡ false
  pub others : ReadsUpTo Queries old new
  pub silent : KeepsOutput old new

-- the count of read faults rose, and the queries are attached
pub record AreNotRead (queries : List ℕ) (old new : Told) : Type 0 where
  pub cause : Rose old.read_faults new.read_faults
  pub attached : new.attached Queries ≡ true
  pub stopped : StoppedInQueries queries old new

-- the queries weren't accepted, by the status
abbrev pub AreNotAccepted : List ℕ → Told → Told → Status → Type 0
AreNotAccepted queries old new (BadQuery line why) = IsBadQuery line why queries old new
AreNotAccepted queries old new (Cycle names) = AnswersCycle names queries old new
AreNotAccepted queries old new (AttachFault side) = (side ≡ Queries) × AreNotAttached queries old new
AreNotAccepted queries old new (ReadFault side) = (side ≡ Queries) × AreNotRead queries old new
AreNotAccepted queries old new Memory = KeepsOutput old new
AreNotAccepted queries old new other = ⊥
