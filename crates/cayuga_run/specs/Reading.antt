-- How much of its files a job has read.
use Rattle.std.specs.Prelude.{◌≡◌, ◌≤◌, ℕ, ◌+◌, List, ◌++◌, length, Option, None, IfSome, true, false}
use Rattle.std.specs.Io.KnownBytes.{prepend_known}
use Rattle.cay_host.specs.declared.side.Side.TheVariants.{Queries, Events}
use Rattle.cay_host.specs.Files.{file_of}
use Rattle.cay_host.specs.Told.{Told}
use Rattle.courses.specs.QuerySet.{QuerySet, set_of}
use Rattle.courses.specs.Reports.{refused_in}
use Rattle.catalogue.specs.Judgement.{Judged}
use Rattle.cayuga_run.specs.Accepting.{IsAcceptedWith}
use Rattle.cayuga_run.specs.Here.{refused_here}
use Rattle.cayuga_run.specs.Refusing.{ReadsUpTo}
use Rattle.cayuga_run.specs.Works.{Work, ByWork}

-- at most so many bytes were taken from the front of a text, and this is the rest
pub record TakesAtMost (most : ℕ) (text rest : Option (List ℕ)) : Type 0 where
  pub taken : List ℕ
  pub few : length taken ≤ most
  pub front : text ≡ prepend_known taken rest

-- just so many bytes were taken from the front of a text, and this is the rest
pub record TakesExactly (many : ℕ) (text rest : Option (List ℕ)) : Type 0 where
  pub taken : List ℕ
  pub size : length taken ≡ many
  pub front : text ≡ prepend_known taken rest

-- the bytes that were taken of an event text have two parts: the first is within the limit, and no line of it is refused; the second has at most 65,536 bytes; and both have at most one byte more than the limit
pub record StopsInPiece (set : QuerySet) (limit : ℕ) (text rest : Option (List ℕ)) : Type 0 where
  pub heard : List ℕ
  pub piece : List ℕ
  pub front : text ≡ prepend_known (heard ++ piece) rest
  pub within : length heard ≤ limit
  pub none_refused : refused_in set heard false ≡ None
  pub few : length piece ≤ 65536
  pub most : length (heard ++ piece) ≤ limit + 1

-- nothing was taken of the queries before they were attached, and then at most 1,048,577 bytes: one more than a query text may have
pub record ReadsQueries (queries : List ℕ) (old new : Told) : Type 0 where
  pub unattached : new.attached Queries ≡ false → new.left Queries ≡ old.left Queries
  pub attached : new.attached Queries ≡ true → TakesAtMost 1048577 (file_of queries old.files) (new.left Queries)

-- nothing was taken of the events
pub record ReadsNoEvents (queries : List ℕ) (old new : Told) : Type 0 where
  pub of_queries : ReadsQueries queries old new
  pub of_events : new.left Events ≡ old.left Events

-- nothing was taken of the events before the queries were read to their end and accepted, and then no more than the piece in which a line is refused or the limit is passed
pub record ReadsBoth (queries events : List ℕ) (limit : ℕ) (old new : Told) : Type 0 where
  pub of_queries : ReadsQueries queries old new
  pub unattached : new.attached Events ≡ false → new.left Events ≡ old.left Events
  pub first : new.attached Events ≡ true → ReadsUpTo Events old new
  pub attached : new.attached Events ≡ true
      → IfSome (file_of queries old.files) (λ text. IsAcceptedWith text (λ judged. StopsInPiece (set_of judged) limit (file_of events old.files) (new.left Events)))

-- the same of an event text of which no control line is taken
pub record StopsInPieceHere (judged : Judged) (limit : ℕ) (text rest : Option (List ℕ)) : Type 0 where
  pub heard : List ℕ
  pub piece : List ℕ
  pub front : text ≡ prepend_known (heard ++ piece) rest
  pub within : length heard ≤ limit
  pub none_refused : refused_here judged heard false ≡ None
  pub few : length piece ≤ 65536
  pub most : length (heard ++ piece) ≤ limit + 1

-- nothing was taken of the events before the queries were read to their end and accepted, and then no more than the piece in which a line is refused or the limit is passed, where no control line is taken
pub record ReadsToExplain (queries events : List ℕ) (limit : ℕ) (old new : Told) : Type 0 where
  pub of_queries : ReadsQueries queries old new
  pub unattached : new.attached Events ≡ false → new.left Events ≡ old.left Events
  pub first : new.attached Events ≡ true → ReadsUpTo Events old new
  pub attached : new.attached Events ≡ true
      → IfSome (file_of queries old.files) (λ text. IsAcceptedWith text (λ judged. StopsInPieceHere judged limit (file_of events old.files) (new.left Events)))

-- what was read, by the work
abbrev pub Reads : Work → ℕ → Told → Told → Type 0
Reads work limit old new =
    ByWork work (new.left ≡ old.left) (λ run. ReadsBoth run.queries run.events limit old new) (λ writing. ReadsNoEvents writing.queries old new) (λ load. new.left ≡ old.left) (λ explaining. ReadsToExplain explaining.queries explaining.events limit old new)
