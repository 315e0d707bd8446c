-- What a session makes of more bytes of its event text, and of the end of the text.
use Rattle.std.specs.Prelude.{◌≡◌, ◌<◌, ⊤, ℕ, Bool, false, true, List, ◌++◌, length, take, Option, Some, None, Result, Ok, Err}
use Rattle.cay_host.specs.declared.call.Call.{Call}
use Rattle.cay_host.specs.declared.call.Call.TheVariants.{Write}
use Rattle.cay_host.specs.Faults.{Rose}
use Rattle.cay_host.specs.Output.{Wrote, WrotePart}
use Rattle.cay_host.specs.Told.{Told}
use Rattle.courses.specs.Course.{Course}
use Rattle.courses.specs.QuerySet.{QuerySet}
use Rattle.session.specs.declared.fault.SessionFault.{SessionFault}
use Rattle.session.specs.declared.fault.SessionFault.TheVariants.{Refused, TooMuch, WriteFault, Memory}
use Rattle.session.specs.WroteFront.{Beyond, WroteFront}
use Rattle.session.specs.SessionView.{HasFinished, SessionStandsFor, SessionView, refused_of, report_of}

-- the session stands for the longer text, and has written exactly the rows of the epochs that the new bytes closed
pub record Feeds (new : SessionView) (set : QuerySet) (past : Course) (text piece : List ℕ) (before after : Told) : Type 0 where
  pub stands : SessionStandsFor new set past (text ++ piece)
  pub wrote : Beyond Wrote (report_of set past text false) (report_of set past (text ++ piece) false) before after

-- whatever course and event text a session stood for, it stands for the longer text, and has written the rows that the new bytes closed
abbrev pub HearsPiece : SessionView → SessionView → List ℕ → Told → Told → Type 0
HearsPiece old new piece before after = (set : QuerySet) (past : Course) (text : List ℕ) → SessionStandsFor old set past text → Feeds new set past text piece before after

-- why a session stopped at an event text, which has ended or not, and what it wrote of its report beyond that of an earlier front of the text
abbrev pub StopsAt : QuerySet → Course → List ℕ → List ℕ → Bool → Told → Told → SessionFault → Type 0
StopsAt set past earlier text ended before after (Refused refusal) =
    (refused_of set past text ended ≡ Some refusal) × Beyond Wrote (report_of set past earlier false) (report_of set past text ended) before after
StopsAt set past earlier text ended before after (TooMuch limit) = ⊥
StopsAt set past earlier text ended before after WriteFault =
    Rose before.write_faults after.write_faults × Beyond WrotePart (report_of set past earlier false) (report_of set past text ended) before after
StopsAt set past earlier text ended before after Memory = Beyond WroteFront (report_of set past earlier false) (report_of set past text ended) before after

-- the bytes within the limit
abbrev pub within_limit : SessionView → List ℕ → List ℕ
within_limit session text = take session.limit text

-- why a session stopped at a piece behind an event text: at the bytes within the limit; or no line of these is refused, their report is written, and more bytes came
abbrev pub StopsAtPiece : SessionView → QuerySet → Course → List ℕ → List ℕ → Told → Told → SessionFault → Type 0
StopsAtPiece session set past text piece before after (TooMuch limit) =
    let heard = within_limit session (text ++ piece) in
    (limit ≡ session.limit) × (session.limit < length (text ++ piece)) × (refused_of set past heard false ≡ None)
    × Beyond Wrote (report_of set past text false) (report_of set past heard false) before after
StopsAtPiece session set past text piece before after fault = StopsAt set past text (within_limit session (text ++ piece)) false before after fault

-- the text has ended: no line of it is refused, the rows of the epochs that weren't closed before are written, and the session works for all of it; or why not
abbrev pub Finishes : SessionView → QuerySet → Course → List ℕ → Told → Told → Result (Unit {0}) SessionFault → Type 0
Finishes new set past text before after (Ok done) =
    (refused_of set past text true ≡ None) × Beyond Wrote (report_of set past text false) (report_of set past text true) before after × HasFinished new set past text
Finishes new set past text before after (Err fault) = StopsAt set past text text true before after fault

-- the same, whatever course and event text the session stood for
abbrev pub HearsEnd : SessionView → SessionView → Told → Told → Result (Unit {0}) SessionFault → Type 0
HearsEnd old new before after result = (set : QuerySet) (past : Course) (text : List ℕ) → SessionStandsFor old set past text → Finishes new set past text before after result

-- the count of write faults is the same, unless a failed write is the answer
abbrev pub BlamesWriting : Result (Unit {0}) SessionFault → Told → Told → Type 0
BlamesWriting (Err WriteFault) before after = ⊤
BlamesWriting other before after = after.write_faults ≡ before.write_faults

-- the write that a fault tells as failed
abbrev pub failed_write : SessionFault → Option Call
failed_write WriteFault = Some Write
failed_write other = None

-- that of an answer: none, where all was done
abbrev pub failed_in : {T : Type 0} → Result T SessionFault → Option Call
failed_in (Ok done) = None
failed_in (Err fault) = failed_write fault

-- why a session stopped at a piece, whatever course and event text it stood for
abbrev pub BreaksAtPiece : SessionView → List ℕ → Told → Told → SessionFault → Type 0
BreaksAtPiece session piece before after fault =
    (set : QuerySet) (past : Course) (text : List ℕ) → SessionStandsFor session set past text → StopsAtPiece session set past text piece before after fault
