-- What an accepted text to which queries are added keeps.
use Rattle.std.proofs.Common.{get_or}
use Rattle.std.specs.Prelude.{Contains}
use Rattle.std.proofs.lemmas.List.Elements.{All-contains}
use Rattle.cel_types.specs.SourceLaws.{kinds_in}
use Rattle.catalogue.specs.Judgement.{program_of}
use Rattle.independence.specs.Enlarging.{AddedQueriesChangeNoEvent, AddedQueriesChangeNoLine}
use Rattle.independence.proofs.AcceptedLemmas.{accepted-stands}
use Rattle.independence.proofs.EnlargingLemmas.{hear-same}
use Rattle.independence.proofs.EventLemmas.{read-alike}
use Rattle.independence.proofs.IndependenceLemmas.{reads_alone}
use Rattle.catalogue.proofs.ProgramLemmas.{accepted_are_programs}

-- added queries change no event
pub lines_are_read_alike : AddedQueriesChangeNoEvent
lines_are_read_alike text other_text judged other line accepts accepts_too adds = read-alike judged other (accepted-stands text judged accepts) (accepted-stands other_text other accepts_too) adds line

-- nor the fault of a line
pub lines_stay : AddedQueriesChangeNoLine
lines_stay text other_text judged other history other_history accepts accepts_too enlarges same = λ k d inside.
    reads_alone text other_text judged other history other_history accepts accepts_too (kinds_in judged.streams) (kinds_in other.streams) (accepted_are_programs text judged accepts) (accepted_are_programs other_text other accepts_too) k d inside
    (λ s stated read. All-contains (Contains other.statements) judged.statements s enlarges stated)
    (hear-same judged other (accepted-stands text judged accepts) (accepted-stands other_text other accepts_too) enlarges history other_history same (get_or (program_of judged).queries k d).name)
