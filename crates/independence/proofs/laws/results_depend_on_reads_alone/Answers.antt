use Rattle.cel_types.specs.SourceLaws.{kinds_in}
use Rattle.independence.proofs.IndependenceLemmas.{reads_alone}
use Rattle.catalogue.proofs.ProgramLemmas.{accepted_are_programs}
use Rattle.independence.proofs.laws.results_depend_on_reads_alone.Goals as goal

pub returns : goal.returns
returns c text other_text judged other history other_history accepts accepts_too =
    reads_alone text other_text judged other history other_history accepts accepts_too (kinds_in judged.streams) (kinds_in other.streams) (accepted_are_programs text judged accepts) (accepted_are_programs other_text other accepts_too)
