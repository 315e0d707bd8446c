use Rattle.catalogue.proofs.TypingLaws.{declared_or_fault, one_declaration, one_declare_fault}
use Rattle.catalogue.proofs.laws.declarations_have_one_answer.Goals as goal

pub returns : goal.returns
returns c = record { streams = one_declaration; fault = one_declare_fault; not_both = declared_or_fault }
