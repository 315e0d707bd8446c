use Rattle.catalogue.proofs.TypingLaws.{one_publication, one_publish_fault, published_or_fault}
use Rattle.catalogue.proofs.laws.queries_have_one_answer.Goals as goal

pub returns : goal.returns
returns c = record { streams = one_publication; fault = one_publish_fault; not_both = published_or_fault }
