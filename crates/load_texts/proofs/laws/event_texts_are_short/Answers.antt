use Rattle.load_texts.proofs.LengthLemmas.{event_text-short}
use Rattle.load_texts.proofs.laws.event_texts_are_short.Goals as goal

pub returns : goal.returns
returns c = event_text-short
