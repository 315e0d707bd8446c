use Rattle.std.proofs.Common.{refl}
use Rattle.load_texts.specs.EventText.{event_text}
use Rattle.load_texts.proofs.text.EventText.of.Goals as goal

-- no byte was made yet
pub returns : goal.returns
unfolding event_text
returns c = rw (c.of.ensures, c.new.ensures.items) refl
