use Rattle.std.proofs.lemmas.List.Elements.{All-weaker}
use Rattle.event_types.specs.Tuple.{IsSound}
use Rattle.epoch_laws.specs.Times.{IsPast}
use Rattle.epoch_laws.proofs.Waits as lemma
use Rattle.epoch_laws.proofs.wait_early.Goals as goal

pub returns : goal.returns
returns c time choose turn tuples bindings all past = lemma.chosen_before time choose tuples (All-weaker (IsPast time) IsSound (λ r h. h.0) tuples all) turn bindings
