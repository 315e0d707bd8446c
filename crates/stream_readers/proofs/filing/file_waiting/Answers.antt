use Rattle.std.proofs.Common.{◌∙◌, sym}
use Rattle.std.proofs.lemmas.Result.{on_ok_weaker}
use Rattle.stream_readers.specs.Leading.{lead_key}
use Rattle.stream_readers.proofs.GoneLemmas.{unused_unlisted}
use Rattle.stream_readers.proofs.GrownLemmas.{no_wait_filed, wait_filed}
use Rattle.stream_readers.proofs.MakeLemmas.{has_key, no_key}
use Rattle.stream_readers.proofs.filing.file_waiting.Goals as goal

-- it is found by a key
pub returns-then-is_some-clause-waits : goal.returns-then-is_some-clause-waits
returns-then-is_some-clause-waits c = λ before new known adds.
    let hop = c.args.hop.now in
    no_wait_filed c.args.network.now new c.places.ensures.network c.args.number before hop c.requires.free known adds c.args.readers.now (has_key (lead_key hop.wait.choose) c.lead_key.result c.lead_key.ensures (sym c.is_some.ensures ∙ c.if-is_some.true)) c.requires.waits

pub file_wait-requires : goal.file_wait-requires
file_wait-requires c = unused_unlisted c.args.network.now c.args.number c.args.hop.now.wait.stream c.args.readers.now c.requires.free c.requires.waits

-- it isn't
pub returns-clause-waits : goal.returns-clause-waits
returns-clause-waits c =
    let hop = c.args.hop.now in
    on_ok_weaker c.file_wait.result
    (λ files before new known adds.
    wait_filed c.args.network.now new c.places.ensures.network c.args.number before hop c.requires.free known adds c.args.readers.now c.file_wait.new.readers (no_key (lead_key hop.wait.choose) c.lead_key.result c.lead_key.ensures (sym c.is_some.ensures ∙ c.if-is_some.false)) files c.requires.waits)
    c.file_wait.ensures
