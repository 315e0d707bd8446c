use Rattle.std.proofs.Common.{◌≡◌, ◌∙◌, ap, sym}
use Rattle.std.specs.Prelude.{Some}
use Rattle.std.specs.Option.{option_copied}
use Rattle.automaton.specs.States.{wait_at}
use Rattle.stream_readers.specs.Leading.{lead_key}
use Rattle.stream_readers.proofs.GoneLemmas.{keyed_dropped, plain_listed, root_dropped, wait_dropped}
use Rattle.stream_readers.proofs.MakeLemmas.{has_key, no_key}
use Rattle.stream_readers.proofs.filing.drop_waiting.Goals as goal

pub drop_wait-requires : goal.drop_wait-requires
drop_wait-requires c =
    let wait = c.in-Some.wait.now in
    let here : Some wait ≡ wait_at c.args.network.now c.args.number = ap option_copied (sym c.in-Some.is) ∙ c.wait.ensures in
    plain_listed c.args.network.now c.args.number wait c.args.readers.now c.requires.used here (no_key (lead_key wait.choose) c.lead_key.result c.lead_key.ensures (sym c.is_some.ensures ∙ c.if-is_some.false)) c.requires.waits

-- it is found without a key
pub returns-clause-waits : goal.returns-clause-waits
returns-clause-waits c = λ new removes.
    let wait = c.in-Some.wait.now in
    let here : Some wait ≡ wait_at c.args.network.now c.args.number = ap option_copied (sym c.in-Some.is) ∙ c.wait.ensures in
    wait_dropped c.args.network.now new c.args.number removes wait c.args.readers.now c.drop_wait.new.readers here c.drop_wait.ensures c.requires.waits

-- it is found by one
pub returns-then-is_some-clause-waits : goal.returns-then-is_some-clause-waits
returns-then-is_some-clause-waits c = λ new removes.
    let wait = c.in-Some.wait.now in
    let here : Some wait ≡ wait_at c.args.network.now c.args.number = ap option_copied (sym c.in-Some.is) ∙ c.wait.ensures in
    keyed_dropped c.args.network.now new c.args.number removes wait c.args.readers.now here (has_key (lead_key wait.choose) c.lead_key.result c.lead_key.ensures (sym c.is_some.ensures ∙ c.if-is_some.true)) c.requires.waits

-- it is no waiting state
pub returns-in_default-clause-waits : goal.returns-in_default-clause-waits
returns-in_default-clause-waits c = λ new removes. root_dropped c.args.network.now new c.args.number removes c.args.readers.now (ap option_copied (sym c.in_default.is) ∙ c.wait.ensures) c.requires.waits
