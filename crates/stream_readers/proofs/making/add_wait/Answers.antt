use Rattle.std.proofs.Common.{◌≡◌, ◌∙◌, ap, sym, ◌+◌}
use Rattle.std.specs.Prelude.{Some}
use Rattle.std.specs.Option.{option_copied}
use Rattle.std.proofs.lemmas.Result.{on_ok_weaker}
use Rattle.automaton.specs.States.{wait_at}
use Rattle.stream_readers.specs.Leading.{lead_key}
use Rattle.stream_readers.proofs.MakeLemmas.{has_key, keyed_quiet, no_key, no_wait_made, root_quiet, wait_absent, wait_made}
use Rattle.stream_readers.proofs.making.add_wait.Goals as goal

-- it waits on nothing
pub returns-in_default : goal.returns-in_default
returns-in_default c =
    let net = c.args.network.now in
    let n = c.args.number in
    no_wait_made net (n + 1) n c.args.readers.now (root_quiet net n (ap option_copied (sym c.in_default.is) ∙ c.wait.ensures)) c.requires.below

-- it is found by a key
pub returns-then-is_some : goal.returns-then-is_some
returns-then-is_some c =
    let net = c.args.network.now in
    let n = c.args.number in
    let wait = c.in-Some.wait.now in
    let here : Some wait ≡ wait_at net n = ap option_copied (sym c.in-Some.is) ∙ c.wait.ensures in
    no_wait_made net (n + 1) n c.args.readers.now (keyed_quiet net n wait here (has_key (lead_key wait.choose) c.lead_key.result c.lead_key.ensures (sym c.is_some.ensures ∙ c.if-is_some.true))) c.requires.below

pub file_wait-requires : goal.file_wait-requires
file_wait-requires c = wait_absent c.args.network.now (c.args.number + 1) c.args.number c.in-Some.wait.now.stream c.args.readers.now c.requires.below

pub returns : goal.returns
returns c =
    let net = c.args.network.now in
    let n = c.args.number in
    let wait = c.in-Some.wait.now in
    let here : Some wait ≡ wait_at net n = ap option_copied (sym c.in-Some.is) ∙ c.wait.ensures in
    on_ok_weaker c.file_wait.result
    (λ files. wait_made net (n + 1) n wait c.args.readers.now c.file_wait.new.readers here (no_key (lead_key wait.choose) c.lead_key.result c.lead_key.ensures (sym c.is_some.ensures ∙ c.if-is_some.false)) files c.requires.below) c.file_wait.ensures
