use Rattle.std.proofs.Common.{◌≡◌, ◌∙◌, sym, ap, ◌∷◌, []}
use Rattle.std.specs.Prelude.{Some}
use Rattle.std.specs.Option.{option_copied, option_map}
use Rattle.automaton.specs.States.{wait_at}
use Rattle.binding_index.specs.KeyParts.{key_of_part}
use Rattle.stream_readers.specs.KeyTables.{IsNoted}
use Rattle.stream_readers.specs.Leading.{lead_key}
use Rattle.epoch_draft.specs.Led.{LeadBy}
use Rattle.epoch_draft.proofs.LeadLemmas.{noted_leads, noted_on}
use Rattle.epoch_draft.proofs.Lists.{on_ok}
use Rattle.epoch_draft.proofs.readying.note_key.Goals as goal

-- the key leads to the state that is found by it
pub returns-clause-led : goal.returns-clause-led
returns-clause-led c =
    let net = c.args.network.now in
    let n = c.args.number in
    let w = c.in-Some.wait.now in
    let part = c.in-Some-lead_key.found in
    let old = c.args.keys.now in
    let new = c.note.new.self in
    let key = c.args.key.now in
    let at : wait_at net n ≡ Some w = sym c.wait.ensures ∙ ap option_copied c.in-Some.is in
    let by : lead_key w.choose ≡ Some (key_of_part part) = sym c.lead_key.ensures ∙ ap (option_map key_of_part) c.in-Some-lead_key.is in
    on_ok c.note.result (IsNoted w.stream part.event key n old new) (LeadBy net new n (key ∷ [])) (noted_leads net n w part key at by old new) c.note.ensures.ok

-- and each leads where it led
pub returns-clause-leads : goal.returns-clause-leads
returns-clause-leads c = noted_on c.in-Some.wait.now.stream c.in-Some-lead_key.found.event c.args.key.now c.args.number c.args.keys.now c.note.new.self c.note.result c.note.ensures.ok c.note.ensures.kept
