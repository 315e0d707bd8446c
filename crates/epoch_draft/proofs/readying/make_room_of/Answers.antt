use Rattle.std.proofs.Common.{◌≡◌, ◌∙◌, sym, ap, get_or, List}
use Rattle.std.specs.Option.{option_copied}
use Rattle.std.proofs.lemmas.Option.{get_or_from_slice_get}
use Rattle.event_types.specs.declared.value.Value.{Value}
use Rattle.event_types.specs.declared.value.Value.TheVariants.{Over}
use Rattle.semantics.specs.Values.{value_at}
use Rattle.instances.specs.Keys.{Key, key_of_places}
use Rattle.binding_index.specs.Stores.{key_of, ready_of}
use Rattle.epoch_draft.proofs.LeadLemmas.{by_kept, by_ready, ready_at, room_by_ready}
use Rattle.epoch_draft.proofs.readying.make_room_of.Goals as goal

-- the last instance has its key at the place of that of the store
pub is_ready-requires : goal.is_ready-requires
is_ready-requires c =
    let key = sym c.key_places.ensures ∙ ap key_of_places c.in-Some.is in
    let found : Key = record { event = c.in-Some.places.event; binding = c.in-Some.places.binding } in
    ready_at found (key_of c.args.store.now) (ready_of c.args.store.now) (option_copied c.args.last) key c.requires.last

-- the key is ready there
pub returns-then-is_ready-clause-room : goal.returns-then-is_ready-clause-room
returns-then-is_ready-clause-room c =
    let places = c.in-Some.places in
    let key = c.get-key.result.now in
    let t = c.args.instance.now.tuple in
    let found : Key = record { event = places.event; binding = places.binding } in
    let of = sym c.key_places.ensures ∙ ap key_of_places c.in-Some.is in
    let value : value_at t places.binding ≡ key = ap (λ (vs : List Value). get_or vs places.binding Over) (sym c.vals.ensures) ∙ get_or_from_slice_get c.vals.result.now places.binding key Over c.get-key.ensures in
    room_by_ready found (key_of c.args.store.now) (ready_of c.args.store.now) t key of value (sym c.is_ready.ensures ∙ c.if-is_ready.true)

-- want of memory leaves what leads to the state
pub returns-in_err-note_key-clause-led : goal.returns-in_err-note_key-clause-led
returns-in_err-note_key-clause-led c = by_kept c.args.network.now c.args.number c.args.keys.now c.note_key.new.keys (ready_of c.args.store.now) c.note_key.ensures.leads c.requires.led

-- the key of the instance leads there, and so does each that is ready
pub returns-clause-led : goal.returns-clause-led
returns-clause-led c =
    let net = c.args.network.now in
    let n = c.args.number in
    let keys = c.note_key.new.keys in
    let store = c.args.store.now in
    let places = c.in-Some.places in
    let key = c.get-key.result.now in
    let t = c.args.instance.now.tuple in
    let found : Key = record { event = places.event; binding = places.binding } in
    let of = sym c.key_places.ensures ∙ ap key_of_places c.in-Some.is in
    let value : value_at t places.binding ≡ key = ap (λ (vs : List Value). get_or vs places.binding Over) (sym c.vals.ensures) ∙ get_or_from_slice_get c.vals.result.now places.binding key Over c.get-key.ensures in
    let kept = by_kept net n c.args.keys.now keys (ready_of store) c.note_key.ensures.leads c.requires.led in
    by_ready net n keys found (key_of store) key (ready_of store) (ready_of c.ready-2.new.self) t of value kept c.in_ok-note_key.ensures.led c.ready-2.ensures.only
