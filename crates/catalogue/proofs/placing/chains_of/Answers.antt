use Rattle.std.proofs.Common.{◌≡◌, ◌∙◌, ◌-◌, length, sym, ap, arith}
use Rattle.std.proofs.lemmas.Result.{IfOk-weaker}
use Rattle.splitter.specs.Work.{AreChains}
use Rattle.catalogue.specs.Parts.{parts_of}
use Rattle.catalogue.specs.Chained.{AreChained, kinds_of_each}
use Rattle.catalogue.proofs.ChainedLemmas.{Asks, asks, chained, many_streams, streams_whole}
use Rattle.catalogue.proofs.HeldLemmas.{sizes}
use Rattle.catalogue.proofs.placing.chains_of.Goals as goal

-- there are as many statements as declared streams and queries
pub overflow_sub-declared : goal.overflow_sub-declared
overflow_sub-declared c =
    let sum = sizes (parts_of c.args.file.now c.args.streams.now c.args.order.now c.args.expressions.now) c.requires.accepted in
    let size : c.size.result ≡ length c.args.file.now.statements = c.size.ensures.value in
    let queries : c.len.result ≡ length c.args.order.now = c.len.ensures in
    omega (arith, sum, size, queries)

-- and each has a stream
pub stream_kinds-requires : goal.stream_kinds-requires
stream_kinds-requires c =
    let size : c.size-2.result ≡ length c.args.file.now.statements = c.size-2.ensures.value in
    size ∙ sym (many_streams (parts_of c.args.file.now c.args.streams.now c.args.order.now c.args.expressions.now) c.requires.accepted)
    ∙ ap length (streams_whole (length c.args.file.now.statements - length c.args.order.now) c.args.streams.now)

-- the queries are typed, and few numbers are taken for hidden streams
asked : (c : goal.In_ok-kinds) → Asks c.args.expressions.now c.args.places.now (c.size.result - c.len.result) c.in_ok-kinds.kinds
asked c =
    let sum = sizes (parts_of c.args.file.now c.args.streams.now c.args.order.now c.args.expressions.now) c.requires.accepted in
    let size : c.size.result ≡ length c.args.file.now.statements = c.size.ensures.value in
    let queries : c.len.result ≡ length c.args.order.now = c.len.ensures in
    let kinds : c.in_ok-kinds.kinds ≡ kinds_of_each c.args.streams.now = c.in_ok-kinds.ensures in
    asks (parts_of c.args.file.now c.args.streams.now c.args.order.now c.args.expressions.now) c.requires.accepted c.requires.typed c.args.places.now c.requires.placed (c.size.result - c.len.result) c.in_ok-kinds.kinds
    (omega (arith, sum, size, queries)) (kinds ∙ ap kinds_of_each (sym (streams_whole (length c.args.file.now.statements - length c.args.order.now) c.args.streams.now)))

pub make-requires-clause-typed : goal.make-requires-clause-typed
make-requires-clause-typed c = (asked c).typed

pub make-requires-clause-wide : goal.make-requires-clause-wide
make-requires-clause-wide c = (asked c).wide

pub make-requires-clause-given : goal.make-requires-clause-given
make-requires-clause-given c = (asked c).given

pub make-requires-clause-placed : goal.make-requires-clause-placed
make-requires-clause-placed c = (asked c).placed

pub make-requires-clause-room : goal.make-requires-clause-room
make-requires-clause-room c = (asked c).room

-- so the lines are those of the program, and the layout is its own
pub returns : goal.returns
returns c =
    let sum = sizes (parts_of c.args.file.now c.args.streams.now c.args.order.now c.args.expressions.now) c.requires.accepted in
    let size : c.size.result ≡ length c.args.file.now.statements = c.size.ensures.value in
    let queries : c.len.result ≡ length c.args.order.now = c.len.ensures in
    let kinds : c.in_ok-kinds.kinds ≡ kinds_of_each c.args.streams.now = c.in_ok-kinds.ensures in
    let parts = parts_of c.args.file.now c.args.streams.now c.args.order.now c.args.expressions.now in
    IfOk-weaker c.make.result (AreChains (c.size.result - c.len.result) c.args.expressions.now c.args.places.now c.in_ok-kinds.kinds) (AreChained parts)
    (chained parts c.requires.accepted c.requires.typed c.args.places.now c.requires.placed (c.size.result - c.len.result) c.in_ok-kinds.kinds
    (omega (arith, sum, size, queries)) (kinds ∙ ap kinds_of_each (sym (streams_whole (length c.args.file.now.statements - length c.args.order.now) c.args.streams.now))))
    c.make.ensures
