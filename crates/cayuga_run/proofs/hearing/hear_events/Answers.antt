use Rattle.std.proofs.Common.{List, ◌∙◌, ◌+◌, ◌-◌, ◌≤◌, ◌++◌, length, length-take, take, drop, subst, sym, ap, arith}
use Rattle.std.proofs.Math.Facts.{Fits-of_lt}
use Rattle.std.proofs.lemmas.List.{length-take-le, take-append-le}
use Rattle.stream_schema.specs.Streams.{Entry}
use Rattle.catalogue.specs.Holding.{judged_in}
use Rattle.explanation.specs.HearingView.{HasHeard, HearsEnd, HearsPiece, StopsAtEnd, StopsAtPiece}
use Rattle.cayuga_run.specs.Blaming.{BlamesHost}
use Rattle.cayuga_run.specs.HearingHere.{HearsEvents}
use Rattle.cayuga_run.proofs.HereLemmas.{all_here, blames_done_here, blames_none_here, blames_read_here, heard_here, last_refused_here, none_here, read_failed_here, same_here, stopped_here, stops_at_read_here, stops_here, within_here}
use Rattle.cayuga_run.proofs.hearing.hear_events.Goals as goal

-- nothing is read before the first piece
pub pieces-init : goal.pieces-init
pieces-init g c = none_here c.args.catalogue.now.streams c.args.limit c.args.hearing.now (g.H.Host.told c.args.host.now) c.requires.heard c.requires.limit

-- a read failed
pub returns-in-Err-clause-hears : goal.returns-in-Err-clause-hears
returns-in-Err-clause-hears g c = read_failed_here c.requires.loaded c.pieces.invariant c.read.ensures.same c.in-Err.ensures.kept c.in-Err.ensures.cause c.pieces.hearing.history

pub returns-in-Err-clause-blames : goal.returns-in-Err-clause-blames
returns-in-Err-clause-blames g c = blames_read_here c.requires.loaded c.pieces.invariant c.read.ensures.same c.in-Err.ensures.last_failed

pub returns-in-Err-clause-stops : goal.returns-in-Err-clause-stops
returns-in-Err-clause-stops g c = stops_at_read_here c.requires.loaded c.pieces.invariant c.read.ensures.same c.in-Err.ensures.kept

pub returns-in-Err-clause-same : goal.returns-in-Err-clause-same
returns-in-Err-clause-same g c = same_here c.requires.loaded c.pieces.invariant c.read.ensures.same

-- the events have ended, and were heard
pub returns-in-Ok-finish-clause-hears : goal.returns-in-Ok-finish-clause-hears
returns-in-Ok-finish-clause-hears g c =
    let buffer = c.read.new.buf in
    let rest = drop c.piece_size-want.result c.pieces.piece in
    let slice = length-take c.piece_size-want.result c.pieces.piece in
    let want = c.piece_size-want.ensures in
    let small : length buffer ≤ 65536 = omega (arith, slice, want) in
    let room : length buffer ≤ c.args.limit - c.pieces.taken + 1 = omega (arith, slice, want) in
    let is = take-append-le c.in-Ok.count buffer rest c.in-Ok.ensures.took.fits in
    all_here c.requires.loaded c.pieces.invariant c.read.ensures.same c.in-Ok.count buffer (take c.in-Ok.count (buffer ++ rest)) is small room c.in-Ok.ensures.took c.in-Ok.ensures.quiet c.in-Ok.ensures.none_failed c.if-count-eq0.true c.finish.new.self.history (subst (λ (s : List Entry). HearsEnd s c.pieces.hearing c.finish.new.self) c.streams.ensures.value c.in-Ok-finish.ensures.heard c.pieces.invariant.bytes c.pieces.invariant.stands)

pub returns-in-Ok-finish-clause-blames : goal.returns-in-Ok-finish-clause-blames
returns-in-Ok-finish-clause-blames g c =
    let buffer = c.read.new.buf in
    let rest = drop c.piece_size-want.result c.pieces.piece in
    let slice = length-take c.piece_size-want.result c.pieces.piece in
    let want = c.piece_size-want.ensures in
    let small : length buffer ≤ 65536 = omega (arith, slice, want) in
    let room : length buffer ≤ c.args.limit - c.pieces.taken + 1 = omega (arith, slice, want) in
    let is = take-append-le c.in-Ok.count buffer rest c.in-Ok.ensures.took.fits in
    blames_done_here c.requires.loaded c.pieces.invariant c.read.ensures.same c.in-Ok.count buffer (take c.in-Ok.count (buffer ++ rest)) is small room c.in-Ok.ensures.took c.in-Ok.ensures.quiet c.in-Ok.ensures.none_failed

-- or their last line is refused
pub returns-in-Err-finish-clause-hears : goal.returns-in-Err-finish-clause-hears
returns-in-Err-finish-clause-hears g c =
    let buffer = c.read.new.buf in
    let rest = drop c.piece_size-want.result c.pieces.piece in
    let slice = length-take c.piece_size-want.result c.pieces.piece in
    let want = c.piece_size-want.ensures in
    let small : length buffer ≤ 65536 = omega (arith, slice, want) in
    let room : length buffer ≤ c.args.limit - c.pieces.taken + 1 = omega (arith, slice, want) in
    let is = take-append-le c.in-Ok.count buffer rest c.in-Ok.ensures.took.fits in
    subst (HearsEvents (judged_in c.args.catalogue.now) c.args.limit c.finish.new.self.history (g.H.Host.told c.args.host.now) (g.H.Host.told c.read.new.self)) (sym c.status_of.ensures)
    (last_refused_here c.requires.loaded c.pieces.invariant c.read.ensures.same c.in-Ok.count buffer (take c.in-Ok.count (buffer ++ rest)) is small room c.in-Ok.ensures.took c.in-Ok.ensures.quiet c.in-Ok.ensures.none_failed c.if-count-eq0.true c.finish.new.self.history c.in-Err-finish.fault (subst (λ (s : List Entry). StopsAtEnd s c.pieces.hearing c.in-Err-finish.fault) c.streams.ensures.value c.in-Err-finish.ensures.stops c.pieces.invariant.bytes c.pieces.invariant.stands))

pub returns-in-Err-finish-clause-blames : goal.returns-in-Err-finish-clause-blames
returns-in-Err-finish-clause-blames g c =
    let buffer = c.read.new.buf in
    let rest = drop c.piece_size-want.result c.pieces.piece in
    let slice = length-take c.piece_size-want.result c.pieces.piece in
    let want = c.piece_size-want.ensures in
    let small : length buffer ≤ 65536 = omega (arith, slice, want) in
    let room : length buffer ≤ c.args.limit - c.pieces.taken + 1 = omega (arith, slice, want) in
    let is = take-append-le c.in-Ok.count buffer rest c.in-Ok.ensures.took.fits in
    subst (BlamesHost (g.H.Host.told c.args.host.now) (g.H.Host.told c.read.new.self)) (sym c.status_of.ensures) (blames_none_here c.requires.loaded c.pieces.invariant c.read.ensures.same c.in-Ok.count buffer (take c.in-Ok.count (buffer ++ rest)) is small room c.in-Ok.ensures.took c.in-Ok.ensures.quiet c.in-Ok.ensures.none_failed c.in-Err-finish.fault)

-- the hearing stopped in a piece
pub returns-in-Err-feed-clause-hears : goal.returns-in-Err-feed-clause-hears
returns-in-Err-feed-clause-hears g c =
    let buffer = c.read.new.buf in
    let rest = drop c.piece_size-want.result c.pieces.piece in
    let slice = length-take c.piece_size-want.result c.pieces.piece in
    let want = c.piece_size-want.ensures in
    let small : length buffer ≤ 65536 = omega (arith, slice, want) in
    let room : length buffer ≤ c.args.limit - c.pieces.taken + 1 = omega (arith, slice, want) in
    let is = take-append-le c.in-Ok.count buffer rest c.in-Ok.ensures.took.fits in
    subst (HearsEvents (judged_in c.args.catalogue.now) c.args.limit c.feed.new.self.history (g.H.Host.told c.args.host.now) (g.H.Host.told c.read.new.self)) (sym c.status_of-in-Err-feed.ensures)
    (stopped_here c.requires.loaded c.pieces.invariant c.read.ensures.same c.in-Ok.count buffer (take c.in-Ok.count (buffer ++ rest)) is small room c.in-Ok.ensures.took c.in-Ok.ensures.quiet c.in-Ok.ensures.none_failed c.feed.new.self.history c.in-Err-feed.fault (subst (λ (s : List Entry). StopsAtPiece s (take c.in-Ok.count (buffer ++ rest)) c.pieces.hearing c.in-Err-feed.fault) c.streams-in-Ok.ensures.value c.in-Err-feed.ensures.stops c.pieces.invariant.bytes c.pieces.invariant.stands))

pub returns-in-Err-feed-clause-blames : goal.returns-in-Err-feed-clause-blames
returns-in-Err-feed-clause-blames g c =
    let buffer = c.read.new.buf in
    let rest = drop c.piece_size-want.result c.pieces.piece in
    let slice = length-take c.piece_size-want.result c.pieces.piece in
    let want = c.piece_size-want.ensures in
    let small : length buffer ≤ 65536 = omega (arith, slice, want) in
    let room : length buffer ≤ c.args.limit - c.pieces.taken + 1 = omega (arith, slice, want) in
    let is = take-append-le c.in-Ok.count buffer rest c.in-Ok.ensures.took.fits in
    subst (BlamesHost (g.H.Host.told c.args.host.now) (g.H.Host.told c.read.new.self)) (sym c.status_of-in-Err-feed.ensures) (blames_none_here c.requires.loaded c.pieces.invariant c.read.ensures.same c.in-Ok.count buffer (take c.in-Ok.count (buffer ++ rest)) is small room c.in-Ok.ensures.took c.in-Ok.ensures.quiet c.in-Ok.ensures.none_failed c.in-Err-feed.fault)

pub returns-in-Ok-finish-clause-stops : goal.returns-in-Ok-finish-clause-stops
returns-in-Ok-finish-clause-stops g c =
    let buffer = c.read.new.buf in
    let rest = drop c.piece_size-want.result c.pieces.piece in
    let slice = length-take c.piece_size-want.result c.pieces.piece in
    let want = c.piece_size-want.ensures in
    let small : length buffer ≤ 65536 = omega (arith, slice, want) in
    let room : length buffer ≤ c.args.limit - c.pieces.taken + 1 = omega (arith, slice, want) in
    let is = take-append-le c.in-Ok.count buffer rest c.in-Ok.ensures.took.fits in
    stops_here c.requires.loaded c.pieces.invariant c.read.ensures.same c.in-Ok.count buffer (take c.in-Ok.count (buffer ++ rest)) is small room c.in-Ok.ensures.took c.in-Ok.ensures.quiet c.in-Ok.ensures.none_failed

pub returns-in-Ok-finish-clause-same : goal.returns-in-Ok-finish-clause-same
returns-in-Ok-finish-clause-same g c = same_here c.requires.loaded c.pieces.invariant c.read.ensures.same

pub returns-in-Err-finish-clause-stops : goal.returns-in-Err-finish-clause-stops
returns-in-Err-finish-clause-stops g c =
    let buffer = c.read.new.buf in
    let rest = drop c.piece_size-want.result c.pieces.piece in
    let slice = length-take c.piece_size-want.result c.pieces.piece in
    let want = c.piece_size-want.ensures in
    let small : length buffer ≤ 65536 = omega (arith, slice, want) in
    let room : length buffer ≤ c.args.limit - c.pieces.taken + 1 = omega (arith, slice, want) in
    let is = take-append-le c.in-Ok.count buffer rest c.in-Ok.ensures.took.fits in
    stops_here c.requires.loaded c.pieces.invariant c.read.ensures.same c.in-Ok.count buffer (take c.in-Ok.count (buffer ++ rest)) is small room c.in-Ok.ensures.took c.in-Ok.ensures.quiet c.in-Ok.ensures.none_failed

pub returns-in-Err-finish-clause-same : goal.returns-in-Err-finish-clause-same
returns-in-Err-finish-clause-same g c = same_here c.requires.loaded c.pieces.invariant c.read.ensures.same

pub returns-in-Err-feed-clause-stops : goal.returns-in-Err-feed-clause-stops
returns-in-Err-feed-clause-stops g c =
    let buffer = c.read.new.buf in
    let rest = drop c.piece_size-want.result c.pieces.piece in
    let slice = length-take c.piece_size-want.result c.pieces.piece in
    let want = c.piece_size-want.ensures in
    let small : length buffer ≤ 65536 = omega (arith, slice, want) in
    let room : length buffer ≤ c.args.limit - c.pieces.taken + 1 = omega (arith, slice, want) in
    let is = take-append-le c.in-Ok.count buffer rest c.in-Ok.ensures.took.fits in
    stops_here c.requires.loaded c.pieces.invariant c.read.ensures.same c.in-Ok.count buffer (take c.in-Ok.count (buffer ++ rest)) is small room c.in-Ok.ensures.took c.in-Ok.ensures.quiet c.in-Ok.ensures.none_failed

pub returns-in-Err-feed-clause-same : goal.returns-in-Err-feed-clause-same
returns-in-Err-feed-clause-same g c = same_here c.requires.loaded c.pieces.invariant c.read.ensures.same

-- one more piece was heard
pub pieces-preserved : goal.pieces-preserved
pieces-preserved g c =
    let buffer = c.read.new.buf in
    let rest = drop c.piece_size-want.result c.pieces.piece in
    let slice = length-take c.piece_size-want.result c.pieces.piece in
    let want = c.piece_size-want.ensures in
    let small : length buffer ≤ 65536 = omega (arith, slice, want) in
    let room : length buffer ≤ c.args.limit - c.pieces.taken + 1 = omega (arith, slice, want) in
    let is = take-append-le c.in-Ok.count buffer rest c.in-Ok.ensures.took.fits in
    let sized = length-take-le c.in-Ok.count buffer c.in-Ok.ensures.took.fits in
    heard_here c.requires.loaded c.pieces.invariant c.read.ensures.same c.in-Ok.count buffer (take c.in-Ok.count (buffer ++ rest)) is small room c.in-Ok.ensures.took c.in-Ok.ensures.quiet c.in-Ok.ensures.none_failed c.feed.new.self (ap length is ∙ sized) c.feed.ensures.limit (subst (λ (s : List Entry). HearsPiece s (take c.in-Ok.count (buffer ++ rest)) c.pieces.hearing c.feed.new.self) c.streams-in-Ok.ensures.value c.in-Ok-feed.ensures.heard c.pieces.invariant.bytes c.pieces.invariant.stands)

pub overflow_add-taken : goal.overflow_add-taken
overflow_add-taken g c =
    let buffer = c.read.new.buf in
    let rest = drop c.piece_size-want.result c.pieces.piece in
    let slice = length-take c.piece_size-want.result c.pieces.piece in
    let want = c.piece_size-want.ensures in
    let small : length buffer ≤ 65536 = omega (arith, slice, want) in
    let room : length buffer ≤ c.args.limit - c.pieces.taken + 1 = omega (arith, slice, want) in
    let is = take-append-le c.in-Ok.count buffer rest c.in-Ok.ensures.took.fits in
    let sized = length-take-le c.in-Ok.count buffer c.in-Ok.ensures.took.fits in
    let within = within_here (heard_here c.requires.loaded c.pieces.invariant c.read.ensures.same c.in-Ok.count buffer (take c.in-Ok.count (buffer ++ rest)) is small room c.in-Ok.ensures.took c.in-Ok.ensures.quiet c.in-Ok.ensures.none_failed c.feed.new.self (ap length is ∙ sized) c.feed.ensures.limit (subst (λ (s : List Entry). HearsPiece s (take c.in-Ok.count (buffer ++ rest)) c.pieces.hearing c.feed.new.self) c.streams-in-Ok.ensures.value c.in-Ok-feed.ensures.heard c.pieces.invariant.bytes c.pieces.invariant.stands)) in
    let fits = c.ranges.limit.fits in
    Fits-of_lt (omega (arith, within, fits))

pub pieces-smaller : goal.pieces-smaller
pieces-smaller g c =
    let buffer = c.read.new.buf in
    let rest = drop c.piece_size-want.result c.pieces.piece in
    let slice = length-take c.piece_size-want.result c.pieces.piece in
    let want = c.piece_size-want.ensures in
    let small : length buffer ≤ 65536 = omega (arith, slice, want) in
    let room : length buffer ≤ c.args.limit - c.pieces.taken + 1 = omega (arith, slice, want) in
    let is = take-append-le c.in-Ok.count buffer rest c.in-Ok.ensures.took.fits in
    let sized = length-take-le c.in-Ok.count buffer c.in-Ok.ensures.took.fits in
    let within = within_here (heard_here c.requires.loaded c.pieces.invariant c.read.ensures.same c.in-Ok.count buffer (take c.in-Ok.count (buffer ++ rest)) is small room c.in-Ok.ensures.took c.in-Ok.ensures.quiet c.in-Ok.ensures.none_failed c.feed.new.self (ap length is ∙ sized) c.feed.ensures.limit (subst (λ (s : List Entry). HearsPiece s (take c.in-Ok.count (buffer ++ rest)) c.pieces.hearing c.feed.new.self) c.streams-in-Ok.ensures.value c.in-Ok-feed.ensures.heard c.pieces.invariant.bytes c.pieces.invariant.stands)) in
    let some = c.if-count-eq0.false in
    omega (arith, within, some)

-- bytes of a text were heard before a piece is, or the end
pub finish-requires : goal.finish-requires
finish-requires g c = (c.pieces.invariant.bytes, subst (λ (s : List Entry). HasHeard s c.pieces.invariant.bytes c.pieces.hearing) (sym c.streams.ensures.value) c.pieces.invariant.stands)

pub feed-requires : goal.feed-requires
feed-requires g c = (c.pieces.invariant.bytes, subst (λ (s : List Entry). HasHeard s c.pieces.invariant.bytes c.pieces.hearing) (sym c.streams-in-Ok.ensures.value) c.pieces.invariant.stands)
