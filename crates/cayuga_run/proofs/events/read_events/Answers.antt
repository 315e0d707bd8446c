use Rattle.std.proofs.Common.{◌+◌, ◌-◌, ◌≤◌, [], ◌++◌, length, length-append, length-take, take, drop, false, refl, subst, sym, ap, arith}
use Rattle.std.proofs.Math.Facts.{Fits-of_lt}
use Rattle.cay_host.specs.declared.side.Side.TheVariants.{Events}
use Rattle.catalogue.specs.Holding.{judged_in}
use Rattle.courses.specs.QuerySet.{set_of}
use Rattle.cayuga_run.specs.declared.status.Status.TheVariants.{Done}
use Rattle.cayuga_run.specs.Blaming.{BlamesHost}
use Rattle.cayuga_run.specs.HearingOutcome.{Hears}
use Rattle.cayuga_run.proofs.BlamingLemmas.{blames_none}
use Rattle.cayuga_run.proofs.HearingLemmas.{alone_read, alone_written, blames_fault, blames_read, heard_more, heard_none, heard_within, hears_all, piece_is, read_failed, same_faults, stops_at_end, stops_at_piece, taken_more}
use Rattle.cayuga_run.proofs.ReadingLemmas.{stops_at_read, stops_in_piece, stops_then_writes}
use Rattle.cayuga_run.proofs.TestsLemmas.{rises_not, tests_at_end, tests_at_piece, tests_at_read, tests_more}
use Rattle.cayuga_run.proofs.events.read_events.Goals as goal

-- nothing is read before the first piece
pub pieces-init : goal.pieces-init
unfolding heard_none
pieces-init g c = (
  heard_none (set_of (judged_in c.args.session.now.catalogue)) c.args.limit c.args.session.now (g.H.Host.told c.args.host.now) c.requires.stands c.requires.limit,
  rises_not (set_of (judged_in c.args.session.now.catalogue)) [] false c.args.steps.now,
)

-- a read failed
pub returns-in-Err-clause-hears : goal.returns-in-Err-clause-hears
returns-in-Err-clause-hears g c = read_failed c.pieces.invariant.0 c.in-Err.ensures.kept c.in-Err.ensures.cause c.read.ensures.same

pub returns-in-Err-clause-blames : goal.returns-in-Err-clause-blames
returns-in-Err-clause-blames g c = blames_read c.pieces.invariant.0 c.read.ensures.same c.in-Err.ensures.last_failed

-- the events have ended
pub returns-in-Ok-finish-clause-hears : goal.returns-in-Ok-finish-clause-hears
returns-in-Ok-finish-clause-hears g c =
    let buffer = c.read.new.buf in
    let rest = drop c.piece_size-want.result c.pieces.piece in
    let slice = length-take c.piece_size-want.result c.pieces.piece in
    let room : length buffer ≤ 65536 = omega (arith, slice) in
    let t = taken_more c.pieces.invariant.0 c.in-Ok.count buffer rest room c.in-Ok.ensures.took c.read.ensures.same c.in-Ok.ensures.quiet c.in-Ok.ensures.none_failed in
    let none = ap (λ n. take n (buffer ++ rest)) c.if-count-eq0.true in
    hears_all t c.finish.ensures.same none (c.in-Ok.ensures.took.end c.if-count-eq0.true) c.finish.new.self (c.in-Ok-finish.ensures.finished (set_of (judged_in c.args.session.now.catalogue)) [] c.pieces.invariant.0.bytes c.pieces.invariant.0.stands)

pub returns-in-Err-finish-clause-hears : goal.returns-in-Err-finish-clause-hears
returns-in-Err-finish-clause-hears g c =
    let buffer = c.read.new.buf in
    let rest = drop c.piece_size-want.result c.pieces.piece in
    let slice = length-take c.piece_size-want.result c.pieces.piece in
    let room : length buffer ≤ 65536 = omega (arith, slice) in
    let t = taken_more c.pieces.invariant.0 c.in-Ok.count buffer rest room c.in-Ok.ensures.took c.read.ensures.same c.in-Ok.ensures.quiet c.in-Ok.ensures.none_failed in
    let none = ap (λ n. take n (buffer ++ rest)) c.if-count-eq0.true in
    subst (Hears (set_of (judged_in c.args.session.now.catalogue)) c.args.limit c.finish.new.self (g.H.Host.told c.args.host.now) (g.H.Host.told c.finish.new.host)) (sym c.status_of.ensures)
    (stops_at_end t c.finish.ensures.same none (c.in-Ok.ensures.took.end c.if-count-eq0.true) c.finish.new.self c.in-Err-finish.fault (c.in-Err-finish.ensures.finished (set_of (judged_in c.args.session.now.catalogue)) [] c.pieces.invariant.0.bytes c.pieces.invariant.0.stands))

-- one more piece was heard
pub pieces-preserved : goal.pieces-preserved
unfolding heard_more
pieces-preserved g c =
    let buffer = c.read.new.buf in
    let rest = drop c.piece_size-want.result c.pieces.piece in
    let slice = length-take c.piece_size-want.result c.pieces.piece in
    let room : length buffer ≤ 65536 = omega (arith, slice) in
    let t = taken_more c.pieces.invariant.0 c.in-Ok.count buffer rest room c.in-Ok.ensures.took c.read.ensures.same c.in-Ok.ensures.quiet c.in-Ok.ensures.none_failed in
    let heard = c.pieces.invariant.0 in
    let feeds = c.in-Ok-feed.ensures.fed (set_of (judged_in c.args.session.now.catalogue)) [] heard.bytes heard.stands in
    let sized = piece_is c.in-Ok.count buffer rest c.in-Ok.ensures.took in
    let more = heard_more t c.feed.ensures.same c.feed.new.self c.pieces.taken c.in-Ok.count heard.counted sized feeds c.feed.ensures.limit c.in-Ok-feed.ensures.quiet c.in-Ok-feed.ensures.last in
    let within = heard_within more in
    let counted = more.counted in
    (more, tests_more c.args.steps.now c.pieces.steps c.feed.new.steps t c.pieces.invariant.1 (omega (arith, within, counted)) c.feed.ensures.tests)

pub overflow_add-taken : goal.overflow_add-taken
overflow_add-taken g c =
    let buffer = c.read.new.buf in
    let rest = drop c.piece_size-want.result c.pieces.piece in
    let slice = length-take c.piece_size-want.result c.pieces.piece in
    let room : length buffer ≤ 65536 = omega (arith, slice) in
    let t = taken_more c.pieces.invariant.0 c.in-Ok.count buffer rest room c.in-Ok.ensures.took c.read.ensures.same c.in-Ok.ensures.quiet c.in-Ok.ensures.none_failed in
    let heard = c.pieces.invariant.0 in
    let feeds = c.in-Ok-feed.ensures.fed (set_of (judged_in c.args.session.now.catalogue)) [] heard.bytes heard.stands in
    let sized = piece_is c.in-Ok.count buffer rest c.in-Ok.ensures.took in
    let more = heard_more t c.feed.ensures.same c.feed.new.self c.pieces.taken c.in-Ok.count heard.counted sized feeds c.feed.ensures.limit c.in-Ok-feed.ensures.quiet c.in-Ok-feed.ensures.last in
    let within = heard_within more in
    let fits = c.ranges.limit.fits in
    Fits-of_lt (omega (arith, within, fits))

pub pieces-smaller : goal.pieces-smaller
pieces-smaller g c =
    let buffer = c.read.new.buf in
    let rest = drop c.piece_size-want.result c.pieces.piece in
    let slice = length-take c.piece_size-want.result c.pieces.piece in
    let room : length buffer ≤ 65536 = omega (arith, slice) in
    let t = taken_more c.pieces.invariant.0 c.in-Ok.count buffer rest room c.in-Ok.ensures.took c.read.ensures.same c.in-Ok.ensures.quiet c.in-Ok.ensures.none_failed in
    let heard = c.pieces.invariant.0 in
    let feeds = c.in-Ok-feed.ensures.fed (set_of (judged_in c.args.session.now.catalogue)) [] heard.bytes heard.stands in
    let sized = piece_is c.in-Ok.count buffer rest c.in-Ok.ensures.took in
    let more = heard_more t c.feed.ensures.same c.feed.new.self c.pieces.taken c.in-Ok.count heard.counted sized feeds c.feed.ensures.limit c.in-Ok-feed.ensures.quiet c.in-Ok-feed.ensures.last in
    let within = heard_within more in
    let some = c.if-count-eq0.false in
    omega (arith, within, some)

-- the session stopped at a piece
pub returns-in-Err-feed-clause-hears : goal.returns-in-Err-feed-clause-hears
returns-in-Err-feed-clause-hears g c =
    let buffer = c.read.new.buf in
    let rest = drop c.piece_size-want.result c.pieces.piece in
    let slice = length-take c.piece_size-want.result c.pieces.piece in
    let room : length buffer ≤ 65536 = omega (arith, slice) in
    let t = taken_more c.pieces.invariant.0 c.in-Ok.count buffer rest room c.in-Ok.ensures.took c.read.ensures.same c.in-Ok.ensures.quiet c.in-Ok.ensures.none_failed in
    let heard = c.pieces.invariant.0 in
    let sized = piece_is c.in-Ok.count buffer rest c.in-Ok.ensures.took in
    let fits = c.in-Ok.ensures.took.fits in
    let want = c.piece_size-want.ensures in
    let within = heard_within heard in
    let counted = heard.counted in
    let both = length-append heard.bytes (take c.in-Ok.count (buffer ++ rest)) in
    let most : length (heard.bytes ++ take c.in-Ok.count (buffer ++ rest)) ≤ c.args.limit + 1 = omega (arith, sized, fits, slice, want, within, counted, both) in
    subst (Hears (set_of (judged_in c.args.session.now.catalogue)) c.args.limit c.feed.new.self (g.H.Host.told c.args.host.now) (g.H.Host.told c.feed.new.host)) (sym c.status_of-in-Err-feed.ensures)
    (stops_at_piece t c.feed.ensures.same most c.feed.new.self c.in-Err-feed.fault (c.in-Err-feed.ensures.broken (set_of (judged_in c.args.session.now.catalogue)) [] c.pieces.invariant.0.bytes c.pieces.invariant.0.stands))

-- the host's calls that came before are no fault of the answer
pub returns-in-Ok-finish-clause-blames : goal.returns-in-Ok-finish-clause-blames
returns-in-Ok-finish-clause-blames g c =
    let buffer = c.read.new.buf in
    let rest = drop c.piece_size-want.result c.pieces.piece in
    let slice = length-take c.piece_size-want.result c.pieces.piece in
    let room : length buffer ≤ 65536 = omega (arith, slice) in
    let t = taken_more c.pieces.invariant.0 c.in-Ok.count buffer rest room c.in-Ok.ensures.took c.read.ensures.same c.in-Ok.ensures.quiet c.in-Ok.ensures.none_failed in
    blames_none Done refl (same_faults t c.finish.ensures.same c.in-Ok-finish.ensures.quiet c.in-Ok-finish.ensures.last)

pub returns-in-Err-finish-clause-blames : goal.returns-in-Err-finish-clause-blames
returns-in-Err-finish-clause-blames g c =
    let buffer = c.read.new.buf in
    let rest = drop c.piece_size-want.result c.pieces.piece in
    let slice = length-take c.piece_size-want.result c.pieces.piece in
    let room : length buffer ≤ 65536 = omega (arith, slice) in
    let t = taken_more c.pieces.invariant.0 c.in-Ok.count buffer rest room c.in-Ok.ensures.took c.read.ensures.same c.in-Ok.ensures.quiet c.in-Ok.ensures.none_failed in
    subst (BlamesHost (g.H.Host.told c.args.host.now) (g.H.Host.told c.finish.new.host)) (sym c.status_of.ensures) (blames_fault t c.finish.ensures.same c.in-Err-finish.fault c.in-Err-finish.ensures.quiet c.in-Err-finish.ensures.last)

pub returns-in-Err-feed-clause-blames : goal.returns-in-Err-feed-clause-blames
returns-in-Err-feed-clause-blames g c =
    let buffer = c.read.new.buf in
    let rest = drop c.piece_size-want.result c.pieces.piece in
    let slice = length-take c.piece_size-want.result c.pieces.piece in
    let room : length buffer ≤ 65536 = omega (arith, slice) in
    let t = taken_more c.pieces.invariant.0 c.in-Ok.count buffer rest room c.in-Ok.ensures.took c.read.ensures.same c.in-Ok.ensures.quiet c.in-Ok.ensures.none_failed in
    subst (BlamesHost (g.H.Host.told c.args.host.now) (g.H.Host.told c.feed.new.host)) (sym c.status_of-in-Err-feed.ensures) (blames_fault t c.feed.ensures.same c.in-Err-feed.fault c.in-Err-feed.ensures.quiet c.in-Err-feed.ensures.last)

-- nothing else was touched
pub returns-in-Err-clause-alone : goal.returns-in-Err-clause-alone
returns-in-Err-clause-alone g c = alone_read c.pieces.invariant.0 c.read.ensures.same

pub returns-in-Ok-finish-clause-alone : goal.returns-in-Ok-finish-clause-alone
returns-in-Ok-finish-clause-alone g c =
    let buffer = c.read.new.buf in
    let rest = drop c.piece_size-want.result c.pieces.piece in
    let slice = length-take c.piece_size-want.result c.pieces.piece in
    let room : length buffer ≤ 65536 = omega (arith, slice) in
    let t = taken_more c.pieces.invariant.0 c.in-Ok.count buffer rest room c.in-Ok.ensures.took c.read.ensures.same c.in-Ok.ensures.quiet c.in-Ok.ensures.none_failed in
    alone_written t c.finish.ensures.same

pub returns-in-Err-finish-clause-alone : goal.returns-in-Err-finish-clause-alone
returns-in-Err-finish-clause-alone g c =
    let buffer = c.read.new.buf in
    let rest = drop c.piece_size-want.result c.pieces.piece in
    let slice = length-take c.piece_size-want.result c.pieces.piece in
    let room : length buffer ≤ 65536 = omega (arith, slice) in
    let t = taken_more c.pieces.invariant.0 c.in-Ok.count buffer rest room c.in-Ok.ensures.took c.read.ensures.same c.in-Ok.ensures.quiet c.in-Ok.ensures.none_failed in
    alone_written t c.finish.ensures.same

pub returns-in-Err-feed-clause-alone : goal.returns-in-Err-feed-clause-alone
returns-in-Err-feed-clause-alone g c =
    let buffer = c.read.new.buf in
    let rest = drop c.piece_size-want.result c.pieces.piece in
    let slice = length-take c.piece_size-want.result c.pieces.piece in
    let room : length buffer ≤ 65536 = omega (arith, slice) in
    let t = taken_more c.pieces.invariant.0 c.in-Ok.count buffer rest room c.in-Ok.ensures.took c.read.ensures.same c.in-Ok.ensures.quiet c.in-Ok.ensures.none_failed in
    alone_written t c.feed.ensures.same

-- what was read, where a read failed
pub returns-in-Err-clause-stops : goal.returns-in-Err-clause-stops
returns-in-Err-clause-stops g c = stops_at_read c.pieces.invariant.0 (ap (λ f. f Events) c.in-Err.ensures.kept)

-- and where the session ended
pub returns-in-Ok-finish-clause-stops : goal.returns-in-Ok-finish-clause-stops
returns-in-Ok-finish-clause-stops g c =
    let buffer = c.read.new.buf in
    let slice = length-take c.piece_size-want.result c.pieces.piece in
    let want = c.piece_size-want.ensures in
    let small : length buffer ≤ 65536 = omega (arith, slice) in
    let room : length buffer ≤ c.args.limit - c.pieces.taken + 1 = omega (arith, slice, want) in
    let stops = stops_in_piece c.pieces.invariant.0 c.in-Ok.count buffer small room c.in-Ok.ensures.took in
    stops_then_writes stops c.finish.ensures.same

pub returns-in-Err-finish-clause-stops : goal.returns-in-Err-finish-clause-stops
returns-in-Err-finish-clause-stops g c =
    let buffer = c.read.new.buf in
    let slice = length-take c.piece_size-want.result c.pieces.piece in
    let want = c.piece_size-want.ensures in
    let small : length buffer ≤ 65536 = omega (arith, slice) in
    let room : length buffer ≤ c.args.limit - c.pieces.taken + 1 = omega (arith, slice, want) in
    let stops = stops_in_piece c.pieces.invariant.0 c.in-Ok.count buffer small room c.in-Ok.ensures.took in
    stops_then_writes stops c.finish.ensures.same

pub returns-in-Err-feed-clause-stops : goal.returns-in-Err-feed-clause-stops
returns-in-Err-feed-clause-stops g c =
    let buffer = c.read.new.buf in
    let slice = length-take c.piece_size-want.result c.pieces.piece in
    let want = c.piece_size-want.ensures in
    let small : length buffer ≤ 65536 = omega (arith, slice) in
    let room : length buffer ≤ c.args.limit - c.pieces.taken + 1 = omega (arith, slice, want) in
    let stops = stops_in_piece c.pieces.invariant.0 c.in-Ok.count buffer small room c.in-Ok.ensures.took in
    stops_then_writes stops c.feed.ensures.same

-- what was tested, where a read failed
pub returns-in-Err-clause-tests : goal.returns-in-Err-clause-tests
returns-in-Err-clause-tests g c = tests_at_read (g.H.Host.told c.read.new.self) c.args.steps.now c.pieces.steps c.pieces.invariant.0 c.pieces.invariant.1 c.in-Err.ensures.kept

-- where the events have ended
pub returns-in-Ok-finish-clause-tests : goal.returns-in-Ok-finish-clause-tests
returns-in-Ok-finish-clause-tests g c =
    let buffer = c.read.new.buf in
    let rest = drop c.piece_size-want.result c.pieces.piece in
    let slice = length-take c.piece_size-want.result c.pieces.piece in
    let room : length buffer ≤ 65536 = omega (arith, slice) in
    let t = taken_more c.pieces.invariant.0 c.in-Ok.count buffer rest room c.in-Ok.ensures.took c.read.ensures.same c.in-Ok.ensures.quiet c.in-Ok.ensures.none_failed in
    let none = ap (λ n. take n (buffer ++ rest)) c.if-count-eq0.true in
    tests_at_end c.args.steps.now c.pieces.steps c.finish.new.steps t c.pieces.invariant.1 c.finish.ensures.same none (c.in-Ok.ensures.took.end c.if-count-eq0.true) c.finish.ensures.tests

pub returns-in-Err-finish-clause-tests : goal.returns-in-Err-finish-clause-tests
returns-in-Err-finish-clause-tests g c =
    let buffer = c.read.new.buf in
    let rest = drop c.piece_size-want.result c.pieces.piece in
    let slice = length-take c.piece_size-want.result c.pieces.piece in
    let room : length buffer ≤ 65536 = omega (arith, slice) in
    let t = taken_more c.pieces.invariant.0 c.in-Ok.count buffer rest room c.in-Ok.ensures.took c.read.ensures.same c.in-Ok.ensures.quiet c.in-Ok.ensures.none_failed in
    let none = ap (λ n. take n (buffer ++ rest)) c.if-count-eq0.true in
    tests_at_end c.args.steps.now c.pieces.steps c.finish.new.steps t c.pieces.invariant.1 c.finish.ensures.same none (c.in-Ok.ensures.took.end c.if-count-eq0.true) c.finish.ensures.tests

-- and where the session stopped at a piece
pub returns-in-Err-feed-clause-tests : goal.returns-in-Err-feed-clause-tests
returns-in-Err-feed-clause-tests g c =
    let buffer = c.read.new.buf in
    let rest = drop c.piece_size-want.result c.pieces.piece in
    let slice = length-take c.piece_size-want.result c.pieces.piece in
    let room : length buffer ≤ 65536 = omega (arith, slice) in
    let t = taken_more c.pieces.invariant.0 c.in-Ok.count buffer rest room c.in-Ok.ensures.took c.read.ensures.same c.in-Ok.ensures.quiet c.in-Ok.ensures.none_failed in
    tests_at_piece c.args.steps.now c.pieces.steps c.feed.new.steps t c.pieces.invariant.1 c.feed.ensures.same c.feed.ensures.tests
