use Rattle.std.proofs.Common.{refl, arith, ◌<◌, length}
use Rattle.session.proofs.BatchLinesLemmas.{placed_more}
use Rattle.session.proofs.writing.put_places.Goals as goal

-- the line of one tuple more was put, and its tail may be copied again
pub loop-place-preserved : goal.loop-place-preserved
loop-place-preserved c =
    let tuples = c.args.tuples.now in
    let places = c.args.places.now in
    let i = c.loop-place.place-index in
    let lt : i < length places = omega arith in
    record {
      put = λ name made. placed_more tuples places i _ c.args.rows.now c.loop-place.rows c.append.new.self name lt refl c.requires.below
          (λ tuple found. c.in_ok-append.ensures.appended name tuple made found) (c.loop-place.invariant.put name made);
      lately = c.in_ok-append.ensures.lately;
    }
