use Rattle.std.proofs.Common.{◌≡◌, ◌∙◌}
use Rattle.result_text.proofs.QuickLemmas.{tail_written}
use Rattle.result_text.proofs.quick.write_quickly.Goals as goal

pub returns : goal.returns
returns c =
    let tuple = c.args.tuple.now in
    let all : c.as_slice.result.now ≡ tuple.vals = c.as_slice.ensures ∙ c.vals.ensures in
    let values = rw all at c.in_ok-start-2.ensures in
    let detection = rw c.at.ensures.value at c.in_ok-start-3.ensures in
    let start = rw c.from.ensures.value at c.put_number-2.ensures in
    tail_written tuple c.args.room.now c.put_byte.new.room c.put_values.new.room c.put_number.new.room c.put_byte-2.new.room c.put_number-2.new.room
    c.in_ok-start.start c.in_ok-start-2.start c.in_ok-start-3.start c.in_ok-start-4.start c.put_number-2.result
    c.in_ok-start.ensures values detection c.in_ok-start-4.ensures start
