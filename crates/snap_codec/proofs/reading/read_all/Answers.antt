use Rattle.std.proofs.Common.{◌∙◌, sym}
use Rattle.snap_codec.proofs.DecodedLemmas.{decoded_parts}
use Rattle.snap_codec.proofs.reading.read_all.Goals as goal

pub returns : goal.returns
returns c =
    rw (decoded_parts c.args.bytes.now c.split_at.result.1.now c.in_ok-image.image c.in_ok-image.rest.now c.split_at.ensures.back c.if-bytes-gt4294967296.false (sym c.starts_with.ensures.value ∙ c.if-not-starts_with.false) c.in_ok-image.ensures) c.end.ensures
