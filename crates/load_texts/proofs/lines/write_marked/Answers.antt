use Rattle.std.proofs.Common.{◌≤◌, ◌<◌, ◌^◌, ◌-◌, length, drop, decimal, arith}
use Rattle.std.proofs.lemmas.Fmt.{length-decimal-le}
use Rattle.std.proofs.lemmas.List.{length-drop, length-take}
use Rattle.load_texts.proofs.lines.write_marked.Goals as goal

-- a number has at most 20 digits
short : (n : _) → n < 2 ^ 64 → length (decimal n) ≤ 20
short n fits = length-decimal-le 20 n (omega arith) (omega (arith, fits)) fits

pub write_digits-behind-requires : goal.write_digits-behind-requires
write_digits-behind-requires c = let few = short c.args.number c.ranges.number.fits in (omega (arith, few, c.requires.0), c.requires.1)

pub overflow_sub-begin : goal.overflow_sub-begin
overflow_sub-begin c = let few = short c.args.number c.ranges.number.fits in omega (arith, few, c.requires.0, c.write_digits-behind.ensures.start)

-- the part has the length of the mark
pub copy_from_slice-requires : goal.copy_from_slice-requires
copy_from_slice-requires c =
    let few = short c.args.number c.ranges.number.fits in
    let begin = c.write_digits-behind.result - length c.args.mark.now in
    omega (arith, few, c.requires, c.write_digits-behind.ensures.start, length-take (c.write_digits-behind.result - begin) (drop begin c.write_digits-behind.new.buf), length-drop begin c.write_digits-behind.new.buf)

pub returns-clause-begins : goal.returns-clause-begins
returns-clause-begins c =
    let few = short c.args.number c.ranges.number.fits in
    (omega (arith, c.write_digits-behind.ensures.start), omega (arith, few, c.requires.0, c.write_digits-behind.ensures.start))
