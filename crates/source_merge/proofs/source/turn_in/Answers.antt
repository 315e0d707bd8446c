use Rattle.std.proofs.Common.{◌≡◌, ◌∙◌, ap, sym, ◌-◌, drop, length, arith}
use Rattle.std.proofs.Math.Seq.{drop-length}
use Rattle.source_merge.specs.Sources.{turn_from}
use Rattle.source_merge.proofs.SourceLemmas.{turn_next}
use Rattle.source_merge.proofs.source.turn_in.Goals as goal

pub loop-file-init : goal.loop-file-init
loop-file-init c = record { within = omega arith; turn = sym (ap (turn_from (length c.args.sources.now)) (drop-length c.args.sources.now)) }

pub loop-file-preserved : goal.loop-file-preserved
loop-file-preserved c = record {
  within = omega (arith, c.loop-file.invariant.within);
  turn =
      c.first_from-turn.ensures
      ∙ turn_next c.args.sources.now (c.loop-file.file - 1) c.loop-file.file _ c.loop-file.turn (omega (arith, c.loop-file-test.true)) (omega (arith, c.loop-file-test.true, c.loop-file.invariant.within)) c.loop-file.invariant.turn;
}

pub returns : goal.returns
returns c =
    let at_first : c.loop-file.file ≡ 0 = omega (arith, c.loop-file-test.false) in
    c.loop-file.invariant.turn ∙ ap (λ n. turn_from n (drop n c.args.sources.now)) at_first
