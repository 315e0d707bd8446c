use Rattle.std.proofs.Common.{◌≡◌, true, arith, rules, refl}
use Rattle.std.specs.Result.{is_ok}
use Rattle.cel_parser.specs.Faults.{unended}
use Rattle.cel_parser.proofs.CutLemmas.{ends, first, first-within, lacks, more}
use Rattle.cel_parser.proofs.sentences.cut.Goals as goal

pub loop-end-init : goal.loop-end-init
loop-end-init c = record {
  from = omega arith;
  within = omega (arith, first-within c.args.tokens.now c.args.at c.args.line c.requires.first);
  front = rw c.clear.ensures.items (first c.args.tokens.now c.args.at c.args.line c.requires.first);
}

pub returns-in-End-clause-ok : goal.returns-in-End-clause-ok
returns-in-End-clause-ok c =
    ends c.args.tokens.now c.args.at c.loop-end.end c.args.line c.loop-end.symbols.items c.loop-end.invariant.front c.symbol_at-symbol.result c.symbol_at-symbol.ensures c.in-End.is

pub loop-end-preserved : goal.loop-end-preserved
loop-end-preserved c =
    let good : is_ok c.push.result ≡ true = search rules in
    let items = rw good at c.push.ensures.items in
    record {
      from = omega (arith, c.loop-end.invariant.from);
      within = omega (arith, c.loop-end-test.true, c.size.ensures.value);
      front = rw items (more c.args.tokens.now c.args.at c.loop-end.end c.args.line c.loop-end.symbols.items c.loop-end.invariant.front c.symbol_at-symbol.result c.symbol_at-symbol.ensures c.in_default.not-End);
    }

pub returns-clause-err : goal.returns-clause-err
returns-clause-err c _ =
    let last = lacks c.args.tokens.now c.args.at c.loop-end.end c.args.line c.loop-end.symbols.items c.loop-end.invariant.front (omega (arith, c.loop-end-test.false, c.size.ensures.value)) in
    record { sentence = _; later = _; front = last; faulty = unended refl }
