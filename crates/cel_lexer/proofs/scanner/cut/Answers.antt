use Rattle.std.proofs.Common.{◌≡◌, ◌∙◌, ◌+◌, ◌≤◌, rules, arith, refl, sym, ℕ, get_or, add-zero, eq-eqb, true, false, inl, inr}
use Rattle.std.proofs.lemmas.Bool.Decides.{eqb_tells}
use Rattle.std.specs.Prelude.{◌==◌, if◌then◌else◌}
use Rattle.std.specs.Result.{is_ok}
use Rattle.cel_lexer.proofs.WalkLemmas.{at-bad, at-end, at-past, behind-mark, past-gap, past-lexeme}
use Rattle.cel_lexer.proofs.SpanLemmas.{span-at, spans-none, spans-push}
use Rattle.cel_lexer.proofs.scanner.cut.Goals as goal
use Rattle.cel_lexer.proofs.scanner.cut.Goals.{then-text-at-eq10, else-text-at-eq10}

differs : (a b : ℕ) → (a ≡ b → ⊥) → (a == b) ≡ false
differs a b h = elim (eqb_tells a b) [ inl same ↦ absurd (h same.1) | inr other ↦ other.0 ]

pub loop-at-init : goal.loop-at-init
loop-at-init c =
    let begin = behind-mark c.args.text.now in
    rw (c.mark_len-at.ensures, c.new-found.ensures.items) (record {
      in_text = begin.0;
      few_lines = omega arith;
      whole = begin.1;
      spans = spans-none c.args.text.now;
    })

pub overflow_add-at : goal.overflow_add-at
overflow_add-at c =
    let next = past-gap c.args.text.now c.loop-at.at c.loop-at.line c.in-Gap.len c.loop-at.found.items _ c.loop-at-test.true c.in-Gap.ensures c.loop-at.invariant.whole refl in
    omega (arith, next.0)

pub loop-at-smaller-in-Gap : goal.loop-at-smaller-in-Gap
loop-at-smaller-in-Gap c =
    let next = past-gap c.args.text.now c.loop-at.at c.loop-at.line c.in-Gap.len c.loop-at.found.items _ c.loop-at-test.true c.in-Gap.ensures c.loop-at.invariant.whole refl in
    omega (arith, next.0, next.1)

pub loop-at-preserved-in-Gap : goal.loop-at-preserved-in-Gap
loop-at-preserved-in-Gap c =
    let lf : ℕ = if get_or c.args.text.now c.loop-at.at 0 == 10 then 1 else 0 in
    let next = past-gap c.args.text.now c.loop-at.at c.loop-at.line c.in-Gap.len c.loop-at.found.items lf c.loop-at-test.true c.in-Gap.ensures c.loop-at.invariant.whole refl in
    let line : (c.if-text-at-eq10.line ≡ c.loop-at.line + lf) × (lf ≤ 1) = elim c.if-text-at-eq10.branch [
      | then-text-at-eq10 w ↦ rw (eq-eqb (get_or c.args.text.now c.loop-at.at 0) 10 w.if-text-at-eq10.true) (w.line-is, omega arith)
      | else-text-at-eq10 w ↦ rw (differs (get_or c.args.text.now c.loop-at.at 0) 10 w.if-text-at-eq10.false) (w.line-is ∙ sym (add-zero _), omega arith)
    ] in
    record {
      in_text = next.0;
      few_lines = omega (arith, line.0, line.1, c.loop-at.invariant.few_lines, next.1);
      whole = rw line.0 next.2;
      spans = c.loop-at.invariant.spans;
    }

pub overflow_add-token : goal.overflow_add-token
overflow_add-token c =
    let next = past-lexeme c.args.text.now c.loop-at.at c.loop-at.line c.in-Lexeme.len c.in-Lexeme.what c.loop-at.found.items c.loop-at-test.true c.in-Lexeme.ensures c.loop-at.invariant.whole in
    omega (arith, next.0)

pub overflow_add-at-in-Lexeme : goal.overflow_add-at-in-Lexeme
overflow_add-at-in-Lexeme c =
    let next = past-lexeme c.args.text.now c.loop-at.at c.loop-at.line c.in-Lexeme.len c.in-Lexeme.what c.loop-at.found.items c.loop-at-test.true c.in-Lexeme.ensures c.loop-at.invariant.whole in
    omega (arith, next.0)

pub loop-at-smaller : goal.loop-at-smaller
loop-at-smaller c =
    let next = past-lexeme c.args.text.now c.loop-at.at c.loop-at.line c.in-Lexeme.len c.in-Lexeme.what c.loop-at.found.items c.loop-at-test.true c.in-Lexeme.ensures c.loop-at.invariant.whole in
    omega (arith, next.0, next.1)

pub loop-at-preserved : goal.loop-at-preserved
loop-at-preserved c =
    let next = past-lexeme c.args.text.now c.loop-at.at c.loop-at.line c.in-Lexeme.len c.in-Lexeme.what c.loop-at.found.items c.loop-at-test.true c.in-Lexeme.ensures c.loop-at.invariant.whole in
    let good : is_ok c.push.result ≡ true = search rules in
    let items = rw good at c.push.ensures.items in
    record {
      in_text = next.0;
      few_lines = omega (arith, c.loop-at.invariant.few_lines, next.1);
      whole = rw items next.2;
      spans = rw items (spans-push c.args.text.now c.loop-at.found.items _ c.loop-at.invariant.spans (span-at c.args.text.now c.loop-at.at c.in-Lexeme.len c.loop-at.line c.in-Lexeme.what c.requires next.0 next.1 next.3 next.4));
    }

pub returns-in-BadToken-clause-err : goal.returns-in-BadToken-clause-err
returns-in-BadToken-clause-err c _ = at-bad c.args.text.now c.loop-at.at c.loop-at.line c.loop-at.found.items c.loop-at-test.true c.in-BadToken.ensures c.loop-at.invariant.whole

pub returns-in-NumberPast128-clause-err : goal.returns-in-NumberPast128-clause-err
returns-in-NumberPast128-clause-err c _ = at-past c.args.text.now c.loop-at.at c.loop-at.line c.loop-at.found.items c.loop-at-test.true c.in-NumberPast128.ensures c.loop-at.invariant.whole

pub returns-clause-items : goal.returns-clause-items
returns-clause-items c = at-end c.args.text.now c.loop-at.at c.loop-at.line c.loop-at.found.items c.loop-at-test.false c.loop-at.invariant.whole
