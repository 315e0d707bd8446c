use Rattle.std.proofs.Common.{◌≡◌, ◌+◌, ◌-◌, ◌≤◌, length, drop}
use Rattle.cel_lexer.proofs.WalkLemmas.{all_before}
use Rattle.cel_lexer.specs.Listing.{AreSpans}
use Rattle.cel_lexer.specs.Tokens.{tokens_behind_mark, tokens_from}
use Rattle.cel_lexer.proofs.scanner.cut.Given as goal

abbrev pub invariant-loop-at : goal.invariant-loop-at
invariant-loop-at l = record {
  in_text : l.at ≤ length l.text;
  few_lines : l.line ≤ l.at + 1;
  whole : tokens_behind_mark l.text ≡ all_before l.found.items (tokens_from 0 l.line l.at (drop l.at l.text));
  spans : AreSpans l.text l.found.items;
}

abbrev pub decreases-loop-at : goal.decreases-loop-at
decreases-loop-at l = length l.text - l.at
