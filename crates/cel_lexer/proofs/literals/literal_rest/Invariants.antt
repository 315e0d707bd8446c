use Rattle.std.proofs.Common.{◌≡◌, ◌-◌, ◌≤◌, length, drop}
use Rattle.cel_lexer.specs.Literals.{literal_rest, more}
use Rattle.cel_lexer.proofs.literals.literal_rest.Given as goal

abbrev pub invariant-loop-len : goal.invariant-loop-len
invariant-loop-len l = record {
  in_text : l.len ≤ length l.text;
  whole : literal_rest l.text ≡ more l.len (literal_rest (drop l.len l.text));
}

abbrev pub decreases-loop-len : goal.decreases-loop-len
decreases-loop-len l = length l.text - l.len
