use Rattle.std.proofs.Common.{◌≡◌, ◌<◌, ℕ, List, [], ◌∷◌, length, refl, arith}
use Rattle.csv.specs.Reading.{strip_bom}
use Rattle.event_csv.proofs.PlainLines.{strip-head}
use Rattle.event_csv.proofs.fields.may_have_mark.Goals as goal

strip-empty : (xs : List ℕ) → length xs < 1 → strip_bom xs ≡ xs
unfolding strip_bom
strip-empty [] h = refl
strip-empty (x ∷ xs) h = absurd (omega arith)

pub returns-in-empty : goal.returns-in-empty
returns-in-empty c = λ h. strip-empty c.args.line.now (omega (arith, c.in-empty.len_below))

pub returns-in-len1-up : goal.returns-in-len1-up
returns-in-len1-up c = λ h. strip-head c.args.line.now h
