-- Lines with the numbers of their ends, put behind one another and taken out.
use Rattle.std.proofs.Common.{◌≡◌, ap, refl, ℕ, List, [], ◌∷◌, ◌++◌, length, map, arith}
use Rattle.std.specs.Prelude.{Option}
use Rattle.automaton.specs.NetworkLines.{Ending}
use Rattle.automaton.specs.declared.line.Line.{Line}
use Rattle.birth_laws.specs.BornChains.{born_at}
use Rattle.epoch_laws.specs.BornLines.{BornLine, born_by, lines_in}
use Rattle.prefix_merge.specs.Turns.{endings_with}
use Rattle.change_laws.specs.AtOne.{ended_by}
use Rattle.change_laws.proofs.EndLemmas.{numbers_of}

-- where each line has its number, their endings have the lines with their births
pub born_ended_by : (lines : List BornLine) (numbers : List ℕ) → length numbers ≡ length lines → map born_by (ended_by lines numbers) ≡ lines
born_ended_by [] numbers long = refl
born_ended_by (born ∷ lines) [] long = absurd (omega (arith, long))
born_ended_by (born ∷ lines) (number ∷ numbers) long = ap (λ (ls : List BornLine). born ∷ ls) (born_ended_by lines numbers (omega (arith, long)))

-- without their births
pub lines_ended_by : (lines : List BornLine) (numbers : List ℕ) → length numbers ≡ length lines → map (λ (e : Ending). e.line) (ended_by lines numbers) ≡ lines_in lines
lines_ended_by [] numbers long = refl
lines_ended_by (born ∷ lines) [] long = absurd (omega (arith, long))
lines_ended_by (born ∷ lines) (number ∷ numbers) long = ap (λ (ls : List Line). born.line ∷ ls) (lines_ended_by lines numbers (omega (arith, long)))

-- and the numbers
pub numbers_ended_by : (lines : List BornLine) (numbers : List ℕ) → length numbers ≡ length lines → numbers_of (ended_by lines numbers) ≡ numbers
numbers_ended_by [] [] long = refl
numbers_ended_by [] (number ∷ numbers) long = absurd (omega (arith, long))
numbers_ended_by (born ∷ lines) [] long = absurd (omega (arith, long))
numbers_ended_by (born ∷ lines) (number ∷ numbers) long = ap (λ (ns : List ℕ). number ∷ ns) (numbers_ended_by lines numbers (omega (arith, long)))

-- lines behind others
pub ended_append : (lines more : List BornLine) (numbers more_numbers : List ℕ) → length numbers ≡ length lines → ended_by (lines ++ more) (numbers ++ more_numbers) ≡ ended_by lines numbers ++ ended_by more more_numbers
ended_append [] more [] more_numbers long = refl
ended_append [] more (number ∷ numbers) more_numbers long = absurd (omega (arith, long))
ended_append (born ∷ lines) more [] more_numbers long = absurd (omega (arith, long))
ended_append (born ∷ lines) more (number ∷ numbers) more_numbers long =
    ap (λ (es : List Ending). record { line = born.line; number = number; birth = born.birth } ∷ es) (ended_append lines more numbers more_numbers (omega (arith, long)))

-- lines of one birth
pub ended_with : (birth : Option ℕ) (lines : List Line) (numbers : List ℕ) → ended_by (map (born_at birth) lines) numbers ≡ endings_with birth lines numbers
ended_with birth [] numbers = refl
ended_with birth (line ∷ lines) [] = refl
ended_with birth (line ∷ lines) (number ∷ numbers) = ap (λ (es : List Ending). record { line = line; number = number; birth = birth } ∷ es) (ended_with birth lines numbers)
