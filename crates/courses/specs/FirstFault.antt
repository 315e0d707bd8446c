-- Finding in steps: the first fault is the answer.
use Rattle.std.specs.Prelude.{Result, Ok, Err}

infixl 10 ◌>>=◌
-- what was found, and then what is found by it
abbrev pub ◌>>=◌ : {A B E : Type 0} → Result A E → (A → Result B E) → Result B E
(Ok x) >>= find = find x
(Err why) >>= find = Err why
