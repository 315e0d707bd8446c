use Rattle.std.proofs.Common.{◌≡◌, ◌<◌, ℕ, Bool, List, false, true, length, subst, rules}
use Rattle.std.specs.Prelude.{Some}
use Rattle.std.specs.List.{slice_get}
use Rattle.long_lists.proofs.FreeLemmas.{found_free, found_lowest, many, none_free}
use Rattle.long_lists.proofs.free_numbers.FreeNumbers.lowest.Goals as goal

pub returns-then-sum-eq0-clause-none : goal.returns-then-sum-eq0-clause-none
returns-then-sum-eq0-clause-none c =
    let ones = c.self.inside.ones in
    subst (λ (numbers : List Bool). (number : ℕ) → number < length numbers → slice_get numbers number ≡ Some false) c.self.view_is
    (λ number within. none_free ones c.self.invariant (search rules) number (subst (λ n. number < n) (many ones) within))

pub returns-clause-free : goal.returns-clause-free
returns-clause-free c =
    let found = found_free c.self.inside.ones c.self.invariant c.find.result.block c.find.result.offset c.find.ensures in
    subst (λ (numbers : List Bool). slice_get numbers c.find.result.block ≡ Some true) c.self.view_is found

pub returns-clause-lowest : goal.returns-clause-lowest
returns-clause-lowest c below less =
    let found = found_lowest c.self.inside.ones c.self.invariant c.find.result.block c.find.result.offset c.find.ensures below less in
    subst (λ (numbers : List Bool). slice_get numbers below ≡ Some false) c.self.view_is found
