use Rattle.std.proofs.Common.{◌≡◌, ◌++◌, ◌∷◌, [], subst, sym, set, true, rules}
use Rattle.resubscribe.specs.Marks.{IsMarked}
use Rattle.resubscribe.proofs.MarkLemmas.{IsMarked-put}
use Rattle.resubscribe.proofs.marked.Marked.put.Goals as goal

-- the number is marked, and stands at the end
pub invariant_of-self-2 : goal.invariant_of-self-2
invariant_of-self-2 c =
    let put : c.add.new.self ≡ c.self.inside.numbers ++ c.args.number ∷ [] = c.in_ok-add.ensures.ok in
    subst (IsMarked (set c.self.inside.marks.items c.args.number true)) (sym put) (IsMarked-put c.self.inside.marks.items c.self.inside.numbers c.args.number (search rules) (search rules) c.self.invariant)
