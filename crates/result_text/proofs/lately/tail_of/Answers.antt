use Rattle.std.proofs.Common.{◌≡◌, ℕ, List, Some, length, refl, subst, sym}
use Rattle.std.specs.Prelude.{slice_get}
use Rattle.std.proofs.lemmas.Option.{slice_get_read}
use Rattle.result_text.specs.Tails.{IsTailOf, tail_text}
use Rattle.result_text.proofs.TailLemmas.{both_stay, tail_at_end}
use Rattle.result_text.proofs.lately.tail_of.Goals as goal

-- the new tail stands behind those that are known
pub returns-clause-tail : goal.returns-clause-tail
returns-clause-tail c =
    let tuples = c.args.tuples.now in
    let place = c.args.place in
    let tuple = c.index-tuples-place.result in
    let tails = c.args.tails.now in
    let more = c.put.new.self in
    let there : slice_get tuples place ≡ Some tuple = slice_get_read tuples (length tuples) place tuple refl c.requires.in_range c.index-tuples-place.is in
    subst (λ (t : List ℕ). IsTailOf more (length t) (length c.as_slice-end.result.now) tuples place) (sym c.as_slice-begin.ensures)
    (subst (λ (t : List ℕ). IsTailOf more (length tails) (length t) tuples place) (sym c.as_slice-end.ensures) (tail_at_end tails more tuples place tuple there c.in_ok-put.ensures))

-- and those that are known stand where they stood
pub returns-clause-lately : goal.returns-clause-lately
returns-clause-lately c =
    let tuples = c.args.tuples.now in
    let tails = c.args.tails.now in
    let more = c.put.new.self in
    c.note.ensures more tuples (both_stay tails (tail_text c.index-tuples-place.result) more tuples c.args.lately.now c.in_ok-put.ensures c.requires.lately) (returns-clause-tail c)
