use Rattle.std.proofs.Common.{◌≡◌, ◌∙◌, ◌∷◌, [], ap, drop, slice_set, arith, append_assoc}
use Rattle.std.proofs.lemmas.List.{drop-set, drop_all}
use Rattle.load_texts.proofs.lines.write_line.Goals as goal

-- the fields stand behind one another, and the LF at the end
pub returns-clause-written : goal.returns-clause-written
returns-clause-written c =
    let room = c.args.room.now in
    let last : drop 91 (slice_set room 91 10) ≡ 10 ∷ [] = drop-set room 91 10 (omega (arith, c.told-room)) ∙ ap (λ rest. 10 ∷ rest) (drop_all 92 room (omega (arith, c.told-room))) in
    rw (c.write_marked.ensures.written, c.write_marked-begin-3.ensures.written, c.write_marked-begin-2.ensures.written, c.write_marked-begin.ensures.written, last) (simp append_assoc)
