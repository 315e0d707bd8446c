use Rattle.std.proofs.Common.{arith, ◌≡◌, ◌∙◌, ◌++◌, ap, take, drop, length, min}
use Rattle.load_texts.proofs.PieceLemmas.{front-made, rest-made}
use Rattle.load_texts.proofs.text.EventText.next_piece.Goals as goal

-- the first bytes of the lines that are made are put in place
pub returns-clause-piece : goal.returns-clause-piece
returns-clause-piece c =
    let made = c.make_piece.new.text.items in
    let left = c.make_piece.new.lines in
    let size : c.min-size.result ≡ min (length made) 4096 = omega arith in
    let front : take c.min-size.result made ≡ take 4096 (made ++ left) = rw size (front-made 4096 made left c.in_ok-make_piece.ensures.enough) in
    let put : c.extend_from_slice.new.self.items ≡ take c.min-size.result made =
    c.in_ok-extend_from_slice.ensures.items ∙ ap (λ bytes. bytes ++ take c.min-size.result c.deref.result.now) c.clear.ensures.items ∙ ap (λ bytes. take c.min-size.result bytes) c.deref.ensures.value in
    put ∙ front ∙ ap (take 4096) (c.in_ok-make_piece.ensures.moved ∙ c.self.view_is)

-- and the others are left
pub returns-clause-rest : goal.returns-clause-rest
returns-clause-rest c =
    let made = c.make_piece.new.text.items in
    let left = c.make_piece.new.lines in
    let size : c.min-size.result ≡ min (length made) 4096 = omega arith in
    ap (λ bytes. bytes ++ left) (c.take_away.ensures ∙ ap (λ many. drop many made) size) ∙ rest-made 4096 made left c.in_ok-make_piece.ensures.enough
    ∙ ap (drop 4096) (c.in_ok-make_piece.ensures.moved ∙ c.self.view_is)
