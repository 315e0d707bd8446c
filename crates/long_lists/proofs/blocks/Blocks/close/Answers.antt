use Rattle.std.proofs.Common.{◌≡◌, ◌∙◌, ◌++◌, ◌∷◌, [], length, sym, ap, subst}
use Rattle.long_lists.specs.Blocks.{AreBlocks, IsFullCount}
use Rattle.long_lists.proofs.BlocksLemmas.{close_are}
use Rattle.long_lists.proofs.blocks.Blocks.close.Goals as goal

pub invariant_of-self-2 : goal.invariant_of-self-2
invariant_of-self-2 g c =
    let closed = c.self.inside.closed in
    let lengths = c.self.inside.lengths in
    let full = c.self.inside.full in
    let last = c.self.inside.last in
    let count = c.count_full-self-inside.result in
    let opened = c.replace-closed.new.dest in
    let pushed : c.push.new.self ≡ closed ++ last ∷ [] = c.in_default.ensures.ok ∙ ap (λ block. closed ++ block ∷ []) c.replace-closed.ensures.value in
    let added : c.add.new.self ≡ lengths ++ length last ∷ [] = c.in_ok-add.ensures.ok ∙ ap (λ n. lengths ++ n ∷ []) c.len.ensures in
    let counted : IsFullCount full (length (closed ++ last ∷ [])) (length last) count =
    subst (λ blocks. IsFullCount full blocks (length last) count) (c.len-2.ensures ∙ ap length pushed)
    (subst (λ len. IsFullCount full c.len-2.result len count) (c.len-len.ensures ∙ ap length c.replace-closed.ensures.value) c.count_full-self-inside.ensures)
    in
    subst (λ blocks. AreBlocks blocks c.add.new.self count opened) (sym pushed)
    (subst (λ lengths. AreBlocks (closed ++ last ∷ []) lengths count opened) (sym added)
    (subst (λ opened. AreBlocks (closed ++ last ∷ []) (lengths ++ length last ∷ []) count opened) (sym (c.replace-closed.ensures.after ∙ c.in_ok-opened.ensures))
    (close_are closed lengths full last c.self.invariant count counted)))
