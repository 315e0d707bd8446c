use Rattle.std.proofs.Common.{◌≡◌, ◌∙◌, ◌<◌, ◌^◌, ◌++◌, ◌∷◌, [], get_or, length, min, set, sym, ap, subst}
use Rattle.std.proofs.lemmas.List.{set-append_left}
use Rattle.std.specs.List.{remove, slice_get, sum}
use Rattle.long_lists.specs.Blocks.{AreBlocks}
use Rattle.long_lists.proofs.BlocksLemmas.{closed_block, closed_within, last_is, last_view, out_are, out_fits}
use Rattle.long_lists.proofs.blocks.Blocks.take_out.Goals as goal

pub returns-then-spot-len-clause-others : goal.returns-then-spot-len-clause-others
returns-then-spot-len-clause-others g c =
    let closed = c.self.inside.closed in
    let last = c.self.inside.last in
    let block = c.args.spot.block in
    let is : block ≡ length closed = c.if-spot-len.true ∙ c.len.ensures in
    let here = sym (last_is closed last block is) ∙ ap (λ blocks. get_or blocks block []) c.self.view_is in
    ap (λ items. closed ++ items ∷ []) (c.remove.ensures.others ∙ ap (λ items. remove items c.args.spot.offset) here) ∙ last_view closed last _ block is
    ∙ ap (λ blocks. set blocks block (remove (get_or c.args.self.now block []) c.args.spot.offset)) c.self.view_is

pub take_item-item-requires : goal.take_item-item-requires
take_item-item-requires g c =
    let here = closed_block c.self.inside.closed c.self.inside.last c.args.self.now c.self.view_is c.args.spot.block c.requires.block (λ is. c.if-spot-len.false (is ∙ sym c.len.ensures)) c.get_mut-block.result.now c.get_mut-block.ensures.value in
    subst (λ items. c.args.spot.offset < length items) here c.requires.offset

pub set-requires-clause-fits : goal.set-requires-clause-fits
set-requires-clause-fits g c =
    let closed = c.self.inside.closed in
    let last = c.self.inside.last in
    let lengths = c.self.inside.lengths in
    let block = c.args.spot.block in
    let offset = c.args.spot.offset in
    let other = λ (is : block ≡ length closed). c.if-spot-len.false (is ∙ sym c.len.ensures) in
    let items = c.get_mut-block.result.now in
    let read = c.get_mut-block.ensures.value in
    let within = closed_within closed last c.args.self.now c.self.view_is block c.requires.block other in
    let less = subst (λ items. offset < length items) (closed_block closed last c.args.self.now c.self.view_is block c.requires.block other items read) c.requires.offset in
    subst (λ n. sum (set lengths block n) < 2 ^ 64) (sym (c.len-left.ensures ∙ ap length c.take_item-item.ensures.others)) (out_fits closed lengths c.self.inside.full last c.self.invariant block offset items within read less)

pub invariant_of-self-2 : goal.invariant_of-self-2
invariant_of-self-2 g c =
    let closed = c.self.inside.closed in
    let last = c.self.inside.last in
    let lengths = c.self.inside.lengths in
    let block = c.args.spot.block in
    let offset = c.args.spot.offset in
    let other = λ (is : block ≡ length closed). c.if-spot-len.false (is ∙ sym c.len.ensures) in
    let items = c.get_mut-block.result.now in
    let read = c.get_mut-block.ensures.value in
    let within = closed_within closed last c.args.self.now c.self.view_is block c.requires.block other in
    let less = subst (λ items. offset < length items) (closed_block closed last c.args.self.now c.self.view_is block c.requires.block other items read) c.requires.offset in
    let left = c.take_item-item.new.block in
    subst (λ full. AreBlocks (set closed block left) c.set.new.self full last) (sym c.min-self-inside.ensures)
    (subst (λ lengths. AreBlocks (set closed block left) lengths (min c.self.inside.full block) last) (sym c.set.ensures)
    (subst (λ n. AreBlocks (set closed block left) (set lengths block n) (min c.self.inside.full block) last) (sym c.len-left.ensures)
    (subst (λ items. AreBlocks (set closed block items) (set lengths block (length items)) (min c.self.inside.full block) last) (sym c.take_item-item.ensures.others)
    (out_are closed lengths c.self.inside.full last c.self.invariant block offset items within read less))))

pub returns-clause-value : goal.returns-clause-value
returns-clause-value g c =
    let here = closed_block c.self.inside.closed c.self.inside.last c.args.self.now c.self.view_is c.args.spot.block c.requires.block (λ is. c.if-spot-len.false (is ∙ sym c.len.ensures)) c.get_mut-block.result.now c.get_mut-block.ensures.value in
    ap (λ items. slice_get items c.args.spot.offset) here ∙ c.take_item-item.ensures.value

pub returns-clause-others : goal.returns-clause-others
returns-clause-others g c =
    let closed = c.self.inside.closed in
    let last = c.self.inside.last in
    let block = c.args.spot.block in
    let offset = c.args.spot.offset in
    let other = λ (is : block ≡ length closed). c.if-spot-len.false (is ∙ sym c.len.ensures) in
    let within = closed_within closed last c.args.self.now c.self.view_is block c.requires.block other in
    let here = closed_block closed last c.args.self.now c.self.view_is block c.requires.block other c.get_mut-block.result.now c.get_mut-block.ensures.value in
    ap (λ items. set closed block items ++ last ∷ []) (c.take_item-item.ensures.others ∙ ap (λ items. remove items offset) (sym here))
    ∙ sym (set-append_left closed (last ∷ []) block (remove (get_or c.args.self.now block []) offset) within)
    ∙ ap (λ blocks. set blocks block (remove (get_or c.args.self.now block []) offset)) c.self.view_is
