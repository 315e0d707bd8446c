use Rattle.std.proofs.Common.{◌≡◌, ◌∙◌, sym, ap, subst, ℕ, [], List, length, get_or, set}
use Rattle.std.specs.List.{All}
use Rattle.std.proofs.lemmas.List.{length-set}
use Rattle.std.proofs.lemmas.List.Sorted.{All-permutation, IsPermutation-sym}
use Rattle.event_types.specs.Order.{sorted}
use Rattle.event_types.specs.Tuple.{TupleView}
use Rattle.scalar_expr.proofs.Bags.{permuted_from}
use Rattle.epoch_draft.specs.Deriving.{Derives}
use Rattle.epoch_draft.specs.Drafts.{DraftFits, Grows, without}
use Rattle.epoch_draft.specs.Held.{held}
use Rattle.epoch_draft.specs.Marks.{MarksMore, MarksNoOther}
use Rattle.epoch_draft.specs.Meeting.{ListsAll, moves_of_all}
use Rattle.epoch_draft.specs.Suits.{TupleSuits}
use Rattle.epoch_draft.specs.declared.draft.Draft.{Draft}
use Rattle.epoch_draft.proofs.DeriveLemmas.{in_order, ordered_ticks, sort_permutes, sort_twice}
use Rattle.epoch_draft.proofs.DraftLemmas.{draft_of}
use Rattle.epoch_draft.proofs.Lists.{on_ok_five}
use Rattle.epoch_draft.proofs.DueLemmas.{newly_met}
use Rattle.epoch_draft.proofs.MarkLemmas.{marks_trans}
use Rattle.epoch_draft.proofs.making.derive_stream.Goals as goal

pub meet_stream-requires-clause-suits : goal.meet_stream-requires-clause-suits
meet_stream-requires-clause-suits g c =
    let suits = TupleSuits c.args.stored.now.network.now (held c.args.stored.now.stores.now) c.args.stream in
    let rows = get_or c.args.drawing.now.draft.made c.args.stream [] in
    let is : c.as_slice.result.now ≡ sorted rows = c.as_slice.ensures.value ∙ in_order rows c.in_ok-tuples.tuples.items c.sort_unstable.new.self.items c.in_ok-tuples.ensures.value c.sort_unstable.ensures.permutation c.sort_unstable.ensures.sorted in
    subst (All suits) (sym is) (All-permutation suits rows (sorted rows) (IsPermutation-sym _ _ (sort_permutes rows)) c.requires.suits)

pub meet_stream-requires-clause-draft : goal.meet_stream-requires-clause-draft
meet_stream-requires-clause-draft g c =
    let old = c.args.drawing.now.draft in
    let left = c.take_made.new.self in
    draft_of c.args.stored.now.network.now old left c.requires.draft (subst (λ (m : ℕ). DraftFits (length old.made) m left) c.requires.draft.fits.beads c.in_ok-tuples.ensures.fits)

pub returns-clause-derives : goal.returns-clause-derives
returns-clause-derives g c =
    let net = c.args.stored.now.network.now in
    let stores = held c.args.stored.now.stores.now in
    let s = c.args.stream in
    let old = c.args.drawing.now.draft in
    let met = c.meet_stream.new.drawing.draft in
    let new = c.put_made.new.self in
    let tuples = c.sort_unstable.new.self.items in
    let rows = get_or old.made s [] in
    let is : tuples ≡ sorted rows = in_order rows c.in_ok-tuples.tuples.items tuples c.in_ok-tuples.ensures.value c.sort_unstable.ensures.permutation c.sort_unstable.ensures.sorted in
    let grows : Grows net (moves_of_all net stores s tuples) (without old s) met =
    subst (λ (d : Draft). Grows net (moves_of_all net stores s tuples) d met) c.in_ok-tuples.ensures.taken
    (subst (λ (ts : List TupleView). Grows net (moves_of_all net stores s ts) c.take_made.new.self met) c.as_slice.ensures.value c.in_ok-meet_stream.ensures.grows) in
    on_ok_five c.put_made.result (new.made ≡ set met.made s tuples) (new.beads ≡ met.beads) (MarksMore met.due new.due) (MarksNoOther s met.due new.due) (DraftFits (length met.made) (length met.beads) new)
    (Derives net stores s old new c.args.drawing.now.pairs c.meet_stream.new.drawing.pairs)
    (λ made beads due alone fits. record {
      meets = record {
        tuples = tuples;
        same = permuted_from is (sort_permutes rows);
        met = met;
        grows = grows;
        made = made;
        beads = beads;
        fits = subst (λ (m : ℕ). DraftFits m (length net) new) (grows.fits.made ∙ length-set old.made s []) (subst (λ (m : ℕ). DraftFits (length met.made) m new) grows.fits.beads fits);
        due = marks_trans old.due met.due new.due grows.due due;
        newly_due = newly_met net (moves_of_all net stores s tuples) s tuples old met new grows made alone;
        lists = subst (λ (ts : List TupleView). ListsAll net stores s ts c.args.drawing.now.pairs c.meet_stream.new.drawing.pairs) c.as_slice.ensures.value c.in_ok-meet_stream.ensures.lists;
      };
      ordered = ap sorted is ∙ sort_twice rows ∙ sym is;
    }) c.put_made.ensures.made c.put_made.ensures.beads c.put_made.ensures.due c.put_made.ensures.no_other c.put_made.ensures.fits

-- the order of the tuples is nothing to their tests
pub returns-in_err-meet_stream-clause-ticks : goal.returns-in_err-meet_stream-clause-ticks
returns-in_err-meet_stream-clause-ticks g c =
    let rows = get_or c.args.drawing.now.draft.made c.args.stream [] in
    let is : c.as_slice.result.now ≡ sorted rows = c.as_slice.ensures.value ∙ in_order rows c.in_ok-tuples.tuples.items c.sort_unstable.new.self.items c.in_ok-tuples.ensures.value c.sort_unstable.ensures.permutation c.sort_unstable.ensures.sorted in
    ordered_ticks c.args.stored.now.network.now (held c.args.stored.now.stores.now) c.args.stream rows c.as_slice.result.now is c.args.steps.now c.meet_stream.new.steps c.meet_stream.ensures.ticks

pub returns-clause-ticks : goal.returns-clause-ticks
returns-clause-ticks g c =
    let rows = get_or c.args.drawing.now.draft.made c.args.stream [] in
    let is : c.as_slice.result.now ≡ sorted rows = c.as_slice.ensures.value ∙ in_order rows c.in_ok-tuples.tuples.items c.sort_unstable.new.self.items c.in_ok-tuples.ensures.value c.sort_unstable.ensures.permutation c.sort_unstable.ensures.sorted in
    ordered_ticks c.args.stored.now.network.now (held c.args.stored.now.stores.now) c.args.stream rows c.as_slice.result.now is c.args.steps.now c.meet_stream.new.steps c.meet_stream.ensures.ticks
