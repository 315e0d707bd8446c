-- Engines that go over to another network and another layout.
use Rattle.std.proofs.Common.{◌≡◌, ◌∙◌, sym, ap, refl, subst, inr, ℕ, ◌<◌, Bool, true, false, not, cond, length, get_or, take, List, [], ◌∷◌, ◌++◌, map, arith}
use Rattle.std.specs.Prelude.{Option, Some, None, is_some}
use Rattle.std.specs.List.{All, filter}
use Rattle.std.proofs.lemmas.List.{get_or-take, get_or_default, length-take, map-append}
use Rattle.event_types.specs.Tuple.{TupleView}
use Rattle.automaton.specs.NetworkLines.{Ending, HasLines, NetworkFits}
use Rattle.automaton.specs.Networks.{IsNetwork}
use Rattle.automaton.specs.States.{Net, wait_at}
use Rattle.automaton.specs.Work.{IsInOrder}
use Rattle.automaton.specs.declared.layout.Layout.{Layout}
use Rattle.automaton.specs.declared.line.Line.{Line}
use Rattle.binding_index.specs.declared.store.Store.{Store}
use Rattle.prefix_merge.specs.Merging.{HasEnd, IsMerged}
use Rattle.prefix_merge.specs.Turns.{InsertsAll, RemovesAll, endings_with, is_among}
use Rattle.prefix_merge.proofs.LawLemmas.{own_lines}
use Rattle.epoch_laws.proofs.Lists.{every}
use Rattle.epoch_draft.specs.Deriving.{CanDraw}
use Rattle.epoch_draft.specs.Held.{instances_in}
use Rattle.epoch_draft.specs.Typed.{IsTyped}
use Rattle.epoch_engine.specs.Adding.{FitsWith, FitsWithout}
use Rattle.epoch_engine.specs.Fitting.{AreGrown, AreLeft, IsGrownSlot}
use Rattle.epoch_engine.proofs.BornLemmas.{their_births}
use Rattle.epoch_engine.proofs.EngineLemmas.{held_in, none_have, order_below}
use Rattle.epoch_engine.proofs.KindingLemmas.{fitting_ends}

-- the lines of endings
their_lines : (birth : Option ℕ) (lines : List Line) (ends : List ℕ) → length ends ≡ length lines → map (λ (ending : Ending). ending.line) (endings_with birth lines ends) ≡ lines
their_lines birth [] ends long = refl
their_lines birth (line ∷ lines) [] long = absurd (omega (arith, long))
their_lines birth (line ∷ lines) (end ∷ ends) long = ap (λ ls. line ∷ ls) (their_lines birth lines ends (omega (arith, long)))

-- the layout fits the network to which the lines came
pub fits_added : (net new : Net) (lines : List Line) (ends : List ℕ) (birth : Option ℕ) (layout : Layout) → length ends ≡ length lines → IsMerged new → InsertsAll lines ends birth net new → FitsWith net lines layout → NetworkFits new layout
fits_added net new lines ends birth layout long merged inserted fits =
    let had = fits.1.0 in
    let all = had ++ endings_with birth lines ends in
    let same : map (λ (ending : Ending). ending.line) all ≡ fits.0 ++ lines =
    map-append (λ (ending : Ending). ending.line) had (endings_with birth lines ends) ∙ (λ i. fits.1.2 i ++ their_lines birth lines ends long i) in
    (fits.0 ++ lines, subst (HasLines new) same (own_lines new all merged (inserted.endings had fits.1.1)), fits.2)

-- and the one that they left
pub fits_left : (net new : Net) (ends : List ℕ) (layout : Layout) → IsMerged new → RemovesAll ends net new → FitsWithout net ends layout → NetworkFits new layout
fits_left net new ends layout merged removed fits =
    let left = filter (λ (ending : Ending). not (is_among ends ending.number)) fits.0 in (map (λ (ending : Ending). ending.line) left, own_lines new left merged (removed.endings fits.0 fits.1), fits.2)

-- with no open tuples an epoch may be drawn
pub drawable : (net : Net) (layout : Layout) (stores : List (Option Store)) (tuples : List (List TupleView)) → NetworkFits net layout → IsNetwork net → IsTyped net layout.kinds stores → length tuples ≡ length layout.kinds → ((s : ℕ) → get_or tuples s [] ≡ [])
    → CanDraw net layout stores tuples
drawable net layout stores tuples fits network typed as_many none =
    let born = their_births net fits.0 fits.1 in record {
      network = network;
      lines = born.0;
      serves = record { has_lines = born.1; in_order = subst (λ (ls : List Line). IsInOrder ls layout.order) (sym born.2) fits.2.in_order };
      typed = typed;
      kinds = none_have layout.kinds tuples none;
      as_many = as_many;
      ends = fitting_ends net layout fits;
      order = order_below net layout fits;
      underived = every (λ s. get_or tuples s [] ≡ []) none layout.order;
    }

-- contracts see the same instances where stores came
pub grown_held : (net : Net) (old new : List (Option Store)) → AreGrown net old new → (n : ℕ) → get_or (map instances_in new) n [] ≡ get_or (map instances_in old) n []
grown_held net old new are n = (λ i. held_in new i n) ∙ go (get_or old n None) refl (are.each n) ∙ sym (λ i. held_in old i n)
  where
    go : (slot : Option Store) → get_or old n None ≡ slot → IsGrownSlot (wait_at net n) slot (get_or new n None) → instances_in (get_or new n None) ≡ instances_in (get_or old n None)
    go (Some store) was same = ap instances_in (same ∙ sym was)
    go None was empty = empty.empty ∙ ap instances_in (sym was)

-- and those of waiting states where others left
pub left_held : (net : Net) (old new : List (Option Store)) → AreLeft net old new → (n : ℕ) → get_or (map instances_in new) n [] ≡ cond (is_some (wait_at net n)) (get_or (map instances_in old) n []) []
left_held net old new are n = (λ i. held_in new i n) ∙ ap instances_in (are.each n) ∙ go (is_some (wait_at net n))
  where
    go : (b : Bool) → instances_in (cond b (get_or old n None) None) ≡ cond b (get_or (map instances_in old) n []) []
    go true = sym (λ i. held_in old i n)
    go false = refl

-- ends that came are there
pub came_there : (lines : List Line) (ends : List ℕ) (birth : Option ℕ) (old new : Net) → InsertsAll lines ends birth old new → (count : ℕ) → All (HasEnd new) (take count ends)
came_there lines ends birth old new inserted count k d lt =
    let short = length-take count ends in
    let inside : k < length ends = omega (arith, lt, short) in
    let below : k < count = omega (arith, lt, short) in
    subst (HasEnd new) (sym (get_or-take count ends k d below)) ((inserted.ends_are (get_or ends k d)).1 (inr (k, inside, get_or_default ends k (get_or ends k d) d inside)))
