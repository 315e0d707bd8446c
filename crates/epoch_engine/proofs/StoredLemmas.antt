-- What an engine stores, by the prefixes of its states.
use Rattle.std.proofs.Common.{◌≡◌, ◌∙◌, ◌⊎◌, ap, refl, inl, inr, subst, sym, ℕ, Bool, true, false, cond, List, [], ◌∷◌}
use Rattle.std.specs.Prelude.{All, Contains}
use Rattle.std.proofs.lemmas.List.Elements.{All-contains_itself, All-head, All-tail, All-weaker}
use Rattle.event_types.specs.Tuple.{TupleView}
use Rattle.automaton.specs.NetworkLines.{HasLines}
use Rattle.automaton.specs.Networks.{IsAt}
use Rattle.automaton.specs.Prefixes.{Prefix, After}
use Rattle.automaton.specs.States.{Net, is_used}
use Rattle.automaton.proofs.SlotLemmas.{at_one, at_used}
use Rattle.epoch_laws.specs.BornLines.{lines_in}
use Rattle.epoch_laws.specs.Closing.{Stores}
use Rattle.epoch_laws.specs.Instances.{bindings_of}
use Rattle.prefix_merge.specs.Listed.{is_same_prefix}
use Rattle.prefix_merge.specs.Merging.{IsMerged}
use Rattle.prefix_merge.proofs.ContainLemmas.{from_map, in_cases, none_in}
use Rattle.prefix_merge.proofs.CountLemmas.{numbers_from, states_distinct, used_at}
use Rattle.prefix_merge.proofs.ListedLemmas.{one_decides}
use Rattle.epoch_engine.specs.EngineView.{stores_in}
use Rattle.epoch_engine.specs.WorkLaws.{AreStored, StoredAreThere}
use Rattle.epoch_engine.proofs.BornLemmas.{plain_lines}

module _ (net : Net) (merged : IsMerged net) (places : ℕ → Prefix) (are : (number : ℕ) → is_used net number ≡ true → IsAt net number (places number)) (stores : Stores) where
  -- the bindings of the first state that stands for a prefix
  abbrev pub stored_by : List ℕ → Prefix → List TupleView
  stored_by [] prefix = []
  stored_by (number ∷ numbers) prefix = cond (is_same_prefix (places number) prefix) (bindings_of (stores number)) (stored_by numbers prefix)

  -- are those of each one that does
  stored_at : (numbers : List ℕ) (number : ℕ) (prefix : Prefix) → All (λ n. is_used net n ≡ true) numbers → Contains numbers number → IsAt net number prefix → stored_by numbers prefix ≡ bindings_of (stores number)
  stored_at [] number prefix used listed at = absurd (none_in number listed)
  stored_at (first ∷ numbers) number prefix used listed at =
      go (is_same_prefix (places first) prefix) refl (in_cases first numbers number listed) (stored_at numbers number prefix (All-tail (λ n. is_used net n ≡ true) first numbers used))
    where
      at_first : is_same_prefix (places first) prefix ≡ true → IsAt net first prefix
      at_first is = subst (IsAt net first) ((one_decides (places first) prefix).0 is) (are first (All-head (λ n. is_used net n ≡ true) first numbers used))

      go : (b : Bool) → is_same_prefix (places first) prefix ≡ b → (number ≡ first) ⊎ Contains numbers number → (Contains numbers number → IsAt net number prefix → stored_by numbers prefix ≡ bindings_of (stores number))
          → cond b (bindings_of (stores first)) (stored_by numbers prefix) ≡ bindings_of (stores number)
      go true is here rest = ap (λ n. bindings_of (stores n)) (merged.apart first number prefix (at_first is) at)
      go false is (inl same) rest =
          absurd (let one : places first ≡ prefix = at_one net first (places first) prefix (are first (at_used net first prefix at_number)) at_number in let no : false ≡ true = sym is ∙ (one_decides (places first) prefix).1 one in cc)
        where
          at_number : IsAt net first prefix
          at_number = subst (λ n. IsAt net n prefix) same at
      go false is (inr later) rest = rest later at

-- whatever an engine stands for, its stores can be told by prefixes
pub stored_are_there : StoredAreThere
stored_are_there engine lines history stands = (stored, told)
  where
    net : Net
    net = engine.network

    has : HasLines net (lines_in lines)
    has = plain_lines net lines stands.serves.has_lines

    all : List ℕ
    all = numbers_from net 0

    stored : Prefix → List TupleView
    stored = stored_by net stands.merged has.1.places has.1.are_places (stores_in engine) all

    used : All (λ n. is_used net n ≡ true) all
    used = All-weaker (Contains all) (λ n. is_used net n ≡ true) (λ n listed. used_at net (lines_in lines) stands.merged has n listed) all (All-contains_itself all)

    -- the number of a state is among them
    listed : (number : ℕ) (prefix : Prefix) → IsAt net number prefix → Contains all number
    listed number prefix at =
        let there = (states_distinct net (lines_in lines) stands.merged has).same prefix in
        let one = from_map has.1.places all prefix (there.1 (has.3 number prefix at)) in
        let at_one = subst (IsAt net one.0) one.2 (has.1.are_places one.0 (used_at net (lines_in lines) stands.merged has one.0 one.1)) in
        subst (Contains all) (stands.merged.apart one.0 number prefix at_one at) one.1

    told : AreStored engine stored
    told number prefix hop at = stored_at net stands.merged has.1.places has.1.are_places (stores_in engine) all number (After prefix hop) used (listed number (After prefix hop) at) at
