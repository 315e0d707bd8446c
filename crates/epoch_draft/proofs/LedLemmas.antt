-- Keys that lead to the states where they are ready.
use Rattle.std.proofs.Common.{◌≡◌, ◌∙◌, sym, ap, refl, subst, inl, inr, ℕ, ◌==◌, ◌⊎◌, ◌&&◌, not, Bool, true, false, cond, length, get_or, List, [], ◌∷◌, ◌++◌}
use Rattle.std.specs.Prelude.{Contains, Option, Some, None, is_some}
use Rattle.std.specs.Option.{option_map}
use Rattle.std.specs.Ordering.{int_cmp}
use Rattle.std.specs.List.{All, filter, list_any, range_with_len}
use Rattle.std.specs.List.Sorted.{IsPermutation}
use Rattle.std.proofs.lemmas.List.Elements.{All-append, All-contains, All-contains_itself, All-weaker, Contains-append_right}
use Rattle.std.proofs.lemmas.List.Sorted.{Contains-permutation, IsPermutation-append, IsPermutation-filter_both, IsPermutation-sym, IsPermutation-trans}
use Rattle.event_types.specs.Tuple.{TupleView}
use Rattle.event_types.specs.declared.comparison.Cmp.TheVariants as cmp
use Rattle.event_types.specs.declared.value.Value.{Value}
use Rattle.event_types.specs.declared.value.Value.TheVariants as value
use Rattle.event_types.proofs.NumberLemmas.{same_number}
use Rattle.instances.specs.Keys.{EventFits, IsKeyReady, Key, key_matches, unmatched}
use Rattle.instances.specs.declared.instance.Instance.{Instance}
use Rattle.semantics.specs.Nexts.{is_eligible}
use Rattle.semantics.specs.Scalars.{Pr}
use Rattle.semantics.specs.Truth.{is_met, order_of}
use Rattle.semantics.specs.Values.{value_at}
use Rattle.scalar_expr.specs.Classes.{class_of}
use Rattle.scalar_expr.proofs.Bags.{permuted_from}
use Rattle.static_index.specs.FixedParts.{all_hold}
use Rattle.automaton.specs.States.{Net, tells}
use Rattle.automaton.specs.declared.wait.Wait.{Wait}
use Rattle.binding_index.specs.KeyParts.{first_key}
use Rattle.binding_index.specs.Leads.{Leads, ready_in}
use Rattle.binding_index.specs.declared.store.Store.{Store}
use Rattle.binding_index.proofs.EqualityLemmas.{key_decides}
use Rattle.stream_readers.specs.Finding.{FindsKeyed, FindsPlain, IsDeaf, IsUnled, is_keyed_on, is_wait_on, keyed_waits_on, plain_waits_on, waits_on}
use Rattle.stream_readers.specs.KeyTables.{KeyTable, entries_at}
use Rattle.stream_readers.specs.Leading.{asks_literal, is_keyed, lead_key, lead_key_at, lead_key_in}
use Rattle.stream_readers.specs.Ways.{is_state_looked_up, parts_at}
use Rattle.stream_readers.proofs.OnceLemmas.{from_filter}
use Rattle.stream_readers.proofs.TargetLemmas.{deaf_state}
use Rattle.epoch_laws.specs.Events.{IsKeyOf}
use Rattle.epoch_laws.proofs.Bags.{swap_four}
use Rattle.epoch_laws.proofs.Events.{unmatched_is}
use Rattle.epoch_laws.proofs.Lists.{every, filter-filter}
use Rattle.epoch_draft.specs.Held.{held, key_in}
use Rattle.epoch_draft.specs.Led.{AreLed}
use Rattle.epoch_draft.specs.Meeting.{FindsWaits, MatchesNone}
use Rattle.epoch_draft.specs.Stores.{HasStores}
use Rattle.epoch_draft.specs.Suits.{MeetingSuits}
use Rattle.epoch_draft.proofs.KeyLemmas.{first_key_is, key_at}

-- values that are met as equal are one
same_values : (x y : Value) → is_met cmp.Eq (order_of x y) ≡ true → x ≡ y
same_values (value.Int x) (value.Int y) e = (key_decides (value.Int x) (value.Int y)).0 e
same_values (value.Text x) (value.Text y) e = (key_decides (value.Text x) (value.Text y)).0 e
same_values (value.Dec s x) (value.Dec t y) e = go (s == t) refl e
  where
    go : (b : Bool) → (s == t) ≡ b → is_met cmp.Eq (cond b (Some (int_cmp x y)) None) ≡ true → value.Dec s x ≡ value.Dec t y
    go true same e = let units : value.Int x ≡ value.Int y = (key_decides (value.Int x) (value.Int y)).0 e in let scale = same_number s t same in cc
    go false other e = absurd (cc)
same_values x y e = absurd (cc)

-- a tuple that is eligible for a binding has its key
eligible_key : (choose : List Pr) (key : Key) (tuple : TupleView) (i : Instance) → first_key choose ≡ Some key → is_eligible choose i.tuple tuple ≡ true → value_at tuple key.event ≡ value_at i.tuple key.binding
eligible_key choose key tuple i is eligible = same_values (value_at tuple key.event) (value_at i.tuple key.binding) (go (key_matches (Some key) tuple i.tuple) refl)
  where
    left : unmatched (Some key) choose tuple (i ∷ []) ≡ filter (λ (k : Instance). not (is_eligible choose k.tuple tuple)) (i ∷ [])
    left = unmatched_is (Some key) choose (subst (λ (k : Option Key). IsKeyOf k choose) is (first_key_is choose)) tuple (i ∷ [])

    none : filter (λ (k : Instance). not (is_eligible choose k.tuple tuple)) (i ∷ []) ≡ []
    none = ap (λ b. cond (not b) (i ∷ []) []) eligible

    go : (b : Bool) → key_matches (Some key) tuple i.tuple ≡ b → b ≡ true
    go true e = refl
    go false e =
        let kept : unmatched (Some key) choose tuple (i ∷ []) ≡ i ∷ [] = ap (λ b. cond (not (b && is_eligible choose i.tuple tuple)) (i ∷ []) []) e in
        absurd (let no : i ∷ [] ≡ [] = sym kept ∙ left ∙ none in cc)

-- the states that wait on a stream are those that are found by a key and the others
waits_split : (net : Net) (stream : ℕ) → IsPermutation (plain_waits_on net stream ++ keyed_waits_on net stream) (waits_on net stream)
waits_split net stream =
    permuted_from
    (λ k. sym (filter-filter (λ n. not (is_keyed net n)) (is_wait_on net stream) (range_with_len 0 (length net))) k ++ sym (filter-filter (is_keyed net) (is_wait_on net stream) (range_with_len 0 (length net))) k)
    (IsPermutation-sym (waits_on net stream) (filter (λ n. not (is_keyed net n)) (waits_on net stream) ++ filter (is_keyed net) (waits_on net stream))
    (IsPermutation-filter_both (λ n. not (is_keyed net n)) (is_keyed net) (λ n. twice (is_keyed net n)) (waits_on net stream)))
  where
    twice : (b : Bool) → b ≡ not (not b)
    twice true = refl
    twice false = refl

some_key : (o : Option Key) → is_some o ≡ true → (key : Key) × (o ≡ Some key)
some_key None e = absurd (cc)
some_key (Some key) e = (key, refl)

-- a key by which a state is found is its condition's
pub lead_is_first : (choose : List Pr) (key : Key) → lead_key choose ≡ Some key → first_key choose ≡ Some key
lead_is_first choose key is = go (list_any (λ part. asks_literal (class_of part)) choose) is
  where
    go : (b : Bool) → cond b None (first_key choose) ≡ Some key → first_key choose ≡ Some key
    go true e = absurd (cc)
    go false e = e

module _ (net : Net) (keys : KeyTable) (stores : List (Option Store)) (has : HasStores net stores) (led : AreLed net keys stores) (stream : ℕ) (tuple : TupleView) (suits : All (MeetingSuits net (held stores) tuple) (waits_on net stream)) where
  -- a tuple that doesn't lead to a state is eligible for none of the instances there
  unled_none : (n : ℕ) → Contains (keyed_waits_on net stream) n → IsUnled net keys stream tuple n → MatchesNone net (held stores) tuple n
  unled_none n there unled w at = All-weaker (Contains (held stores n)) (λ (i : Instance). is_eligible w.choose i.tuple tuple ≡ false) (λ i c. go i c (is_eligible w.choose i.tuple tuple) refl) (held stores n) (All-contains_itself (held stores n))
    where
      kept : (is_keyed_on net stream n ≡ true) × Contains (range_with_len 0 (length net)) n
      kept = from_filter (is_keyed_on net stream) (range_with_len 0 (length net)) n there

      waits : Contains (waits_on net stream) n
      waits = Contains-permutation (plain_waits_on net stream ++ keyed_waits_on net stream) (waits_on net stream) n (waits_split net stream) (Contains-append_right (plain_waits_on net stream) (keyed_waits_on net stream) n there)

      left : (a b : Bool) → (a && b) ≡ true → a ≡ true
      left true b e = refl
      left false b e = absurd (cc)

      right : (a b : Bool) → (a && b) ≡ true → b ≡ true
      right true b e = e
      right false b e = absurd (cc)

      on : w.stream ≡ stream
      on = same_number w.stream stream (ap (λ (o : Option Wait). tells stream (option_map (λ (x : Wait). x.stream) o)) (sym at) ∙ left (is_wait_on net stream n) (is_keyed net n) kept.0)

      found : (key : Key) × (lead_key_at net n ≡ Some key)
      found = some_key (lead_key_at net n) (right (is_wait_on net stream n) (is_keyed net n) kept.0)

      key : Key
      key = found.0

      by : lead_key w.choose ≡ Some key
      by = ap lead_key_in (sym at) ∙ found.1

      first : first_key w.choose ≡ Some key
      first = lead_is_first w.choose key by

      fits : EventFits (Some key) tuple
      fits = subst (λ (k : Option Key). EventFits k tuple) first (All-contains (MeetingSuits net (held stores) tuple) (waits_on net stream) n suits waits w at).key

      go : (i : Instance) → Contains (held stores n) i → (b : Bool) → is_eligible w.choose i.tuple tuple ≡ b → b ≡ false
      go i c false e = refl
      go i c true e =
          let same = eligible_key w.choose key tuple i first e in
          let ready : Contains (ready_in (get_or stores n None)) (value_at i.tuple key.binding) =
          subst (λ (k : Option Key). IsKeyReady k (ready_in (get_or stores n None)) i.tuple) (key_at net stores n w has at ∙ first) (All-contains (λ (i : Instance). IsKeyReady (key_in (get_or stores n None)) (ready_in (get_or stores n None)) i.tuple) (held stores n) i (led.ready n) c) in
          let leads = All-contains (λ v. Leads (entries_at keys w.stream key.event) v n) (ready_in (get_or stores n None)) (value_at i.tuple key.binding) (led.led n w key at by) ready in
          absurd (unled key found.1 fits (subst (λ (s : ℕ). Leads (entries_at keys s key.event) (value_at tuple key.event) n) on (subst (λ (v : Value). Leads (entries_at keys w.stream key.event) v n) (sym same) leads)))

  -- what is found without a key and what is found by one is all that may match
  pub finds_all : (plain all : List ℕ) → FindsPlain net stream tuple plain → FindsKeyed net keys stream tuple plain all → FindsWaits net (held stores) stream tuple all
  finds_all plain all one two = record {
    others = one.others ++ two.others;
    all =
        permuted_from (ap (λ (ns : List ℕ). ns ++ (one.others ++ two.others)) two.are)
        (IsPermutation-trans _ _ _ (swap_four plain two.found one.others two.others)
        (IsPermutation-trans _ _ _ (IsPermutation-append (plain ++ one.others) (plain_waits_on net stream) (two.found ++ two.others) (keyed_waits_on net stream) one.all two.all) (waits_split net stream)));
    unmatched =
        All-append (MatchesNone net (held stores) tuple) one.others two.others (All-weaker (IsDeaf net tuple) (MatchesNone net (held stores) tuple) deaf one.others one.deaf)
        (All-weaker (Contains two.others) (MatchesNone net (held stores) tuple)
        (λ n c. left_out n (Contains-permutation (two.found ++ two.others) (keyed_waits_on net stream) n two.all (Contains-append_right two.found two.others n c))
        (All-contains (λ n. (all_hold tuple (parts_at net n) ≡ false) ⊎ IsUnled net keys stream tuple n) two.others n two.left_out c))
        two.others (All-contains_itself two.others));
    looked_up =
        subst (All (λ n. is_state_looked_up net tuple n ≡ true)) (sym two.are) (All-append (λ n. is_state_looked_up net tuple n ≡ true) plain two.found one.looked_up two.looked_up);
  }
    where
      deaf : (n : ℕ) → IsDeaf net tuple n → MatchesNone net (held stores) tuple n
      deaf n none w at = every (λ (i : Instance). is_eligible w.choose i.tuple tuple ≡ false) (λ i. none w at i.tuple) (held stores n)

      left_out : (n : ℕ) → Contains (keyed_waits_on net stream) n → (all_hold tuple (parts_at net n) ≡ false) ⊎ IsUnled net keys stream tuple n → MatchesNone net (held stores) tuple n
      left_out n c (inl fails) = deaf n (deaf_state net tuple n fails)
      left_out n c (inr unled) = unled_none n c unled
