-- What the keys of a tuple find.
use Rattle.std.proofs.Common.{◌≡◌, ◌≢◌, ◌∙◌, sym, ap, refl, subst, inl, inr, ℕ, zero, suc, ◌+◌, ◌<◌, ◌≤◌, ◌⊎◌, ◌&&◌, Bool, true, false, length, get_or, List, [], ◌∷◌, ◌++◌, arith}
use Rattle.std.specs.Prelude.{AllPairs, Contains, Option, Some, None, is_some, min}
use Rattle.std.specs.Option.{option_and_then, option_map}
use Rattle.std.specs.List.{flat_map, range_with_len}
use Rattle.std.proofs.lemmas.Grind.{flat_map-append}
use Rattle.std.proofs.Math.Nat.{min-eq_left, min-eq_right}
use Rattle.std.proofs.lemmas.List.{append-nil}
use Rattle.std.proofs.lemmas.List.Elements.{All-contains_itself, All-weaker, Contains-append_cases, Contains-append_left, Contains-append_right}
use Rattle.event_types.specs.Tuple.{TupleView}
use Rattle.event_types.proofs.NumberLemmas.{same_number, self_equal}
use Rattle.instances.specs.Keys.{Key}
use Rattle.semantics.specs.Values.{value_at}
use Rattle.automaton.specs.States.{Net, entrance_in, tells, wait_by}
use Rattle.automaton.specs.declared.network.State.{State}
use Rattle.automaton.specs.declared.wait.Wait.{Wait}
use Rattle.static_index.specs.FixedParts.{all_hold}
use Rattle.static_index.proofs.LawLemmas.{matched_is_looked_up}
use Rattle.binding_index.specs.Leads.{Entries, Leads, states_at}
use Rattle.stream_readers.specs.Finding.{FindsKeyed, IsUnled, is_found_by, is_keyed_on, is_wait_on, keyed_waits_on, led_at, led_by}
use Rattle.stream_readers.specs.KeyTables.{KeyTable, entries_at}
use Rattle.stream_readers.specs.Leading.{is_at, is_keyed, lead_key_at}
use Rattle.stream_readers.specs.Ways.{is_state_looked_up, parts_at}
use Rattle.stream_readers.proofs.FilingLemmas.{numbers_more}
use Rattle.stream_readers.proofs.KeyTableLemmas.{below_or_past, default_past}
use Rattle.stream_readers.proofs.OnceLemmas.{Once, from_filter, from_outside, in_filter, in_range, none_in, once_apart, once_append, once_filter, once_range, outside, with_others}

-- what holds of a state that is found
pub record IsFound (net : Net) (stream : ℕ) (tuple : TupleView) (attribute n : ℕ) : Type 0 where
  pub waits : is_wait_on net stream n ≡ true
  pub holds : all_hold tuple (parts_at net n) ≡ true
  pub at : is_at attribute (lead_key_at net n) ≡ true

pub is_found : (net : Net) (stream : ℕ) (tuple : TupleView) (attribute n : ℕ) → is_found_by net stream tuple attribute n ≡ true → IsFound net stream tuple attribute n
is_found net stream tuple attribute n found = go (is_wait_on net stream n) (all_hold tuple (parts_at net n)) (is_at attribute (lead_key_at net n)) refl refl refl found
  where
    go : (a b c : Bool) → is_wait_on net stream n ≡ a → all_hold tuple (parts_at net n) ≡ b → is_at attribute (lead_key_at net n) ≡ c → (a && b && c) ≡ true → IsFound net stream tuple attribute n
    go true true true one two three e = record { waits = one; holds = two; at = three }
    go true true false one two three e = absurd (cc)
    go true false c one two three e = absurd (cc)
    go false b c one two three e = absurd (cc)

-- and of one whose key stands at the attribute
pub found_by : (net : Net) (stream : ℕ) (tuple : TupleView) (n : ℕ) (key : Key) → is_wait_on net stream n ≡ true → all_hold tuple (parts_at net n) ≡ true → lead_key_at net n ≡ Some key → is_found_by net stream tuple key.event n ≡ true
found_by net stream tuple n key waits holds by = (λ k. waits k && holds k && is_at key.event (by k)) ∙ self_equal key.event

-- a key stands at one attribute alone
at_one : (o : Option Key) (one other : ℕ) → is_at one o ≡ true → is_at other o ≡ true → one ≡ other
at_one None one other x y = absurd (cc)
at_one (Some key) one other x y = sym (same_number key.event one x) ∙ same_number key.event other y

at_some : (o : Option Key) (attribute : ℕ) → is_at attribute o ≡ true → is_some o ≡ true
at_some None attribute x = absurd (cc)
at_some (Some key) attribute x = refl

module _ (net : Net) (stream : ℕ) (columns : List Entries) (tuple : TupleView) where
  -- one attribute more
  pub led_more : (n : ℕ) → led_by net stream columns tuple (n + 1) ≡ led_by net stream columns tuple n ++ led_at net stream columns tuple n
  led_more n =
      ap (flat_map (led_at net stream columns tuple)) (numbers_more n) ∙ flat_map-append (led_at net stream columns tuple) (range_with_len 0 n) (n ∷ [])
      ∙ ap (λ ns. led_by net stream columns tuple n ++ ns) (append-nil (led_at net stream columns tuple n))

  -- a state is led to at an attribute below a number
  pub record IsLedBelow (n number : ℕ) : Type 0 where
    pub attribute : ℕ
    pub below : attribute < n
    pub led : Contains (states_at (get_or columns attribute []) (value_at tuple attribute)) number
    pub found : is_found_by net stream tuple attribute number ≡ true

  -- what the first attributes lead to is led to by one of them
  pub from_led : (n number : ℕ) → Contains (led_by net stream columns tuple n) number → IsLedBelow n number
  from_led zero number c = absurd (none_in number c)
  from_led (suc n) number c =
      go (Contains-append_cases (led_by net stream columns tuple n) (led_at net stream columns tuple n) number (subst (λ (ns : List ℕ). Contains ns number) (ap (led_by net stream columns tuple) (let e : suc n ≡ n + 1 = omega arith in e) ∙ led_more n) c)) (from_led n number)
    where
      go : Contains (led_by net stream columns tuple n) number ⊎ Contains (led_at net stream columns tuple n) number → (Contains (led_by net stream columns tuple n) number → IsLedBelow n number) → IsLedBelow (suc n) number
      go (inl before) rest = let was = rest before in let lt = was.below in record { attribute = was.attribute; below = omega (arith, lt); led = was.led; found = was.found }
      go (inr here) rest =
          let kept = from_filter (is_found_by net stream tuple n) (states_at (get_or columns n []) (value_at tuple n)) number here in record { attribute = n; below = omega arith; led = kept.1; found = kept.0 }

  -- and what one of them leads to is among it
  pub to_led : (n attribute number : ℕ) → attribute < n → Contains (states_at (get_or columns attribute []) (value_at tuple attribute)) number → is_found_by net stream tuple attribute number ≡ true → Contains (led_by net stream columns tuple n) number
  to_led zero attribute number lt led found = absurd (omega (arith, lt))
  to_led (suc n) attribute number lt led found =
      subst (λ (ns : List ℕ). Contains ns number) (sym (ap (led_by net stream columns tuple) (let e : suc n ≡ n + 1 = omega arith in e) ∙ led_more n)) (go (below_or_past attribute n) (to_led n attribute number))
    where
      here : attribute ≡ n → Contains (led_at net stream columns tuple n) number
      here same = subst (λ k. Contains (led_at net stream columns tuple k) number) same (in_filter (is_found_by net stream tuple attribute) (states_at (get_or columns attribute []) (value_at tuple attribute)) number found led)

      go : (attribute < n) ⊎ (n ≤ attribute) → (attribute < n → Contains (states_at (get_or columns attribute []) (value_at tuple attribute)) number → is_found_by net stream tuple attribute number ≡ true → Contains (led_by net stream columns tuple n) number)
          → Contains (led_by net stream columns tuple n ++ led_at net stream columns tuple n) number
      go (inl lt) rest = Contains-append_left (led_by net stream columns tuple n) (led_at net stream columns tuple n) number (rest lt led found)
      go (inr past) rest = Contains-append_right (led_by net stream columns tuple n) (led_at net stream columns tuple n) number (here (omega (arith, past, lt)))

  -- what is found at one attribute isn't found at another
  pub led_once : (n : ℕ) → ((k : ℕ) → k < n → AllPairs (λ x y. x ≢ y) (states_at (get_or columns k []) (value_at tuple k))) → Once (led_by net stream columns tuple n)
  led_once zero each = tt
  led_once (suc n) each =
      subst Once (sym (ap (led_by net stream columns tuple) (let e : suc n ≡ n + 1 = omega arith in e) ∙ led_more n))
      (once_append (led_by net stream columns tuple n) (led_at net stream columns tuple n) (led_once n (λ k lt. each k (omega (arith, lt))))
      (once_filter (is_found_by net stream tuple n) (states_at (get_or columns n []) (value_at tuple n)) (once_apart (states_at (get_or columns n []) (value_at tuple n)) (each n (omega arith)))) apart)
    where
      apart : (number : ℕ) → Contains (led_by net stream columns tuple n) number → Contains (led_at net stream columns tuple n) number → ⊥
      apart number before here =
          let was = from_led n number before in
          let now = from_filter (is_found_by net stream tuple n) (states_at (get_or columns n []) (value_at tuple n)) number here in
          let same = at_one (lead_key_at net number) was.attribute n (is_found net stream tuple was.attribute number was.found).at (is_found net stream tuple n number now.0).at in
          let lt = was.below in absurd (omega (arith, lt, same))

-- a state that waits on a stream is there
waits_below : (net : Net) (stream n : ℕ) → is_wait_on net stream n ≡ true → n < length net
waits_below net stream n waits = go (below_or_past n (length net))
  where
    go : (n < length net) ⊎ (length net ≤ n) → n < length net
    go (inl lt) = lt
    go (inr past) =
        absurd (let no : false ≡ true = sym (ap (λ (o : Option State). tells stream (option_map (λ (w : Wait). w.stream) (option_and_then wait_by (entrance_in o)))) (default_past None net n past)) ∙ waits in cc)

module _ (net : Net) (table : KeyTable) (stream : ℕ) (tuple : TupleView) where
  abbrev pub columns : List Entries
  columns = get_or table stream []

  -- what is found so waits on the stream by a key
  found_waits : (attribute number : ℕ) → IsFound net stream tuple attribute number → Contains (keyed_waits_on net stream) number
  found_waits attribute number x =
      in_filter (is_keyed_on net stream) (range_with_len 0 (length net)) number ((λ k. x.waits k && at_some (lead_key_at net number) attribute x.at k))
      (in_range 0 (length net) number (omega arith) (let lt = waits_below net stream number x.waits in omega (arith, lt)))

  -- the states to which a tuple leads are those that its keys find
  pub finds_keyed : (old new : List ℕ) (n : ℕ) → n ≡ min (length columns) (length tuple.vals) → new ≡ old ++ led_by net stream columns tuple n
      → ((k : ℕ) → k < n → AllPairs (λ x y. x ≢ y) (states_at (get_or columns k []) (value_at tuple k))) → FindsKeyed net table stream tuple old new
  finds_keyed old new n width are each = record {
    found = found;
    are = are;
    others = outside found (keyed_waits_on net stream);
    all =
        with_others found (keyed_waits_on net stream) (led_once net stream columns tuple n each) (once_filter (is_keyed_on net stream) (range_with_len 0 (length net)) (once_range 0 (length net)))
        (λ number c. let led = from_led net stream columns tuple n number c in found_waits led.attribute number (is_found net stream tuple led.attribute number led.found));
    left_out =
        All-weaker (Contains (outside found (keyed_waits_on net stream))) (λ number. (all_hold tuple (parts_at net number) ≡ false) ⊎ IsUnled net table stream tuple number)
        (λ number c. let out = from_outside found (keyed_waits_on net stream) number c in left_out number (is_waiting number out.0) out.1 (all_hold tuple (parts_at net number)) refl) (outside found (keyed_waits_on net stream)) (All-contains_itself (outside found (keyed_waits_on net stream)));
    looked_up =
        All-weaker (Contains found) (λ number. is_state_looked_up net tuple number ≡ true)
        (λ number c. let led = from_led net stream columns tuple n number c in matched_is_looked_up tuple (parts_at net number) (is_found net stream tuple led.attribute number led.found).holds) found (All-contains_itself found);
  }
    where
      found : List ℕ
      found = led_by net stream columns tuple n

      -- a state that waits on the stream by a key waits on it
      is_waiting : (number : ℕ) → Contains (keyed_waits_on net stream) number → is_wait_on net stream number ≡ true
      is_waiting number c = left (is_wait_on net stream number) (is_keyed net number) (from_filter (is_keyed_on net stream) (range_with_len 0 (length net)) number c).0
        where
          left : (a b : Bool) → (a && b) ≡ true → a ≡ true
          left true b e = refl
          left false b e = absurd (cc)

      -- a key that leads to a state stands at an attribute of the table
      within : (attribute number : ℕ) → Leads (entries_at table stream attribute) (value_at tuple attribute) number → attribute < length columns
      within attribute number leads = go (below_or_past attribute (length columns))
        where
          go : (attribute < length columns) ⊎ (length columns ≤ attribute) → attribute < length columns
          go (inl lt) = lt
          go (inr past) = absurd (none_in number (subst (λ (es : Entries). Leads es (value_at tuple attribute) number) (default_past [] columns attribute past) leads))

      both_below : (a b c m : ℕ) → a < b → a < c → m ≡ min b c → a < m
      both_below a b c m one two is = go (below_or_past b c)
        where
          go : (b < c) ⊎ (c ≤ b) → a < m
          go (inl less) = let e = is ∙ min-eq_left (let le : b ≤ c = omega (arith, less) in le) in omega (arith, one, e)
          go (inr le) = let e = is ∙ min-eq_right le in omega (arith, two, e)

      left_out : (number : ℕ) → is_wait_on net stream number ≡ true → (Contains found number → ⊥) → (b : Bool) → all_hold tuple (parts_at net number) ≡ b → (all_hold tuple (parts_at net number) ≡ false) ⊎ IsUnled net table stream tuple number
      left_out number waits absent false fails = inl fails
      left_out number waits absent true holds =
          inr (λ key by lt leads. absent (to_led net stream columns tuple n key.event number (both_below key.event (length columns) (length tuple.vals) n (within key.event number leads) lt width) leads (found_by net stream tuple number key waits holds by)))
