-- Targets that stand at places.
use Rattle.std.proofs.Common.{◌≡◌, ◌∙◌, sym, ap, refl, inl, inr, subst, ℕ, ◌≢◌, ◌==◌, ◌⊎◌, ◌&&◌, not, Bool, true, false, cond, length, List, arith}
use Rattle.std.specs.Prelude.{Option, Some, None, is_some}
use Rattle.std.specs.HashMap.{HashMap, get}
use Rattle.std.specs.Option.{option_map}
use Rattle.std.specs.List.{flat_map}
use Rattle.std.proofs.lemmas.List.Elements.{filter_agree}
use Rattle.automaton.proofs.NumberLemmas.{are_same_or_not}
use Rattle.event_types.proofs.NumberLemmas.{is_other, self_equal}
use Rattle.static_index.specs.Conditions.{Condition, without}
use Rattle.stream_readers.specs.Filing.{AreAtPlaces, Slots, filed_in, slot_at}
use Rattle.stream_readers.specs.Leaving.{left_by, moved, moved_in}
use Rattle.stream_readers.specs.Naming.{gone_name, is_same, last_name, name_of}
use Rattle.stream_readers.specs.Places.{ComesTo, HavePlaces, MayHavePlaces, StandsAt, StandsOnlyAt, TellsOf}
use Rattle.stream_readers.specs.declared.leaving.Gone.{Gone}
use Rattle.stream_readers.specs.declared.naming.Name.{Name}
use Rattle.stream_readers.specs.declared.target.Target.{Target}
use Rattle.stream_readers.proofs.KeyTableLemmas.{ChangedBelow, default_past}
use Rattle.stream_readers.proofs.NamingLemmas.{equal_name, last_takes, name_goes, name_stays, one_name_or_two, other_name}
use Rattle.stream_readers.proofs.TakenLemmas.{all_named, is_taken, left_filed, left_places, moves, still_named, twice}

and_yes : (b : Bool) → (b && true) ≡ b
and_yes true = refl
and_yes false = refl

and_no : (b : Bool) → (b && false) ≡ false
and_no true = refl
and_no false = refl

-- what has neither name stays
other_stays : (gone : Gone) (o : Option Target) → (option_map name_of o ≡ Some (gone_name gone) → ⊥) → (option_map name_of o ≡ Some (last_name gone) → ⊥) → o ≡ moved_in gone o
other_stays gone None apart other = refl
other_stays gone (Some target) apart other = sym (name_stays gone target (λ same. apart (ap Some same)) (λ same. other (ap Some same)))

-- names that stand alike are one
names_one : (a b : Name) → Some a ≡ Some b → a ≡ b
names_one a b is = cc

-- where a target stands the place isn't free
pub is_taken_at : (slots : Slots) (place : ℕ) {name : Name} → StandsOnlyAt slots name place → is_taken slots place ≡ true
is_taken_at slots place {name} stands = go (slot_at slots place) stands.here
  where
    go : (o : Option Target) → option_map name_of o ≡ Some name → is_some o ≡ true
    go None is = absurd (cc)
    go (Some target) is = refl

-- what has the name of the one that leaves leaves
gone_goes : (gone : Gone) (o : Option Target) → option_map name_of o ≡ Some (gone_name gone) → moved_in gone o ≡ None
gone_goes gone None is = absurd (cc)
gone_goes gone (Some target) is = name_goes gone target (names_one (name_of target) (gone_name gone) is)

-- all else is there still
else_taken : (gone : Gone) (o : Option Target) → (option_map name_of o ≡ Some (gone_name gone) → ⊥) → is_some (moved_in gone o) ≡ is_some o
else_taken gone None apart = refl
else_taken gone (Some target) apart = go (one_name_or_two (name_of target) (last_name gone))
  where
    named : (o : Option Target) → option_map name_of o ≡ Some (gone_name gone) → is_some o ≡ true
    named None is = absurd (cc)
    named (Some target) is = refl

    go : (name_of target ≡ last_name gone) ⊎ (name_of target ≡ last_name gone → ⊥) → is_some (moved gone target) ≡ true
    go (inl same) = named (moved gone target) (last_takes gone target same (λ e. apart (ap Some e)))
    go (inr other) = ap is_some (name_stays gone target (λ e. apart (ap Some e)) other)

module _ (gone : Gone) (old mid new : Slots) (place last : ℕ) (here : StandsOnlyAt old (gone_name gone) place) (there : StandsOnlyAt old (last_name gone) last) (left : slot_at mid place ≡ moved_in gone (slot_at old place)) (others : (k : ℕ) → k ≢ place → slot_at mid k ≡ slot_at old k)
    (moved_up : slot_at new last ≡ moved_in gone (slot_at mid last)) (rest : (k : ℕ) → k ≢ last → slot_at new k ≡ slot_at mid k) where
  -- where the places of the one that leaves and of the last one are seen to, each place has what is left
  pub each_left : (k : ℕ) → slot_at new k ≡ moved_in gone (slot_at old k)
  each_left k = go (are_same_or_not k last) (are_same_or_not k place)
    where
      go : (k ≡ last) ⊎ (k ≡ last → ⊥) → (k ≡ place) ⊎ (k ≡ place → ⊥) → slot_at new k ≡ moved_in gone (slot_at old k)
      go (inl same) (inl at) =
          let none = ap (slot_at mid) (sym same ∙ at) ∙ left ∙ gone_goes gone (slot_at old place) here.here in
          ap (slot_at new) same ∙ moved_up ∙ ap (moved_in gone) none ∙ sym (ap (λ n. moved_in gone (slot_at old n)) at ∙ gone_goes gone (slot_at old place) here.here)
      go (inl same) (inr other) = ap (slot_at new) same ∙ moved_up ∙ ap (λ n. moved_in gone (slot_at mid n)) (sym same) ∙ ap (moved_in gone) (others k other)
      go (inr apart) (inl at) = rest k apart ∙ ap (slot_at mid) at ∙ left ∙ ap (λ n. moved_in gone (slot_at old n)) (sym at)
      go (inr apart) (inr other) = rest k apart ∙ others k other ∙ other_stays gone (slot_at old k) (λ stands. other (here.alone k stands)) (λ stands. apart (there.alone k stands))

module _ (gone : Gone) (old new : Slots) (each : (k : ℕ) → slot_at new k ≡ moved_in gone (slot_at old k)) where
  module _ (place : ℕ) (here : StandsOnlyAt old (gone_name gone) place) (as_many : length new ≡ length old) where
    freed : ChangedBelow (moves gone) None (length old) old new
    freed = record {
      as_many = as_many;
      changed = λ k lt. each k;
      others = λ k le. default_past None new k (omega (arith, le, as_many)) ∙ sym (default_past None old k le);
    }

    still : (k : ℕ) → is_taken new k ≡ (is_taken old k && not (k == place))
    still k = go (are_same_or_not k place)
      where
        go : (k ≡ place) ⊎ (k ≡ place → ⊥) → is_taken new k ≡ (is_taken old k && not (k == place))
        go (inl same) =
            ap is_some (each k ∙ ap (λ n. moved_in gone (slot_at old n)) same ∙ gone_goes gone (slot_at old place) here.here) ∙ sym (and_no (is_taken old k))
            ∙ ap (λ b. is_taken old k && not b) (sym (ap (λ m. m == place) same ∙ self_equal place))
        go (inr other) =
            ap is_some (each k) ∙ else_taken gone (slot_at old k) (λ stands. other (here.alone k stands)) ∙ sym (and_yes (is_taken old k)) ∙ ap (λ b. is_taken old k && not b) (sym (is_other k place other))

    named : (conditions : List Condition) → AreAtPlaces old conditions → without place conditions ≡ still_named new conditions
    named conditions at =
        ap (without place) (all_named old conditions at) ∙ twice (λ (c : Condition). is_taken old c.id) (λ (c : Condition). not (c.id == place)) conditions
        ∙ filter_agree (λ (c : Condition). is_taken old c.id && not (c.id == place)) (λ (c : Condition). is_taken new c.id) (λ c. sym (still c.id)) conditions

    -- and the conditions without that of the one that leaves name the others
    pub freed_places : (conditions now : List Condition) → now ≡ without place conditions → AreAtPlaces old conditions → AreAtPlaces new now
    freed_places conditions now is at = subst (AreAtPlaces new) (sym (is ∙ named conditions at)) (left_places gone old new conditions at freed)

    pub freed_filed : (conditions now : List Condition) → now ≡ without place conditions → AreAtPlaces old conditions → filed_in new now ≡ flat_map (left_by gone) (filed_in old conditions)
    freed_filed conditions now is at = ap (filed_in new) (is ∙ named conditions at) ∙ left_filed gone old new conditions at freed conditions

  -- a table that tells the place of the last one by the name of the one that leaves tells of all
  pub passed_on : {S : Type 0} (table mid left : HashMap Name ℕ S) (last : ℕ) → StandsOnlyAt old (last_name gone) last → HavePlaces table old → TellsOf (gone_name gone) (Some last) table mid → TellsOf (last_name gone) None mid left → HavePlaces left new
  passed_on table mid left last there have noted forgotten k n stands = go (slot_at old k) refl (ap (option_map name_of) (sym (each k)) ∙ stands)
    where
      at_last : (target : Target) → slot_at old k ≡ Some target → name_of target ≡ last_name gone → (name_of target ≡ gone_name gone → ⊥) → gone_name gone ≡ n → get is_same left n ≡ Some k
      at_last target is same apart one =
          ap (get is_same left) (sym one) ∙ forgotten (gone_name gone)
          ∙ ap (λ b. cond b None (get is_same mid (gone_name gone))) (other_name (last_name gone) (gone_name gone) (λ e. apart (same ∙ e))) ∙ noted (gone_name gone)
          ∙ ap (λ b. cond b (Some last) (get is_same table (gone_name gone))) (equal_name (gone_name gone)) ∙ ap (λ m. Some m) (sym (there.alone k (ap (option_map name_of) is ∙ ap Some same)))

      at_other : (target : Target) → slot_at old k ≡ Some target → (name_of target ≡ last_name gone → ⊥) → (name_of target ≡ gone_name gone → ⊥) → name_of target ≡ n → get is_same left n ≡ Some k
      at_other target is other apart one =
          forgotten n ∙ ap (λ b. cond b None (get is_same mid n)) (other_name (last_name gone) n (λ e. other (one ∙ sym e))) ∙ noted n
          ∙ ap (λ b. cond b (Some last) (get is_same table n)) (other_name (gone_name gone) n (λ e. apart (one ∙ sym e))) ∙ have k n (ap (option_map name_of) is ∙ ap Some one)

      by_name : (target : Target) → slot_at old k ≡ Some target → option_map name_of (moved gone target) ≡ Some n → (name_of target ≡ gone_name gone) ⊎ (name_of target ≡ gone_name gone → ⊥) → (name_of target ≡ last_name gone) ⊎ (name_of target ≡ last_name gone → ⊥)
          → get is_same left n ≡ Some k
      by_name target is stands (inl same) last = absurd (let none = sym (ap (option_map name_of) (name_goes gone target same)) ∙ stands in cc)
      by_name target is stands (inr apart) (inl same) = at_last target is same apart (names_one (gone_name gone) n (sym (last_takes gone target same apart) ∙ stands))
      by_name target is stands (inr apart) (inr other) = at_other target is other apart (names_one (name_of target) n (sym (ap (option_map name_of) (name_stays gone target apart other)) ∙ stands))

      go : (o : Option Target) → slot_at old k ≡ o → option_map name_of (moved_in gone o) ≡ Some n → get is_same left n ≡ Some k
      go None is stands = absurd (cc)
      go (Some target) is stands = by_name target is stands (one_name_or_two (name_of target) (gone_name gone)) (one_name_or_two (name_of target) (last_name gone))

-- a table that tells of a target knows its name
pub is_told : {S : Type 0} (table : HashMap Name ℕ S) (slots : Slots) (name : Name) (place : ℕ) → HavePlaces table slots → StandsOnlyAt slots name place → get is_same table name ≢ None
is_told table slots name place have stands none = absurd (let no : Some place ≡ None = sym (have place name stands.here) ∙ none in cc)

module _ {S : Type 0} (table : HashMap Name ℕ S) (slots : Slots) (name : Name) (have : HavePlaces table slots) where
  -- where a target stands at the place that is told, it stands at no other
  pub told_stands : (place : ℕ) → Some place ≡ get is_same table name → StandsAt slots name place → StandsOnlyAt slots name place
  told_stands place told stands = record { here = stands; alone = λ other at. same other at }
    where
      same : (other : ℕ) → StandsAt slots name other → other ≡ place
      same other at = let e : Some other ≡ Some place = sym (have other name at) ∙ sym told in cc

  -- and where it doesn't, it stands nowhere
  pub told_absent : (place : ℕ) → Some place ≡ get is_same table name → (StandsAt slots name place → ⊥) → (other : ℕ) → StandsAt slots name other → ⊥
  told_absent place told absent other at = absent (subst (StandsAt slots name) (same (sym (have other name at) ∙ sym told)) at)
    where
      same : Some other ≡ Some place → other ≡ place
      same e = cc

  -- nor where no place is told
  pub untold_absent : None ≡ get is_same table name → (other : ℕ) → StandsAt slots name other → ⊥
  untold_absent told other at = absurd (let e : None ≡ Some other = told ∙ have other name at in cc)

-- a target that stands nowhere may be noted at any place
pub noted_kept : {S : Type 0} (name : Name) (place : ℕ) (slots : Slots) (table came : HashMap Name ℕ S) → ((k : ℕ) → StandsAt slots name k → ⊥) → TellsOf name (Some place) table came → HavePlaces table slots → HavePlaces came slots
noted_kept name place slots table came absent tells have k n stands = go (one_name_or_two n name)
  where
    go : (n ≡ name) ⊎ (n ≡ name → ⊥) → get is_same came n ≡ Some k
    go (inl same) = absurd (absent k (stands ∙ ap Some same))
    go (inr apart) = tells n ∙ ap (λ b. cond b (Some place) (get is_same table n)) (other_name name n (λ same. apart (sym same))) ∙ have k n stands

-- and has its place once it came there
pub noted_came : {S : Type 0} (target : Target) (name : Name) (place : ℕ) (old new : Slots) (table came : HashMap Name ℕ S) → name ≡ name_of target → ((k : ℕ) → StandsAt old name k → ⊥) → TellsOf name (Some place) table came → HavePlaces table old → ComesTo place target old new → HavePlaces came new
noted_came target name place old new table came named absent tells have comes k n stands = go (are_same_or_not k place)
  where
    go : (k ≡ place) ⊎ (k ≡ place → ⊥) → get is_same came n ≡ Some k
    go (inl same) =
        let one = named ∙ names_one (name_of target) n (sym (ap (option_map name_of) comes.here) ∙ sym (ap (λ m. option_map name_of (slot_at new m)) same) ∙ stands) in
        tells n ∙ ap (λ b. cond b (Some place) (get is_same table n)) (ap (is_same name) (sym one) ∙ equal_name name) ∙ ap (λ m. Some m) (sym same)
    go (inr other) = noted_kept name place old table came absent tells have k n (sym (ap (option_map name_of) (comes.others k other)) ∙ stands)

-- places that have the same are told alike
pub may_had : {S : Type 0} (places : Option (HashMap Name ℕ S)) (old new : Slots) → ((k : ℕ) → slot_at new k ≡ slot_at old k) → MayHavePlaces places old → MayHavePlaces places new
may_had None old new same have = tt
may_had (Some table) old new same have = λ k n stands. have k n (sym (ap (option_map name_of) (same k)) ∙ stands)
