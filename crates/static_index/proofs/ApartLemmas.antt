-- Ids in order, and apart from them those of a set.
use Rattle.std.proofs.Common.{◌≡◌, ◌∙◌, ◌==◌, ◌+◌, ◌++◌, ◌||◌, ap, refl, sym, subst, ℕ, zero, suc, ◌<◌, ◌≤◌, ◌⊎◌, inl, inr, Bool, true, false, not, cond, filter, List, [], ◌∷◌, length, Contains, Some, slice_get, Result, Ok, Err, OnOk, OnErr, arith}
use Rattle.std.specs.declared.cmp.Ordering.{Ordering}
use Rattle.std.specs.declared.cmp.Ordering.TheVariants.{Less, Equal, Greater}
use Rattle.std.specs.BTreeMap.{is_at}
use Rattle.std.specs.BTreeSet.{insert_key}
use Rattle.std.specs.List.{insert, list_any, remove}
use Rattle.std.specs.Ordering.{match_ordering, nat_cmp}
use Rattle.std.specs.Set.{remove_key}
use Rattle.std.proofs.lemmas.Bool.Decides.{nat_tests}
use Rattle.std.proofs.lemmas.List.Elements.{Contains-append_cases, Contains-append_left, Contains-append_right}
use Rattle.std.proofs.lemmas.Option.{slice_get-get_or}
use Rattle.smallvec.specs.SmallVec.{SmallVec}
use Rattle.static_index.specs.Ids.{AreApart, HasAt, LacksAt}
use Rattle.std.proofs.lemmas.Map.Views.{Contains-from_any}
use Rattle.static_index.proofs.BucketLemmas.{nat_exact}
use Rattle.static_index.proofs.HalvingLemmas.{ascend_taken, ascend_tried, none_ascend, taken_where}
use Rattle.static_index.proofs.IdLemmas.{none_of_nil}

-- what is in a list is its first, or behind it
first_or_behind : (k n : ℕ) (ks : List ℕ) → Contains (k ∷ ks) n → (k ≡ n) ⊎ Contains ks n
first_or_behind k n ks (zero, lt, same) = inl same
first_or_behind k n ks (suc p, lt, is) = inr (p, omega arith, is)

-- what is behind the first is in the list
behind : (k n : ℕ) (ks : List ℕ) → Contains ks n → Contains (k ∷ ks) n
behind k n ks has = Contains-append_right (k ∷ []) ks n has

-- an id that is missing isn't there
pub not_there : (id : ℕ) (ids : List ℕ) (place : ℕ) → LacksAt id ids place → Contains ids id → ⊥
not_there id ids place lacks (k, lt, is) =
    let at : slice_get ids k ≡ Some id = slice_get-get_or ids k id lt ∙ ap (λ (n : ℕ). Some n) is in
    let before = lacks.smaller_before k id in
    let after = lacks.greater_after k id in
    grind (arith, at, before, after)

-- what is in ids with one more, is that or was there
only_inserted : (id : ℕ) (ids : List ℕ) (place n : ℕ) → Contains (insert ids place id) n → (id ≡ n) ⊎ Contains ids n
only_inserted id ids zero n has = first_or_behind id n ids has
only_inserted id [] (suc place) n has = first_or_behind id n [] has
only_inserted id (m ∷ ids) (suc place) n has =
    elim (first_or_behind m n (insert ids place id) has) [ inl same ↦ inr (0, omega arith, same) | inr later ↦ elim (only_inserted id ids place n later) [ inl same ↦ inl same | inr was ↦ inr (behind m n ids was) ] ]

-- an id that is put into a set is there, by induction on its ids
pub key_put : (id : ℕ) (ks : List ℕ) → Contains (insert_key nat_cmp ks id) id
key_put id [] = (0, omega arith, refl)
key_put id (k ∷ ks) = go (nat_cmp id k) refl (key_put id ks)
  where
    go : (o : Ordering) → nat_cmp id k ≡ o → Contains (insert_key nat_cmp ks id) id → Contains (match_ordering o (id ∷ k ∷ ks) (k ∷ ks) (k ∷ insert_key nat_cmp ks id)) id
    go Less e rest = (0, omega arith, refl)
    go Equal e rest = let same : k ≡ id = grind (arith, nat_tests) in (0, omega arith, same)
    go Greater e rest = behind k id (insert_key nat_cmp ks id) rest

-- and so are the others
pub keys_stay : (id : ℕ) (ks : List ℕ) (n : ℕ) → Contains ks n → Contains (insert_key nat_cmp ks id) n
keys_stay id [] n has = absurd (none_of_nil n has)
keys_stay id (k ∷ ks) n has = go (nat_cmp id k) (λ later. keys_stay id ks n later)
  where
    go : (o : Ordering) → (Contains ks n → Contains (insert_key nat_cmp ks id) n) → Contains (match_ordering o (id ∷ k ∷ ks) (k ∷ ks) (k ∷ insert_key nat_cmp ks id)) n
    go Less rest = behind id n (k ∷ ks) has
    go Equal rest = has
    go Greater rest = elim (first_or_behind k n ks has) [ inl same ↦ (0, omega arith, same) | inr later ↦ behind k n (insert_key nat_cmp ks id) (rest later) ]

-- and no others
only_put : (id : ℕ) (ks : List ℕ) (n : ℕ) → Contains (insert_key nat_cmp ks id) n → (id ≡ n) ⊎ Contains ks n
only_put id [] n has = first_or_behind id n [] has
only_put id (k ∷ ks) n has = go (nat_cmp id k) has (λ later. only_put id ks n later)
  where
    go : (o : Ordering) → Contains (match_ordering o (id ∷ k ∷ ks) (k ∷ ks) (k ∷ insert_key nat_cmp ks id)) n → (Contains (insert_key nat_cmp ks id) n → (id ≡ n) ⊎ Contains ks n) → (id ≡ n) ⊎ Contains (k ∷ ks) n
    go Less has rest = first_or_behind id n (k ∷ ks) has
    go Equal has rest = inr has
    go Greater has rest = elim (first_or_behind k n (insert_key nat_cmp ks id) has) [ inl same ↦ inr (0, omega arith, same) | inr later ↦ elim (rest later) [ inl same ↦ inl same | inr was ↦ inr (behind k n ks was) ] ]

-- a set finds the ids that are in it, and no others
pub key_there : (id : ℕ) (ks : List ℕ) → list_any (is_at (nat_cmp id)) ks ≡ true → Contains ks id
key_there id ks found = Contains-from_any nat_exact id ks found

pub there_found : (id : ℕ) (ks : List ℕ) → Contains ks id → list_any (is_at (nat_cmp id)) ks ≡ true
there_found id [] has = absurd (none_of_nil id has)
there_found id (k ∷ ks) has = go (is_at (nat_cmp id) k) refl (λ later. there_found id ks later)
  where
    rest : Contains (k ∷ ks) id → is_at (nat_cmp id) k ≡ false → Contains ks id
    rest has other = elim (first_or_behind k id ks has) [ inl same ↦ absurd (grind (arith, nat_tests)) | inr later ↦ later ]

    go : (b : Bool) → is_at (nat_cmp id) k ≡ b → (Contains ks id → list_any (is_at (nat_cmp id)) ks ≡ true) → (b || list_any (is_at (nat_cmp id)) ks) ≡ true
    go true is later = refl
    go false is later = later (rest has is)

-- the ids other than one
abbrev others : ℕ → List ℕ → List ℕ
others id ids = filter (λ n. not (n == id)) ids

-- what is kept was there
only_kept : (id : ℕ) (ids : List ℕ) (n : ℕ) → Contains (others id ids) n → Contains ids n
only_kept id [] n has = has
only_kept id (m ∷ ids) n has = go (not (m == id)) has (λ later. only_kept id ids n later)
  where
    go : (b : Bool) → Contains (cond b (m ∷ others id ids) (others id ids)) n → (Contains (others id ids) n → Contains ids n) → Contains (m ∷ ids) n
    go true has rest = elim (first_or_behind m n (others id ids) has) [ inl same ↦ (0, omega arith, same) | inr later ↦ behind m n ids (rest later) ]
    go false has rest = behind m n ids (rest has)

-- where an id isn't there, none is taken out
pub none_out : (id : ℕ) (ids : List ℕ) → (Contains ids id → ⊥) → others id ids ≡ ids
none_out id [] absent = refl
none_out id (m ∷ ids) absent =
    let apart : m ≡ id → ⊥ = λ (same : m ≡ id). absent (0, omega arith, same) in
    let stays : not (m == id) ≡ true = grind (arith, nat_tests, apart) in
    ap (λ b. cond b (m ∷ others id ids) (others id ids)) stays ∙ ap (λ ms. m ∷ ms) (none_out id ids (λ has. absent (behind m id ids has)))

-- nor where no key of a set is the id
none_found : (id : ℕ) (ks : List ℕ) → list_any (is_at (nat_cmp id)) ks ≡ false → others id ks ≡ ks
none_found id [] none = refl
none_found id (k ∷ ks) none = go (is_at (nat_cmp id) k) refl none (none_found id ks)
  where
    go : (b : Bool) → is_at (nat_cmp id) k ≡ b → (b || list_any (is_at (nat_cmp id)) ks) ≡ false → (list_any (is_at (nat_cmp id)) ks ≡ false → others id ks ≡ ks) → others id (k ∷ ks) ≡ k ∷ ks
    go true is none rest = absurd (cc)
    go false is none rest =
        let stays : not (k == id) ≡ true = grind (arith, nat_tests) in
        ap (λ b. cond b (k ∷ others id ks) (others id ks)) stays ∙ ap (λ ms. k ∷ ms) (rest none)

-- where an id is taken out of a set and isn't there any more, the others are left
pub key_taken : (id : ℕ) (ks : List ℕ) → list_any (is_at (nat_cmp id)) (remove_key (is_at (nat_cmp id)) ks) ≡ false → remove_key (is_at (nat_cmp id)) ks ≡ others id ks
key_taken id [] none = refl
key_taken id (k ∷ ks) none = go (is_at (nat_cmp id) k) refl none (λ rest. key_taken id ks rest)
  where
    go : (b : Bool) → is_at (nat_cmp id) k ≡ b → list_any (is_at (nat_cmp id)) (cond b ks (k ∷ remove_key (is_at (nat_cmp id)) ks)) ≡ false → (list_any (is_at (nat_cmp id)) (remove_key (is_at (nat_cmp id)) ks) ≡ false → remove_key (is_at (nat_cmp id)) ks ≡ others id ks) → cond b ks (k ∷ remove_key (is_at (nat_cmp id)) ks) ≡ others id (k ∷ ks)
    go true is none later =
        let leaves : not (k == id) ≡ false = grind (arith, nat_tests) in
        sym (ap (λ b. cond b (k ∷ others id ks) (others id ks)) leaves ∙ none_found id ks none)
    go false is none later =
        let stays : not (k == id) ≡ true = grind (arith, nat_tests) in
        let rest : list_any (is_at (nat_cmp id)) (remove_key (is_at (nat_cmp id)) ks) ≡ false = sym (ap (λ b. b || list_any (is_at (nat_cmp id)) (remove_key (is_at (nat_cmp id)) ks)) is) ∙ none in
        ap (λ ms. k ∷ ms) (later rest) ∙ sym (ap (λ b. cond b (k ∷ others id ks) (others id ks)) stays)

-- where there is no length, there is no id
pub no_length : (ids : List ℕ) → length ids ≡ 0 → [] ≡ ids
no_length [] none = refl
no_length (n ∷ ids) none = absurd (omega arith)

-- no ids are apart
pub none_apart : AreApart [] []
none_apart = record { within = omega arith; ascend = none_ascend; apart = λ n has _. none_of_nil n has }

-- ids that are missing in order may have been put into the set
pub apart_put : {T E : Type 0} (r : Result T E) (id : ℕ) (few many new : List ℕ) (place : ℕ) → OnOk r (new ≡ insert_key nat_cmp many id) → OnErr r (new ≡ many) → LacksAt id few place → AreApart few many → AreApart few new
apart_put (Ok x) id few many new place put kept lacks old = record {
  within = old.within;
  ascend = old.ascend;
  apart = λ n among has. elim (only_put id many n (subst (λ ks. Contains ks n) put has)) [ inl same ↦ not_there id few place lacks (subst (Contains few) (sym same) among) | inr was ↦ old.apart n among was ];
}
apart_put (Err x) id few many new place put kept lacks old = subst (AreApart few) (sym kept) old

-- what was there stays, where an id may have been put into the set
pub put_kept : {T E : Type 0} (r : Result T E) (id : ℕ) (few many new : List ℕ) → OnOk r (new ≡ insert_key nat_cmp many id) → OnErr r (new ≡ many) → (n : ℕ) → Contains (few ++ many) n → Contains (few ++ new) n
put_kept (Ok x) id few many new put kept n has =
    elim (Contains-append_cases few many n has) [ inl there ↦ Contains-append_left few new n there | inr there ↦ Contains-append_right few new n (subst (λ ks. Contains ks n) (sym put) (keys_stay id many n there)) ]
put_kept (Err x) id few many new put kept n has = subst (λ ks. Contains (few ++ ks) n) (sym kept) has

-- and the id is there
pub put_there : {T E : Type 0} (r : Result T E) (id : ℕ) (few many new : List ℕ) → OnOk r (new ≡ insert_key nat_cmp many id) → OnOk r (Contains (few ++ new) id)
put_there (Ok x) id few many new put = Contains-append_right few new id (subst (λ ks. Contains ks id) (sym put) (key_put id many))
put_there (Err x) id few many new put = tt

-- one that is put in order makes ids longer by one
longer_by_one : (id : ℕ) (ids : List ℕ) (place : ℕ) → length (insert ids place id) ≤ length ids + 1
longer_by_one id ids zero = omega arith
longer_by_one id [] (suc place) = omega arith
longer_by_one id (m ∷ ids) (suc place) = let le = longer_by_one id ids place in omega (arith, le)

within_most : {T E : Type 0} (r : Result T E) (id : ℕ) (old new : SmallVec ℕ) (place : ℕ) → OnOk r (new.items ≡ insert old.items place id) → OnErr r (new ≡ old) → length old.items < 256 → length new.items ≤ 256
within_most (Ok x) id old new place put kept room = let le = longer_by_one id old.items place in let same = ap (λ (ids : List ℕ). length ids) put in omega (arith, le, same, room)
within_most (Err x) id old new place put kept room = let same = ap (λ (v : SmallVec ℕ). length v.items) kept in omega (arith, same, room)

-- what is in ids where one may have been put, is that or was there
only_tried : {T E : Type 0} (r : Result T E) (id : ℕ) (old new : SmallVec ℕ) (place : ℕ) → OnOk r (new.items ≡ insert old.items place id) → OnErr r (new ≡ old) → (n : ℕ) → Contains new.items n → (id ≡ n) ⊎ Contains old.items n
only_tried (Ok x) id old new place put kept n has = only_inserted id old.items place n (subst (λ ids. Contains ids n) put has)
only_tried (Err x) id old new place put kept n has = inr (subst (λ (v : SmallVec ℕ). Contains v.items n) kept has)

-- an id that isn't in the set may have been put in order
pub apart_inserted : {T E : Type 0} (r : Result T E) (id : ℕ) (old new : SmallVec ℕ) (many : List ℕ) (place : ℕ) → OnOk r (new.items ≡ insert old.items place id) → OnErr r (new ≡ old) → length old.items < 256 → LacksAt id old.items place → (Contains many id → ⊥) → AreApart old.items many → AreApart new.items many
apart_inserted r id old new many place put kept room lacks absent was = record {
  within = within_most r id old new place put kept room;
  ascend = ascend_tried r id old new place put kept lacks was.ascend;
  apart = λ n among has. elim (only_tried r id old new place put kept n among) [ inl same ↦ absent (subst (Contains many) (sym same) has) | inr there ↦ was.apart n there has ];
}

-- ids stay apart where one is taken out of those in order
pub apart_taken : (id : ℕ) (few many : List ℕ) (place : ℕ) → HasAt id few place → AreApart few many → AreApart (remove few place) many
apart_taken id few many place at old = record {
  within = let le = shorter few place in let most = old.within in omega (arith, le, most);
  ascend = ascend_taken id few place old.ascend at;
  apart = λ n among has. old.apart n (only_kept id few n (subst (λ ids. Contains ids n) (taken_where id few place old.ascend at) among)) has;
}
  where
    shorter : (ids : List ℕ) (p : ℕ) → length (remove ids p) ≤ length ids
    shorter [] zero = omega arith
    shorter [] (suc p) = omega arith
    shorter (m ∷ ids) zero = omega arith
    shorter (m ∷ ids) (suc p) = let le = shorter ids p in omega (arith, le)

-- or out of the set
pub apart_kept : (id : ℕ) (few many new : List ℕ) → new ≡ others id many → AreApart few many → AreApart few new
apart_kept id few many new is old = record { within = old.within; ascend = old.ascend; apart = λ n among has. old.apart n among (only_kept id many n (subst (λ ids. Contains ids n) is has)) }
