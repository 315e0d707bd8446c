-- Entries at the places of their ids and behind these, and what is found of them.
use denote.Bor.{Bor}
use mir.Val.{bool_byte}
use Rattle.std.proofs.Common.{◌≡◌, ◌∙◌, ◌+◌, ◌-◌, ◌++◌, ap, refl, sym, subst, ℕ, zero, suc, ◌<◌, ◌≤◌, Bool, true, false, cond, List, [], ◌∷◌, length, get_or, set, Some, None, Option, slice_get, Contains, arith}
use Rattle.std.specs.declared.cmp.Ordering.{Ordering}
use Rattle.std.specs.declared.cmp.Ordering.TheVariants.{Less, Equal, Greater}
use Rattle.std.specs.BTreeMap.{insert_entry, is_at}
use Rattle.std.specs.List.{AllByRecursion}
use Rattle.std.specs.List.Sorted.{IsStrictlySortedBy}
use Rattle.std.specs.Option.{is_some, option_copied}
use Rattle.std.specs.Map.{keys_of, remove_entry}
use Rattle.std.specs.Ordering.{match_ordering, nat_cmp}
use Rattle.std.proofs.lemmas.Bool.Decides.{nat_tests}
use Rattle.std.proofs.lemmas.List.{length-append, length-set}
use Rattle.std.proofs.lemmas.Option.{slice_get-get_or}
use Rattle.std.proofs.lemmas.Map.Views.{Contains-keys_from_lookup}
use Rattle.static_index.specs.Conditions.{ids_of}
use Rattle.static_index.specs.Entries.{AreOrdered, entry_of}
use Rattle.static_index.specs.Places.{AreBehind, AreFrom, count_filled, entries_from, with_place}
use Rattle.static_index.specs.Table.{conditions_of}
use Rattle.static_index.specs.declared.entry.Entry.{Entry}
use Rattle.static_index.proofs.BucketLemmas.{nat_exact}
use Rattle.static_index.proofs.TableLemmas.{keys_are_ids}

-- all of these ids are greater than one
abbrev AreAbove : ℕ → List ℕ → Type 0
AreAbove id ids = AllByRecursion (λ n. nat_cmp id n ≡ Less) ids

-- a query finds its own id, and no other
found_here : (id n : ℕ) → id ≡ n → is_at (nat_cmp id) n ≡ true
found_here id n same = grind (arith, nat_tests)

not_found : (id n : ℕ) → n < id → is_at (nat_cmp id) n ≡ false
not_found id n less = grind (arith, nat_tests)

-- ids that are at least one are at least a smaller one
pub from_lower : (m n : ℕ) (es : List (ℕ × Entry)) → m ≤ n → AreFrom n es → AreFrom m es
from_lower m n [] le all = tt
from_lower m n (e ∷ es) le all = (let least = all.0 in omega (arith, least, le), from_lower m n es le all.1)

-- ids that are at least the next one are above one
from_above : (id n : ℕ) (es : List (ℕ × Entry)) → id < n → AreFrom n es → AreAbove id (keys_of es)
from_above id n [] lt all = tt
from_above id n (e ∷ es) lt all = (let least = all.0 in let key = e.0 in grind (arith, nat_tests, least, lt), from_above id n es lt all.1)

-- an entry before others whose ids are at least its own
from_with : (id : ℕ) (o : Option Entry) (es : List (ℕ × Entry)) → AreFrom id es → AreFrom id (with_place id o es)
from_with id None es all = all
from_with id (Some entry) es all = (omega arith, all)

-- the ids of places are at least the first, and so are those behind, by induction on the places
places_from : (id : ℕ) (places : List (Option Entry)) (others : List (ℕ × Entry)) → AreFrom (id + length places) others → AreFrom id (entries_from id places others)
places_from id [] others all = from_lower id (id + 0) others (omega arith) all
places_from id (p ∷ places) others all =
    from_with id p (entries_from (suc id) places others)
    (from_lower id (suc id) (entries_from (suc id) places others) (omega arith) (places_from (suc id) places others (from_lower (suc id + length places) (id + suc (length places)) others (omega arith) all)))

-- behind the first place all ids are greater
above_first : (id base : ℕ) (p : Option Entry) (places : List (Option Entry)) (others : List (ℕ × Entry)) → id ≡ base → AreFrom (base + length (p ∷ places)) others → AreAbove id (keys_of (entries_from (suc base) places others))
above_first id base p places others same all =
    from_above id (suc base) (entries_from (suc base) places others) (omega (arith, same))
    (places_from (suc base) places others (from_lower (suc base + length places) (base + suc (length places)) others (omega arith) all))

-- where all ids are greater than one, that has no entry
none_above : (id : ℕ) (es : List (ℕ × Entry)) → AreAbove id (keys_of es) → entry_of id es ≡ None
none_above id [] all = refl
none_above id (e ∷ es) all =
    let less = all.0 in
    let other : is_at (nat_cmp id) e.0 ≡ false = grind (arith, nat_tests) in
    ap (λ (b : Bool). cond b (Some e.1) (entry_of id es)) other ∙ none_above id es all.1

-- the entry of the first place
first_found : (id n : ℕ) (o : Option Entry) (es : List (ℕ × Entry)) → id ≡ n → AreAbove id (keys_of es) → entry_of id (with_place n o es) ≡ o
first_found id n None es same above = none_above id es above
first_found id n (Some entry) es same above = ap (λ (b : Bool). cond b (Some entry) (entry_of id es)) (found_here id n same)

-- a smaller id changes nothing of what is found
smaller_before : (id n : ℕ) (o : Option Entry) (es : List (ℕ × Entry)) → n < id → entry_of id (with_place n o es) ≡ entry_of id es
smaller_before id n None es less = refl
smaller_before id n (Some entry) es less = ap (λ (b : Bool). cond b (Some entry) (entry_of id es)) (not_found id n less)

-- the entry of an id that names a place stands there, by induction on the places
pub dense_found : (id base : ℕ) (places : List (Option Entry)) (others : List (ℕ × Entry)) (place : ℕ) (o : Option Entry) → id ≡ base + place → slice_get places place ≡ Some o → AreFrom (base + length places) others → entry_of id (entries_from base places others) ≡ o
dense_found id base [] others place o is at all = absurd (cc)
dense_found id base (p ∷ places) others zero o is at all =
    let same : p ≡ o = cc in
    first_found id base p (entries_from (suc base) places others) (omega (arith, is)) (above_first id base p places others (omega (arith, is)) all) ∙ same
dense_found id base (p ∷ places) others (suc place) o is at all =
    smaller_before id base p (entries_from (suc base) places others) (omega (arith, is))
    ∙ dense_found id (suc base) places others place o (omega (arith, is)) at (from_lower (suc base + length places) (base + suc (length places)) others (omega arith) all)

-- that of any other id from the places on stands behind them, by induction on the places
pub sparse_found : (id base : ℕ) (places : List (Option Entry)) (others : List (ℕ × Entry)) → base + length places ≤ id → entry_of id (entries_from base places others) ≡ entry_of id others
sparse_found id base [] others le = refl
sparse_found id base (p ∷ places) others le = smaller_before id base p (entries_from (suc base) places others) (omega (arith, le)) ∙ sparse_found id (suc base) places others (omega (arith, le))

-- an entry that is put before greater ids stands first
put_first : (id n : ℕ) (entry : Entry) (es : List (ℕ × Entry)) → id ≡ n → AreAbove id (keys_of es) → (n, entry) ∷ es ≡ insert_entry nat_cmp es id entry
put_first id n entry [] same above = ap (λ (k : ℕ). (k, entry) ∷ []) (sym same)
put_first id n entry (e ∷ es) same above =
    ap (λ (k : ℕ). (k, entry) ∷ e ∷ es) (sym same) ∙ ap (λ (o : Ordering). match_ordering o ((id, entry) ∷ e ∷ es) ((e.0, entry) ∷ es) (e ∷ insert_entry nat_cmp es id entry)) (sym above.0)

-- and behind a smaller id it is put among the rest
put_behind : (id n : ℕ) (o : Option Entry) (entry : Entry) (es : List (ℕ × Entry)) → n < id → with_place n o (insert_entry nat_cmp es id entry) ≡ insert_entry nat_cmp (with_place n o es) id entry
put_behind id n None entry es less = refl
put_behind id n (Some first) entry es less =
    let greater : nat_cmp id n ≡ Greater = grind (arith, nat_tests) in
    ap (λ (o : Ordering). match_ordering o ((id, entry) ∷ (n, first) ∷ es) ((n, entry) ∷ es) ((n, first) ∷ insert_entry nat_cmp es id entry)) (sym greater)

-- an entry is put at the place of its id, which has none, by induction on the places
pub dense_put : (id base : ℕ) (places : List (Option Entry)) (others : List (ℕ × Entry)) (place : ℕ) (entry : Entry)
    → id ≡ base + place → place < length places → AreFrom (base + length places) others → entry_of id (entries_from base places others) ≡ None
    → entries_from base (set places place (Some entry)) others ≡ insert_entry nat_cmp (entries_from base places others) id entry
dense_put id base [] others place entry is lt all none = absurd (omega arith)
dense_put id base (p ∷ places) others zero entry is lt all none = go p (sym (first_found id base p (entries_from (suc base) places others) (omega (arith, is)) above) ∙ none)
  where
    above : AreAbove id (keys_of (entries_from (suc base) places others))
    above = above_first id base p places others (omega (arith, is)) all

    go : (o : Option Entry) → o ≡ None → (base, entry) ∷ entries_from (suc base) places others ≡ insert_entry nat_cmp (with_place base o (entries_from (suc base) places others)) id entry
    go None bare = put_first id base entry (entries_from (suc base) places others) (omega (arith, is)) above
    go (Some old) bare = absurd (cc)
dense_put id base (p ∷ places) others (suc place) entry is lt all none =
    let rest = sym (smaller_before id base p (entries_from (suc base) places others) (omega (arith, is))) ∙ none in
    ap (with_place base p) (dense_put id (suc base) places others place entry (omega (arith, is)) (omega arith) (from_lower (suc base + length places) (base + suc (length places)) others (omega arith) all) rest)
    ∙ put_behind id base p entry (entries_from (suc base) places others) (omega (arith, is))

-- or behind the places, by induction on these
pub sparse_put : (id base : ℕ) (places : List (Option Entry)) (others : List (ℕ × Entry)) (entry : Entry) → base + length places ≤ id
    → entries_from base places (insert_entry nat_cmp others id entry) ≡ insert_entry nat_cmp (entries_from base places others) id entry
sparse_put id base [] others entry le = refl
sparse_put id base (p ∷ places) others entry le =
    ap (with_place base p) (sparse_put id (suc base) places others entry (omega (arith, le))) ∙ put_behind id base p entry (entries_from (suc base) places others) (omega (arith, le))

-- where all ids are greater, none is taken out
none_taken_out : (id : ℕ) (es : List (ℕ × Entry)) → AreAbove id (keys_of es) → remove_entry (is_at (nat_cmp id)) es ≡ es
none_taken_out id [] all = refl
none_taken_out id (e ∷ es) all =
    let less = all.0 in
    let other : is_at (nat_cmp id) e.0 ≡ false = grind (arith, nat_tests) in
    ap (λ (b : Bool). cond b es (e ∷ remove_entry (is_at (nat_cmp id)) es)) other ∙ ap (λ (fs : List (ℕ × Entry)). e ∷ fs) (none_taken_out id es all.1)

-- and behind a smaller id it is taken out of the rest
taken_behind : (id n : ℕ) (o : Option Entry) (es : List (ℕ × Entry)) → n < id → with_place n o (remove_entry (is_at (nat_cmp id)) es) ≡ remove_entry (is_at (nat_cmp id)) (with_place n o es)
taken_behind id n None es less = refl
taken_behind id n (Some entry) es less = ap (λ (b : Bool). cond b es ((n, entry) ∷ remove_entry (is_at (nat_cmp id)) es)) (sym (not_found id n less))

-- an entry is taken out of the place of its id, by induction on the places
pub dense_taken : (id base : ℕ) (places : List (Option Entry)) (others : List (ℕ × Entry)) (place : ℕ) → id ≡ base + place → place < length places → AreFrom (base + length places) others
    → entries_from base (set places place None) others ≡ remove_entry (is_at (nat_cmp id)) (entries_from base places others)
dense_taken id base [] others place is lt all = absurd (omega arith)
dense_taken id base (p ∷ places) others zero is lt all = go p
  where
    go : (o : Option Entry) → entries_from (suc base) places others ≡ remove_entry (is_at (nat_cmp id)) (with_place base o (entries_from (suc base) places others))
    go None = sym (none_taken_out id (entries_from (suc base) places others) (above_first id base p places others (omega (arith, is)) all))
    go (Some entry) =
        ap (λ (b : Bool). cond b (entries_from (suc base) places others) ((base, entry) ∷ remove_entry (is_at (nat_cmp id)) (entries_from (suc base) places others))) (sym (found_here id base (omega (arith, is))))
dense_taken id base (p ∷ places) others (suc place) is lt all =
    ap (with_place base p) (dense_taken id (suc base) places others place (omega (arith, is)) (omega arith) (from_lower (suc base + length places) (base + suc (length places)) others (omega arith) all))
    ∙ taken_behind id base p (entries_from (suc base) places others) (omega (arith, is))

-- or of the others, by induction on the places
pub sparse_taken : (id base : ℕ) (places : List (Option Entry)) (others : List (ℕ × Entry)) → base + length places ≤ id
    → entries_from base places (remove_entry (is_at (nat_cmp id)) others) ≡ remove_entry (is_at (nat_cmp id)) (entries_from base places others)
sparse_taken id base [] others le = refl
sparse_taken id base (p ∷ places) others le =
    ap (with_place base p) (sparse_taken id (suc base) places others (omega (arith, le))) ∙ taken_behind id base p (entries_from (suc base) places others) (omega (arith, le))

-- an entry that is taken out of a place counts one less
pub one_less : (places : List (Option Entry)) (place : ℕ) (o : Option Entry) → slice_get places place ≡ Some o → count_filled (set places place None) + cond (is_some o) 1 0 ≡ count_filled places
one_less [] place o at = absurd (cc)
one_less (p ∷ places) zero o at = go p (cc)
  where
    go : (q : Option Entry) → q ≡ o → count_filled places + cond (is_some o) 1 0 ≡ count_filled (q ∷ places)
    go None same = let none : is_some o ≡ false = ap is_some (sym same) in ap (λ (b : Bool). count_filled places + cond b 1 0) none ∙ omega arith
    go (Some entry) same = let some : is_some o ≡ true = ap is_some (sym same) in ap (λ (b : Bool). count_filled places + cond b 1 0) some
one_less (None ∷ places) (suc place) o at = one_less places place o at
one_less (Some entry ∷ places) (suc place) o at = let rest = one_less places place o at in omega (arith, rest)

-- one that is put at a place without an entry counts one more
pub one_more : (places : List (Option Entry)) (place : ℕ) (entry : Entry) → slice_get places place ≡ Some None → count_filled (set places place (Some entry)) ≡ count_filled places + 1
one_more [] place entry at = absurd (cc)
one_more (None ∷ places) zero entry at = refl
one_more (Some old ∷ places) zero entry at = absurd (cc)
one_more (None ∷ places) (suc place) entry at = one_more places place entry at
one_more (Some old ∷ places) (suc place) entry at = let rest = one_more places place entry at in omega (arith, rest)

-- no more places have entries than there are
pub filled_at_most : (places : List (Option Entry)) → count_filled places ≤ length places
filled_at_most [] = omega arith
filled_at_most (None ∷ places) = let rest = filled_at_most places in omega (arith, rest)
filled_at_most (Some entry ∷ places) = let rest = filled_at_most places in omega (arith, rest)

-- there are no entries exactly where no place has one, and none is behind
pub nothing : (base : ℕ) (places : List (Option Entry)) (others : List (ℕ × Entry)) → entries_from base places others ≡ [] → (count_filled places ≡ 0) × (others ≡ [])
nothing base [] others none = (refl, none)
nothing base (None ∷ places) others none = nothing (suc base) places others none
nothing base (Some entry ∷ places) others none = absurd (cc)

pub only_others : (base : ℕ) (places : List (Option Entry)) (others : List (ℕ × Entry)) → count_filled places ≡ 0 → entries_from base places others ≡ others
only_others base [] others none = refl
only_others base (None ∷ places) others none = only_others (suc base) places others none
only_others base (Some entry ∷ places) others none = absurd (omega arith)

-- the ids of all ascend, by induction on the places
pub all_ordered : (base : ℕ) (places : List (Option Entry)) (others : List (ℕ × Entry)) → AreFrom (base + length places) others → AreOrdered others → AreOrdered (entries_from base places others)
unfolding IsStrictlySortedBy
all_ordered base [] others all up = up
all_ordered base (p ∷ places) others all up = go p (all_ordered (suc base) places others (from_lower (suc base + length places) (base + suc (length places)) others (omega arith) all) up)
  where
    go : (o : Option Entry) → AreOrdered (entries_from (suc base) places others) → AreOrdered (with_place base o (entries_from (suc base) places others))
    go None rest = rest
    go (Some entry) rest = (above_first base base p places others refl all, rest)

-- the first place names 0
pub from_first : (places : List (Option Entry)) (filled : ℕ) (others : List (ℕ × Entry)) → AreBehind places filled others → AreFrom (0 + length places) others
from_first places filled others behind = from_lower (0 + length places) (length places) others (omega arith) behind.from

pub behind_ordered : (places : List (Option Entry)) (filled : ℕ) (others : List (ℕ × Entry)) → AreBehind places filled others → AreOrdered (entries_from 0 places others)
behind_ordered places filled others behind = all_ordered 0 places others (from_first places filled others behind) behind.ordered

-- the place of an id without an entry is empty
pub bare_place : (id : ℕ) (places : List (Option Entry)) (filled : ℕ) (others : List (ℕ × Entry)) (o : Option Entry) → slice_get places id ≡ Some o → entry_of id (entries_from 0 places others) ≡ None → AreBehind places filled others → slice_get places id ≡ Some None
bare_place id places filled others o at none behind =
    at ∙ ap (λ (x : Option Entry). Some x) (sym (dense_found id 0 places others id o (omega arith) at (from_first places filled others behind)) ∙ none)

-- an entry at a place keeps the others behind
pub set_behind : (id : ℕ) (places : List (Option Entry)) (filled : ℕ) (entry : Entry) (others : List (ℕ × Entry)) → slice_get places id ≡ Some None → AreBehind places filled others → AreBehind (set places id (Some entry)) (filled + 1) others
set_behind id places filled entry others at behind =
    let same = length-set places id (Some entry) in
    let more = one_more places id entry at in
    let all = behind.counted in
    record { counted = omega (arith, all, more); from = from_lower (length (set places id (Some entry))) (length places) others (omega (arith, same)) behind.from; ordered = behind.ordered }

-- one more fits among the places
pub room_for_one : (id : ℕ) (places : List (Option Entry)) (filled : ℕ) (others : List (ℕ × Entry)) (entry : Entry) → slice_get places id ≡ Some None → AreBehind places filled others → filled + 1 ≤ length places
room_for_one id places filled others entry at behind =
    let most = filled_at_most (set places id (Some entry)) in
    let same = length-set places id (Some entry) in
    let more = one_more places id entry at in
    let all = behind.counted in
    omega (arith, most, same, more, all)

-- where a place has an entry, one at least does
pub one_at_least : (id : ℕ) (places : List (Option Entry)) (filled : ℕ) (others : List (ℕ × Entry)) (o : Option Entry) → slice_get places id ≡ Some o → is_some o ≡ true → AreBehind places filled others → 1 ≤ filled
one_at_least id places filled others o at some behind =
    let fewer : count_filled (set places id None) + 1 ≡ count_filled places = sym (ap (λ (b : Bool). count_filled (set places id None) + cond b 1 0) some) ∙ one_less places id o at in
    let all = behind.counted in
    omega (arith, fewer, all)

-- a place without an entry keeps the others behind
unset_behind : (id : ℕ) (places : List (Option Entry)) (filled new : ℕ) (others : List (ℕ × Entry)) → new ≡ count_filled (set places id None) → AreBehind places filled others → AreBehind (set places id None) new others
unset_behind id places filled new others counts behind =
    let same = length-set places id None in
    record { counted = counts; from = from_lower (length (set places id None)) (length places) others (omega (arith, same)) behind.from; ordered = behind.ordered }

-- so does one that had an entry
pub unset_some : (id : ℕ) (places : List (Option Entry)) (filled : ℕ) (others : List (ℕ × Entry)) (o p : Option Entry) → slice_get places id ≡ Some o → is_some o ≡ true → p ≡ None → AreBehind places filled others → AreBehind (set places id p) (filled - 1) others
unset_some id places filled others o p at some bare behind =
    let fewer : count_filled (set places id None) + 1 ≡ count_filled places = sym (ap (λ (b : Bool). count_filled (set places id None) + cond b 1 0) some) ∙ one_less places id o at in
    let all = behind.counted in
    subst (λ (x : Option Entry). AreBehind (set places id x) (filled - 1) others) (sym bare) (unset_behind id places filled (filled - 1) others (omega (arith, fewer, all)) behind)

-- or had none
pub unset_none : (id : ℕ) (places : List (Option Entry)) (filled : ℕ) (others : List (ℕ × Entry)) (o p : Option Entry) → slice_get places id ≡ Some o → is_some o ≡ false → p ≡ None → AreBehind places filled others → AreBehind (set places id p) filled others
unset_none id places filled others o p at none bare behind =
    let as_many : count_filled (set places id None) + 0 ≡ count_filled places = sym (ap (λ (b : Bool). count_filled (set places id None) + cond b 1 0) none) ∙ one_less places id o at in
    let all = behind.counted in
    subst (λ (x : Option Entry). AreBehind (set places id x) filled others) (sym bare) (unset_behind id places filled filled others (omega (arith, as_many, all)) behind)

-- the entry of a place is taken out, and no other
pub dense_out : (id : ℕ) (places : List (Option Entry)) (filled : ℕ) (others now : List (ℕ × Entry)) (o p : Option Entry) → slice_get places id ≡ Some o → p ≡ None → id < length places → AreBehind places filled others → entries_from 0 places others ≡ now
    → (o ≡ entry_of id now) × (entries_from 0 (set places id p) others ≡ remove_entry (is_at (nat_cmp id)) now)
dense_out id places filled others now o p at bare within behind view = (
  sym (dense_found id 0 places others id o (omega arith) at (from_first places filled others behind)) ∙ ap (entry_of id) view,
  ap (λ (x : Option Entry). entries_from 0 (set places id x) others) bare ∙ dense_taken id 0 places others id (omega arith) within (from_first places filled others behind) ∙ ap (remove_entry (is_at (nat_cmp id))) view,
)

-- where there is no length, there are no others
pub no_others : (others : List (ℕ × Entry)) → length others ≡ 0 → others ≡ []
no_others [] none = refl
no_others (e ∷ es) none = absurd (omega arith)

-- an entry with no smaller an id may come to the others
pub from_put : (base id : ℕ) (entry : Entry) (es : List (ℕ × Entry)) → base ≤ id → AreFrom base es → AreFrom base (insert_entry nat_cmp es id entry)
from_put base id entry [] le all = (le, tt)
from_put base id entry (e ∷ es) le all = go (nat_cmp id e.0) (from_put base id entry es le all.1)
  where
    go : (o : Ordering) → AreFrom base (insert_entry nat_cmp es id entry) → AreFrom base (match_ordering o ((id, entry) ∷ e ∷ es) ((e.0, entry) ∷ es) (e ∷ insert_entry nat_cmp es id entry))
    go Less rest = (le, all)
    go Equal rest = (all.0, all.1)
    go Greater rest = (all.0, rest)

-- and any may leave them
pub from_taken : (base id : ℕ) (es : List (ℕ × Entry)) → AreFrom base es → AreFrom base (remove_entry (is_at (nat_cmp id)) es)
from_taken base id [] all = tt
from_taken base id (e ∷ es) all = go (is_at (nat_cmp id) e.0) (from_taken base id es all.1)
  where
    go : (b : Bool) → AreFrom base (remove_entry (is_at (nat_cmp id)) es) → AreFrom base (cond b es (e ∷ remove_entry (is_at (nat_cmp id)) es))
    go true rest = all.1
    go false rest = (all.0, rest)

-- the others stay behind the places
pub put_behind_all : (id : ℕ) (entry : Entry) (places : List (Option Entry)) (filled : ℕ) (others new : List (ℕ × Entry)) → new ≡ insert_entry nat_cmp others id entry → length places ≤ id → AreOrdered new → AreBehind places filled others → AreBehind places filled new
put_behind_all id entry places filled others new put le up behind = record { counted = behind.counted; from = subst (AreFrom (length places)) (sym put) (from_put (length places) id entry others le behind.from); ordered = up }

pub taken_behind_all : (id : ℕ) (places : List (Option Entry)) (filled : ℕ) (others new : List (ℕ × Entry)) → new ≡ remove_entry (is_at (nat_cmp id)) others → AreOrdered new → AreBehind places filled others → AreBehind places filled new
taken_behind_all id places filled others new out up behind = record { counted = behind.counted; from = subst (AreFrom (length places)) (sym out) (from_taken (length places) id others behind.from); ordered = up }

-- ids above one that is at least another are at least the next after that
above_from : (id k : ℕ) (es : List (ℕ × Entry)) → id ≤ k → AreAbove k (keys_of es) → AreFrom (suc id) es
above_from id k [] le all = tt
above_from id k (e ∷ es) le all = (let less = all.0 in let key = e.0 in grind (arith, nat_tests, less, le), above_from id k es le all.1)

-- others that are in order are greater than an id once that one is taken out of them
left_apart : (id : ℕ) (es : List (ℕ × Entry)) → AreFrom id es → AreOrdered es → AreFrom (suc id) (remove_entry (is_at (nat_cmp id)) es)
unfolding IsStrictlySortedBy
left_apart id [] all up = tt
left_apart id (e ∷ es) all up = go (is_at (nat_cmp id) e.0) refl (left_apart id es all.1 up.1)
  where
    go : (b : Bool) → is_at (nat_cmp id) e.0 ≡ b → AreFrom (suc id) (remove_entry (is_at (nat_cmp id)) es) → AreFrom (suc id) (cond b es (e ∷ remove_entry (is_at (nat_cmp id)) es))
    go true is rest = above_from id e.0 es all.0 up.0
    go false is rest = (let least = all.0 in let key = e.0 in grind (arith, nat_tests, least, is), rest)

-- what one of the others that are in order moves to is its place
first_moved : (id base : ℕ) (others : List (ℕ × Entry)) (o : Option Entry) → id ≡ base → o ≡ entry_of id others → AreFrom id others → AreOrdered others
    → with_place base o (remove_entry (is_at (nat_cmp id)) others) ≡ others
unfolding IsStrictlySortedBy
first_moved id base [] o same read all up = ap (λ (x : Option Entry). with_place base x []) read
first_moved id base (e ∷ es) o same read all up = go (is_at (nat_cmp id) e.0) refl
  where
    rest : List (ℕ × Entry)
    rest = remove_entry (is_at (nat_cmp id)) es

    go : (b : Bool) → is_at (nat_cmp id) e.0 ≡ b → with_place base o (remove_entry (is_at (nat_cmp id)) (e ∷ es)) ≡ e ∷ es
    go true is =
        let here : base ≡ e.0 = let key = e.0 in grind (arith, nat_tests, is, same) in
        ap (λ (x : Option Entry). with_place base x (remove_entry (is_at (nat_cmp id)) (e ∷ es))) (read ∙ ap (λ (b : Bool). cond b (Some e.1) (entry_of id es)) is)
        ∙ ap (λ (b : Bool). (base, e.1) ∷ cond b es (e ∷ rest)) is
        ∙ ap (λ (k : ℕ). (k, e.1) ∷ es) here
    go false is =
        let above = from_above id (suc id) es (omega arith) (above_from id e.0 es all.0 up.0) in
        ap (λ (x : Option Entry). with_place base x (remove_entry (is_at (nat_cmp id)) (e ∷ es))) (read ∙ ap (λ (b : Bool). cond b (Some e.1) (entry_of id es)) is ∙ none_above id es above)
        ∙ ap (λ (b : Bool). cond b es (e ∷ rest)) is
        ∙ ap (λ (fs : List (ℕ × Entry)). e ∷ fs) (none_taken_out id es above)

-- one place more takes the entry of its id from the others, and all entries are the same, by induction on the places
pub all_moved : (id base : ℕ) (places : List (Option Entry)) (others : List (ℕ × Entry)) (o : Option Entry) → id ≡ base + length places → o ≡ entry_of id others → AreFrom id others → AreOrdered others
    → entries_from base (places ++ o ∷ []) (remove_entry (is_at (nat_cmp id)) others) ≡ entries_from base places others
all_moved id base [] others o is read all up = first_moved id base others o (omega (arith, is)) read all up
all_moved id base (p ∷ places) others o is read all up = ap (with_place base p) (all_moved id (suc base) places others o (omega (arith, is)) read all up)

-- it counts one more where there is one
count_moved : (places : List (Option Entry)) (o : Option Entry) → count_filled (places ++ o ∷ []) ≡ count_filled places + bool_byte (is_some o)
count_moved [] None = refl
count_moved [] (Some entry) = refl
count_moved (None ∷ places) o = count_moved places o
count_moved (Some old ∷ places) o = let rest = count_moved places o in let one = bool_byte (is_some o) in omega (arith, rest)

-- and the others stay behind the places
pub moved_behind : (id : ℕ) (places new : List (Option Entry)) (filled : ℕ) (others left : List (ℕ × Entry)) (o : Option Entry) → new ≡ places ++ o ∷ [] → id ≡ length places → left ≡ remove_entry (is_at (nat_cmp id)) others → AreOrdered left → AreBehind places filled others
    → AreBehind new (filled + bool_byte (is_some o)) left
moved_behind id places new filled others left o put is out up behind =
    let longer : length new ≡ length places + 1 = ap (λ (ps : List (Option Entry)). length ps) put ∙ length-append places (o ∷ []) in
    let more : count_filled new ≡ count_filled places + bool_byte (is_some o) = ap count_filled put ∙ count_moved places o in
    let all = behind.counted in
    let apart = subst (AreFrom (suc id)) (sym out) (left_apart id others (from_lower id (length places) others (omega (arith, is)) behind.from) behind.ordered) in
    record { counted = omega (arith, all, more); from = from_lower (length new) (suc id) left (omega (arith, is, longer)) apart; ordered = up }

-- what is read at a place stands there
pub read_place : (places : List (Option Entry)) (place : ℕ) (o : Option Entry) → place < length places → o ≡ get_or places place o → slice_get places place ≡ Some o
read_place places place o within read = slice_get-get_or places place o within ∙ ap (λ (x : Option Entry). Some x) (sym read)

-- what is looked at in place is there where its copy is
pub copied_some : (o : Option (Bor Entry)) → is_some (option_copied o) ≡ is_some o
copied_some None = refl
copied_some (Some entry) = refl

-- an id that no condition has, has no entry
pub no_entry : (id : ℕ) (es : List (ℕ × Entry)) → (Contains (ids_of (conditions_of es)) id → ⊥) → entry_of id es ≡ None
no_entry id es absent = go (entry_of id es) refl
  where
    go : (o : Option Entry) → entry_of id es ≡ o → entry_of id es ≡ None
    go None is = is
    go (Some entry) is = absurd (absent (subst (λ (ids : List ℕ). Contains ids id) (sym (keys_are_ids es)) (Contains-keys_from_lookup nat_exact id es (ap is_some is))))
