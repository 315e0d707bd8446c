-- Lines that come in turn, and ends that leave one after another.
use Rattle.std.proofs.Common.{◌≡◌, ◌≢◌, ◌⊎◌, ◌∙◌, ◌↔◌, sym, ap, refl, subst, inl, inr, ℕ, suc, ◌+◌, ◌-◌, ◌<◌, ◌≤◌, ◌==◌, Bool, true, false, not, ◌||◌, cond, IsTrue, length, get_or, drop, take, List, [], ◌∷◌, ◌++◌, append_assoc, append-nil, arith}
use Rattle.std.specs.Prelude.{AllPairs, Contains, Option, Some, is_some, slice_get}
use Rattle.std.specs.List.{filter}
use Rattle.std.proofs.Math.Seq.{drop-cons}
use Rattle.std.proofs.lemmas.Bool.{cases_lt}
use Rattle.std.proofs.lemmas.List.{drop_all, get_or-take, get_or_default, length-take, take_all}
use Rattle.std.proofs.lemmas.Option.{get_or_from_slice_get, slice_get_within}
use Rattle.automaton.specs.declared.line.Line.{Line}
use Rattle.automaton.specs.NetworkLines.{Ending, HasEndings}
use Rattle.automaton.specs.States.{Net, entrance_at, is_used, state_at}
use Rattle.automaton.proofs.EqualityLemmas.{take_read}
use Rattle.automaton.proofs.SlotLemmas.{entry_there, used_below}
use Rattle.event_types.proofs.NumberLemmas.{is_other, other_number}
use Rattle.prefix_merge.specs.Insertion.{Inserts}
use Rattle.prefix_merge.specs.Merging.{EndsInState, HasEnd, IsSettled}
use Rattle.prefix_merge.specs.Removal.{Removes}
use Rattle.prefix_merge.specs.Turns.{InsertsAll, InsertsFirst, RemovesAll, endings_with, is_among}
use Rattle.prefix_merge.proofs.BackLemmas.{taken_back_is_before}
use Rattle.prefix_merge.proofs.ContainLemmas.{in_cases, first_in, later_in, none_in}

-- a network isn't longer than one in which its states are
no_shorter : (net more : Net) → EndsInState net → ((number : ℕ) → IsTrue (is_used net number) → entrance_at more number ≡ entrance_at net number) → length net ≤ length more
no_shorter net more last stay = by_order (cases_lt (length more) (length net))
  where
    by_order : (length more < length net) ⊎ (length net ≤ length more) → length net ≤ length more
    by_order (inr le) = le
    by_order (inl past) =
        let used = last (omega (arith, past)) in
        let there : is_used more (length net - 1) ≡ true = sym (entry_there (state_at more (length net - 1))) ∙ ap is_some (stay (length net - 1) used) ∙ entry_there (state_at net (length net - 1)) ∙ used in
        let below = used_below more (length net - 1) there in absurd (omega (arith, past, below))

-- lines that came so far, with what follows of it
pub record HasInserted (lines : List Line) (ends : List ℕ) (birth : Option ℕ) (place : ℕ) (old new : Net) : Type 0 where
  pub turns : InsertsFirst lines ends birth place old new
  pub longer : length old ≤ length new
  pub stay : (number : ℕ) → IsTrue (is_used old number) → entrance_at new number ≡ entrance_at old number
  pub endings : (endings : List Ending) → HasEndings old endings → HasEndings new (endings ++ endings_with birth (take place lines) (take place ends))
  pub ends_are : (other : ℕ) → HasEnd new other ↔ (HasEnd old other ⊎ Contains (take place ends) other)

-- none came yet
pub none_inserted : (lines : List Line) (ends : List ℕ) (birth : Option ℕ) (net : Net) → HasInserted lines ends birth 0 net net
none_inserted lines ends birth net = record {
  turns = refl;
  longer = omega arith;
  stay = λ number used. refl;
  endings = λ endings had. subst (HasEndings net) (sym (append-nil endings)) had;
  ends_are = λ other. ((λ has. inl has), λ has. elim has [ inl was ↦ was | inr among ↦ absurd (none_in other among) ]);
}

endings_push : (birth : Option ℕ) (lines : List Line) (ends : List ℕ) (line : Line) (end : ℕ) → length lines ≡ length ends
    → endings_with birth (lines ++ line ∷ []) (ends ++ end ∷ []) ≡ endings_with birth lines ends ++ record { line = line; number = end; birth = birth } ∷ []
endings_push birth [] [] line end same = refl
endings_push birth [] (e ∷ ends) line end same = absurd (omega (arith, same))
endings_push birth (l ∷ lines) [] line end same = absurd (omega (arith, same))
endings_push birth (l ∷ lines) (e ∷ ends) line end same = ap (λ es. record { line = l; number = e; birth = birth } ∷ es) (endings_push birth lines ends line end (omega (arith, same)))

in_pushed : (numbers : List ℕ) (n other : ℕ) → Contains (numbers ++ n ∷ []) other ↔ (Contains numbers other ⊎ (other ≡ n))
in_pushed [] n other = ((λ has. inr (elim (in_cases n [] other has) [ inl same ↦ same | inr none ↦ absurd (none_in other none) ])), λ has. elim has [ inl none ↦ absurd (none_in other none) | inr same ↦ subst (Contains (n ∷ [])) (sym same) (first_in n []) ])
in_pushed (m ∷ numbers) n other = (fore (in_pushed numbers n other), back (in_pushed numbers n other))
  where
    fore : (Contains (numbers ++ n ∷ []) other ↔ (Contains numbers other ⊎ (other ≡ n))) → Contains (m ∷ (numbers ++ n ∷ [])) other → Contains (m ∷ numbers) other ⊎ (other ≡ n)
    fore rest has = elim (in_cases m (numbers ++ n ∷ []) other has) [
      | inl same ↦ inl (subst (Contains (m ∷ numbers)) (sym same) (first_in m numbers))
      | inr later ↦ elim (rest.0 later) [ inl among ↦ inl (later_in m numbers other among) | inr same ↦ inr same ]
    ]

    back : (Contains (numbers ++ n ∷ []) other ↔ (Contains numbers other ⊎ (other ≡ n))) → Contains (m ∷ numbers) other ⊎ (other ≡ n) → Contains (m ∷ (numbers ++ n ∷ [])) other
    back rest (inl has) = elim (in_cases m numbers other has) [
      | inl same ↦ subst (Contains (m ∷ (numbers ++ n ∷ []))) (sym same) (first_in m (numbers ++ n ∷ []))
      | inr later ↦ later_in m (numbers ++ n ∷ []) other (rest.1 (inl later))
    ]
    back rest (inr same) = later_in m (numbers ++ n ∷ []) other (rest.1 (inr same))

-- one more came
pub next_inserted : (lines : List Line) (ends : List ℕ) (birth : Option ℕ) (place : ℕ) (line : Line) (end : ℕ) (old middle new : Net) → length ends ≡ length lines → slice_get lines place ≡ Some line → slice_get ends place ≡ Some end
    → IsSettled middle → IsSettled new → Inserts line end birth middle new → HasInserted lines ends birth place old middle → HasInserted lines ends birth (place + 1) old new
next_inserted lines ends birth place line end old middle new as_many line_there end_there before after inserts so_far = record {
  turns = subst (λ p. InsertsFirst lines ends birth p old new) next
      (middle, so_far.turns, record { line = line; end = end; line_there = line_there; end_there = end_there; inserts = inserts; before = before; after = after });
  longer = (let so_long = so_far.longer in let more = no_shorter middle new before.last (λ number used. inserts.stay number used) in omega (arith, so_long, more));
  stay = λ number used.
      (let was = so_far.stay number used in
      inserts.stay number (sym (entry_there (state_at middle number)) ∙ ap is_some was ∙ entry_there (state_at old number) ∙ used) ∙ was);
  endings = λ endings had. subst (HasEndings new) (all_endings endings) (inserts.endings (endings ++ endings_with birth (take place lines) (take place ends)) (so_far.endings endings had));
  ends_are = λ other. (fore other, back other);
}
  where
    next : suc place ≡ place + 1
    next = omega arith

    lines_more : take (place + 1) lines ≡ take place lines ++ line ∷ []
    lines_more = take_read lines place line line_there

    ends_more : take (place + 1) ends ≡ take place ends ++ end ∷ []
    ends_more = take_read ends place end end_there

    same_lengths : length (take place lines) ≡ length (take place ends)
    same_lengths = let a = length-take place lines in let b = length-take place ends in omega (arith, a, b, as_many)

    all_endings : (endings : List Ending) → (endings ++ endings_with birth (take place lines) (take place ends)) ++ record { line = line; number = end; birth = birth } ∷ [] ≡ endings ++ endings_with birth (take (place + 1) lines) (take (place + 1) ends)
    all_endings endings =
        append_assoc endings (endings_with birth (take place lines) (take place ends)) (record { line = line; number = end; birth = birth } ∷ [])
        ∙ ap (λ es. endings ++ es) (sym (endings_push birth (take place lines) (take place ends) line end same_lengths) ∙ (λ i. endings_with birth (sym lines_more i) (sym ends_more i)))

    fore : (other : ℕ) → HasEnd new other → HasEnd old other ⊎ Contains (take (place + 1) ends) other
    fore other has = elim ((inserts.ends other).0 has) [
      | inl was ↦ elim ((so_far.ends_are other).0 was) [ inl first ↦ inl first | inr among ↦ inr (subst (λ ns. Contains ns other) (sym ends_more) ((in_pushed (take place ends) end other).1 (inl among))) ]
      | inr same ↦ inr (subst (λ ns. Contains ns other) (sym ends_more) ((in_pushed (take place ends) end other).1 (inr same)))
    ]

    back : (other : ℕ) → HasEnd old other ⊎ Contains (take (place + 1) ends) other → HasEnd new other
    back other (inl was) = (inserts.ends other).1 (inl ((so_far.ends_are other).1 (inl was)))
    back other (inr among) = elim ((in_pushed (take place ends) end other).0 (subst (λ ns. Contains ns other) ends_more among)) [
      | inl before ↦ (inserts.ends other).1 (inl ((so_far.ends_are other).1 (inr before)))
      | inr same ↦ (inserts.ends other).1 (inr same)
    ]

-- all came
pub all_inserted : (lines : List Line) (ends : List ℕ) (birth : Option ℕ) (old new : Net) → length ends ≡ length lines → HasInserted lines ends birth (length lines) old new → InsertsAll lines ends birth old new
all_inserted lines ends birth old new as_many came = record {
  turns = came.turns;
  longer = came.longer;
  stay = came.stay;
  endings = λ endings had. subst (λ es. HasEndings new (endings ++ es)) (λ i. endings_with birth (take_all (length lines) lines (omega arith) i) (whole i)) (came.endings endings had);
  ends_are = λ other. (
    (λ has. elim ((came.ends_are other).0 has) [ inl was ↦ inl was | inr among ↦ inr (subst (λ ns. Contains ns other) whole among) ]),
    λ has. (came.ends_are other).1 (elim has [ inl was ↦ inl was | inr among ↦ inr (subst (λ ns. Contains ns other) (sym whole) among) ]),
  );
}
  where
    whole : take (length lines) ends ≡ ends
    whole = take_all (length lines) ends (omega (arith, as_many))

-- the next end isn't among those that came, nor was it there
pub still_fresh : (lines : List Line) (ends : List ℕ) (birth : Option ℕ) (place end : ℕ) (old new : Net) → AllPairs (λ one other. one ≢ other) ends → ((k : ℕ) (d : ℕ) → k < length ends → HasEnd old (get_or ends k d) → ⊥)
    → slice_get ends place ≡ Some end → HasInserted lines ends birth place old new → HasEnd new end → ⊥
still_fresh lines ends birth place end old new apart fresh there came has = by_case ((came.ends_are end).0 has)
  where
    inside : place < length ends
    inside = slice_get_within ends place end there

    here : get_or ends place end ≡ end
    here = get_or_from_slice_get ends place end end there

    by_case : HasEnd old end ⊎ Contains (take place ends) end → ⊥
    by_case (inl was) = fresh place end inside (subst (HasEnd old) (sym here) was)
    by_case (inr (k, lt, is)) =
        let short = length-take place ends in
        let below : k < place = omega (arith, lt, short) in
        apart k place end below inside (sym (get_or-take place ends k end below) ∙ is ∙ sym here)

-- those that came are there
pub those_there : (lines : List Line) (ends : List ℕ) (birth : Option ℕ) (place : ℕ) (old new : Net) → HasInserted lines ends birth place old new → (k : ℕ) (d : ℕ) → k < length (take place ends) → HasEnd new (get_or (take place ends) k d)
those_there lines ends birth place old new came k d lt =
    (came.ends_are (get_or (take place ends) k d)).1 (inr (k, lt, get_or_default (take place ends) k (get_or (take place ends) k d) d lt))

-- ends that left so far, the last first
pub record HasRemoved (ends : List ℕ) (count left : ℕ) (old new : Net) : Type 0 where
  pub within : left ≤ count
  pub shorter : length new ≤ length old
  pub stay : (number : ℕ) → IsTrue (is_used new number) → entrance_at new number ≡ entrance_at old number
  pub endings : (endings : List Ending) → HasEndings old endings → HasEndings new (filter (λ ending. not (is_among (drop left (take count ends)) ending.number)) endings)
  pub ends_are : (other : ℕ) → HasEnd new other ↔ (HasEnd old other × (is_among (drop left (take count ends)) other ≡ false))
  pub undone : (lines : List Line) (birth : Option ℕ) (first : Net) → InsertsFirst lines ends birth count first old → InsertsFirst lines ends birth left first new

all_kept : {X : Type 0} (xs : List X) → filter (λ x. true) xs ≡ xs
all_kept [] = refl
all_kept (x ∷ xs) = ap (λ ys. x ∷ ys) (all_kept xs)

-- none left yet
pub none_removed : (ends : List ℕ) (count : ℕ) (net : Net) → count ≤ length ends → HasRemoved ends count count net net
none_removed ends count net within = record {
  within = omega arith;
  shorter = omega arith;
  stay = λ number used. refl;
  endings = λ endings had. subst (HasEndings net) (sym (all_kept endings) ∙ (λ i. filter (λ (ending : Ending). not (is_among (sym nothing i) ending.number)) endings)) had;
  ends_are = λ other. ((λ has. (has, ap (λ ns. is_among ns other) nothing)), λ has. has.0);
  undone = λ lines birth first turns. turns;
}
  where
    nothing : drop count (take count ends) ≡ []
    nothing = drop_all count (take count ends) (let short = length-take count ends in omega (arith, short))

twice : {X : Type 0} (p q r : X → Bool) → ((x : X) → cond (p x) (q x) false ≡ r x) → (xs : List X) → filter q (filter p xs) ≡ filter r xs
twice p q r is [] = refl
twice p q r is (x ∷ xs) = go (twice p q r is xs) (p x) (is x)
  where
    go : filter q (filter p xs) ≡ filter r xs → (b : Bool) → cond b (q x) false ≡ r x → filter q (cond b (x ∷ filter p xs) (filter p xs)) ≡ cond (r x) (x ∷ filter r xs) (filter r xs)
    go rest true same = λ i. cond (same i) (x ∷ rest i) (rest i)
    go rest false same = λ i. cond (same i) (x ∷ filter r xs) (rest i)

neither : (a b : Bool) → cond (not a) (not b) false ≡ not (b || a)
neither true true = refl
neither true false = refl
neither false true = refl
neither false false = refl

both_false : (a b : Bool) → a ≡ false → b ≡ false → (a || b) ≡ false
both_false true b e f = absurd (let no : true ≡ false = e in cc)
both_false false b e f = f

first_false : (a b : Bool) → (a || b) ≡ false → (a ≡ false) × (b ≡ false)
first_false true b e = absurd (let no : true ≡ false = e in cc)
first_false false b e = (refl, e)

-- one more left
pub next_removed : (ends : List ℕ) (count left end : ℕ) (old middle new : Net) → count ≤ length ends → 0 < left → slice_get ends (left - 1) ≡ Some end → EndsInState new → Removes end middle new → HasRemoved ends count left old middle
    → HasRemoved ends count (left - 1) old new
next_removed ends count left end old middle new within some there last removes so_far = record {
  within = (let le = so_far.within in omega (arith, le));
  shorter = (let so_short = so_far.shorter in let less = no_shorter new middle last (λ number used. sym (removes.stay number used)) in omega (arith, so_short, less));
  stay = λ number used.
      (let step = removes.stay number used in
      step ∙ so_far.stay number (sym (entry_there (state_at middle number)) ∙ ap is_some (sym step) ∙ entry_there (state_at new number) ∙ used));
  endings = λ endings had.
      subst (HasEndings new)
      (twice (λ (ending : Ending). not (is_among (drop left (take count ends)) ending.number)) (λ (ending : Ending). not (ending.number == end)) (λ (ending : Ending). not (is_among (drop (left - 1) (take count ends)) ending.number))
      (λ ending. neither (is_among (drop left (take count ends)) ending.number) (ending.number == end) ∙ ap not (sym (among ending.number))) endings)
      (removes.endings (filter (λ (ending : Ending). not (is_among (drop left (take count ends)) ending.number)) endings) (so_far.endings endings had));
  ends_are = λ other. (fore other, back other);
  undone = λ lines birth first turns. one_back lines birth first (left - 1) there again (so_far.undone lines birth first turns);
}
  where
    again : left ≡ suc (left - 1)
    again = omega (arith, some)

    here : get_or (take count ends) (left - 1) end ≡ end
    here = get_or-take count ends (left - 1) end (let le = so_far.within in omega (arith, le, some)) ∙ get_or_from_slice_get ends (left - 1) end end there

    more : drop (left - 1) (take count ends) ≡ end ∷ drop left (take count ends)
    more =
        drop-cons (take count ends) (left - 1) end (let short = length-take count ends in let le = so_far.within in omega (arith, le, some, short, within))
        ∙ (λ i. here i ∷ drop (sym again i) (take count ends))

    among : (number : ℕ) → is_among (drop (left - 1) (take count ends)) number ≡ ((number == end) || is_among (drop left (take count ends)) number)
    among number = ap (λ ns. is_among ns number) more

    fore : (other : ℕ) → HasEnd new other → HasEnd old other × (is_among (drop (left - 1) (take count ends)) other ≡ false)
    fore other has =
        let step = (removes.ends other).0 has in
        let was = (so_far.ends_are other).0 step.0 in (was.0, among other ∙ both_false (other == end) (is_among (drop left (take count ends)) other) (is_other other end step.1) was.1)

    back : (other : ℕ) → HasEnd old other × (is_among (drop (left - 1) (take count ends)) other ≡ false) → HasEnd new other
    back other has =
        let apart = first_false (other == end) (is_among (drop left (take count ends)) other) (sym (among other) ∙ has.1) in
        (removes.ends other).1 ((so_far.ends_are other).1 (has.0, apart.1), other_number other end apart.0)

    one_back : (lines : List Line) (birth : Option ℕ) (first : Net) (place : ℕ) → slice_get ends place ≡ Some end → left ≡ suc place → InsertsFirst lines ends birth left first middle → InsertsFirst lines ends birth place first new
    one_back lines birth first place at is turns =
        let step = subst (λ p. InsertsFirst lines ends birth p first middle) is turns in
        let same_end : step.2.end ≡ end = (let e : Some step.2.end ≡ Some end = sym step.2.end_there ∙ at in cc) in
        let before = taken_back_is_before step.2.line end birth step.0 middle new step.2.before step.2.after last (subst (λ e. Inserts step.2.line e birth step.0 middle) same_end step.2.inserts) removes in
        subst (InsertsFirst lines ends birth place first) (sym before) step.1

-- all left
pub all_removed : (ends : List ℕ) (count : ℕ) (old new : Net) → HasRemoved ends count 0 old new → RemovesAll (take count ends) old new
all_removed ends count old new left = record { shorter = left.shorter; stay = left.stay; endings = left.endings; ends_are = left.ends_are }

-- those before the one that leaves are there still
pub others_there : (ends : List ℕ) (count left end : ℕ) (middle new : Net) → count ≤ length ends → left ≤ count → 0 < left → AllPairs (λ one other. one ≢ other) ends → slice_get ends (left - 1) ≡ Some end → Removes end middle new
    → ((k : ℕ) (d : ℕ) → k < length (take left ends) → HasEnd middle (get_or (take left ends) k d)) → (k : ℕ) (d : ℕ) → k < length (take (left - 1) ends) → HasEnd new (get_or (take (left - 1) ends) k d)
others_there ends count left end middle new within below some apart at removes there k d lt =
    let short = length-take (left - 1) ends in
    let long = length-take left ends in
    let small : k < left - 1 = omega (arith, lt, short) in
    let same : get_or (take left ends) k d ≡ get_or (take (left - 1) ends) k d = get_or-take left ends k d (omega (arith, small)) ∙ sym (get_or-take (left - 1) ends k d small) in
    let last : get_or ends (left - 1) d ≡ end = get_or_from_slice_get ends (left - 1) end d at in
    (removes.ends (get_or (take (left - 1) ends) k d)).1 (
      subst (HasEnd middle) same (there k d (omega (arith, lt, short, long))),
      λ is. apart k (left - 1) d small (slice_get_within ends (left - 1) end at) (sym (get_or-take (left - 1) ends k d small) ∙ is ∙ sym last),
    )
