-- Numbers are marked one by one.
use Rattle.std.proofs.Common.{◌≡◌, ◌∙◌, sym, ap, refl, subst, inl, inr, ℕ, zero, suc, ◌+◌, ◌<◌, ◌⊎◌, Bool, true, false, length, get_or, set, take, List, [], ◌∷◌, ◌++◌, append_assoc, arith}
use Rattle.std.specs.Prelude.{Contains}
use Rattle.std.specs.List.{All}
use Rattle.std.proofs.Math.Seq.{get_or-append_seam}
use Rattle.std.proofs.lemmas.Grind.{get_or-set_at}
use Rattle.std.proofs.lemmas.List.{append-nil, get_or_append_left, get_or-set_other, length-append, length-set, take-append-le}
use Rattle.std.proofs.lemmas.List.Elements.{All-contains_itself, All-weaker, Contains-append_left, Contains-push, Contains-push_cases}
use Rattle.std.proofs.lemmas.Bool.{true≢false}
use Rattle.automaton.proofs.NumberLemmas.{are_same_or_not}
use Rattle.epoch_draft.specs.Marks.{AreLowered, AreMarks, MarksMore, MarksNoOther}
use Rattle.epoch_draft.specs.declared.marks.Marks.{Marks}
use Rattle.epoch_draft.proofs.Lists.{below_or_last, more_contains, taken_all}

no_number : (n : ℕ) → Contains [] n → ⊥
no_number n c = absurd (omega arith)

flag_below : (flags : List Bool) (n : ℕ) → get_or flags n false ≡ true → n < length flags
flag_below [] n h = absurd (cc)
flag_below (b ∷ flags) zero h = omega arith
flag_below (b ∷ flags) (suc n) h = omega (arith, flag_below flags n h)

-- the marked numbers are below the bound
pub marked_below : (marks : Marks) → AreMarks marks → (n : ℕ) → Contains marks.numbers n → n < length marks.flags
marked_below marks are n c = flag_below marks.flags n (are.flagged n c)

-- the marks themselves
pub marks_same : (marks : Marks) → AreMarks marks → MarksMore marks marks
marks_same marks are = record { are = are; as_many = refl; added = []; is = sym (append-nil marks.numbers) }

-- marks after marks
pub marks_trans : (a b c : Marks) → MarksMore a b → MarksMore b c → MarksMore a c
marks_trans a b c ab bc = record {
  are = bc.are;
  as_many = bc.as_many ∙ ab.as_many;
  added = ab.added ++ bc.added;
  is = bc.is ∙ ap (λ ns. ns ++ bc.added) ab.is ∙ append_assoc a.numbers ab.added bc.added;
}

-- a marked number stays marked
pub marks_kept : (old new : Marks) → MarksMore old new → (n : ℕ) → Contains old.numbers n → Contains new.numbers n
marks_kept old new more n c = subst (λ (ns : List ℕ). Contains ns n) (sym more.is) (Contains-append_left old.numbers more.added n c)

-- no number is marked
pub marks_none : (flags : List Bool) → ((n : ℕ) → get_or flags n false ≡ false) → (numbers : List ℕ) → numbers ≡ [] → AreMarks (record { flags = flags; numbers = numbers })
marks_none flags lowered numbers e = record {
  listed = λ n h. absurd (true≢false (sym h ∙ lowered n));
  flagged = λ n c. absurd (no_number n (subst (λ (ns : List ℕ). Contains ns n) e c));
  once = λ i lt c. no_place i (subst (λ (ns : List ℕ). i < length ns) e lt);
}
  where
    no_place : (i : ℕ) → i < 0 → ⊥
    no_place i lt = absurd (omega arith)

-- one number more
pub mark_more : (marks : Marks) (n : ℕ) (numbers : List ℕ) → AreMarks marks → n < length marks.flags → get_or marks.flags n false ≡ false → numbers ≡ marks.numbers ++ n ∷ [] → MarksMore marks (record { flags = set marks.flags n true; numbers = numbers })
mark_more marks n numbers are lt e put = record {
  are = record {
    listed = λ k h. subst (λ (ns : List ℕ). Contains ns k) (sym put) (listed k (are_same_or_not k n) h);
    flagged = λ k c. flagged k (are_same_or_not k n) (Contains-push_cases marks.numbers n k (subst (λ (ns : List ℕ). Contains ns k) put c));
    once = λ i less c.
        once i (below_or_last i (length marks.numbers) (omega (arith, ap length put, length-append marks.numbers (n ∷ [])))) (subst (λ (ns : List ℕ). Contains (take i ns) (get_or ns i 0)) put c);
  };
  as_many = length-set marks.flags n true;
  added = n ∷ [];
  is = put;
}
  where
    fresh : Contains marks.numbers n → ⊥
    fresh c = true≢false (sym (are.flagged n c) ∙ e)

    listed : (k : ℕ) → (k ≡ n) ⊎ (k ≡ n → ⊥) → get_or (set marks.flags n true) k false ≡ true → Contains (marks.numbers ++ n ∷ []) k
    listed k (inl same) h = subst (Contains (marks.numbers ++ n ∷ [])) (sym same) (Contains-push marks.numbers n)
    listed k (inr other) h =
        Contains-append_left marks.numbers (n ∷ []) k (are.listed k (sym (get_or-set_other marks.flags n k true false other) ∙ h))

    flagged : (k : ℕ) → (k ≡ n) ⊎ (k ≡ n → ⊥) → Contains marks.numbers k ⊎ (n ≡ k) → get_or (set marks.flags n true) k false ≡ true
    flagged k (inl same) c = get_or-set_at marks.flags n k true false same lt
    flagged k (inr other) (inl c) = get_or-set_other marks.flags n k true false other ∙ are.flagged k c
    flagged k (inr other) (inr same) = absurd (other (sym same))

    once : (i : ℕ) → (i < length marks.numbers) ⊎ (i ≡ length marks.numbers) → Contains (take i (marks.numbers ++ n ∷ [])) (get_or (marks.numbers ++ n ∷ []) i 0) → ⊥
    once i (inl less) c =
        are.once i less
        (subst (λ (ns : List ℕ). Contains ns (get_or marks.numbers i 0)) (take-append-le i marks.numbers (n ∷ []) (omega arith))
        (subst (Contains (take i (marks.numbers ++ n ∷ []))) (get_or_append_left marks.numbers (n ∷ []) 0 i less) c))
    once i (inr last) c =
        fresh
        (subst (λ (ns : List ℕ). Contains ns n) (ap (λ (m : ℕ). take m (marks.numbers ++ n ∷ [])) last ∙ take-append-le (length marks.numbers) marks.numbers (n ∷ []) (omega arith) ∙ taken_all marks.numbers (length marks.numbers) (omega arith))
        (subst (Contains (take i (marks.numbers ++ n ∷ []))) (ap (λ (m : ℕ). get_or (marks.numbers ++ n ∷ []) m 0) last ∙ get_or-append_seam marks.numbers n [] 0) c))

-- and no other
pub mark_alone : (marks new : Marks) (n : ℕ) → new.numbers ≡ marks.numbers ++ n ∷ [] → MarksNoOther n marks new
mark_alone marks new n put k c = go (Contains-push_cases marks.numbers n k (subst (λ (ns : List ℕ). Contains ns k) put c))
  where
    go : Contains marks.numbers k ⊎ (n ≡ k) → Contains marks.numbers k ⊎ (k ≡ n)
    go (inl c) = inl c
    go (inr same) = inr (sym same)

-- no flag was taken down yet
pub lower_none : (flags : List Bool) → AreLowered [] flags flags
lower_none flags = record { as_many = refl; raised = λ n h. (h, no_number n) }

-- one flag more is down
pub lower_more : (numbers : List ℕ) (i : ℕ) (first old : List Bool) → i < length numbers → get_or numbers i 0 < length first → AreLowered (take i numbers) first old → AreLowered (take (i + 1) numbers) first (set old (get_or numbers i 0) false)
lower_more numbers i first old lt below h = record { as_many = length-set old m false ∙ h.as_many; raised = λ n up. go n (are_same_or_not n m) up }
  where
    m : ℕ
    m = get_or numbers i 0

    there : m < length old
    there = omega (arith, h.as_many, below)

    split : (n : ℕ) → (n ≡ m → ⊥) → (Contains (take i numbers) n → ⊥) → Contains (take i numbers) n ⊎ (m ≡ n) → ⊥
    split n other none (inl c) = none c
    split n other none (inr same) = other (sym same)

    go : (n : ℕ) → (n ≡ m) ⊎ (n ≡ m → ⊥) → get_or (set old m false) n false ≡ true → (get_or first n false ≡ true) × (Contains (take (i + 1) numbers) n → ⊥)
    go n (inl same) up = absurd (true≢false (sym up ∙ get_or-set_at old m n false false same there))
    go n (inr other) up =
        let was = h.raised n (sym (get_or-set_other old m n false false other) ∙ up) in (was.0, λ c. split n other was.1 (more_contains numbers i 0 n lt c))

-- once all are down no number is marked
pub lowered_all : (marks : Marks) (flags : List Bool) → AreMarks marks → AreLowered marks.numbers marks.flags flags → (numbers : List ℕ) → numbers ≡ [] → AreMarks (record { flags = flags; numbers = numbers })
lowered_all marks flags are h = marks_none flags (λ n. go n (get_or flags n false) refl)
  where
    go : (n : ℕ) (b : Bool) → get_or flags n false ≡ b → get_or flags n false ≡ false
    go n false e = e
    go n true e = let was = h.raised n e in absurd (was.1 (are.listed n was.0))

-- all marked numbers are below the bound
pub all_below : (marks : Marks) → AreMarks marks → (numbers : List ℕ) → numbers ≡ marks.numbers → All (λ n. n < length marks.flags) numbers
all_below marks are numbers e =
    subst (All (λ n. n < length marks.flags)) (sym e) (All-weaker (Contains marks.numbers) (λ n. n < length marks.flags) (marked_below marks are) marks.numbers (All-contains_itself marks.numbers))
