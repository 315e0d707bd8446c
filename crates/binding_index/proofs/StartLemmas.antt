-- The times of the places of buckets, before which no instance there starts.
use Rattle.std.proofs.Common.{◌≡◌, ◌∙◌, sym, ap, refl, subst, ℕ, zero, suc, ◌<◌, ◌≤◌, ◌⊎◌, inl, inr, Bool, true, false, get_or, length, length-append, set, List, [], ◌∷◌, ◌++◌, arith}
use Rattle.std.specs.Prelude.{Some, slice_get}
use Rattle.std.specs.List.{All, filter, swap}
use Rattle.std.proofs.lemmas.Bool.{cases_eq, cases_lt, le-ltb}
use Rattle.std.proofs.lemmas.List.Edits.{swapped_from_swap}
use Rattle.std.proofs.lemmas.List.Elements.{All-nil, All-same, All-weaker}
use Rattle.std.proofs.lemmas.Option.{get_or_from_slice_get}
use Rattle.event_types.specs.declared.value.Value.{Value}
use Rattle.indexmap.specs.IndexMap.{set_value_at}
use Rattle.instances.specs.declared.instance.Instance.{Instance}
use Rattle.binding_index.specs.Buckets.{AreStarts, Bucket, IsSplit, StartFrom, StartsFrom}
use Rattle.binding_index.proofs.BucketLemmas.{empty}
use Rattle.binding_index.proofs.WriteLemmas.{length_written, others_written, there_written}

-- an earlier time serves too
pub starts_earlier : (time other : ℕ) (b : Bucket) → time ≤ other → StartsFrom other b → StartsFrom time b
starts_earlier time other b le all = All-weaker (λ (n : Instance). other ≤ n.tuple.from) (λ (n : Instance). time ≤ n.tuple.from) (λ n later. omega (arith, le, later)) b.1 all

-- none starts before a time that is no later than all of them
pub all_from : (time : ℕ) (starts : List ℕ) (bs : List Bucket) → All (λ (start : ℕ). time ≤ start) starts → length bs ≤ length starts → AreStarts starts bs → StartFrom time bs
all_from time starts bs later room start n d lt = starts_earlier time (get_or starts n 0) (get_or bs n d) (later n 0 (omega (arith, lt, room))) (start n d lt)

-- one bucket was written, and the other places kept their times
pub starts_written : (starts others : List ℕ) (bs : List Bucket) (i : ℕ) (key : Value) (v w : List Instance) → slice_get bs i ≡ Some (key, v) → AreStarts starts bs → StartsFrom (get_or others i 0) (key, w)
    → ((n : ℕ) → (n ≡ i → ⊥) → get_or others n 0 ≡ get_or starts n 0) → AreStarts others (set_value_at bs i w)
starts_written starts others bs i key v w at start own kept n d lt = go (cases_eq n i)
  where
    go : (n ≡ i) ⊎ (n ≡ i → ⊥) → StartsFrom (get_or others n 0) (get_or (set_value_at bs i w) n d)
    go (inl e) =
        subst (λ (m : ℕ). StartsFrom (get_or others m 0) (get_or (set_value_at bs i w) m d)) (sym e)
        (subst (StartsFrom (get_or others i 0)) (sym (get_or_from_slice_get (set_value_at bs i w) i (key, w) d (there_written bs i key v w at))) own)
    go (inr other) =
        subst (λ (time : ℕ). StartsFrom time (get_or (set_value_at bs i w) n d)) (sym (kept n other))
        (subst (StartsFrom (get_or starts n 0)) (sym (others_written bs i w n d other)) (start n d (let long = length_written bs i w in omega (arith, lt, long))))

-- two buckets that change places take their times along
pub starts_swapped : (starts others : List ℕ) (bs cs : List Bucket) (a b : ℕ) → a < length bs → b < length bs → length bs ≤ length starts → length cs ≡ length bs → cs ≡ swap bs a b → others ≡ swap starts a b → AreStarts starts bs → AreStarts others cs
starts_swapped starts others bs cs a b first second room long e f start n d lt = go (cases_eq n a) (cases_eq n b)
  where
    moved : (get_or cs a d ≡ get_or bs b d) × (get_or cs b d ≡ get_or bs a d) × ((m : ℕ) → (m ≡ a → ⊥) → (m ≡ b → ⊥) → get_or cs m d ≡ get_or bs m d)
    moved = swapped_from_swap bs cs a b d first second e

    timed : (get_or others a 0 ≡ get_or starts b 0) × (get_or others b 0 ≡ get_or starts a 0) × ((m : ℕ) → (m ≡ a → ⊥) → (m ≡ b → ⊥) → get_or others m 0 ≡ get_or starts m 0)
    timed = swapped_from_swap starts others a b 0 (omega (arith, first, room)) (omega (arith, second, room)) f

    there : (m k : ℕ) → k < length bs → get_or others m 0 ≡ get_or starts k 0 → get_or cs m d ≡ get_or bs k d → StartsFrom (get_or others m 0) (get_or cs m d)
    there m k below time bucket = subst (λ (t : ℕ). StartsFrom t (get_or cs m d)) (sym time) (subst (StartsFrom (get_or starts k 0)) (sym bucket) (start k d below))

    go : (n ≡ a) ⊎ (n ≡ a → ⊥) → (n ≡ b) ⊎ (n ≡ b → ⊥) → StartsFrom (get_or others n 0) (get_or cs n d)
    go (inl here) _ = subst (λ (m : ℕ). StartsFrom (get_or others m 0) (get_or cs m d)) (sym here) (there a b second timed.0 moved.0)
    go (inr apart) (inl here) = subst (λ (m : ℕ). StartsFrom (get_or others m 0) (get_or cs m d)) (sym here) (there b a first timed.1 moved.1)
    go (inr apart) (inr other) = there n n (omega (arith, lt, long)) (timed.2 n apart other) (moved.2 n apart other)

-- more times behind the others change none of them
pub starts_grown : (starts more : List ℕ) (bs : List Bucket) → length bs ≤ length starts → AreStarts starts bs → AreStarts (starts ++ more) bs
starts_grown starts more bs room start n d lt = subst (λ (time : ℕ). StartsFrom time (get_or bs n d)) (sym (front starts n (omega (arith, lt, room)))) (start n d lt)
  where
    front : (xs : List ℕ) (m : ℕ) → m < length xs → get_or (xs ++ more) m 0 ≡ get_or xs m 0
    front [] m low = absurd (omega (arith, low))
    front (x ∷ xs) zero low = refl
    front (x ∷ xs) (suc m) low = front xs m (omega (arith, low))

-- a time of another place is the same once one is written
pub other_time : (starts : List ℕ) (i time n : ℕ) → (n ≡ i → ⊥) → get_or (set starts i time) n 0 ≡ get_or starts n 0
other_time [] i time n other = refl
other_time (x ∷ xs) zero time zero other = absurd (other refl)
other_time (x ∷ xs) zero time (suc n) other = refl
other_time (x ∷ xs) (suc i) time zero other = refl
other_time (x ∷ xs) (suc i) time (suc n) other = other_time xs i time n (λ e. other (ap suc e))

-- and the time that is written stands at its place
pub own_time : (starts : List ℕ) (i time : ℕ) → i < length starts → get_or (set starts i time) i 0 ≡ time
own_time [] i time lt = absurd (omega (arith, lt))
own_time (x ∷ xs) zero time lt = refl
own_time (x ∷ xs) (suc i) time lt = own_time xs i time (omega (arith, lt))

-- fewer times pass a test where one that did gave way to one that doesn't
pub fewer_pass : (test : ℕ → Bool) (starts : List ℕ) (i time : ℕ) → i < length starts → test (get_or starts i 0) ≡ true → test time ≡ false → length (filter test (set starts i time)) < length (filter test starts)
fewer_pass test [] i time lt was is = absurd (omega (arith, lt))
fewer_pass test (x ∷ xs) zero time lt was is = rw was (rw is (omega arith))
fewer_pass test (x ∷ xs) (suc i) time lt was is = go (fewer_pass test xs i time (omega (arith, lt)) was is) (test x) refl
  where
    go : length (filter test (set xs i time)) < length (filter test xs) → (t : Bool) → test x ≡ t → length (filter test (x ∷ set xs i time)) < length (filter test (x ∷ xs))
    go rest true e = rw e (omega (arith, rest))
    go rest false e = rw e rest

-- a bucket without instances starts no earlier than any time
pub starts_behind : (filled place time : ℕ) (starts : List ℕ) (bs : List Bucket) → filled ≤ place → IsSplit filled bs → AreStarts starts bs → AreStarts (set starts place time) bs
starts_behind filled place time starts bs behind split start n d lt = go (cases_eq n place)
  where
    go : (n ≡ place) ⊎ (n ≡ place → ⊥) → StartsFrom (get_or (set starts place time) n 0) (get_or bs n d)
    go (inl here) =
        All-same (λ (x : Instance). get_or (set starts place time) n 0 ≤ x.tuple.from) _ _ (empty (get_or bs n d).1 (split n d lt ∙ le-ltb n filled (omega (arith, here, behind)))) (All-nil _)
    go (inr other) = subst (λ (start' : ℕ). StartsFrom start' (get_or bs n d)) (sym (other_time starts place time n other)) (start n d lt)

-- an empty bucket behind the others starts no earlier than any time
pub starts_added : (starts : List ℕ) (bs : List Bucket) (key : Value) → AreStarts starts bs → AreStarts starts (bs ++ (key, []) ∷ [])
starts_added starts bs key start n d lt = go (cases_lt n (length bs))
  where
    front : (cs : List Bucket) (m : ℕ) → m < length cs → get_or (cs ++ (key, []) ∷ []) m d ≡ get_or cs m d
    front [] m low = absurd (omega (arith, low))
    front (c ∷ cs) zero low = refl
    front (c ∷ cs) (suc m) low = front cs m (omega (arith, low))

    back : (cs : List Bucket) → get_or (cs ++ (key, []) ∷ []) (length cs) d ≡ (key, [])
    back [] = refl
    back (c ∷ cs) = back cs

    go : (n < length bs) ⊎ (length bs ≤ n) → StartsFrom (get_or starts n 0) (get_or (bs ++ (key, []) ∷ []) n d)
    go (inl early) = subst (StartsFrom (get_or starts n 0)) (sym (front bs n early)) (start n d early)
    go (inr late) =
        let long = length-append bs ((key, []) ∷ []) in
        let last : n ≡ length bs = omega (arith, lt, long, late) in
        All-same (λ (x : Instance). get_or starts n 0 ≤ x.tuple.from) _ _ (ap (λ m. (get_or (bs ++ (key, []) ∷ []) m d).1) last ∙ ap (λ (b : Bucket). b.1) (back bs)) (All-nil _)
