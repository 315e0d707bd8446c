-- The file whose turn it is, and the watermark.
use Rattle.std.proofs.Common.{◌≡◌, ◌∙◌, sym, ap, refl, subst, ℕ, zero, suc, ◌+◌, ◌-◌, ◌<◌, ◌≤◌, drop, get_or, length, set, Bool, true, false, cond, List, [], ◌∷◌, Option, Some, None, slice_get, arith}
use Rattle.std.specs.Prelude.{◌&&◌, ◌||◌, nat_le, nat_lt, min}
use Rattle.std.proofs.Math.Seq.{drop-cons}
use Rattle.std.specs.Option.{IfSome, option_map, unwrap_or}
use Rattle.std.proofs.lemmas.Bool.{and_from, and_parts, cond_both, lt-ltb, leb-false, leb-true, ltb-true, ltb-false, le-ltb}
use Rattle.source_merge.specs.declared.source.Source.{Source}
use Rattle.source_merge.specs.Sources.{bound, first_of, is_below, is_no_later, later, lesser, turn_from, turn_in, watermark, with_end, with_time}

-- the bound of the file whose turn it is
abbrev pub bound_at : ℕ → Option (ℕ × Source) → Option ℕ
bound_at slack turn = option_map (λ next. bound slack next.1.greatest) turn

-- the bound of the earlier file is the lesser one
lesser_is_earlier : (slack : ℕ) (g h : Option ℕ) → cond (is_no_later g h) (bound slack g) (bound slack h) ≡ min (bound slack g) (bound slack h)
lesser_is_earlier slack None h = omega arith
lesser_is_earlier slack (Some g) None = omega arith
lesser_is_earlier slack (Some g) (Some h) =
    cond_both (nat_le g h) (g - slack) (h - slack) (λ n. n ≡ min (g - slack) (h - slack)) (λ e. let le = leb-true g h e in omega (arith, le)) (λ e. let lt = leb-false g h e in omega (arith, lt))

moved : (slack : ℕ) (x y : ℕ × Source) (b : Bool) → bound_at slack (cond b (Some x) (Some y)) ≡ Some (cond b (bound slack x.1.greatest) (bound slack y.1.greatest))
moved slack x y true = refl
moved slack x y false = refl

-- the file whose turn it is has the lesser bound
first_has_lesser : (slack number : ℕ) (source : Source) (turn : Option (ℕ × Source)) → bound_at slack (first_of number source turn) ≡ lesser (bound slack source.greatest) (bound_at slack turn)
first_has_lesser slack number source None = refl
first_has_lesser slack number source (Some next) =
    moved slack (number, source) next (is_no_later source.greatest next.1.greatest) ∙ ap Some (lesser_is_earlier slack source.greatest next.1.greatest)

-- the watermark is the bound of the file whose turn it is, by induction on the files
pub mark_is_bound : (slack number : ℕ) (sources : List Source) → bound_at slack (turn_from number sources) ≡ watermark slack sources
mark_is_bound slack number [] = refl
mark_is_bound slack number (source ∷ more) = go (mark_is_bound slack (number + 1) more) source.ended
  where
    go : bound_at slack (turn_from (number + 1) more) ≡ watermark slack more → (ended : Bool) → bound_at slack (cond ended (turn_from (number + 1) more) (first_of number source (turn_from (number + 1) more))) ≡ cond ended (watermark slack more) (lesser (bound slack source.greatest) (watermark slack more))
    go rest true = rest
    go rest false = first_has_lesser slack number source (turn_from (number + 1) more) ∙ ap (lesser (bound slack source.greatest)) rest

-- a file stands at its number, and hasn't ended
pub record IsThere (number : ℕ) (sources : List Source) (turn : ℕ × Source) : Type 0 where
  pub from : number ≤ turn.0
  pub there : slice_get sources (turn.0 - number) ≡ Some turn.1
  pub going : turn.1.ended ≡ false

-- what holds of both files holds of the one whose turn it is
either_first : (P : ℕ × Source → Type 0) (number : ℕ) (source : Source) (turn : Option (ℕ × Source)) → P (number, source) → IfSome turn P → IfSome (first_of number source turn) P
either_first P number source None this others = this
either_first P number source (Some next) this others = go (is_no_later source.greatest next.1.greatest)
  where
    go : (b : Bool) → IfSome (cond b (Some (number, source)) (Some next)) P
    go true = this
    go false = others

-- what stands at a number stands there behind one more file
behind : (number : ℕ) (source : Source) (more : List Source) (turn : Option (ℕ × Source)) → IfSome turn (IsThere (number + 1) more) → IfSome turn (IsThere number (source ∷ more))
behind number source more None there = tt
behind number source more (Some next) there = record {
  from = let from = there.from in omega (arith, from);
  there = let from = there.from in let e : suc (next.0 - (number + 1)) ≡ next.0 - number = omega (arith, from) in ap (slice_get (source ∷ more)) (sym e) ∙ there.there;
  going = there.going;
}

-- the file whose turn it is stands at its number, and hasn't ended, by induction on the files
turn_there : (number : ℕ) (sources : List Source) → IfSome (turn_from number sources) (IsThere number sources)
turn_there number [] = tt
turn_there number (source ∷ more) = go (behind number source more (turn_from (number + 1) more) (turn_there (number + 1) more)) source.ended refl
  where
    go : IfSome (turn_from (number + 1) more) (IsThere number (source ∷ more)) → (ended : Bool) → source.ended ≡ ended → IfSome (cond ended (turn_from (number + 1) more) (first_of number source (turn_from (number + 1) more))) (IsThere number (source ∷ more))
    go rest true e = rest
    go rest false e =
        let zero_is : 0 ≡ number - number = omega arith in
        either_first (IsThere number (source ∷ more)) number source (turn_from (number + 1) more) (record { from = omega arith; there = ap (slice_get (source ∷ more)) (sym zero_is); going = e }) rest

-- the file whose turn it is
pub turn_is_there : (sources : List Source) (turn : ℕ × Source) → turn_in sources ≡ Some turn → (slice_get sources turn.0 ≡ Some turn.1) × (turn.1.ended ≡ false)
turn_is_there sources turn is =
    let at : IsThere 0 sources turn = subst (λ o. IfSome o (IsThere 0 sources)) is (turn_there 0 sources) in
    let e : turn.0 - 0 ≡ turn.0 = omega arith in
    (ap (slice_get sources) (sym e) ∙ at.there, at.going)

-- a time is below the bound of a file, or the file has ended
abbrev is_passed : ℕ → Source → ℕ → Bool
is_passed slack source at = source.ended || nat_lt at (bound slack source.greatest)

below_lesser : (bound : ℕ) (mark : Option ℕ) (at : ℕ) → is_below (lesser bound mark) at ≡ (nat_lt at bound && is_below mark at)
below_lesser bound None at = go (nat_lt at bound)
  where
    go : (b : Bool) → b ≡ (b && true)
    go true = refl
    go false = refl
below_lesser bound (Some other) at = go (nat_lt at bound) refl
  where
    go : (b : Bool) → nat_lt at bound ≡ b → nat_lt at (min bound other) ≡ (b && nat_lt at other)
    go false e = le-ltb at (min bound other) (let le = ltb-false at bound e in omega (arith, le))
    go true e = again (nat_lt at other) refl
      where
        again : (c : Bool) → nat_lt at other ≡ c → nat_lt at (min bound other) ≡ c
        again true f = lt-ltb at (min bound other) (let lt = ltb-true at bound e in let less = ltb-true at other f in omega (arith, lt, less))
        again false f = le-ltb at (min bound other) (let le = ltb-false at other f in omega (arith, le))

-- a time is below the watermark exactly where it is passed by each file
below_is : (slack : ℕ) (source : Source) (more : List Source) (at : ℕ) → is_below (watermark slack (source ∷ more)) at ≡ (is_passed slack source at && is_below (watermark slack more) at)
below_is slack source more at = go source.ended
  where
    go : (ended : Bool) → is_below (cond ended (watermark slack more) (lesser (bound slack source.greatest) (watermark slack more))) at ≡ ((ended || nat_lt at (bound slack source.greatest)) && is_below (watermark slack more) at)
    go true = refl
    go false = below_lesser (bound slack source.greatest) (watermark slack more) at

-- where a file goes on and passes what it passed, so does the watermark, by induction on the files
pub stays_below : (slack : ℕ) (sources : List Source) (i : ℕ) (old new : Source) (at : ℕ) → slice_get sources i ≡ Some old → (is_passed slack old at ≡ true → is_passed slack new at ≡ true) → is_below (watermark slack sources) at ≡ true
    → is_below (watermark slack (set sources i new)) at ≡ true
stays_below slack [] i old new at is on below = below
stays_below slack (source ∷ more) zero old new at is on below =
    let same : source ≡ old = ap (λ o. unwrap_or o old) is in
    let parts = and_parts (is_passed slack source at) (is_below (watermark slack more) at) (sym (below_is slack source more at) ∙ below) in
    below_is slack new more at ∙ and_from (is_passed slack new at) (is_below (watermark slack more) at) (on (ap (λ s. is_passed slack s at) (sym same) ∙ parts.0)) parts.1
stays_below slack (source ∷ more) (suc i) old new at is on below =
    let parts = and_parts (is_passed slack source at) (is_below (watermark slack more) at) (sym (below_is slack source more at) ∙ below) in
    below_is slack source (set more i new) at ∙ and_from (is_passed slack source at) (is_below (watermark slack (set more i new)) at) parts.0 (stays_below slack more i old new at is on parts.1)

later_bound : (slack at : ℕ) (greatest : Option ℕ) → bound slack greatest ≤ bound slack (Some (later greatest at))
later_bound slack at None = omega arith
later_bound slack at (Some greatest) = omega arith

-- a file's next event passes what was passed
pub passed_with_time : (slack : ℕ) (source : Source) (time at : ℕ) → is_passed slack source at ≡ true → is_passed slack (record { greatest = Some (later source.greatest time); ended = source.ended }) at ≡ true
passed_with_time slack source time at passed = go source.ended passed
  where
    go : (ended : Bool) → (ended || nat_lt at (bound slack source.greatest)) ≡ true → (ended || nat_lt at (bound slack (Some (later source.greatest time)))) ≡ true
    go true e = refl
    go false e = lt-ltb at (bound slack (Some (later source.greatest time))) (let lt = ltb-true at (bound slack source.greatest) e in let le = later_bound slack time source.greatest in omega (arith, lt, le))

-- what was below the watermark is so after an event of the file whose turn it is
pub below_with_time : (slack : ℕ) (sources : List Source) (turn : ℕ × Source) (time at : ℕ) → turn_in sources ≡ Some turn → is_below (watermark slack sources) at ≡ true
    → is_below (watermark slack (with_time sources turn.0 turn.1 time)) at ≡ true
below_with_time slack sources turn time at is =
    stays_below slack sources turn.0 turn.1 (record { greatest = Some (later turn.1.greatest time); ended = turn.1.ended }) at (turn_is_there sources turn is).0 (passed_with_time slack turn.1 time at)

-- and after its end
pub below_with_end : (slack : ℕ) (sources : List Source) (turn : ℕ × Source) (at : ℕ) → turn_in sources ≡ Some turn → is_below (watermark slack sources) at ≡ true → is_below (watermark slack (with_end sources turn.0 turn.1)) at ≡ true
below_with_end slack sources turn at is = stays_below slack sources turn.0 turn.1 (record { greatest = turn.1.greatest; ended = true }) at (turn_is_there sources turn is).0 (λ passed. refl)

-- what is below the watermark is below the bound of the file whose turn it is
pub below_bound : (slack : ℕ) (sources : List Source) (turn : ℕ × Source) (at : ℕ) → turn_in sources ≡ Some turn → is_below (watermark slack sources) at ≡ true → at < bound slack turn.1.greatest
below_bound slack sources turn at is below =
    let mark : Some (bound slack turn.1.greatest) ≡ watermark slack sources = sym (ap (bound_at slack) is) ∙ mark_is_bound slack 0 sources in
    ltb-true at (bound slack turn.1.greatest) (ap (λ m. is_below m at) mark ∙ below)

-- the file whose turn it is from one number on, where it is known from the next one on
pub turn_next : (sources : List Source) (number next : ℕ) (otherwise : Source) (turn : Option (ℕ × Source)) → number + 1 ≡ next → number < length sources → turn ≡ turn_from next (drop next sources)
    → cond (get_or sources number otherwise).ended turn (first_of number (get_or sources number otherwise) turn) ≡ turn_from number (drop number sources)
turn_next sources number next otherwise turn e inside known =
    let source = get_or sources number otherwise in
    let split : drop number sources ≡ source ∷ drop next sources = drop-cons sources number otherwise inside ∙ ap (λ n. source ∷ drop n sources) e' in
    ap (λ t. cond source.ended t (first_of number source t)) (known ∙ ap (λ n. turn_from n (drop next sources)) (sym e)) ∙ sym (ap (turn_from number) split)
  where
    e' : suc number ≡ next
    e' = omega (arith, e)
