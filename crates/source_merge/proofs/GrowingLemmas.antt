-- Turns that go, one after another, and files that grow behind them.
use Rattle.std.proofs.Common.{◌≡◌, ◌∙◌, sym, ap, refl, subst, ℕ, zero, suc, ◌+◌, ◌≤◌, Bool, true, false, cond, drop, length, List, [], ◌∷◌, ◌++◌, Option, Some, None, Result, Ok, Err, slice_get, arith}
use Rattle.std.specs.Prelude.{◌==◌, if◌then◌else◌, slice_set}
use Rattle.std.specs.Option.{option_map}
use Rattle.std.proofs.lemmas.List.{length-set}
use Rattle.std.proofs.lemmas.List.Sums.{sum_by-cons}
use Rattle.event_types.proofs.NumberLemmas.{other_number, same_number}
use Rattle.event_csv.specs.declared.event.Seen.{Seen}
use Rattle.event_csv.specs.declared.fault.LineFault.{LineFault}
use Rattle.source_merge.specs.declared.source.Source.{Source}
use Rattle.source_merge.specs.Growing.{DoesGo, EndsAlike, GoesThrough, InputGoesOn, InputsGoOn, IsAsFar, LeavesLines, lines_given, without_lines}
use Rattle.source_merge.specs.Merging.{ranked}
use Rattle.source_merge.specs.Ranks.{Taken}
use Rattle.source_merge.specs.Sources.{bound, is_late, turn_in, with_end, with_time}
use Rattle.source_merge.specs.Turns.{Between, Goes, Input, IsLate, Over, SourceLine, Stops, Turn, Waits, after_event, after_turn, after_turns, before_turns, next_turn, turn_at, turn_of_input, turn_of_line}
use Rattle.source_merge.proofs.PlaceLemmas.{drop_more, put_elsewhere, put_there}

-- turns that go come first, by induction on them
pub come_first : (slack many : ℕ) (b c : Between) → GoesThrough slack many b c → after_turns slack many b ≡ c
come_first slack zero b c goes = sym goes
come_first slack (suc many) b c goes = ap (λ turn. after_turns slack many (after_turn b turn)) goes.1 ∙ come_first slack many goes.0 c goes.2

-- one more turn that goes, by induction on those before it
pub one_more : (slack many : ℕ) (b c d : Between) → GoesThrough slack many b c → next_turn slack c ≡ Goes d → GoesThrough slack (suc many) b d
one_more slack zero b c d goes next = (d, ap (next_turn slack) (sym goes) ∙ next, refl)
one_more slack (suc many) b c d goes next = (goes.0, goes.1, one_more slack many goes.0 c d goes.2 next)

-- the turn of a file whose input is there
pub turn_there : (slack : ℕ) (b : Between) (turn : ℕ × Source) (input : Input) → slice_get b.inputs turn.0 ≡ Some input → turn_at slack b (Some turn) ≡ turn_of_input slack b turn input
turn_there slack b turn input is = rw is refl

-- and of one without an input
pub none_there : (slack : ℕ) (b : Between) (turn : ℕ × Source) → slice_get b.inputs turn.0 ≡ None → turn_at slack b (Some turn) ≡ Waits turn.0
none_there slack b turn is = rw is refl

-- a turn of files that go on comes to the same, and where it goes, they go on then
abbrev Alike : Turn → Turn → Type 0
Alike (Goes next) other = (after : Between) × (other ≡ Goes after) × IsAsFar next after
Alike (Waits number) other = Unit {0}
Alike (Stops file line why) other = other ≡ Stops file line why
Alike Over other = other ≡ Over

-- the files go on where in one of them the lines behind the next one do
put_go_on : (xs ys : List Input) (i : ℕ) (x rest other : Input) → slice_get xs i ≡ Some x → InputsGoOn xs ys → InputGoesOn rest other → InputsGoOn (slice_set xs i rest) (slice_set ys i other)
put_go_on xs ys i x rest other is on one = record {
  as_many = length-set ys i other ∙ on.as_many ∙ sym (length-set xs i rest);
  each_file = λ number input at. by_place number input at (i == number) refl;
}
  where
    some_is : {X : Type 0} (y z : X) → Some y ≡ Some z → y ≡ z
    some_is y z e = cc

    by_place : (number : ℕ) (input : Input) → slice_get (slice_set xs i rest) number ≡ Some input → (b : Bool) → (i == number) ≡ b → (o : Input) × (slice_get (slice_set ys i other) number ≡ Some o) × InputGoesOn input o
    by_place number input at true e =
        let same : i ≡ number = same_number i number e in
        let mine : rest ≡ input = some_is rest input (sym (put_there xs i rest x is) ∙ ap (slice_get (slice_set xs i rest)) same ∙ at) in
        let its = on.each_file i x is in
        (other, ap (slice_get (slice_set ys i other)) (sym same) ∙ put_there ys i other its.0 its.1, subst (λ r. InputGoesOn r other) mine one)
    by_place number input at false e =
        let apart = other_number i number e in
        let its = on.each_file number input (sym (put_elsewhere xs i number rest apart) ∙ at) in
        (its.0, put_elsewhere ys i number other apart ∙ its.1, its.2)

module _ (slack : ℕ) (b c : Between) (far : IsAsFar b c) where
  event_far : (turn : ℕ × Source) (seen : Seen) (x rest other : Input) → slice_get b.inputs turn.0 ≡ Some x → InputGoesOn rest other → IsAsFar (after_event b turn rest seen) (after_event c turn other seen)
  event_far turn seen x rest other is one = record {
    sources = ap (λ sources. with_time sources turn.0 turn.1 seen.tuple.at) far.sources;
    taken = ap (λ (taken : List Taken). ranked (length taken) turn.0 seen ∷ taken) far.taken;
    inputs = put_go_on b.inputs c.inputs turn.0 x rest other is far.inputs one;
  }

  end_far : (turn : ℕ × Source) → IsAsFar (record { sources = with_end b.sources turn.0 turn.1; inputs = b.inputs; taken = b.taken }) (record { sources = with_end c.sources turn.0 turn.1; inputs = c.inputs; taken = c.taken })
  end_far turn = record { sources = ap (λ sources. with_end sources turn.0 turn.1) far.sources; taken = far.taken; inputs = far.inputs }

  line_alike : (turn : ℕ × Source) (x rest other : Input) (number : ℕ) (found : Result Seen LineFault) → slice_get b.inputs turn.0 ≡ Some x → InputGoesOn rest other
      → Alike (turn_of_line slack b turn rest (record { number = number; found = found })) (turn_of_line slack c turn other (record { number = number; found = found }))
  line_alike turn x rest other number (Err why) is one = refl
  line_alike turn x rest other number (Ok seen) is one = go (is_late slack turn.1 seen.tuple.at)
    where
      go : (late : Bool) → Alike (if late then Stops turn.0 number (IsLate seen.tuple.at (bound slack turn.1.greatest)) else Goes (after_event b turn rest seen))
          (if late then Stops turn.0 number (IsLate seen.tuple.at (bound slack turn.1.greatest)) else Goes (after_event c turn other seen))
      go true = refl
      go false = (after_event c turn other seen, refl, event_far turn seen x rest other is one)

  input_alike : (turn : ℕ × Source) (left more : List SourceLine) (whole later : Bool) → (whole ≡ true → (more ≡ []) × (later ≡ true)) → slice_get b.inputs turn.0 ≡ Some (record { left = left; whole = whole })
      → Alike (turn_of_input slack b turn (record { left = left; whole = whole })) (turn_of_input slack c turn (record { left = left ++ more; whole = later }))
  input_alike turn [] more false later ends is = tt
  input_alike turn [] more true later ends is =
      let e = ends refl in
      subst (λ (lines : List SourceLine). Alike (turn_of_input slack b turn (record { left = []; whole = true })) (turn_of_input slack c turn (record { left = lines; whole = later }))) (sym e.0)
      (subst (λ (w : Bool). Alike (turn_of_input slack b turn (record { left = []; whole = true })) (turn_of_input slack c turn (record { left = []; whole = w }))) (sym e.1)
      (record { sources = with_end c.sources turn.0 turn.1; inputs = c.inputs; taken = c.taken }, refl, end_far turn))
  input_alike turn (line ∷ left) more whole later ends is =
      line_alike turn (record { left = line ∷ left; whole = whole }) (record { left = left; whole = whole }) (record { left = left ++ more; whole = later }) line.number line.found is (record { more = more; left = refl; whole = ends })

  file_alike : (turn : ℕ × Source) (input other : Input) → slice_get b.inputs turn.0 ≡ Some input → InputGoesOn input other → Alike (turn_of_input slack b turn input) (turn_of_input slack c turn other)
  file_alike turn input other is one =
      subst (λ (lines : List SourceLine). Alike (turn_of_input slack b turn input) (turn_of_input slack c turn (record { left = lines; whole = other.whole }))) (sym one.left)
      (input_alike turn input.left one.more input.whole other.whole one.whole is)

  -- so the next turn of files that go on comes to the same
  alike : Alike (next_turn slack b) (next_turn slack c)
  alike = subst (λ turn. Alike (turn_at slack b (turn_in b.sources)) (turn_at slack c turn)) (ap turn_in (sym far.sources)) (by_turn (turn_in b.sources))
    where
      by_input : (turn : ℕ × Source) (o : Option Input) → slice_get b.inputs turn.0 ≡ o → Alike (turn_at slack b (Some turn)) (turn_at slack c (Some turn))
      by_input turn None is = subst (λ t. Alike t (turn_at slack c (Some turn))) (sym (none_there slack b turn is)) tt
      by_input turn (Some input) is =
          let its = far.inputs.each_file turn.0 input is in
          subst (λ t. Alike t (turn_at slack c (Some turn))) (sym (turn_there slack b turn input is))
          (subst (λ t. Alike (turn_of_input slack b turn input) t) (sym (turn_there slack c turn its.0 its.1)) (file_alike turn input its.0 is its.2))

      by_turn : (turn : Option (ℕ × Source)) → Alike (turn_at slack b turn) (turn_at slack c turn)
      by_turn None = refl
      by_turn (Some turn) = by_input turn (slice_get b.inputs turn.0) refl

ends_alike : (turn other : Turn) → Alike turn other → EndsAlike turn other
ends_alike (Goes next) other is = tt
ends_alike (Waits number) other is = tt
ends_alike (Stops file line why) other is = is
ends_alike Over other is = is

-- turns that go, go where the files go on, by induction on them
turns_stay_from : (slack many : ℕ) (b c d : Between) → IsAsFar b d → GoesThrough slack many b c → (e : Between) × GoesThrough slack many d e × IsAsFar c e
turns_stay_from slack zero b c d far goes = (d, refl, subst (λ x. IsAsFar x d) (sym goes) far)
turns_stay_from slack (suc many) b c d far goes =
    let one : Alike (Goes goes.0) (next_turn slack d) = subst (λ turn. Alike turn (next_turn slack d)) goes.1 (alike slack b d far) in
    let rest = turns_stay_from slack many goes.0 c one.0 one.2 goes.2 in (rest.0, (one.0, one.1, rest.1), rest.2)

unread_alike : (inputs others : List Input) → length others ≡ length inputs → (before_turns others).sources ≡ (before_turns inputs).sources
unread_alike [] [] long = refl
unread_alike [] (other ∷ others) long = absurd (omega (arith, long))
unread_alike (input ∷ inputs) [] long = absurd (omega (arith, long))
unread_alike (input ∷ inputs) (other ∷ others) long = ap (λ sources. record { greatest = None; ended = false } ∷ sources) (unread_alike inputs others (omega (arith, long)))

-- so do they from before the first turn
pub turns_stay : (slack many : ℕ) (inputs others : List Input) (b : Between) → InputsGoOn inputs others → GoesThrough slack many (before_turns inputs) b
    → (c : Between) × GoesThrough slack many (before_turns others) c × IsAsFar b c × EndsAlike (next_turn slack b) (next_turn slack c)
turns_stay slack many inputs others b on goes =
    let far : IsAsFar (before_turns inputs) (before_turns others) = record { sources = unread_alike inputs others on.as_many; taken = refl; inputs = on } in
    let stay = turns_stay_from slack many (before_turns inputs) b (before_turns others) far goes in
    (stay.0, stay.1, stay.2, ends_alike (next_turn slack b) (next_turn slack stay.0) (alike slack b stay.0 stay.2))

-- where a turn goes, this holds of the files behind it
abbrev IfGoes : (Between → Type 0) → Turn → Type 0
IfGoes P (Goes next) = P next
IfGoes P (Waits number) = Unit {0}
IfGoes P (Stops file line why) = Unit {0}
IfGoes P Over = Unit {0}

module _ (inputs : List Input) (b : Between) (leaves : LeavesLines inputs b) where
  -- what a file had before the first turn of which these lines are left
  found_first : (given : ℕ) (o : Option Input) (x : Input) → Some x ≡ option_map (without_lines given) o → (input : Input) × (o ≡ Some input) × (x ≡ without_lines given input)
  found_first given None x e = cc
  found_first given (Some input) x e = (input, refl, cc)

  first_of_file : (number : ℕ) (x : Input) → slice_get b.inputs number ≡ Some x → (input : Input) × (slice_get inputs number ≡ Some input) × (x ≡ without_lines (lines_given number b.taken) input)
  first_of_file number x is = found_first (lines_given number b.taken) (slice_get inputs number) x (sym is ∙ leaves.left number)

  same_given : (number : ℕ) (turn : ℕ × Source) (seen : Seen) (n : ℕ) → (turn.0 == number) ≡ false → lines_given number (ranked n turn.0 seen ∷ b.taken) ≡ lines_given number b.taken
  same_given number turn seen n e =
      sum_by-cons (λ (t : Taken). cond (t.0.file == number) 1 0) (ranked n turn.0 seen) b.taken ∙ ap (λ p. cond p 1 0 + lines_given number b.taken) e ∙ zero_more (lines_given number b.taken)
    where
      zero_more : (m : ℕ) → 0 + m ≡ m
      zero_more m = omega arith

  one_given : (number : ℕ) (turn : ℕ × Source) (seen : Seen) (n : ℕ) → (turn.0 == number) ≡ true → lines_given number (ranked n turn.0 seen ∷ b.taken) ≡ suc (lines_given number b.taken)
  one_given number turn seen n e =
      sum_by-cons (λ (t : Taken). cond (t.0.file == number) 1 0) (ranked n turn.0 seen) b.taken ∙ ap (λ p. cond p 1 0 + lines_given number b.taken) e ∙ more (lines_given number b.taken)
    where
      more : (m : ℕ) → 1 + m ≡ suc m
      more m = omega arith

  some_is : {X : Type 0} (y z : X) → Some y ≡ Some z → y ≡ z
  some_is y z e = cc

  -- an event was taken of a file
  event_leaves : (turn : ℕ × Source) (seen : Seen) (line : SourceLine) (left : List SourceLine) (whole : Bool) → slice_get b.inputs turn.0 ≡ Some (record { left = line ∷ left; whole = whole })
      → LeavesLines inputs (after_event b turn (record { left = left; whole = whole }) seen)
  event_leaves turn seen line left whole is = record {
    left = λ number. left_by number (turn.0 == number) refl;
    there = λ number input at. there_by number input at (turn.0 == number) refl;
  }
    where
      its : (input : Input) × (slice_get inputs turn.0 ≡ Some input) × (record { left = line ∷ left; whole = whole } ≡ without_lines (lines_given turn.0 b.taken) input)
      its = first_of_file turn.0 (record { left = line ∷ left; whole = whole }) is

      behind : (drop (suc (lines_given turn.0 b.taken)) its.0.left ≡ left) × (suc (lines_given turn.0 b.taken) ≤ length its.0.left)
      behind = drop_more its.0.left (lines_given turn.0 b.taken) line left (sym (ap (λ (i : Input). i.left) its.2))

      now_left : record { left = left; whole = whole } ≡ without_lines (suc (lines_given turn.0 b.taken)) its.0
      now_left = λ i. record { left = sym behind.0 i; whole = (its.2 i).whole }

      after : List Taken
      after = ranked (length b.taken) turn.0 seen ∷ b.taken

      left_by : (number : ℕ) (p : Bool) → (turn.0 == number) ≡ p → slice_get (slice_set b.inputs turn.0 (record { left = left; whole = whole })) number ≡ option_map (without_lines (lines_given number after)) (slice_get inputs number)
      left_by number true e =
          let same : turn.0 ≡ number = same_number turn.0 number e in
          ap (slice_get (slice_set b.inputs turn.0 (record { left = left; whole = whole }))) (sym same)
          ∙ put_there b.inputs turn.0 (record { left = left; whole = whole }) (record { left = line ∷ left; whole = whole }) is
          ∙ ap Some now_left
          ∙ ap (option_map (without_lines (suc (lines_given turn.0 b.taken)))) (sym its.1)
          ∙ (λ i. option_map (without_lines (suc (lines_given (same i) b.taken))) (slice_get inputs (same i)))
          ∙ ap (λ n. option_map (without_lines n) (slice_get inputs number)) (sym (one_given number turn seen (length b.taken) e))
      left_by number false e =
          put_elsewhere b.inputs turn.0 number (record { left = left; whole = whole }) (other_number turn.0 number e) ∙ leaves.left number
          ∙ ap (λ n. option_map (without_lines n) (slice_get inputs number)) (sym (same_given number turn seen (length b.taken) e))

      there_by : (number : ℕ) (input : Input) → slice_get inputs number ≡ Some input → (p : Bool) → (turn.0 == number) ≡ p → lines_given number after ≤ length input.left
      there_by number input at true e =
          let same : turn.0 ≡ number = same_number turn.0 number e in
          let mine : its.0 ≡ input = some_is its.0 input (sym its.1 ∙ ap (slice_get inputs) same ∙ at) in
          let few : suc (lines_given number b.taken) ≤ length input.left = subst (λ (i : Input). suc (lines_given number b.taken) ≤ length i.left) mine (subst (λ n. suc (lines_given n b.taken) ≤ length its.0.left) same behind.1) in
          subst (λ n. n ≤ length input.left) (sym (one_given number turn seen (length b.taken) e)) few
      there_by number input at false e = subst (λ n. n ≤ length input.left) (sym (same_given number turn seen (length b.taken) e)) (leaves.there number input at)

  line_leaves : (slack : ℕ) (turn : ℕ × Source) (line : SourceLine) (left : List SourceLine) (whole : Bool) (found : Result Seen LineFault) → slice_get b.inputs turn.0 ≡ Some (record { left = line ∷ left; whole = whole })
      → IfGoes (LeavesLines inputs) (turn_of_line slack b turn (record { left = left; whole = whole }) (record { number = line.number; found = found }))
  line_leaves slack turn line left whole (Err why) is = tt
  line_leaves slack turn line left whole (Ok seen) is = go (is_late slack turn.1 seen.tuple.at)
    where
      go : (late : Bool)
          → IfGoes (LeavesLines inputs) (if late then Stops turn.0 line.number (IsLate seen.tuple.at (bound slack turn.1.greatest)) else Goes (after_event b turn (record { left = left; whole = whole }) seen))
      go true = tt
      go false = event_leaves turn seen line left whole is

  input_leaves : (slack : ℕ) (turn : ℕ × Source) (left : List SourceLine) (whole : Bool) → slice_get b.inputs turn.0 ≡ Some (record { left = left; whole = whole }) → IfGoes (LeavesLines inputs) (turn_of_input slack b turn (record { left = left; whole = whole }))
  input_leaves slack turn [] false is = tt
  input_leaves slack turn [] true is = record { left = leaves.left; there = leaves.there }
  input_leaves slack turn (line ∷ left) whole is = line_leaves slack turn line left whole line.found is

  -- so it is behind the next turn, where it goes
  next_leaves : (slack : ℕ) → IfGoes (LeavesLines inputs) (next_turn slack b)
  next_leaves slack = by_turn (turn_in b.sources)
    where
      by_input : (turn : ℕ × Source) (o : Option Input) → slice_get b.inputs turn.0 ≡ o → IfGoes (LeavesLines inputs) (turn_at slack b (Some turn))
      by_input turn None is = subst (IfGoes (LeavesLines inputs)) (sym (none_there slack b turn is)) tt
      by_input turn (Some input) is = subst (IfGoes (LeavesLines inputs)) (sym (turn_there slack b turn input is)) (input_leaves slack turn input.left input.whole is)

      by_turn : (turn : Option (ℕ × Source)) → IfGoes (LeavesLines inputs) (turn_at slack b turn)
      by_turn None = tt
      by_turn (Some turn) = by_input turn (slice_get b.inputs turn.0) refl

-- before the first turn all lines are left
all_left : (inputs : List Input) → LeavesLines inputs (before_turns inputs)
all_left inputs = record { left = λ number. plain (slice_get inputs number); there = λ number input at. omega arith }
  where
    plain : (o : Option Input) → o ≡ option_map (without_lines 0) o
    plain None = refl
    plain (Some input) = refl

leave_lines_from : (slack many : ℕ) (inputs : List Input) (b c : Between) → LeavesLines inputs b → GoesThrough slack many b c → LeavesLines inputs c
leave_lines_from slack zero inputs b c leaves goes = subst (LeavesLines inputs) (sym goes) leaves
leave_lines_from slack (suc many) inputs b c leaves goes = leave_lines_from slack many inputs goes.0 c (subst (IfGoes (LeavesLines inputs)) goes.1 (next_leaves inputs b leaves slack)) goes.2

-- turns leave the lines behind those that were given, by induction on them
pub turns_leave_lines : (slack many : ℕ) (inputs : List Input) (b : Between) → GoesThrough slack many (before_turns inputs) b → LeavesLines inputs b
turns_leave_lines slack many inputs b goes = leave_lines_from slack many inputs (before_turns inputs) b (all_left inputs) goes

-- a turn that doesn't go changes nothing
stays_behind : (b : Between) (turn : Turn) → (DoesGo turn → ⊥) → after_turn b turn ≡ b
stays_behind b (Goes next) stops = absurd (stops tt)
stays_behind b (Waits number) stops = refl
stays_behind b (Stops file line why) stops = refl
stays_behind b Over stops = refl

-- nor do those behind it, by induction on them
pub stays_there : (slack many : ℕ) (b : Between) → (DoesGo (next_turn slack b) → ⊥) → after_turns slack many b ≡ b
stays_there slack zero b stops = refl
stays_there slack (suc many) b stops = ap (after_turns slack many) (stays_behind b (next_turn slack b) stops) ∙ stays_there slack many b stops

-- turns end in one way, by induction on both counts
pub end_in_one_way : (slack many other : ℕ) (b : Between) → (DoesGo (next_turn slack (after_turns slack many b)) → ⊥) → (DoesGo (next_turn slack (after_turns slack other b)) → ⊥) → after_turns slack other b ≡ after_turns slack many b
end_in_one_way slack zero other b ends others = stays_there slack other b ends
end_in_one_way slack (suc many) zero b ends others = sym (stays_there slack (suc many) b others)
end_in_one_way slack (suc many) (suc other) b ends others = end_in_one_way slack many other (after_turn b (next_turn slack b)) ends others
