-- Each derivation that is listed derives its tuple.
use Rattle.std.proofs.Common.{◌≡◌, ◌∙◌, sym, ap, refl, subst, ℕ, zero, suc, ◌+◌, ◌<◌, ◌==◌, ◌⊎◌, inl, inr, nat_lt, Bool, true, false, cond, length, List, [], ◌∷◌, ◌++◌, map, arith}
use Rattle.std.specs.Prelude.{⊤, Contains, Some, None, slice_get}
use Rattle.std.specs.List.{All}
use Rattle.std.proofs.lemmas.Bool.Decides.{nat_tests}
use Rattle.std.proofs.lemmas.List.Elements.{Contains-append_cases}
use Rattle.event_types.specs.declared.kind.Kind.{Kind}
use Rattle.event_types.specs.Tuple.{TupleView}
use Rattle.event_types.proofs.NumberLemmas.{is_below, same_number}
use Rattle.semantics.specs.Scalars.{Pr, Projection}
use Rattle.semantics.specs.Truth.{all_true}
use Rattle.semantics.specs.Nexts.{nexts}
use Rattle.semantics.specs.Runs.{goers, rebound}
use Rattle.semantics.specs.Denotation.{denote}
use Rattle.semantics.specs.Expressions.{Ex, Read, Filter, Select, Union, Next, Fold}
use Rattle.semantics.specs.Histories.{Event}
use Rattle.semantics.specs.Programs.{IsUnborn, Program, env}
use Rattle.semantics.specs.Reading.{ReadsOnly}
use Rattle.semantics.specs.TypedPrograms.{IsProgram}
use Rattle.derivations.specs.Derivation.{Derivation, Derivations, listed}
use Rattle.derivations.specs.Derivation as the
use Rattle.derivations.specs.DerivedTuples.{DerivedTuple, Run, as_read, begun_by, derived, derived_fold, derived_goers, derived_join, derived_matches, derived_nexts, derived_runs, derived_runs_within, derived_selected, going_on, tuples_in}
use Rattle.derivations.specs.DerivedPrograms.{derived_env, derived_heard}
use Rattle.derivations.specs.Derives.{Derives, IsPublished, Iterates}
use Rattle.derivations.specs.Derives as row
use Rattle.derivations.proofs.ListLemmas.{in_cases, in_filter, in_flat_map, in_map, none_in}
use Rattle.derivations.proofs.DistinctLemmas.{by_of}
use Rattle.derivations.proofs.NextLemmas.{goer_found, next_found}
use Rattle.derivations.proofs.ProgramLemmas.{IsThere, declared_derived, of_order, published_apart, published_derived, published_reads, tuples_env}
use Rattle.derivations.proofs.TupleLemmas.{tuple_of, tuples_derived}

-- an event that is listed stands at its place
pub record IsAtPlace (place : ℕ) (history : List Event) (stream : ℕ) (x : DerivedTuple) : Type 0 where
  pub index : ℕ
  pub by_is : x.by ≡ the.Event (place + index)
  pub heard : slice_get history index ≡ Some (record { stream = stream; tuple = x.tuple })

heard_at : (place : ℕ) (history : List Event) (stream : ℕ) (x : DerivedTuple) → Contains (derived_heard place history stream) x → IsAtPlace place history stream x
heard_at place [] stream x has = absurd (none_in x has)
heard_at place (event ∷ later) stream x has = go (event.stream == stream) refl has (heard_at (place + 1) later stream x)
  where
    rest : List DerivedTuple
    rest = derived_heard (place + 1) later stream

    first : DerivedTuple
    first = record { tuple = event.tuple; by = the.Event place }

    moved : IsAtPlace (place + 1) later stream x → IsAtPlace place (event ∷ later) stream x
    moved at = let sum : place + 1 + at.index ≡ place + suc at.index = omega arith in record { index = suc at.index; by_is = at.by_is ∙ ap the.Event sum; heard = at.heard }

    go : (b : Bool) → (event.stream == stream) ≡ b → Contains (cond b (first ∷ []) [] ++ rest) x → (Contains rest x → IsAtPlace (place + 1) later stream x) → IsAtPlace place (event ∷ later) stream x
    go true same found more = step (in_cases first rest x found)
      where
        step : (first ≡ x) ⊎ Contains rest x → IsAtPlace place (event ∷ later) stream x
        step (inl is) =
            let sum : place ≡ place + 0 = omega arith in
            record {
              index = 0;
              by_is = sym (ap by_of is) ∙ ap the.Event sum;
              heard = λ i. Some (record { stream = same_number event.stream stream same i; tuple = tuple_of (is i) });
            }
        step (inr one) = moved (more one)
    go false same found more = moved (more found)

module _ (kinds : ℕ → List Kind) (program : Program) (history : List Event) (typed : IsProgram kinds program) (unborn : All IsUnborn program.queries) where
  -- what an expression gives over the program's streams
  abbrev pub found_of : Ex → List DerivedTuple
  found_of e = derived program.declared e (derived_env program history)

  -- its tuples are denoted
  pub found_denoted : (e : Ex) → tuples_in (found_of e) ≡ denote e (env program history)
  found_denoted e =
      tuples_derived program.declared (derived_env program history) e
      ∙ ap (denote e) (λ i stream. tuples_env program history (of_order kinds program history typed IsUnborn unborn) stream i)

  -- the tuple with its derivation
  abbrev pub Has : Ex → DerivedTuple → Type 0
  Has e x = Derives program history e x.by x.tuple

  -- whatever expression lists this derivation for a tuple, it derives it
  abbrev SoundAt : Derivation → Type 0
  SoundAt by = (e : Ex) (x : DerivedTuple) → x.by ≡ by → ReadsOnly (IsThere program) e → Contains (found_of e) x → Has e x

  -- the same of each of some derivations
  abbrev AllSound : Derivations → Type 0
  AllSound the.None = ⊤
  AllSound (the.More by later) = SoundAt by × AllSound later

  -- the same of each part of a derivation
  abbrev PartsSound : Derivation → Type 0
  PartsSound (the.Event place) = ⊤
  PartsSound (the.Query by) = SoundAt by
  PartsSound (the.Left by) = SoundAt by
  PartsSound (the.Right by) = SoundAt by
  PartsSound (the.Next by next_by) = SoundAt by × SoundAt next_by
  PartsSound (the.Fold by all_by) = SoundAt by × AllSound all_by

  -- a declared stream
  read_declared : (stream : ℕ) (x : DerivedTuple) → stream < program.declared → Contains (found_of (Read stream)) x → Has (Read stream) x
  read_declared stream x lt has =
      let read = subst (λ (b : Bool). Contains (map (as_read b) (derived_env program history stream)) x) (is_below stream program.declared lt) has in
      let from = in_map (as_read true) (derived_env program history stream) x read in
      let there = subst (λ (found : List DerivedTuple). Contains found from.0) (declared_derived kinds program history typed stream lt) from.1 in
      let at = heard_at 1 history stream from.0 there in
      let sum : 1 + at.index ≡ at.index + 1 = omega arith in
      subst (Has (Read stream)) from.2
      (subst (λ (by : Derivation). Derives program history (Read stream) by from.0.tuple) (sym at.by_is)
      (row.event (record { declared = lt; index = at.index; counted = sum; heard = at.heard })))

  -- where the test for declared streams fails
  pub not_declared : (stream : ℕ) (e : Ex) → IsPublished program stream e → nat_lt stream program.declared ≡ false
  not_declared stream e is = go (nat_lt stream program.declared) refl
    where
      go : (b : Bool) → nat_lt stream program.declared ≡ b → nat_lt stream program.declared ≡ false
      go true same = absurd (published_apart kinds program history typed stream e is (below stream program.declared same))
        where
          below : (m n : ℕ) → nat_lt m n ≡ true → m < n
          below m n e = grind (arith, nat_tests)
      go false same = same

  -- a published stream
  read_published : (stream : ℕ) (e : Ex) (x : DerivedTuple) → IsPublished program stream e → PartsSound x.by → Contains (found_of (Read stream)) x → Has (Read stream) x
  read_published stream e x is parts has =
      let read = subst (λ (b : Bool). Contains (map (as_read b) (derived_env program history stream)) x) (not_declared stream e is) has in
      let from = in_map (as_read false) (derived_env program history stream) x read in
      let there = subst (λ (found : List DerivedTuple). Contains found from.0) (published_derived kinds program history typed stream e is) from.1 in
      let part : SoundAt from.0.by = subst (λ (y : DerivedTuple). PartsSound y.by) (sym from.2) parts in
      subst (Has (Read stream)) from.2 (row.query is (part e from.0 refl (published_reads kinds program history typed stream e is) there))

  -- the runs from a binding: by induction on how many events they may have
  runs_sound : (most : ℕ) (p q : List Pr) (m : Projection) (f : Ex) (b : TupleView) (run : Run) → ReadsOnly (IsThere program) f → Contains (derived_runs_within most p q m.parts (found_of f) b) run → AllSound (listed run.events)
      → Iterates program history p q m f b (listed run.events) run.tuple
  runs_sound zero p q m f b run reads has sound = absurd (none_in run has)
  runs_sound (suc most) p q m f b run reads has sound =
      let from = in_flat_map (branch_of most) (derived_goers p q (found_of f) b) run has in
      let goes = goer_found p q (found_of f) b from.0 from.1 in
      let goer = subst (λ (tuples : List TupleView). Contains (goers p q tuples b) from.0.tuple) (found_denoted f) goes.1 in
      step from.0 goes.0 goer (λ run has sound. runs_sound most p q m f (rebound m.parts b from.0.tuple) run reads has sound)
      (in_cases (one from.0) (map (begun_by from.0.by) (derived_runs_within most p q m.parts (found_of f) (rebound m.parts b from.0.tuple))) run from.2)
    where
      one : DerivedTuple → Run
      one x = record { tuple = rebound m.parts b x.tuple; events = x.by ∷ [] }

      branch_of : ℕ → DerivedTuple → List Run
      branch_of n x = one x ∷ map (begun_by x.by) (derived_runs_within n p q m.parts (found_of f) (rebound m.parts b x.tuple))

      step : (x : DerivedTuple) → Contains (found_of f) x → Contains (goers p q (denote f (env program history)) b) x.tuple
          → ((run : Run) → Contains (derived_runs_within most p q m.parts (found_of f) (rebound m.parts b x.tuple)) run → AllSound (listed run.events) → Iterates program history p q m f (rebound m.parts b x.tuple) (listed run.events) run.tuple)
          → (one x ≡ run) ⊎ Contains (map (begun_by x.by) (derived_runs_within most p q m.parts (found_of f) (rebound m.parts b x.tuple))) run → Iterates program history p q m f b (listed run.events) run.tuple
      step x found goer more (inl is) =
          let sounds : SoundAt x.by × ⊤ = subst (λ (r : Run). AllSound (listed r.events)) (sym is) sound in
          subst (λ (r : Run). Iterates program history p q m f b (listed r.events) r.tuple) is (row.last (sounds.0 f x refl reads found) goer refl)
      step x found goer more (inr later) =
          let from = in_map (begun_by x.by) (derived_runs_within most p q m.parts (found_of f) (rebound m.parts b x.tuple)) run later in
          let sounds : SoundAt x.by × AllSound (listed from.0.events) = subst (λ (r : Run). AllSound (listed r.events)) (sym from.2) sound in
          subst (λ (r : Run). Iterates program history p q m f b (listed r.events) r.tuple) from.2 (row.more (sounds.0 f x refl reads found) goer (more from.0 from.1 sounds.1))

  -- a derivation whose parts are sound is sound: by induction on the expression
  sound_by_parts : (e : Ex) (x : DerivedTuple) → PartsSound x.by → ReadsOnly (IsThere program) e → Contains (found_of e) x → Has e x
  sound_by_parts (Read stream) x parts reads has = go reads
    where
      go : IsThere program stream → Has (Read stream) x
      go (inl lt) = read_declared stream x lt has
      go (inr is) = read_published stream is.0 x is.1 parts has
  sound_by_parts (Filter p e) x parts reads has =
      let passed = in_filter (λ y. all_true p y.tuple None) (found_of e) x has in row.filter (sound_by_parts e x parts reads passed.0) passed.1
  sound_by_parts (Select m e) x parts reads has =
      let from = in_map (derived_selected m.parts) (found_of e) x has in
      subst (Has (Select m e)) from.2 (row.select (sound_by_parts e from.0 (subst (λ (y : DerivedTuple). PartsSound y.by) (sym from.2) parts) reads from.1) refl)
  sound_by_parts (Union e f) x parts reads has = go (Contains-append_cases (map (going_on the.Left) (found_of e)) (map (going_on the.Right) (found_of f)) x has)
    where
      go : Contains (map (going_on the.Left) (found_of e)) x ⊎ Contains (map (going_on the.Right) (found_of f)) x → Has (Union e f) x
      go (inl one) =
          let from = in_map (going_on the.Left) (found_of e) x one in
          let part : SoundAt from.0.by = subst (λ (y : DerivedTuple). PartsSound y.by) (sym from.2) parts in
          subst (Has (Union e f)) from.2 (row.left (part e from.0 refl reads.0 from.1))
      go (inr two) =
          let from = in_map (going_on the.Right) (found_of f) x two in
          let part : SoundAt from.0.by = subst (λ (y : DerivedTuple). PartsSound y.by) (sym from.2) parts in
          subst (Has (Union e f)) from.2 (row.right (part f from.0 refl reads.1 from.1))
  sound_by_parts (Next p e f) x parts reads has =
      let left = in_flat_map (derived_matches p (found_of f)) (found_of e) x has in
      let right = in_map (derived_join left.0) (derived_nexts p left.0.tuple (found_of f)) x left.2 in
      let found = next_found p left.0.tuple (found_of f) right.0 right.1 in
      let both : SoundAt left.0.by × SoundAt right.0.by = subst (λ (y : DerivedTuple). PartsSound y.by) (sym right.2) parts in
      subst (Has (Next p e f)) right.2
      (row.next (both.0 e left.0 refl reads.0 left.1) (both.1 f right.0 refl reads.1 found.0) (subst (λ (tuples : List TupleView). Contains (nexts p left.0.tuple tuples) right.0.tuple) (found_denoted f) found.1) refl)
  sound_by_parts (Fold p q m e f) x parts reads has =
      let first = in_flat_map (derived_runs p q m.parts (found_of f)) (found_of e) x has in
      let run = in_map (derived_fold first.0.by) (derived_runs_within (length (found_of f)) p q m.parts (found_of f) first.0.tuple) x first.2 in
      let both : SoundAt first.0.by × AllSound (listed run.0.events) = subst (λ (y : DerivedTuple). PartsSound y.by) (sym run.2) parts in
      subst (Has (Fold p q m e f)) run.2
      (row.fold (both.0 e first.0 refl reads.0 first.1) (runs_sound (length (found_of f)) p q m f first.0.tuple run.0 reads.1 run.1 both.1))

  -- so is one whose derivation has such parts
  sound_of_parts : (by : Derivation) → PartsSound by → SoundAt by
  sound_of_parts by parts e x same reads has = sound_by_parts e x (subst PartsSound (sym same) parts) reads has

  mutual
    -- each derivation is sound: by induction on it
    sound : (by : Derivation) → SoundAt by
    sound (the.Event place) = sound_of_parts (the.Event place) tt
    sound (the.Query by) = sound_of_parts (the.Query by) (sound by)
    sound (the.Left by) = sound_of_parts (the.Left by) (sound by)
    sound (the.Right by) = sound_of_parts (the.Right by) (sound by)
    sound (the.Next by next_by) = sound_of_parts (the.Next by next_by) (sound by, sound next_by)
    sound (the.Fold by all_by) = sound_of_parts (the.Fold by all_by) (sound by, all_sound all_by)

    all_sound : (all_by : Derivations) → AllSound all_by
    all_sound the.None = tt
    all_sound (the.More by later) = (sound by, all_sound later)

  -- so each tuple that is listed is derived so
  pub listed_are_derived : (e : Ex) → ReadsOnly (IsThere program) e → (x : DerivedTuple) → Contains (found_of e) x → Has e x
  listed_are_derived e reads x has = sound x.by e x refl reads has
