-- Engines to which lines came stand for these lines too.
use Rattle.std.proofs.Common.{◌≡◌, ◌∙◌, ◌⊎◌, inl, inr, sym, ap, refl, subst, ℕ, ◌<◌, ◌==◌, Bool, true, false, not, ◌&&◌, cond, length, List, [], ◌∷◌, ◌++◌, map, append-nil, arith}
use Rattle.std.specs.Prelude.{Contains, Option, Some, None, IsSome, is_some, slice_get}
use Rattle.std.specs.List.{All, filter, flat_map, list_any}
use Rattle.std.proofs.lemmas.Grind.{flat_map-append}
use Rattle.std.proofs.lemmas.List.{get_or_append_left, length-append}
use Rattle.std.proofs.lemmas.List.Elements.{Contains-append_cases, filter-append, All-append, All-cons, All-contains, All-contains_itself, All-filter, All-map, All-nil, All-weaker}
use Rattle.std.proofs.lemmas.List.Sorted.{IsPermutation-refl}
use Rattle.event_types.specs.declared.kind.Kind.{Kind}
use Rattle.event_types.specs.Tuple.{IsSound}
use Rattle.instances.specs.Births.{began_after}
use Rattle.instances.specs.Bounds.{alive_instances}
use Rattle.instances.specs.declared.instance.Instance.{Instance}
use Rattle.semantics.specs.Births.{after}
use Rattle.semantics.specs.Denotation.{Streams}
use Rattle.semantics.specs.Histories.{Event, heard_on}
use Rattle.automaton.specs.LineKinds.{LineFits, RestGives}
use Rattle.automaton.specs.Networks.{IsAt}
use Rattle.automaton.specs.Prefixes.{Prefix, Root, After, path}
use Rattle.automaton.specs.States.{is_used, wait_at}
use Rattle.automaton.specs.Work.{IsInOrder, ReadsNone, is_in}
use Rattle.automaton.specs.declared.layout.Layout.{Layout}
use Rattle.automaton.specs.declared.line.Hop.{Hop}
use Rattle.automaton.specs.declared.line.Line.{Line}
use Rattle.automaton.specs.declared.step.Stage.{Stage}
use Rattle.automaton.specs.declared.wait.Wait.{Wait}
use Rattle.automaton.proofs.SlotLemmas.{at_kept, at_one}
use Rattle.prefix_merge.proofs.StartLemmas.{stay_keeps}
use Rattle.prefix_merge.proofs.ContainLemmas.{from_map, in_map}
use Rattle.semantics.proofs.ReportLemmas.{flat_map_same}
use Rattle.epoch_draft.proofs.Concats.{nothing_of}
use Rattle.epoch_laws.specs.Births.{AreSound, IsNoLater}
use Rattle.epoch_laws.specs.BornLines.{BornLine, IsReadAfter, lines_in}
use Rattle.epoch_laws.specs.Histories.{streams_over}
use Rattle.epoch_laws.specs.InstanceFlow.{derived_after, given_after, waiting_instances}
use Rattle.epoch_laws.specs.Standing.{next_time}
use Rattle.epoch_laws.specs.Stores.{IsWithin, Purged}
use Rattle.epoch_laws.proofs.Completed.{completed_other, streams_derived}
use Rattle.epoch_laws.proofs.Lists.{every, filter_false, map_all}
use Rattle.epoch_engine.specs.Adding.{Adds}
use Rattle.epoch_engine.specs.AddingLaws.{AddedStands, LayoutGrows, born_at}
use Rattle.epoch_engine.specs.EngineStandsFor.{EngineStandsFor}
use Rattle.epoch_engine.specs.EngineView.{EngineView, stores_in}
use Rattle.epoch_engine.proofs.AddingLawLemmas.{came}
use Rattle.epoch_engine.proofs.LineLemmas.{wait_stays, waiting_used}
use Rattle.epoch_engine.proofs.OverStandsLemmas.{over_stands, read_there, were}
use Rattle.epoch_engine.proofs.ReadLemmas.{some_reads}
use Rattle.epoch_engine.proofs.StreamLemmas.{Alike, alike_before, alike_extended, are_completed, given_alike, given_none, none_after, of_order, of_outs, other_stream, over_sound, reads_nothing, waiting_alike, waits_none}

-- the lines that came, without their birth
came_in : (had : List BornLine) (since : Option ℕ) (lines : List Line) → lines_in (had ++ map (born_at since) lines) ≡ lines_in had ++ lines
came_in [] since [] = refl
came_in [] since (l ∷ lines) = ap (λ (ls : List Line). l ∷ ls) (came_in [] since lines)
came_in (b ∷ had) since lines = ap (λ (ls : List Line). b.line ∷ ls) (came_in had since lines)

-- what holds of items and of more holds of the items
all_first : {X : Type 0} (P : X → Type 0) (xs ys : List X) → All P (xs ++ ys) → All P xs
all_first P xs ys all k d lt = let more = length-append xs ys in subst P (get_or_append_left xs ys d k lt) (all k d (omega (arith, lt, more)))

-- a birth is no later than itself
itself : (birth : Option ℕ) → IsNoLater birth birth
itself None = tt
itself (Some b) = omega arith

-- the streams that a line that fits waits on have kinds
known_hops : (kinds : List (List Kind)) (hops : List Hop) (last : List Stage) (from out : List Kind) → RestGives kinds hops last from out → All (λ (h : Hop). IsSome (slice_get kinds h.wait.stream)) hops
known_hops kinds [] last from out gives = All-nil (λ (h : Hop). IsSome (slice_get kinds h.wait.stream))
known_hops kinds (h ∷ hops) last from out gives = All-cons (λ (h : Hop). IsSome (slice_get kinds h.wait.stream)) h hops (ap is_some gives.1.3) (known_hops kinds hops last gives.0 out gives.2)

-- the streams are as they were, but for those that came into the order: nothing is published on these
module _ (had : List BornLine) (lines : List Line) (since : Option ℕ) (old new : Layout) (history : List Event) (ordered : IsInOrder (lines_in had) old.order)
    (grows : LayoutGrows (lines_in had) lines old new) (earlier : All (λ (e : Event). IsSound e.tuple × (e.tuple.at < next_time since)) history) where
  abbrev all : List BornLine
  all = had ++ map (born_at since) lines

  abbrev was : Streams
  was = streams_over had old.order history

  -- whether a stream came into the order
  abbrev is_new : ℕ → Bool
  is_new s = is_in new.order s && not (is_in old.order s)

  abbrev env : Streams
  env s = cond (is_new s) [] (was s)

  pub all_ordered : IsInOrder (lines_in all) new.order
  all_ordered = subst (λ (ls : List Line). IsInOrder ls new.order) (sym (came_in had since lines)) grows.fits_all.in_order

  -- a stream that has kinds didn't come
  known_stays : (s : ℕ) → is_some (slice_get old.kinds s) ≡ true → is_new s ≡ false
  known_stays s known = go (is_in new.order s) refl (is_in old.order s) refl
    where
      go : (a : Bool) → is_in new.order s ≡ a → (b : Bool) → is_in old.order s ≡ b → (a && not b) ≡ false
      go false out b there = refl
      go true is true there = refl
      go true is false lacks = absurd (let none : is_some (slice_get old.kinds s) ≡ false = ap is_some (grows.unknown s is lacks) in cc)

  same_known : (s : ℕ) → is_some (slice_get old.kinds s) ≡ true → env s ≡ was s
  same_known s known = ap (λ b. cond b [] (was s)) (known_stays s known)

  -- so a line that was there reads the same
  pub reads_same : (b : BornLine) → Contains had b → Alike env was (path b.line)
  reads_same b has =
      let fits = All-contains (LineFits old.kinds) (lines_in had) b.line grows.fits.typed (in_map (λ (b : BornLine). b.line) had b has) in
      alike_extended env was b.line.hops (Root b.line.root) (same_known b.line.root (ap is_some fits.1.1))
      (All-weaker (λ (h : Hop). IsSome (slice_get old.kinds h.wait.stream)) (λ (h : Hop). env h.wait.stream ≡ was h.wait.stream) (λ h known. same_known h.wait.stream known) b.line.hops
      (known_hops old.kinds b.line.hops b.line.last fits.1.0 fits.0 fits.1.2))

  -- nothing is detected after the birth of the lines that came
  sound_env : AreSound env
  sound_env s = go (is_new s)
    where
      go : (b : Bool) → All IsSound (cond b [] (was s))
      go true = All-nil IsSound
      go false = over_sound had old.order history since earlier s

  pub none_late : (s : ℕ) → after since (env s) ≡ []
  none_late s = go (is_new s)
    where
      go : (b : Bool) → after since (cond b [] (was s)) ≡ []
      go true = refl
      go false = none_after had old.order history since earlier s

  -- so they give nothing
  none_given : (s : ℕ) → flat_map (given_after env) (filter (λ (b : BornLine). b.line.out == s) (map (born_at since) lines)) ≡ []
  none_given s =
      let more = filter (λ (b : BornLine). b.line.out == s) (map (born_at since) lines) in
      flat_map_same (given_after env) (λ b. []) more
      (All-filter (λ (b : BornLine). b.line.out == s) (λ (b : BornLine). given_after env b ≡ []) (map (born_at since) lines)
      (All-map (λ (b : BornLine). given_after env b ≡ []) (born_at since) lines (every (λ (l : Line). given_after env (born_at since l) ≡ []) (λ l. given_none env sound_env since none_late (born_at since l) refl) lines)))
      ∙ nothing_of more

  derived_same : (s : ℕ) → derived_after all env s ≡ derived_after had was s
  derived_same s =
      ap (flat_map (given_after env)) (filter-append (λ (b : BornLine). b.line.out == s) had (map (born_at since) lines))
      ∙ flat_map-append (given_after env) (filter (λ (b : BornLine). b.line.out == s) had) (filter (λ (b : BornLine). b.line.out == s) (map (born_at since) lines))
      ∙ ap (λ ts. derived_after had env s ++ ts) (none_given s)
      ∙ append-nil (derived_after had env s)
      ∙ flat_map_same (given_after env) (given_after was) (filter (λ (b : BornLine). b.line.out == s) had)
      (All-filter (λ (b : BornLine). b.line.out == s) (λ (b : BornLine). given_after env b ≡ given_after was b) had
      (All-weaker (Contains had) (λ (b : BornLine). given_after env b ≡ given_after was b) (λ b has. given_alike env was b (reads_same b has)) had (All-contains_itself had)))

  -- a stream of the old order is in the new one
  in_both : (s : ℕ) → is_in old.order s ≡ true → is_in new.order s ≡ true
  in_both s is =
      of_outs (λ n. is_in new.order n ≡ true) (lines_in had) (all_first (λ (l : Line). is_in new.order l.out ≡ true) (lines_in had) lines grows.fits_all.all_outs) s
      (of_order (λ n. list_any (λ (l : Line). l.out == n) (lines_in had) ≡ true) old.order grows.fits.only_outs s is)

  -- a stream that came is published by no line that was there
  none_derived : (s : ℕ) → is_in old.order s ≡ false → derived_after had was s ≡ []
  none_derived s lacks =
      ap (flat_map (given_after was))
      (filter_false (λ (b : BornLine). b.line.out == s) had
      (All-weaker (λ (b : BornLine). is_in old.order b.line.out ≡ true) (λ (b : BornLine). (b.line.out == s) ≡ false)
      (λ b has. other_stream (λ n. is_in old.order n ≡ true) b.line.out s has (λ has'. let e : false ≡ true = sym lacks ∙ has' in cc)) had
      (map_all (λ (l : Line). is_in old.order l.out ≡ true) (λ (b : BornLine). b.line) had grows.fits.all_outs)))

  derived : (s : ℕ) → is_in new.order s ≡ true → (b : Bool) → is_in old.order s ≡ b → env s ≡ derived_after all env s
  derived s is true there =
      (λ i. cond (is i && not (there i)) [] (was s)) ∙ of_order (λ n. was n ≡ derived_after had was n) old.order (streams_derived had old.order (heard_on history) ordered) s there ∙ sym (derived_same s)
  derived s is false lacks = (λ i. cond (is i && not (lacks i)) [] (was s)) ∙ sym (derived_same s ∙ none_derived s lacks)

  heard : (s : ℕ) → is_in new.order s ≡ false → (b : Bool) → is_in old.order s ≡ b → env s ≡ heard_on history s
  heard s out true there = absurd (let e : false ≡ true = sym out ∙ in_both s there in cc)
  heard s out false lacks = ap (λ b. cond (b && not (is_in old.order s)) [] (was s)) out ∙ completed_other had old.order (heard_on history) s lacks

  pub are_new : env ≡ streams_over all new.order history
  are_new = λ i s.
      are_completed all [] (every (λ (b : BornLine). ReadsNone [] b.line) (λ b. reads_nothing b.line) all) new.order (heard_on history) env all_ordered
      (λ n e out. heard n out (is_in old.order n) refl) (λ n e is. derived n is (is_in old.order n) refl) s refl i

  -- nothing that waits at a state began after their birth
  pub none_waits : (p : Prefix) (h : Hop) → began_after since (waiting_instances (streams_over all new.order history) p h) ≡ []
  none_waits p h = ap (λ (e : Streams). began_after since (waiting_instances e p h)) (sym are_new) ∙ waits_none env sound_env since none_late p h

  -- and at a state of a line that was there the same waits
  pub same_waits : (p : Prefix) (h : Hop) (birth : Option ℕ) → IsReadAfter had (After p h) birth → waiting_instances was p h ≡ waiting_instances (streams_over all new.order history) p h
  same_waits p h birth read =
      sym (waiting_alike env was p h (alike_before env was read.1 (After p h) (subst (Alike env was) read.3 (reads_same read.0 read.2)))) ∙ ap (λ (e : Streams). waiting_instances e p h) are_new

module _ (lines : List Line) (ends : List ℕ) (layout : Layout) (old new : EngineView) (had : List BornLine) (history : List Event) (stands : EngineStandsFor old had history) (closed : old.time ≡ None)
    (long : length ends ≡ length lines) (adds : Adds lines ends old.closed_time layout old new) (grows : LayoutGrows (lines_in had) lines old.layout layout) where
  abbrev everything : List BornLine
  everything = had ++ map (born_at old.closed_time) lines

  abbrev before : All (λ (e : Event). IsSound e.tuple × (e.tuple.at < next_time old.closed_time)) history
  before = (were layout old new had history stands closed adds.goes_over).stores_stand.before

  abbrev is : Streams
  is = streams_over everything layout.order history

  there : (number : ℕ) (p : Prefix) → IsAt old.network number p → IsAt new.network number p
  there = at_kept old.network new.network (stay_keeps old.network new.network adds.inserted.stay)

  -- a state that was there stands for its prefix
  was_at : (number : ℕ) (p : Prefix) → IsAt new.network number p → is_used old.network number ≡ true → IsAt old.network number p
  was_at number p at used =
      let here = stands.serves.has_lines.1.are_places number used in
      subst (IsAt old.network number) (at_one new.network number (stands.serves.has_lines.1.places number) p (there number (stands.serves.has_lines.1.places number) here) at) here

  -- so does the state of a prefix that a line used
  read_at : (number : ℕ) (p : Prefix) → IsAt new.network number p → (birth : Option ℕ) → IsReadAfter had p birth → IsAt old.network number p
  read_at number p at birth used =
      let place = read_there old.network had stands.merged stands.serves.has_lines p birth used in
      subst (λ (n : ℕ). IsAt old.network n p) (adds.goes_over.merged.apart place.0 number p (there place.0 p place.1) at) place.1

  module _ (number : ℕ) (p : Prefix) (h : Hop) (at : IsAt new.network number (After p h)) where
    abbrev waits : List Instance
    waits = waiting_instances is p h

    abbrev kept : List Instance
    kept = stores_in new number

    -- where the state was there
    purged : IsAt old.network number (After p h) → Purged (next_time old.closed_time) (IsReadAfter had (After p h)) h.wait.choose waits kept
    purged here =
        subst (λ (store : List Instance). Purged (next_time old.closed_time) (IsReadAfter had (After p h)) h.wait.choose waits store) (sym (adds.stores number))
        (subst (λ (xs : List Instance). Purged (next_time old.closed_time) (IsReadAfter had (After p h)) h.wait.choose xs (stores_in old number))
        (let read = some_reads old.network had stands.merged stands.serves.has_lines number (After p h) here in same_waits had lines old.closed_time old.layout layout history stands.serves.in_order grows before p h read.0 read.1)
        ((were layout old new had history stands closed adds.goes_over).stores_stand.holds number p h here))

    -- nothing began after the birth of the lines that came
    none_began : IsWithin (alive_instances (next_time old.closed_time) h.wait.choose (began_after old.closed_time waits)) kept
    none_began =
        subst (λ (xs : List Instance). IsWithin (alive_instances (next_time old.closed_time) h.wait.choose xs) kept)
        (sym (none_waits had lines old.closed_time old.layout layout history stands.serves.in_order grows before p h))
        (kept, IsPermutation-refl kept)

    least : (birth : Option ℕ) → IsReadAfter everything (After p h) birth → IsWithin (alive_instances (next_time old.closed_time) h.wait.choose (began_after birth waits)) kept
    least birth read = by_line (Contains-append_cases had (map (born_at old.closed_time) lines) read.0 read.2)
      where
        by_line : (Contains had read.0) ⊎ (Contains (map (born_at old.closed_time) lines) read.0) → IsWithin (alive_instances (next_time old.closed_time) h.wait.choose (began_after birth waits)) kept
        by_line (inl had') = let used : IsReadAfter had (After p h) birth = (read.0, read.1, had', read.3, read.4) in (purged (read_at number (After p h) at birth used)).at_least birth used
        by_line (inr came') =
            let from = from_map (born_at old.closed_time) lines read.0 came' in
            let born : old.closed_time ≡ birth = ap (λ (b : BornLine). b.birth) from.2 ∙ read.4 in
            subst (λ (o : Option ℕ). IsWithin (alive_instances (next_time old.closed_time) h.wait.choose (began_after o waits)) kept) born none_began

    most : (o : Option Wait) → wait_at old.network number ≡ o → IsWithin kept waits
    most None none = subst (λ (xs : List Instance). IsWithin xs waits) (sym (adds.stores number ∙ stands.none_elsewhere number none)) (waits, IsPermutation-refl waits)
    most (Some wait) at_wait = (purged (was_at number (After p h) at (waiting_used old.network number wait at_wait))).at_most

    holds : Purged (next_time old.closed_time) (IsReadAfter everything (After p h)) h.wait.choose waits kept
    holds = record { at_least = least; at_most = most (wait_at old.network number) refl }

  none_elsewhere : (number : ℕ) → wait_at new.network number ≡ None → (o : Option Wait) → wait_at old.network number ≡ o → stores_in new number ≡ []
  none_elsewhere number none None was_none = adds.stores number ∙ stands.none_elsewhere number was_none
  none_elsewhere number none (Some wait) at_wait = absurd (let no : None ≡ Some wait = sym none ∙ wait_stays old.network new.network adds.inserted.stay number wait at_wait in cc)

  stands_added : EngineStandsFor new everything history
  stands_added =
      over_stands layout old new had history stands closed adds.goes_over everything
      (record { has_lines = came lines ends old.closed_time layout old new had long adds stands.serves.has_lines; in_order = all_ordered had lines old.closed_time old.layout layout history stands.serves.in_order grows before })
      (All-append (λ (b : BornLine). IsNoLater b.birth old.closed_time) had (map (born_at old.closed_time) lines) stands.births
      (All-map (λ (b : BornLine). IsNoLater b.birth old.closed_time) (born_at old.closed_time) lines (every (λ (l : Line). IsNoLater old.closed_time old.closed_time) (λ l. itself old.closed_time) lines)))
      (λ number none. none_elsewhere number none (wait_at old.network number) refl) holds

-- an engine to which lines came
pub added_stands : AddedStands
added_stands lines ends since layout old new had history stands closed born long adds grows =
    subst (λ (o : Option ℕ). Adds lines ends o layout old new → EngineStandsFor new (had ++ map (born_at o) lines) history) (sym born)
    (λ adds'. stands_added lines ends layout old new had history stands closed long adds' grows) adds
