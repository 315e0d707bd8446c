-- Two sets of queries along the lines of one event text.
use Rattle.std.proofs.Common.{◌≡◌, ◌∙◌, ℕ, List, [], ◌∷◌, ◌++◌, ◌⊎◌, inl, inr, false, cond, refl, sym, ap, subst}
use Rattle.std.specs.Prelude.{Option, Some, None, Result, Ok, Err, is_some}
use Rattle.std.specs.List.{All, AllZip}
use Rattle.std.specs.Option.{option_or}
use Rattle.std.proofs.lemmas.List.Elements.{All-head, All-tail}
use Rattle.event_csv.specs.declared.event.Seen.{Seen}
use Rattle.event_csv.specs.declared.fault.LineFault.{LineFault}
use Rattle.event_csv.specs.Control.{is_control}
use Rattle.event_csv.specs.Event.{event}
use Rattle.event_csv.specs.Lines.{Line}
use Rattle.courses.specs.declared.refusal.Refusal.{Refusal}
use Rattle.courses.specs.ControlLines.{EntryFault, OfLine, entry_of, event_entry}
use Rattle.courses.specs.Course.{Course, CourseEntry, Moment, after, after_entry}
use Rattle.courses.specs.Heard.{after_line, disorder, entries_in, heard_from, refusal_at, refusal_of, refused_from}
use Rattle.courses.proofs.EventLinesLemmas.{event_line}
use Rattle.courses.proofs.HeardLemmas.{first_none}
use Rattle.independence.specs.Courses.{AreOneEntry}
use Rattle.independence.specs.Enlarging.{AreReadAlike}
use Rattle.independence.proofs.AlongLemmas.{IsAlong, IsStep, ReadAlike, TakeAlike, event-step, line-step, read-front}
use Rattle.independence.proofs.InsideLemmas.{Tables}

-- where neither of two lines is refused, the second isn't
second_none : (o p : Option Refusal) → option_or o p ≡ None → p ≡ None
second_none None p e = e
second_none (Some refusal) p e = cc

module _ (a b : Tables) (Along : Moment → Moment → Type 0) where
  -- the courses have the same entries, and the moments are along each other before each and in the end
  abbrev pub GoAlong : Moment → Moment → Course → Course → Type 0
  GoAlong m n [] [] = Along m n
  GoAlong m n (x ∷ course) (y ∷ other) = Along m n × AreOneEntry a.streams b.streams x y × GoAlong (after_entry m x) (after_entry n y) course other
  GoAlong m n course other = ⊥

  -- the same line is refused, and what is heard goes along
  pub record HearAlike (m n : Moment) (lines : List Line) : Type 0 where
    pub refused_is : refused_from m lines ≡ refused_from n lines
    pub heard_are : GoAlong m n (heard_from m lines) (heard_from n lines)

  -- what one line says at both moments, where it isn't refused, and what is behind it
  pub record StartAlike (number : ℕ) (m n : Moment) (found other : Result CourseEntry EntryFault) : Type 0 where
    pub refused_is : refusal_of number m found ≡ refusal_of number n other
    pub step : refusal_of number m found ≡ None → IsStep a b Along m n found other

  -- one line before others
  pub one-more : (line : Line) (lines : List Line) (m n : Moment) → Along m n → StartAlike line.number m n (entry_of m.set line.bytes) (entry_of n.set line.bytes)
      → ((p q : Moment) → Along p q → p ≡ after_line m line → q ≡ after_line n line → HearAlike p q lines) → HearAlike m n (line ∷ lines)
  one-more line lines m n along start rest = by-refusal (refusal_at m line) refl
    where
      by-refusal : (o : Option Refusal) → refusal_at m line ≡ o → HearAlike m n (line ∷ lines)
      by-refusal (Some refusal) e =
          let e_too : refusal_at n line ≡ Some refusal = sym start.refused_is ∙ e in
          record {
            refused_is = ap (λ o. option_or o (refused_from (after_line m line) lines)) e ∙ sym (ap (λ o. option_or o (refused_from (after_line n line) lines)) e_too);
            heard_are =
                subst (λ (p : Course × Course). GoAlong m n p.0 p.1)
                (λ i. (sym (ap (λ o. cond (is_some o) [] (entries_in (entry_of m.set line.bytes) ++ heard_from (after_line m line) lines)) e) i, sym (ap (λ o. cond (is_some o) [] (entries_in (entry_of n.set line.bytes) ++ heard_from (after_line n line) lines)) e_too) i)) along;
          }
      by-refusal None e =
          let e_too : refusal_at n line ≡ None = sym start.refused_is ∙ e in
          let step = start.step e in
          let then : after_entry m step.entry ≡ after_line m line = ap (λ found. after m (entries_in found)) (sym step.is) in
          let then_too : after_entry n step.twin ≡ after_line n line = ap (λ found. after n (entries_in found)) (sym step.is_too) in
          let behind = rest (after_entry m step.entry) (after_entry n step.twin) step.along then then_too in
          record {
            refused_is =
                ap (λ o. option_or o (refused_from (after_line m line) lines)) e ∙ ap (λ p. refused_from p lines) (sym then) ∙ behind.refused_is
                ∙ ap (λ p. refused_from p lines) then_too ∙ sym (ap (λ o. option_or o (refused_from (after_line n line) lines)) e_too);
            heard_are =
                subst (λ (p : Course × Course). GoAlong m n p.0 p.1)
                (λ i. (sym (heard-step m line lines step.entry e step.is) i, sym (heard-step n line lines step.twin e_too step.is_too) i)) (along, step.one, behind.heard_are);
          }
        where
          heard-step : (m : Moment) (line : Line) (lines : List Line) (entry : CourseEntry) → refusal_at m line ≡ None → entry_of m.set line.bytes ≡ Ok entry → heard_from m (line ∷ lines) ≡ entry ∷ heard_from (after_entry m entry) lines
          heard-step m line lines entry none is =
              ap (λ o. cond (is_some o) [] (entries_in (entry_of m.set line.bytes) ++ heard_from (after_line m line) lines)) none
              ∙ ap (λ found. entries_in found ++ heard_from (after m (entries_in found)) lines) is

  -- courses that go along have the same entries
  pub along-entries : (m n : Moment) (course other : Course) → GoAlong m n course other → AllZip (AreOneEntry a.streams b.streams) course other
  along-entries m n [] [] along = tt
  along-entries m n [] (y ∷ other) along = absurd along
  along-entries m n (x ∷ course) [] along = absurd along
  along-entries m n (x ∷ course) (y ∷ other) along = (along.1, along-entries (after_entry m x) (after_entry n y) course other along.2)

  -- so have their fronts that are as long
  pub along-front : (m n : Moment) (course other rest others_rest : Course) → AllZip (AreOneEntry a.streams b.streams) course other → GoAlong m n (course ++ rest) (other ++ others_rest) → GoAlong m n course other
  along-front m n [] [] [] [] same along = along
  along-front m n [] [] [] (y ∷ others_rest) same along = absurd along
  along-front m n [] [] (x ∷ rest) [] same along = absurd along
  along-front m n [] [] (x ∷ rest) (y ∷ others_rest) same along = along.0
  along-front m n [] (y ∷ other) rest others_rest same along = absurd same
  along-front m n (x ∷ course) [] rest others_rest same along = absurd same
  along-front m n (x ∷ course) (y ∷ other) rest others_rest same along = (along.0, along.1, along-front (after_entry m x) (after_entry n y) course other rest others_rest same.1 along.2)

  -- in the end the moments are along each other
  pub along-end : (m n : Moment) (course other : Course) → GoAlong m n course other → Along (after m course) (after n other)
  along-end m n [] [] along = along
  along-end m n [] (y ∷ other) along = absurd along
  along-end m n (x ∷ course) [] along = absurd along
  along-end m n (x ∷ course) (y ∷ other) along = along-end (after_entry m x) (after_entry n y) course other along.2

  -- courses that go along, one behind the other
  pub along-append : (m n : Moment) (course other rest others_rest : Course) → GoAlong m n course other → GoAlong (after m course) (after n other) rest others_rest → GoAlong m n (course ++ rest) (other ++ others_rest)
  along-append m n [] [] rest others_rest along behind = behind
  along-append m n [] (y ∷ other) rest others_rest along behind = absurd along
  along-append m n (x ∷ course) [] rest others_rest along behind = absurd along
  along-append m n (x ∷ course) (y ∷ other) rest others_rest along behind = (along.0, along.1, along-append (after_entry m x) (after_entry n y) course other rest others_rest along.2 behind)

module _ (a b : Tables) (first : ℕ → ℕ) where
  -- no line is a control line, and event lines are read alike; or none is refused, and what is taken is taken alike
  abbrev pub AreFit : Moment → Moment → List Line → Type 0
  AreFit m n lines = (ReadAlike a b × All (λ line. is_control line.bytes ≡ false) lines) ⊎ (TakeAlike a b × (refused_from m lines ≡ None) × (refused_from n lines ≡ None))

  -- an event line is refused alike
  event-alike : (number : ℕ) (m n : Moment) (along : IsAlong a b first m n) (found other : Result Seen LineFault) → AreReadAlike a.streams b.streams found other → StartAlike a b (IsAlong a b first) number m n (event_entry found) (event_entry other)
  event-alike number m n along (Ok seen) (Ok other) same = record {
    refused_is = λ i. disorder number (along.is_open i) (along.seen i) (same.1 i).at;
    step = event-step a b first m n along number (Ok seen) (Ok other) same;
  }
  event-alike number m n along (Ok seen) (Err why) same = absurd same
  event-alike number m n along (Err why) (Ok other) same = absurd same
  event-alike number m n along (Err why) (Err other) same = record {
    refused_is = ap (λ f. refusal_of number m (Err (OfLine f))) same;
    step = event-step a b first m n along number (Err why) (Err other) same;
  }

  -- so is a line that is no control line
  plain-alike : ReadAlike a b → (number : ℕ) (m n : Moment) (along : IsAlong a b first m n) (bytes : List ℕ) → is_control bytes ≡ false → StartAlike a b (IsAlong a b first) number m n (entry_of m.set bytes) (entry_of n.set bytes)
  plain-alike alike number m n along bytes plain =
      subst (λ (p : Result CourseEntry EntryFault × Result CourseEntry EntryFault). StartAlike a b (IsAlong a b first) number m n p.0 p.1)
      (λ i. (sym (event_line m.set bytes plain) i, sym (event_line n.set bytes plain) i))
      (event-alike number m n along (event m.set.streams bytes) (event n.set.streams bytes)
      (subst (λ (p : Result Seen LineFault × Result Seen LineFault). AreReadAlike a.streams b.streams p.0 p.1)
      (λ i. (sym (read-front a.declared m.set.streams along.inside.kept.begins bytes) i, sym (read-front b.declared n.set.streams along.inside.kept_too.begins bytes) i)) (alike bytes)))

  -- by induction on the lines
  pub hear-alike : (lines : List Line) (m n : Moment) → IsAlong a b first m n → AreFit m n lines → HearAlike a b (IsAlong a b first) m n lines
  hear-alike [] m n along fit = record { refused_is = refl; heard_are = along }
  hear-alike (line ∷ lines) m n along (inl (alike, plain)) =
      one-more a b (IsAlong a b first) line lines m n along (plain-alike alike line.number m n along line.bytes (All-head (λ (l : Line). is_control l.bytes ≡ false) line lines plain))
      (λ p q then is is_too. hear-alike lines p q then (inl (alike, All-tail (λ (l : Line). is_control l.bytes ≡ false) line lines plain)))
  hear-alike (line ∷ lines) m n along (inr (alike, none, none_too)) =
      let first_is = first_none (refusal_at m line) (refused_from (after_line m line) lines) none in
      let first_too = first_none (refusal_at n line) (refused_from (after_line n line) lines) none_too in
      one-more a b (IsAlong a b first) line lines m n along
      (record { refused_is = first_is ∙ sym first_too; step = λ e. line-step a b first m n along line.number alike line.bytes first_is first_too })
      (λ p q then is is_too. hear-alike lines p q then (inr (
        alike,
        ap (λ x. refused_from x lines) is ∙ second_none (refusal_at m line) (refused_from (after_line m line) lines) none,
        ap (λ x. refused_from x lines) is_too ∙ second_none (refusal_at n line) (refused_from (after_line n line) lines) none_too,
      )))
