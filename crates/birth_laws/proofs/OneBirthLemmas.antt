-- Lines that all have one birth.
use Rattle.std.proofs.Common.{◌≡◌, ◌∙◌, sym, ap, refl, subst, ℕ, ◌==◌, ◌||◌, Bool, true, false, cond, List, [], ◌∷◌, map}
use Rattle.std.specs.Prelude.{Option}
use Rattle.std.specs.List.{All, filter, flat_map}
use Rattle.std.proofs.lemmas.List.Folds.{flat_map-map}
use Rattle.event_types.specs.Tuple.{TupleView}
use Rattle.semantics.specs.Births.{after, is_after, streams_after}
use Rattle.semantics.specs.Denotation.{Streams, denote}
use Rattle.semantics.specs.Expressions.{Ex}
use Rattle.semantics.specs.Programs.{with_stream}
use Rattle.semantics.proofs.ListLemmas.{filter-map}
use Rattle.semantics.proofs.ReportLemmas.{filter_all}
use Rattle.automaton.specs.Flow.{derived, given}
use Rattle.automaton.specs.Work.{completed, is_in}
use Rattle.automaton.specs.declared.line.Line.{Line}
use Rattle.epoch_laws.specs.Births.{AreSound}
use Rattle.epoch_laws.specs.BornLines.{BornLine}
use Rattle.epoch_laws.specs.InstanceFlow.{completed_after, derived_after}
use Rattle.epoch_laws.proofs.Completed.{completed_other}
use Rattle.epoch_laws.proofs.InstanceFlows.{born_lines}
use Rattle.splitter.specs.Laws.{IsApart, split_order}
use Rattle.splitter.specs.Splitting.{split_lines}
use Rattle.splitter.specs.Widths.{MeetWidths}
use Rattle.splitter.proofs.ApartLemmas.{own_in}
use Rattle.splitter.proofs.LawLemmas.{lines_mean_it}
use Rattle.birth_laws.specs.BornChains.{born_at, born_split}
use Rattle.birth_laws.proofs.LateLemmas.{IsLate, derived_late}
use Rattle.birth_laws.proofs.SoundLemmas.{derived_sound, with_sound}

module _ (birth : Option ℕ) (lines : List Line) where
  abbrev born : List BornLine
  born = map (born_at birth) lines

  -- what they give is what the lines give over the streams cut at the birth
  born_derived : (streams : Streams) → AreSound streams → (stream : ℕ) → derived_after born streams stream ≡ derived lines (streams_after birth streams) stream
  born_derived streams sound stream =
      let give = λ (b : BornLine). given (streams_after b.birth streams) b.line in
      born_lines streams sound born stream
      ∙ ap (flat_map give) (filter-map (λ (b : BornLine). b.line.out == stream) (born_at birth) lines)
      ∙ flat_map-map give (born_at birth) (filter (λ line. line.out == stream) lines)

  -- so it is detected after the birth
  born_late : (streams : Streams) → AreSound streams → (stream : ℕ) → All (IsLate birth) (derived_after born streams stream)
  born_late streams sound stream = subst (λ tuples. All (IsLate birth) tuples) (sym (born_derived streams sound stream)) (derived_late birth streams lines stream)

  born_sound : (streams : Streams) → AreSound streams → (stream : ℕ) → AreSound (with_stream streams stream (derived_after born streams stream))
  born_sound streams sound stream = with_sound streams sound stream (derived_after born streams stream) (derived_sound born streams sound stream)

  -- a cut at the birth leaves a stream that is late
  after_with : (streams : Streams) (number : ℕ) (tuples : List TupleView) → All (IsLate birth) tuples → streams_after birth (with_stream streams number tuples) ≡ with_stream (streams_after birth streams) number tuples
  after_with streams number tuples late = λ i stream. go stream (stream == number) i
    where
      go : (stream : ℕ) (b : Bool) → after birth (cond b tuples (streams stream)) ≡ cond b tuples (after birth (streams stream))
      go stream true = filter_all (λ tuple. is_after birth tuple.at) tuples late
      go stream false = refl

  -- cut at the birth, the streams are those of the lines over the streams cut there: by induction on the order
  completed_cut : (order : List ℕ) (streams : Streams) → AreSound streams → streams_after birth (completed_after born order streams) ≡ completed lines order (streams_after birth streams)
  completed_cut [] streams sound = refl
  completed_cut (stream ∷ order) streams sound =
      let tuples = derived_after born streams stream in
      completed_cut order (with_stream streams stream tuples) (born_sound streams sound stream)
      ∙ ap (completed lines order) (after_with streams stream tuples (born_late streams sound stream))
      ∙ ap (λ given. completed lines order (with_stream (streams_after birth streams) stream given)) (born_derived streams sound stream)

  -- a stream that is late stays so
  late_stays : (order : List ℕ) (streams : Streams) → AreSound streams → (stream : ℕ) → All (IsLate birth) (streams stream) → All (IsLate birth) (completed_after born order streams stream)
  late_stays [] streams sound stream late = late
  late_stays (first ∷ order) streams sound stream late = late_stays order (with_stream streams first tuples) (born_sound streams sound first) stream (go (stream == first))
    where
      tuples : List TupleView
      tuples = derived_after born streams first

      go : (b : Bool) → All (IsLate birth) (cond b tuples (streams stream))
      go true = born_late streams sound first
      go false = late

  -- and each that is worked on is late
  late_made : (order : List ℕ) (streams : Streams) → AreSound streams → (stream : ℕ) → is_in order stream ≡ true → All (IsLate birth) (completed_after born order streams stream)
  late_made [] streams sound stream there = absurd (let no : false ≡ true = there in cc)
  late_made (first ∷ order) streams sound stream there =
      go (late_made order (with_stream streams first (derived_after born streams first)) (born_sound streams sound first) stream) (stream == first) refl there
    where
      tuples : List TupleView
      tuples = derived_after born streams first

      go : (is_in order stream ≡ true → All (IsLate birth) (completed_after born (first ∷ order) streams stream)) → (b : Bool) → (stream == first) ≡ b → (b || is_in order stream) ≡ true
          → All (IsLate birth) (completed_after born (first ∷ order) streams stream)
      go later true same e =
          late_stays order (with_stream streams first tuples) (born_sound streams sound first) stream (subst (λ (c : Bool). All (IsLate birth) (cond c tuples (streams stream))) (sym same) (born_late streams sound first))
      go later false other e = later e

  -- so each that is worked on is what the lines make of the streams cut at the birth
  pub made_cut : (order : List ℕ) (streams : Streams) → AreSound streams → (stream : ℕ) → is_in order stream ≡ true
      → completed_after born order streams stream ≡ completed lines order (streams_after birth streams) stream
  made_cut order streams sound stream there =
      sym (filter_all (λ tuple. is_after birth tuple.at) (completed_after born order streams stream) (late_made order streams sound stream there))
      ∙ ap (λ (all : Streams). all stream) (completed_cut order streams sound)

-- the lines of an expression with one birth mean it over the streams cut there
pub born_means : (birth : Option ℕ) (e : Ex) (out next : ℕ) (streams : Streams) → AreSound streams → IsApart e out next → MeetWidths e (streams_after birth streams)
    → (completed_after (born_split birth e out next) (split_order e out next) streams out ≡ denote e (streams_after birth streams))
    × ((stream : ℕ) → is_in (split_order e out next) stream ≡ false → completed_after (born_split birth e out next) (split_order e out next) streams stream ≡ streams stream)
born_means birth e out next streams sound apart meet = (
  made_cut birth (split_lines e out next) (split_order e out next) streams sound out (own_in e out next) ∙ (lines_mean_it e out next (streams_after birth streams) apart meet).0,
  completed_other (born_split birth e out next) (split_order e out next) streams,
)
