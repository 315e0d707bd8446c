-- Two sets that are reached from accepted texts and differ in the numbers of their streams alone.
use Rattle.std.proofs.Common.{◌≡◌, ◌∙◌, ℕ, ◌<◌, List, [], ◌++◌, true, false, get_or, length, refl, sym, ap, subst, inl, inr}
use Rattle.std.specs.Prelude.{Option, Some, None, Result, option_map, slice_get}
use Rattle.std.proofs.lemmas.Bool.{cases_Bool, cases_lt}
use Rattle.std.proofs.lemmas.List.Elements.{All-contains}
use Rattle.std.proofs.lemmas.Option.{slice_get-get_or, slice_get-map}
use Rattle.semantics.specs.Histories.{Event, heard_on}
use Rattle.stream_schema.specs.Schema.{kinds_of}
use Rattle.stream_schema.specs.Streams.{Entry, IsRetired, number_of, retired_name, stream_names}
use Rattle.stream_schema.specs.Table.{IsOwn}
use Rattle.event_csv.specs.declared.event.Seen.{Seen}
use Rattle.event_csv.specs.declared.fault.LineFault.{LineFault}
use Rattle.event_csv.specs.Event.{declared_stream}
use Rattle.courses.specs.QuerySet.{QuerySet}
use Rattle.independence.specs.Enlarging.{AreReadAlike}
use Rattle.independence.specs.Hearing.{AreTheSameEvents, HaveOneName}
use Rattle.independence.specs.Renumbered.{AreOneQuery, DifferInNumbersAlone, HasAll}
use Rattle.independence.proofs.AcceptedLemmas.{entry_of}
use Rattle.independence.proofs.AlongLemmas.{ReadAlike, read-front}
use Rattle.independence.proofs.BothLemmas.{AreBothInside, AreNamesakes}
use Rattle.independence.proofs.EnlargingLemmas.{heard-same, image-of}
use Rattle.independence.proofs.EventLemmas.{AreFoundAlike, both, found-declared, found-other, lines-alike, neither}
use Rattle.independence.proofs.InsideLemmas.{IsInside, Tables}
use Rattle.independence.proofs.PublishedLemmas.{contains-at}
use Rattle.independence.proofs.ReachedLemmas.{Holds, IsTold}
use Rattle.independence.proofs.RenamedLemmas.{own-number}
use Rattle.independence.proofs.TableLemmas.{get-append, get-back, get-front, number-found}
use Rattle.independence.proofs.TwinLemmas.{HasSame}
use Rattle.independence.proofs.ZipLemmas.{zip-first, zip-weaker}

-- the tables of a set
abbrev pub tables_of : (set : QuerySet) → Holds set → Tables
tables_of set holds = record { declared = holds.declared; streams = set.streams }

-- the name of a stream at its place
name-at : (streams : List Entry) (n : ℕ) (e : Entry) → slice_get streams n ≡ Some e → slice_get (stream_names streams) n ≡ Some e.name
name-at streams n e at = slice_get-map (λ (z : Entry). z.name) streams n ∙ ap (option_map (λ (z : Entry). z.name)) at

-- a stream with a name of its own isn't retired
not-retired : (streams : List Entry) (n : ℕ) (e : Entry) → slice_get streams n ≡ Some e → IsOwn e.name → IsRetired streams n → ⊥
not-retired streams n e at own retired =
    let both : Some e.name ≡ Some (retired_name n) = sym (name-at streams n e at) ∙ retired in
    let same : e.name ≡ retired_name n = cc in
    own n same

module _ (set : QuerySet) (holds : Holds set) where
  -- a stream that is declared is one of the first
  declared-first : (n : ℕ) (e : Entry) → slice_get set.streams n ≡ Some e → e.declared ≡ true → (n < length holds.declared) × IsTold e
  declared-first n e at is =
      let begins = holds.kept.begins in
      let parted : slice_get (holds.declared ++ begins.more) n ≡ Some e = ap (λ es. slice_get es n) (sym begins.parts) ∙ at in
      elim (cases_lt n (length holds.declared)) [
        | inl less ↦ (less, All-contains IsTold holds.declared e holds.told (contains-at holds.declared n e (get-front holds.declared begins.more n e parted less)))
        | inr behind ↦ let isnt : e.declared ≡ false = All-contains (λ (z : Entry). z.declared ≡ false) begins.more e begins.undeclared (get-back holds.declared begins.more n e parted behind) in absurd cc
      ]

  -- the declared stream of a number
  pub record IsDeclared (n : ℕ) : Type 0 where
    pub entry : Entry
    pub there : slice_get set.streams n ≡ Some entry
    pub told : IsTold entry

  declared-there : (n : ℕ) → n < length holds.declared → IsDeclared n
  declared-there n less =
      let e : Entry = get_or holds.declared n (entry_of [] []) in
      let at : slice_get holds.declared n ≡ Some e = slice_get-get_or holds.declared n (entry_of [] []) less in
      record {
        entry = e;
        there = ap (λ es. slice_get es n) holds.kept.begins.parts ∙ get-append holds.declared holds.kept.begins.more n e at;
        told = All-contains IsTold holds.declared e holds.told (contains-at holds.declared n e at);
      }

  -- no other stream has its name
  alone : (n : ℕ) (e : Entry) → slice_get set.streams n ≡ Some e → IsOwn e.name → (k : ℕ) → slice_get (stream_names set.streams) k ≡ Some e.name → k ≡ n
  alone n e at own k named =
      let (f, there, same) = image-of (λ (z : Entry). z.name) (slice_get set.streams k) e.name (sym (slice_get-map (λ (z : Entry). z.name) set.streams k) ∙ named) in
      holds.kept.apart k n f e there at same (subst IsOwn (sym same) own)

module _ (set other : QuerySet) (holds : Holds set) (holds_too : Holds other) (number : ℕ → ℕ) (has : HasAll number set other) where
  -- a stream with a name of its own has its number
  moved : (n : ℕ) (e : Entry) → slice_get set.streams n ≡ Some e → IsOwn e.name → slice_get other.streams (number n) ≡ Some e
  moved n e at own = has.streams_are n e at (not-retired set.streams n e at own)

  -- so the one set is within the other
  pub inside-moved : IsInside (tables_of set holds) (tables_of other holds_too) number set other
  inside-moved = record {
    number = number;
    kept = holds.kept;
    kept_too = holds_too.kept;
    within = record {
      alike = λ n e at own. record { entry = e; there = moved n e at own; name_is = refl; schema_is = refl };
      low = λ n less. (
          let is = declared-there set holds n (subst (λ count. n < count) holds.kept.many less) in
          (subst (λ count. number n < count) (sym holds_too.kept.many) (declared-first other holds_too (number n) is.entry (moved n is.entry is.there is.told.own) is.told.declared).0, refl));
      twins =
          zip-first (AreOneQuery number) (HasSame number other.program) set.program.queries other.program.queries
          (λ q r stands one. record { twin = r; stands = stands; named = sym one.names_are; stream = one.streams_are; expr = sym one.expressions_are; birth = sym one.births_are }) has.queries_are;
    };
  }

  -- on a declared stream the same was heard in both
  pub heard-moved : (history others : List Event) → AreTheSameEvents set.streams other.streams history others → (n : ℕ) → n < length holds.declared → heard_on history n ≡ heard_on others (number n)
  heard-moved history others same n less =
      let is = declared-there set holds n less in
      let there = moved n is.entry is.there is.told.own in
      heard-same set.streams other.streams is.entry.name n (number n) (alone set holds n is.entry is.there is.told.own) (alone other holds_too (number n) is.entry there is.told.own)
      (own-number set.streams holds.kept.apart n is.entry is.there is.told.own) (own-number other.streams holds_too.kept.apart (number n) is.entry there is.told.own) history others same

  -- a declared stream is found in the other
  found-moved : (name : List ℕ) (n : ℕ) (e : Entry) → slice_get set.streams n ≡ Some e → e.name ≡ name → IsTold e → declared_stream other.streams (number_of name other.streams) ≡ Some (number n, kinds_of e.schema)
  found-moved name n e at named told =
      ap (declared_stream other.streams) (ap (λ x. number_of x other.streams) (sym named) ∙ own-number other.streams holds_too.kept.apart (number n) e (moved n e at told.own) told.own)
      ∙ found-declared other.streams (number n) e (moved n e at told.own) told.declared

module _ (set other : QuerySet) (holds : Holds set) (holds_too : Holds other) (number : ℕ → ℕ) (has : HasAll number set other) (name : List ℕ) where
  -- where no declared stream of the other has a name, none has it here
  none-moved : declared_stream other.streams (number_of name other.streams) ≡ None → (found : Option ℕ) → number_of name set.streams ≡ found → declared_stream set.streams (number_of name set.streams) ≡ None
  none-moved none None is = ap (declared_stream set.streams) is
  none-moved none (Some n) is =
      let (e, at, named) = number-found name set.streams n is in
      elim (cases_Bool e.declared) [
        | inl declared ↦ let some = found-moved set other holds holds_too number has name n e at named (declared-first set holds n e at declared).1 in absurd cc
        | inr undeclared ↦ ap (declared_stream set.streams) is ∙ found-other set.streams n e at undeclared
      ]

module _ (set other : QuerySet) (holds : Holds set) (holds_too : Holds other) (differ : DifferInNumbersAlone set other) where
  -- each name is that of one declared stream in both, or of none in either
  found-alike : (name : List ℕ) (found : Option ℕ) → number_of name set.streams ≡ found → AreFoundAlike set.streams other.streams (declared_stream set.streams (number_of name set.streams)) (declared_stream other.streams (number_of name other.streams))
  found-alike name None is =
      let first : declared_stream set.streams (number_of name set.streams) ≡ None = ap (declared_stream set.streams) is in
      let second : declared_stream other.streams (number_of name other.streams) ≡ None = none-moved other set holds_too holds differ.number_back differ.back name first (number_of name other.streams) refl in
      rw (first, second) neither
  found-alike name (Some n) is =
      let (e, at, named) = number-found name set.streams n is in
      elim (cases_Bool e.declared) [
        | inl declared ↦
            let told = (declared-first set holds n e at declared).1 in
            let first : declared_stream set.streams (number_of name set.streams) ≡ Some (n, kinds_of e.schema) = ap (declared_stream set.streams) is ∙ found-declared set.streams n e at declared in
            let second : declared_stream other.streams (number_of name other.streams) ≡ Some (differ.number n, kinds_of e.schema) = found-moved set other holds holds_too differ.number differ.there name n e at named told in
            let one : HaveOneName set.streams other.streams n (differ.number n) = record {
              name = e.name;
              first = name-at set.streams n e at;
              second = name-at other.streams (differ.number n) e (moved set other holds holds_too differ.number differ.there n e at told.own);
            } in
            rw (first, second) (both one)
        | inr undeclared ↦
            let first : declared_stream set.streams (number_of name set.streams) ≡ None = ap (declared_stream set.streams) is ∙ found-other set.streams n e at undeclared in
            let second : declared_stream other.streams (number_of name other.streams) ≡ None = none-moved other set holds_too holds differ.number_back differ.back name first (number_of name other.streams) refl in
            rw (first, second) neither
      ]

  -- so each event line is read alike
  pub read-moved : ReadAlike (tables_of set holds) (tables_of other holds_too)
  read-moved bytes =
      subst (λ (p : Result Seen LineFault × Result Seen LineFault). AreReadAlike set.streams other.streams p.0 p.1)
      (λ i. (read-front holds.declared set.streams holds.kept.begins bytes i, read-front holds_too.declared other.streams holds_too.kept.begins bytes i))
      (lines-alike set.streams other.streams (λ name. found-alike name (number_of name set.streams) refl) bytes)

  -- and each set is within the other
  pub both-moved : AreBothInside (tables_of set holds) (tables_of other holds_too) differ.number differ.number_back set other
  both-moved = record {
    there = inside-moved set other holds holds_too differ.number differ.there;
    back = inside-moved other set holds_too holds differ.number_back differ.back;
    names = zip-weaker (AreOneQuery differ.number) AreNamesakes set.program.queries other.program.queries (λ q r stands stands_too one. one.names_are) differ.there.queries_are;
  }
