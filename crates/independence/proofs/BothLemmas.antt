-- Two sets of queries of which each is within the other.
use Rattle.std.proofs.Common.{◌≡◌, ◌∙◌, ℕ, ◌==◌, ◌||◌, List, Bool, true, false, not, refl, sym, ap, subst}
use Rattle.std.specs.Prelude.{Option, None, Contains}
use Rattle.std.specs.List.{AllZip}
use Rattle.std.proofs.Math.Bool.{or-true}
use Rattle.std.proofs.lemmas.List.Elements.{All-contains}
use Rattle.event_types.proofs.NumberLemmas.{self_equal}
use Rattle.semantics.specs.Expressions.{Ex, Read, Filter, Select, Union, Next, Fold}
use Rattle.semantics.specs.Programs.{Query}
use Rattle.semantics.specs.Reading.{renumbered}
use Rattle.catalogue.specs.Adding.{AddedQuery}
use Rattle.catalogue.specs.Changes.{publishes_another}
use Rattle.catalogue.specs.Counting.{reads}
use Rattle.catalogue.specs.Statements.{name_of}
use Rattle.courses.specs.ControlLines.{first_reader}
use Rattle.courses.specs.QuerySet.{QuerySet, newcomer, with_added, without}
use Rattle.independence.proofs.EnlargingLemmas.{equal}
use Rattle.independence.proofs.InsideLemmas.{IsInside, Tables, inside-dropped, inside-stated}
use Rattle.independence.proofs.KeptLemmas.{one-named}
use Rattle.independence.proofs.TakenLemmas.{IsTaken}
use Rattle.independence.proofs.TwinLemmas.{HasSame}
use Rattle.independence.proofs.ZipLemmas.{FoundAlike, same-test, zip-back, zip-filter, zip-find, zip-push, zip-weaker}

-- one test or another
or-more : (p q r s : Bool) → (p ≡ true → r ≡ true) → (q ≡ true → s ≡ true) → (p || q) ≡ true → (r || s) ≡ true
or-more true q r s first second e = ap (λ b. b || s) (first refl)
or-more false true r s first second e = ap (λ b. r || b) (second refl) ∙ or-true r
or-more false false r s first second e = cc

-- what is read is read under its new number, by induction on the expression
reads-renumbered : (number : ℕ → ℕ) (stream : ℕ) (x : Ex) → reads stream x ≡ true → reads (number stream) (renumbered number x) ≡ true
reads-renumbered number stream (Read n) e = subst (λ k. (number n == number k) ≡ true) (equal n stream e) (self_equal (number n))
reads-renumbered number stream (Filter p x) e = reads-renumbered number stream x e
reads-renumbered number stream (Select m x) e = reads-renumbered number stream x e
reads-renumbered number stream (Union x y) e =
    or-more (reads stream x) (reads stream y) (reads (number stream) (renumbered number x)) (reads (number stream) (renumbered number y)) (reads-renumbered number stream x) (reads-renumbered number stream y) e
reads-renumbered number stream (Next p x y) e =
    or-more (reads stream x) (reads stream y) (reads (number stream) (renumbered number x)) (reads (number stream) (renumbered number y)) (reads-renumbered number stream x) (reads-renumbered number stream y) e
reads-renumbered number stream (Fold p q m x y) e =
    or-more (reads stream x) (reads stream y) (reads (number stream) (renumbered number x)) (reads (number stream) (renumbered number y)) (reads-renumbered number stream x) (reads-renumbered number stream y) e

-- two queries have one name
abbrev pub AreNamesakes : Query → Query → Type 0
AreNamesakes query other = query.name ≡ other.name

-- each of two sets is within the other, and their queries stand in the same order
pub record AreBothInside (a b : Tables) (first last : ℕ → ℕ) (set other : QuerySet) : Type 0 where
  pub there : IsInside a b first set other
  pub back : IsInside b a last other set
  pub names : AllZip AreNamesakes set.program.queries other.program.queries

-- the other way round
pub both-back : (a b : Tables) (first last : ℕ → ℕ) (set other : QuerySet) → AreBothInside a b first last set other → AreBothInside b a last first other set
both-back a b first last set other both = record {
  there = both.back;
  back = both.there;
  names =
      zip-weaker (λ r q. q.name ≡ r.name) AreNamesakes other.program.queries set.program.queries (λ r q has has_too same. sym same) (zip-back AreNamesakes set.program.queries other.program.queries both.names);
}

-- one query has the number and the expression of the other, up to the numbers
pub record AreTwins (number : ℕ → ℕ) (q r : Query) : Type 0 where
  pub stream : number q.stream ≡ r.stream
  pub expr : renumbered number q.expr ≡ r.expr

module _ (a b : Tables) (first last : ℕ → ℕ) (set other : QuerySet) (both : AreBothInside a b first last set other) where
  -- so do queries of one name
  pub twins : (q r : Query) → Contains set.program.queries q → Contains other.program.queries r → q.name ≡ r.name → AreTwins both.there.number q r
  twins q r has has_too same =
      let was = All-contains (HasSame both.there.number other.program) set.program.queries q both.there.within.twins has in
      let one : was.twin ≡ r = one-named b.declared other.streams other.program both.there.kept_too was.twin r was.stands has_too (was.named ∙ same) in
      record { stream = was.stream ∙ ap (λ (p : Query). p.stream) one; expr = sym was.expr ∙ ap (λ (p : Query). p.expr) one }

  -- what one reads the other reads
  reads-too : (q r s t : Query) → AreTwins both.there.number q r → AreTwins both.there.number s t → reads s.stream q.expr ≡ true → reads t.stream r.expr ≡ true
  reads-too q r s t readers are e = subst (λ (p : ℕ × Ex). reads p.0 p.1 ≡ true) (λ i. (are.stream i, readers.expr i)) (reads-renumbered both.there.number s.stream q.expr e)

  -- and what has the stream of one has that of the other
  stream-too : (q r s t : Query) → AreTwins both.there.number q r → AreTwins both.there.number s t → (q.stream == s.stream) ≡ true → (r.stream == t.stream) ≡ true
  stream-too q r s t first_are are e =
      subst (λ n. (r.stream == n) ≡ true) (sym first_are.stream ∙ ap both.there.number (equal q.stream s.stream e) ∙ are.stream) (self_equal r.stream)

module _ (a b : Tables) (first last : ℕ → ℕ) (set other : QuerySet) (both : AreBothInside a b first last set other) where
  back : AreBothInside b a last first other set
  back = both-back a b first last set other both

  module _ (s t : Query) (has : Contains set.program.queries s) (has_too : Contains other.program.queries t) (same : s.name ≡ t.name) where
    are : AreTwins both.there.number s t
    are = twins a b first last set other both s t has has_too same

    are_back : AreTwins back.there.number t s
    are_back = twins b a last first other set back t s has_too has (sym same)

    -- a query of either set reads the stream of its own
    reads-same : (q r : Query) → Contains set.program.queries q → Contains other.program.queries r → q.name ≡ r.name → reads s.stream q.expr ≡ reads t.stream r.expr
    reads-same q r there there_too named =
        same-test (reads s.stream q.expr) (reads t.stream r.expr) (reads-too a b first last set other both q r s t (twins a b first last set other both q r there there_too named) are)
        (reads-too b a last first other set back r q t s (twins b a last first other set back r q there_too there (sym named)) are_back)

    stream-same : (q r : Query) → Contains set.program.queries q → Contains other.program.queries r → q.name ≡ r.name → publishes_another s.stream q ≡ publishes_another t.stream r
    stream-same q r there there_too named =
        ap not
        (same-test (q.stream == s.stream) (r.stream == t.stream) (stream-too a b first last set other both q r s t (twins a b first last set other both q r there there_too named) are)
        (stream-too b a last first other set back r q t s (twins b a last first other set back r q there_too there (sym named)) are_back))

    -- their first readers have one name
    pub reader-same : FoundAlike AreNamesakes (first_reader set s.stream) (first_reader other t.stream)
    reader-same =
        zip-find AreNamesakes (λ (q : Query). reads s.stream q.expr) (λ (r : Query). reads t.stream r.expr) set.program.queries other.program.queries
        (zip-weaker AreNamesakes (λ q r. AreNamesakes q r × (reads s.stream q.expr ≡ reads t.stream r.expr)) set.program.queries other.program.queries (λ q r there there_too named. (named, reads-same q r there there_too named)) both.names)

    -- both leave
    pub both-dropped : first_reader set s.stream ≡ None → first_reader other t.stream ≡ None → AreBothInside a b first last (without set s) (without other t)
    both-dropped none none_too = record {
      there = inside-dropped a b first set other both.there s t has has_too same none none_too;
      back = inside-dropped b a last other set both.back t s has_too has (sym same) none_too none;
      names =
          zip-filter AreNamesakes (publishes_another s.stream) (publishes_another t.stream) set.program.queries other.program.queries
          (zip-weaker AreNamesakes (λ q r. AreNamesakes q r × (publishes_another s.stream q ≡ publishes_another t.stream r)) set.program.queries other.program.queries (λ q r there there_too named. (named, stream-same q r there there_too named)) both.names);
    }

  -- one statement comes to both
  pub both-stated : (text other_text : List ℕ) (added twin : AddedQuery) (birth : Option ℕ) → IsTaken set.streams text added → IsTaken other.streams other_text twin → added.statement ≡ twin.statement
      → AreBothInside a b first last (with_added set added birth) (with_added other twin birth)
  both-stated text other_text added twin birth is is_too same = record {
    there = inside-stated a b first set other both.there text other_text added twin birth is is_too same;
    back = inside-stated b a last other set both.back other_text text twin added birth is_too is (sym same);
    names = zip-push AreNamesakes set.program.queries other.program.queries (newcomer set added birth) (newcomer other twin birth) (ap name_of same) both.names;
  }
