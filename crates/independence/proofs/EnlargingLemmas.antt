-- Histories of the same events, and the results over them where queries are added.
use Rattle.std.proofs.Common.{◌≡◌, ◌≢◌, ◌∙◌, ℕ, ◌==◌, List, [], ◌∷◌, Bool, true, false, not, cond, get_or, map, refl, sym, ap, inl, inr, arith}
use Rattle.std.specs.Prelude.{Option, Some, None, AllPairs, Contains, option_map, slice_get}
use Rattle.std.specs.List.{filter}
use Rattle.std.specs.Option.{option_map_or}
use Rattle.std.proofs.lemmas.Bool.{cases_Bool}
use Rattle.std.proofs.lemmas.Bool.Decides.{nat_tests}
use Rattle.std.proofs.lemmas.List.Elements.{All-contains}
use Rattle.std.proofs.lemmas.Option.{slice_get-get_or, slice_get-map}
use Rattle.semantics.specs.Histories.{Event, heard_on, times}
use Rattle.stream_schema.specs.Streams.{Entry, number_of, stream_names}
use Rattle.cel_grammar.specs.Trees as tree
use Rattle.catalogue.specs.Judgement.{Judged}
use Rattle.independence.specs.Enlarging.{Enlarge, SameEventsHaveSameTimes}
use Rattle.independence.specs.Hearing.{AreOneEvent, AreTheSameEvents, HearTheSame, heard_by_name}
use Rattle.independence.proofs.AcceptedLemmas.{IsOfDeclaration, Stands, declared-at, declared-number}
use Rattle.independence.proofs.PublishedLemmas.{contains-at}
use Rattle.independence.proofs.TableLemmas.{number-at, number-found}

-- the same events have the same times, by induction on the histories
pub same_times : SameEventsHaveSameTimes
same_times streams others [] [] same = refl
same_times streams others [] (other ∷ later) same = absurd same
same_times streams others (event ∷ later) [] same = absurd same
same_times streams others (event ∷ later) (other ∷ others_later) same =
    let at : event.tuple.at ≡ other.tuple.at = ap (λ tuple. tuple.at) same.0.tuples_are in
    let rest : times later ≡ times others_later = same_times streams others later others_later same.1 in
    λ i. at i ∷ filter (λ time. not (time == at i)) (rest i)

-- an image comes from a value
pub image-of : {X Y : Type 0} (f : X → Y) (o : Option X) (y : Y) → option_map f o ≡ Some y → (x : X) × (o ≡ Some x) × (f x ≡ y)
image-of f None y e = cc
image-of f (Some x) y e = (x, refl, cc)

-- a stream that has the name has the number of the name
pub named-number : (streams : List Entry) → AllPairs (λ x y. x ≢ y) (stream_names streams) → (name : List ℕ) (k n : ℕ) → slice_get (stream_names streams) k ≡ Some name → number_of name streams ≡ Some n → k ≡ n
named-number streams apart name k n at found =
    let (e, there, named) = image-of (λ (s : Entry). s.name) (slice_get streams k) name (sym (slice_get-map (λ (s : Entry). s.name) streams k) ∙ at) in
    let own : Some k ≡ Some n = sym (number-at streams apart k e there) ∙ ap (λ x. number_of x streams) named ∙ found in
    cc

-- and the name of a number is the name that has it
number-named : (streams : List Entry) (name other : List ℕ) (n : ℕ) → number_of name streams ≡ Some n → slice_get (stream_names streams) n ≡ Some other → name ≡ other
number-named streams name other n found at =
    let (e, there, named) = number-found name streams n found in
    let own : Some e.name ≡ Some other = sym (slice_get-map (λ (s : Entry). s.name) streams n ∙ ap (option_map (λ (s : Entry). s.name)) there) ∙ at in
    let same : e.name ≡ other = cc in
    sym named ∙ same

-- what the test of numbers tells
pub equal : (m n : ℕ) → (m == n) ≡ true → m ≡ n
equal m n e = grind (arith, nat_tests)

unequal : (m n : ℕ) → (m == n) ≡ false → m ≢ n
unequal m n e same = grind (arith, nat_tests)

module _ (streams others : List Entry) (name : List ℕ) (n m : ℕ) (alone : (k : ℕ) → slice_get (stream_names streams) k ≡ Some name → k ≡ n) (alone_too : (k : ℕ) → slice_get (stream_names others) k ≡ Some name → k ≡ m) (found : number_of name streams ≡ Some n) (found_too : number_of name others ≡ Some m) where
  -- one event is on the stream of a name in both, or in neither
  same-test : (event other : Event) → AreOneEvent streams others event other → (event.stream == n) ≡ (other.stream == m)
  same-test event other one =
      let own = one.streams_are.name in
      elim (cases_Bool (event.stream == n)) [
        | inl hit ↦ elim (cases_Bool (other.stream == m)) [
          | inl also ↦ hit ∙ sym also
          | inr miss ↦
              let named : name ≡ one.streams_are.name = number-named streams name one.streams_are.name n found (ap (slice_get (stream_names streams)) (sym (equal event.stream n hit)) ∙ one.streams_are.first) in
              absurd (unequal other.stream m miss (alone_too other.stream (one.streams_are.second ∙ ap Some (sym named))))
        ]
        | inr miss ↦ elim (cases_Bool (other.stream == m)) [
          | inl hit ↦
              let named : name ≡ one.streams_are.name = number-named others name one.streams_are.name m found_too (ap (slice_get (stream_names others)) (sym (equal other.stream m hit)) ∙ one.streams_are.second) in
              absurd (unequal event.stream n miss (alone event.stream (one.streams_are.first ∙ ap Some (sym named))))
          | inr neither ↦ miss ∙ sym neither
        ]
      ]

  -- so the same tuples were heard there, by induction on the histories
  pub heard-same : (history other_history : List Event) → AreTheSameEvents streams others history other_history → heard_on history n ≡ heard_on other_history m
  heard-same [] [] same = refl
  heard-same [] (other ∷ later) same = absurd same
  heard-same (event ∷ later) [] same = absurd same
  heard-same (event ∷ later) (other ∷ others_later) same =
      let rest = heard-same later others_later same.1 in
      let test = same-test event other same.0 in
      one-more (event.stream == n) (other.stream == m) event other (filter (λ (e : Event). e.stream == n) later) (filter (λ (e : Event). e.stream == m) others_later) test same.0.tuples_are rest
    where
      -- one event more
      one-more : (p q : Bool) (event other : Event) (xs ys : List Event) → p ≡ q → event.tuple ≡ other.tuple → map (λ (e : Event). e.tuple) xs ≡ map (λ (e : Event). e.tuple) ys
          → map (λ (e : Event). e.tuple) (cond p (event ∷ xs) xs) ≡ map (λ (e : Event). e.tuple) (cond q (other ∷ ys) ys)
      one-more true true event other xs ys e tuples rest = λ i. tuples i ∷ rest i
      one-more false false event other xs ys e tuples rest = rest
      one-more true false event other xs ys e tuples rest = cc
      one-more false true event other xs ys e tuples rest = cc

-- on each declared stream the same tuples were heard
pub hear-same : (a b : Judged) → Stands a → Stands b → Enlarge a.statements b.statements → (history others : List Event) → AreTheSameEvents a.streams b.streams history others → (query : List ℕ) → HearTheSame a b history others query
hear-same a b s t enlarges history others same query k d inside read =
    at-entry (get_or a.declared k d) (slice_get-get_or a.declared k d inside)
  where
    at-entry : (e : Entry) → slice_get a.declared k ≡ Some e → heard_by_name a.streams history e.name ≡ heard_by_name b.streams others e.name
    at-entry e at =
        let is = All-contains (IsOfDeclaration a.statements) a.declared e s.declarations (contains-at a.declared k e at) in
        let stands = All-contains (Contains b.statements) a.statements (tree.Stream e.name is.columns) enlarges is.stands in
        let (m, schema, is_too, m_inside, there, found) = declared-number b t e.name is.columns stands in
        let own : number_of e.name a.streams ≡ Some k = number-at a.streams s.apart k e (declared-at a s k e at) in
        ap (λ o. option_map_or (heard_on history) o []) own ∙ heard-same a.streams b.streams e.name k m (λ n at_n. named-number a.streams s.apart e.name n k at_n own) (λ n at_n. named-number b.streams t.apart e.name n m at_n found) own found history others same ∙ ap (λ o. option_map_or (heard_on others) o []) (sym found)
