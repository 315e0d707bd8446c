-- The tests of the tuples of an epoch, stream by stream.
use Rattle.std.proofs.Common.{◌≡◌, ◌∙◌, sym, ap, refl, subst, ℕ, ◌+◌, ◌≤◌, ◌==◌, Bool, true, false, cond, ◌||◌, List, [], ◌∷◌, ◌++◌, append-nil, append_assoc, arith}
use Rattle.std.specs.Prelude.{Option, Some, None, sum_by}
use Rattle.std.specs.List.{All, range_with_len}
use Rattle.std.proofs.lemmas.Bool.{or_parts}
use Rattle.std.proofs.lemmas.List.Elements.{All-contains}
use Rattle.std.proofs.lemmas.List.Sorted.{IsPermutation-refl}
use Rattle.event_types.specs.Tuple.{TupleView}
use Rattle.event_types.proofs.NumberLemmas.{same_number}
use Rattle.semantics.specs.Denotation.{Streams}
use Rattle.semantics.specs.Programs.{with_stream}
use Rattle.automaton.specs.States.{Net, tells}
use Rattle.automaton.specs.Work.{IsInOrder, is_in}
use Rattle.automaton.specs.declared.line.Line.{Line}
use Rattle.epoch_laws.specs.BornLines.{BornLine, lines_in}
use Rattle.epoch_laws.specs.Closing.{IsEpoch, Stores, given_by_ends}
use Rattle.epoch_laws.specs.StoresStandFor.{Serves}
use Rattle.epoch_laws.proofs.Grows.{epoch_grows, epoch_starts}
use Rattle.epoch_laws.proofs.Streams.{with_other}
use Rattle.epoch_draft.specs.EpochWork.{derived_tests, heard_tests}
use Rattle.epoch_draft.proofs.DeriveLemmas.{contains_in}
use Rattle.epoch_engine.proofs.TestSums.{one_of_range, sum_nothing, sum_one_test, sum_plus, sum_same, sum_turned}

-- the streams once these derived ones are made, in their order
abbrev pub finished : Net → Stores → List ℕ → Streams → Streams
finished net stores [] news = news
finished net stores (s ∷ order) news = finished net stores order (with_stream news s (given_by_ends net news stores s))

-- the others are as they were
finished_other : (net : Net) (stores : Stores) (order : List ℕ) (news : Streams) (t : ℕ) → is_in order t ≡ false → finished net stores order news t ≡ news t
finished_other net stores [] news t out = refl
finished_other net stores (s ∷ order) news t out =
    let parts = or_parts (t == s) (is_in order t) out in
    finished_other net stores order (with_stream news s (given_by_ends net news stores s)) t parts.1 ∙ with_other news s (given_by_ends net news stores s) t parts.0

-- they are an epoch, by induction on the order of work
finished_more : (net : Net) (lines : List BornLine) (stores : Stores) (heard news : Streams) (done order : List ℕ) → Serves net lines (done ++ order) → IsEpoch net done stores heard news → IsEpoch net (done ++ order) stores heard (finished net stores order news)
finished_more net lines stores heard news done [] serves epoch = subst (λ (o : List ℕ). IsEpoch net o stores heard news) (sym (append-nil done)) epoch
finished_more net lines stores heard news done (s ∷ order) serves epoch =
    let given = given_by_ends net news stores s in
    let same : (done ++ s ∷ []) ++ order ≡ done ++ s ∷ order = append_assoc done (s ∷ []) order in
    subst (λ (o : List ℕ). IsEpoch net o stores heard (finished net stores (s ∷ order) news)) same
    (finished_more net lines stores heard (with_stream news s given) (done ++ s ∷ []) order (subst (Serves net lines) (sym same) serves)
    (epoch_grows net lines done s order stores heard news given serves epoch (IsPermutation-refl given)))

-- over the tuples that were heard
pub finished_epoch : (net : Net) (lines : List BornLine) (order : List ℕ) (stores : Stores) (heard : Streams) → Serves net lines order → IsEpoch net order stores heard (finished net stores order heard)
finished_epoch net lines order stores heard serves = finished_more net lines stores heard heard [] order serves (epoch_starts net stores heard heard (λ s. IsPermutation-refl (heard s)))

-- tests of the tuples of one stream alone, or of none
abbrev pub told : Option ℕ → (TupleView → ℕ) → ℕ → TupleView → ℕ
told o g s t = cond (tells s o) (g t) 0

-- the tuples of that stream
abbrev pub rows_told : Streams → Option ℕ → List TupleView
rows_told news None = []
rows_told news (Some r) = news r

module _ (net : Net) (stores : Stores) where
  -- tests in two parts
  derived_plus : (a b : ℕ → TupleView → ℕ) (order : List ℕ) (news : Streams) → derived_tests (λ s t. a s t + b s t) net order stores news ≡ derived_tests a net order stores news + derived_tests b net order stores news
  derived_plus a b [] news = refl
  derived_plus a b (s ∷ order) news =
      let given = given_by_ends net news stores s in
      let here = sum_plus (a s) (b s) given in
      let rest = derived_plus a b order (with_stream news s given) in omega (arith, here, rest)

  -- tests in many parts
  derived_many : {X : Type 0} (part : X → ℕ → TupleView → ℕ) (ks : List X) (order : List ℕ) (news : Streams)
      → derived_tests (λ s t. sum_by (λ k. part k s t) ks) net order stores news ≡ sum_by (λ k. derived_tests (part k) net order stores news) ks
  derived_many part ks [] news = sym (sum_nothing ks)
  derived_many part ks (s ∷ order) news =
      let given = given_by_ends net news stores s in
      let here = sum_turned (λ t k. part k s t) given ks in
      let rest = derived_many part ks order (with_stream news s given) in
      let both = sum_plus (λ k. sum_by (part k s) given) (λ k. derived_tests (part k) net order stores (with_stream news s given)) ks in omega (arith, here, rest, both)

  -- no tests
  derived_nothing : (order : List ℕ) (news : Streams) → derived_tests (λ s t. 0) net order stores news ≡ 0
  derived_nothing [] news = refl
  derived_nothing (s ∷ order) news =
      let given = given_by_ends net news stores s in
      let here = sum_nothing given in
      let rest = derived_nothing order (with_stream news s given) in omega (arith, here, rest)

  module _ (r : ℕ) (g : TupleView → ℕ) where
    one_stream : (s : ℕ) (rows : List TupleView) → sum_by (told (Some r) g s) rows ≡ cond (r == s) (sum_by g rows) 0
    one_stream s rows = sum_one_test (r == s) g rows

    -- a stream that isn't derived has none as one
    derived_none : (order : List ℕ) (news : Streams) → is_in order r ≡ false → derived_tests (told (Some r) g) net order stores news ≡ 0
    derived_none [] news out = refl
    derived_none (s ∷ order) news out =
        let parts = or_parts (r == s) (is_in order r) out in
        let given = given_by_ends net news stores s in
        let here = one_stream s given ∙ ap (λ b. cond b (sum_by g given) 0) parts.0 in
        let rest = derived_none order (with_stream news s given) parts.1 in omega (arith, here, rest)

    -- one that is derived has them once
    derived_once : (lines : List Line) (order : List ℕ) (news : Streams) → IsInOrder lines order → is_in order r ≡ true → derived_tests (told (Some r) g) net order stores news ≤ sum_by g (finished net stores order news r)
    derived_once lines [] news ordered there = absurd (cc)
    derived_once lines (s ∷ order) news ordered there = go (r == s) refl there (derived_once lines order (with_stream news s (given_by_ends net news stores s)) ordered.2)
      where
        given : List TupleView
        given = given_by_ends net news stores s

        go : (b : Bool) → (r == s) ≡ b → (b || is_in order r) ≡ true → (is_in order r ≡ true → derived_tests (told (Some r) g) net order stores (with_stream news s given) ≤ sum_by g (finished net stores order (with_stream news s given) r))
            → derived_tests (told (Some r) g) net (s ∷ order) stores news ≤ sum_by g (finished net stores (s ∷ order) news r)
        go true e h more =
            let out : is_in order r ≡ false = ap (is_in order) (same_number r s e) ∙ ordered.1 in
            let here = one_stream s given ∙ ap (λ b. cond b (sum_by g given) 0) e in
            let rest = derived_none order (with_stream news s given) out in
            let own : finished net stores (s ∷ order) news r ≡ given = finished_other net stores order (with_stream news s given) r out ∙ ap (λ b. cond b given (news r)) e in
            let all : sum_by g (finished net stores (s ∷ order) news r) ≡ sum_by g given = ap (sum_by g) own in omega (arith, here, rest, all)
        go false e h more =
            let here = one_stream s given ∙ ap (λ b. cond b (sum_by g given) 0) e in
            let rest = more h in omega (arith, here, rest)

module _ (net : Net) (lines : List BornLine) (order : List ℕ) (streams : ℕ) (stores : Stores) (heard : Streams) where
  -- the tests of all tuples of the epoch
  abbrev pub whole : (ℕ → TupleView → ℕ) → ℕ
  whole tests = heard_tests tests streams heard + derived_tests tests net order stores heard

  -- in two parts
  pub whole_plus : (a b : ℕ → TupleView → ℕ) → whole (λ s t. a s t + b s t) ≡ whole a + whole b
  whole_plus a b =
      let each : heard_tests (λ s t. a s t + b s t) streams heard ≡ sum_by (λ s. sum_by (a s) (heard s) + sum_by (b s) (heard s)) (range_with_len 0 streams) =
      sum_same (λ s. sum_by (λ t. a s t + b s t) (heard s)) (λ s. sum_by (a s) (heard s) + sum_by (b s) (heard s)) (λ s. sum_plus (a s) (b s) (heard s)) (range_with_len 0 streams) in
      let both = sum_plus (λ s. sum_by (a s) (heard s)) (λ s. sum_by (b s) (heard s)) (range_with_len 0 streams) in
      let rest = derived_plus net stores a b order heard in omega (arith, each, both, rest)

  -- in many parts
  pub whole_many : {X : Type 0} (part : X → ℕ → TupleView → ℕ) (ks : List X) → whole (λ s t. sum_by (λ k. part k s t) ks) ≡ sum_by (λ k. whole (part k)) ks
  whole_many part ks =
      let each : heard_tests (λ s t. sum_by (λ k. part k s t) ks) streams heard ≡ sum_by (λ s. sum_by (λ k. sum_by (part k s) (heard s)) ks) (range_with_len 0 streams) =
      sum_same (λ s. sum_by (λ t. sum_by (λ k. part k s t) ks) (heard s)) (λ s. sum_by (λ k. sum_by (part k s) (heard s)) ks) (λ s. sum_turned (λ t k. part k s t) (heard s) ks) (range_with_len 0 streams) in
      let turned = sum_turned (λ s k. sum_by (part k s) (heard s)) (range_with_len 0 streams) ks in
      let rest = derived_many net stores part ks order heard in
      let both = sum_plus (λ k. heard_tests (part k) streams heard) (λ k. derived_tests (part k) net order stores heard) ks in omega (arith, each, turned, rest, both)

  module _ (serves : Serves net lines order) (underived : All (λ s. heard s ≡ []) order) where
    -- of one stream at most those of its tuples
    whole_one : (r : ℕ) (g : TupleView → ℕ) → whole (told (Some r) g) ≤ sum_by g (finished net stores order heard r)
    whole_one r g = go (is_in order r) refl
      where
        each : heard_tests (told (Some r) g) streams heard ≡ sum_by (λ s. cond (r == s) (sum_by g (heard s)) 0) (range_with_len 0 streams)
        each = sum_same (λ s. sum_by (told (Some r) g s) (heard s)) (λ s. cond (r == s) (sum_by g (heard s)) 0) (λ s. one_stream net stores r g s (heard s)) (range_with_len 0 streams)

        few : sum_by (λ s. cond (r == s) (sum_by g (heard s)) 0) (range_with_len 0 streams) ≤ sum_by g (heard r)
        few = one_of_range (λ s. sum_by g (heard s)) r 0 streams

        go : (b : Bool) → is_in order r ≡ b → whole (told (Some r) g) ≤ sum_by g (finished net stores order heard r)
        go true there =
            let none : sum_by g (heard r) ≡ 0 = ap (sum_by g) (All-contains (λ s. heard s ≡ []) order r underived (contains_in order r there)) in
            let rest = derived_once net stores r g (lines_in lines) order heard serves.in_order there in omega (arith, each, few, none, rest)
        go false out =
            let none = derived_none net stores r g order heard out in
            let same : sum_by g (finished net stores order heard r) ≡ sum_by g (heard r) = ap (sum_by g) (finished_other net stores order heard r out) in omega (arith, each, few, none, same)

    -- whether they are of one stream or of none
    pub whole_told : (o : Option ℕ) (g : TupleView → ℕ) → whole (told o g) ≤ sum_by g (rows_told (finished net stores order heard) o)
    whole_told (Some r) g = whole_one r g
    whole_told None g =
        let each : heard_tests (λ s t. 0) streams heard ≡ sum_by (λ s. 0) (range_with_len 0 streams) = sum_same (λ s. sum_by (λ t. 0) (heard s)) (λ s. 0) (λ s. sum_nothing (heard s)) (range_with_len 0 streams) in
        let none = sum_nothing (range_with_len 0 streams) in
        let rest = derived_nothing net stores order heard in omega (arith, each, none, rest)
