-- The tuples of an epoch, made stream by stream in the order of work.
use Rattle.std.proofs.Common.{◌≡◌, ◌∙◌, sym, ap, refl, ℕ, ◌==◌, Bool, true, false, ◌||◌, cond, List, [], ◌∷◌, ◌++◌, map}
use Rattle.std.specs.Prelude.{is_some}
use Rattle.std.specs.List.{All, filter, flat_map}
use Rattle.std.specs.List.Sorted.{IsPermutation}
use Rattle.std.proofs.lemmas.Bool.{eqb-true, or_parts}
use Rattle.std.proofs.lemmas.List.Elements.{All-nil, All-cons, All-append, All-weaker}
use Rattle.std.proofs.lemmas.List.Folds.{list_any-append}
use Rattle.event_types.specs.Tuple.{TupleView}
use Rattle.semantics.specs.Denotation.{Streams}
use Rattle.semantics.specs.Programs.{with_stream}
use Rattle.scalar_expr.proofs.Bags.{permuted_from, permuted_to}
use Rattle.automaton.specs.Networks.{IsAt}
use Rattle.automaton.specs.Prefixes.{Prefix, Root, After, hops_of}
use Rattle.automaton.specs.States.{Net, entrance_at, state_at}
use Rattle.automaton.specs.Work.{IsInOrder, ReadsNone, is_in}
use Rattle.automaton.specs.declared.line.Line.{Line}
use Rattle.automaton.specs.declared.network.End.{End}
use Rattle.epoch_laws.specs.BornLines.{BornLine, HasBornLines, lines_in}
use Rattle.epoch_laws.specs.Closing.{IsEpoch, Stores, leaving_state, leaving_by, given_by_end, given_by_ends, given_by_ends_at}
use Rattle.epoch_laws.specs.Epochs.{took}
use Rattle.epoch_laws.specs.Instances.{begins}
use Rattle.epoch_laws.specs.StoresStandFor.{Serves}
use Rattle.epoch_laws.proofs.Completed.{of_lines}
use Rattle.epoch_laws.proofs.Lists.{All_last}
use Rattle.epoch_laws.proofs.Networks.{each_end, ends_of, line_at, no_ends, numbers, places, root_leaves}
use Rattle.epoch_laws.proofs.Streams.{with_other}
use Rattle.event_types.proofs.NumberLemmas.{self_equal}
use Rattle.semantics.proofs.ReportLemmas.{flat_map_same}

or-true : (a : Bool) → (a || true) ≡ true
or-true true = refl
or-true false = refl

-- a stream that a line doesn't read
record Without (s : ℕ) (line : Line) : Type 0 where
  root : (line.root == s) ≡ false
  hops : All (λ h. (h.wait.stream == s) ≡ false) line.hops

apart : (xs : List ℕ) (x s : ℕ) → is_in xs x ≡ false → is_in xs s ≡ true → (x == s) ≡ false
apart xs x s e f = go (x == s) refl
  where
    go : (b : Bool) → (x == s) ≡ b → b ≡ false
    go true is = let same = ap (is_in xs) (eqb-true x s is) in absurd (cc)
    go false is = refl

without : (xs : List ℕ) (s : ℕ) → is_in xs s ≡ true → (l : Line) → ReadsNone xs l → Without s l
without xs s there l reads = record {
  root = apart xs l.root s reads.root there;
  hops = All-weaker (λ h. is_in xs h.wait.stream ≡ false) (λ h. (h.wait.stream == s) ≡ false) (λ h e. apart xs h.wait.stream s e there) l.hops reads.hops;
}

module _ (net : Net) (lines : List BornLine) (has : HasBornLines net lines) (stores : Stores) (news : Streams) (s : ℕ) (rows : List TupleView) where
  -- what leaves a state doesn't depend on a stream that its prefix doesn't read
  leaves_other : (n : ℕ) (p : Prefix) (e : End) → IsAt net n p → Without s (line_at p e) → leaving_state net (with_stream news s rows) stores n ≡ leaving_state net news stores n
  leaves_other n (Root r) e at w =
      root_leaves (entrance_at net n) r (with_stream news s rows) (stores n) at ∙ ap (map begins) (with_other news s rows r w.root) ∙ sym (root_leaves (entrance_at net n) r news (stores n) at)
  leaves_other n (After p h) e at w =
      ap (λ o. leaving_by o (with_stream news s rows) (stores n)) at.1
      ∙ ap (λ ts. took h.wait.choose h.wait.fold ts (stores n)) (with_other news s rows h.wait.stream (All_last (λ h. (h.wait.stream == s) ≡ false) (hops_of p) h w.hops))
      ∙ sym (ap (λ o. leaving_by o news (stores n)) at.1)

  -- nor does what the ends of a stream give
  published_other : (t : ℕ) → All (λ (b : BornLine). Without s b.line) (filter (λ (b : BornLine). b.line.out == t) lines) → given_by_ends net (with_stream news s rows) stores t ≡ given_by_ends net news stores t
  published_other t all =
      flat_map_same (given_by_ends_at net (with_stream news s rows) stores t) (given_by_ends_at net news stores t) (numbers net lines has)
      (All-weaker (λ n. All (λ e. Without s (line_at (places net lines has n) e)) (ends_of net lines has t n)) (λ n. given_by_ends_at net (with_stream news s rows) stores t n ≡ given_by_ends_at net news stores t n)
      (λ n each. at_state n each (is_some (state_at net n)) refl) (numbers net lines has) (each_end net lines has (λ (b : BornLine). Without s b.line) t all))
    where
      given : Streams → ℕ → End → List TupleView
      given news n e = given_by_end (leaving_state net news stores n) e

      at_state : (n : ℕ) → All (λ e. Without s (line_at (places net lines has n) e)) (ends_of net lines has t n) → (used : Bool) → is_some (state_at net n) ≡ used
          → given_by_ends_at net (with_stream news s rows) stores t n ≡ given_by_ends_at net news stores t n
      at_state n each true is =
          flat_map_same (given (with_stream news s rows) n) (given news n) (ends_of net lines has t n)
          (All-weaker (λ e. Without s (line_at (places net lines has n) e)) (λ e. given (with_stream news s rows) n e ≡ given news n e)
          (λ e w. ap (λ is. given_by_end is e) (leaves_other n (places net lines has n) e (has.1.are_places n is) w)) (ends_of net lines has t n) each)
      at_state n each false is =
          ap (λ es. flat_map (given (with_stream news s rows) n) (filter (λ e. e.out == t) es)) (no_ends (state_at net n) is)
          ∙ sym (ap (λ es. flat_map (given news n) (filter (λ e. e.out == t) es)) (no_ends (state_at net n) is))

-- the streams before one in the order of work
record Earlier (lines : List Line) (s t : ℕ) : Type 0 where
  other : (t == s) ≡ false
  reads : All (Without s) (filter (λ l. l.out == t) lines)

here_in : (s : ℕ) (rest : List ℕ) → is_in (s ∷ rest) s ≡ true
here_in s rest = ap (λ b. b || is_in rest s) (self_equal s)

own_reads : (lines : List Line) (done : List ℕ) (s : ℕ) (rest : List ℕ) → IsInOrder lines (done ++ (s ∷ rest)) → All (Without s) (filter (λ l. l.out == s) lines)
own_reads lines [] s rest ordered = All-weaker (ReadsNone (s ∷ rest)) (Without s) (without (s ∷ rest) s (here_in s rest)) (filter (λ l. l.out == s) lines) ordered.0
own_reads lines (t ∷ done) s rest ordered = own_reads lines done s rest ordered.2

earlier : (lines : List Line) (done : List ℕ) (s : ℕ) (rest : List ℕ) → IsInOrder lines (done ++ (s ∷ rest)) → All (Earlier lines s) done
earlier lines [] s rest ordered = All-nil (Earlier lines s)
earlier lines (t ∷ done) s rest ordered =
    All-cons (Earlier lines s) t done (record {
      other = apart (done ++ (s ∷ rest)) t s ordered.1 there;
      reads =
          All-weaker (ReadsNone (t ∷ (done ++ (s ∷ rest)))) (Without s) (without (t ∷ (done ++ (s ∷ rest))) s (ap (λ b. (s == t) || b) there ∙ or-true (s == t)))
          (filter (λ l. l.out == t) lines) ordered.0;
    }) (earlier lines done s rest ordered.2)
  where
    there : is_in (done ++ (s ∷ rest)) s ≡ true
    there = list_any-append (λ n. s == n) done (s ∷ rest) ∙ ap (λ b. is_in done s || b) (here_in s rest) ∙ or-true (is_in done s)

-- one more stream
pub epoch_starts : (net : Net) (stores : Stores) (heard news : Streams) → ((s : ℕ) → IsPermutation (news s) (heard s)) → IsEpoch net [] stores heard news
epoch_starts net stores heard news h = record { declared = λ s e. h s; derived = All-nil (λ s. IsPermutation (news s) (given_by_ends net news stores s)) }

-- a report grows by the rows of one more epoch
pub epoch_grows : (net : Net) (lines : List BornLine) (done : List ℕ) (s : ℕ) (rest : List ℕ) (stores : Stores) (heard news : Streams) (rows : List TupleView)
    → Serves net lines (done ++ (s ∷ rest)) → IsEpoch net done stores heard news → IsPermutation rows (given_by_ends net news stores s)
    → IsEpoch net (done ++ (s ∷ [])) stores heard (with_stream news s rows)
epoch_grows net lines done s rest stores heard news rows serves epoch h = record {
  declared = λ t e. let parts = or_parts (is_in done t) (is_in (s ∷ []) t) (sym (list_any-append (λ n. t == n) done (s ∷ [])) ∙ e) in
      permuted_from (with_other news s rows t (or_parts (t == s) false parts.1).0) (epoch.declared t parts.0);
  derived =
      All-append (λ t. IsPermutation (with_stream news s rows t) (given_by_ends net (with_stream news s rows) stores t)) done (s ∷ [])
      (λ i d lt. old _ (earlier (lines_in lines) done s rest serves.in_order i d lt) (epoch.derived i d lt))
      (All-cons (λ t. IsPermutation (with_stream news s rows t) (given_by_ends net (with_stream news s rows) stores t)) s [] own (All-nil (λ t. IsPermutation (with_stream news s rows t) (given_by_ends net (with_stream news s rows) stores t))));
}
  where
    old : (t : ℕ) → Earlier (lines_in lines) s t → IsPermutation (news t) (given_by_ends net news stores t) → IsPermutation (with_stream news s rows t) (given_by_ends net (with_stream news s rows) stores t)
    old t e k = permuted_from (with_other news s rows t e.other) (permuted_to k (sym (published_other net lines serves.has_lines stores news s rows t (of_lines (Without s) lines t e.reads))))

    own : IsPermutation (with_stream news s rows s) (given_by_ends net (with_stream news s rows) stores s)
    own =
        permuted_from (ap (λ b. cond b rows (news s)) (self_equal s))
        (permuted_to h (sym (published_other net lines serves.has_lines stores news s rows s (of_lines (Without s) lines s (own_reads (lines_in lines) done s rest serves.in_order)))))
