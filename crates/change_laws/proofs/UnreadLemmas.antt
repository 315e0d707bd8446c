-- The lines of other queries read no stream of a query that none of them reads.
use Rattle.std.proofs.Common.{◌≡◌, ◌≢◌, ◌∙◌, ◌⊎◌, inl, inr, sym, ap, refl, ℕ, zero, suc, ◌-◌, ◌<◌, ◌≤◌, ◌==◌, ◌||◌, true, false, List, [], ◌∷◌, ◌++◌, length, get_or, map, arith}
use Rattle.std.specs.Prelude.{Contains}
use Rattle.std.specs.List.{All, remove}
use Rattle.std.proofs.lemmas.List.Elements.{All-append, All-cons, All-contains, All-contains_itself, All-head, All-map, All-nil, All-tail, All-weaker}
use Rattle.automaton.specs.Work.{ReadsNone, is_in}
use Rattle.automaton.specs.declared.line.Hop.{Hop}
use Rattle.automaton.specs.declared.line.Line.{Line}
use Rattle.event_types.specs.declared.kind.Kind.{Kind}
use Rattle.event_types.proofs.NumberLemmas.{is_other, is_same}
use Rattle.prefix_merge.proofs.ContainLemmas.{first_in, later_in}
use Rattle.semantics.specs.Expressions.{Ex}
use Rattle.semantics.specs.Programs.{Query}
use Rattle.semantics.specs.Reading.{ReadsOnly}
use Rattle.semantics.specs.TypedPrograms.{PublishInTurn}
use Rattle.semantics.proofs.ReadingLemmas.{reads_both}
use Rattle.splitter.specs.Chains.{HideApart, LeavesHidden, chain_lines, chain_order, hidden_end}
use Rattle.splitter.specs.Laws.{hidden_streams, split_order}
use Rattle.splitter.specs.Splitting.{parts_of, published_on, split_lines}
use Rattle.splitter.proofs.ApartLemmas.{any_left, any_right, range_all, reads_weaker}
use Rattle.splitter.proofs.ChainLemmas.{later_fresh}
use Rattle.splitter.proofs.NumberingLemmas.{parts_up}
use Rattle.splitter.proofs.ReadLemmas.{LineReads, Reads, parts_read}
use Rattle.change_laws.proofs.EndLemmas.{passes}

-- a number that is none of a list
pub none_of : (xs : List ℕ) (s : ℕ) → ((x : ℕ) → Contains xs x → s ≢ x) → is_in xs s ≡ false
none_of [] s apart = refl
none_of (x ∷ xs) s apart = λ i. is_other s x (apart x (first_in x xs)) i || none_of xs s (λ y has. apart y (later_in x xs y has)) i

-- a list that contains a number
pub contained : (xs : List ℕ) (x : ℕ) → Contains xs x → is_in xs x ≡ true
contained xs x has = passes (λ number. x == number) xs x has (is_same x x refl)

-- a line that reads none of some streams reads none of fewer
pub reads_fewer : (fewer more : List ℕ) → All (λ x. is_in more x ≡ true) fewer → (line : Line) → ReadsNone more line → ReadsNone fewer line
reads_fewer fewer more within line none = record {
  root = lacks line.root none.root;
  hops = All-weaker (λ hop. is_in more hop.wait.stream ≡ false) (λ hop. is_in fewer hop.wait.stream ≡ false) (λ hop h. lacks hop.wait.stream h) line.hops none.hops;
}
  where
    lacks : (s : ℕ) → is_in more s ≡ false → is_in fewer s ≡ false
    lacks s out = none_of fewer s (λ x has same. (let is : is_in more s ≡ true = ap (is_in more) same ∙ All-contains (λ y. is_in more y ≡ true) fewer x within has in let no : false ≡ true = sym out ∙ is in cc))

-- neither the root of a line nor its hops read a stream
abbrev LeavesOut : ℕ → Line → Type 0
LeavesOut x line = (line.root ≢ x) × All (λ hop. hop.wait.stream ≢ x) line.hops

hops_leave : (x most : ℕ) (hops : List Hop) → All (λ hop. Reads x most hop.wait.stream) hops → All (λ hop. hop.wait.stream ≢ x) hops
hops_leave x most hops reads = All-weaker (λ (hop : Hop). Reads x most hop.wait.stream) (λ (hop : Hop). hop.wait.stream ≢ x) (λ hop r. r.apart) hops reads

-- the lines of an expression read no stream that it doesn't read, if it is none of its hidden streams
lines_leave : (e : Ex) (out next x : ℕ) → x < next → ReadsOnly (λ s. (s < next) × (s ≢ x)) e → All (LeavesOut x) (split_lines e out next)
lines_leave e out next x less reads =
    let parts = parts_read x next e next less (omega arith) reads in
    All-append (LeavesOut x) (parts_of e next).hidden (map (published_on out) (parts_of e next).open_lines)
    (All-weaker (λ line. LineReads x line.out line.root line.hops) (LeavesOut x) (λ line r. (r.root_read.apart, hops_leave x line.out line.hops r.hops_read)) (parts_of e next).hidden parts.hiddens)
    (All-map (LeavesOut x) (published_on out) (parts_of e next).open_lines
    (All-weaker (λ line. LineReads x (parts_of e next).next line.root line.hops) (λ line. LeavesOut x (published_on out line)) (λ line r. (r.root_read.apart, hops_leave x (parts_of e next).next line.hops r.hops_read)) (parts_of e next).open_lines parts.opens))

-- so of all streams of a list
lines_leave_all : (e : Ex) (out next : ℕ) (xs : List ℕ) → ((x : ℕ) → Contains xs x → (x < next) × ReadsOnly (λ s. (s < next) × (s ≢ x)) e) → All (ReadsNone xs) (split_lines e out next)
lines_leave_all e out next xs each i d lt = record {
  root = none_of xs _ (λ x has. (lines_leave e out next x (each x has).0 (each x has).1 i d lt).0);
  hops = λ j hop inside. none_of xs _ (λ x has. (lines_leave e out next x (each x has).0 (each x has).1 i d lt).1 j hop inside);
}

module _ (kinds : ℕ → List Kind) (query : Query) where
  -- the streams that the query's lines publish
  abbrev own : List ℕ
  own = split_order query.expr query.stream query.hidden

  -- a stream that isn't hidden by it
  abbrev Shown : ℕ → Type 0
  Shown s = (s ≤ query.stream) ⊎ ((s < query.hidden) ⊎ (hidden_end query ≤ s))

  -- each is its own or one that it hides
  own_is : (low : query.stream < query.hidden) → (x : ℕ) → Contains own x → (x ≡ query.stream) ⊎ ((query.hidden ≤ x) × (x < hidden_end query))
  own_is low x has =
      let Is : ℕ → Type 0 = λ y. (y ≡ query.stream) ⊎ ((query.hidden ≤ y) × (y < hidden_end query)) in
      All-contains Is own x
      (All-append Is (hidden_streams query.expr query.hidden) (query.stream ∷ [])
      (range_all Is query.hidden (hidden_end query - query.hidden) (λ y above below. inr (above, omega (arith, below, parts_up query.expr query.hidden))))
      (All-cons Is query.stream [] (inl refl) (All-nil Is))) has

  own_apart : (low : query.stream < query.hidden) → (s x : ℕ) → Shown s → s ≢ query.stream → Contains own x → s ≢ x
  own_apart low s x shown other has same = elim (own_is low x has) [
    | inl is ↦ other (same ∙ is)
    | inr between ↦ elim shown [
      | inl less ↦ absurd (omega (arith, less, low, between.0, same))
      | inr either ↦ elim either [ inl less ↦ absurd (omega (arith, less, between.0, same)) | inr more ↦ absurd (omega (arith, more, between.1, same)) ]
    ]
  ]

  own_below : (low : query.stream < query.hidden) → (x : ℕ) → Contains own x → x < hidden_end query
  own_below low x has = elim (own_is low x has) [ inl is ↦ omega (arith, is, low, parts_up query.expr query.hidden) | inr between ↦ between.1 ]

  -- the lines of the queries behind it that don't read its stream
  later_unread : (there : List ℕ) (order : List Query) → query.stream < query.hidden → All Shown there → PublishInTurn kinds there order → All (LeavesHidden query) order → HideApart order
      → All (λ (later : Query). ReadsOnly (λ read. read ≢ query.stream) later.expr) order → All (ReadsNone own) (chain_lines order)
  later_unread there [] low shown turn leave apart unread = All-nil (ReadsNone own)
  later_unread there (later ∷ order) low shown turn leave apart unread =
      let here : LeavesHidden query later = All-head (LeavesHidden query) later order leave in
      let reads : ReadsOnly (λ s. Contains there s × (s ≢ query.stream)) later.expr =
      reads_both (Contains there) (λ s. s ≢ query.stream) later.expr turn.1 (All-head (λ (q : Query). ReadsOnly (λ read. read ≢ query.stream) q.expr) later order unread) in
      All-append (ReadsNone own) (split_lines later.expr later.stream later.hidden) (chain_lines order)
      (lines_leave_all later.expr later.stream later.hidden own (λ x has. (
        omega (arith, own_below low x has, here.1),
        reads_weaker (λ s. Contains there s × (s ≢ query.stream)) (λ s. (s < later.hidden) × (s ≢ x))
            (λ s is. (
              omega (arith, All-contains (λ y. y < later.stream) there s turn.0 is.0, apart.0),
              own_apart low s x (All-contains Shown there s shown is.0) is.1 has,
            )) later.expr reads,
      )))
      (later_unread (there ++ later.stream ∷ []) order low (All-append Shown there (later.stream ∷ []) shown (All-cons Shown later.stream [] (inr here.0) (All-nil Shown))) turn.3 (All-tail (LeavesHidden query) later order leave) apart.2
      (All-tail (λ (q : Query). ReadsOnly (λ read. read ≢ query.stream) q.expr) later order unread))

-- the streams of each query are worked on
own_worked : (order : List Query) (k : ℕ) (d : Query) → k < length order → All (λ x. is_in (chain_order order) x ≡ true) (split_order (get_or order k d).expr (get_or order k d).stream (get_or order k d).hidden)
own_worked [] k d lt = absurd (omega (arith, lt))
own_worked (query ∷ order) zero d lt =
    let streams = split_order query.expr query.stream query.hidden in
    All-weaker (Contains streams) (λ x. is_in (streams ++ chain_order order) x ≡ true) (λ x has. any_left (λ number. x == number) streams (chain_order order) (contained streams x has)) streams (All-contains_itself streams)
own_worked (first ∷ order) (suc k) d lt =
    let query = get_or order k d in
    All-weaker (λ x. is_in (chain_order order) x ≡ true) (λ x. is_in (split_order first.expr first.stream first.hidden ++ chain_order order) x ≡ true)
    (λ x is. any_right (λ number. x == number) (split_order first.expr first.stream first.hidden) (chain_order order) is) (split_order query.expr query.stream query.hidden) (own_worked order k d (omega (arith, lt)))

-- the lines of all queries but one, whose stream none reads, read none of its streams
pub others_unread : (kinds : ℕ → List Kind) (there : List ℕ) (order : List Query) (k : ℕ) (d : Query) → k < length order → PublishInTurn kinds there order → HideApart order
    → All (λ (other : Query). ReadsOnly (λ read. read ≢ (get_or order k d).stream) other.expr) order
    → All (ReadsNone (split_order (get_or order k d).expr (get_or order k d).stream (get_or order k d).hidden)) (chain_lines (remove order k))
others_unread kinds there [] k d lt turn apart unread = absurd (omega (arith, lt))
others_unread kinds there (query ∷ order) zero d lt turn apart unread =
    later_unread kinds query (there ++ query.stream ∷ []) order apart.0
    (All-append (Shown kinds query) there (query.stream ∷ []) (All-weaker (λ s. s < query.stream) (Shown kinds query) (λ s less. inl (omega (arith, less))) there turn.0)
    (All-cons (Shown kinds query) query.stream [] (inl (omega arith)) (All-nil (Shown kinds query))))
    turn.3 apart.1 apart.2 (All-tail (λ (other : Query). ReadsOnly (λ read. read ≢ query.stream) other.expr) query order unread)
others_unread kinds there (first ∷ order) (suc k) d lt turn apart unread =
    let query = get_or order k d in
    let streams = split_order query.expr query.stream query.hidden in
    All-append (ReadsNone streams) (split_lines first.expr first.stream first.hidden) (chain_lines (remove order k))
    (All-weaker (ReadsNone (chain_order order)) (ReadsNone streams) (reads_fewer streams (chain_order order) (own_worked order k d (omega (arith, lt)))) (split_lines first.expr first.stream first.hidden)
    (later_fresh kinds there first order turn apart).unread)
    (others_unread kinds (there ++ first.stream ∷ []) order k d (omega (arith, lt)) turn.3 apart.2 (All-tail (λ (other : Query). ReadsOnly (λ read. read ≢ query.stream) other.expr) first order unread))
