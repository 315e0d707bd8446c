-- A query that comes to two sets of queries, or leaves both, where one set is part of the other.
use Rattle.std.proofs.Common.{◌≡◌, ◌∙◌, ℕ, ◌+◌, ◌-◌, List, [], ◌∷◌, ◌++◌, length, sym, ap, subst, append_assoc}
use Rattle.std.specs.Prelude.{Option, None, Contains}
use Rattle.semantics.specs.Expressions.{Ex}
use Rattle.semantics.specs.Programs.{Program, Query}
use Rattle.splitter.specs.Chains.{hidden_end}
use Rattle.stream_schema.specs.Schema.{Attr}
use Rattle.stream_schema.specs.Streams.{Entry, hidden_entries, number_of}
use Rattle.cel_grammar.specs.Trees.{Statement}
use Rattle.cel_parser.proofs.QueryLemmas.{one-query-reading}
use Rattle.cel_types.specs.Statements.{Queries}
use Rattle.catalogue.specs.Adding.{AddedQuery, JudgesAdded, Taken}
use Rattle.catalogue.specs.Changes.{with_query}
use Rattle.catalogue.specs.Statements.{name_of}
use Rattle.catalogue.specs.Typing.{published_by}
use Rattle.courses.specs.ControlLines.{first_reader}
use Rattle.courses.specs.QuerySet.{QuerySet, newcomer, with_added, without}
use Rattle.independence.proofs.KeptLemmas.{IsKept, kept-hidden, kept-push, kept-without}
use Rattle.independence.proofs.OwnLemmas.{OwnNames}
use Rattle.independence.proofs.RenamedLemmas.{hidden-all}
use Rattle.independence.proofs.TwinLemmas.{IsWithin, with_number, within-hidden, within-push, within-without}
use Rattle.independence.proofs.TakenLemmas.{IsTaken, none-read, taken-is, taken-names}

module _ (declared : List Entry) (set : QuerySet) (kept : IsKept declared set.streams set.program) where
  -- a set to which a query came
  pub kept-added : (added : AddedQuery) (birth : Option ℕ) → Queries set.streams added.statement added.schema added.expr → OwnNames added.statement → number_of (name_of added.statement) set.streams ≡ None
      → IsKept declared (with_added set added birth).streams (with_added set added birth).program
  kept-added added birth gives names absent =
      let own : Entry = published_by added.statement added.schema in
      let hides : ℕ = length set.streams + 1 in
      let query : Query = newcomer set added birth in
      let hidden : List Entry = hidden_entries hides (hidden_end query - hides) in
      subst (λ streams. IsKept declared streams (with_query set.program query)) (append_assoc set.streams (own ∷ []) hidden)
      (kept-hidden declared (set.streams ++ own ∷ []) (with_query set.program query) (kept-push declared set.streams set.program kept added.statement added.schema added.expr hides birth gives names absent) hidden
      (hidden-all hides (hidden_end query - hides)))

  -- one from which a query left that none reads
  pub kept-dropped : (query : Query) → Contains set.program.queries query → first_reader set query.stream ≡ None → IsKept declared (without set query).streams (without set query).program
  kept-dropped query there none = kept-without declared set.streams set.program kept query there (none-read set.program kept.typed.same_queries query.stream none)

-- the declared streams, by which event lines are read, and the streams by whose names events are told
pub record Tables : Type 0 where
  pub declared : List Entry
  pub streams : List Entry

module _ (a b : Tables) (first : ℕ → ℕ) where
  -- both sets are kept, and the first is within the second
  pub record IsInside (set other : QuerySet) : Type 0 where
    pub number : ℕ → ℕ
    pub kept : IsKept a.declared set.streams set.program
    pub kept_too : IsKept b.declared other.streams other.program
    pub within : IsWithin number first set.streams other.streams set.program other.program

  module _ (set other : QuerySet) (inside : IsInside set other) where
    -- one statement comes to both
    inside-added : (s : Statement) (schema other_schema : List Attr) (x y : Ex) (birth : Option ℕ) → Queries set.streams s schema x → Queries other.streams s other_schema y → OwnNames s
        → number_of (name_of s) set.streams ≡ None → number_of (name_of s) other.streams ≡ None
        → IsInside (with_added set (record { statement = s; schema = schema; expr = x }) birth) (with_added other (record { statement = s; schema = other_schema; expr = y }) birth)
    inside-added s schema other_schema x y birth gives gives_too names absent absent_too =
        let own : Entry = published_by s schema in
        let own_too : Entry = published_by s other_schema in
        let hides : ℕ = length set.streams + 1 in
        let hides_too : ℕ = length other.streams + 1 in
        let query : Query = record { name = name_of s; stream = length set.streams; hidden = hides; expr = x; birth = birth } in
        let twin : Query = record { name = name_of s; stream = length other.streams; hidden = hides_too; expr = y; birth = birth } in
        let hidden : List Entry = hidden_entries hides (hidden_end query - hides) in
        let hidden_too : List Entry = hidden_entries hides_too (hidden_end twin - hides_too) in
        let pushed = kept-push a.declared set.streams set.program inside.kept s schema x hides birth gives names absent in
        let pushed_too = kept-push b.declared other.streams other.program inside.kept_too s other_schema y hides_too birth gives_too names absent_too in
        let within = within-push inside.number first a.declared b.declared set.streams other.streams set.program other.program inside.kept inside.kept_too inside.within s schema other_schema x y hides hides_too birth gives gives_too names in
        let number : ℕ → ℕ = with_number inside.number (length set.streams) (length other.streams) in
        let program : Program = with_query set.program query in
        let program_too : Program = with_query other.program twin in
        record {
          number = number;
          kept = kept-added a.declared set inside.kept (record { statement = s; schema = schema; expr = x }) birth gives names absent;
          kept_too = kept-added b.declared other inside.kept_too (record { statement = s; schema = other_schema; expr = y }) birth gives_too names absent_too;
          within =
              subst (λ (p : List Entry × List Entry). IsWithin number first p.0 p.1 program program_too) (λ i. (append_assoc set.streams (own ∷ []) hidden i, append_assoc other.streams (own_too ∷ []) hidden_too i))
              (within-hidden number first a.declared b.declared (set.streams ++ own ∷ []) (other.streams ++ own_too ∷ []) program program_too pushed pushed_too within hidden hidden_too (hidden-all hides (hidden_end query - hides)));
        }

    -- texts add one statement to both
    pub inside-stated : (text other_text : List ℕ) (added twin : AddedQuery) (birth : Option ℕ) → IsTaken set.streams text added → IsTaken other.streams other_text twin → added.statement ≡ twin.statement
        → IsInside (with_added set added birth) (with_added other twin birth)
    inside-stated text other_text added twin birth is is_too same =
        let gives_too : Queries other.streams added.statement twin.schema twin.expr = subst (λ s. Queries other.streams s twin.schema twin.expr) (sym same) is_too.gives in
        let absent_too : number_of (name_of added.statement) other.streams ≡ None = ap (λ s. number_of (name_of s) other.streams) same ∙ is_too.absent in
        subst (λ (y : AddedQuery). IsInside (with_added set added birth) (with_added other y birth)) (λ i. record { statement = same i; schema = twin.schema; expr = twin.expr })
        (inside-added added.statement added.schema twin.schema added.expr twin.expr birth is.gives gives_too (taken-names set.streams text added is) is.absent absent_too)

    -- the same text adds one statement to both
    pub inside-taken : (text : List ℕ) (added twin : AddedQuery) (birth : Option ℕ) → JudgesAdded set.streams text (Taken added) → JudgesAdded other.streams text (Taken twin)
        → (added.statement ≡ twin.statement) × IsInside (with_added set added birth) (with_added other twin birth)
    inside-taken text added twin birth judges judges_too =
        let is = taken-is set.streams text added judges in
        let is_too = taken-is other.streams text twin judges_too in
        let same = (one-query-reading text added.statement twin.statement is.line is_too.line is.one is_too.one).statements in
        (same, inside-stated text text added twin birth is is_too same)

    -- queries of one name leave both
    pub inside-dropped : (query twin : Query) → Contains set.program.queries query → Contains other.program.queries twin → query.name ≡ twin.name → first_reader set query.stream ≡ None → first_reader other twin.stream ≡ None
        → IsInside (without set query) (without other twin)
    inside-dropped query twin there there_too same none none_too = record {
      number = inside.number;
      kept = kept-dropped a.declared set inside.kept query there none;
      kept_too = kept-dropped b.declared other inside.kept_too twin there_too none_too;
      within = within-without inside.number first a.declared b.declared set.streams other.streams set.program other.program inside.kept inside.kept_too inside.within query twin there there_too same;
    }
