-- Streams over lines that come and go.
use Rattle.std.proofs.Common.{◌≡◌, ◌∙◌, sym, ap, refl, subst, ℕ, ◌+◌, ◌<◌, ◌≤◌, ◌==◌, Bool, true, false, ◌&&◌, ◌||◌, cond, nat_lt, get_or, List, [], ◌∷◌, map, arith}
use Rattle.std.specs.Prelude.{Option, Some, None}
use Rattle.std.specs.List.{All, filter, filter_map, list_any}
use Rattle.std.proofs.Math.Bool.{or-true}
use Rattle.std.proofs.lemmas.Bool.{eqb-true}
use Rattle.std.proofs.lemmas.Bool.Decides.{nat_tests}
use Rattle.std.proofs.lemmas.List.Elements.{All-filter, All-head, All-tail, All-weaker}
use Rattle.std.proofs.lemmas.List.Folds.{Any-from_list_any}
use Rattle.event_types.specs.Tuple.{TupleView, IsSound}
use Rattle.event_types.proofs.NumberLemmas.{self_equal}
use Rattle.instances.specs.Births.{began_after}
use Rattle.semantics.specs.Births.{after, is_after, streams_after}
use Rattle.semantics.specs.Denotation.{Streams}
use Rattle.semantics.specs.Histories.{Event}
use Rattle.semantics.specs.Programs.{with_stream}
use Rattle.semantics.proofs.ReportLemmas.{filter_all, flat_map_same}
use Rattle.automaton.specs.Flow.{entering, given, leaving}
use Rattle.automaton.specs.Prefixes.{Prefix, Root, After, extended, path}
use Rattle.automaton.specs.Steps.{pass}
use Rattle.automaton.specs.Waiting.{waiting_in}
use Rattle.automaton.specs.Waits.{chosen}
use Rattle.automaton.specs.Work.{IsInOrder, ReadsNone, is_in}
use Rattle.automaton.specs.declared.line.Hop.{Hop}
use Rattle.automaton.specs.declared.line.Line.{Line}
use Rattle.epoch_laws.specs.Births.{AreSound, passing_after}
use Rattle.epoch_laws.specs.BornLines.{BornLine, lines_in}
use Rattle.epoch_laws.specs.Histories.{events_before, streams_over}
use Rattle.epoch_laws.specs.InstanceFlow.{completed_after, derived_after, each, flow_instances, given_after, waiting_behind, waiting_instances}
use Rattle.epoch_laws.specs.Instances.{begins, bindings_of}
use Rattle.epoch_laws.specs.Standing.{next_time}
use Rattle.epoch_laws.specs.Times.{IsPast}
use Rattle.epoch_laws.proofs.Completed.{of_lines}
use Rattle.epoch_laws.proofs.Each.{each_after}
use Rattle.epoch_laws.proofs.Folds.{sound_past}
use Rattle.epoch_laws.proofs.InstanceFlows.{given_later, instances_flow, later_flow}
use Rattle.epoch_laws.proofs.Lists.{every, filter-filter, filter_false}
use Rattle.epoch_laws.proofs.Streams.{over_past, streams_early}

-- what holds of each stream of an order
pub of_order : (P : ℕ → Type 0) (order : List ℕ) → All P order → (s : ℕ) → is_in order s ≡ true → P s
of_order P order all s is =
    let one = Any-from_list_any (λ n. s == n) order is in subst P (one.3 ∙ sym (eqb-true s one.1 one.4)) (all one.0 one.1 one.2)

-- what holds of the out stream of each line
pub of_outs : (P : ℕ → Type 0) (lines : List Line) → All (λ (l : Line). P l.out) lines → (s : ℕ) → list_any (λ (l : Line). l.out == s) lines ≡ true → P s
of_outs P lines all s is =
    let one = Any-from_list_any (λ (l : Line). l.out == s) lines is in subst P (ap (λ (l : Line). l.out) one.3 ∙ eqb-true one.1.out s one.4) (all one.0 one.1 one.2)

-- two streams of which something holds of one alone
pub other_stream : (P : ℕ → Type 0) (a b : ℕ) → P a → (P b → ⊥) → (a == b) ≡ false
other_stream P a b has lacks = go (a == b) refl
  where
    go : (t : Bool) → (a == b) ≡ t → (a == b) ≡ false
    go true is = absurd (lacks (subst P (eqb-true a b is) has))
    go false is = is

-- of no streams a line reads none
pub reads_nothing : (l : Line) → ReadsNone [] l
reads_nothing l = record { root = refl; hops = every (λ (h : Hop). false ≡ false) (λ h. refl) l.hops }

module _ (env other : Streams) where
  -- a prefix reads the same of both
  abbrev pub Alike : Prefix → Type 0
  Alike (Root s) = env s ≡ other s
  Alike (After p h) = Alike p × (env h.wait.stream ≡ other h.wait.stream)

  flow_alike : (p : Prefix) → Alike p → flow_instances env p ≡ flow_instances other p
  flow_alike (Root s) same = ap (map begins) same
  flow_alike (After p h) same = λ i. each (λ ts. chosen h.wait.choose h.wait.fold (same.1 i) (entering h ts)) (flow_alike p same.0 i)

  -- so the same waits there
  pub waiting_alike : (p : Prefix) (h : Hop) → Alike (After p h) → waiting_instances env p h ≡ waiting_instances other p h
  waiting_alike p h same = λ i. each (λ ts. waiting_in h.wait.choose h.wait.fold (same.1 i) (entering h ts)) (flow_alike p same.0 i)

  -- with hops that read the same it does so still
  pub alike_extended : (hops : List Hop) (p : Prefix) → Alike p → All (λ (h : Hop). env h.wait.stream ≡ other h.wait.stream) hops → Alike (extended p hops)
  alike_extended [] p same all = same
  alike_extended (h ∷ hops) p same all =
      alike_extended hops (After p h) (same, All-head (λ (h : Hop). env h.wait.stream ≡ other h.wait.stream) h hops all) (All-tail (λ (h : Hop). env h.wait.stream ≡ other h.wait.stream) h hops all)

  -- and at each prefix with which it begins
  pub alike_before : (hops : List Hop) (p : Prefix) → Alike (extended p hops) → Alike p
  alike_before [] p same = same
  alike_before (h ∷ hops) p same = (alike_before hops (After p h) same).0

  -- a line that reads neither of some streams nor of others reads the same
  pub line_alike : (gone done : List ℕ) → ((s : ℕ) → is_in gone s ≡ false → is_in done s ≡ false → env s ≡ other s) → (l : Line) → ReadsNone gone l → ReadsNone done l → Alike (path l)
  line_alike gone done same l reads more = alike_extended l.hops (Root l.root) (same l.root reads.root more.root) (λ k d lt. same (get_or l.hops k d).wait.stream (reads.hops k d lt) (more.hops k d lt))

  -- and gives the same
  pub given_alike : (b : BornLine) → Alike (path b.line) → given_after env b ≡ given_after other b
  given_alike b same = ap (passing_after b.line.last b.birth) (flow_alike (path b.line) same)

-- streams that are what the lines derive of them are those of the lines, but for some that no line reads
pub are_completed : (lines : List BornLine) (gone : List ℕ) → All (λ (b : BornLine). ReadsNone gone b.line) lines → (order : List ℕ) (heard env : Streams) → IsInOrder (lines_in lines) order
    → ((s : ℕ) → is_in gone s ≡ false → is_in order s ≡ false → env s ≡ heard s) → ((s : ℕ) → is_in gone s ≡ false → is_in order s ≡ true → env s ≡ derived_after lines env s)
    → (s : ℕ) → is_in gone s ≡ false → env s ≡ completed_after lines order heard s
are_completed lines gone reads [] heard env ordered same made s e = same s e refl
are_completed lines gone reads (n ∷ order) heard env ordered same made s e =
    are_completed lines gone reads order (with_stream heard n (derived_after lines heard n)) env ordered.2 (λ t f g. go t f g (t == n) refl)
    (λ t f g. made t f (ap (λ b. (t == n) || b) g ∙ or-true (t == n))) s e
  where
    those : List BornLine
    those = filter (λ (b : BornLine). b.line.out == n) lines

    derived_alike : derived_after lines env n ≡ derived_after lines heard n
    derived_alike =
        flat_map_same (given_after env) (given_after heard) those
        (λ k d lt. given_alike env heard (get_or those k d)
        (line_alike env heard gone (n ∷ order) same (get_or those k d).line (All-filter (λ (b : BornLine). b.line.out == n) (λ (b : BornLine). ReadsNone gone b.line) lines reads k d lt) (of_lines (ReadsNone (n ∷ order)) lines n ordered.0 k d lt)))

    go : (t : ℕ) → is_in gone t ≡ false → is_in order t ≡ false → (b : Bool) → (t == n) ≡ b → env t ≡ with_stream heard n (derived_after lines heard n) t
    go t f g true is =
        let here : t ≡ n = eqb-true t n is in
        subst (λ m. env m ≡ derived_after lines heard n) (sym here) (made n (subst (λ m. is_in gone m ≡ false) here f) (ap (λ b. b || is_in order n) (self_equal n)) ∙ derived_alike)
        ∙ sym (ap (λ b. cond b (derived_after lines heard n) (heard t)) is)
    go t f g false is = same t f (ap (λ b. b || is_in order t) is ∙ g) ∙ sym (ap (λ b. cond b (derived_after lines heard n) (heard t)) is)

-- where nothing is detected after a birth
module _ (env : Streams) (sound : AreSound env) (birth : Option ℕ) (none : (s : ℕ) → after birth (env s) ≡ []) where
  flow_none : (p : Prefix) → flow_instances (streams_after birth env) p ≡ []
  flow_none (Root s) = ap (map begins) (none s)
  flow_none (After p h) = ap (each (leaving h (streams_after birth env))) (flow_none p)

  -- nothing that waits began after it
  pub waits_none : (p : Prefix) (h : Hop) → began_after birth (waiting_instances env p h) ≡ []
  waits_none p h = each_after birth (waiting_behind h env) (flow_instances env p) ∙ ap (each (waiting_behind h env)) (later_flow env sound birth p ∙ flow_none p)

  -- and no line that was born then gives anything
  pub given_none : (b : BornLine) → b.birth ≡ birth → given_after env b ≡ []
  given_none b is =
      given_later env sound b
      ∙ ap (λ (o : Option ℕ). given (streams_after o env) b.line) is
      ∙ ap (filter_map (pass b.line.last)) (sym (instances_flow (streams_after birth env) (path b.line)) ∙ ap bindings_of (flow_none (path b.line)))

-- tests of times
under_next : (at next : ℕ) → at < next → at ≤ next
under_next at next lt = omega (arith, lt)

is_under : (at next : ℕ) → at < next → nat_lt at next ≡ true
is_under at next lt = grind (arith, nat_tests)

-- no time is both before the one after a birth and after the birth
not_after : (birth : Option ℕ) (at : ℕ) → (nat_lt at (next_time birth) && is_after birth at) ≡ false
not_after None at = go (nat_lt at 0) refl
  where
    go : (b : Bool) → nat_lt at 0 ≡ b → (b && true) ≡ false
    go true is = absurd (let lt : at < 0 = grind (arith, nat_tests) in omega (arith, lt))
    go false is = refl
not_after (Some birth) at = go (nat_lt at (birth + 1)) refl
  where
    go : (b : Bool) → nat_lt at (birth + 1) ≡ b → (b && nat_lt birth at) ≡ false
    go true is = grind (arith, nat_tests)
    go false is = refl

-- over a history
module _ (lines : List BornLine) (order : List ℕ) (history : List Event) (birth : Option ℕ) (earlier : All (λ (e : Event). IsSound e.tuple × (e.tuple.at < next_time birth)) history) where
  abbrev streams : Streams
  streams = streams_over lines order history

  past : All (λ (e : Event). IsPast (next_time birth) e.tuple) history
  past = All-weaker (λ (e : Event). IsSound e.tuple × (e.tuple.at < next_time birth)) (λ (e : Event). IsPast (next_time birth) e.tuple) (λ e h. (h.0, under_next e.tuple.at (next_time birth) h.1)) history earlier

  -- the streams are sound
  pub over_sound : AreSound (streams_over lines order history)
  over_sound s = sound_past (next_time birth) (streams s) (over_past (next_time birth) lines order history past s)

  all_before : events_before (next_time birth) history ≡ history
  all_before =
      filter_all (λ (e : Event). nat_lt e.tuple.at (next_time birth)) history
      (All-weaker (λ (e : Event). IsSound e.tuple × (e.tuple.at < next_time birth)) (λ (e : Event). nat_lt e.tuple.at (next_time birth) ≡ true) (λ e h. is_under e.tuple.at (next_time birth) h.1) history earlier)

  -- nothing is detected after its last time
  pub none_after : (s : ℕ) → after birth (streams_over lines order history s) ≡ []
  none_after s =
      ap (after birth) (sym (streams_early (next_time birth) lines order history past s ∙ ap (λ (h : List Event). streams_over lines order h s) all_before))
      ∙ filter-filter (λ (t : TupleView). is_after birth t.at) (λ (t : TupleView). nat_lt t.at (next_time birth)) (streams s)
      ∙ filter_false (λ (t : TupleView). nat_lt t.at (next_time birth) && is_after birth t.at) (streams s)
      (every (λ (t : TupleView). (nat_lt t.at (next_time birth) && is_after birth t.at) ≡ false) (λ t. not_after birth t.at) (streams s))
