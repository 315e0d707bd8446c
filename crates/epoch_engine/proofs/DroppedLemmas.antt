-- Engines that lines left stand for the lines that stay.
use Rattle.std.proofs.Common.{◌≡◌, ◌∙◌, ◌⊎◌, inl, inr, sym, ap, refl, subst, ℕ, ◌==◌, Bool, true, false, not, ◌&&◌, cond, List, [], map}
use Rattle.std.specs.Prelude.{Contains, Option, None, is_some}
use Rattle.std.specs.Option.{option_and_then}
use Rattle.std.specs.List.{All, filter, flat_map, list_any}
use Rattle.std.proofs.lemmas.List.Elements.{All-contains, All-contains_itself, All-filter, All-map, All-weaker}
use Rattle.std.proofs.lemmas.List.Folds.{list_any_at}
use Rattle.event_types.proofs.NumberLemmas.{self_equal}
use Rattle.instances.specs.declared.instance.Instance.{Instance}
use Rattle.semantics.specs.Denotation.{Streams}
use Rattle.semantics.specs.Histories.{Event, heard_on}
use Rattle.semantics.proofs.ListLemmas.{filter-map}
use Rattle.automaton.specs.NetworkLines.{Ending, HasEndings}
use Rattle.automaton.specs.Networks.{IsAt}
use Rattle.automaton.specs.Prefixes.{Prefix, After}
use Rattle.automaton.specs.States.{wait_by}
use Rattle.automaton.specs.Work.{IsInOrder, ReadsNone, is_in}
use Rattle.automaton.specs.declared.layout.Layout.{Layout}
use Rattle.automaton.specs.declared.line.Hop.{Hop}
use Rattle.automaton.specs.declared.line.Line.{Line}
use Rattle.automaton.specs.declared.wait.Wait.{Wait}
use Rattle.automaton.proofs.SlotLemmas.{at_kept}
use Rattle.stream_readers.proofs.OnceLemmas.{from_filter, in_filter}
use Rattle.prefix_merge.specs.Turns.{is_among}
use Rattle.prefix_merge.proofs.StartLemmas.{stay_keeps}
use Rattle.prefix_merge.proofs.ContainLemmas.{from_map, in_map}
use Rattle.epoch_laws.specs.Births.{IsNoLater}
use Rattle.epoch_laws.specs.BornLines.{BornLine, IsReadAfter, born_by, lines_in}
use Rattle.epoch_laws.specs.Histories.{streams_over}
use Rattle.epoch_laws.specs.InstanceFlow.{derived_after, given_after, waiting_instances}
use Rattle.epoch_laws.specs.Standing.{next_time}
use Rattle.epoch_laws.specs.Stores.{Purged}
use Rattle.epoch_laws.proofs.Completed.{completed_other, streams_derived}
use Rattle.epoch_laws.proofs.Lists.{filter-filter, filter_alike, map_all}
use Rattle.epoch_engine.specs.Adding.{Drops}
use Rattle.epoch_engine.specs.AddingLaws.{DroppedStands, LayoutShrinks, ReadNoneThatGoes, going, staying}
use Rattle.epoch_engine.specs.EngineStandsFor.{EngineStandsFor}
use Rattle.epoch_engine.specs.EngineView.{EngineView, stores_in}
use Rattle.epoch_engine.proofs.AddingLawLemmas.{stayed}
use Rattle.epoch_engine.proofs.BornLemmas.{born_ended}
use Rattle.epoch_engine.proofs.OverStandsLemmas.{over_stands, were}
use Rattle.epoch_engine.proofs.ReadLemmas.{some_reads}
use Rattle.epoch_engine.proofs.StreamLemmas.{Alike, alike_before, are_completed, line_alike, of_order, of_outs, other_stream, reads_nothing, waiting_alike}

-- the streams that no line that goes publishes are as they were
module _ (ends : List ℕ) (endings : List Ending) (old new : Layout) (history : List Event) (shrinks : LayoutShrinks ends endings old new) (apart : ReadNoneThatGoes ends endings) where
  abbrev had : List BornLine
  had = map born_by endings

  abbrev left : List BornLine
  left = map born_by (staying ends endings)

  -- the out streams of the lines that go
  abbrev pub gone : List ℕ
  gone = map (λ (e : Ending). e.line.out) (going ends endings)

  abbrev env : Streams
  env = streams_over had old.order history

  had_ordered : IsInOrder (lines_in had) old.order
  had_ordered = subst (λ (ls : List Line). IsInOrder ls old.order) (sym (born_ended endings)) shrinks.fits.in_order

  pub left_ordered : IsInOrder (lines_in left) new.order
  left_ordered = subst (λ (ls : List Line). IsInOrder ls new.order) (sym (born_ended (staying ends endings))) shrinks.fits_left.in_order

  pub left_read : All (λ (b : BornLine). ReadsNone gone b.line) left
  left_read = All-map (λ (b : BornLine). ReadsNone gone b.line) born_by (staying ends endings) apart

  -- an out stream that goes is among these
  is_gone : (e : Ending) → Contains endings e → is_among ends e.number ≡ true → is_in gone e.line.out ≡ true
  is_gone e has goes =
      let out = in_map (λ (e : Ending). e.line.out) (going ends endings) e (in_filter (λ (e : Ending). is_among ends e.number) endings e goes has) in
      list_any_at (λ n. e.line.out == n) gone out.0 e.line.out out.1 (ap (λ n. e.line.out == n) out.2 ∙ self_equal e.line.out)

  -- and another one is worked on still
  is_left : (e : Ending) → Contains endings e → is_among ends e.number ≡ false → is_in new.order e.line.out ≡ true
  is_left e has stays =
      All-contains (λ (l : Line). is_in new.order l.out ≡ true) (map (λ (e : Ending). e.line) (staying ends endings)) e.line shrinks.fits_left.all_outs
      (in_map (λ (e : Ending). e.line) (staying ends endings) e (in_filter (λ (e : Ending). not (is_among ends e.number)) endings e (ap not stays) has))

  either : (e : Ending) → Contains endings e → (b : Bool) → is_among ends e.number ≡ b → (is_in new.order e.line.out ≡ true) ⊎ (is_in gone e.line.out ≡ true)
  either e has true goes = inr (is_gone e has goes)
  either e has false stays = inl (is_left e has stays)

  was_published : (s : ℕ) → is_in old.order s ≡ true → (is_in new.order s ≡ true) ⊎ (is_in gone s ≡ true)
  was_published s was =
      of_outs (λ n. (is_in new.order n ≡ true) ⊎ (is_in gone n ≡ true)) (map (λ (e : Ending). e.line) endings)
      (All-map (λ (l : Line). (is_in new.order l.out ≡ true) ⊎ (is_in gone l.out ≡ true)) (λ (e : Ending). e.line) endings
      (All-weaker (Contains endings) (λ (e : Ending). (is_in new.order e.line.out ≡ true) ⊎ (is_in gone e.line.out ≡ true)) (λ e has. either e has (is_among ends e.number) refl) endings (All-contains_itself endings)))
      s (of_order (λ n. list_any (λ (l : Line). l.out == n) (map (λ (e : Ending). e.line) endings) ≡ true) old.order shrinks.fits.only_outs s was)

  in_both : (s : ℕ) → is_in new.order s ≡ true → is_in old.order s ≡ true
  in_both s is =
      of_outs (λ n. is_in old.order n ≡ true) (map (λ (e : Ending). e.line) (staying ends endings))
      (All-map (λ (l : Line). is_in old.order l.out ≡ true) (λ (e : Ending). e.line) (staying ends endings)
      (All-filter (λ (e : Ending). not (is_among ends e.number)) (λ (e : Ending). is_in old.order e.line.out ≡ true) endings (map_all (λ (l : Line). is_in old.order l.out ≡ true) (λ (e : Ending). e.line) endings shrinks.fits.all_outs)))
      s (of_order (λ n. list_any (λ (l : Line). l.out == n) (map (λ (e : Ending). e.line) (staying ends endings)) ≡ true) new.order shrinks.fits_left.only_outs s is)

  -- such a stream has the same lines
  same_lines : (s : ℕ) → is_in gone s ≡ false → filter (λ (b : BornLine). b.line.out == s) had ≡ filter (λ (b : BornLine). b.line.out == s) left
  same_lines s lacks =
      filter-map (λ (b : BornLine). b.line.out == s) born_by endings
      ∙ ap (map born_by)
      (sym (filter_alike (λ (e : Ending). not (is_among ends e.number) && (e.line.out == s)) (λ (e : Ending). e.line.out == s) endings
      (All-weaker (Contains endings) (λ (e : Ending). (not (is_among ends e.number) && (e.line.out == s)) ≡ (e.line.out == s)) (λ e has. test e has (is_among ends e.number) refl) endings (All-contains_itself endings)))
      ∙ sym (filter-filter (λ (e : Ending). e.line.out == s) (λ (e : Ending). not (is_among ends e.number)) endings))
      ∙ sym (filter-map (λ (b : BornLine). b.line.out == s) born_by (staying ends endings))
    where
      test : (e : Ending) → Contains endings e → (b : Bool) → is_among ends e.number ≡ b → (not (is_among ends e.number) && (e.line.out == s)) ≡ (e.line.out == s)
      test e has true goes =
          ap (λ b. not b && (e.line.out == s)) goes ∙ sym (other_stream (λ n. is_in gone n ≡ true) e.line.out s (is_gone e has goes) (λ has'. let no : false ≡ true = sym lacks ∙ has' in cc))
      test e has false stays = ap (λ b. not b && (e.line.out == s)) stays

  derived : (s : ℕ) → is_in gone s ≡ false → is_in new.order s ≡ true → env s ≡ derived_after left env s
  derived s lacks is =
      of_order (λ n. env n ≡ derived_after had env n) old.order (streams_derived had old.order (heard_on history) had_ordered) s (in_both s is) ∙ ap (flat_map (given_after env)) (same_lines s lacks)

  heard : (s : ℕ) → is_in gone s ≡ false → is_in new.order s ≡ false → (b : Bool) → is_in old.order s ≡ b → env s ≡ heard_on history s
  heard s lacks out true was = absurd (elim (was_published s was) [ inl is ↦ (let no : false ≡ true = sym out ∙ is in cc) | inr is ↦ (let no : false ≡ true = sym lacks ∙ is in cc) ])
  heard s lacks out false was = completed_other had old.order (heard_on history) s was

  pub same_but_gone : (s : ℕ) → is_in gone s ≡ false → env s ≡ streams_over left new.order history s
  same_but_gone = are_completed left gone left_read new.order (heard_on history) env left_ordered (λ s lacks out. heard s lacks out (is_in old.order s) refl) derived

module _ (ends : List ℕ) (layout : Layout) (old new : EngineView) (endings : List Ending) (history : List Event) (stands : EngineStandsFor old (map born_by endings) history) (has : HasEndings old.network endings) (closed : old.time ≡ None)
    (drops : Drops ends layout old new) (shrinks : LayoutShrinks ends endings old.layout layout) (apart : ReadNoneThatGoes ends endings) where
  abbrev lines : List BornLine
  lines = map born_by (staying ends endings)

  abbrev was : Streams
  was = streams_over (map born_by endings) old.layout.order history

  abbrev is : Streams
  is = streams_over lines layout.order history

  -- a line that stays was there
  there : (b : BornLine) → Contains lines b → Contains (map born_by endings) b
  there b found =
      let from = from_map born_by (staying ends endings) b found in
      subst (Contains (map born_by endings)) from.2 (in_map born_by endings from.0 (from_filter (λ (e : Ending). not (is_among ends e.number)) endings from.0 from.1).1)

  module _ (number : ℕ) (p : Prefix) (h : Hop) (at : IsAt new.network number (After p h)) where
    was_at : IsAt old.network number (After p h)
    was_at = at_kept new.network old.network (stay_keeps new.network old.network (λ n used. sym (drops.removed.stay n used))) number (After p h) at

    same_store : stores_in new number ≡ stores_in old number
    same_store = drops.stores number ∙ ap (λ (o : Option Wait). cond (is_some o) (stores_in old number) []) (ap (option_and_then wait_by) at.1)

    same_waits : waiting_instances was p h ≡ waiting_instances is p h
    same_waits =
        let reads = (some_reads new.network lines drops.goes_over.merged (stayed ends layout old new endings drops has) number (After p h) at).1 in
        let none = All-contains (λ (b : BornLine). ReadsNone (gone ends endings old.layout layout history shrinks apart) b.line) lines reads.0 (left_read ends endings old.layout layout history shrinks apart) reads.2 in
        waiting_alike was is p h
        (alike_before was is reads.1 (After p h)
        (subst (Alike was is) reads.3
        (line_alike was is (gone ends endings old.layout layout history shrinks apart) [] (λ s lacks free. same_but_gone ends endings old.layout layout history shrinks apart s lacks) reads.0.line none (reads_nothing reads.0.line))))

    purged : Purged (next_time old.closed_time) (IsReadAfter (map born_by endings) (After p h)) h.wait.choose (waiting_instances is p h) (stores_in new number)
    purged =
        subst (λ (store : List Instance). Purged (next_time old.closed_time) (IsReadAfter (map born_by endings) (After p h)) h.wait.choose (waiting_instances is p h) store) (sym same_store)
        (subst (λ (waits : List Instance). Purged (next_time old.closed_time) (IsReadAfter (map born_by endings) (After p h)) h.wait.choose waits (stores_in old number)) same_waits
        ((were layout old new (map born_by endings) history stands closed drops.goes_over).stores_stand.holds number p h was_at))

    holds : Purged (next_time old.closed_time) (IsReadAfter lines (After p h)) h.wait.choose (waiting_instances is p h) (stores_in new number)
    holds = record { at_least = λ birth read. purged.at_least birth (read.0, read.1, there read.0 read.2, read.3, read.4); at_most = purged.at_most }

  stands_left : EngineStandsFor new lines history
  stands_left =
      over_stands layout old new (map born_by endings) history stands closed drops.goes_over lines
      (record { has_lines = stayed ends layout old new endings drops has; in_order = left_ordered ends endings old.layout layout history shrinks apart })
      (All-map (λ (b : BornLine). IsNoLater b.birth old.closed_time) born_by (staying ends endings)
      (All-filter (λ (e : Ending). not (is_among ends e.number)) (λ (e : Ending). IsNoLater e.birth old.closed_time) endings (map_all (λ (b : BornLine). IsNoLater b.birth old.closed_time) born_by endings stands.births)))
      (λ number none. drops.stores number ∙ ap (λ (o : Option Wait). cond (is_some o) (stores_in old number) []) none) holds

-- an engine that lines left
pub dropped_stands : DroppedStands
dropped_stands ends layout old new endings history stands has closed drops shrinks apart = stands_left ends layout old new endings history stands has closed drops shrinks apart
