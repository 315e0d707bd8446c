-- A line that comes to its end.
use Rattle.std.proofs.Common.{◌≡◌, ◌⊎◌, ◌∙◌, sym, ap, refl, subst, inl, inr, ℕ, ◌+◌, ◌<◌, ◌==◌, ◌||◌, Bool, true, false, cond, length, append-nil, List, [], ◌∷◌, ◌++◌, arith}
use Rattle.std.specs.Prelude.{Option, Some, None, Contains, is_some, sum_by, count_by}
use Rattle.std.specs.List.{list_any}
use Rattle.std.specs.List.Sorted.{IsPermutation}
use Rattle.std.specs.Option.{option_and_then}
use Rattle.std.proofs.lemmas.Grind.{flat_map-append}
use Rattle.std.proofs.lemmas.List.{length-append, length-set}
use Rattle.std.proofs.lemmas.List.Folds.{list_any-append}
use Rattle.std.proofs.lemmas.List.Sorted.{IsPermutation-append_left, IsPermutation-trans}
use Rattle.std.proofs.lemmas.List.Sums.{sum_by_push}
use Rattle.automaton.specs.declared.line.Hop.{Hop}
use Rattle.automaton.specs.declared.line.Line.{Line}
use Rattle.automaton.specs.declared.network.End.{End}
use Rattle.automaton.specs.declared.network.State.{State}
use Rattle.automaton.specs.Growing.{IsGrown, IsWhole, ended, with_end}
use Rattle.automaton.specs.NetworkLines.{ArePlaces, Ending, ending_at, endings_by}
use Rattle.automaton.specs.Plain.{numbered}
use Rattle.automaton.specs.Prefixes.{beginnings, path, prefixes}
use Rattle.automaton.specs.States.{Net, before_at, before_by, before_in, edges_at, edges_in, ends_at, ends_in, entrance_at, entrance_in, is_used, root_by, root_in, state_at, tells}
use Rattle.automaton.proofs.CountLemmas.{bit, count-set}
use Rattle.event_types.proofs.NumberLemmas.{is_other, is_same}
use Rattle.automaton.proofs.NumberLemmas.{are_same_or_not}
use Rattle.automaton.proofs.PlaceLemmas.{endings_more, numbered-push, path-ending, path-hops, path-root}
use Rattle.automaton.proofs.SlotLemmas.{KeepsEntries, at_kept, at_one, at_used, changed_here, changed_other, end_edges, end_ends, end_entry, end_is_some, ended_reads, used_below}

module _ (net : Net) (tip : ℕ) (end : End) (used : is_used net tip ≡ true) where
  end_inside : tip < length net
  end_inside = used_below net tip used

  end_entries : (number : ℕ) → entrance_at (ended tip end net) number ≡ entrance_at net number
  end_entries = ended_reads entrance_in net tip end end_inside (end_entry end (state_at net tip))

  end_edges_same : (number : ℕ) → edges_at (ended tip end net) number ≡ edges_at net number
  end_edges_same = ended_reads edges_in net tip end end_inside (end_edges end (state_at net tip))

  end_ends_tip : ends_at (ended tip end net) tip ≡ ends_at net tip ++ end ∷ []
  end_ends_tip = ap ends_in (changed_here net tip (with_end end (state_at net tip)) end_inside) ∙ end_ends end (state_at net tip) used

  end_ends_other : (number : ℕ) → (number ≡ tip → ⊥) → ends_at (ended tip end net) number ≡ ends_at net number
  end_ends_other number nt = ap ends_in (changed_other net tip (with_end end (state_at net tip)) number nt)

  end_count : (p : Option State → Bool) → p (with_end end (state_at net tip)) ≡ p (state_at net tip) → count_by p (ended tip end net) ≡ count_by p net
  end_count p same = count-set p net tip (with_end end (state_at net tip)) None end_inside same

  end_used : (number : ℕ) → is_used (ended tip end net) number ≡ is_used net number
  end_used = ended_reads is_some net tip end end_inside (end_is_some end (state_at net tip))

  end_apart : ((number before : ℕ) → before_at net number ≡ Some before → length (edges_at net number) + length (ends_at net number) ≡ cond (number == tip) 0 1)
      → (number before : ℕ) → before_at (ended tip end net) number ≡ Some before → length (edges_at (ended tip end net) number) + length (ends_at (ended tip end net) number) ≡ 1
  end_apart old number before is = by_number (are_same_or_not number tip)
    where
      was : length (edges_at net number) + length (ends_at net number) ≡ cond (number == tip) 0 1
      was = old number before (sym (ap (option_and_then before_by) (end_entries number)) ∙ is)

      by_number : (number ≡ tip) ⊎ (number ≡ tip → ⊥) → length (edges_at (ended tip end net) number) + length (ends_at (ended tip end net) number) ≡ 1
      by_number (inl same) =
          let old_zero : cond {A = ℕ} (number == tip) 0 1 ≡ 0 = ap (λ (b : Bool). cond {A = ℕ} b 0 1) (is_same number tip same) in
          let longer : length (ends_at (ended tip end net) number) ≡ length (ends_at net number) + 1 =
          ap (λ n. length (ends_at (ended tip end net) n)) same ∙ ap length end_ends_tip ∙ length-append (ends_at net tip) (end ∷ []) ∙ ap (λ n. length (ends_at net n) + 1) (sym same) in
          omega (arith, was, ap length (end_edges_same number))
      by_number (inr nt) =
          let old_one : cond {A = ℕ} (number == tip) 0 1 ≡ 1 = ap (λ (b : Bool). cond {A = ℕ} b 0 1) (is_other number tip nt) in
          omega (arith, was, ap length (end_edges_same number), ap length (end_ends_other number nt))

or_false : (b : Bool) → (b || false) ≡ b
or_false true = refl
or_false false = refl

-- a line more begins in its root too
begins-push : (stream : ℕ) (lines : List Line) (line : Line) → (list_any (λ l. l.root == stream) lines || (line.root == stream)) ≡ list_any (λ l. l.root == stream) (lines ++ line ∷ [])
begins-push stream lines line =
    sym (list_any-append (λ (l : Line). l.root == stream) lines (line ∷ []) ∙ ap (λ b. list_any (λ (l : Line). l.root == stream) lines || b) (or_false (line.root == stream)))

-- its prefixes come to those of the others
prefixes-push : (lines : List Line) (line : Line) → prefixes lines ++ beginnings (path line) ≡ prefixes (lines ++ line ∷ [])
prefixes-push lines line = ap (λ ps. prefixes lines ++ ps) (sym (append-nil (beginnings (path line)))) ∙ sym (flat_map-append (λ l. beginnings (path l)) lines (line ∷ []))

-- the line comes to its end
pub grown_end : (lines : List Line) (line : Line) (tip : ℕ) (net : Net) → IsGrown lines tip (path line) net
    → IsWhole (lines ++ line ∷ []) (ended tip (record { step = line.last; out = line.out; number = length lines; birth = None }) net)
grown_end lines line tip net g =
    let end : End = record { step = line.last; out = line.out; number = length lines; birth = None } in
    let used = g.used in
    let lt = used_below net tip used in
    let entries = end_entries net tip end used in
    let keeps : KeepsEntries net (ended tip end net) = λ number e is. entries number ∙ is in
    let are : ArePlaces (ended tip end net) g.places = λ number u. at_kept net (ended tip end net) keeps number (g.places number) (g.are_places number (sym (end_used net tip end used number) ∙ u)) in
    let more = endings_more net (ended tip end net) (length-set net tip (with_end end (state_at net tip))) g.places tip end lt (end_ends_tip net tip end used) (end_ends_other net tip end used) in
    let its : ending_at (g.places tip) end ≡ record { line = line; number = 0 + length lines; birth = None } =
    ap (λ p. ending_at p end) g.here ∙ path-ending line (length lines) None ∙ (let e : length lines ≡ 0 + length lines = omega arith in ap (λ (n : ℕ). let ending : Ending = record { line = line; number = n; birth = None } in ending) e) in
    let same : IsPermutation (endings_by g.places (ended tip end net)) (numbered 0 (lines ++ line ∷ [])) =
    subst (IsPermutation (endings_by g.places (ended tip end net))) (ap (λ e. numbered 0 lines ++ e ∷ []) its ∙ sym (numbered-push 0 lines line))
    (IsPermutation-trans _ _ _ more (IsPermutation-append_left (ending_at (g.places tip) end ∷ []) (endings_by g.places net) (numbered 0 lines) g.same)) in
    record {
      network = record {
        places = λ number u. (g.places number, are number u);
        edges = λ number next.
            ap (count_by (λ edge. edge == next)) (end_edges_same net tip end used number) ∙ g.network.edges number next ∙ ap (λ o. bit (tells number (option_and_then before_by o))) (sym (entries next));
      };
      plain = record {
        endings = record { places = g.places; are_places = are; same = same };
        roots = λ stream.
            end_count net tip end used (λ slot. tells stream (root_in slot)) (ap (λ o. tells stream (option_and_then root_by o)) (end_entry end (state_at net tip)))
            ∙ g.roots stream ∙ ap (λ (r : ℕ). bit (list_any (λ l. l.root == stream) lines || (r == stream))) (path-root line) ∙ ap bit (begins-push stream lines line);
        waiting =
            end_count net tip end used (λ slot. is_some (before_in slot)) (ap (λ o. is_some (option_and_then before_by o)) (end_entry end (state_at net tip)))
            ∙ g.waiting ∙ ap (λ (hops : List Hop). sum_by (λ l. length l.hops) lines + length hops) (path-hops line) ∙ sym (sum_by_push (λ (l : Line). length l.hops) lines line);
        apart = end_apart net tip end used g.apart;
        prefixes_only = λ number prefix at.
            let u : is_used (ended tip end net) number ≡ true = at_used (ended tip end net) number prefix at in
            subst (λ among. Contains among prefix) (prefixes-push lines line)
            (subst (Contains (prefixes lines ++ beginnings (path line))) (at_one (ended tip end net) number (g.places number) prefix (are number u) at) (g.prefixes_only number (sym (end_used net tip end used number) ∙ u)));
      };
      full = end_count net tip end used is_some (end_is_some end (state_at net tip)) ∙ g.full ∙ sym (length-set net tip (with_end end (state_at net tip)));
    }
