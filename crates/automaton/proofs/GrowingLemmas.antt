-- A plain network that grows by a line, as the code has it.
use Rattle.std.proofs.Common.{◌≡◌, ◌∙◌, sym, ap, subst, ℕ, ◌+◌, ◌<◌, ◌≤◌, length, get_or, set, take, List, [], ◌∷◌, ◌++◌, arith}
use Rattle.std.specs.Prelude.{Option, Some, None, slice_get}
use Rattle.std.proofs.lemmas.List.{length-take, take_all, take_more}
use Rattle.std.proofs.lemmas.Option.{get_or_from_slice_get, slice_get-get_or, slice_get_within}
use Rattle.automaton.specs.declared.line.Hop.{Hop}
use Rattle.automaton.specs.declared.line.Line.{Line}
use Rattle.automaton.specs.declared.network.State.{State}
use Rattle.automaton.specs.declared.step.Stage.{Stage}
use Rattle.automaton.specs.Growing.{IsGrown, IsWhole, hopped, with_end}
use Rattle.automaton.specs.Prefixes.{Prefix, Root, After, extended, path}
use Rattle.automaton.specs.States.{Net, state_at}
use Rattle.automaton.proofs.PlaceLemmas.{extended-push}
use Rattle.automaton.proofs.SlotLemmas.{hopped_length}
use Rattle.automaton.proofs.HopLemmas.{grown_hop}
use Rattle.automaton.proofs.EndLemmas.{grown_end}

-- a slot that is read is the state at its number
pub same_read : (net : Net) (tip : ℕ) (slot : Option State) → tip < length net → slot ≡ get_or net tip slot → slot ≡ state_at net tip
same_read net tip slot lt is =
    let one = slice_get-get_or net tip slot lt in let other = slice_get-get_or net tip None lt in cc

-- after one hop more the line is one hop further
pub next_state : (Holds : List Line → Type 0) (first : Prefix) (hops : List Hop) (index : ℕ) (hop : Hop) (old new : Net) (tip next : ℕ) → index < length hops → hop ≡ get_or hops index hop → next ≡ length old → new ≡ hopped tip hop old
    → (tip < length old) × ((lines : List Line) → Holds lines → IsGrown lines tip (extended first (take index hops)) old)
    → (next < length new) × ((lines : List Line) → Holds lines → IsGrown lines next (extended first (take (index + 1) hops)) new)
next_state Holds first hops index hop old new tip next inside is at_end grown so_far = (
  (let longer = ap length grown ∙ hopped_length old tip hop so_far.0 in omega (arith, at_end)),
  λ lines holds.
      (let prefix : After (extended first (take index hops)) hop ≡ extended first (take (index + 1) hops) =
      sym (extended-push first (take index hops) hop) ∙ ap (λ h. extended first (take index hops ++ h ∷ [])) is ∙ ap (extended first) (sym (take_more hops index hop inside)) in
      let more = grown_hop lines tip (extended first (take index hops)) hop old (so_far.1 lines holds) in
      subst (λ (s : ℕ × Prefix × Net). IsGrown lines s.0 s.1 s.2) (λ i. (sym at_end i, prefix i, sym grown i)) more),
)

-- after all hops the end is put
pub last_state : (Holds : List Line → Type 0) (line : Line) (hops : List Hop) (index : ℕ) (net : Net) (tip number : ℕ) (step : List Stage) (read put : Option State) → length hops ≤ index → hops ≡ line.hops → step ≡ line.last
    → read ≡ get_or net tip read → put ≡ with_end (record { step = step; out = line.out; number = number; birth = None }) read
    → (tip < length net) × ((lines : List Line) → Holds lines → IsGrown lines tip (extended (Root line.root) (take index hops)) net)
    → (lines : List Line) → number ≡ length lines → Holds lines → IsWhole (lines ++ line ∷ []) (set net tip put)
last_state Holds line hops index net tip number step read put past same same_step is put_is so_far lines counted holds =
    let whole : extended (Root line.root) (take index hops) ≡ path line = ap (extended (Root line.root)) (take_all index hops past ∙ same) in
    let ended_net = grown_end lines line tip net (subst (λ (p : Prefix). IsGrown lines tip p net) whole (so_far.1 lines holds)) in
    let put_there : put ≡ with_end (record { step = line.last; out = line.out; number = length lines; birth = None }) (state_at net tip) =
    put_is ∙ (λ i. with_end (record { step = same_step i; out = line.out; number = counted i; birth = None }) (same_read net tip read so_far.0 is i)) in
    subst (λ (slot : Option State). IsWhole (lines ++ line ∷ []) (set net tip slot)) (sym put_there) ended_net

-- the lines up to one more
pub whole_more : (lines : List Line) (place : ℕ) (line : Line) (old new : Net) → slice_get lines place ≡ Some line → IsWhole (take place lines) old
    → ((firsts : List Line) → place ≡ length firsts → IsWhole firsts old → IsWhole (firsts ++ line ∷ []) new) → IsWhole (take (place + 1) lines) new
whole_more lines place line old new is whole more =
    let inside = slice_get_within lines place line is in
    let here : get_or lines place line ≡ line = get_or_from_slice_get lines place line line is in
    let counted : place ≡ length (take place lines) = omega (arith, length-take place lines) in
    subst (λ (ls : List Line). IsWhole ls new) (ap (λ l. take place lines ++ l ∷ []) (sym here) ∙ sym (take_more lines place line inside)) (more (take place lines) counted whole)
