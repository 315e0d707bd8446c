-- What is filed of each state of a network.
use Rattle.std.proofs.Common.{◌≡◌, ◌∙◌, sym, ap, refl, inl, inr, ℕ, ◌+◌, ◌<◌, ◌≤◌, ◌⊎◌, ◌&&◌, not, Bool, true, false, cond, IsTrue, length, List, [], ◌∷◌, ◌++◌, map, append_assoc}
use Rattle.std.specs.Prelude.{Option, Some, None, is_some, slice_get}
use Rattle.std.specs.Option.{option_and_then, option_map, unwrap_or}
use Rattle.std.specs.List.{All, filter, flat_map, range_with_len}
use Rattle.std.proofs.lemmas.List.{length-append, map-append}
use Rattle.std.proofs.lemmas.List.Elements.{All-head, All-tail, All-weaker}
use Rattle.std.proofs.lemmas.Simd.{map-map}
use Rattle.scalar_expr.proofs.Bags.{flat_map_each}
use Rattle.automaton.specs.Networks.{IsNetwork}
use Rattle.automaton.specs.States.{Net, edges_at, edges_in, ends_at, ends_in, entrance_at, entrance_in, is_used, root_at, root_in, state_at, step_at, step_by, tells, wait_at, wait_by}
use Rattle.automaton.specs.declared.network.End.{End}
use Rattle.automaton.specs.declared.network.Entrance.{Entrance}
use Rattle.automaton.specs.declared.network.State.{State}
use Rattle.automaton.specs.declared.wait.Wait.{Wait}
use Rattle.static_index.specs.Conditions.{Condition}
use Rattle.static_index.specs.declared.fixed_part.FixedPart.{FixedPart}
use Rattle.stream_readers.specs.Filing.{Filed, filed_to, waiting_as}
use Rattle.stream_readers.specs.Finding.{is_plain_on, is_root_on}
use Rattle.stream_readers.specs.Leading.{lead_key_in}
use Rattle.stream_readers.specs.Targets.{end_at, end_by, step_of, targets_at}
use Rattle.stream_readers.specs.Ways.{first_parts, parts_in}
use Rattle.stream_readers.specs.declared.target.Target.TheVariants.{Edge}
use Rattle.stream_readers.proofs.ChangeLemmas.{given_below, passing_given, passing_one, row_of}
use Rattle.stream_readers.proofs.FilingLemmas.{at_seam}
use Rattle.stream_readers.proofs.KeyTableLemmas.{below_or_past, default_past}
use Rattle.stream_readers.proofs.TargetLemmas.{edges_used}

-- an edge into a state, as it is filed
abbrev pub edge_filed : Net → ℕ → Filed
edge_filed net number = record { target = Edge number; parts = first_parts (step_at net number) }

-- the ends of a state from a place on, as they are filed
abbrev pub ends_filed : ℕ → ℕ → List End → List Filed
ends_filed number place [] = []
ends_filed number place (end ∷ ends) = record { target = end_by number place end.step; parts = first_parts end.step } ∷ ends_filed number (place + 1) ends

-- what is filed of a state that may be there, where it is a root of a stream
abbrev pub entry_of : (ℕ → Filed) → ℕ → ℕ → Option State → List Filed
entry_of filed stream number slot = cond (tells stream (root_in slot)) (map filed (edges_in slot) ++ ends_filed number 0 (ends_in slot)) []

-- the same of the state with a number
abbrev pub entry : Net → ℕ → ℕ → List Filed
entry net stream number = entry_of (edge_filed net) stream number (state_at net number)

-- the fixed parts of a wait, where it waits on a stream without a key to find it
abbrev pub asked : ℕ → Option Wait → Option (List FixedPart)
asked stream wait = cond (tells stream (option_map (λ (w : Wait). w.stream) wait) && not (is_some (lead_key_in wait))) (Some (parts_in wait)) None

-- the same of the state with a number
abbrev pub asked_at : Net → ℕ → ℕ → Option (List FixedPart)
asked_at net stream number = asked stream (wait_at net number)

-- what is filed of all states of a network
abbrev pub targets_given : Net → ℕ → List Filed
targets_given net stream = given_below (entry net stream) (length net)

-- and of its waiting states
abbrev pub waits_given : Net → ℕ → List Condition
waits_given net stream = given_below (λ k. row_of k (asked_at net stream k)) (length net)

ends_as : (net : Net) (n : ℕ) (before after : List End) → ends_at net n ≡ before ++ after → map (filed_to net) (map (end_at net n) (range_with_len (length before) (length after))) ≡ ends_filed n (length before) after
ends_as net n before [] is = refl
ends_as net n before (end ∷ after) is =
    ap (λ (o : Option End). record { target = end_by n (length before) (step_of o); parts = first_parts (step_of o) } ∷ map (filed_to net) (map (end_at net n) (range_with_len (length before + 1) (length after))))
    (ap (λ (ends : List End). slice_get ends (length before)) is ∙ at_seam before after end)
    ∙ ap (λ fs. record { target = end_by n (length before) end.step; parts = first_parts end.step } ∷ fs)
    (ap (λ m. map (filed_to net) (map (end_at net n) (range_with_len m (length after)))) (sym (length-append before (end ∷ []))) ∙ ends_as net n (before ++ end ∷ []) after (is ∙ sym (append_assoc before (end ∷ []) after))
    ∙ ap (λ m. ends_filed n m after) (length-append before (end ∷ [])))

pub state_as : (net : Net) (n : ℕ) → map (filed_to net) (targets_at net n) ≡ map (edge_filed net) (edges_at net n) ++ ends_filed n 0 (ends_at net n)
state_as net n =
    let places = map (end_at net n) (range_with_len 0 (length (ends_at net n))) in
    map-append (filed_to net) (map Edge (edges_at net n)) places ∙ ap (λ fs. fs ++ map (filed_to net) places) (map-map (filed_to net) Edge (edges_at net n))
    ∙ ap (λ fs. map (edge_filed net) (edges_at net n) ++ fs) (ends_as net n [] (ends_at net n) refl)

-- the targets of a stream's roots, as they are filed of each state
pub targets_each : (net : Net) (stream n : ℕ) → map (filed_to net) (flat_map (targets_at net) (filter (is_root_on net stream) (range_with_len 0 n))) ≡ given_below (entry net stream) n
targets_each net stream n =
    passing_given (is_root_on net stream) (filed_to net) (targets_at net) (range_with_len 0 n)
    ∙ flat_map_each (λ k. cond (is_root_on net stream k) (map (filed_to net) (targets_at net k)) []) (entry net stream) (λ k. ap (λ fs. cond (is_root_on net stream k) fs []) (state_as net k)) (range_with_len 0 n)

-- and the waiting states of a stream
pub waits_each : (net : Net) (stream n : ℕ) → map (waiting_as net) (filter (is_plain_on net stream) (range_with_len 0 n)) ≡ given_below (λ k. row_of k (asked_at net stream k)) n
waits_each net stream n =
    passing_one (is_plain_on net stream) (waiting_as net) (range_with_len 0 n)
    ∙ flat_map_each (λ k. cond (is_plain_on net stream k) (waiting_as net k ∷ []) []) (λ k. row_of k (asked_at net stream k)) (λ k. go k (parts_in (wait_at net k)) (is_plain_on net stream k)) (range_with_len 0 n)
  where
    go : (k : ℕ) (parts : List FixedPart) (b : Bool) → cond b (record { id = k; parts = parts } ∷ []) [] ≡ row_of k (cond b (Some parts) None)
    go k parts true = refl
    go k parts false = refl

pub unused_slot : (slot : Option State) → is_some slot ≡ false → slot ≡ None
unused_slot None none = refl
unused_slot (Some state) none = absurd (cc)

-- nothing is filed of a number that no state has
pub unused_entry : (net : Net) (stream number : ℕ) → is_used net number ≡ false → entry net stream number ≡ []
unused_entry net stream number unused = ap (entry_of (edge_filed net) stream number) (unused_slot (state_at net number) unused)

pub unused_asked : (net : Net) (stream number : ℕ) → is_used net number ≡ false → asked_at net stream number ≡ None
unused_asked net stream number unused = ap (λ (slot : Option State). asked stream (option_and_then wait_by (entrance_in slot))) (unused_slot (state_at net number) unused)

-- no state has a number past all places
pub past_unused : (net : Net) (number : ℕ) → length net ≤ number → is_used net number ≡ false
past_unused net number past = ap is_some (default_past None net number past)

-- the number of a state is one of the places
pub used_within : (net : Net) (number : ℕ) → is_used net number ≡ true → number < length net
used_within net number used = go (below_or_past number (length net))
  where
    go : (number < length net) ⊎ (length net ≤ number) → number < length net
    go (inl lt) = lt
    go (inr le) = absurd (let e : false ≡ true = sym (past_unused net number le) ∙ used in cc)

map_alike : {X Y : Type 0} (f g : X → Y) (xs : List X) → All (λ x. g x ≡ f x) xs → map g xs ≡ map f xs
map_alike f g [] all = refl
map_alike f g (x ∷ xs) all = ap (λ y. y ∷ map g xs) (All-head (λ x. g x ≡ f x) x xs all) ∙ ap (λ ys. f x ∷ ys) (map_alike f g xs (All-tail (λ x. g x ≡ f x) x xs all))

-- edges are filed alike where the states that they lead to are entered alike
pub edges_alike : (old new : Net) → IsNetwork old → ((m : ℕ) → IsTrue (is_used old m) → entrance_at new m ≡ entrance_at old m) → (k : ℕ) → map (edge_filed new) (edges_at old k) ≡ map (edge_filed old) (edges_at old k)
edges_alike old new network entered k =
    map_alike (edge_filed old) (edge_filed new) (edges_at old k)
    (All-weaker (λ m. IsTrue (is_used old m)) (λ m. edge_filed new m ≡ edge_filed old m) (λ m used. ap (λ (e : Option Entrance). record { target = Edge m; parts = first_parts (unwrap_or (option_map step_by e) []) }) (entered m used)) (edges_at old k) (edges_used old network k))

-- so what is filed of a state that stays is the same
pub stays : (old new : Net) (stream k : ℕ) → map (edge_filed new) (edges_at old k) ≡ map (edge_filed old) (edges_at old k) → state_at new k ≡ state_at old k → entry new stream k ≡ entry old stream k
stays old new stream k edges same =
    ap (entry_of (edge_filed new) stream k) same ∙ ap (λ fs. cond (tells stream (root_at old k)) (fs ++ ends_filed k 0 (ends_at old k)) []) edges

-- a state that is entered alike waits alike
pub waits_alike : (old new : Net) (stream k : ℕ) → entrance_at new k ≡ entrance_at old k → asked_at new stream k ≡ asked_at old stream k
waits_alike old new stream k same = ap (λ (e : Option Entrance). asked stream (option_and_then wait_by e)) same

-- what is not told is no root of the stream
pub no_root : (net : Net) (stream k : ℕ) → tells stream (root_at net k) ≡ false → entry net stream k ≡ []
no_root net stream k none = ap (λ b. cond b (map (edge_filed net) (edges_at net k) ++ ends_filed k 0 (ends_at net k)) []) none
