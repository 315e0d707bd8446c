-- Drafts that have something more.
use Rattle.std.proofs.Common.{◌≡◌, ◌∙◌, sym, ap, refl, subst, inl, inr, ℕ, ◌+◌, ◌<◌, ◌⊎◌, ◌==◌, true, false, cond, length, get_or, set, List, [], ◌∷◌, ◌++◌, append_assoc, arith, zero, suc, Bool}
use Rattle.std.specs.Prelude.{Contains, Option, Some, option_to_list, None}
use Rattle.std.specs.Option.{option_map}
use Rattle.std.specs.List.{cons_option}
use Rattle.std.specs.List.Sorted.{IsPermutation}
use Rattle.std.proofs.lemmas.Bool.Decides.{nat_tests}
use Rattle.std.proofs.lemmas.Grind.{flat_map-append, get_or-set_at}
use Rattle.std.proofs.lemmas.List.{append-nil, get_or-set_other, length-append, length-set}
use Rattle.std.proofs.lemmas.List.Sorted.{IsPermutation-append, IsPermutation-append_left, IsPermutation-append_right, IsPermutation-refl, IsPermutation-sym, IsPermutation-to_front, IsPermutation-trans}
use Rattle.event_types.specs.Order.{sorted}
use Rattle.event_types.specs.Tuple.{TupleView}
use Rattle.instances.specs.declared.instance.Instance.{Instance}
use Rattle.scalar_expr.proofs.Bags.{flat_map_permuted, permuted_from, permuted_to}
use Rattle.automaton.specs.States.{Net, step_at}
use Rattle.automaton.specs.Steps.{pass}
use Rattle.automaton.proofs.NumberLemmas.{are_same_or_not}
use Rattle.automaton.specs.declared.network.End.{End}
use Rattle.stream_readers.specs.Ways.{Back, Into, Way, Out}
use Rattle.semantics.specs.Births.{is_after}
use Rattle.instances.specs.Births.{began_after}
use Rattle.epoch_laws.specs.Births.{passing_after}
use Rattle.epoch_laws.specs.Instances.{began, bindings_of, pass_instance}
use Rattle.epoch_laws.proofs.Bags.{permuted_is}
use Rattle.epoch_draft.specs.Drafts.{Adds, DraftFits, EndsBelow, Grows, IsDraftOf}
use Rattle.epoch_draft.specs.Marks.{AreMarks, MarksMore, MarksNoOther}
use Rattle.epoch_draft.specs.Moves.{Move, bound_by, bound_of, made_by, made_of, moves_on}
use Rattle.epoch_draft.specs.declared.draft.Draft.{Draft}
use Rattle.epoch_draft.specs.declared.marks.Marks.{Marks}
use Rattle.epoch_draft.proofs.Lists.{contains_or_not}
use Rattle.epoch_draft.proofs.MarkLemmas.{marks_kept, marks_same, marks_trans}

-- tuples of one stream
made_fits : (old : Draft) (s : ℕ) (rows : List TupleView) (due : Marks) → DraftFits (length old.made) (length old.beads) old → MarksMore old.due due → Contains due.numbers s
    → DraftFits (length old.made) (length old.beads) (record { alloc = old.alloc; made = set old.made s rows; beads = old.beads; due = due; reached = old.reached; spent = old.spent })
made_fits old s rows due fits more marked = record {
  made = length-set old.made s rows;
  beads = refl;
  due = more.are;
  due_below = more.as_many ∙ fits.due_below;
  reached = fits.reached;
  reached_below = fits.reached_below;
  due_all = λ t. go t (are_same_or_not t s);
  reached_all = fits.reached_all;
}
  where
    kept : (t : ℕ) → (t ≡ s → ⊥) → (get_or old.made t [] ≡ []) ⊎ Contains old.due.numbers t → (get_or (set old.made s rows) t [] ≡ []) ⊎ Contains due.numbers t
    kept t other (inl none) = inl (get_or-set_other old.made s t rows [] other ∙ none)
    kept t other (inr there) = inr (marks_kept old.due due more t there)

    go : (t : ℕ) → (t ≡ s) ⊎ (t ≡ s → ⊥) → (get_or (set old.made s rows) t [] ≡ []) ⊎ Contains due.numbers t
    go t (inl same) = inr (subst (Contains due.numbers) (sym same) marked)
    go t (inr other) = kept t other (fits.due_all t)

-- the same where the lists are these
pub set_fits : (old : Draft) (s : ℕ) (rows : List TupleView) (made : List (List TupleView)) (due : Marks) → DraftFits (length old.made) (length old.beads) old → MarksMore old.due due → Contains due.numbers s → made ≡ set old.made s rows
    → DraftFits (length old.made) (length old.beads) (record { alloc = old.alloc; made = made; beads = old.beads; due = due; reached = old.reached; spent = old.spent })
set_fits old s rows made due fits more marked is =
    subst (λ (lists : List (List TupleView)). DraftFits (length old.made) (length old.beads) (record { alloc = old.alloc; made = lists; beads = old.beads; due = due; reached = old.reached; spent = old.spent })) (sym is) (made_fits old s rows due fits more marked)

-- tuples that are put in order
pub ordered_fits : (old : Draft) (made : List (List TupleView)) → DraftFits (length old.made) (length old.beads) old → length made ≡ length old.made → ((s : ℕ) → get_or made s [] ≡ sorted (get_or old.made s []))
    → DraftFits (length old.made) (length old.beads) (record { alloc = old.alloc; made = made; beads = old.beads; due = old.due; reached = old.reached; spent = old.spent })
ordered_fits old made fits as_many ordered = record {
  made = as_many;
  beads = refl;
  due = fits.due;
  due_below = fits.due_below;
  reached = fits.reached;
  reached_below = fits.reached_below;
  due_all = λ s. go s (fits.due_all s);
  reached_all = fits.reached_all;
}
  where
    go : (s : ℕ) → (get_or old.made s [] ≡ []) ⊎ Contains old.due.numbers s → (get_or made s [] ≡ []) ⊎ Contains old.due.numbers s
    go s (inl none) = inl (ordered s ∙ ap sorted none)
    go s (inr there) = inr there

-- beads of one state
pub beads_fit : (old : Draft) (w : ℕ) (beads : List Instance) (reached : Marks) → DraftFits (length old.made) (length old.beads) old → MarksMore old.reached reached → Contains reached.numbers w
    → DraftFits (length old.made) (length old.beads) (record { alloc = old.alloc; made = old.made; beads = set old.beads w beads; due = old.due; reached = reached; spent = old.spent })
beads_fit old w beads reached fits more marked = record {
  made = refl;
  beads = length-set old.beads w beads;
  due = fits.due;
  due_below = fits.due_below;
  reached = more.are;
  reached_below = more.as_many ∙ fits.reached_below;
  due_all = fits.due_all;
  reached_all = λ v. go v (are_same_or_not v w);
}
  where
    kept : (v : ℕ) → (v ≡ w → ⊥) → (get_or old.beads v [] ≡ []) ⊎ Contains old.reached.numbers v → (get_or (set old.beads w beads) v [] ≡ []) ⊎ Contains reached.numbers v
    kept v other (inl none) = inl (get_or-set_other old.beads w v beads [] other ∙ none)
    kept v other (inr there) = inr (marks_kept old.reached reached more v there)

    go : (v : ℕ) → (v ≡ w) ⊎ (v ≡ w → ⊥) → (get_or (set old.beads w beads) v [] ≡ []) ⊎ Contains reached.numbers v
    go v (inl same) = inr (subst (Contains reached.numbers) (sym same) marked)
    go v (inr other) = kept v other (fits.reached_all v)

-- the beads of states that are reached may be taken out
pub linked_fits : (streams states : ℕ) (old : Draft) (beads : List (List Instance)) → DraftFits streams states old → length beads ≡ length old.beads → ((n : ℕ) → (Contains old.reached.numbers n → ⊥) → get_or beads n [] ≡ get_or old.beads n [])
    → DraftFits streams states (record { alloc = old.alloc; made = old.made; beads = beads; due = old.due; reached = old.reached; spent = old.spent })
linked_fits streams states old beads fits as_many others = record {
  made = fits.made;
  beads = as_many ∙ fits.beads;
  due = fits.due;
  due_below = fits.due_below;
  reached = fits.reached;
  reached_below = fits.reached_below;
  due_all = fits.due_all;
  reached_all = λ n. go n (contains_or_not old.reached.numbers n) (fits.reached_all n);
}
  where
    go : (n : ℕ) → Contains old.reached.numbers n ⊎ (Contains old.reached.numbers n → ⊥) → (get_or old.beads n [] ≡ []) ⊎ Contains old.reached.numbers n → (get_or beads n [] ≡ []) ⊎ Contains old.reached.numbers n
    go n (inl there) was = inr there
    go n (inr absent) (inl none) = inl (others n absent ∙ none)
    go n (inr absent) (inr there) = inr there

-- a draft with nothing in it, none of whose streams is due and none of whose states is reached
pub cleared_fits : (streams states : ℕ) (draft : Draft) → length draft.made ≡ streams → length draft.beads ≡ states → AreMarks draft.due → length draft.due.flags ≡ streams → AreMarks draft.reached → length draft.reached.flags ≡ states
    → ((s : ℕ) → get_or draft.made s [] ≡ []) → ((n : ℕ) → get_or draft.beads n [] ≡ []) → DraftFits streams states draft
cleared_fits streams states draft made beads due due_below reached reached_below none_made no_beads = record {
  made = made;
  beads = beads;
  due = due;
  due_below = due_below;
  reached = reached;
  reached_below = reached_below;
  due_all = λ s. inl (none_made s);
  reached_all = λ n. inl (no_beads n);
}

module _ {X : Type 0} where
  -- a list that stays has nothing added
  pub adds_none : (old new : List X) → new ≡ old → Adds [] old new
  adds_none old new e = record { added = []; is = e ∙ sym (append-nil old); same = IsPermutation-refl [] }

  -- the same items in another order are added as well
  pub adds_same : (a b old new : List X) → IsPermutation a b → Adds a old new → Adds b old new
  adds_same a b old new h adds = record { added = adds.added; is = adds.is; same = IsPermutation-trans _ _ _ adds.same h }

  -- what is added one after the other is added
  pub adds_trans : (a b old mid new : List X) → Adds a old mid → Adds b mid new → Adds (a ++ b) old new
  adds_trans a b old mid new one two = record {
    added = one.added ++ two.added;
    is = two.is ∙ ap (λ xs. xs ++ two.added) one.is ∙ append_assoc old one.added two.added;
    same = IsPermutation-append one.added a two.added b one.same two.same;
  }

  -- a list to which items are added has some if it had
  pub adds_keeps : (more old new : List X) → Adds more old new → 0 < length old → 0 < length new
  adds_keeps more old new adds some = let long : length new ≡ length old + length adds.added = ap length adds.is ∙ length-append old adds.added in omega (arith, long, some)

made_append : (s : ℕ) (a b : List Move) → made_of s (a ++ b) ≡ made_of s a ++ made_of s b
made_append s a b = flat_map-append (λ (m : Move). made_by s m.instance m.way) a b

bound_append : (net : Net) (w : ℕ) (a b : List Move) → bound_of net w (a ++ b) ≡ bound_of net w a ++ bound_of net w b
bound_append net w a b = flat_map-append (λ (m : Move). bound_by net w m.instance m.way) a b

-- nothing moved
pub grows_none : (net : Net) (old : Draft) → DraftFits (length old.made) (length net) old → Grows net [] old old
grows_none net old fits = record {
  fits = fits;
  due = marks_same old.due fits.due;
  newly_due = λ s c. inl c;
  made = λ s. adds_none (get_or old.made s []) (get_or old.made s []) refl;
  bound = λ w. permuted_is (sym (append-nil (get_or old.beads w [])));
}

-- the same moves in another order
pub grows_same : (net : Net) (a b : List Move) (old new : Draft) → IsPermutation a b → Grows net a old new → Grows net b old new
grows_same net a b old new h grows = record {
  fits = grows.fits;
  due = grows.due;
  newly_due = grows.newly_due;
  made = λ s. adds_same (made_of s a) (made_of s b) (get_or old.made s []) (get_or new.made s []) (flat_map_permuted (λ (m : Move). made_by s m.instance m.way) a b h) (grows.made s);
  bound = λ w.
      IsPermutation-trans _ _ _ (grows.bound w)
      (IsPermutation-append_right (get_or old.beads w []) (bound_of net w a) (bound_of net w b) (flat_map_permuted (λ (m : Move). bound_by net w m.instance m.way) a b h));
}

-- moves after moves
pub grows_trans : (net : Net) (a b : List Move) (old mid new : Draft) → Grows net a old mid → Grows net b mid new → Grows net (a ++ b) old new
grows_trans net a b old mid new one two = record {
  fits = subst (λ (m : ℕ). DraftFits m (length net) new) one.fits.made two.fits;
  due = marks_trans old.due mid.due new.due one.due two.due;
  newly_due = λ s c. from s (two.newly_due s c);
  made = λ s.
      subst (λ (rows : List TupleView). Adds rows (get_or old.made s []) (get_or new.made s [])) (sym (made_append s a b))
      (adds_trans (made_of s a) (made_of s b) (get_or old.made s []) (get_or mid.made s []) (get_or new.made s []) (one.made s) (two.made s));
  bound = λ w.
      let f = bound_of net w in
      permuted_to
      (IsPermutation-trans _ _ _ (two.bound w) (IsPermutation-append_left (f b) (get_or mid.beads w []) (get_or old.beads w [] ++ f a) (one.bound w)))
      (append_assoc (get_or old.beads w []) (f a) (f b) ∙ ap (λ xs. get_or old.beads w [] ++ xs) (sym (bound_append net w a b)));
}
  where
    kept : (s : ℕ) → Contains old.due.numbers s ⊎ (0 < length (get_or mid.made s [])) → Contains old.due.numbers s ⊎ (0 < length (get_or new.made s []))
    kept s (inl c) = inl c
    kept s (inr some) = inr (adds_keeps (made_of s b) (get_or mid.made s []) (get_or new.made s []) (two.made s) some)

    from : (s : ℕ) → Contains mid.due.numbers s ⊎ (0 < length (get_or new.made s [])) → Contains old.due.numbers s ⊎ (0 < length (get_or new.made s []))
    from s (inl c) = kept s (one.newly_due s c)
    from s (inr some) = inr some

same_test : (m n : ℕ) → m ≡ n → (m == n) ≡ true
same_test m n e = grind (arith, nat_tests)

other_test : (m n : ℕ) → (m ≡ n → ⊥) → (m == n) ≡ false
other_test m n ne = grind (arith, nat_tests)

-- one list of tuples is longer by those of the stream
made_adds : (s : ℕ) (rows : List TupleView) (old : List (List TupleView)) (t : ℕ) → s < length old → (made : List TupleView) → made ≡ cond (s == t) rows [] → Adds made (get_or old t []) (get_or (set old s (get_or old s [] ++ rows)) t [])
made_adds s rows old t lt made e = go (are_same_or_not t s)
  where
    go : (t ≡ s) ⊎ (t ≡ s → ⊥) → Adds made (get_or old t []) (get_or (set old s (get_or old s [] ++ rows)) t [])
    go (inl same) = record {
      added = rows;
      is = get_or-set_at old s t (get_or old s [] ++ rows) [] same lt ∙ ap (λ k. get_or old k [] ++ rows) (sym same);
      same = permuted_is (sym (e ∙ ap (λ b. cond b rows []) (same_test s t (sym same))));
    }
    go (inr other) =
        subst (λ (xs : List TupleView). Adds xs (get_or old t []) (get_or (set old s (get_or old s [] ++ rows)) t [])) (sym (e ∙ ap (λ b. cond b rows []) (other_test s t (λ eq. other (sym eq)))))
        (adds_none (get_or old t []) (get_or (set old s (get_or old s [] ++ rows)) t []) (get_or-set_other old s t (get_or old s [] ++ rows) [] other))

-- nothing is given of an instance that doesn't pass the step or began too early
abbrev pub IsKept : End → Instance → Type 0
IsKept e x = (is_after e.birth x.first ≡ false) ⊎ (pass e.step x.tuple ≡ None)

pub nothing_given : (e : End) (x : Instance) → IsKept e x → passing_after e.step e.birth (x ∷ []) ≡ []
nothing_given e x (inl early) = go (pass e.step x.tuple)
  where
    go : (o : Option TupleView) → bindings_of (began_after e.birth (cons_option (option_map (began x.first) o) [])) ≡ []
    go None = refl
    go (Some y) = ap (λ b. bindings_of (cond b (began x.first y ∷ []) [])) early
nothing_given e x (inr passes) = ap (λ o. bindings_of (began_after e.birth (cons_option (option_map (began x.first) o) []))) passes

-- one that passes it later gives one tuple
gives_one : (e : End) (x : Instance) (y : TupleView) → is_after e.birth x.first ≡ true → pass e.step x.tuple ≡ Some y → passing_after e.step e.birth (x ∷ []) ≡ y ∷ []
gives_one e x y late passes =
    ap (λ o. bindings_of (began_after e.birth (cons_option (option_map (began x.first) o) []))) passes ∙ ap (λ b. bindings_of (cond b (began x.first y ∷ []) [])) late

-- an instance that goes out
pub out_grows : (net : Net) (old new : Draft) (e : End) (x : Instance) (y : TupleView) → e.out < length old.made → is_after e.birth x.first ≡ true → pass e.step x.tuple ≡ Some y → length old.beads ≡ length net
    → new.made ≡ set old.made e.out (get_or old.made e.out [] ++ y ∷ []) → new.beads ≡ old.beads → MarksMore old.due new.due → MarksNoOther e.out old.due new.due → DraftFits (length old.made) (length old.beads) new → Grows net (moves_on (Out e ∷ []) x) old new
out_grows net old new e x y lt late passes many made beads due alone fits = record {
  fits = subst (λ (m : ℕ). DraftFits (length old.made) m new) many fits;
  due = due;
  newly_due = λ s c. go s (alone s c);
  made = λ t.
      subst (λ (lists : List (List TupleView)). Adds (made_of t (moves_on (Out e ∷ []) x)) (get_or old.made t []) (get_or lists t [])) (sym made)
      (made_adds e.out (y ∷ []) old.made t lt (made_of t (moves_on (Out e ∷ []) x)) (append-nil (cond (e.out == t) (passing_after e.step e.birth (x ∷ [])) []) ∙ ap (λ rows. cond (e.out == t) rows []) (gives_one e x y late passes)));
  bound = λ w. permuted_is (ap (λ (lists : List (List Instance)). get_or lists w []) beads ∙ sym (append-nil (get_or old.beads w [])));
}
  where
    rows : List TupleView
    rows = get_or old.made e.out []

    go : (s : ℕ) → Contains old.due.numbers s ⊎ (s ≡ e.out) → Contains old.due.numbers s ⊎ (0 < length (get_or new.made s []))
    go s (inl c) = inl c
    go s (inr same) =
        let is = ap (λ (lists : List (List TupleView)). get_or lists s []) made ∙ get_or-set_at old.made e.out s (rows ++ y ∷ []) [] same lt in
        let long : length (get_or new.made s []) ≡ length rows + 1 = ap length is ∙ length-append rows (y ∷ []) in inr (omega (arith, long))

-- the same from a draft that is equal
pub passed_grows : (net : Net) (old mid new : Draft) (e : End) (x : Instance) (y : TupleView) → mid ≡ old → e.out < length old.made → is_after e.birth x.first ≡ true → pass e.step x.tuple ≡ Some y → length old.beads ≡ length net
    → new.made ≡ set mid.made e.out (get_or mid.made e.out [] ++ y ∷ []) → new.beads ≡ mid.beads → MarksMore mid.due new.due → MarksNoOther e.out mid.due new.due → DraftFits (length mid.made) (length mid.beads) new → Grows net (moves_on (Out e ∷ []) x) old new
passed_grows net old mid new e x y same lt late passes many made beads due alone fits =
    out_grows net old new e x y lt late passes many (made ∙ ap (λ (d : Draft). set d.made e.out (get_or d.made e.out [] ++ y ∷ [])) same) (beads ∙ ap (λ (d : Draft). d.beads) same) (subst (λ (d : Draft). MarksMore d.due new.due) same due)
    (subst (λ (d : Draft). MarksNoOther e.out d.due new.due) same alone) (subst (λ (d : Draft). DraftFits (length d.made) (length d.beads) new) same fits)

-- one that doesn't go out
pub out_stays : (net : Net) (old : Draft) (e : End) (x : Instance) → IsKept e x → DraftFits (length old.made) (length net) old → Grows net (moves_on (Out e ∷ []) x) old old
out_stays net old e x kept fits = record {
  fits = fits;
  due = marks_same old.due fits.due;
  newly_due = λ s c. inl c;
  made = λ t.
      subst (λ (rows : List TupleView). Adds rows (get_or old.made t []) (get_or old.made t []))
      (sym (append-nil (cond (e.out == t) (passing_after e.step e.birth (x ∷ [])) []) ∙ ap (λ rows. cond (e.out == t) rows []) (nothing_given e x kept) ∙ none (e.out == t))) (adds_none (get_or old.made t []) (get_or old.made t []) refl);
  bound = λ w. permuted_is (sym (append-nil (get_or old.beads w [])));
}
  where
    none : (b : Bool) → cond b (bindings_of []) [] ≡ []
    none true = refl
    none false = refl

-- one chain is longer by a bead
bound_adds : (w : ℕ) (y : Instance) (old : List (List Instance)) (v : ℕ) → w < length old → (bound : List Instance) → bound ≡ cond (w == v) (y ∷ []) []
    → IsPermutation (get_or (set old w (y ∷ get_or old w [])) v []) (get_or old v [] ++ bound)
bound_adds w y old v lt bound e = go (are_same_or_not v w)
  where
    go : (v ≡ w) ⊎ (v ≡ w → ⊥) → IsPermutation (get_or (set old w (y ∷ get_or old w [])) v []) (get_or old v [] ++ bound)
    go (inl same) =
        permuted_from (get_or-set_at old w v (y ∷ get_or old w []) [] same lt ∙ ap (λ k. y ∷ get_or old k []) (sym same))
        (permuted_to (IsPermutation-sym _ _ (IsPermutation-to_front (get_or old v []) y))
        (ap (λ rows. get_or old v [] ++ rows) (sym (e ∙ ap (λ b. cond b (y ∷ []) []) (same_test w v (sym same))))))
    go (inr other) =
        permuted_is (get_or-set_other old w v (y ∷ get_or old w []) [] other ∙ sym (append-nil (get_or old v []))
        ∙ ap (λ rows. get_or old v [] ++ rows) (sym (e ∙ ap (λ b. cond b (y ∷ []) []) (other_test w v (λ eq. other (sym eq))))))

-- a bead more on some way
bead_grows : (net : Net) (old new : Draft) (way : Way) (w : ℕ) (x y : Instance) → w < length old.beads → ((t : ℕ) → made_by t x way ≡ []) → ((v : ℕ) → bound_by net v x way ≡ cond (w == v) (y ∷ []) []) → length old.beads ≡ length net
    → new.beads ≡ set old.beads w (y ∷ get_or old.beads w []) → new.made ≡ old.made → new.due ≡ old.due → DraftFits (length old.made) (length old.beads) new → Grows net (moves_on (way ∷ []) x) old new
bead_grows net old new way w x y lt none one many beads made due fits = record {
  fits = subst (λ (m : ℕ). DraftFits (length old.made) m new) many fits;
  due = subst (λ (m : Marks). MarksMore m new.due) due (marks_same new.due fits.due);
  newly_due = λ s c. inl (subst (λ (m : Marks). Contains m.numbers s) due c);
  made = λ t.
      subst (λ (rows : List TupleView). Adds rows (get_or old.made t []) (get_or new.made t [])) (sym (append-nil (made_by t x way) ∙ none t))
      (adds_none (get_or old.made t []) (get_or new.made t []) (ap (λ (lists : List (List TupleView)). get_or lists t []) made));
  bound = λ v.
      permuted_from (ap (λ (lists : List (List Instance)). get_or lists v []) beads)
      (bound_adds w y old.beads v lt (bound_of net v (moves_on (way ∷ []) x)) (append-nil (bound_by net v x way) ∙ one v));
}

-- an instance that goes into a state
pub into_grows : (net : Net) (old new : Draft) (w : ℕ) (x : Instance) (y : TupleView) → w < length old.beads → pass (step_at net w) x.tuple ≡ Some y → length old.beads ≡ length net
    → new.beads ≡ set old.beads w (began x.first y ∷ get_or old.beads w []) → new.made ≡ old.made → new.due ≡ old.due → DraftFits (length old.made) (length old.beads) new → Grows net (moves_on (Into w ∷ []) x) old new
into_grows net old new w x y lt passes many beads made due fits =
    bead_grows net old new (Into w) w x (began x.first y) lt (λ t. refl) (λ v. ap (λ o. cond (w == v) (option_to_list (option_map (began x.first) o)) []) passes) many beads made due fits

-- and one that goes back
pub back_grows : (net : Net) (old new : Draft) (w : ℕ) (x : Instance) → w < length old.beads → length old.beads ≡ length net
    → new.beads ≡ set old.beads w (x ∷ get_or old.beads w []) → new.made ≡ old.made → new.due ≡ old.due → DraftFits (length old.made) (length old.beads) new → Grows net (moves_on (Back w ∷ []) x) old new
back_grows net old new w x lt many beads made due fits = bead_grows net old new (Back w) w x x lt (λ t. refl) (λ v. refl) many beads made due fits

-- one that does not pass into a state
pub into_stays : (net : Net) (old : Draft) (w : ℕ) (x : Instance) → pass (step_at net w) x.tuple ≡ None → DraftFits (length old.made) (length net) old → Grows net (moves_on (Into w ∷ []) x) old old
into_stays net old w x passes fits = record {
  fits = fits;
  due = marks_same old.due fits.due;
  newly_due = λ s c. inl c;
  made = λ t. adds_none (get_or old.made t []) (get_or old.made t []) refl;
  bound = λ v.
      permuted_is (sym (append-nil (get_or old.beads v []))
      ∙ ap (λ rows. get_or old.beads v [] ++ rows)
      (sym (append-nil (cond (w == v) (option_to_list (pass_instance (step_at net w) x)) []) ∙ ap (λ o. cond (w == v) (option_to_list (option_map (began x.first) o)) []) passes ∙ none (w == v))));
}
  where
    none : (b : Bool) → cond b (option_to_list {X = Instance} None) [] ≡ []
    none true = refl
    none false = refl

-- a draft that fits as another did is for the same network
pub draft_of : (net : Net) (start now : Draft) → IsDraftOf net start → DraftFits (length start.made) (length net) now → IsDraftOf net now
draft_of net start now was fits = record {
  below = subst (λ (m : ℕ). EndsBelow net m) (sym fits.made) was.below;
  fits = subst (λ (m : ℕ). DraftFits m (length net) now) (sym fits.made) fits;
}

-- tuples that are taken out
pub without_fits : (old : Draft) (s : ℕ) → DraftFits (length old.made) (length old.beads) old → DraftFits (length old.made) (length old.beads) (record { alloc = old.alloc; made = set old.made s []; beads = old.beads; due = old.due; reached = old.reached; spent = old.spent })
without_fits old s fits = record {
  made = length-set old.made s [];
  beads = refl;
  due = fits.due;
  due_below = fits.due_below;
  reached = fits.reached;
  reached_below = fits.reached_below;
  due_all = λ t. go t (are_same_or_not t s) (fits.due_all t);
  reached_all = fits.reached_all;
}
  where
    kept : (t : ℕ) → (get_or (set old.made s []) t [] ≡ get_or old.made t []) → (get_or old.made t [] ≡ []) ⊎ Contains old.due.numbers t → (get_or (set old.made s []) t [] ≡ []) ⊎ Contains old.due.numbers t
    kept t e (inl none) = inl (e ∙ none)
    kept t e (inr there) = inr there

    dropped : (t : ℕ) → t ≡ s → (get_or old.made t [] ≡ []) ⊎ Contains old.due.numbers t → (get_or (set old.made s []) t [] ≡ []) ⊎ Contains old.due.numbers t
    dropped t same (inl none) = inl (cleared old.made s t same none)
      where
        cleared : (lists : List (List TupleView)) (s t : ℕ) → t ≡ s → get_or lists t [] ≡ [] → get_or (set lists s []) t [] ≡ []
        cleared [] s t same none = refl
        cleared (l ∷ lists) zero zero same none = refl
        cleared (l ∷ lists) zero (suc t) same none = absurd (omega arith)
        cleared (l ∷ lists) (suc s) zero same none = absurd (omega arith)
        cleared (l ∷ lists) (suc s) (suc t) same none = cleared lists s t (omega arith) none
    dropped t same (inr there) = inr there

    go : (t : ℕ) → (t ≡ s) ⊎ (t ≡ s → ⊥) → (get_or old.made t [] ≡ []) ⊎ Contains old.due.numbers t → (get_or (set old.made s []) t [] ≡ []) ⊎ Contains old.due.numbers t
    go t (inl same) h = dropped t same h
    go t (inr other) h = kept t (get_or-set_other old.made s t [] [] other) h
