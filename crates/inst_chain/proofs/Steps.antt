-- What the walks share: structs of two and of three fields, an owner's empty value, and the boxes of two owners. Assumes `Logic`.
use Rattle.std.proofs.Common.{◌≡◌, List, [], ◌∷◌, ◌++◌, refl, subst}
use seplogic.Ra.Ura.{Ura}
use mir.Val.{Val, vstruct, vcons, vnil, of_list}
use base.Logic.{ent, emp, sep}
use base.Fml.{Fml, ftrue}
use types.Logic.{Logic, sem}
use types.Kit.{Item, Goal, Seq, Step, step, ‵, ◌⊛◌, ◌$◌, ◌∵◌, !, qed, move, drop, done, split, use0, use1, use2, fsplit, fjoin, fjoin3, fpick, fpack, feq_i, feq_l}
use denote.RattleType.{RattleType, Valss}
use denote.Shadow.{makes_shadow}
use denote.Steps.{nothing}
use denote.Struct.Struct.{Shape, Struct, within}
use denote.Struct.Owning.{shape}
use denote.Struct.Tuple.{Tuple}
use Rattle.std.specs.declared.alloc.Allocator.{Ghosts}
use Rattle.inst_chain.specs.Boxes.{Lodged}
use Rattle.inst_chain.specs.Owning.{boxes_own, boxes_lent}
use Rattle.inst_chain.specs.contracts.boxes.Held as held
use Rattle.inst_chain.specs.contracts.seen.Seen as seen
use denote.Ref.{NamedLft}

-- the machine value of a struct of two words, and of three
abbrev pub both : Val → Val → Val
both v w = vstruct (vcons v (vcons w vnil))

-- three values, one behind another in memory
abbrev pub three : Val → Val → Val → Val
three u v w = vstruct (vcons u (vcons v (vcons w vnil)))

-- the machine value of an owner
abbrev pub mark : Val
mark = vstruct (vcons (vstruct vnil) vnil)

-- the layout of a struct of two fields, and of three
abbrev pub two_fields : RattleType → RattleType → Shape
two_fields P Q = record { name = []; args = []; types = []; fields = P ∷ Q ∷ [] }

-- the shape of three fields
abbrev pub three_fields : RattleType → RattleType → RattleType → Shape
three_fields P Q R = record { name = []; args = []; types = []; fields = P ∷ Q ∷ R ∷ [] }

module _ (R Z : RattleType) (g : Ghosts Z.Denot) where
  -- the type of an owner
  abbrev pub Hd : RattleType
  Hd = held.the_row R Z g

  -- the owner's own field, which takes no bytes
  abbrev pub Mark : RattleType
  Mark = Struct (shape (held.the_type R Z g))

  -- what an owner of these boxes has
  abbrev pub Boxes : List (Lodged R.Denot Z.Denot) → Fml
  Boxes = boxes_own R Z g.dealloc_token

  -- that field is made of nothing
  pub mark_made : {M : Type 1} {𝓤 : Ura M} (𝓛 : Logic 𝓤) → ent 𝓤 (emp 𝓤) (sem 𝓛 (Mark.own_val (record {}, tt) (mark ∷ [])))
  mark_made 𝓛 = makes_shadow 𝓛 (Mark.own_val (record {}, tt) (mark ∷ [])) (λ vss. (tt, ((λ uss. (tt, tt)), tt))) ((vstruct vnil ∷ [], tt), (refl, ((tt, (refl, tt)), tt)))

module _ (R Z : RattleType) (g : Ghosts Z.Denot) {M : Type 1} {𝓤 : Ura M} {𝓛 : Logic 𝓤} {K : Type 0} {Γ : List (Item 𝓤)} {G : Goal 𝓤 𝓛.H} where
  -- an owner is taken apart
  pub held_had : K → (h : (Hd R Z g).Denot) (vs : List Val) → (vs ≡ mark ∷ [] → Seq K 𝓛 (‵ (Boxes R Z g h.boxes) ∷ Γ) G) → Seq K 𝓛 (‵ ((Hd R Z g).own_val h vs) ∷ Γ) G
  held_had t h vs k = fsplit t $ fpick t (λ vss. fsplit t $ feq_l t (λ ev. fsplit t $ fpick t (λ uss. fsplit t $ feq_l t (λ e. drop t $ drop t $
      k (subst (λ (ws : List Val). vs ≡ vstruct (of_list (ws ++ [])) ∷ []) e ev)))))

  -- an owner is made
  pub held_made : K → (bs : List (Lodged R.Denot Z.Denot))
      → Step K 𝓛 (‵ ((Hd R Z g).own_val (record { mark = record {}; boxes = bs }) (mark ∷ [])) ∷ Γ) G (‵ (Boxes R Z g bs) ∷ Γ) G
  held_made t bs = step (λ s. use0 𝓛 (‵ ((Mark R Z g).own_val (record {}, tt) (mark ∷ []))) (mark_made R Z g 𝓛) $ fjoin t $ s)

module _ (P Q : RattleType) {M : Type 1} {𝓤 : Ura M} {𝓛 : Logic 𝓤} {K : Type 0} {Γ : List (Item 𝓤)} {G : Goal 𝓤 𝓛.H} where
  -- a struct of two fields
  pub two_in : K → (x : P.Denot) (y : Q.Denot) (v w : Val) → Step K 𝓛 (‵ ((Struct (two_fields P Q)).own_val (x, (y, tt)) (both v w ∷ [])) ∷ Γ) G (‵ (P.own_val x (v ∷ [])) ∷ ‵ (Q.own_val y (w ∷ [])) ∷ Γ) G
  two_in t x y v w = step (λ s. nothing t $ move t (1 ∷ 2 ∷ 0 ∷ []) $ fjoin3 t $ feq_i t (List Val) (both v w ∷ []) (both v w ∷ []) refl $ fjoin t $
      fpack t (Valss (P ∷ Q ∷ [])) (within (two_fields P Q) (x, (y, tt)) (both v w ∷ [])) (v ∷ [], (w ∷ [], tt)) $ s)

  -- a pair
  pub pair_in : K → (x : P.Denot) (y : Q.Denot) (v w : Val) → Step K 𝓛 (‵ ((Tuple (P ∷ Q ∷ [])).own_val (x, y) (both v w ∷ [])) ∷ Γ) G (‵ (P.own_val x (v ∷ [])) ∷ ‵ (Q.own_val y (w ∷ [])) ∷ Γ) G
  pair_in t x y v w = two_in t x y v w

module _ (P Q R : RattleType) {M : Type 1} {𝓤 : Ura M} {𝓛 : Logic 𝓤} {K : Type 0} {Γ : List (Item 𝓤)} {G : Goal 𝓤 𝓛.H} where
  -- a struct of three fields
  pub three_in : K → (x : P.Denot) (y : Q.Denot) (z : R.Denot) (u v w : Val)
      → Step K 𝓛 (‵ ((Struct (three_fields P Q R)).own_val (x, (y, (z, tt))) (three u v w ∷ [])) ∷ Γ) G (‵ (P.own_val x (u ∷ [])) ∷ ‵ (Q.own_val y (v ∷ [])) ∷ ‵ (R.own_val z (w ∷ [])) ∷ Γ) G
  three_in t x y z u v w = step (λ s. nothing t $ move t (3 ∷ 0 ∷ []) $ fjoin t $ move t (1 ∷ 2 ∷ 0 ∷ []) $ fjoin3 t $ feq_i t (List Val) (three u v w ∷ []) (three u v w ∷ []) refl $ fjoin t $
      fpack t (Valss (P ∷ Q ∷ R ∷ [])) (within (three_fields P Q R) (x, (y, (z, tt))) (three u v w ∷ [])) (u ∷ [], (v ∷ [], (w ∷ [], tt))) $ s)

module _ (R Z : RattleType) (g : Ghosts Z.Denot) {M : Type 1} {𝓤 : Ura M} (𝓛 : Logic 𝓤) where
  -- the boxes of two owners are those of one
  pub boxes_join : (bs cs : List (Lodged R.Denot Z.Denot)) → ent 𝓤 (sep 𝓤 (sem 𝓛 (Boxes R Z g bs)) (sem 𝓛 (Boxes R Z g cs))) (sem 𝓛 (Boxes R Z g (bs ++ cs)))
  boxes_join [] cs = qed 𝓛 (‵ ftrue ∷ ‵ (Boxes R Z g cs) ∷ []) ∵ drop ! $ done !
  boxes_join (b ∷ bs) cs = qed 𝓛 (‵ (Boxes R Z g (b ∷ bs)) ∷ ‵ (Boxes R Z g cs) ∷ []) ∵ fsplit ! $ move ! (1 ∷ 2 ∷ []) $
      use2 𝓛 (‵ (Boxes R Z g (bs ++ cs))) (boxes_join bs cs) $ move ! (1 ∷ 0 ∷ []) $ fjoin ! $ done !

  -- the boxes of one owner are those of two
  pub boxes_cut : (bs cs : List (Lodged R.Denot Z.Denot)) → ent 𝓤 (sem 𝓛 (Boxes R Z g (bs ++ cs))) (sep 𝓤 (sem 𝓛 (Boxes R Z g bs)) (sem 𝓛 (Boxes R Z g cs)))
  boxes_cut [] cs = qed 𝓛 (‵ (Boxes R Z g cs) ∷ []) ∵ nothing ! $ done !
  boxes_cut (b ∷ bs) cs = qed 𝓛 (‵ (Boxes R Z g (b ∷ bs ++ cs)) ∷ []) ∵ fsplit ! $ move ! (1 ∷ []) $
      use1 𝓛 (‵ (Boxes R Z g bs) ⊛ ‵ (Boxes R Z g cs)) (boxes_cut bs cs) $ split ! $ move ! (2 ∷ 0 ∷ []) $ fjoin ! $ done !

-- the type of what may read boxes, and its own field
module _ (ν : NamedLft) (R Z : RattleType) (g : Ghosts Z.Denot) where
  -- the type of a node's link
  abbrev pub Sn : RattleType
  Sn = seen.the_row ν R Z g

  abbrev SMark : RattleType
  SMark = Struct (shape (seen.the_type ν R Z g))

  smark_made : {M : Type 1} {𝓤 : Ura M} (𝓛 : Logic 𝓤) → ent 𝓤 (emp 𝓤) (sem 𝓛 (SMark.own_val (record {}, tt) (mark ∷ [])))
  smark_made 𝓛 = makes_shadow 𝓛 (SMark.own_val (record {}, tt) (mark ∷ [])) (λ vss. (tt, ((λ uss. (tt, tt)), tt))) ((vstruct vnil ∷ [], tt), (refl, ((tt, (refl, tt)), tt)))

  module _ {M : Type 1} {𝓤 : Ura M} {𝓛 : Logic 𝓤} {K : Type 0} {Γ : List (Item 𝓤)} {G : Goal 𝓤 𝓛.H} where
    -- what may read boxes is taken apart
    pub seen_had : K → (h : Sn.Denot) (vs : List Val) → (vs ≡ mark ∷ [] → Seq K 𝓛 (‵ (boxes_lent R h.boxes ν.lft) ∷ Γ) G) → Seq K 𝓛 (‵ (Sn.own_val h vs) ∷ Γ) G
    seen_had t h vs k = fsplit t $ fpick t (λ vss. fsplit t $ feq_l t (λ ev. fsplit t $ fpick t (λ uss. fsplit t $ feq_l t (λ e. drop t $ drop t $
        k (subst (λ (ws : List Val). vs ≡ vstruct (of_list (ws ++ [])) ∷ []) e ev)))))

    -- and is made
    pub seen_made : K → (bs : List (Lodged R.Denot Z.Denot))
        → Step K 𝓛 (‵ (Sn.own_val (record { mark = record {}; boxes = bs }) (mark ∷ [])) ∷ Γ) G (‵ (boxes_lent R bs ν.lft) ∷ Γ) G
    seen_made t bs = step (λ s. use0 𝓛 (‵ (SMark.own_val (record {}, tt) (mark ∷ []))) (smark_made 𝓛) $ fjoin t $ s)
