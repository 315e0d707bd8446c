-- What stays linked where a bead comes or goes.
use Rattle.std.proofs.Common.{◌≡◌, List, [], ◌∷◌, ◌++◌, refl, ap, sym, subst, ◌∙◌, lit<}
use Rattle.std.specs.declared.alloc.Global.{Global}
use denote.RawPtr.{Ptr, null_ptr, InBlock, Testable}
use Rattle.inst_chain.specs.declared.node.Node.{Node}
use Rattle.inst_chain.specs.Boxes.{IsStart, IsFirst, HasFirst, IsLast}
use Rattle.inst_chain.specs.Nodes.{LeadsOn, LeadsBack}
use Rattle.inst_chain.specs.Linked.{Beaded, AreLinked}

-- a block does not start at null
pub is_there : (p : Ptr) → IsStart p → InBlock p
is_there p start = subst InBlock (sym start.1) tt

module _ {T : Type 0} where
  -- the first box lies where the beads begin, and any handle of the heap frees it
  pub first_of : (before first : Ptr) (z : Global) (bs : List (Beaded T)) (last : Ptr) → AreLinked before first bs last null_ptr → InBlock first → IsFirst bs first z
  first_of before first z [] last h there = absurd (subst InBlock h.0 there)
  first_of before first z (b ∷ bs) last h there = (b.2, bs, ap (λ (p : Ptr). (p, b.1, b.2) ∷ bs) (sym h.0))

  -- a first box lies there
  pub has_first : (before first : Ptr) (bs : List (Beaded T)) (last : Ptr) → AreLinked before first bs last null_ptr → InBlock first → HasFirst bs first
  has_first before first [] last h there = absurd (subst InBlock h.0 there)
  has_first before first (b ∷ bs) last h there = (b.1, first_of before first b.1 (b ∷ bs) last h there)

  -- the last box lies where the last bead is, by induction on the beads
  last_of : (before first : Ptr) (b : Beaded T) (bs : List (Beaded T)) (last after : Ptr) → AreLinked before first (b ∷ bs) last after → IsLast (b ∷ bs) last
  last_of before first b [] last after h = ([], b.1, b.2, ap (λ (p : Ptr). (p, b.1, b.2) ∷ []) (sym h.3.1))
  last_of before first b (c ∷ cs) last after h = let on = last_of b.0 b.2.next c cs last after h.3 in (b ∷ on.0, on.1, on.2, ap (λ t. b ∷ t) on.3)

  -- the same of the beads of a run
  pub has_last : (before first : Ptr) (bs : List (Beaded T)) (last : Ptr) → AreLinked before first bs last null_ptr → InBlock first → IsLast bs last
  has_last before first [] last h there = absurd (subst InBlock h.0 there)
  has_last before first (b ∷ bs) last h there = last_of before first b bs last null_ptr h

  -- where the beads begin can be compared with null
  pub may_test : (before first : Ptr) (bs : List (Beaded T)) (last : Ptr) → AreLinked before first bs last null_ptr → Testable first
  may_test before first [] last h = subst Testable (sym h.0) (lit< tt)
  may_test before first (b ∷ bs) last h = subst Testable (sym (h.0 ∙ h.1.1)) (lit< tt)

  -- and is where a bead lies, if it is not null
  pub starts_there : (before first : Ptr) (bs : List (Beaded T)) (last : Ptr) → AreLinked before first bs last null_ptr → InBlock first → IsStart first
  starts_there before first [] last h there = absurd (subst InBlock h.0 there)
  starts_there before first (b ∷ bs) last h there = subst IsStart (sym h.0) h.1

  -- the first bead is made to lead back to another one
  led_back : (before first p : Ptr) (bs cs : List (Beaded T)) (last after m : Ptr) → AreLinked before first bs last after → LeadsBack bs p m cs → AreLinked m first cs last after
  led_back before first p bs cs last after m h back =
      let linked = subst (λ (ds : List (Beaded T)). AreLinked before first ds last after) back.3 h in
      subst (λ (ds : List (Beaded T)). AreLinked m first ds last after) (sym back.4) (linked.0, linked.1, refl, linked.3)

  -- the last bead is made to lead on to others, which lead back to it, by induction on those before it
  led_on : (before first : Ptr) (front : List (Beaded T)) (p : Ptr) (z : Global) (n : Node Ptr T) (l m : Ptr) (ds : List (Beaded T)) (last after : Ptr)
      → AreLinked before first (front ++ (p, z, n) ∷ []) l null_ptr → AreLinked l m ds last after
      → AreLinked before first (front ++ (p, z, record { next = m; prev = n.prev; value = n.value }) ∷ ds) last after
  led_on before first [] p z n l m ds last after h k = (h.0, h.1, h.2, subst (λ (o : Ptr). AreLinked o m ds last after) h.3.1 k)
  led_on before first (b ∷ bs) p z n l m ds last after h k = (h.0, h.1, h.2, led_on b.0 b.2.next bs p z n l m ds last after h.3 k)

  -- the last bead of one chain and the first one of another are made neighbours
  pub joined : (s l t : Ptr) (bs ds es cs : List (Beaded T)) (last : Ptr) → AreLinked null_ptr s bs l null_ptr → AreLinked null_ptr t ds last null_ptr
      → LeadsBack ds t l es → LeadsOn bs l t es cs → AreLinked null_ptr s cs last null_ptr
  joined s l t bs ds es cs last h k back on =
      subst (λ (os : List (Beaded T)). AreLinked null_ptr s os last null_ptr) (sym on.4)
      (led_on null_ptr s on.0 l on.1 on.2 l t es last null_ptr
      (subst (λ (os : List (Beaded T)). AreLinked null_ptr s os l null_ptr) on.3 h)
      (led_back null_ptr t t ds es last null_ptr l k back))

  -- the beads behind the first one, which leads on to t
  pub behind : (before first : Ptr) (b : Beaded T) (bs rest : List (Beaded T)) (last t : Ptr) → bs ≡ b ∷ rest → t ≡ b.2.next → AreLinked before first bs last null_ptr → AreLinked b.0 t rest last null_ptr
  behind before first b bs rest last t e is h =
      let linked = subst (λ (ds : List (Beaded T)). AreLinked before first ds last null_ptr) e h in
      subst (λ (o : Ptr). AreLinked b.0 o rest last null_ptr) (sym is) linked.3

  -- a bead that leads on to none is the last one, so none is left behind it
  pub none_left : (before first : Ptr) (bs : List (Beaded T)) (last : Ptr) → first ≡ null_ptr → AreLinked before first bs last null_ptr → bs ≡ []
  none_left before first [] last none h = refl
  none_left before first (b ∷ bs) last none h = absurd (subst InBlock (sym h.0 ∙ none) (is_there b.0 h.1))

  -- and the only one that is left
  pub only_one : (before first : Ptr) (b : Beaded T) (bs rest : List (Beaded T)) (last t : Ptr) → bs ≡ b ∷ rest → t ≡ b.2.next → t ≡ null_ptr → AreLinked before first bs last null_ptr → bs ≡ b ∷ []
  only_one before first b bs rest last t e is none h = e ∙ ap (λ t. b ∷ t) (none_left b.0 t rest last none (behind before first b bs rest last t e is h))
