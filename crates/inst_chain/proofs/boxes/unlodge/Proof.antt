-- `unlodge` makes the first box again.
use Rattle.std.proofs.Common.{◌≡◌, ◌&&◌, T, true, List, [], ◌∷◌, ◌++◌, sym, refl, ap, ◌∙◌, subst}
use mir.Syntax.{a_type, dcons, dnil}
use mir.Val.{Val, vptr, vstruct, of_list, has_ty, WT}
use mir.MapTy.{inst_fn}
use mir.Raw.{raw as bare}
use base.Logic.{SProp, ent, emp, id⊢, fst∗, never}
use base.Fml.{ftrue, fsep, flft}
use types.Logic.{sem}
use types.Kit.{Item, at_ret, fsplit3, ‵, raw, ◌⊛◌, some, later, ◌$◌, ◌∵◌, !, qed, by, move, keep, drop, split, split3, join, fsplit, fjoin, fjoin3, fpick, pick, use0, use1, await, rewrite, feq_i, feq_l, suffices}
use types.Run.{stop, fld, of_opd, no_more, and_then, first, blocks, exec, returns, enter}
use types.ByLocal.{alloc_all, pass_all, free_all, look_at, get, get_in, sets, lands_last, is, env}
use types.Part.{agg, sub, whole}
use contract.Running.{tables}
use contract.Monad.{fact, fact_i}
use contract.BorrowLft.{◌⊑◌}
use denote.Exit.{no}
use denote.RattleType.{RattleType}
use denote.Signature.{plain}
use denote.RawPtr.{Ptr, block_ptr, null_ptr, ptr_val, in_a_block}
use denote.Steps.{nothing, only, heard}
use denote.Param.{layout, bounded}
use denote.Triple.Clauses.{Lasts, lasts}
use Rattle.core.proofs.atomic.Steps.{tail}
use Rattle.inst_chain.specs.Boxes.{Lodged, IsFirst}
use denote.Triple.Spec.{triple_of}
use denote.Triple.Call.{calls_at_last}
use denote.Triple.Walked.{Stays, stay_dropped, walk_of}
use Rattle.std.proofs.raw_atomic.Walks.{proved_at, leaves}
use Rattle.core.proofs.atomic.Steps.{fm}
use Rattle.core.proofs.alloc.Calls.{α, token, handle_tells, Goes-blank}
use Rattle.std_alloc.specs.Box.Ownership.{box_owns}
use Rattle.std_alloc.proofs.BoxSteps.Form as box
use Rattle.std_alloc.proofs.BoxSteps.Steps.{box_out, box_in}
use Rattle.std_alloc.proofs.ResultValues.{and_tt}
use Rattle.std_alloc.specs.contracts.boxed.Box.from_raw as callee
use Rattle.std_alloc.proofs.boxed.Box.from_raw.Met as callee_met
use Rattle.inst_chain.specs.contracts.boxes.Spot as spot
use Rattle.inst_chain.proofs.Steps.{both, mark, Hd, Boxes, held_had, held_made, pair_in}
use Rattle.inst_chain.specs.contracts.boxes.unlodge.{ended, clauses}
use Rattle.inst_chain.specs.contracts.boxes.unlodge.Key.{name as #self}
use Rattle.inst_chain.proofs.boxes.unlodge.Statement.{statement}
use Rattle.inst_chain.proofs.boxes.unlodge.Code as code

pub unlodge_spec : {M : Type 1} → statement M
unlodge_spec 𝓤 𝓛 𝓜 𝓡 wired X Z L LZ g d dd met md =
    let H = 𝓛.H in let 𝓣 = tables 𝓤 H 𝓜 𝓡 𝓡.env in let E : box.Bx = record { row = X; laws = L; al = record { row = Z; laws = LZ; g = g; d = d; drops = dd } } in
    let R : RattleType = box.R E in let P : RattleType = box.P E in let B : RattleType = box.B E in let Held : RattleType = Hd R P g in let Spot : RattleType = spot.the_row P in
    let En = ended X Z g d dd in let inst = bounded (a_type ∷ a_type ∷ []) (X, (Z, tt)) (dcons d (dcons dd dnil)) in let fn = inst_fn inst code.function in let c = clauses X Z g d dd 𝓛 𝓜.mem 𝓡.returns in
    let Made = triple_of 𝓛 (callee.signature X Z g d dd) (callee.spec X Z g d dd 𝓛 𝓜.mem 𝓡.returns) in let Ce = callee.ended X Z g d dd in
    let known = callee_met.met 𝓤 𝓛 𝓜 𝓡 (code.calls-std_alloc::boxed::Box::from_raw 𝓡.env wired) X Z L LZ g d dd met md in
    let hs : Stays En.signature.params En.kept = (stay_dropped (plain (λ _. Spot)) no, (stay_dropped (plain (λ _. Held)) no, tt)) in
    proved_at 𝓛 En hs c 𝓜 𝓡 (Goes-blank 𝓛 2 (plain (λ _. Spot)) no (λ κs x f. tt), (Goes-blank 𝓛 2 (plain (λ _. Held)) no (λ κs x f. tt), tt)) (#self inst) fn (code.unfolded 𝓤 H 𝓜 𝓡 wired (X, (Z, tt)) d dd) (λ z are.
    let κs = z.0.0 in let qs = z.0.1 in let t₁ : Item 𝓤 = ‵ (flft κs.0 qs.0) in let t₂ : Item 𝓤 = ‵ (flft κs.1.0 qs.1.0) in let inX = κs.0 ⊑ X.lives in let inZ = κs.1.0 ⊑ Z.lives in
    let Post : Val → SProp 𝓤 = (walk_of 𝓛 En hs c).post z in let Run : List Val → SProp 𝓤 = λ ws. prog.Wp.WpFn 𝓤 H 𝓣.C 𝓣.Λ fn ws Post in
    let s : Spot.Denot = z.0.3.0 in let h : Held.Denot = z.0.3.1.0 in let a : Z.Denot = s.alloc in
    let Asked : Type 0 = IsFirst h.boxes s.at s.alloc in
    qed 𝓛 (((t₁ ⊛ t₂ ⊛ ‵ ftrue) ⊛ ‵ (fsep (Spot.own_val s z.0.4.0) (fsep (Held.own_val h z.0.4.1.0) ftrue))) ∷ raw (fact 𝓤 inX) ∷ raw (fact 𝓤 inZ) ∷ raw (fact 𝓤 Asked) ∷ []) ∵
    move ! (1 ∷ 2 ∷ 3 ∷ []) $ heard ! inX (λ leX. heard ! inZ (λ leZ. heard ! Asked (λ asked. split ! $ move ! (1 ∷ []) $ fsplit3 ! $ move ! (1 ∷ []) $
    let x : X.Denot = asked.0 in let rest : List (Lodged X.Denot Z.Denot) = asked.1 in
    held_had R P g ! h z.0.4.1.0 (λ em. rewrite ! 0 (λ (bs : List (Lodged X.Denot Z.Denot)). ‵ (Boxes R P g bs)) asked.2 refl $ fsplit ! $ move ! (2 ∷ []) $
    fpick ! (λ vss. fsplit ! $ feq_l ! (λ ev. fsplit ! $ feq_l ! (λ ep. fsplit ! $ handle_tells E.al ! a vss.1.0 (λ hv eh fa. move ! (2 ∷ []) $
    in_a_block ! s.at (λ p. box_owns (token E.al a) R p x) (fst∗ 𝓤 (never 𝓤) (sem 𝓛 (token E.al a (bare (layout X)) null_ptr))) (λ b o at.
    -- [the box's memory; the handle; nothing; the other boxes; nothing; the tokens]
    let w : Val = box.word E hv b o in let typed = box.box_typed E hv b o fa in let us : List Val = w ∷ mark ∷ [] in
    let ew : z.0.4.0 ≡ w ∷ [] = ev ∙ (λ j. vstruct (of_list ((ep ∙ ap (λ (π : Ptr). ptr_val π ∷ []) at) j ++ (eh j ++ []))) ∷ []) in
    let y : Made.Ghost = ((κs, qs, tt, (a, (block_ptr b o, tt)), (hv ∷ [], (vptr b o ∷ [], tt))), x) in
    suffices ! (Run us) (subst (λ (ws : List Val). ent 𝓤 (Run us) (Run ws)) (sym (λ i. ew i ++ (em i ++ []))) (id⊢ 𝓤 (Run us))) $ keep ! (0 ∷ 1 ∷ 5 ∷ 3 ∷ []) $
    enter ! 𝓣.C 𝓣.Λ fn us Post $ alloc_all ! (λ l. pass_all ! refl (typed, ((tt, (tt, tt)), tt)) $ let Ev = env fn.locals l in
    sets ! (of_opd ! (get_in ! (fld ! refl (stop !)) (sub ! 0 refl (whole !)))) refl (tt, tt) $ sets ! (of_opd ! (get_in ! (fld ! refl (stop !)) (sub ! 1 refl (whole !)))) refl fa $
    sets ! (of_opd ! (get ! refl)) refl (tt, tt) $ sets ! (of_opd ! (get ! refl)) refl (tt, tt) $ first ! $ blocks ! $ sets ! (of_opd ! (get ! refl)) refl fa $ sets ! (of_opd ! (get ! refl)) refl (tt, tt) $
    use0 𝓛 (raw (fact 𝓤 inZ)) (fact_i 𝓤 inZ (emp 𝓤) leZ) $ join ! $ use0 𝓛 (raw (fact 𝓤 inX)) (fact_i 𝓤 inX (emp 𝓤) leX) $ join ! $
    nothing ! $ feq_i ! (List Val) (vptr b o ∷ []) (vptr b o ∷ []) refl $ move ! (3 ∷ 0 ∷ 1 ∷ []) $ fjoin3 ! $ move ! (2 ∷ 0 ∷ []) $ join ! $ join ! $ use1 𝓛 (raw (Made.pre y)) (id⊢ 𝓤 _) $
    calls_at_last ! (fm 𝓛 𝓜 𝓡) Made known y (and_then ! (get ! refl) (and_then ! (get ! refl) (no_more !))) (λ u.
    use1 𝓛 (later (some (λ (r : B.Denot). ((t₁ ⊛ t₂ ⊛ ‵ ftrue) ⊛ ‵ (B.own_val r (u ∷ []))) ⊛ some (λ (ws : Lasts Ce κs (a, (block_ptr b o, tt))). ‵ (lasts Ce κs (a, (block_ptr b o, tt)) ws) ⊛ (raw (fact 𝓤 (r.value ≡ x)) ⊛ raw (fact 𝓤 (r.alloc ≡ a))))))) (id⊢ 𝓤 _) $
    await ! tt $ pick ! (λ r. split ! $ move ! (1 ∷ []) $ pick ! (λ _. split3 ! $ drop ! $ move ! (1 ∷ []) $ drop ! $ heard ! (r.value ≡ x) (λ same. split ! $ move ! (1 ∷ []) $
    box_out E ! r (u ∷ []) (λ b' o' hw e' eu fw. box_in E ! r b' o' r.value e' refl $ let w' : Val = box.word E hw b' o' in let typed' = box.box_typed E hw b' o' fw in let is_word : u ≡ w' = ap only eu in
    let own : Held.Denot = record { mark = record {}; boxes = rest } in
    let Told : Type 0 = h.boxes ≡ (s.at, s.alloc, r.value) ∷ own.boxes in
    let told : Told = asked.2 ∙ ap (λ (m : X.Denot). (s.at, s.alloc, m) ∷ rest) (sym same) in
    lands_last ! refl (subst (λ (s : Val). T (has_ty (box.box_ty E) s) × WT s) (sym is_word) typed') $ exec ! 𝓣.C 𝓣.Λ Ev (tail (tail (tail (tail (tail fn.body))))) (at_ret Ev Post) $ sets ! (is ! (of_opd ! (get ! refl)) is_word) refl typed' $
    sets ! (agg ! (no_more !)) refl (tt, tt) $ sets ! (agg ! (and_then ! (get ! refl) (no_more !))) refl (tt, (tt, tt)) $
    sets ! (agg ! (and_then ! (get ! refl) (and_then ! (get ! refl) (no_more !)))) refl (and_tt (has_ty (α E.al) hw && true) typed'.0, (typed'.1, ((tt, tt), tt))) $
    -- [the box; the tokens; the other boxes]
    move ! (2 ∷ []) $ held_made R P g ! rest $ move ! (1 ∷ []) $ pair_in B Held ! r own w' mark $
    use0 𝓛 (raw (fact 𝓤 Told)) (fact_i 𝓤 Told (emp 𝓤) told) $ nothing ! $ nothing ! $ fjoin ! $ nothing ! $ fjoin ! $
    returns ! (look_at ! 0 refl) $ free_all ! refl $ keep ! (3 ∷ 0 ∷ 2 ∷ 1 ∷ []) $ by ! (leaves 𝓛 En hs c z (both w' mark) (r, own) ((tt, (tt, tt)), (tt, tt)) (tt, (tt, tt)))))))))))))))))))
