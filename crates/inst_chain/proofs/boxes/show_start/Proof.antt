-- `show_start` reads where the first box lies from the right to free it.
use Rattle.std.proofs.Common.{◌≡◌, List, [], ◌∷◌, ◌++◌, sym, refl, ap, ◌∙◌, subst}
use mir.Syntax.{a_type}
use mir.Val.{Val, vptr, vstruct, vcons, vnil, of_list}
use mir.MapTy.{inst_fn}
use base.Logic.{SProp, ent, emp, id⊢}
use base.Fml.{ftrue, fsep, flft}
use types.Kit.{Item, ‵, raw, given, ◌⊛◌, ◌$◌, ◌∵◌, !, qed, by, move, keep, drop, split, fsplit, fsplit3, fjoin, join, fpick, use0, use1, learn, rewrite, feq_l, suffices}
use types.Run.{no_more, and_then, returns, enter}
use types.ByLocal.{alloc_all, pass_all, free_all, look_at, get, sets}
use types.Part.{agg}
use contract.Running.{tables}
use contract.Monad.{fact, fact_i}
use contract.BorrowLft.{◌⊑◌}
use denote.Exit.{yes, no}
use denote.RattleType.{RattleType}
use denote.Signature.{plain}
use denote.RawPtr.{Ptr, ptr_val}
use denote.Steps.{nothing, heard}
use denote.Param.{param, layouts}
use denote.Triple.Walked.{Stays, stay_dropped, walk_of, Goes-dropped}
use Rattle.std.proofs.raw_atomic.Walks.{proved_at, leaves}
use Rattle.std.specs.contracts.alloc.Global as heap
use Rattle.std.specs.contracts.impls.GlobalAllocator.TheImpl.{ghosts}
use Rattle.core.proofs.alloc.Calls.{Goes-blank}
use Rattle.std_alloc.specs.Box.Ownership.{box_owns}
use Rattle.inst_chain.specs.Boxes.{Lodged, HasFirst, IsStart}
use Rattle.inst_chain.specs.contracts.boxes.Place as place
use Rattle.inst_chain.proofs.Starts.{starts}
use Rattle.inst_chain.proofs.Steps.{mark, Hd, Boxes, held_had, held_made}
use Rattle.inst_chain.specs.contracts.boxes.show_start.{ended, clauses}
use Rattle.inst_chain.specs.contracts.boxes.show_start.Key.{name as #self}
use Rattle.inst_chain.proofs.boxes.show_start.Statement.{statement}
use Rattle.inst_chain.proofs.boxes.show_start.Code as code

pub show_start_spec : {M : Type 1} → statement M
show_start_spec 𝓤 𝓛 𝓜 𝓡 wired X L =
    let H = 𝓛.H in let 𝓣 = tables 𝓤 H 𝓜 𝓡 𝓡.env in
    let R : RattleType = param 0 X in let Z : RattleType = heap.the_row in let Held : RattleType = Hd R Z ghosts in let Pl : RattleType = place.the_row in
    let En = ended X in let inst = layouts (a_type ∷ []) (X, tt) in let fn = inst_fn inst code.function in let c = clauses X 𝓛 𝓜.mem 𝓡.returns in
    let hs : Stays En.signature.params En.kept = (stay_dropped (plain (λ _. Held)) no, (stay_dropped (plain (λ _. Pl)) yes, tt)) in
    proved_at 𝓛 En hs c 𝓜 𝓡 (Goes-blank 𝓛 1 (plain (λ _. Held)) no (λ κs x f. tt), (Goes-dropped 𝓛 1 (plain (λ _. Pl)) yes (λ κs x f. refl), tt)) (#self inst) fn (code.unfolded 𝓤 H 𝓜 𝓡 wired (X, tt)) (λ z are.
    let κs = z.0.0 in let qs = z.0.1 in let t₁ : Item 𝓤 = ‵ (flft κs.0 qs.0) in let inX = κs.0 ⊑ X.lives in
    let Post : Val → SProp 𝓤 = (walk_of 𝓛 En hs c).post z in let Run : List Val → SProp 𝓤 = λ ws. prog.Wp.WpFn 𝓤 H 𝓣.C 𝓣.Λ fn ws Post in
    let h : Held.Denot = z.0.3.0 in let pl : Pl.Denot = z.0.3.1.0 in let p : Ptr = pl.at in let Asked : Type 0 = HasFirst h.boxes p in
    qed 𝓛 (((t₁ ⊛ ‵ ftrue) ⊛ ‵ (fsep (Held.own_val h z.0.4.0) (fsep (Pl.own_val pl z.0.4.1.0) ftrue))) ∷ raw (fact 𝓤 inX) ∷ raw (fact 𝓤 Asked) ∷ []) ∵
    move ! (1 ∷ 2 ∷ []) $ heard ! inX (λ le₁. heard ! Asked (λ asked. split ! $ move ! (1 ∷ []) $ fsplit3 ! $
    let a : Z.Denot = asked.0 in let x : X.Denot = asked.1.0 in let rest : List (Lodged X.Denot Z.Denot) = asked.1.1 in
    held_had R Z ghosts ! h z.0.4.0 (λ eh. rewrite ! 0 (λ (bs : List (Lodged X.Denot Z.Denot)). ‵ (Boxes R Z ghosts bs)) asked.1.2 refl $ fsplit ! $
    use1 𝓛 (given (IsStart p) (‵ (box_owns (ghosts.dealloc_token a) R p x))) (starts 𝓛 R a p x) $ learn ! (λ start. fjoin ! $ move ! (1 ∷ []) $
    fpick ! (λ vss. fsplit ! $ feq_l ! (λ ev. fsplit ! $ feq_l ! (λ ep. drop ! $
    keep ! (0 ∷ 2 ∷ []) $
    -- [the boxes; the tokens]
    let us : List Val = mark ∷ vstruct (vcons (vptr start.0 0) vnil) ∷ [] in
    let ea : z.0.4.1.0 ≡ vstruct (vcons (vptr start.0 0) vnil) ∷ [] = ev ∙ (λ j. vstruct (of_list ((ep ∙ ap (λ (π : Ptr). ptr_val π ∷ []) start.1) j ++ [])) ∷ []) in
    suffices ! (Run us) (subst (λ (ws : List Val). ent 𝓤 (Run us) (Run ws)) (sym (λ i. eh i ++ (ea i ++ []))) (id⊢ 𝓤 (Run us))) $
    let own : Held.Denot = record { mark = record {}; boxes = (p, a, x) ∷ rest } in let Same : Type 0 = own.boxes ≡ h.boxes in
    enter ! 𝓣.C 𝓣.Λ fn us Post $ alloc_all ! (λ l. pass_all ! refl ((tt, (tt, tt)), ((tt, (tt, tt)), tt)) $
    sets ! (agg ! (no_more !)) refl (tt, tt) $ sets ! (agg ! (and_then ! (get ! refl) (no_more !))) refl (tt, (tt, tt)) $
    held_made R Z ghosts ! own.boxes $
    use0 𝓛 (raw (fact 𝓤 Same)) (fact_i 𝓤 Same (emp 𝓤) (sym asked.1.2)) $ use0 𝓛 (raw (fact 𝓤 (IsStart p))) (fact_i 𝓤 (IsStart p) (emp 𝓤) start) $ join ! $
    nothing ! $ nothing ! $ fjoin ! $ nothing ! $ fjoin ! $
    returns ! (look_at ! 0 refl) $ free_all ! refl $ keep ! (3 ∷ 0 ∷ 2 ∷ 1 ∷ []) $ by ! (leaves 𝓛 En hs c z mark own (tt, (tt, tt)) (tt, (tt, tt))))))))))))
