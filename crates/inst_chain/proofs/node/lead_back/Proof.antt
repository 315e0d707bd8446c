-- `lead_back` writes where the first box leads back to.
use Rattle.std.proofs.Common.{◌≡◌, List, [], ◌∷◌, ◌++◌, sym, refl, ap, ◌∙◌, subst}
use mir.Syntax.{a_type, dcons, dnil}
use mir.Val.{Val, vptr, vstruct, vcons, vnil, of_list}
use mir.MapTy.{inst_fn}
use mir.Raw.{raw as bare}
use base.Logic.{SProp, ent, emp, id⊢, fst∗, never}
use base.Fml.{fat, ftrue, fsep, flft}
use types.Logic.{sem}
use types.Kit.{Item, at_ret, fsplit3, ‵, raw, ◌⊛◌, some, ◌$◌, ◌∵◌, !, qed, by, move, keep, drop, split, fsplit, fjoin, fpick, pick, use0, use1, use2, rewrite, feq_l, suffices}
use types.Run.{stop, fld, of_opd, first, blocks, exec, assigns_last, no_more, and_then, returns, enter}
use types.ByLocal.{alloc_all, pass_all, free_all, look_at, get, get_in, sets, through, env}
use types.Part.{agg, sub, whole, store_in}
use contract.Running.{tables}
use contract.Monad.{fact, fact_i}
use contract.BorrowLft.{◌⊑◌}
use denote.Exit.{yes, no}
use denote.RattleType.{RattleType}
use denote.Signature.{plain}
use denote.RawPtr.{Ptr, null_ptr, ptr_val, in_a_block}
use denote.Steps.{nothing, only, heard}
use denote.Param.{param, copied, bounded}
use denote.Triple.Walked.{Stays, stay_dropped, walk_of}
use Rattle.std.proofs.raw_atomic.Walks.{proved_at, leaves}
use Rattle.core.proofs.alloc.Calls.{handle_tells, Goes-blank}
use Rattle.std_alloc.specs.Box.Ownership.{box_owns}
use Rattle.inst_chain.proofs.Steps.{three, mark, Hd, Boxes, held_had, held_made, three_in}
use Rattle.inst_chain.specs.contracts.node.lead_back.{ended, clauses}
use Rattle.inst_chain.specs.contracts.node.lead_back.Key.{name as #self}
use Rattle.inst_chain.proofs.node.lead_back.Statement.{statement}
use Rattle.inst_chain.proofs.node.lead_back.Code as code
use base.Fraction.{full_share}
use Rattle.core.proofs.atomic.Steps.{tail}
use denote.Memory.{lone, part_at}
use denote.Triple.Walked.{Goes-dropped}
use borrow.Table.OneValue.{part_out, part_in}
use Rattle.core.proofs.alloc.Calls.{Al}
use Rattle.inst_chain.specs.Boxes.{Lodged, HasFirst}
use Rattle.inst_chain.specs.Nodes.{LeadsBack}
use Rattle.inst_chain.specs.declared.node.Node.{Node}
use Rattle.inst_chain.specs.contracts.node.Node as node
use Rattle.inst_chain.specs.contracts.boxes.Place as place

pub lead_back_spec : {M : Type 1} → statement M
lead_back_spec 𝓤 𝓛 𝓜 𝓡 wired X V Z L LV LZ cp gc dc g d dd metc met md =
    let H = 𝓛.H in let 𝓣 = tables 𝓤 H 𝓜 𝓡 𝓡.env in
    let Rl : RattleType = copied 0 X in let Rv : RattleType = param 1 V in let P : RattleType = param 2 Z in let N : RattleType = node.the_row Rl Rv in let Held : RattleType = Hd N P g in let Pl : RattleType = place.the_row in
    let Ll : Al = record { row = X; laws = L; g = record { dealloc_token = λ a σ p. ftrue }; d = d; drops = dd } in let Lv : Al = record { row = V; laws = LV; g = record { dealloc_token = λ a σ p. ftrue }; d = d; drops = dd } in
    let En = ended X V Z gc dc g d dd in let inst = bounded (a_type ∷ a_type ∷ a_type ∷ []) (X, (V, (Z, tt))) (dcons dc (dcons d (dcons dd dnil))) in let fn = inst_fn inst code.function in let c = clauses X V Z gc dc g d dd 𝓛 𝓜.mem 𝓡.returns in
    let hs : Stays En.signature.params En.kept = (stay_dropped (plain (λ _. Held)) no, (stay_dropped (plain (λ _. Pl)) yes, (stay_dropped (plain (λ _. Rl)) no, tt))) in
    proved_at 𝓛 En hs c 𝓜 𝓡 (Goes-blank 𝓛 3 (plain (λ _. Held)) no (λ κs x f. tt), (Goes-dropped 𝓛 3 (plain (λ _. Pl)) yes (λ κs x f. refl), (Goes-blank 𝓛 3 (plain (λ _. Rl)) no (λ κs x f. tt), tt))) (#self inst) fn (code.unfolded 𝓤 H 𝓜 𝓡 wired (X, (V, (Z, tt))) dc d dd) (λ z are.
    let κs = z.0.0 in let qs = z.0.1 in let t₁ : Item 𝓤 = ‵ (flft κs.0 qs.0) in let t₂ : Item 𝓤 = ‵ (flft κs.1.0 qs.1.0) in let t₃ : Item 𝓤 = ‵ (flft κs.1.1.0 qs.1.1.0) in
    let in₁ = κs.0 ⊑ X.lives in let in₂ = κs.1.0 ⊑ V.lives in let in₃ = κs.1.1.0 ⊑ Z.lives in
    let Post : Val → SProp 𝓤 = (walk_of 𝓛 En hs c).post z in let Run : List Val → SProp 𝓤 = λ ws. prog.Wp.WpFn 𝓤 H 𝓣.C 𝓣.Λ fn ws Post in
    let h : Held.Denot = z.0.3.0 in let pl : Pl.Denot = z.0.3.1.0 in let m : X.Denot = z.0.3.1.1.0 in let Item' = Lodged (Node X.Denot V.Denot) Z.Denot in
    let Asked : Type 0 = HasFirst h.boxes pl.at in
    qed 𝓛 (((t₁ ⊛ t₂ ⊛ t₃ ⊛ ‵ ftrue) ⊛ ‵ (fsep (Held.own_val h z.0.4.0) (fsep (Pl.own_val pl z.0.4.1.0) (fsep (X.own_val m z.0.4.1.1.0) ftrue)))) ∷ raw (fact 𝓤 in₁) ∷ raw (fact 𝓤 in₂) ∷ raw (fact 𝓤 in₃) ∷ raw (fact 𝓤 Asked) ∷ []) ∵
    move ! (1 ∷ 2 ∷ 3 ∷ 4 ∷ []) $ heard ! in₁ (λ le₁. heard ! in₂ (λ le₂. heard ! in₃ (λ le₃. heard ! Asked (λ asked. split ! $ move ! (1 ∷ []) $ fsplit3 ! $
    -- [the owner; the place; the link and nothing; the tokens]
    let za : Z.Denot = asked.0 in let n : Node X.Denot V.Denot = asked.1.0 in let rest : List Item' = asked.1.1 in
    held_had N P g ! h z.0.4.0 (λ eh. move ! (1 ∷ []) $
    fpick ! (λ vss. fsplit ! $ feq_l ! (λ ev. fsplit ! $ feq_l ! (λ ep. drop ! $ move ! (1 ∷ []) $ fsplit ! $ handle_tells Ll ! m z.0.4.1.1.0 (λ lm em fm'. move ! (2 ∷ []) $
    -- [the boxes; the link; nothing; the tokens]
    rewrite ! 0 (λ (bs : List Item'). ‵ (Boxes N P g bs)) asked.1.2 refl $
    fsplit ! $
    in_a_block ! pl.at (λ p. box_owns (g.dealloc_token za) N p n) (fst∗ 𝓤 (never 𝓤) (sem 𝓛 (g.dealloc_token za (bare (lone N.mir)) null_ptr))) (λ b o at. fsplit ! $
    use1 𝓛 (some (λ (v : Val). ‵ (fat full_share (lone N.mir) b o v) ⊛ ‵ (N.own_val n (v ∷ [])))) (part_out 𝓛 N refl full_share n b o) $ pick ! (λ v. split ! $ move ! (1 ∷ []) $
    fpick ! (λ uss. fsplit ! $ feq_l ! (λ eu. fsplit3 ! $
    handle_tells Ll ! n.next uss.0 (λ nv en fn'. move ! (1 ∷ []) $ handle_tells Ll ! n.prev uss.1.0 (λ pv ew fp. move ! (2 ∷ []) $ fsplit ! $ handle_tells Lv ! n.value uss.1.1.0 (λ vv ex fv.
    let is : v ≡ three nv pv vv = ap only (eu ∙ (λ j. vstruct (of_list (en j ++ (ew j ++ (ex j ++ [])))) ∷ [])) in
    move ! (4 ∷ []) $ rewrite ! 0 (λ (w : Val). ‵ (fat full_share (lone N.mir) b o w)) is refl $
    -- [the cell; the value; nothing; both old links; the right to free; the other boxes; the new link; nothing; the tokens]
    keep ! (0 ∷ 4 ∷ 7 ∷ 1 ∷ 5 ∷ 6 ∷ 9 ∷ []) $
    let us : List Val = mark ∷ vstruct (vcons (vptr b o) vnil) ∷ lm ∷ [] in
    let ea : z.0.4.1.0 ≡ vstruct (vcons (vptr b o) vnil) ∷ [] = ev ∙ (λ j. vstruct (of_list ((ep ∙ ap (λ (π : Ptr). ptr_val π ∷ []) at) j ++ [])) ∷ []) in
    suffices ! (Run us) (subst (λ (ws : List Val). ent 𝓤 (Run us) (Run ws)) (sym (λ i. eh i ++ (ea i ++ (em i ++ [])))) (id⊢ 𝓤 (Run us))) $
    let new : Node X.Denot V.Denot = record { next = n.next; prev = m; value = n.value } in let own : Held.Denot = record { mark = record {}; boxes = (pl.at, za, new) ∷ rest } in
    let Told : Type 0 = LeadsBack h.boxes pl.at m own.boxes in let told : Told = (za, n, rest, asked.1.2, refl) in
    enter ! 𝓣.C 𝓣.Λ fn us Post $ alloc_all ! (λ l. pass_all ! refl ((tt, (tt, tt)), ((tt, (tt, tt)), (fm', tt))) $ let Ev = env fn.locals l in
    sets ! (of_opd ! (get_in ! (fld ! refl (stop !)) (sub ! 0 refl (whole !)))) refl (tt, tt) $ sets ! (of_opd ! (get ! refl)) refl (tt, tt) $ first ! $ blocks ! $
    assigns_last ! (of_opd ! (get ! refl)) (through ! refl (fld ! refl (stop !))) (store_in ! 0 (sub ! 1 refl (whole !)) fm') $ exec ! 𝓣.C 𝓣.Λ Ev (tail (tail (tail fn.body))) (at_ret Ev Post) $
    sets ! (agg ! (no_more !)) refl (tt, tt) $ sets ! (agg ! (and_then ! (get ! refl) (no_more !))) refl (tt, (tt, tt)) $
    -- [the cell; the old link; the new one; the value; the right to free; the other boxes; the tokens]
    move ! (1 ∷ 2 ∷ 3 ∷ []) $ three_in Rl Rl Rv ! n.next m n.value nv lm vv $ move ! (1 ∷ 0 ∷ []) $ use2 𝓛 (‵ (part_at N full_share new b o)) (part_in 𝓛 N refl full_share new b o (three nv lm vv)) $
    move ! (0 ∷ 1 ∷ []) $ fjoin ! $ rewrite ! 0 (λ (p : Ptr). ‵ (box_owns (g.dealloc_token za) N p new)) (sym at) refl $ fjoin ! $
    held_made N P g ! own.boxes $ use0 𝓛 (raw (fact 𝓤 Told)) (fact_i 𝓤 Told (emp 𝓤) told) $ nothing ! $ nothing ! $ fjoin ! $ nothing ! $ fjoin ! $ nothing ! $ fjoin ! $
    returns ! (look_at ! 0 refl) $ free_all ! refl $ keep ! (3 ∷ 0 ∷ 2 ∷ 1 ∷ []) $ by ! (leaves 𝓛 En hs c z mark own (tt, (tt, (tt, tt))) (tt, (tt, (tt, tt))))))))))))))))))))))
