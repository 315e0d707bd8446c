-- `first` lends the first value.
use Rattle.std.proofs.Common.{◌≡◌, List, [], ◌∷◌, ◌++◌, sym, refl, ap, ◌∙◌, subst}
use mir.Syntax.{a_type, dcons, dnil}
use mir.Val.{Val, vptr, vstruct, vcons, vnil, of_list}
use mir.MapTy.{inst_fn}
use base.Logic.{SProp, ent, emp, id⊢}
use base.Fml.{ftrue, fsep, flft}
use types.Kit.{fsplit3, ‵, raw, ◌⊛◌, ◌$◌, ◌∵◌, !, qed, by, move, keep, drop, split, fsplit, fjoin, fpick, use0, use1, rewrite, feq_i, feq_l, suffices}
use types.Run.{no_more, and_then, returns, enter}
use types.ByLocal.{alloc_all, pass_all, free_all, look_at, get, get_in, sets}
use types.Part.{agg, sub, whole}
use contract.Running.{tables}
use contract.Monad.{fact, fact_i}
use contract.BorrowLft.{◌⊑◌}
use denote.Exit.{no}
use denote.RattleType.{RattleType}
use denote.Signature.{plain}
use denote.RawPtr.{Ptr, block_ptr, ptr_val}
use denote.Steps.{nothing, heard}
use denote.Param.{param, bounded}
use denote.Triple.Walked.{Stays, stay_dropped, walk_of}
use Rattle.std.proofs.raw_atomic.Walks.{proved_at, leaves}
use Rattle.core.proofs.alloc.Calls.{Goes-blank}
use Rattle.inst_chain.proofs.Steps.{mark}
use Rattle.inst_chain.specs.contracts.seen.first.{ended, clauses}
use Rattle.inst_chain.specs.contracts.seen.first.Key.{name as #self}
use Rattle.inst_chain.proofs.seen.first.Statement.{statement}
use Rattle.inst_chain.proofs.seen.first.Code as code
use mir.Syntax.{named}
use base.Fml.{Lft}
use types.Kit.{at_ret, feq_l}
use types.Run.{stop, fld, of_opd, first as into, blocks, exec, addr}
use types.ByLocal.{sets_last, through, env}
use denote.Exit.{yes}
use denote.Ref.{ShrRef, NamedLft}
use denote.RawPtr.{InBlock, block_of, count_of, at_block}
use denote.Signature.{named_lft}
use denote.Opens.{hide}
use denote.Struct.Lending.{in_block_says}
use denote.Triple.Walked.{Goes-dropped}
use Rattle.core.proofs.atomic.Steps.{tail}
use Rattle.inst_chain.specs.Boxes.{Lodged, HasFirst, Shows}
use Rattle.inst_chain.specs.Owning.{boxes_lent}
use Rattle.inst_chain.specs.contracts.boxes.Place as place
use Rattle.inst_chain.proofs.Steps.{both, Sn, seen_had, seen_made, pair_in}

pub first_spec : {M : Type 1} → statement M
first_spec 𝓤 𝓛 𝓜 𝓡 wired X Z L LZ g d dd met md =
    let H = 𝓛.H in let 𝓣 = tables 𝓤 H 𝓜 𝓡 𝓡.env in
    let R : RattleType = param 0 X in let P : RattleType = param 1 Z in let Pl : RattleType = place.the_row in
    let En = ended X Z g d dd in let inst = bounded (a_type ∷ a_type ∷ []) (X, (Z, tt)) (dcons d (dcons dd dnil)) in let fn = inst_fn inst code.function in let c = clauses X Z g d dd 𝓛 𝓜.mem 𝓡.returns in
    let hs : Stays En.signature.params En.kept = (stay_dropped (plain (λ κs. Sn (named_lft 3 0 tt κs) R P g)) no, (stay_dropped (plain (λ _. Pl)) yes, tt)) in
    proved_at 𝓛 En hs c 𝓜 𝓡 (Goes-blank 𝓛 3 (plain (λ κs. Sn (named_lft 3 0 tt κs) R P g)) no (λ κs x f. tt), (Goes-dropped 𝓛 3 (plain (λ _. Pl)) yes (λ κs x f. refl), tt)) (#self inst) fn (code.unfolded 𝓤 H 𝓜 𝓡 wired (X, (Z, tt)) d dd) (λ z are.
    let κs = z.0.0 in let qs = z.0.1 in let κ : Lft = κs.0 in let ν : NamedLft = named_lft 3 0 tt κs in let Seen : RattleType = Sn ν R P g in let Ref : RattleType = ShrRef (named 0) κ R in
    let in₂ = κs.1.0 ⊑ X.lives in let in₃ = κs.1.1.0 ⊑ Z.lives in let toks = ‵ (flft κ qs.0) ⊛ ‵ (flft κs.1.0 qs.1.0) ⊛ ‵ (flft κs.1.1.0 qs.1.1.0) ⊛ ‵ ftrue in
    let Post : Val → SProp 𝓤 = (walk_of 𝓛 En hs c).post z in let Run : List Val → SProp 𝓤 = λ ws. prog.Wp.WpFn 𝓤 H 𝓣.C 𝓣.Λ fn ws Post in
    let s : Seen.Denot = z.0.3.0 in let pl : Pl.Denot = z.0.3.1.0 in let p : Ptr = pl.at in let Asked : Type 0 = HasFirst s.boxes p in
    qed 𝓛 ((toks ⊛ ‵ (fsep (Seen.own_val s z.0.4.0) (fsep (Pl.own_val pl z.0.4.1.0) ftrue))) ∷ raw (fact 𝓤 in₂) ∷ raw (fact 𝓤 in₃) ∷ raw (fact 𝓤 Asked) ∷ []) ∵
    move ! (1 ∷ 2 ∷ 3 ∷ []) $ heard ! in₂ (λ le₂. heard ! in₃ (λ le₃. heard ! Asked (λ asked. split ! $ move ! (1 ∷ []) $ fsplit3 ! $
    let x : X.Denot = asked.1.0 in let rest : List (Lodged X.Denot Z.Denot) = asked.1.1 in
    seen_had ν R P g ! s z.0.4.0 (λ es. rewrite ! 0 (λ (bs : List (Lodged X.Denot Z.Denot)). ‵ (boxes_lent R bs κ)) asked.1.2 refl $ fsplit ! $ move ! (2 ∷ []) $
    fpick ! (λ vss. fsplit ! $ feq_l ! (λ ev. fsplit ! $ feq_l ! (λ ep. drop ! $ fsplit ! $
    use1 𝓛 (raw (fact 𝓤 (InBlock p))) (in_block_says 𝓛 p) $ heard ! (InBlock p) (λ inb. hide ! $
    let at : p ≡ block_ptr (block_of p) (count_of p) = at_block p inb in let there : Val = vptr (block_of p) (count_of p) in
    let r : Ref.Denot = record { ref_ptr = (block_of p, count_of p); now = x } in
    feq_i ! (List Val) (there ∷ []) (there ∷ []) refl $ fjoin ! $ keep ! (0 ∷ 1 ∷ 3 ∷ []) $
    -- [the reference; the other boxes; the tokens]
    let us : List Val = mark ∷ vstruct (vcons there vnil) ∷ [] in
    let ea : z.0.4.1.0 ≡ vstruct (vcons there vnil) ∷ [] = ev ∙ (λ j. vstruct (of_list ((ep ∙ ap (λ (π : Ptr). ptr_val π ∷ []) at) j ++ [])) ∷ []) in
    suffices ! (Run us) (subst (λ (ws : List Val). ent 𝓤 (Run us) (Run ws)) (sym (λ i. es i ++ (ea i ++ []))) (id⊢ 𝓤 (Run us))) $
    let own : Seen.Denot = record { mark = record {}; boxes = rest } in let Told : Type 0 = Shows s.boxes p x own.boxes in let told : Told = (asked.0, asked.1.2) in
    enter ! 𝓣.C 𝓣.Λ fn us Post $ alloc_all ! (λ l. pass_all ! refl ((tt, (tt, tt)), ((tt, (tt, tt)), tt)) $ let Ev = env fn.locals l in
    sets ! (of_opd ! (get_in ! (fld ! refl (stop !)) (sub ! 0 refl (whole !)))) refl (tt, tt) $ sets ! (of_opd ! (get ! refl)) refl (tt, tt) $
    into ! $ blocks ! $ sets_last ! (addr ! (through ! refl (stop !))) refl (tt, tt) $ exec ! 𝓣.C 𝓣.Λ Ev (tail (tail (tail fn.body))) (at_ret Ev Post) $ sets ! (of_opd ! (get ! refl)) refl (tt, tt) $
    sets ! (agg ! (no_more !)) refl (tt, tt) $ sets ! (agg ! (and_then ! (get ! refl) (no_more !))) refl (tt, (tt, tt)) $
    sets ! (agg ! (and_then ! (get ! refl) (and_then ! (get ! refl) (no_more !)))) refl (tt, (tt, ((tt, tt), tt))) $
    move ! (1 ∷ []) $ seen_made ν R P g ! rest $ move ! (1 ∷ []) $ pair_in Ref Seen ! r own there mark $
    use0 𝓛 (raw (fact 𝓤 Told)) (fact_i 𝓤 Told (emp 𝓤) told) $ nothing ! $ nothing ! $ fjoin ! $ nothing ! $ fjoin ! $
    returns ! (look_at ! 0 refl) $ free_all ! refl $ keep ! (3 ∷ 0 ∷ 2 ∷ 1 ∷ []) $ by ! (leaves 𝓛 En hs c z (both there mark) (r, own) (tt, (tt, tt)) (tt, (tt, tt)))))))))))))
