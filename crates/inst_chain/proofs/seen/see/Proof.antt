-- `see` reads what a borrow lends.
use Rattle.std.proofs.Common.{◌≡◌, [], ◌∷◌, refl}
use mir.Syntax.{a_type, dcons, dnil}
use mir.Val.{Val, vptr}
use mir.MapTy.{inst_fn}
use base.Logic.{SProp, emp}
use base.Fml.{ftrue, flft}
use types.Kit.{‵, raw, ◌⊛◌, ◌$◌, ◌∵◌, !, qed, by, move, keep, split, fsplit, fjoin, use0, use1}
use types.Run.{no_more, and_then, returns, enter}
use types.ByLocal.{alloc_all, pass_all, free_all, look_at, get, sets}
use types.Part.{agg}
use contract.Running.{tables}
use contract.Monad.{fact, fact_i}
use denote.RattleType.{RattleType, owns}
use denote.Signature.{types_at, plain}
use denote.Steps.{nothing}
use denote.Param.{param, bounded}
use denote.Builtin.{RawPtr}
use denote.Triple.Walked.{Stays, stay_dropped, walk_of}
use Rattle.std.proofs.raw_atomic.Walks.{leaves}
use Rattle.inst_chain.proofs.Steps.{mark, Hd}
use Rattle.inst_chain.specs.contracts.seen.see.{ended, clauses}
use Rattle.inst_chain.specs.contracts.seen.see.Key.{name as #self}
use Rattle.inst_chain.proofs.seen.see.Statement.{statement}
use Rattle.inst_chain.proofs.seen.see.Code as code
use mir.Syntax.{named}
use base.Fml.{Lft, fhide}
use denote.Builtin.{RefOf}
use denote.Exit.{yes}
use denote.Ref.{shr_vals, shr_Tells, NamedLft}
use denote.Signature.{named_lft}
use denote.Opens.{unhide}
use denote.Memory.{hidden_shr}
use denote.Struct.Lending.{lent_out}
use denote.Triple.Walked.{Goes-dropped}
use Rattle.std.proofs.raw_atomic.Walks.{proved}
use Rattle.core.specs.contracts.marker.PhantomData as marker
use Rattle.inst_chain.specs.Owning.{boxes_lent}
use Rattle.inst_chain.specs.contracts.boxes.Held as held
use Rattle.inst_chain.proofs.Steps.{Mark, Sn, seen_made}

pub see_spec : {M : Type 1} → statement M
see_spec 𝓤 𝓛 𝓜 𝓡 wired X Z L LZ g d dd met md =
    let H = 𝓛.H in let 𝓣 = tables 𝓤 H 𝓜 𝓡 𝓡.env in
    let R : RattleType = param 0 X in let P : RattleType = param 1 Z in let Row : RattleType = Hd R P g in let D : RattleType = Mark R P g in
    let En = ended X Z g d dd in let inst = bounded (a_type ∷ a_type ∷ []) (X, (Z, tt)) (dcons d (dcons dd dnil)) in let fn = inst_fn inst code.function in let c = clauses X Z g d dd 𝓛 𝓜.mem 𝓡.returns in
    let self = RefOf (0 ∷ []) tt (plain (λ _. Row)) (λ _. tt) in let hs : Stays En.signature.params En.kept = (stay_dropped self yes, tt) in
    proved 𝓛 En hs c 𝓜 𝓡 (Goes-dropped 𝓛 3 self yes (λ κs x f. refl), tt) (#self inst) fn (code.unfolded 𝓤 H 𝓜 𝓡 wired (X, (Z, tt)) d dd)
    (λ κs. (shr_vals, tt)) (λ κs. (shr_Tells (named 0) κs.0 Row, tt)) (λ κs qs bounds a gh are.
    let b = a.0.ref_ptr.0 in let o = a.0.ref_ptr.1 in let κ : Lft = κs.0 in let h : Row.Denot = a.0.now in let ν : NamedLft = named_lft 3 0 tt κs in
    let y : (walk_of 𝓛 En hs c).Ghost = ((κs, qs, bounds, a, (vptr b o ∷ [], tt)), gh) in let Post : Val → SProp 𝓤 = (walk_of 𝓛 En hs c).post y in
    let own : (Sn ν R P g).Denot = record { mark = record {}; boxes = h.boxes } in let Told : Type 0 = own.boxes ≡ h.boxes in
    let toks = ‵ (flft κ qs.0) ⊛ ‵ (flft κs.1.0 qs.1.0) ⊛ ‵ (flft κs.1.1.0 qs.1.1.0) ⊛ ‵ ftrue in
    qed 𝓛 ((toks ⊛ ‵ (owns (types_at En.signature.params κs) a y.0.4)) ∷ raw ((c κs a).requires gh) ∷ []) ∵
    split ! $ move ! (1 ∷ []) $ fsplit ! $ fsplit ! $ keep ! (1 ∷ 3 ∷ []) $
    enter ! 𝓣.C 𝓣.Λ fn (vptr b o ∷ []) Post $ alloc_all ! (λ l. pass_all ! refl ((tt, tt), tt) $
    use1 𝓛 (‵ (hidden_shr D κ (tt, tt) b o) ⊛ ‵ (fhide (boxes_lent R h.boxes κ))) (lent_out 𝓛 (held.struct R P g) (held.the_codes X.Denot Z.Denot R.coded P.coded (marker.the_row RawPtr).coded) (held.the_heap R P g) (held.the_lent R P g) κ h b o) $
    split ! $ move ! (1 ∷ []) $ unhide ! $
    sets ! (agg ! (no_more !)) refl (tt, tt) $ sets ! (agg ! (and_then ! (get ! refl) (no_more !))) refl (tt, (tt, tt)) $
    seen_made ν R P g ! h.boxes $ use0 𝓛 (raw (fact 𝓤 Told)) (fact_i 𝓤 Told (emp 𝓤) refl) $ nothing ! $ nothing ! $ fjoin ! $
    returns ! (look_at ! 0 refl) $ free_all ! refl $ keep ! (4 ∷ 0 ∷ 2 ∷ 1 ∷ []) $ by ! (leaves 𝓛 En hs c y mark own (tt, tt) (tt, tt))))
