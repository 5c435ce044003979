-- `clear` makes room of the bytes that are written. Assumes `Logic`.
use Rattle.std.proofs.Common.{◌≡◌, List, [], ◌∷◌, ◌++◌, refl, arith}
use mir.Syntax.{Fn, Args, a_type, dcons, dnil}
use mir.Val.{Val, vptr, vunit}
use mir.MapTy.{inst_fn}
use base.Logic.{SProp, emp}
use base.Fml.{ftrue, flft}
use prog.Wp.{WpFn}
use contract.BorrowLft.{◌⊑◌}
use contract.Monad.{fact, fact_i}
use contract.Running.{tables}
use types.Kit.{‵, raw, ◌⊛◌, prop, ◌$◌, ◌∵◌, !, qed, by, move, keep, drop, use0, use2, split, join, regoal, fsplit, fsplit3, fjoin, fjoin3, feq_i}
use types.Run.{unit_lit, of_opd, returns, enter}
use types.ByLocal.{alloc_all, pass_all, free_all, look_at, sets}
use denote.RattleType.{RattleType, owns}
use denote.Param.{param, bounded}
use denote.Signature.{plain, types_at}
use denote.Steps.{nothing, opens, closes}
use denote.Triple.Walked.{Stays, stay_ref, Goes-ref, walk_of}
use Rattle.std.proofs.raw_atomic.Walks.{proved_at, leaves}
use Rattle.std.proofs.alloc.Calls.{Al}
use Rattle.event_block.proofs.Memory.{written, spare, apart, together, cleared}
use Rattle.event_block.specs.contracts.region.Region as region
use Rattle.event_block.specs.contracts.region.Region.clear.{ended, clauses}
use Rattle.event_block.specs.contracts.region.Region.clear.Key.{name as #self}
use Rattle.event_block.proofs.region.Region.clear.Statement.{statement}
use Rattle.event_block.proofs.region.Region.clear.Code as compiled

pub clear_spec : {M : Type 1} → statement M
clear_spec 𝓤 𝓛 𝓜 𝓡 wired A L g d dd met md =
    let H = 𝓛.H in let T = ended A g d dd in let c = clauses A g d dd 𝓛 𝓜.mem 𝓡.returns in
    let args : Args = bounded (a_type ∷ []) (A, tt) (dcons d (dcons dd dnil)) in let fn : Fn = inst_fn args compiled.function in
    let R : RattleType = region.the_row (param 0 A) g in
    let Z : Al = record { row = A; laws = L; g = g; d = d; drops = dd } in
    let hs : Stays T.signature.params T.kept = (stay_ref (0 ∷ []) tt (plain (λ _. R)), tt) in
    let C = (tables 𝓤 H 𝓜 𝓡 𝓡.env).C in let Λ = (tables 𝓤 H 𝓜 𝓡 𝓡.env).Λ in
    proved_at 𝓛 T hs c 𝓜 𝓡 (Goes-ref 𝓛 2 0 tt (plain (λ _. R)), tt) (#self args) fn (compiled.unfolded 𝓤 H 𝓜 𝓡 wired (A, tt) d dd) (λ z are.
    let Post : Val → SProp 𝓤 = (walk_of 𝓛 T hs c).post z in
    let κ = z.0.0.0 in let q = z.0.1.0 in
    let self = z.0.3.0 in let b = self.ref_ptr.0 in let o = self.ref_ptr.1 in let h = self.now in
    let t = g.dealloc_token h.alloc in
    let new : R.Denot = record { mark = h.mark; at = h.at; size = h.size; items = []; alloc = h.alloc; fits = (omega arith, h.fits.1) } in
    qed 𝓛 (((‵ (flft κ q) ⊛ ‵ (flft z.0.0.1.0 z.0.1.1.0) ⊛ ‵ ftrue) ⊛ ‵ (owns (types_at T.signature.params z.0.0) z.0.3 z.0.4)) ∷ (raw (fact 𝓤 (z.0.0.1.0 ⊑ A.lives)) ⊛ ‵ ftrue) ∷ []) ∵
    split ! $ split ! $ move ! (2 ∷ []) $ fsplit ! $ fsplit3 ! $ drop ! $ keep ! (0 ∷ 1 ∷ 3 ∷ 4 ∷ []) $
    regoal ! (λ (us : List Val). prop (WpFn 𝓤 H C Λ fn us Post)) (λ i. are.0.0 i ++ []) refl $
    enter ! C Λ fn (vptr b o ∷ []) Post $ alloc_all ! (λ l. pass_all ! refl ((tt, tt), tt) $
    opens ! tt R {h = h} b o (λ us. move ! (1 ∷ []) $ fsplit ! $ move ! (1 ∷ []) $
    apart t ! h.at h.size h.items (λ b' o' at.
    use2 𝓛 (‵ (written [] b' o') ⊛ ‵ (spare 0 h.size b' o')) (cleared Z 𝓛 b' o' h.size h.items h.fits.0) $ split ! $ together t ! h.at b' o' h.size [] at $
    move ! (1 ∷ 0 ∷ []) $ fjoin ! $ move ! (1 ∷ 0 ∷ []) $ closes ! tt R new us b o $
    sets ! (of_opd ! (unit_lit !)) refl (tt, tt) $ returns ! (look_at ! 0 refl) $ free_all ! refl $
    -- [what γ is seen at; the borrow; the token of κ; the other token]
    feq_i ! (List Val) z.0.4.0 (vptr b o ∷ []) are.0.0 $ fjoin3 ! $ nothing ! $ move ! (1 ∷ 0 ∷ []) $ fjoin ! $ move ! (1 ∷ 2 ∷ []) $ join ! $
    let Same : Type 0 = (h.at ≡ h.at) × (h.size ≡ h.size) × (new.items ≡ []) × (h.alloc ≡ h.alloc) in
    use0 𝓛 (raw (fact 𝓤 Same)) (fact_i 𝓤 Same (emp 𝓤) (refl, refl, refl, refl)) $ feq_i ! (List Val) (vunit ∷ []) (vunit ∷ []) refl $ move ! (2 ∷ 3 ∷ 0 ∷ 1 ∷ []) $
    by ! (leaves 𝓛 T hs c z vunit tt (new, tt) (tt, tt))))))
