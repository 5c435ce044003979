-- `put` takes room for the piece from the rest, and writes it there. Assumes `Logic`.
use Rattle.std.proofs.Common.{◌≡◌, ℕ, ◌+◌, ◌≤◌, List, [], ◌∷◌, ◌++◌, length, refl, sym, ◌∙◌, arith, length-append, w64}
use mir.Syntax.{Fn, Args, a_type, dcons, dnil}
use mir.Val.{Val, vint, vptr, vunit}
use mir.MapTy.{inst_fn}
use base.Fraction.{full_share}
use base.Logic.{SProp, emp}
use base.Fml.{ftrue, fat, froom, flft}
use prog.Wp.{Env, WpFn}
use contract.BorrowLft.{◌⊑◌}
use contract.Monad.{fact, fact_i}
use contract.Running.{tables}
use types.Kit.{‵, raw, ◌⊛◌, given, prop, at_ret, ◌$◌, ◌∵◌, !, qed, by, move, keep, drop, use0, use1, use2, split, join, learn, rewrite, regoal, fsplit, fsplit3, fjoin, fjoin3, feq_i}
use types.Part.{whole, sub}
use types.Run.{stop, fld, init, bin, unit_lit, of_opd, assigns_last, first, blocks, exec, returns, enter}
use types.ByLocal.{alloc_all, pass_all, free_all, look_at, take_at, give_at, get, get_in, through, sets, env}
use denote.Array.{Array}
use denote.Builtin.{u8, usize, ArrayOf}
use denote.Memory.{part_at}
use denote.RattleType.{RattleType, owns}
use denote.Param.{param, bounded, layout}
use denote.RawPtr.{Ptr}
use denote.Signature.{plain, types_at}
use denote.Steps.{nothing, heard, opens, closes}
use denote.Triple.Walked.{Stays, stay_ref, stay_dropped, Goes-ref, Goes-dropped, walk_of}
use borrow.Table.OneValue.{part_in}
use Rattle.std.proofs.raw_atomic.Walks.{proved_at, leaves}
use Rattle.std.proofs.alloc.Calls.{Al}
use Rattle.std_alloc.proofs.VecSteps.Shapes.{after}
use Rattle.event_block.proofs.Memory.{row, written, spare, apart, together, room_out, joined}
use Rattle.event_block.proofs.Values.{start_val, start_told, start_typed, piece_told}
use Rattle.event_block.specs.contracts.region.Region as region
use Rattle.event_block.specs.contracts.region.Start as start
use Rattle.event_block.specs.contracts.region.Region.put.{ended, clauses}
use Rattle.event_block.specs.contracts.region.Region.put.Key.{name as #self}
use Rattle.event_block.proofs.region.Region.put.Statement.{statement}
use Rattle.event_block.proofs.region.Region.put.Code as compiled

pub put_spec : {M : Type 1} → statement M
put_spec 𝓤 𝓛 𝓜 𝓡 wired A L g d dd met md =
    let H = 𝓛.H in let T = ended A g d dd in let c = clauses A g d dd 𝓛 𝓜.mem 𝓡.returns in
    let args : Args = bounded (a_type ∷ []) (A, tt) (dcons d (dcons dd dnil)) in let fn : Fn = inst_fn args compiled.function in
    let R : RattleType = region.the_row (param 0 A) g in
    let Z : Al = record { row = A; laws = L; g = g; d = d; drops = dd } in
    let s = plain (λ _. start.the_row) in let n = plain (λ _. usize) in let p = ArrayOf (plain (λ _. u8)) (λ _. tt) 24 in
    let hs : Stays T.signature.params T.kept = (stay_ref (0 ∷ []) tt (plain (λ _. R)), (stay_dropped s T.kept.1.0, (stay_dropped n T.kept.1.1.0, (stay_dropped p T.kept.1.1.1.0, tt)))) in
    let C = (tables 𝓤 H 𝓜 𝓡 𝓡.env).C in let Λ = (tables 𝓤 H 𝓜 𝓡 𝓡.env).Λ in
    proved_at 𝓛 T hs c 𝓜 𝓡
    (Goes-ref 𝓛 2 0 tt (plain (λ _. R)), (Goes-dropped 𝓛 2 s T.kept.1.0 (λ κs x f. refl), (Goes-dropped 𝓛 2 n T.kept.1.1.0 (λ κs x f. refl), (Goes-dropped 𝓛 2 p T.kept.1.1.1.0 (λ κs x f. refl), tt))))
    (#self args) fn (compiled.unfolded 𝓤 H 𝓜 𝓡 wired (A, tt) d dd) (λ z are.
    let Post : Val → SProp 𝓤 = (walk_of 𝓛 T hs c).post z in
    let κ = z.0.0.0 in let q = z.0.1.0 in
    let self = z.0.3.0 in let b = self.ref_ptr.0 in let o = self.ref_ptr.1 in let h = self.now in
    let from = z.0.3.1.0.at in let len = z.0.3.1.1.0 in let ys = z.0.3.1.1.1.0 in
    let t = g.dealloc_token h.alloc in
    let Asked : Type 0 = (from ≡ h.at) × (len ≡ length h.items) × (len + 24 ≤ h.size) in
    let got = piece_told 𝓛 ys z.0.4.1.1.1.0 are.1.1.1.0 in let v = got.0 in
    qed 𝓛 (((‵ (flft κ q) ⊛ ‵ (flft z.0.0.1.0 z.0.1.1.0) ⊛ ‵ ftrue) ⊛ ‵ (owns (types_at T.signature.params z.0.0) z.0.3 z.0.4)) ∷ (raw (fact 𝓤 (z.0.0.1.0 ⊑ A.lives)) ⊛ raw (fact 𝓤 Asked)) ∷ []) ∵
    move ! (1 ∷ []) $ split ! $ drop ! $ heard ! Asked (λ asked. split ! $ split ! $ move ! (2 ∷ []) $ fsplit ! $ fsplit3 ! $ drop ! $
    move ! (2 ∷ []) $ fsplit ! $ drop ! $ fsplit ! $ drop ! $ fsplit ! $ rewrite ! 0 (λ us. ‵ ((Array u8 24).own_val ys us)) got.1 refl $ keep ! (2 ∷ 3 ∷ 4 ∷ 0 ∷ 5 ∷ []) $
    regoal ! (λ (us : List Val). prop (WpFn 𝓤 H C Λ fn us Post)) (λ i. are.0.0 i ++ (start_told from z.0.4.1.0 are.1.0 i ++ (are.1.1.0.0 i ++ (got.1 i ++ [])))) refl $
    enter ! C Λ fn (vptr b o ∷ start_val from ∷ vint w64 len ∷ v ∷ []) Post $
    alloc_all ! (λ l. pass_all ! refl ((tt, tt), (start_typed from, ((tt, record { fits = are.1.1.0.1 }), (got.2, tt)))) $ let En : Env 𝓤 𝓛.H = env fn.locals l in
    opens ! tt R {h = h} b o (λ us. move ! (1 ∷ []) $ fsplit ! $ move ! (1 ∷ []) $
    apart t ! h.at h.size h.items (λ b' o' at. move ! (1 ∷ []) $
    use1 𝓛 (‵ (froom (row 24) b' (length h.items + o')) ⊛ ‵ (spare (length h.items + 24) h.size b' o')) (room_out Z 𝓛 b' o' h.size (length h.items) (omega (arith, asked.1, asked.2))) $ split ! $
    rewrite ! 0 (λ (k : ℕ). ‵ (froom (row 24) b' (k + o'))) (sym asked.1) refl $
    take_at ! 2 $ rewrite ! 0 (λ (r : Ptr). ‵ (fat full_share (layout start.the_row) (l 2) 0 (start_val r))) (asked.0 ∙ at) refl $ give_at ! 2 $
    -- [room for the piece; the room behind it; the bytes; the right to free; the mark; its cell; the open borrow; obs; auth; what the piece owns]
    first ! $ blocks ! $
    sets ! (bin ! (get_in ! (fld ! refl (stop !)) (sub ! 0 refl (whole !))) (get ! refl) tt) refl (tt, tt) $
    sets ! (of_opd ! (get ! refl)) refl (tt, tt) $
    assigns_last ! (of_opd ! (get ! refl)) (through ! refl (stop !)) (init ! 0 refl got.2) $
    exec ! C Λ En (after 1 fn.body) (at_ret En Post) $ sets ! (of_opd ! (unit_lit !)) refl (tt, tt) $
    move ! (0 ∷ 9 ∷ []) $ use2 𝓛 (‵ (part_at (Array u8 24) full_share ys b' (len + o'))) (part_in 𝓛 (Array u8 24) refl full_share ys b' (len + o') v) $
    rewrite ! 0 (λ (k : ℕ). ‵ (part_at (Array u8 24) full_share ys b' (k + o'))) asked.1 refl $ move ! (2 ∷ 0 ∷ []) $
    use2 𝓛 (given (length ys ≡ 24) (‵ (written (h.items ++ ys) b' o'))) (joined Z 𝓛 b' o' h.items ys) $ learn ! (λ long.
    let more : length h.items + 24 ≡ length (h.items ++ ys) = omega (arith, length-append h.items ys, long) in
    let new : R.Denot = record { mark = h.mark; at = h.at; size = h.size; items = h.items ++ ys; alloc = h.alloc; fits = (omega (arith, asked.1, asked.2), h.fits.1) } in
    rewrite ! 1 (λ (k : ℕ). ‵ (spare k h.size b' o')) more refl $ together t ! h.at b' o' h.size (h.items ++ ys) at $
    move ! (1 ∷ 0 ∷ []) $ fjoin ! $ move ! (1 ∷ 0 ∷ []) $ closes ! tt R new us b o $
    returns ! (look_at ! 0 refl) $ free_all ! refl $
    -- [what γ is seen at; the borrow; the token of κ; the other token]
    feq_i ! (List Val) z.0.4.0 (vptr b o ∷ []) are.0.0 $ fjoin3 ! $ nothing ! $ nothing ! $ fjoin ! $ nothing ! $ fjoin ! $ nothing ! $ fjoin ! $ move ! (1 ∷ 0 ∷ []) $ fjoin ! $ move ! (1 ∷ 2 ∷ []) $ join ! $
    let Grown : Type 0 = (new.at ≡ h.at) × (new.size ≡ h.size) × (new.items ≡ h.items ++ ys) × (new.alloc ≡ h.alloc) in
    use0 𝓛 (raw (fact 𝓤 Grown)) (fact_i 𝓤 Grown (emp 𝓤) (refl, refl, refl, refl)) $ feq_i ! (List Val) (vunit ∷ []) (vunit ∷ []) refl $ move ! (2 ∷ 3 ∷ 0 ∷ 1 ∷ []) $
    by ! (leaves 𝓛 T hs c z vunit tt (new, (tt, (tt, (tt, tt)))) (tt, (tt, (tt, (tt, tt)))))))))))
