-- `bytes` shows what the memory lends. Assumes `Logic`.
use Rattle.std.proofs.Common.{◌≡◌, ◌*◌, ◌^◌, List, [], ◌∷◌, ◌++◌, length, refl, ap, ◌∙◌, arith, w64}
use mir.Syntax.{Fn, Args, a_type, dcons, dnil}
use mir.Val.{Val, vint, vptr}
use mir.MapTy.{inst_fn}
use base.Fraction.{full_share}
use base.Logic.{SProp, emp, never, id⊢}
use base.Fml.{ftrue, fat, flft}
use prog.Wp.{Env, WpFn}
use contract.BorrowLft.{◌⊑◌}
use contract.Monad.{fact, fact_i}
use contract.Running.{tables}
use types.Kit.{‵, raw, ◌⊛◌, prop, at_ret, ◌$◌, ◌∵◌, !, qed, by, move, keep, drop, use0, split, rewrite, regoal, fsplit, fjoin, feq_i, flt_i}
use types.Part.{whole, sub, agg}
use types.Run.{stop, fld, of_opd, and_then, no_more, first, blocks, exec, returns, enter}
use types.ByLocal.{alloc_all, pass_all, free_all, look_at, take_at, give_at, get, get_in, sets, sets_last, env}
use denote.Array.{Array}
use denote.Builtin.{u8, usize, RefOf}
use denote.Memory.{shared_of}
use denote.Opens.{hide, unhide}
use denote.RattleType.{RattleType, owns}
use denote.Param.{param, bounded, layout}
use denote.RawPtr.{Ptr, block_of, count_of, in_block, in_a_block}
use denote.Signature.{plain, types_at}
use denote.Slice.{slice_val}
use denote.Steps.{nothing, heard}
use denote.Triple.Walked.{Stays, stay_dropped, Goes-dropped, walk_of}
use Rattle.std.proofs.raw_atomic.Walks.{proved_at, leaves}
use Rattle.std_alloc.proofs.VecSteps.Shapes.{after}
use Rattle.event_block.proofs.Values.{start_val, start_told, start_typed}
use Rattle.event_block.specs.contracts.region.Region as region
use Rattle.event_block.specs.contracts.region.Start as start
use Rattle.event_block.specs.contracts.region.Region.bytes.{ended, clauses}
use Rattle.event_block.specs.contracts.region.Region.bytes.Key.{name as #self}
use Rattle.event_block.proofs.region.Region.bytes.Statement.{statement}
use Rattle.event_block.proofs.region.Region.bytes.Code as compiled

pub bytes_spec : {M : Type 1} → statement M
bytes_spec 𝓤 𝓛 𝓜 𝓡 wired A L g d dd met md =
    let H = 𝓛.H in let T = ended A g d dd in let c = clauses A g d dd 𝓛 𝓜.mem 𝓡.returns in
    let args : Args = bounded (a_type ∷ []) (A, tt) (dcons d (dcons dd dnil)) in let fn : Fn = inst_fn args compiled.function in
    let R : RattleType = region.the_row (param 0 A) g in
    let m = RefOf (0 ∷ []) tt (plain (λ _. R)) (λ _. tt) in let s = plain (λ _. start.the_row) in let n = plain (λ _. usize) in
    let hs : Stays T.signature.params T.kept = (stay_dropped m T.kept.0, (stay_dropped s T.kept.1.0, (stay_dropped n T.kept.1.1.0, tt))) in
    let C = (tables 𝓤 H 𝓜 𝓡 𝓡.env).C in let Λ = (tables 𝓤 H 𝓜 𝓡 𝓡.env).Λ in
    proved_at 𝓛 T hs c 𝓜 𝓡 (Goes-dropped 𝓛 2 m T.kept.0 (λ κs x f. refl), (Goes-dropped 𝓛 2 s T.kept.1.0 (λ κs x f. refl), (Goes-dropped 𝓛 2 n T.kept.1.1.0 (λ κs x f. refl), tt)))
    (#self args) fn (compiled.unfolded 𝓤 H 𝓜 𝓡 wired (A, tt) d dd) (λ z are.
    let Post : Val → SProp 𝓤 = (walk_of 𝓛 T hs c).post z in
    let κ = z.0.0.0 in let q = z.0.1.0 in
    let self = z.0.3.0 in let b = self.ref_ptr.0 in let o = self.ref_ptr.1 in let h = self.now in let xs = h.items in
    let from = z.0.3.1.0.at in let len = z.0.3.1.1.0 in
    let Asked : Type 0 = (from ≡ h.at) × (len ≡ length xs) in
    qed 𝓛 (((‵ (flft κ q) ⊛ ‵ (flft z.0.0.1.0 z.0.1.1.0) ⊛ ‵ ftrue) ⊛ ‵ (owns (types_at T.signature.params z.0.0) z.0.3 z.0.4)) ∷ (raw (fact 𝓤 (z.0.0.1.0 ⊑ A.lives)) ⊛ raw (fact 𝓤 Asked)) ∷ []) ∵
    move ! (1 ∷ []) $ split ! $ drop ! $ heard ! Asked (λ asked. split ! $ move ! (1 ∷ []) $ fsplit ! $ fsplit ! $ drop ! $ keep ! (0 ∷ 2 ∷ []) $
    regoal ! (λ (us : List Val). prop (WpFn 𝓤 H C Λ fn us Post)) (λ i. are.0.0 i ++ (start_told from z.0.4.1.0 are.1.0 i ++ (are.1.1.0.0 i ++ []))) refl $
    enter ! C Λ fn (vptr b o ∷ start_val from ∷ vint w64 len ∷ []) Post $
    alloc_all ! (λ l. pass_all ! refl ((tt, tt), (start_typed from, ((tt, record { fits = are.1.1.0.1 }), tt))) $ let En : Env 𝓤 𝓛.H = env fn.locals l in
    unhide ! $ fsplit ! $ drop ! $ fsplit ! $ in_a_block ! h.at (λ p. in_block p ftrue) (id⊢ 𝓤 (never 𝓤)) (λ b' o' at. drop ! $
    rewrite ! 0 (λ (r : Ptr). ‵ (shared_of (Array u8 (length xs)) xs (block_of r) (count_of r) κ)) at refl $ fsplit ! $ drop ! $ hide ! $
    take_at ! 2 $ rewrite ! 0 (λ (r : Ptr). ‵ (fat full_share (layout start.the_row) (l 2) 0 (start_val r))) (asked.0 ∙ at) refl $ give_at ! 2 $
    first ! $ blocks ! $
    sets_last ! (agg ! (and_then ! (get_in ! (fld ! refl (stop !)) (sub ! 0 refl (whole !))) (and_then ! (get ! refl) (no_more !)))) refl (tt, (tt, (record { fits = are.1.1.0.1 }, tt))) $
    exec ! C Λ En (after 1 fn.body) (at_ret En Post) $ sets ! (of_opd ! (get ! refl)) refl (tt, (tt, (record { fits = are.1.1.0.1 }, tt))) $
    returns ! (look_at ! 0 refl) $ free_all ! refl $
    -- [the bytes that are lent; the tokens]
    flt_i ! (length xs * 1) (2 ^ 63) (omega (arith, h.fits.0, h.fits.1)) $ flt_i ! (length xs) (2 ^ 64) (omega (arith, h.fits.0, h.fits.1)) $ fjoin ! $
    feq_i ! (List Val) (slice_val (b', o') len ∷ []) (slice_val (b', o') (length xs) ∷ []) (ap (λ k. slice_val (b', o') k ∷ []) asked.1) $ fjoin ! $ fjoin ! $
    use0 𝓛 (raw (fact 𝓤 (xs ≡ xs))) (fact_i 𝓤 (xs ≡ xs) (emp 𝓤) refl) $ nothing ! $ nothing ! $ fjoin ! $ nothing ! $ fjoin ! $ nothing ! $ fjoin ! $ move ! (3 ∷ 0 ∷ 2 ∷ 1 ∷ []) $
    by ! (leaves 𝓛 T hs c z (slice_val (b', o') len) (record { ref_ptr = (b', o'); now = xs }) (tt, (tt, (tt, tt))) (tt, (tt, (tt, tt))))))))
