-- `release` makes room of the whole memory, and hands it to the allocator with its token. Assumes `Logic`.
use Rattle.std.proofs.Common.{◌≡◌, ℕ, ◌^◌, ◌<◌, List, [], ◌∷◌, ◌++◌, length, refl, sym, ap, subst, ◌∙◌, arith, lit<, w64}
use lib.Dec.{T}
use mir.Syntax.{Ty, Fn, Args, a_type, dcons, dnil, ty_unit}
use mir.Raw.{raw as bare}
use mir.Val.{Val, vint, vptr, vunit, has_ty, WT}
use mir.MapTy.{inst_fn}
use base.Logic.{SProp}
use base.Fml.{ftrue, froom, flft}
use prog.Wp.{Env, WpFn}
use contract.BorrowLft.{◌⊑◌, ⊑_trans}
use contract.Monad.{fact}
use contract.Running.{tables}
use types.Kit.{‵, raw, ◌⊛◌, given, later, prop, at_ret, ◌$◌, ◌∵◌, !, qed, by, move, keep, drop, use1, use2, split, join, group, learn, await, rewrite, regoal, fsplit, fjoin, feq_i}
use types.Part.{whole, sub}
use types.Run.{stop, fld, lit, unit_lit, of_opd, and_then, no_more, first, blocks, exec, returns, enter}
use types.ByLocal.{alloc_all, pass_all, free_all, look_at, get, get_in, sets, lands_last, env}
use denote.Builtin.{u8, usize, RefOf}
use denote.RattleType.{owns}
use denote.Param.{param, bounded}
use denote.RawPtr.{Ptr, block_ptr}
use denote.Signature.{plain, types_at}
use denote.Steps.{nothing, heard}
use denote.Triple.Call.{calls_at_last}
use denote.Triple.Walked.{Stays, stay_dropped, Goes-dropped, walk_of}
use Rattle.core.proofs.atomic.Steps.{fm}
use Rattle.std.proofs.raw_atomic.Walks.{proved_at, leaves}
use Rattle.std.specs.Allocator.{block_with_items}
use Rattle.std.proofs.alloc.Calls.{Al, Goes-blank, Gives, at_gives, Gives-goes, Gives-Gives}
use Rattle.std_alloc.proofs.RawLayout.{as_raw}
use Rattle.std_alloc.proofs.VecSteps.Shapes.{after}
use Rattle.std_alloc.proofs.VecSteps.Rows as rows
use Rattle.event_block.proofs.Memory.{row, bytes, apart, row_size}
use Rattle.event_block.proofs.Values.{start_val, start_told, mark_val, mark_told}
use Rattle.event_block.specs.contracts.region.Region as region
use Rattle.event_block.specs.contracts.region.Start as start
use Rattle.event_block.specs.contracts.region.release.{ended, clauses}
use Rattle.event_block.specs.contracts.region.release.Key.{name as #self}
use Rattle.event_block.proofs.region.release.Statement.{statement}
use Rattle.event_block.proofs.region.release.Code as compiled

pub release_spec : {M : Type 1} → statement M
release_spec 𝓤 𝓛 𝓜 𝓡 wired A L g d dd met md =
    let H = 𝓛.H in let T' = ended A g d dd in let c = clauses A g d dd 𝓛 𝓜.mem 𝓡.returns in
    let args : Args = bounded (a_type ∷ []) (A, tt) (dcons d (dcons dd dnil)) in let fn : Fn = inst_fn args compiled.function in
    let Z : Al = record { row = A; laws = L; g = g; d = d; drops = dd } in
    let m = RefOf (0 ∷ []) tt (plain (λ _. param 0 A)) (λ _. tt) in let s = plain (λ _. start.the_row) in let n = plain (λ _. usize) in let r = plain (λ _. region.the_row (param 0 A) g) in
    let hs : Stays T'.signature.params T'.kept = (stay_dropped m T'.kept.0, (stay_dropped s T'.kept.1.0, (stay_dropped n T'.kept.1.1.0, (stay_dropped r T'.kept.1.1.1.0, tt)))) in
    let C = (tables 𝓤 H 𝓜 𝓡 𝓡.env).C in let Λ = (tables 𝓤 H 𝓜 𝓡 𝓡.env).Λ in
    proved_at 𝓛 T' hs c 𝓜 𝓡
    (Goes-dropped 𝓛 2 m T'.kept.0 (λ κs x f. refl), (Goes-dropped 𝓛 2 s T'.kept.1.0 (λ κs x f. refl), (Goes-dropped 𝓛 2 n T'.kept.1.1.0 (λ κs x f. refl), (Goes-blank 𝓛 2 r T'.kept.1.1.1.0 (λ κs x f. tt), tt))))
    (#self args) fn (compiled.unfolded 𝓤 H 𝓜 𝓡 wired (A, tt) d dd) (λ z are.
    let Post : Val → SProp 𝓤 = (walk_of 𝓛 T' hs c).post z in
    let κ = z.0.0.0 in let q = z.0.1.0 in
    let self = z.0.3.0 in let p = self.ref_ptr in let a = self.now in
    let from = z.0.3.1.0.at in let size = z.0.3.1.1.0 in let x = z.0.3.1.1.1.0 in
    let t = g.dealloc_token a in let τ : Ty = bare (row size) in
    let Asked : Type 0 = (x.at ≡ from) × (x.size ≡ size) × (x.alloc ≡ a) in
    qed 𝓛 (((‵ (flft κ q) ⊛ ‵ (flft z.0.0.1.0 z.0.1.1.0) ⊛ ‵ ftrue) ⊛ ‵ (owns (types_at T'.signature.params z.0.0) z.0.3 z.0.4)) ∷ (raw (fact 𝓤 (z.0.0.1.0 ⊑ A.lives)) ⊛ raw (fact 𝓤 Asked)) ∷ []) ∵
    move ! (1 ∷ []) $ split ! $ heard ! (z.0.0.1.0 ⊑ A.lives) (λ le. heard ! Asked (λ asked. split ! $ split ! $ move ! (2 ∷ []) $ fsplit ! $ fsplit ! $ drop ! $
    move ! (1 ∷ []) $ fsplit ! $ drop ! $ fsplit ! $ drop ! $ fsplit ! $ fsplit ! $ keep ! (1 ∷ 3 ∷ 4 ∷ 5 ∷ []) $
    rewrite ! 0 (λ (u : A.Denot × ℕ). ‵ (block_with_items (g.dealloc_token u.0) u8 x.at (length x.items) u.1 x.items)) (λ i. (asked.2 i, asked.1 i)) refl $
    apart t ! x.at size x.items (λ b o at.
    use2 𝓛 (‵ (froom (row size) b o)) (rows.all_room (bytes Z) 𝓛 b o (length x.items) size x.items (omega (arith, x.fits.0, asked.1))) $ as_raw ! (row size) b o $
    let small : size < 2 ^ 64 = are.1.1.0.1 in
    let y = at_gives Z 𝓛 𝓜.mem 𝓡.returns κ q p a b o size 1 τ in
    regoal ! (λ (us : List Val). prop (WpFn 𝓤 H C Λ fn us Post))
    (λ i. are.0.0 i ++ ((start_told from z.0.4.1.0 are.1.0 ∙ ap (λ (u : Ptr). start_val u ∷ []) (sym asked.0 ∙ at)) i ++ (are.1.1.0.0 i ++ (mark_told z.0.4.1.1.1.0 are.1.1.1.0.0 i ++ [])))) refl $
    enter ! C Λ fn (vptr p.0 p.1 ∷ start_val (block_ptr b o) ∷ vint w64 size ∷ mark_val ∷ []) Post $
    alloc_all ! (λ l. pass_all ! refl ((tt, tt), ((tt, (tt, tt)), ((tt, record { fits = small }), ((tt, (tt, tt)), tt)))) $ let En : Env 𝓤 𝓛.H = env fn.locals l in
    -- [room for the whole; the right to free; the allocator; the token of κ; the other token]
    first ! $ blocks ! $
    group ! 4 $ use1 𝓛 (raw ((Gives Z 𝓛 𝓜.mem 𝓡.returns).pre y)) (Gives-goes Z 𝓛 𝓜.mem 𝓡.returns κ q p a (⊑_trans κ z.0.0.1.0 A.lives z.0.2.0 le) b o size 1 τ (row_size size small) refl small (lit< tt)) $
    calls_at_last ! (fm 𝓛 𝓜 𝓡) (Gives Z 𝓛 𝓜.mem 𝓡.returns) (met.deallocate dd) y
    (and_then ! (get ! refl) (and_then ! (get_in ! (fld ! refl (stop !)) (sub ! 0 refl (whole !))) (and_then ! (get ! refl) (and_then ! (lit ! tt) (no_more !))))) (λ v.
    use1 𝓛 (later (given (v ≡ vunit) (‵ (flft κ q)))) (Gives-Gives Z 𝓛 𝓜.mem 𝓡.returns κ q p a b o size 1 τ v) $ await ! tt $ learn ! (λ gone.
    lands_last ! refl (subst (λ (u : Val). T (has_ty ty_unit u) × WT u) (sym gone) (tt, tt)) $
    exec ! C Λ En (after 1 fn.body) (at_ret En Post) $ sets ! (of_opd ! (unit_lit !)) refl (tt, tt) $
    returns ! (look_at ! 0 refl) $ free_all ! refl $ join ! $
    feq_i ! (List Val) (vunit ∷ []) (vunit ∷ []) refl $ nothing ! $ nothing ! $ nothing ! $ fjoin ! $ nothing ! $ fjoin ! $ nothing ! $ fjoin ! $ nothing ! $ fjoin ! $ move ! (3 ∷ 0 ∷ 2 ∷ 1 ∷ []) $
    by ! (leaves 𝓛 T' hs c z vunit tt (tt, (tt, (tt, (tt, tt)))) (tt, (tt, (tt, (tt, tt))))))))))))
