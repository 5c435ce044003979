-- `allocate` takes memory of which nothing is written, with the right to free it. Assumes `Logic`.
use Rattle.std.proofs.Common.{◌≡◌, ◌^◌, ◌<◌, List, [], ◌∷◌, ◌++◌, true, false, refl, lit<, arith, w64, Ok, Err}
use mir.Syntax.{Ty, Fn, Args, a_type, dcons, dnil}
use mir.Raw.{raw as bare}
use mir.Val.{Val, vint, vptr, vstruct, vcons, vnil}
use mir.MapTy.{inst_fn}
use base.Logic.{SProp, emp}
use base.Fml.{ftrue, flft}
use prog.Wp.{Env, WpFn, Wp, after_seq, at_return}
use contract.BorrowLft.{◌⊑◌, ⊑_trans}
use contract.Monad.{fact, fact_i}
use contract.Running.{tables}
use types.Kit.{‵, raw, ◌⊛◌, later, prop, at_ret, any_q, Post as After, ◌$◌, ◌∵◌, !, qed, by, move, keep, drop, use0, use1, use2, split, join, await, regoal, fsplit, fjoin}
use types.Match.{live, vrt, in_variant}
use types.Part.{whole, agg}
use types.Run.{stop, fld, lit, of_opd, and_then, no_more, first, switches_on, exec, returns, enter}
use types.ByLocal.{alloc_all, pass_all, free_all, look_at, get, get_in, get_tag, sets, sets_last, lands_as, env}
use denote.Builtin.{usize, RefOf}
use denote.Laws.{Is}
use denote.RattleType.{RattleType, owns}
use denote.Param.{param, bounded}
use denote.RawPtr.{Ptr, block_ptr}
use denote.Signature.{plain, types_at, type_at}
use denote.Steps.{nothing, heard, owned}
use denote.Struct.Declared as Declared
use denote.Struct.Struct.{Struct, Struct-Makes}
use denote.Struct.Tuple.{Tuple}
use denote.Triple.Call.{calls_at}
use denote.Triple.Walked.{Stays, stay_dropped, Goes-dropped, walk_of}
use Rattle.core.proofs.atomic.Steps.{fm}
use Rattle.core.specs.contracts.alloc.AllocError as AE
use Rattle.std.proofs.raw_atomic.Walks.{proved_at, leaves}
use Rattle.std.proofs.alloc.Calls.{Al, Answer-typed, Takes, at_takes, Answered, Takes-goes, Takes-gives, answers}
use Rattle.std_alloc.proofs.Pairs.{pair_of, pair_val}
use Rattle.std_alloc.proofs.RawLayout.{as_written}
use Rattle.std_alloc.proofs.ResultValues.{ok_of, err_of}
use Rattle.std_alloc.proofs.VecSteps.Shapes.{after, head, arm_body}
use Rattle.event_block.proofs.Memory.{row, written, spare, together, fresh, row_size}
use Rattle.event_block.proofs.Values.{start_val, start_own, start_made, mark_val, mark_own, mark_made}
use Rattle.event_block.specs.contracts.region.Region as region
use Rattle.event_block.specs.contracts.region.Start as start
use Rattle.event_block.specs.contracts.region.allocate.{ended, clauses}
use Rattle.event_block.specs.contracts.region.allocate.Key.{name as #self}
use Rattle.event_block.proofs.region.allocate.Statement.{statement}
use Rattle.event_block.proofs.region.allocate.Code as compiled

pub allocate_spec : {M : Type 1} → statement M
allocate_spec 𝓤 𝓛 𝓜 𝓡 wired A L g d dd met md =
    let H = 𝓛.H in let T = ended A g d dd in let c = clauses A g d dd 𝓛 𝓜.mem 𝓡.returns in
    let args : Args = bounded (a_type ∷ []) (A, tt) (dcons d (dcons dd dnil)) in let fn : Fn = inst_fn args compiled.function in
    let Z : Al = record { row = A; laws = L; g = g; d = d; drops = dd } in
    let m = RefOf (0 ∷ []) tt (plain (λ _. param 0 A)) (λ _. tt) in let n = plain (λ _. usize) in
    let hs : Stays T.signature.params T.kept = (stay_dropped m T.kept.0, (stay_dropped n T.kept.1.0, tt)) in
    let C = (tables 𝓤 H 𝓜 𝓡 𝓡.env).C in let Λ = (tables 𝓤 H 𝓜 𝓡 𝓡.env).Λ in
    proved_at 𝓛 T hs c 𝓜 𝓡 (Goes-dropped 𝓛 2 m T.kept.0 (λ κs x f. refl), (Goes-dropped 𝓛 2 n T.kept.1.0 (λ κs x f. refl), tt))
    (#self args) fn (compiled.unfolded 𝓤 H 𝓜 𝓡 wired (A, tt) d dd) (λ z are.
    let Post : Val → SProp 𝓤 = (walk_of 𝓛 T hs c).post z in
    let κ = z.0.0.0 in let q = z.0.1.0 in
    let self = z.0.3.0 in let at = self.ref_ptr in let a = self.now in let size = z.0.3.1.0 in
    let t = g.dealloc_token a in let τ : Ty = bare (row size) in
    let R : RattleType = region.the_row (param 0 A) g in let Two : RattleType = Tuple (start.the_row ∷ R ∷ []) in let Out : RattleType = type_at T.signature.result z.0.0 in
    let Asked : Type 0 = size < 2 ^ 63 in
    qed 𝓛 (((‵ (flft κ q) ⊛ ‵ (flft z.0.0.1.0 z.0.1.1.0) ⊛ ‵ ftrue) ⊛ ‵ (owns (types_at T.signature.params z.0.0) z.0.3 z.0.4)) ∷ (raw (fact 𝓤 (z.0.0.1.0 ⊑ A.lives)) ⊛ raw (fact 𝓤 Asked)) ∷ []) ∵
    move ! (1 ∷ []) $ split ! $ heard ! (z.0.0.1.0 ⊑ A.lives) (λ le. heard ! Asked (λ asked. split ! $ split ! $ move ! (2 ∷ []) $ fsplit ! $ fsplit ! $ drop ! $ keep ! (0 ∷ 2 ∷ 3 ∷ []) $
    regoal ! (λ (us : List Val). prop (WpFn 𝓤 H C Λ fn us Post)) (λ i. are.0.0 i ++ (are.1.0.0 i ++ [])) refl $
    enter ! C Λ fn (vptr at.0 at.1 ∷ vint w64 size ∷ []) Post $
    alloc_all ! (λ l. pass_all ! refl ((tt, tt), ((tt, record { fits = are.1.0.1 }), tt)) $ let En : Env 𝓤 𝓛.H = env fn.locals l in
    let Then : After 𝓤 H = any_q (after_seq 𝓤 H (Wp 𝓤 H C Λ En (after 2 fn.body) (at_return 𝓤 H En Post)) (at_return 𝓤 H En Post)) in
    let y = at_takes Z 𝓛 𝓜.mem 𝓡.returns κ q at a size 1 τ in
    use2 𝓛 (raw ((Takes Z 𝓛 𝓜.mem 𝓡.returns).pre y)) (Takes-goes Z 𝓛 𝓜.mem 𝓡.returns κ q at a (⊑_trans κ z.0.0.1.0 A.lives z.0.2.0 le) size 1 τ (row_size size are.1.0.1) refl are.1.0.1 (lit< tt)) $
    calls_at ! (fm 𝓛 𝓜 𝓡) (Takes Z 𝓛 𝓜.mem 𝓡.returns) (met.allocate dd) y (and_then ! (get ! refl) (and_then ! (get ! refl) (and_then ! (lit ! tt) (no_more !)))) (λ v.
    use1 𝓛 (later (raw (Answered Z 𝓛 𝓜.mem 𝓡.returns a τ v) ⊛ ‵ (flft κ q))) (Takes-gives Z 𝓛 𝓜.mem 𝓡.returns κ q at a size 1 τ v) $ await ! tt $ split ! $
    answers Z ! 𝓜.mem 𝓡.returns a τ v
    (λ b o e.
    let p : Ptr = block_ptr b o in let made : Val = pair_val (start_val p) mark_val in
    let begins : (start.the_row).Denot = record { at = p } in
    let x : R.Denot = record { mark = record {}; at = p; size = size; items = []; alloc = a; fits = (omega arith, asked) } in
    lands_as ! e refl (Answer-typed true b o) $ first ! $ switches_on ! (get_tag ! (vrt ! refl (fld ! refl (stop !))) (whole !)) $ exec ! C Λ En (arm_body 0 (head (after 1 fn.body))) Then $
    sets ! (of_opd ! (get_in ! (vrt ! refl (fld ! refl (stop !))) (in_variant ! 0 0 refl refl (whole !)))) refl (tt, tt) $
    sets ! (agg ! (and_then ! (get ! refl) (no_more !))) refl (tt, (tt, tt)) $
    sets ! (agg ! (no_more !)) refl (tt, tt) $ sets ! (agg ! (and_then ! (get ! refl) (no_more !))) refl (tt, (tt, tt)) $
    sets ! (agg ! (and_then ! (get ! refl) (and_then ! (get ! refl) (no_more !)))) refl (tt, ((tt, tt), ((tt, tt), tt))) $
    sets_last ! (agg ! (and_then ! (lit ! tt) (and_then ! (get ! refl) (no_more !)))) refl (tt, (record { fits = lit< tt }, (((tt, tt), ((tt, tt), tt)), tt))) $
    exec ! C Λ En (after 2 fn.body) (at_ret En Post) $ sets ! (of_opd ! (get ! refl)) refl (tt, (record { fits = lit< tt }, (((tt, tt), ((tt, tt), tt)), tt))) $
    returns ! (look_at ! 0 refl) $ free_all ! refl $
    -- [room for the whole; the right to free; the token of κ; the other token]
    as_written ! (row size) b o $ use1 𝓛 (‵ (written [] b o) ⊛ ‵ (spare 0 size b o)) (fresh Z 𝓛 b o size) $ split ! $ together t ! p b o size [] refl $
    use0 𝓛 (‵ (mark_own (mark_val ∷ []))) (mark_made 𝓛) $ fjoin ! $ use0 𝓛 (‵ (start_own p (start_val p ∷ []))) (start_made 𝓛 p) $
    use2 𝓛 (‵ (Two.own_val (begins, x) (made ∷ []))) (pair_of 𝓛 start.the_row R begins x (start_val p) mark_val) $
    use1 𝓛 (‵ (Out.own_val (Ok (begins, x)) (live 0 (vcons made vnil) ∷ []))) (ok_of 𝓛 Two AE.the_row (begins, x) made) $ move ! (1 ∷ 2 ∷ []) $ join ! $
    let Made : Type 0 = (x.at ≡ p) × (x.size ≡ size) × (x.items ≡ []) × (x.alloc ≡ a) in
    use0 𝓛 (raw (fact 𝓤 Made)) (fact_i 𝓤 Made (emp 𝓤) (refl, refl, refl, refl)) $ nothing ! $ nothing ! $ fjoin ! $ nothing ! $ fjoin ! $ move ! (2 ∷ 0 ∷ 3 ∷ 1 ∷ []) $
    by ! (leaves 𝓛 T hs c z (live 0 (vcons made vnil)) (Ok (begins, x)) (tt, (tt, tt)) (tt, (tt, tt))))
    (λ e.
    let Refusal : RattleType = Struct (Declared.shape AE.the_type) in let none : Val = live 1 (vcons (vstruct vnil) vnil) in
    lands_as ! e refl (Answer-typed false 0 0) $ first ! $ switches_on ! (get_tag ! (vrt ! refl (fld ! refl (stop !))) (whole !)) $ exec ! C Λ En (arm_body 1 (head (after 1 fn.body))) Then $
    sets ! (of_opd ! (get_in ! (vrt ! refl (fld ! refl (stop !))) (in_variant ! 1 0 refl refl (whole !)))) refl (tt, tt) $
    sets_last ! (agg ! (and_then ! (lit ! tt) (and_then ! (get ! refl) (no_more !)))) refl (tt, (record { fits = lit< tt }, (tt, tt))) $
    exec ! C Λ En (after 2 fn.body) (at_ret En Post) $ sets ! (of_opd ! (get ! refl)) refl (tt, (record { fits = lit< tt }, (tt, tt))) $
    returns ! (look_at ! 0 refl) $ free_all ! refl $ join ! $
    owned ! Refusal (Is Refusal) (Struct-Makes 𝓛 (Declared.shape AE.the_type) tt) tt (vstruct vnil ∷ []) (tt, (refl, tt)) $
    use1 𝓛 (‵ (Out.own_val (Err (record {})) (none ∷ []))) (err_of 𝓛 Two AE.the_row (record {}) (vstruct vnil)) $
    use0 𝓛 (raw (fact 𝓤 (Unit {0}))) (fact_i 𝓤 (Unit {0}) (emp 𝓤) tt) $ nothing ! $ nothing ! $ fjoin ! $ nothing ! $ fjoin ! $ move ! (3 ∷ 0 ∷ 2 ∷ 1 ∷ []) $
    by ! (leaves 𝓛 T hs c z none (Err (record {})) (tt, (tt, tt)) (tt, (tt, tt)))))))))
