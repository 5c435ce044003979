use Rattle.std.proofs.Common.{◌≡◌, ◌∙◌, ap, arith, refl, sym, ⊎_elim, List, ℕ, Option, None, Some}
use Rattle.std.specs.Prelude.{is_some}
use Rattle.std.specs.Option.{option_map}
use Rattle.std.proofs.lemmas.Result.{err_from_is_err_and}
use Rattle.sw_base.specs.Environment.{Content, LeavesPrefix}
use Rattle.run_command.specs.Seals.{all_logged, rows_of_logs}
use Rattle.run_command.proofs.SealedLogs.{faults_weaker}
use Rattle.run_command.proofs.StoredRun.{rows-logged, stores_all, stores_prefix, stores_none, stores_part}
use Rattle.run_command.proofs.sealing.store.Goals as goal

pub returns-in_default-clause-refused : goal.returns-in_default-clause-refused
returns-in_default-clause-refused g c = stores_none c.args.dir.now (all_logged g.F.Log.Log.dir g.F.Log.Log.path g.F.Log.Log.text c.args.logs.items) _ _ c.discard_all.ensures.same

pub returns-in_err-seal_all-clause-refused : goal.returns-in_err-seal_all-clause-refused
returns-in_err-seal_all-clause-refused g c =
    let p = err_from_is_err_and c.from_residual.result c.from_residual.ensures.1 in
    rw (p.1) (stores_part c.args.dir.now _ _ _ _ c.in_err-seal_all.ensures.seals)

pub write_index-requires-after_bounds : goal.write_index-requires-after_bounds
write_index-requires-after_bounds g c κs within = rw (c.deref-2.ensures.value, c.in-Ok.ensures, c.deref.ensures.value) c.requires

pub returns-in_err-write_index-clause-refused : goal.returns-in_err-write_index-clause-refused
returns-in_err-write_index-clause-refused g c =
    let p = err_from_is_err_and c.from_residual-in_err-write_index.result c.from_residual-in_err-write_index.ensures.1 in
    let logs = all_logged g.F.Log.Log.dir g.F.Log.Log.path g.F.Log.Log.text c.args.logs.items in
    let rows : c.deref-2.result.now ≡ rows_of_logs logs = rw (c.deref-2.ensures.value, c.in-Ok.ensures, c.deref.ensures.value) (sym (rows-logged g.F.Log.Log.dir g.F.Log.Log.path g.F.Log.Log.text c.args.logs.items)) in
    rw (p.1) (stores_prefix c.args.dir.now logs _ (g.F.Folder.state c.seal_all.new.folder).content _ c.in_ok-seal_all.ensures.seals (rw rows at c.in_err-write_index.ensures.refused))

pub returns-clause-stored : goal.returns-clause-stored
returns-clause-stored g c =
    let logs = all_logged g.F.Log.Log.dir g.F.Log.Log.path g.F.Log.Log.text c.args.logs.items in
    let rows : c.deref-2.result.now ≡ rows_of_logs logs = rw (c.deref-2.ensures.value, c.in-Ok.ensures, c.deref.ensures.value) (sym (rows-logged g.F.Log.Log.dir g.F.Log.Log.path g.F.Log.Log.text c.args.logs.items)) in
    stores_all c.args.dir.now logs _ (g.F.Folder.state c.seal_all.new.folder).content _ c.in_ok-seal_all.ensures.seals (rw rows at c.in_ok-write_index.ensures.done)

pub returns-in_err-write_index-clause-faulty : goal.returns-in_err-write_index-clause-faulty
returns-in_err-write_index-clause-faulty g c = faults_weaker g.F.Log.Log.faults _ _ _ (λ rose. let cause = c.write_index.ensures.cause in omega arith) c.seal_all.ensures.faulty

pub returns-clause-faulty : goal.returns-clause-faulty
returns-clause-faulty g c = faults_weaker g.F.Log.Log.faults _ _ _ (λ rose. let cause = c.write_index.ensures.cause in omega arith) c.seal_all.ensures.faulty

-- ---- what is told of the folder, and of its faults

told_still : (change : Content → Content) (old : Option Content) → is_some (option_map change old) ≡ is_some old
told_still change None = refl
told_still change (Some content) = refl

left_told : (old new : Option Content) (name bytes : List ℕ) → LeavesPrefix old new name bytes → is_some new ≡ is_some old
left_told old new name bytes left = ⊎_elim (λ same. ap is_some same) (λ put. ap is_some put ∙ told_still _ old) left.leaves

pub returns-in_err-write_index-clause-tells : goal.returns-in_err-write_index-clause-tells
returns-in_err-write_index-clause-tells g c = left_told _ _ _ _ c.in_err-write_index.ensures.refused ∙ c.seal_all.ensures.tells

pub returns-clause-tells : goal.returns-clause-tells
returns-clause-tells g c = ap is_some c.in_ok-write_index.ensures.done ∙ told_still _ _ ∙ c.seal_all.ensures.tells

pub returns-in_err-write_index-clause-cause : goal.returns-in_err-write_index-clause-cause
returns-in_err-write_index-clause-cause g c =
    let p = err_from_is_err_and c.from_residual-in_err-write_index.result c.from_residual-in_err-write_index.ensures.1 in
    let before = c.seal_all.ensures.cause.later in
    let cause = c.in_err-write_index.ensures.cause in
    rw (p.1) (record { later = let after = cause.later in omega arith; failed = λ is. let rose = cause.failed (cc) in omega arith })

pub returns-clause-cause : goal.returns-clause-cause
returns-clause-cause g c =
    record { later = let before = c.seal_all.ensures.cause.later in let after = c.write_index.ensures.cause.later in omega arith; failed = λ is. absurd (cc) }

pub returns-clause-no_fault : goal.returns-clause-no_fault
returns-clause-no_fault g c = λ all. c.in_ok-write_index.ensures.no_fault ∙ c.in_ok-seal_all.ensures.no_fault all
