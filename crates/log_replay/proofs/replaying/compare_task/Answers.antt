use Rattle.std.proofs.Common.{◌≡◌, List, [], ◌∷◌, ◌++◌, length, take, Option, ap, sym, ◌∙◌, subst, ℕ}
use Rattle.std.specs.Prelude.{map, option_map}
use Rattle.std.specs.Global.{Vec}
use Rattle.std.proofs.lemmas.Result.{IfOk-weaker}
use Rattle.log_format.specs.declared.format.TheConstants.{FORMAT}
use Rattle.race_model.specs.LogFault.{IsWholeLog}
use Rattle.kernel_syntax.specs.declared.syntax.Array.{Array}
use Rattle.kernel_syntax.specs.Layout.{ArePlaced, elements}
use Rattle.kernel_syntax.specs.Program.{program_of}
use Rattle.kernel_syntax.proofs.Placing.{bounded_arrays_are_placed}
use Rattle.kernel_model.specs.Folder.{start_at}
use Rattle.sw_base.specs.declared.path.Step.{Step}
use Rattle.race_model.specs.Row.{Row}
use Rattle.log_replay.specs.Ancestors.{forks_kept, start_of}
use Rattle.log_replay.specs.Forks.{fork_of}
use Rattle.log_replay.specs.declared.ancestors.Begin.{Begin}
use Rattle.log_replay.specs.declared.forked.Forked.{Forked}
use Rattle.log_replay.proofs.Kept.{goes_on, kept_next, kept_so, none_differs, stray_found}
use Rattle.log_replay.proofs.replaying.compare_task.Goals as goal

pub returns-in_default-clause-compares : goal.returns-in_default-clause-compares
returns-in_default-clause-compares g c = λ x told logs keeps whole counted ahead fits.
    let path : c.row.inside.path ≡ c.args.row.now.path = ap (λ (r : Row). r.path) c.row.view_is in
    let starts = ap (λ (o : Option Begin). option_map start_of o) (sym c.in_default.is)
    ∙ c.in_ok-start.ensures.start logs (kept_so (program_of c.args.kernel.now) logs c.args.kept.now.items c.deref.result.now c.args.row.now.path c.row.inside.path (sym c.deref.ensures.value) (sym path) keeps)
    ∙ ap (λ (p : List Step). start_at (program_of c.args.kernel.now) logs p) path in
    none_differs (program_of c.args.kernel.now) logs c.args.row.now.path starts ahead

pub follow-requires-clause-place : goal.follow-requires-clause-place
follow-requires-clause-place g c κs within =
    let can = rw c.in-Some.is at (c.in_ok-start.ensures.can) in
    record {
      placed = subst (λ (arrays : List Array). ArePlaced arrays (elements arrays)) (sym c.as_slice-arrays.ensures) (bounded_arrays_are_placed (program_of c.args.kernel.now) c.requires.bounded);
      within = can.within;
    }

pub returns-in_ok-push-in-Ok-clause-compares : goal.returns-in_ok-push-in-Ok-clause-compares
returns-in_ok-push-in-Ok-clause-compares g c = λ x told logs keeps whole counted ahead fits.
    let path : c.row.inside.path ≡ c.args.row.now.path = ap (λ (r : Row). r.path) c.row.view_is in
    let starts = ap (λ (o : Option Begin). option_map start_of o) (sym c.in-Some.is)
    ∙ c.in_ok-start.ensures.start logs (kept_so (program_of c.args.kernel.now) logs c.args.kept.now.items c.deref.result.now c.args.row.now.path c.row.inside.path (sym c.deref.ensures.value) (sym path) keeps)
    ∙ ap (λ (p : List Step). start_at (program_of c.args.kernel.now) logs p) path in
    let followed = c.in-Ok.ensures.followed x told (logs c.args.row.now.path)
    (subst (λ (p : List Step). IsWholeLog FORMAT x.held c.args.dir.now p (logs c.args.row.now.path)) (sym path) whole)
    (ap (λ (r : Row). r.records) c.row.view_is ∙ counted) ahead fits (program_of c.args.kernel.now) (sym c.as_slice-arrays.ensures) in
    goes_on (program_of c.args.kernel.now) logs c.args.row.now.path (start_of c.in-Some.start) starts (map fork_of c.in-Ok.forks.items) (forks_kept c.args.kept.now.items) (forks_kept c.push.new.self.items) followed
    (kept_next c.args.kept.now.items c.push.new.self.items (length c.args.row.now.path) c.in-Ok.forks
    (c.in_ok-push-in-Ok.ensures.items
    ∙ ap (λ (l : List (Vec Forked)). l ++ c.in-Ok.forks ∷ []) (c.truncate.ensures.items ∙ ap (λ (n : ℕ). take n c.args.kept.now.items) (ap length (c.steps.ensures.steps ∙ path)))))

pub returns-in-Err-clause-compares : goal.returns-in-Err-clause-compares
returns-in-Err-clause-compares g c =
    let path : c.row.inside.path ≡ c.args.row.now.path = ap (λ (r : Row). r.path) c.row.view_is in
    IfOk-weaker c.found_of.result _ _
    (λ found is x told logs keeps whole counted ahead fits.
    let starts = ap (λ (o : Option Begin). option_map start_of o) (sym c.in-Some.is)
    ∙ c.in_ok-start.ensures.start logs (kept_so (program_of c.args.kernel.now) logs c.args.kept.now.items c.deref.result.now c.args.row.now.path c.row.inside.path (sym c.deref.ensures.value) (sym path) keeps)
    ∙ ap (λ (p : List Step). start_at (program_of c.args.kernel.now) logs p) path in
    let strays = c.in-Err.ensures.strays x told (logs c.args.row.now.path)
    (subst (λ (p : List Step). IsWholeLog FORMAT x.held c.args.dir.now p (logs c.args.row.now.path)) (sym path) whole)
    (ap (λ (r : Row). r.records) c.row.view_is ∙ counted) ahead fits (program_of c.args.kernel.now) (sym c.as_slice-arrays.ensures) in
    stray_found (program_of c.args.kernel.now) logs c.args.row.now.path (start_of c.in-Some.start) starts (forks_kept c.args.kept.now.items) (forks_kept c.args.kept.now.items) c.in-Err.stray found is strays)
    c.found_of.ensures.found
