use Rattle.std.proofs.Common.{◌≡◌, ◌≤◌, List, length, Some, ap, sym, ◌∙◌, arith, refl}
use Rattle.std.specs.Prelude.{map, option_map, slice_get}
use Rattle.std.specs.Global.{Vec}
use Rattle.std.proofs.lemmas.Option.{slice_get-map, slice_get_read, slice_get_past}
use Rattle.std.proofs.lemmas.Result.{IfOk-weaker}
use Rattle.kernel_syntax.specs.Program.{program_of}
use Rattle.kernel_model.specs.Folder.{lane_start}
use Rattle.kernel_model.specs.Trace.{Start}
use Rattle.log_replay.specs.Ancestors.{forks_kept}
use Rattle.log_replay.specs.Forks.{fork_of}
use Rattle.log_replay.specs.declared.forked.Forked.{Forked}
use Rattle.log_replay.proofs.Kept.{root_starts, lane_starts, some_kept}
use Rattle.log_replay.proofs.ancestors.find_start.Goals as goal

pub returns-in_default-clause-start : goal.returns-in_default-clause-start
returns-in_default-clause-start c = λ logs keeps.
    let none : length c.steps.result.now ≡ 0 = omega (arith, c.in_default.ensures.cases) in
    ap (λ (s : Start). Some s) c.in_ok-root.ensures.start
    ∙ root_starts (program_of c.args.kernel.now) logs c.args.path.now (ap length (sym c.steps.ensures.steps) ∙ none)

pub returns-in-Some-get-clause-start : goal.returns-in-Some-get-clause-start
returns-in-Some-get-clause-start c =
    let h = c.in-Some-get.ensures.lookup in
    let here = slice_get_read c.args.kept.now (length c.args.kept.now) (length c.in-Some.above.now) c.in-Some-get.forks.now refl h.3.0 h.1 in
    let step = c.in-Some.step.now in
    IfOk-weaker c.lane.result _ _
    (λ found start logs keeps.
    start
    ∙ ap (λ (fs : List Forked). lane_start (slice_get (map fork_of fs) step.region) step) c.deref.ensures.value
    ∙ lane_starts (program_of c.args.kernel.now) logs (forks_kept c.args.kept.now) c.args.path.now c.in-Some.above.now step (sym c.steps.ensures.steps ∙ c.in-Some.ensures.cases.0) keeps
    (map fork_of c.in-Some-get.forks.now.items)
    (slice_get-map (λ (f : Vec Forked). map fork_of f.items) c.args.kept.now (length c.in-Some.above.now)
    ∙ ap (λ o. option_map (λ (f : Vec Forked). map fork_of f.items) o) here))
    c.lane.ensures.start

pub returns-in-None-clause-start : goal.returns-in-None-clause-start
returns-in-None-clause-start c = λ logs keeps.
    let past : length c.args.kept.now ≤ length c.in-Some.above.now = omega (arith, c.in-None.ensures.lookup) in
    absurd (some_kept (program_of c.args.kernel.now) logs (forks_kept c.args.kept.now) c.args.path.now c.in-Some.above.now c.in-Some.step.now (sym c.steps.ensures.steps ∙ c.in-Some.ensures.cases.0) keeps
    (slice_get-map (λ (f : Vec Forked). map fork_of f.items) c.args.kept.now (length c.in-Some.above.now)
    ∙ ap (λ o. option_map (λ (f : Vec Forked). map fork_of f.items) o) (slice_get_past c.args.kept.now (length c.in-Some.above.now) past)))
