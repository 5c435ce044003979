use Rattle.std.proofs.Common.{◌≡◌, ◌++◌, ap, sym, ◌∙◌, subst, refl, List, [], ℤ, map}
use Rattle.std.specs.Prelude.{replicate}
use Rattle.std.proofs.lemmas.Result.{err_from_is_err_and}
use Rattle.sw_base.specs.declared.path.Step.{Step}
use Rattle.kernel_syntax.specs.declared.syntax.Array.{Array}
use Rattle.kernel_syntax.specs.Layout.{ArePlaced, elements}
use Rattle.kernel_syntax.specs.Program.{program_of}
use Rattle.kernel_syntax.proofs.Placing.{bounded_arrays_are_placed}
use Rattle.kernel_model.specs.Value.{Site}
use Rattle.serial_run.specs.Placing.{TellsWords}
use Rattle.serial_team.specs.declared.member.TaskLog.{TaskLog}
use Rattle.serial_team.specs.Members.{BeginsLane, Pool, idle_member, later, logs_at, pool, seen, whole_log}
use Rattle.serial_team.specs.Running.{LaneRuns}
use Rattle.serial_team.specs.Stopping.{LaneLong, LaneStopped, RootLong, RootStopped}
use Rattle.serial_team.proofs.Stopped.{stop_so}
use Rattle.serial_team.proofs.root.run_serially.Goals as goal

pub begin-requires-clause-placed : goal.begin-requires-clause-placed
begin-requires-clause-placed c =
    subst (λ (arrays : List Array). ArePlaced arrays (elements arrays)) (sym c.as_slice-arrays.ensures) (bounded_arrays_are_placed (program_of c.args.kernel.now) c.requires.bounded)

pub returns : goal.returns
returns c =
    let program = program_of c.args.kernel.now in
    let before = idle_member c.in_ok-root.root in
    let after = seen c.go.new.memory c.go.new.member in
    let begun = c.in_ok-root.ensures.begins in
    let start : pool c.in_ok-memory.memory ≡ record { words = replicate (elements program.arrays) 0; left = c.args.left } = λ i. record {
      words = (c.in_ok-memory.ensures.words ∙ ap (λ n. replicate n 0) (c.element_count.ensures ∙ ap (λ (l : List Array). elements l) c.as_slice-arrays.ensures)) i;
      left = c.in_ok-memory.ensures.left i;
    } in
    record {
      ran = λ layout tells.
          let ran = c.in_ok-go.ensures.ran layout (subst (λ (l : List Array). TellsWords l layout) (sym c.as_slice-arrays.ensures) tells) (ap (λ (w : Site). w.arrays) begun.at) in
          record {
            before = before;
            after = after;
            work = ran.work;
            begins =
                subst (λ (slots : List ℤ). BeginsLane program.arrays program.main slots 0 before) c.in_ok-locals.ensures
                (subst (λ (l : List Array). BeginsLane l program.main c.in_ok-locals.locals.slots.items 0 before) c.as_slice-arrays.ensures begun);
            runs =
                subst (λ (p : Pool). LaneRuns layout [] (later before p) ran.work after) start
                (subst (λ (path : List Step). LaneRuns layout path (later before (pool c.in_ok-memory.memory)) ran.work after) c.root.ensures ran.runs);
            ended = c.is_at.ensures c.if-not-is_at.false;
            logs_are =
                c.in_ok-hand_on.ensures.logs
                ∙ ap (λ (l : List TaskLog). map whole_log l ++ logs_at c.root-2.result after) c.new-logs.ensures.items
                ∙ ap (λ (path : List Step). logs_at path after) c.root-2.ensures;
            words_are = refl;
          };
      stopped = λ layout tells. tt;
    }

pub returns-in_err-go-clause-stopped : goal.returns-in_err-go-clause-stopped
returns-in_err-go-clause-stopped c =
    let e = err_from_is_err_and c.from_residual-in_err-go.result c.from_residual-in_err-go.ensures.1 in
    let program = program_of c.args.kernel.now in
    let before = idle_member c.in_ok-root.root in
    let begun = c.in_ok-root.ensures.begins in
    let now = pool c.go.new.memory in
    let start : pool c.in_ok-memory.memory ≡ record { words = replicate (elements program.arrays) 0; left = c.args.left } = λ i. record {
      words = (c.in_ok-memory.ensures.words ∙ ap (λ n. replicate n 0) (c.element_count.ensures ∙ ap (λ (l : List Array). elements l) c.as_slice-arrays.ensures)) i;
      left = c.in_ok-memory.ensures.left i;
    } in
    λ layout tells.
    rw (e.1, e.2)
    (stop_so (LaneStopped layout c.root.result (later before (pool c.in_ok-memory.memory)) now) (RootStopped layout program c.args.left)
    (LaneLong layout c.root.result (later before (pool c.in_ok-memory.memory))) (RootLong layout program c.args.left) c.in_err-go.field-0.0
    (λ first stopped. record {
      before = before;
      begins =
          subst (λ (slots : List ℤ). BeginsLane program.arrays program.main slots 0 before) c.in_ok-locals.ensures
          (subst (λ (l : List Array). BeginsLane l program.main c.in_ok-locals.locals.slots.items 0 before) c.as_slice-arrays.ensures begun);
      after = now;
      stopped =
          subst (λ (p : Pool). LaneStopped layout [] (later before p) now first) start
          (subst (λ (path : List Step). LaneStopped layout path (later before (pool c.in_ok-memory.memory)) now first) c.root.ensures stopped);
    })
    (λ long l. record {
      before = before;
      begins =
          subst (λ (slots : List ℤ). BeginsLane program.arrays program.main slots 0 before) c.in_ok-locals.ensures
          (subst (λ (l : List Array). BeginsLane l program.main c.in_ok-locals.locals.slots.items 0 before) c.as_slice-arrays.ensures begun);
      runs_out =
          subst (λ (p : Pool). LaneLong layout [] (later before p) long) start
          (subst (λ (path : List Step). LaneLong layout path (later before (pool c.in_ok-memory.memory)) long) c.root.ensures l);
    })
    (c.in_err-go.ensures.stops layout (subst (λ (l : List Array). TellsWords l layout) (sym c.as_slice-arrays.ensures) tells) (ap (λ (w : Site). w.arrays) begun.at)))
