use Rattle.std.proofs.Common.{◌≡◌, ◌∙◌, refl, sym, subst, ◌≤◌, List, [], ℤ, ℕ, arith}
use Rattle.std.specs.Prelude.{is_some, length}
use Rattle.log_format.specs.Limit.{record_limit}
use Rattle.kernel_syntax.specs.Program.{program_of}
use Rattle.kernel_model.specs.declared.phase.Item.{Item}
use Rattle.kernel_model.specs.Folder.{root_start}
use Rattle.kernel_model.specs.Parts.{run_parts}
use Rattle.kernel_model.specs.Phases.{parts_in}
use Rattle.kernel_model.specs.State.{State}
use Rattle.kernel_model.specs.Trace.{run}
use Rattle.kernel_model.specs.Value.{Site}
use Rattle.shared_words.specs.declared.share.Share.{Share}
use Rattle.shared_words.specs.Handles.{Belongs, HandValue}
use Rattle.lane_runner.specs.Handed.{LogPlace}
use Rattle.lane_runner.specs.Lane.{IsLanePath}
use Rattle.lane_runner.proofs.LanePaths.{root_path}
use Rattle.region_runner.specs.Begins.{LaneBegins}
use Rattle.region_runner.specs.Ground.{crew_of}
use Rattle.region_runner.specs.Lawful.{IsLawfulPhase}
use Rattle.region_runner.specs.Opening.{GaveNothing}
use Rattle.region_runner.proofs.Idle.{only_phase}
use Rattle.region_runner.proofs.LawfulPhases.{phases_lawful}
use Rattle.region_runner.proofs.Nested.{main_team}
use Rattle.region_runner.proofs.OpenedTeam.{task_fresh}
use Rattle.region_runner.proofs.RootTask.{root_gave, root_torn}
use Rattle.region_runner.proofs.TeamLoop.{last_has, last_ends}
use Rattle.region_runner.proofs.root.run_root.Goals as goal

pub open_lane-requires-clause-lane : goal.open_lane-requires-clause-lane
open_lane-requires-clause-lane g c κs within = subst IsLanePath (sym c.root.ensures) root_path

pub execute-requires-clause-phase : goal.execute-requires-clause-phase
execute-requires-clause-phase g c κs within =
    let mutexes = length c.args.kernel.now.mutexes in
    let split = sym c.deref.ensures.value ∙ c.in-Some.ensures.cases.0 in
    record {
      mutexes = mutexes;
      locks = c.requires.locks;
      lawful =
          last_has c.in-Ok-Ok-Ok.phases.items c.in-Some.field-0-1.now c.in-Some.phase.now split (IsLawfulPhase mutexes 0)
          (phases_lawful mutexes 0 (program_of c.args.kernel.now).main c.in-Ok-Ok-Ok.phases.items (main_team (program_of c.args.kernel.now) c.requires.lawful) c.in-Ok-Ok-Ok.ensures.parts c.in-Ok-Ok-Ok.ensures.divided);
    }

pub execute-requires-clause-last : goal.execute-requires-clause-last
execute-requires-clause-last g c κs within =
    last_ends c.in-Ok-Ok-Ok.phases.items c.in-Some.field-0-1.now c.in-Some.phase.now (sym c.deref.ensures.value ∙ c.in-Some.ensures.cases.0) c.in-Ok-Ok-Ok.ensures.divided c.args.kernel.now.main.end
    c.requires.lawful.bounded.end_line.some

pub execute-requires-clause-undrawn : goal.execute-requires-clause-undrawn
execute-requires-clause-undrawn g c κs within =
    (only_phase (program_of c.args.kernel.now).main.body c.in-Ok-Ok-Ok.phases.items c.in-Some.field-0-1.now c.in-Some.phase.now c.requires.lawful.idle c.in-Ok-Ok-Ok.ensures.parts c.in-Ok-Ok-Ok.ensures.divided
    (sym c.deref.ensures.value ∙ c.in-Some.ensures.cases.0)).none_drawn

pub returns-in-Ok : goal.returns-in-Ok
returns-in-Ok g c =
    let program = program_of c.args.kernel.now in
    let place : LogPlace = record { dir = g.L.Log.dir c.args.log; size = c.args.ground.now.size; tells = is_some (g.L.Log.text c.args.log) } in
    let only =
    only_phase program.main.body c.in-Ok-Ok-Ok.phases.items c.in-Some.field-0-1.now c.in-Some.phase.now c.requires.lawful.idle c.in-Ok-Ok-Ok.ensures.parts c.in-Ok-Ok-Ok.ensures.divided
    (sym c.deref.ensures.value ∙ c.in-Some.ensures.cases.0) in
    let begins : LaneBegins place [] (root_start program).slots c.in-Ok-Ok-Ok.draws c.in-Ok.root =
    subst (λ (n : ℕ). LaneBegins (record place { size = n }) [] (root_start program).slots c.in-Ok-Ok-Ok.draws c.in-Ok.root) c.size.ensures.is
    (subst (λ (path : List _). LaneBegins (record place { size = c.size.result }) path (root_start program).slots c.in-Ok-Ok-Ok.draws c.in-Ok.root) c.root.ensures
    (subst (λ (slots : List ℤ). LaneBegins (record place { size = c.size.result }) c.root.result slots c.in-Ok-Ok-Ok.draws c.in-Ok.root) c.in-Ok-Ok-Ok.ensures'' c.in-Ok.ensures.opens)) in
    let crew = crew_of c.args.ground.now c.in-Ok-Ok-Ok.chunks 1 in
    record {
      ran =
          root_gave program place crew c.in-Some.phase.now c.args.hand.now c.execute.new.hand c.in-Ok.root c.execute.result c.in-Ok-Ok-Ok.draws c.requires.arrays (sym c.requires.lawful.alone)
          (subst (λ (ps : List (List Item)). (at : Site) (s : State) → run_parts at (parts_in ps) s ≡ run at program.main.body s) only.is c.in-Ok-Ok-Ok.ensures.runs)
          (last_ends c.in-Ok-Ok-Ok.phases.items c.in-Some.field-0-1.now c.in-Some.phase.now (sym c.deref.ensures.value ∙ c.in-Some.ensures.cases.0) c.in-Ok-Ok-Ok.ensures.divided c.args.kernel.now.main.end
          c.requires.lawful.bounded.end_line.some)
          begins
          (task_fresh place [] (root_start program).slots c.in-Ok-Ok-Ok.draws crew c.in-Ok.root
          (subst (λ (h : HandValue Share). Belongs h c.in-Ok-Ok-Ok.chunks.table) (sym c.in-Ok-Ok-Ok.ensures'.hand) (record { here = refl; there = refl }))
          (subst (λ (h : HandValue Share). record_limit ≤ h.view.left) (sym c.in-Ok-Ok-Ok.ensures'.hand) (omega arith)) begins)
          c.requires.ready.free.holds_none c.execute.ensures.closed;
    }

pub returns : goal.returns
returns g c =
    let program = program_of c.args.kernel.now in
    let place : LogPlace = record { dir = g.L.Log.dir c.args.log; size = c.args.ground.now.size; tells = is_some (g.L.Log.text c.args.log) } in
    record {
      ran =
          root_torn program place c.args.hand.now c.in-Ok-Ok-Ok.draws c.in-Err.torn c.requires.ready.free.belongs.there (
            subst (λ (n : ℕ). GaveNothing (record place { size = n }) [] c.in-Ok-Ok-Ok.draws c.in-Err.torn) c.size.ensures.is
                (subst (λ (path : List _). GaveNothing (record place { size = c.size.result }) path c.in-Ok-Ok-Ok.draws c.in-Err.torn) c.root.ensures c.in-Err.ensures.opens.0),
            c.in-Err.ensures.opens.1,
          );
    }
