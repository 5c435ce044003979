use Rattle.std.proofs.Common.{◌≡◌, refl}
use Rattle.kernel_syntax.specs.Layout.{elements}
use Rattle.kernel_syntax.specs.Program.{Program, program_of}
use Rattle.serial_run.specs.Placing.{ElementLayout, TellsWords}
use Rattle.serial_team.specs.Members.{whole_log}
use Rattle.serial_laws.proofs.LaneTasks.{root_ends}
use Rattle.serial_laws.proofs.LaneStopsTasks.{root_is_long, root_stops}
use Rattle.serial_laws.proofs.Root.{logs_run}
use Rattle.certify.specs.declared.certifying.TheConstants.{MOST_RECORDS}
use Rattle.certify.proofs.Layouts.{element_layout, tells_words}
use Rattle.certify.proofs.certifying.certify.Goals as goal

pub judge-requires-after_bounds : goal.judge-requires-after_bounds
judge-requires-after_bounds g c κs within =
    let program = program_of c.args.kernel.now in
    let layout = element_layout program in
    let tells = tells_words program c.requires.bounded in
    let fixed = c.first_construct.ensures.fixed c.in_default.is in
    let ran = c.in-Ok.ensures.ran layout tells in
    record {
      fixed = fixed;
      lawful = c.requires;
      run = logs_run layout program c.requires tells refl MOST_RECORDS _ _ ran;
      ends = root_ends layout refl program c.requires fixed tells MOST_RECORDS _ _ ran;
    }

pub returns-in-Err-Long : goal.returns-in-Err-Long
returns-in-Err-Long g c =
    let program = program_of c.args.kernel.now in
    let layout = element_layout program in
    let tells = tells_words program c.requires.bounded in
    let fixed = c.first_construct.ensures.fixed c.in_default.is in
    record { tells = (fixed, root_is_long layout refl program c.requires fixed tells MOST_RECORDS _ (rw c.in-Err-Long.field-0-is (rw c.in-Err-Long.field-0-is at c.in-Err-Long.ensures.stopped layout tells))) }

pub returns-in-Err-Stopped : goal.returns-in-Err-Stopped
returns-in-Err-Stopped g c =
    let program = program_of c.args.kernel.now in
    let layout = element_layout program in
    let tells = tells_words program c.requires.bounded in
    let fixed = c.first_construct.ensures.fixed c.in_default.is in
    record { tells = (fixed, root_stops layout refl program c.requires fixed tells MOST_RECORDS _ (rw c.in-Err-Stopped.field-0-is (rw c.in-Err-Stopped.field-0-is at c.in-Err-Stopped.ensures.stopped layout tells))) }
