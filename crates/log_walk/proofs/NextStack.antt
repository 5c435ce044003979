-- One log more.
use Rattle.std.proofs.Common.{◌≡◌, ℕ, suc, ◌+◌, List, [], ◌∷◌, ◌++◌, length, take, Option, Some, None, sym, ap, subst, ◌∙◌, arith}
use Rattle.std.specs.Prelude.{slice_get}
use Rattle.std.proofs.lemmas.List.{length_push}
use Rattle.std.proofs.lemmas.List.Elements.{Contains-push}
use Rattle.sw_base.specs.declared.path.Step.{Step}
use Rattle.sw_base.specs.Environment.{Content}
use Rattle.sw_base.specs.Names.{log_name}
use Rattle.log_format.specs.declared.format.Format.{Format}
use Rattle.log_format.specs.Format.{log_header}
use Rattle.log_format.specs.Spelling.{log_bytes}
use Rattle.race_model.specs.Row.{Row}
use Rattle.race_model.specs.FirstBad.{row_of}
use Rattle.race_model.specs.IndexFault.{AreRows}
use Rattle.race_model.specs.Label.{Triple, IsLabel}
use Rattle.race_model.specs.Listing.{IsNextPath}
use Rattle.race_model.specs.Trace.{TaskLog, Trace, Logs}
use Rattle.race_laws.proofs.ListedOnce.{next_path}
use Rattle.log_segment.specs.Walking.{HasLogs, WalksLog}
use Rattle.log_segment.specs.declared.segment.Segment.{Segment}
use Rattle.log_walk.specs.Check.{ChecksLog}
use Rattle.log_walk.specs.Rules.{log_task_of}
use Rattle.log_walk.specs.Stack.{IsStackAfter, WalksTask, counts_with}
use Rattle.log_walk.specs.Unread.{OpensFile}
use Rattle.log_walk.specs.Walk.{IsTaskOf, IsNextTask}
use Rattle.log_walk.specs.declared.check.Checked.{Checked}
use Rattle.log_walk.specs.declared.stack.Stack.{Stack}
use Rattle.log_walk.specs.declared.task.Task.{Task}
use Rattle.log_walk.proofs.NextTask.{next_task, next_whole}
use Rattle.log_walk.proofs.Places.{good_next, segments_push}
use Rattle.log_walk.proofs.SpanOrder.{paths_of, path_found}
use Rattle.log_walk.proofs.StackMoves.{logs_before, forks_next, teams_next, own_team}

-- the stack went on past the log of a task
pub record Pushed (path : List Step) (old new : Stack) (checked : Checked) (count : ℕ) : Type 0 where
  pub place : new.place ≡ old.place + 1
  pub segments : new.segments ≡ checked.segments
  pub forks : new.forks.items ≡ take (length path) old.forks.items ++ checked.forks ∷ []
  pub barriers : new.barriers.items ≡ counts_with path old.barriers.items count

pub walks_task : {format : Format} (told : Option Content) (dir : List ℕ) (bytes : Option (List ℕ)) (rows : List Row) (stack now : Stack) (trace : Trace) (row : Row) (task : Task) (label : List Triple) (checked : Checked) (count : ℕ) (old new : List Segment)
    → AreRows rows → IsStackAfter format rows stack trace → slice_get rows (length trace) ≡ Some row → IsTaskOf rows trace row (log_task_of task)
    → ChecksLog format bytes task stack.segments label checked old new → OpensFile told (log_name dir row.path) bytes
    → ((logs : Logs) → HasLogs logs trace → IsLabel logs (record { path = row.path; index = 0 }) label)
    → Pushed row.path stack now checked count
    → ((n : ℕ) → task.due_barriers ≡ Some n → count ≡ n) → (task.due_barriers ≡ None → count ≡ checked.barriers)
    → WalksTask format told dir rows now trace row old new
walks_task {format} told dir bytes rows stack now trace row task label checked count old new good_rows stands found is checks there labels pushed some none = record {
  records = checks.records;
  counted = next.counted;
  stands = record {
    good = good_next rows trace t stands.good (found ∙ ap (λ (r : Row). Some r) row_is) next.good (omega (arith, next.sum, next.limit));
    place = omega (arith, pushed.place, stands.place, length_push trace t);
    counted = pushed.segments ∙ (next.sum ∙ sym (segments_push trace t));
    forks = λ other at. forks_next stack now trace t other.path checked.forks (goes other at) (stands.forks row found) pushed.forks
        (λ logs has. walks.forked logs (has t (Contains-push trace t)) (labels logs (logs_before logs trace t has)));
    teams = λ other at. teams_next stack now trace t other.path count (goes other at) (stands.teams row found)
        (own_team trace row.path checks.records task.due_barriers checked.barriers count is.team checks.barriers some none) pushed.barriers;
  };
  whole = λ c is_told.
      (let file = there c is_told in
      next_whole c.held dir rows trace row (log_task_of task) (log_bytes (log_header format) checks.records) stack.segments checks.records checked.segments is
      (file.1 ∙ ap (λ (bs : List ℕ). Some bs) (checks.whole file.0 file.2)) checks.good);
  adds = λ logs has. walks.segments logs (has t (Contains-push trace t)) (labels logs (logs_before logs trace t has));
}
  where
    t : TaskLog
    t = record { path = row.path; records = checks.records }

    next : IsNextTask format rows trace row checks.records checked.segments
    next = next_task rows trace row (log_task_of task) (log_bytes (log_header format) checks.records) stack.segments checks.records checked.segments is stands.counted checks.good

    row_is : row ≡ row_of t
    row_is = λ i. record { path = row.path; records = sym next.counted i }

    goes : (other : Row) → slice_get rows (length (trace ++ t ∷ [])) ≡ Some other → IsNextPath row.path other.path
    goes other at = next_path (paths_of rows) good_rows.lists (length trace) row.path other.path (path_found rows (length trace) row found)
        (path_found rows (suc (length trace)) other (ap (λ (n : ℕ). slice_get rows n) (let one : suc (length trace) ≡ length (trace ++ t ∷ []) = omega (arith, length_push trace t) in one) ∙ at))

    walks : WalksLog row.path label checks.records checked.forks.items old new
    walks = subst (λ (p : List Step). WalksLog p label checks.records checked.forks.items old new) is.path checks.walks
