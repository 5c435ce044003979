-- A whole trace whose logs keep the rules beside its index keeps the rules of a folder.
use Rattle.std.proofs.Common.{◌≡◌, ℕ, zero, suc, List, [], ◌∷◌, length, take, Option, Some, None, sym, ap, subst, ◌∙◌, arith}
use Rattle.std.specs.Prelude.{slice_get, Contains}
use Rattle.std.proofs.lemmas.List.{take_all, same_from_push}
use Rattle.sw_base.specs.declared.path.Step.{Step}
use Rattle.log_format.specs.declared.format.Format.{Format}
use Rattle.log_format.specs.declared.record.Record.{Record}
use Rattle.race_model.specs.Row.{Row}
use Rattle.race_model.specs.Listing.{lane_of}
use Rattle.race_model.specs.IndexFault.{AreRows}
use Rattle.race_model.specs.KeepsRules.{KnowsTeam, TaskKeepsRules, KeepsRules}
use Rattle.race_model.specs.LogFault.{ListsSpans}
use Rattle.race_model.specs.FirstBad.{rows_of}
use Rattle.race_model.specs.Trace.{Trace, logs_of, barrier_count}
use Rattle.race_laws.proofs.FolderForkJoin.{all_by}
use Rattle.log_walk.specs.GoodTrace.{IsGoodTrace, AreTeamBarriers}
use Rattle.log_walk.proofs.TaskAt.{IsIndexed, logs_at, indexed_once}

-- a task of the first ones is one of all
contains_take : {X : Type 0} (n : ℕ) (xs : List X) (x : X) → Contains (take n xs) x → (k : ℕ) × (slice_get xs k ≡ Some x)
contains_take zero xs x (k, within, is) = absurd (omega arith)
contains_take (suc n) [] x (k, within, is) = absurd (omega arith)
contains_take (suc n) (y ∷ xs) x (zero, within, is) = (0, ap (λ (z : _). Some z) is)
contains_take (suc n) (y ∷ xs) x (suc k, within, is) = let at = contains_take n xs x (k, omega arith, is) in (suc at.0, at.1)

-- a team that is told of the earlier tasks is told of all
knows_team : (rows : List Row) (trace : Trace) (index : ℕ) (path : List Step) (team : Option ℕ) → IsIndexed rows trace → AreTeamBarriers (take index trace) path team → KnowsTeam trace path team
knows_team rows trace index path None is leads above step path_is from_one = absurd (omega (arith, leads above step path_is))
knows_team rows trace index path (Some barriers) is team above step path_is from_one =
    let both = same_from_push team.above above team.step step (sym team.path_is ∙ path_is) in
    let first = contains_take index trace team.first team.listed in
    let first_path : team.first.path ≡ lane_of above step.region 0 step.span
    = team.first_path ∙ (ap (λ (p : List Step). lane_of p team.step.region 0 team.step.span) both.0 ∙ ap (λ (s : Step). lane_of above s.region 0 s.span) both.1) in
    let first_logs : logs_of trace (lane_of above step.region 0 step.span) ≡ team.first.records
    = ap (λ (p : List Step). logs_of trace p) (sym first_path) ∙ logs_at trace first.0 team.first (indexed_once rows trace is) first.1 in
    ap (λ (n : ℕ). Some n) (team.counted ∙ ap (λ (rs : List Record). barrier_count rs) (sym first_logs))

pub keeps_rules : {format : Format} (rows : List Row) (trace : Trace) → AreRows rows → IsGoodTrace format rows trace → length trace ≡ length rows → KeepsRules format trace
keeps_rules {format} rows trace good_rows good all = record {
  rows = subst (λ (rs : List Row). AreRows rs) (sym rows_are) good_rows;
  tasks = all_by (TaskKeepsRules format trace) trace (λ k task found.
      let is = good.each k task found in
      record {
        tabled = is.tabled;
        spans = is.spans;
        has_spans = subst (λ (rs : List Row). ListsSpans rs task.path is.spans) (sym rows_are) is.has_spans;
        due_barriers = is.due_barriers;
        knows_team = knows_team rows trace k task.path is.due_barriers (record { rows_are = rows_are; good = good_rows }) is.has_team;
        keeps = is.keeps.each;
      });
} where
  rows_are : rows_of trace ≡ rows
  rows_are = good.rows_are ∙ take_all (length trace) rows (omega arith)
