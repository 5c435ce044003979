-- The trace of a folder that is bad nowhere keeps the rules.
use Rattle.std.proofs.Common.{◌≡◌, ◌⊎◌, inl, inr, ℕ, zero, suc, ◌<◌, List, [], ◌∷◌, ◌++◌, Option, Some, None, refl, sym, ap, subst, ◌∙◌, arith}
use Rattle.std.specs.Prelude.{Contains, map, All}
use Rattle.std.proofs.lemmas.List.{same_from_push}
use Rattle.std.proofs.lemmas.List.Elements.{All-contains, Contains-push}
use Rattle.std.proofs.lemmas.Option.{same_Some, none-some}
use Rattle.sw_base.specs.declared.path.Step.{Step}
use Rattle.sw_base.specs.Environment.{Files}
use Rattle.log_format.specs.declared.format.Format.{Format}
use Rattle.race_model.specs.Row.{Row}
use Rattle.race_model.specs.Listing.{lane_of}
use Rattle.race_model.specs.Trace.{TaskLog, Trace, logs_of, barrier_count}
use Rattle.race_model.specs.IndexFault.{IsStep}
use Rattle.race_model.specs.LogFault.{IsWholeLog, HasTeamBarriers}
use Rattle.race_model.specs.FirstBad.{HoldsTrace, rows_of}
use Rattle.race_model.specs.WellFormed.{IsWellFormed}
use Rattle.race_model.specs.KeepsRules.{KnowsTeam, TaskKeepsRules, KeepsRules}
use Rattle.race_laws.proofs.LabelPlace.{has_last, HasLast, not_both_empty}
use Rattle.race_laws.proofs.Listed.{beside_listed, spans_listed}
use Rattle.race_model.proofs.TraceLogs.{all_at}
use Rattle.race_laws.proofs.HeldLogs.{held_log}
use Rattle.race_laws.proofs.FolderRules.{kept, lists_spans}
use Rattle.race_laws.proofs.FolderForkJoin.{path_at, row_all, all_by, has_begun}

-- what a task's team is known to have passed, and where that is read
record Team (format : Format) (files : Files) (dir : List ℕ) (trace : Trace) (path : List Step) : Type 0 where
  team : Option ℕ
  knows : KnowsTeam trace path team
  has : (barriers : ℕ) → team ≡ Some barriers → HasTeamBarriers format files dir path barriers

module _ {format : Format} (files : Files) (dir : List ℕ) (trace : Trace) (holds : HoldsTrace format files dir trace) (good : IsWellFormed format files dir) where
  no_team : (path : List Step) → ((above : List Step) (step : Step) → path ≡ above ++ step ∷ [] → 0 < step.lane → ⊥) → Team format files dir trace path
  no_team path never = record {
    team = None;
    knows = λ above step e from. absurd (never above step e from);
    has = λ barriers e. absurd (none-some barriers e);
  }

  lane_team : (path above : List Step) (step : Step) → path ≡ above ++ step ∷ [] → All IsStep path → Contains (map (λ (row : Row). row.path) (rows_of trace)) path → (lane : ℕ) → step.lane ≡ lane → Team format files dir trace path
  lane_team path above step e steps listed zero is_zero =
      no_team path (λ other last same from. let both = same_from_push above other step last (sym e ∙ same) in
      let lanes : step.lane ≡ last.lane = ap (λ (s : Step). s.lane) both.1 in omega arith)
  lane_team path above step e steps listed (suc n) is_more =
      let is_step = All-contains IsStep (above ++ step ∷ []) step (subst (λ (p : List Step). All IsStep p) e steps) (Contains-push above step) in
      let first = beside_listed (map (λ (row : Row). row.path) (rows_of trace)) above step.region step.lane 0 step.span holds.index.rows_are.lists (subst (λ (p : List Step). Contains (map (λ (row : Row). row.path) (rows_of trace)) p) e listed) is_step.span.some in
      record {
        team = Some (barrier_count (logs_of trace (lane_of above step.region 0 step.span)));
        knows = λ other last same from. ap (λ (o : List Step × Step). Some (barrier_count (logs_of trace (lane_of o.0 o.1.region 0 o.1.span))))
            (let both = same_from_push above other step last (sym e ∙ same) in λ i. (both.0 i, both.1 i));
        has = λ barriers same. record {
          above = above;
          step = step;
          path_is = e;
          from_one = omega arith;
          records = logs_of trace (lane_of above step.region 0 step.span);
          log_of_first = held_log files dir trace holds (lane_of above step.region 0 step.span) (has_begun trace holds.index.rows_are (lane_of above step.region 0 step.span) first);
          counted = sym (same_Some _ barriers same);
        };
      }

  team_of : (path : List Step) → All IsStep path → Contains (map (λ (row : Row). row.path) (rows_of trace)) path → (path ≡ []) ⊎ HasLast path → Team format files dir trace path
  team_of path steps listed (inl e) = no_team path (λ above step same from. not_both_empty path above step e same)
  team_of path steps listed (inr l) = lane_team path l.prefix l.last l.parts steps listed l.last.lane refl

  pub keeps_rules : KeepsRules format trace
  keeps_rules = record {
    rows = holds.index.rows_are;
    tasks = all_by (TaskKeepsRules format trace) trace (λ index task found.
        let listed = path_at trace index task found in
        let has = spans_listed (map (λ (row : Row). row.path) (rows_of trace)) task.path holds.index.rows_are.lists listed in
        let row = row_all trace index task holds.index.rows_are.each found in
        let team = team_of task.path row.steps listed (has_last task.path) in
        let log = all_at (λ (t : TaskLog). IsWholeLog format files dir t.path t.records) trace index task holds.logs found in
        record {
          tabled = log.tabled;
          spans = has.spans;
          has_spans = lists_spans (rows_of trace) task.path has.spans has.are;
          due_barriers = team.team;
          knows_team = team.knows;
          keeps = kept files dir trace holds good index task found has.spans has.are team.team team.has;
        });
  }
