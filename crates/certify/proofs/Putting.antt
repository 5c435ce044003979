-- Logs that are put one after another.
use Rattle.std.proofs.Common.{◌≡◌, refl, sym, ap, ◌∙◌, ℕ, List, [], ◌∷◌, ◌++◌, map, append_assoc, Option, Some, None}
use Rattle.std.specs.Option.{option_map}
use Rattle.std.proofs.lemmas.List.{append-nil, map-append}
use Rattle.sw_base.specs.Environment.{Content}
use Rattle.log_index.specs.Puts.{with_tasks}
use Rattle.race_model.specs.FirstBad.{rows_of}
use Rattle.race_model.specs.Row.{Row}
use Rattle.race_model.specs.Trace.{TaskLog as Task, Trace}
use Rattle.serial_team.specs.Members.{WholeLog, whole_log}
use Rattle.serial_team.specs.declared.member.TaskLog.{TaskLog}
use Rattle.serial_laws.specs.SerialRuns.{spelled}
use Rattle.certify.specs.Holding.{row_of_log, with_whole_log, with_logs}

with_logs-push : (dir : List ℕ) (logs : List WholeLog) (log : WholeLog) (content : Content) → with_logs dir (logs ++ log ∷ []) content ≡ with_whole_log dir log (with_logs dir logs content)
with_logs-push dir [] log content = refl
with_logs-push dir (l ∷ logs) log content = with_logs-push dir logs log (with_whole_log dir l content)

-- one more
pub put_more : (dir : List ℕ) (logs : List TaskLog) (log : TaskLog) (old before now : Option Content) → before ≡ option_map (with_logs dir (map whole_log logs)) old
    → now ≡ option_map (with_whole_log dir (whole_log log)) before → now ≡ option_map (with_logs dir (map whole_log (logs ++ log ∷ []))) old
put_more dir logs log old before now so_far put =
    put ∙ (ap (option_map (with_whole_log dir (whole_log log))) so_far ∙ (both old ∙ ap (λ (ls : List WholeLog). option_map (with_logs dir ls) old) (sym (map-append whole_log logs (log ∷ [])))))
  where
    both : (told : Option Content) → option_map (with_whole_log dir (whole_log log)) (option_map (with_logs dir (map whole_log logs)) told) ≡ option_map (with_logs dir (map whole_log logs ++ whole_log log ∷ [])) told
    both None = refl
    both (Some content) = ap (λ (c : Content). Some c) (sym (with_logs-push dir (map whole_log logs) (whole_log log) content))

pub rows_more : (old before now : List Row) (logs : List TaskLog) (log : TaskLog) → before ≡ old ++ map row_of_log (map whole_log logs) → now ≡ before ++ row_of_log (whole_log log) ∷ []
    → now ≡ old ++ map row_of_log (map whole_log (logs ++ log ∷ []))
rows_more old before now logs log so_far pushed =
    pushed ∙ (ap (λ (rs : List Row). rs ++ row_of_log (whole_log log) ∷ []) so_far ∙ (append_assoc old (map row_of_log (map whole_log logs)) (row_of_log (whole_log log) ∷ [])
    ∙ ap (λ (rs : List Row). old ++ rs) (sym (ap (map row_of_log) (map-append whole_log logs (log ∷ [])) ∙ map-append row_of_log (map whole_log logs) (whole_log log ∷ [])))))

-- logs that spell the records of tasks are put as those of the tasks are
pub put_tasks : (dir : List ℕ) (tasks : Trace) (content : Content) → with_logs dir (map spelled tasks) content ≡ with_tasks dir tasks content
put_tasks dir [] content = refl
put_tasks dir (task ∷ tasks) content = put_tasks dir tasks (with_whole_log dir (spelled task) content)

pub rows_spelled : (tasks : Trace) → map row_of_log (map spelled tasks) ≡ rows_of tasks
rows_spelled [] = refl
rows_spelled (task ∷ tasks) = ap (λ (rs : List Row). row_of_log (spelled task) ∷ rs) (rows_spelled tasks)
