-- Putting the logs of a run one after another.
use Rattle.std.proofs.Common.{◌≡◌, subst, refl, sym, ap, ◌∙◌, ℕ, suc, ◌-◌, ◌+◌, ◌<◌, List, [], ◌∷◌, ◌++◌, map, Option, Some, None, append_assoc, arith}
use Rattle.std.specs.Option.{option_map}
use Rattle.std.specs.List.{range_with_len}
use Rattle.std.proofs.lemmas.List.{map-append}
use Rattle.std.proofs.lemmas.List.FromFn.{map-range_with_len_more}
use Rattle.sw_base.specs.Environment.{Content, with_put}
use Rattle.race_model.specs.FirstBad.{row_of, rows_of}
use Rattle.race_model.specs.Row.{Row}
use Rattle.race_model.specs.Trace.{TaskLog, Trace}
use Rattle.sw_base.specs.Environment.{LeavesPrefix}
use Rattle.sw_base.specs.Names.{index_name}
use Rattle.sw_base.proofs.Lists.{range_parts}
use Rattle.log_format.specs.declared.format.TheConstants.{FORMAT}
use Rattle.race_model.specs.Row.{index_bytes}
use Rattle.generated_run.specs.Generated.{log_of_lane, logs_of_lanes}
use Rattle.log_index.proofs.Putting.{with_tasks-push}
use Rattle.log_index.specs.Puts.{LeavesTask, PutsLogs, PutsPart, index, logs, with_run, with_task, with_tasks}

told_more : (dir : List ℕ) (tasks : Trace) (task : TaskLog) (told : Option Content)
    → option_map (with_task dir task) (option_map (with_tasks dir tasks) told) ≡ option_map (with_tasks dir (tasks ++ task ∷ [])) told
told_more dir tasks task None = refl
told_more dir tasks task (Some content) = ap Some (sym (with_tasks-push dir tasks task content))

-- the tasks of one lane more
pub lanes_more : (rounds lane : ℕ) → logs_of_lanes rounds (lane + 1) ≡ logs_of_lanes rounds lane ++ log_of_lane rounds lane ∷ []
lanes_more rounds lane = map-range_with_len_more (log_of_lane rounds) 0 lane lane (omega arith)

pub put_more : (dir : List ℕ) (rounds lane : ℕ) (old before now : Option Content) → before ≡ option_map (with_tasks dir (logs_of_lanes rounds lane)) old
    → now ≡ option_map (with_task dir (log_of_lane rounds lane)) before → now ≡ option_map (with_tasks dir (logs_of_lanes rounds (lane + 1))) old
put_more dir rounds lane old before now so_far put =
    put ∙ ap (option_map (with_task dir (log_of_lane rounds lane))) so_far ∙ told_more dir (logs_of_lanes rounds lane) (log_of_lane rounds lane) old
    ∙ ap (λ (tasks : Trace). option_map (with_tasks dir tasks) old) (sym (lanes_more rounds lane))

pub rows_more : (rounds lane : ℕ) (old before now : List Row) → before ≡ old ++ rows_of (logs_of_lanes rounds lane) → now ≡ before ++ row_of (log_of_lane rounds lane) ∷ []
    → now ≡ old ++ rows_of (logs_of_lanes rounds (lane + 1))
rows_more rounds lane old before now so_far pushed =
    pushed ∙ ap (λ (rows : List Row). rows ++ row_of (log_of_lane rounds lane) ∷ []) so_far ∙ append_assoc old (rows_of (logs_of_lanes rounds lane)) (row_of (log_of_lane rounds lane) ∷ [])
    ∙ ap (λ (rows : List Row). old ++ rows) (sym (ap rows_of (lanes_more rounds lane) ∙ map-append row_of (logs_of_lanes rounds lane) (log_of_lane rounds lane ∷ [])))

-- those of the lanes after one
abbrev lanes_after : ℕ → ℕ → Trace
lanes_after rounds lane = map (log_of_lane rounds) (range_with_len (lane + 1) (7 - lane))

lanes_parts : (rounds lane : ℕ) → lane < 8 → logs_of_lanes rounds 8 ≡ logs_of_lanes rounds lane ++ log_of_lane rounds lane ∷ lanes_after rounds lane
lanes_parts rounds lane within =
    let many : ◌≡◌ {A = ℕ} 8 (lane + suc (7 - lane)) = omega arith in
    let here : 0 + lane ≡ lane = omega arith in
    ap (λ (n : ℕ). map (log_of_lane rounds) (range_with_len 0 n)) many
    ∙ ap (map (log_of_lane rounds)) (range_parts 0 lane (suc (7 - lane)) ∙ ap (λ (k : ℕ). range_with_len 0 lane ++ range_with_len k (suc (7 - lane))) here)
    ∙ map-append (log_of_lane rounds) (range_with_len 0 lane) (range_with_len lane (suc (7 - lane)))

-- the log of a lane was broken off
pub lane_broken : (dir : List ℕ) (rounds lane : ℕ) (old before now : Option Content) → lane < 8 → before ≡ option_map (with_tasks dir (logs_of_lanes rounds lane)) old
    → LeavesTask dir (log_of_lane rounds lane) before now → PutsLogs dir (logs_of_lanes rounds 8) old now
lane_broken dir rounds lane old before now within so_far leaves = record {
  first = logs_of_lanes rounds lane;
  next = log_of_lane rounds lane;
  later = lanes_after rounds lane;
  parts = lanes_parts rounds lane within;
  leaves = subst (λ (told : Option Content). LeavesTask dir (log_of_lane rounds lane) told now) so_far leaves;
}

told_none : (dir : List ℕ) (told : Option Content) → told ≡ option_map (with_tasks dir []) told
told_none dir None = refl
told_none dir (Some content) = refl

told_first : (dir : List ℕ) (task : TaskLog) (tasks : Trace) (told : Option Content)
    → option_map (with_tasks dir tasks) (option_map (with_task dir task) told) ≡ option_map (with_tasks dir (task ∷ tasks)) told
told_first dir task tasks None = refl
told_first dir task tasks (Some content) = refl

-- the first log was broken off
pub first_broken : (dir : List ℕ) (task : TaskLog) (tasks : Trace) (old now : Option Content) → LeavesTask dir task old now → PutsPart dir (task ∷ tasks) old now
first_broken dir task tasks old now leaves = logs (record {
  first = [];
  next = task;
  later = tasks;
  parts = refl;
  leaves = subst (λ (told : Option Content). LeavesTask dir task told now) (told_none dir old) leaves;
})

-- a later one was
pub later_broken : (dir : List ℕ) (task : TaskLog) (tasks : Trace) (old between now : Option Content) → between ≡ option_map (with_task dir task) old
    → PutsLogs dir tasks between now → PutsPart dir (task ∷ tasks) old now
later_broken dir task tasks old between now first puts = logs (record {
  first = task ∷ puts.first;
  next = puts.next;
  later = puts.later;
  parts = ap (λ (ts : Trace). task ∷ ts) puts.parts;
  leaves = subst (λ (told : Option Content). LeavesTask dir puts.next told now)
      (ap (option_map (with_tasks dir puts.first)) first ∙ told_first dir task puts.first old) puts.leaves;
})

-- all logs are there
pub all_put : (dir : List ℕ) (task : TaskLog) (tasks : Trace) (old between now : Option Content) → between ≡ option_map (with_task dir task) old
    → now ≡ option_map (with_tasks dir tasks) between → now ≡ option_map (with_tasks dir (task ∷ tasks)) old
all_put dir task tasks old between now first rest = rest ∙ ap (option_map (with_tasks dir tasks)) first ∙ told_first dir task tasks old

told_run : (dir : List ℕ) (trace : Trace) (told : Option Content)
    → option_map (with_put (index_name dir) (index_bytes FORMAT (rows_of trace))) (option_map (with_tasks dir trace) told) ≡ option_map (with_run dir trace) told
told_run dir trace None = refl
told_run dir trace (Some content) = refl

-- and the index
pub run_put : (dir : List ℕ) (trace : Trace) (old between now : Option Content) → between ≡ option_map (with_tasks dir trace) old
    → now ≡ option_map (with_put (index_name dir) (index_bytes FORMAT (rows_of trace))) between → now ≡ option_map (with_run dir trace) old
run_put dir trace old between now tasks put = put ∙ ap (option_map (with_put (index_name dir) (index_bytes FORMAT (rows_of trace)))) tasks ∙ told_run dir trace old

-- the index was broken off
pub index_broken : (dir : List ℕ) (trace : Trace) (old between now : Option Content) → between ≡ option_map (with_tasks dir trace) old
    → LeavesPrefix between now (index_name dir) (index_bytes FORMAT (rows_of trace)) → PutsPart dir trace old now
index_broken dir trace old between now tasks leaves =
    index (subst (λ (told : Option Content). LeavesPrefix told now (index_name dir) (index_bytes FORMAT (rows_of trace))) tasks leaves)
