-- A log that was read before its turn.
use Rattle.std.proofs.Common.{◌≡◌, ◌∙◌, ℕ, ◌+◌, ◌-◌, ◌*◌, ◌<◌, ◌≤◌, false, List, [], ◌∷◌, ◌++◌, length, take, Option, Some, refl, sym, ap, subst, inl, inr, arith, get_or}
use Rattle.std.specs.Prelude.{slice_get}
use Rattle.std.proofs.lemmas.Bool.{cases_order}
use Rattle.std.proofs.lemmas.List.{length-take-le, take_all}
use Rattle.std.proofs.lemmas.List.Sums.{count_by_more_no}
use Rattle.std.proofs.lemmas.Option.{same_Some, slice_get_within, get_or_from_slice_get}
use Rattle.sw_base.specs.declared.path.Step.{Step}
use Rattle.sw_base.specs.Environment.{Content}
use Rattle.sw_base.specs.Names.{log_name}
use Rattle.log_format.specs.declared.format.Format.{Format}
use Rattle.log_format.specs.declared.record.Kind.TheVariants.{End}
use Rattle.log_format.specs.declared.record.Record.{Record}
use Rattle.race_model.specs.declared.why.RecordWhy.{RecordWhy}
use Rattle.race_model.specs.declared.why.RecordWhy.TheVariants as log
use Rattle.race_model.specs.IndexFault.{AreRows, IsStep}
use Rattle.race_model.specs.Label.{Triple}
use Rattle.race_model.specs.LogFault.{LogTask, Breaks, ListsSpans, max_segments}
use Rattle.race_model.specs.Row.{Row}
use Rattle.race_model.specs.Trace.{Trace, barrier_count, is_barrier_kind}
use Rattle.race_laws.proofs.LogFaults.{with_team}
use Rattle.log_segment.specs.declared.segment.Segment.{Segment}
use Rattle.span_label.specs.Levels.{own_level}
use Rattle.log_segment.specs.Walking.{IsOwnAfter, WalksLog}
use Rattle.log_segment.proofs.OwnLevel.{own_last}
use Rattle.log_walk.specs.Ahead.{StandsAsRead, IsAhead}
use Rattle.log_walk.specs.Check.{ChecksLog, IsGoodLog, KeepsLogRules}
use Rattle.log_walk.specs.Rules.{log_task_of}
use Rattle.log_walk.specs.Stack.{IsStackAfter, WalksTask}
use Rattle.log_walk.specs.Unread.{OpensFile}
use Rattle.log_walk.specs.Walk.{IsTaskOf}
use Rattle.log_walk.specs.declared.ahead.Ahead.{Ahead}
use Rattle.log_walk.specs.declared.check.Checked.{Checked}
use Rattle.log_walk.specs.declared.stack.Stack.{Stack}
use Rattle.log_walk.specs.declared.task.Task.{Task}
use Rattle.log_walk.proofs.NextStack.{Pushed, walks_task}

-- where as many barriers are due as there are, the records keep the rules as if none were due
keeps_due : (task : LogTask) (due : Option ℕ) (records : List Record) → length records ≡ task.records → ((barriers : ℕ) → due ≡ Some barriers → barriers ≡ barrier_count records)
    → KeepsLogRules task records → KeepsLogRules (with_team task due) records
keeps_due task due records counted same keeps = record { each = by }
  where
    last : (k : ℕ) (r : Record) → slice_get records k ≡ Some r → r.kind ≡ End → length records ≡ k + 1
    last k r found ends =
        let within : k < length records = slice_get_within records k r found in
        let long : length (take k records) ≡ k = length-take-le k records (omega arith) in
        elim (cases_order (k + 1) (length records)) [
          | inl is ↦ sym is
          | inr either ↦ elim either [
            | inl less ↦ absurd (keeps.each k r found log.EndEarly (ends, omega (arith, less, long, counted)))
            | inr more ↦ absurd (omega (arith, more, within))
          ]
        ]

    all : (k : ℕ) (r : Record) → slice_get records k ≡ Some r → r.kind ≡ End → barrier_count (take k records) ≡ barrier_count records
    all k r found ends =
        let none : is_barrier_kind (get_or records k r).kind ≡ false = ap (λ (x : Record). is_barrier_kind x.kind) (get_or_from_slice_get records k r r found) ∙ ap is_barrier_kind ends in
        sym (count_by_more_no (λ (x : Record). is_barrier_kind x.kind) records k r (slice_get_within records k r found) none)
        ∙ ap (λ (rs : List Record). barrier_count rs) (take_all (k + 1) records (omega (arith, last k r found ends)))

    by : (k : ℕ) (r : Record) → slice_get records k ≡ Some r → (rule : RecordWhy) → Breaks (with_team task due) (take k records) r rule → ⊥
    by k r found log.BarrierCount (ends, (barriers, is, other)) = other (all k r found ends ∙ sym (same barriers is))
    by k r found rule breaks = keeps.each k r found rule breaks

-- and it is good from another number of segments on, where there is room for its own
good_due : {format : Format} (bytes : List ℕ) (task : LogTask) (due : Option ℕ) (before opened : ℕ) (records : List Record) (segments : ℕ) → ((barriers : ℕ) → due ≡ Some barriers → barriers ≡ barrier_count records)
    → opened + segments ≤ max_segments + before → IsGoodLog format bytes task before records segments → IsGoodLog format bytes (with_team task due) opened records (opened + (segments - before))
good_due bytes task due before opened records segments same room good = record {
  whole = good.whole;
  tabled = good.tabled;
  counted = good.counted;
  keeps = keeps_due task due records good.counted same good.keeps;
  sum = omega (arith, good.sum);
  limit = omega (arith, good.sum, room);
}

-- its segments come after others
walks_after : (path : List Step) (label : List Triple) (records : List Record) (forks : List (List Triple)) (old new : List Segment) → WalksLog path label records forks [] new → WalksLog path label records forks old (old ++ new)
walks_after path label records forks old new walks = record {
  segments = λ logs is is_label.
      (let adds = walks.segments logs is is_label in
      record { added = adds.added; gains = ap (λ (xs : List Segment). old ++ xs) adds.gains; are = adds.are });
  forked = walks.forked;
}

-- what is told of a log that is counted from another number of segments on
abbrev pub counted_on : ℕ → ℕ → Checked → Checked
counted_on opened before checked = record { forks = checked.forks; barriers = checked.barriers; segments = opened + (checked.segments - before) }

-- the next log, where it stands as it was read
pub ahead_walks : {format : Format} (told : Option Content) (dir : List ℕ) (rows : List Row) (stack now : Stack) (trace : Trace) (row : Row) (read : Ahead) (old new : List Segment) → AreRows rows → IsStackAfter format rows stack trace
    → slice_get rows stack.place ≡ Some row → IsAhead format told dir rows read → read.source.place ≡ stack.place → StandsAsRead trace row stack.segments read → new ≡ old ++ read.found.items
    → Pushed read.source.task.path stack now (counted_on stack.segments read.source.opened read.checked) read.checked.barriers → WalksTask format told dir rows now trace row old new
ahead_walks {format} told dir rows stack now trace row read old new good stands found is place agrees gains pushed =
    subst (λ (xs : List Segment). WalksTask format told dir rows now trace row old xs) (sym gains)
    (walks_task told dir is.bytes rows stack now trace row task read.source.label (counted_on stack.segments read.source.opened read.checked) read.checked.barriers old (old ++ read.found.items)
    good stands (ap (λ (n : ℕ). slice_get rows n) (sym stands.place) ∙ found) task_is checks
    (subst (λ (p : List Step). OpensFile told (log_name dir p) is.bytes) path is.opens)
    agrees.label (subst (λ (p : List Step). Pushed p stack now (counted_on stack.segments read.source.opened read.checked) read.checked.barriers) path pushed) (λ barriers due. sym (agrees.counted barriers due)) (λ due. refl))
  where
    same : is.source.row ≡ row
    same = same_Some is.source.row row (sym is.source.listed ∙ ap (λ (n : ℕ). slice_get rows n) place ∙ found)

    path : read.source.task.path ≡ row.path
    path = is.source.path ∙ ap (λ (r : Row). r.path) same

    task : Task
    task = record { path = read.source.task.path; records = read.source.task.records; spans = read.source.task.spans; due_barriers = agrees.due }

    task_is : IsTaskOf rows trace row (log_task_of task)
    task_is = record {
      path = path;
      records = is.source.records ∙ ap (λ (r : Row). r.records) same;
      spans = subst (λ (r : Row). ListsSpans rows r.path read.source.task.spans.items) same is.source.spans;
      team = agrees.team;
    }

    checks : ChecksLog format is.bytes task stack.segments read.source.label (counted_on stack.segments read.source.opened read.checked) old (old ++ read.found.items)
    checks =
        let was = is.checks in
        record {
          records = was.records;
          good = good_due _ (log_task_of read.source.task) agrees.due read.source.opened stack.segments was.records read.checked.segments (λ barriers due. agrees.counted barriers due ∙ was.barriers) agrees.limit was.good;
          barriers = was.barriers;
          whole = was.whole;
          walks = walks_after read.source.task.path read.source.label was.records read.checked.forks.items old read.found.items was.walks;
        }

-- the first label of a lane, by that of its fork
pub lane_own : (fork label : List Triple) (step : Step) → IsStep step → label ≡ fork ++ record { offset = step.lane; span = step.span; barrier = 0 } ∷ [] → IsOwnAfter label 1
lane_own fork label step is_step e x found =
    let last : Triple = record { offset = step.lane; span = step.span; barrier = 0 } in
    let same : last ≡ x = same_Some last x (sym (own_last fork last) ∙ (ap (λ (l : List Triple). own_level l) (sym e) ∙ found)) in
    let few : step.span ≤ 64 = is_step.span.limit in
    let in_team : step.lane < step.span = is_step.lane in
    subst (λ (t : Triple). (t.span ≤ 64) × (t.offset ≤ 64 * 1) × (t.barrier ≤ 1)) same (omega arith, omega arith, omega arith)
