-- What is true of every access of a few tasks, told record by record.
use Rattle.std.proofs.Common.{◌≡◌, ap, sym, ◌∙◌, subst, ◌⊎◌, inl, inr, ℕ, zero, suc, List, [], ◌∷◌, Some, arith}
use Rattle.std.specs.Prelude.{slice_get}
use Rattle.std.proofs.lemmas.Option.{same_Some, slice_get_within}
use Rattle.sw_base.specs.declared.path.Step.{Step}
use Rattle.log_format.specs.declared.record.Record.{Record}
use Rattle.log_format.specs.declared.record.Kind.{Kind}
use Rattle.log_format.specs.declared.record.Kind.TheVariants as kind
use Rattle.race_model.specs.ForkJoin.{IsTask}
use Rattle.race_model.specs.Race.{IsAccess}
use Rattle.race_model.specs.Trace.{TaskLog, Trace, Node, record_at, logs_of}
use Rattle.race_model.proofs.TraceLogs.{Found, find_task}

-- it is true, if the kind is one of an access
abbrev IfAccess : Kind → Type 0 → Type 0
IfAccess kind.Read P = P
IfAccess kind.Write P = P
IfAccess kind.Update P = P
IfAccess _ P = Unit {0}

abbrev OfRecords : (ℕ → Record → Type 0) → List Record → Type 0
OfRecords P [] = Unit {0}
OfRecords P (r ∷ records) = IfAccess r.kind (P 0 r) × OfRecords (λ i. P (suc i)) records

abbrev pub OfTasks : (List Step → ℕ → Record → Type 0) → Trace → Type 0
OfTasks P [] = Unit {0}
OfTasks P (task ∷ tasks) = OfRecords (P task.path) task.records × OfTasks P tasks

if_access : (k : Kind) (P : Type 0) → (k ≡ kind.Read) ⊎ ((k ≡ kind.Write) ⊎ (k ≡ kind.Update)) → IfAccess k P → P
if_access kind.Read P is p = p
if_access kind.Write P is p = p
if_access kind.Update P is p = p
if_access _ P (inl e) p = cc
if_access _ P (inr (inl e)) p = cc
if_access _ P (inr (inr e)) p = cc

of_records : (P : ℕ → Record → Type 0) (records : List Record) (i : ℕ) (r : Record) → OfRecords P records → slice_get records i ≡ Some r → IsAccess r → P i r
of_records P [] i r all found is = cc
of_records P (q ∷ records) zero r all found is = subst (P 0) (same_Some q r found) (if_access q.kind (P 0 q) (subst IsAccess (sym (same_Some q r found)) is) all.0)
of_records P (q ∷ records) (suc i) r all found is = of_records (λ j. P (suc j)) records i r all.1 found is

of_tasks : (P : List Step → ℕ → Record → Type 0) (tasks : Trace) (k i : ℕ) (task : TaskLog) (r : Record) → OfTasks P tasks → slice_get tasks k ≡ Some task → slice_get task.records i ≡ Some r → IsAccess r
    → P task.path i r
of_tasks P [] k i task r all at found is = cc
of_tasks P (t ∷ tasks) zero i task r all at found is =
    let same = same_Some t task at in
    subst (λ (path : List Step). P path i r) (ap (λ (x : TaskLog). x.path) same) (of_records (P t.path) t.records i r all.0 (ap (λ (x : TaskLog). slice_get x.records i) same ∙ found) is)
of_tasks P (t ∷ tasks) (suc k) i task r all at found is = of_tasks P tasks k i task r all.1 at found is

pub each_access : (P : List Step → ℕ → Record → Type 0) (tasks : Trace) → OfTasks P tasks → (x : Node) (r : Record) → record_at (logs_of tasks) x ≡ Some r → IsAccess r → P x.path x.index r
each_access P tasks all x r found is =
    let within = slice_get_within (logs_of tasks x.path) x.index r found in
    let some : IsTask (logs_of tasks) x.path = omega arith in
    let f : Found tasks x.path = find_task tasks x.path some in
    subst (λ (path : List Step). P path x.index r) f.path_is
    (of_tasks P tasks f.index x.index f.task r all f.found (ap (λ (rs : List Record). slice_get rs x.index) f.records_are ∙ found) is)
