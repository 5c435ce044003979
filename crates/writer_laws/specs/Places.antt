-- Where a record stands, as far as order goes: its task, and the barriers that the task had passed. Its number in the log doesn't matter.
use Rattle.std.specs.Prelude.{◌≡◌, ℕ, ◌+◌, cond, if◌then◌else◌, List, [], ◌∷◌}
use Rattle.sw_base.specs.declared.path.Step.{Step}
use Rattle.log_format.specs.declared.record.Record.{Record}
use Rattle.race_model.specs.Trace.{Logs, Node, is_region_kind, is_barrier_kind, barriers_before}

-- a region that a log forks: its span, and how many barriers come before it
pub record ForkPlace : Type 0 where
  pub span : ℕ
  pub barriers : ℕ

abbrev pub with_fork : Record → ℕ → List ForkPlace → List ForkPlace
with_fork r barriers forks = if is_region_kind r.kind then record { span = r.value; barriers = barriers } ∷ forks else forks

abbrev pub forks_from : ℕ → List Record → List ForkPlace
forks_from barriers [] = []
forks_from barriers (r ∷ records) = with_fork r barriers (forks_from (barriers + cond (is_barrier_kind r.kind) 1 0) records)

-- the regions that a log forks, in order
abbrev pub forks : List Record → List ForkPlace
forks records = forks_from 0 records

-- each task forks the same regions in the two runs, each after as many barriers
abbrev pub ForkAlike : Logs → Logs → Type 0
ForkAlike logs others = (path : List Step) → forks (logs path) ≡ forks (others path)

-- the records are of one task, and it had passed as many barriers
pub record IsAtPlace (logs others : Logs) (x v : Node) : Type 0 where
  pub same_task : x.path ≡ v.path
  pub as_many : barriers_before logs x ≡ barriers_before others v
