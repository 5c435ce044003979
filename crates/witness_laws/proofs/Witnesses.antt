-- The same records are found in traces that differ in values and sites alone.
use Rattle.std.proofs.Common.{◌≡◌, ◌⊎◌, ◌↔◌, ℕ, zero, suc, ◌+◌, ◌<◌, ◌≤◌, List, [], ◌∷◌, Option, Some, None, refl, sym, ap, ap₂, subst, ◌∙◌}
use Rattle.std.specs.Prelude.{slice_get, min, max}
use Rattle.sw_base.specs.declared.path.Step.{Step}
use Rattle.log_format.specs.declared.record.Record.{Record}
use Rattle.race_model.specs.Trace.{TaskLog, Trace, Logs, Node, logs_of}
use Rattle.race_model.specs.Race.{IsRace, HasByte}
use Rattle.race_model.specs.ForkJoin.{IsForkJoin}
use Rattle.explain.specs.Least.{RacesOn, IsWitness, IsLeastWitness, FindsLeast}
use Rattle.explain.specs.Witness.{IsInLog, NamesRecord, IsLeastByte, IsConfirmed}
use Rattle.explain.specs.declared.explaining.RacePair.{RacePair}
use Rattle.writer_laws.specs.Values.{IsSameButValue, DifferInValues, TasksDifferInValues}
use Rattle.writer_laws.proofs.Valued.{Beside, beside, same_back, tasks_back, logs_differ, values_keep_races, values_keep_run}

in_log : (trace other : Trace) → TasksDifferInValues trace other → (place : ℕ) (x : Node) → IsInLog trace place x → IsInLog other place x
in_log trace other same place x is =
    let t = task_at trace other same place is.task is.listed in
    record { task = t.0; listed = t.1; path_is = is.path_is ∙ t.2 }
  where
    task_at : (trace other : Trace) → TasksDifferInValues trace other → (place : ℕ) (task : TaskLog) → slice_get trace place ≡ Some task → (u : TaskLog) × (slice_get other place ≡ Some u) × (task.path ≡ u.path)
    task_at [] other same place task found = cc
    task_at (t ∷ trace) [] same place task found = absurd same
    task_at (t ∷ trace) (u ∷ other) same zero task found =
        let is : t ≡ task = cc in
        (u, refl, ap (λ (w : TaskLog). w.path) (sym is) ∙ same.0)
    task_at (t ∷ trace) (u ∷ other) same (suc place) task found = task_at trace other same.2 place task found

named : (trace other : Trace) → TasksDifferInValues trace other → (row number : ℕ) (x : Node) → NamesRecord trace row number x → NamesRecord other row number x
named trace other same row number x n = record { place = n.place; row_is = n.row_is; stands = in_log trace other same n.place x n.stands; number_is = n.number_is }

has_byte : (r s : Record) (byte : ℕ) → IsSameButValue r s → HasByte r byte → HasByte s byte
has_byte r s byte e has = record {
  from_start = subst (λ (a : ℕ). a ≤ byte) e.addr has.from_start;
  to_end = subst (λ (n : ℕ). byte < n) (ap₂ (λ (a n : ℕ). a + n) e.addr e.size) has.to_end;
}

least_byte : (r s q t : Record) (byte : ℕ) → IsSameButValue r q → IsSameButValue s t → IsLeastByte r s byte → IsLeastByte q t byte
least_byte r s q t byte mine yours l = record {
  left = has_byte r q byte mine l.left;
  right = has_byte s t byte yours l.right;
  least = λ other one two. l.least other (has_byte q r other (same_back r q mine) one) (has_byte t s other (same_back s t yours) two);
}

-- the two records of a race, in the other trace
record RaceToo (others : Logs) (x y : Node) (r s : Record) : Type 0 where
  q : Record
  t : Record
  race : IsRace others x y q t
  mine : IsSameButValue r q
  yours : IsSameButValue s t

race_too : (logs others : Logs) → IsForkJoin logs → DifferInValues logs others → (x y : Node) (r s : Record) → IsRace logs x y r s → RaceToo others x y r s
race_too logs others tree same x y r s race =
    let b = beside (logs x.path) (others x.path) (same x.path) x.index r race.left in
    let c = beside (logs y.path) (others y.path) (same y.path) y.index s race.right in
    record { q = b.event; t = c.event; race = values_keep_races logs others tree same x y r s b.event c.event race b.found c.found; mine = b.same; yours = c.same }

races_on : (logs others : Logs) → IsForkJoin logs → DifferInValues logs others → (lines : ℕ × ℕ) (x y : Node) (byte : ℕ) → RacesOn logs lines x y byte → RacesOn others lines x y byte
races_on logs others tree same lines x y byte o =
    let too = race_too logs others tree same x y o.r o.s o.race in
    record {
      r = too.q;
      s = too.t;
      race = too.race;
      lines_are = o.lines_are ∙ ap₂ (λ (a b : ℕ). (min a b, max a b)) too.mine.line too.yours.line;
      least = least_byte o.r o.s too.q too.t byte too.mine too.yours o.least;
    }

module _ (trace other : Trace) (tree : IsForkJoin (logs_of trace)) (same : TasksDifferInValues trace other) where
  confirmed_too : (a i b j byte : ℕ) → IsConfirmed trace a i b j byte → IsConfirmed other a i b j byte
  confirmed_too a i b j byte c =
      let too = race_too (logs_of trace) (logs_of other) tree (logs_differ trace other same) c.x c.y c.r c.s c.race in
      record {
        x = c.x;
        y = c.y;
        r = too.q;
        s = too.t;
        left = named trace other same a i c.x c.left;
        right = named trace other same b j c.y c.right;
        race = too.race;
        least = least_byte c.r c.s too.q too.t byte too.mine too.yours c.least;
      }

  witness_too : (lines : ℕ × ℕ) (a i b j byte : ℕ) → IsWitness trace lines a i b j byte → IsWitness other lines a i b j byte
  witness_too lines a i b j byte w = record {
    x = w.x;
    y = w.y;
    left = named trace other same a i w.x w.left;
    right = named trace other same b j w.y w.right;
    in_order = w.in_order;
    races = races_on (logs_of trace) (logs_of other) tree (logs_differ trace other same) lines w.x w.y byte w.races;
  }

other_run : (trace other : Trace) → IsForkJoin (logs_of trace) → TasksDifferInValues trace other → IsForkJoin (logs_of other)
other_run trace other tree same = values_keep_run (logs_of trace) (logs_of other) tree (logs_differ trace other same)

least_too : (trace other : Trace) → IsForkJoin (logs_of trace) → TasksDifferInValues trace other → (lines : ℕ × ℕ) (found : Option RacePair) → FindsLeast trace lines found → FindsLeast other lines found
least_too trace other tree same lines None none = λ a i b j byte w. none a i b j byte (witness_too other trace (other_run trace other tree same) (tasks_back trace other same) lines a i b j byte w)
least_too trace other tree same lines (Some found) l = record {
  witness = witness_too trace other tree same lines found.first_row found.first found.second_row found.second found.byte l.witness;
  first_least = λ a i b j byte w. l.first_least a i b j byte (witness_too other trace (other_run trace other tree same) (tasks_back trace other same) lines a i b j byte w);
  second_least = λ b j byte w. l.second_least b j byte (witness_too other trace (other_run trace other tree same) (tasks_back trace other same) lines found.first_row found.first b j byte w);
}

pub confirmed_both : (trace other : Trace) (a i b j byte : ℕ) → IsForkJoin (logs_of trace) → TasksDifferInValues trace other → IsConfirmed trace a i b j byte ↔ IsConfirmed other a i b j byte
confirmed_both trace other a i b j byte tree same = (
  confirmed_too trace other tree same a i b j byte,
  confirmed_too other trace (other_run trace other tree same) (tasks_back trace other same) a i b j byte,
)

pub least_both : (trace other : Trace) (lines : ℕ × ℕ) (found : Option RacePair) → IsForkJoin (logs_of trace) → TasksDifferInValues trace other → FindsLeast trace lines found ↔ FindsLeast other lines found
least_both trace other lines found tree same = (
  least_too trace other tree same lines found,
  least_too other trace (other_run trace other tree same) (tasks_back trace other same) lines found,
)
