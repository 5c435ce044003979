-- Kernels of two lanes: lane 0 writes a[0] = 1, and lane 1 copies an element to a[1]; both in critical sections of one mutex, or not.
-- array a i64 2 / mutex m / main { parallel 2 { / if tid == 0 { a[0] = 1 } else { a[1] = a[SOURCE] } / } }
use Rattle.std.proofs.Common.{◌≡◌, refl, ap, ℕ, ◌+◌, ◌*◌, ◌<◌, Bool, true, false, List, [], ◌∷◌, ◌++◌, pos, arith, rules}
use Rattle.kernel_syntax.specs.declared.syntax.Op.TheVariants.{Eq}
use Rattle.kernel_syntax.specs.Layout.{laid}
use Rattle.kernel_syntax.specs.Program.{Program}
use Rattle.kernel_syntax.specs.Tree as tree
use Rattle.kernel_syntax.specs.Tree.{Code, Done}
use Rattle.log_format.specs.declared.record.Record.{Record}
use Rattle.log_format.specs.declared.record.Kind.TheVariants as kind
use Rattle.log_format.specs.Fitting.{wrapped}
use Rattle.race_model.specs.Trace.{Trace}
use Rattle.kernel_model.specs.Lawful.{IsLawful}
use Rattle.kernel_model.specs.State as state
use Rattle.kernel_model.specs.State.{put}
use Rattle.kernel_model.specs.Trace.{run, draw, task}
use Rattle.kernel_model.specs.Value.{value, read}
use Rattle.step_history.specs.declared.item.Item.{Item}
use Rattle.step_history.specs.declared.item.Deed.TheVariants as deed
use Rattle.step_history.specs.History.{Name, item, HasHistory}
use Rattle.history_model.specs.Work.{Work}
use Rattle.history_model.specs.Did.{did}
use Rattle.certainty_model.specs.Certain.{IsFixed, IsRun, AreSame}
use Rattle.serial_model.proofs.Legal.{serial_history}
use Rattle.run_cases.specs.Examples.{HasTwoRuns}
use Rattle.run_cases.proofs.TwoLanes.{lanes_run, layout, access, lane_log, work, lane_path, listed, memory, same_steps}

abbrev within : Bool → Code → Code
within true code = tree.Critical 1 3 3 code Done
within false code = code

abbrev body : Bool → ℕ → Code
body locked source =
    tree.If (tree.Binary Eq 3 tree.Tid (tree.Number (pos 0))) (within locked (tree.Store 0 (tree.Number (pos 0)) (tree.Number (pos 1)) 3 0 Done))
    (within locked (tree.Store 0 (tree.Number (pos 1)) (tree.Load 0 (tree.Number (pos source)) 3 1) 3 2 Done)) Done

abbrev pub kernel : Bool → ℕ → Program
kernel locked source = record {
  arrays = laid (record { name = 97 ∷ []; width = 8; count = 2; base = 0; first = 0 } ∷ []);
  mutexes = (109 ∷ []) ∷ [];
  main = record { span = 1; line = 1; end = 5; body = tree.Parallel 2 2 4 (body locked source) Done };
  slots = 0;
}

abbrev pub fork_of : Bool → ℕ → state.Fork
fork_of locked source = record { team = record { span = 2; line = 2; end = 4; body = body locked source }; slots = [] }

pub is_fixed : (source : ℕ) → IsFixed (kernel false source).main.body
is_fixed source = ((tt, tt, tt), tt)

pub lawful : (locked : Bool) (source : ℕ) → source < 2 → IsLawful (kernel locked source)
lawful true source less = grind arith
lawful false source less = grind arith

-- ---- what the lanes log

abbrev pub first_accesses : List Record
first_accesses = access kind.Write 0 4096 1 ∷ []

-- lane 1 found this value at its source
abbrev pub second_accesses : ℕ → ℕ → List Record
second_accesses source found = access kind.Read 1 (4096 + 8 * source) found ∷ access kind.Write 2 4104 found ∷ []

abbrev pub first_log : Bool → List Record
first_log locked = lane_log locked first_accesses

abbrev pub second_log : Bool → ℕ → ℕ → List Record
second_log locked source found = lane_log locked (second_accesses source found)

abbrev pub work_of : Bool → ℕ → ℕ → Work
work_of locked source found = work (first_log locked) (second_log locked source found)

abbrev pub tasks_of : Bool → ℕ → ℕ → Trace
tasks_of locked source found = listed (first_log locked) (second_log locked source found)

-- ---- histories

abbrev one : Name
one = 0 ∷ []

abbrev two : Name
two = 1 ∷ []

-- the steps of a lane, in a critical section or not
abbrev lane_steps : Bool → Name → List Item → List Item
lane_steps true name items = item name (deed.Lock 1) ∷ items ++ item name (deed.Unlock 1) ∷ []
lane_steps false name items = items

-- lane 1 comes first
abbrev second_first : Bool → ℕ → List Item
second_first locked source =
    item [] (deed.Split 0 0 2) ∷ item [] (deed.Split 1 1 2) ∷ lane_steps locked two (item two (deed.Read (layout.word (4096 + 8 * source)) 0) ∷ item two (deed.Write 1 0) ∷ [])
    ++ lane_steps locked one (item one (deed.Write 0 1) ∷ []) ++ item [] (deed.Home 0) ∷ item [] (deed.Home 1) ∷ []

abbrev in_turn : Bool → ℕ → ℕ → List Item
in_turn locked source found = did layout.word [] 0 (work_of locked source found)

otherwise : (locked : Bool) (source : ℕ) → HasHistory (in_turn locked source 0) (memory 0)
otherwise true source = record {
  log = second_first true source;
  legal = search rules;
  whole = same_steps (second_first true source) (in_turn true source 0) refl refl refl (λ name a b c. simp (a, b, c));
  ends = search rules;
}
otherwise false source = record {
  log = second_first false source;
  legal = search rules;
  whole = same_steps (second_first false source) (in_turn false source 0) refl refl refl (λ name a b c. simp (a, b, c));
  ends = search rules;
}

-- or lane 0 does, which is the serial order
own_serially : HasHistory (in_turn false 1 0) (memory 0)
own_serially = serial_history layout.word (work_of false 1 0) (memory 0) (search rules) (search rules)

copy_serially : (locked : Bool) → HasHistory (in_turn locked 0 1) (memory 1)
copy_serially true = serial_history layout.word (work_of true 0 1) (memory 1) (search rules) (search rules)
copy_serially false = serial_history layout.word (work_of false 0 1) (memory 1) (search rules) (search rules)

not_same : (m n : ℕ) → m ≡ n → m < n → ⊥
not_same m n e less = omega arith

-- ---- runs

pub own_run : IsRun (kernel false 1) (tasks_of false 1 0)
unfolding run value put read draw task wrapped
own_run = lanes_run (kernel false 1) (fork_of false 1) false first_accesses (second_accesses 1 0) 0 refl refl (search rules) (search rules) (search rules) (search rules) (search rules) refl own_serially

one_run : (locked : Bool) → IsRun (kernel locked 0) (tasks_of locked 0 1)
unfolding run value put read draw task wrapped
one_run true = lanes_run (kernel true 0) (fork_of true 0) true first_accesses (second_accesses 0 1) 1 refl refl (search rules) (search rules) (search rules) (search rules) (search rules) refl (copy_serially true)
one_run false = lanes_run (kernel false 0) (fork_of false 0) false first_accesses (second_accesses 0 1) 1 refl refl (search rules) (search rules) (search rules) (search rules) (search rules) refl (copy_serially false)

other_run : (locked : Bool) → IsRun (kernel locked 0) (tasks_of locked 0 0)
unfolding run value put read draw task wrapped
other_run true = lanes_run (kernel true 0) (fork_of true 0) true first_accesses (second_accesses 0 0) 0 refl refl (search rules) (search rules) (search rules) (search rules) (search rules) refl (otherwise true 0)
other_run false = lanes_run (kernel false 0) (fork_of false 0) false first_accesses (second_accesses 0 0) 0 refl refl (search rules) (search rules) (search rules) (search rules) (search rules) refl (otherwise false 0)

-- the values that a log tells, all together
abbrev values : List Record → ℕ
values [] = 0
values (r ∷ records) = r.value + values records

pub two_runs : (locked : Bool) → HasTwoRuns (kernel locked 0) (tasks_of locked 0 1) (tasks_of locked 0 0)
two_runs locked = record {
  lawful = lawful locked 0 (omega arith);
  one_runs = one_run locked;
  other_runs = other_run locked;
  differ = differ locked;
}
  where
    differ : (l : Bool) → AreSame (kernel l 0) (tasks_of l 0 1) (tasks_of l 0 0) → ⊥
    differ true same = not_same 0 2 (ap values (same.logs (lane_path 1))) (omega arith)
    differ false same = not_same 0 2 (ap values (same.logs (lane_path 1))) (omega arith)
