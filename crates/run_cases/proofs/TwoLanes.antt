-- A whole run of a kernel that forks one region of two lanes, told by what each lane puts.
use Rattle.std.proofs.Common.{rules, ◌≡◌, refl, ap, sym, ◌∙◌, subst, inl, inr, ℕ, zero, suc, ◌+◌, ◌-◌, ◌*◌, ◌/◌, ◌<◌, Bool, true, false, List, [], ◌∷◌, ◌++◌, Some, arith, All}
use Rattle.std.specs.Prelude.{slice_get, get_or, count_by, ◌==◌}
use Rattle.std.specs.List.{flat_map}
use Rattle.std.proofs.lemmas.List.{append-nil}
use Rattle.std.proofs.lemmas.List.Elements.{All-nil, All-cons}
use Rattle.kernel_syntax.specs.Program.{Program}
use Rattle.log_format.specs.declared.record.Record.{Record}
use Rattle.log_format.specs.declared.record.Kind.{Kind}
use Rattle.log_format.specs.declared.record.Kind.TheVariants as kind
use Rattle.sw_base.specs.declared.path.Step.{Step}
use Rattle.race_model.specs.Draws.{times_drawn, closed_loops, draws_by_loop, loop_draws}
use Rattle.race_model.specs.Trace.{Trace}
use Rattle.kernel_model.specs.State as state
use Rattle.kernel_model.specs.State.{event}
use Rattle.kernel_model.specs.Trace.{Start, TaskTrace, Ended}
use Rattle.kernel_model.specs.Folder.{own_trace, root_start}
use Rattle.step_history.specs.declared.item.Item.{Item}
use Rattle.step_history.specs.History.{Name, name_eq, of, HasHistory}
use Rattle.step_history.proofs.Names.{same_name}
use Rattle.history_model.specs.Work.{Work, Rest, Put, Fork, Phases, NoPhase, Phase, Beside, NoWork, logged, work_records, work_regions, lane_works}
use Rattle.history_model.specs.Did.{did}
use Rattle.history_model.specs.Joined.{IsJoined, LastIsEnd}
use Rattle.history_model.specs.Sound.{WordLayout, IsSound, AreFitted}
use Rattle.execution_model.specs.Execution.{DrewSome}
use Rattle.execution_model.specs.Runs.{RunsTask, RunsRegions, put_records, works_log, lane_begin, logged_tasks}
use Rattle.execution_laws.specs.Nesting.{NestsWithin}
use Rattle.certainty_model.specs.Certain.{IsRun}
use Rattle.serial_model.specs.Serial.{IsWorkOf}
use Rattle.serial_model.proofs.SerialRuns.{work_runs}

-- one array of two elements of eight bytes
abbrev pub layout : WordLayout
layout = record { word = λ addr. (addr - 4096) / 8; address = λ w. 4096 + 8 * w; width = λ w. 8 }

abbrev pub access : Kind → ℕ → ℕ → ℕ → Record
access kd site addr value = record { kind = kd; size = 8; site = site; line = 3; addr = addr; value = value }

-- a lane makes these accesses, within a critical section or not
abbrev pub lane_log : Bool → List Record → List Record
lane_log true accesses = event kind.Lock 3 1 0 ∷ accesses ++ event kind.Unlock 3 1 0 ∷ event kind.End 4 0 0 ∷ []
lane_log false accesses = accesses ++ event kind.End 4 0 0 ∷ []

abbrev pub puts : List Record → Work
puts [] = Rest
puts (r ∷ records) = Put r (puts records)

abbrev phases : List Record → List Record → Phases
phases ones twos = Phase (Beside (puts ones) (Beside (puts twos) NoWork)) NoPhase

abbrev pub work : List Record → List Record → Work
work ones twos = Fork 2 2 (phases ones twos) (Put (event kind.End 5 0 0) Rest)

abbrev pub root_log : List Record
root_log = event kind.Region 2 0 2 ∷ event kind.End 5 0 0 ∷ []

abbrev pub lane_path : ℕ → List Step
lane_path lane = record { region = 0; lane = lane; span = 2 } ∷ []

-- the tasks of the run
abbrev pub listed : List Record → List Record → Trace
listed ones twos = record { path = []; records = root_log } ∷ record { path = lane_path 0; records = ones } ∷ record { path = lane_path 1; records = twos } ∷ []

-- the words at the end: lane 1 stored this value
abbrev pub memory : ℕ → List ℕ
memory found = 1 ∷ found ∷ []

-- ---- lanes

more_ends : (r : Record) (records : List Record) → LastIsEnd records → LastIsEnd (r ∷ records)
more_ends r records e = record { prefix = r ∷ e.prefix; last = e.last; parts = ap (λ (rs : List Record). r ∷ rs) e.parts; ends = e.ends }

puts_end : (records rest : List Record) → LastIsEnd (work_records (puts rest)) → LastIsEnd (work_records (puts (records ++ rest)))
puts_end [] rest e = e
puts_end (r ∷ records) rest e = more_ends (logged r) (work_records (puts (records ++ rest))) (puts_end records rest e)

lane_ends : (locked : Bool) (accesses : List Record) → LastIsEnd (work_records (puts (lane_log locked accesses)))
lane_ends true accesses = puts_end (event kind.Lock 3 1 0 ∷ accesses) (event kind.Unlock 3 1 0 ∷ event kind.End 4 0 0 ∷ []) (record { prefix = event kind.Unlock 3 1 0 ∷ []; last = event kind.End 4 0 0; parts = refl; ends = refl })
lane_ends false accesses = puts_end accesses (event kind.End 4 0 0 ∷ []) (record { prefix = []; last = event kind.End 4 0 0; parts = refl; ends = refl })

puts_joined : (records : List Record) → IsJoined (puts records)
puts_joined [] = tt
puts_joined (r ∷ records) = puts_joined records

-- ---- draws

abbrev pub no_loop : List (List ℕ)
no_loop = [] ∷ []

abbrev no_number : List ℕ
no_number = []

-- a team of which no lane draws
none_drawn : (first second : List Record) (loop : ℕ) → draws_by_loop first ≡ no_loop → draws_by_loop second ≡ no_loop → closed_loops first ≡ [] → closed_loops second ≡ []
    → DrewSome (first ∷ second ∷ []) loop
none_drawn first second loop one two none nothing = record { limit = 0; drew = record { once = λ number less. absurd (omega arith); no_other = λ number more. undrawn number; closed = all } }
  where
    empty : (l : ℕ) → get_or no_loop l [] ≡ []
    empty zero = refl
    empty (suc l) = refl

    undrawn : (number : ℕ) → times_drawn loop (first ∷ second ∷ []) number ≡ 0
    undrawn number =
        ap (λ (ds : List (List ℕ)). count_by (λ (n : ℕ). n == number) (get_or ds loop [] ++ (loop_draws loop second ++ []))) one
        ∙ (ap (λ (ds : List (List ℕ)). count_by (λ (n : ℕ). n == number) (get_or no_loop loop [] ++ (get_or ds loop [] ++ []))) two
        ∙ ap (λ (ns : List ℕ). count_by (λ (n : ℕ). n == number) (ns ++ (ns ++ []))) (empty loop))

    closes : (records : List Record) → closed_loops records ≡ [] → (m : ℕ) → slice_get (closed_loops records) loop ≡ Some m → m ≡ 0
    closes records nowhere m found = let e : slice_get no_number loop ≡ Some m = sym (ap (λ (ns : List ℕ). slice_get ns loop) nowhere) ∙ found in cc

    all : All (λ (records : List Record). (m : ℕ) → slice_get (closed_loops records) loop ≡ Some m → m ≡ 0) (first ∷ second ∷ [])
    all =
        let P : List Record → Type 0 = λ records. (m : ℕ) → slice_get (closed_loops records) loop ≡ Some m → m ≡ 0 in
        All-cons P first (second ∷ []) (closes first none) (All-cons P second [] (closes second nothing) (All-nil P))

-- ---- the run

abbrev pub ends_with : List Record → List state.Fork → TaskTrace
ends_with records forks = record { records = records; forks = forks; end = Ended }

-- these are the records of a lane that starts so: it forks nothing, and each value that it reads fits its element
pub record IsLaneLog (program : Program) (start : Start) (records : List Record) : Type 0 where
  pub traced : own_trace program start records ≡ ends_with records []
  pub logged : flat_map work_records (puts records ∷ []) ≡ records
  pub put : put_records records ≡ records
  pub alone : flat_map work_regions (puts records ∷ []) ≡ []
  pub undrawn : draws_by_loop records ≡ no_loop
  pub unclosed : closed_loops records ≡ []

module _ (program : Program) where
  works_are : (start : Start) (records : List Record) → IsLaneLog program start records → works_log (puts records ∷ []) ≡ records
  works_are start records l = ap put_records l.logged ∙ l.put

  lane_runs : (start : Start) (records : List Record) → IsLaneLog program start records → RunsTask program start (puts records ∷ [])
  lane_runs start records l =
      RunsTask.runs start (puts records ∷ []) [] []
      (record { rest = []; begins = subst (λ (rs : List Record). (own_trace program start rs).records ≡ rs ++ []) (sym is) (ap (λ (t : TaskTrace). t.records) l.traced ∙ sym (append-nil records)) })
      (inl (l.logged ∙ sym is)) (subst (λ (rs : List Record). (own_trace program start rs).forks ≡ []) (sym is) (ap (λ (t : TaskTrace). t.forks) l.traced))
      (subst (RunsRegions program []) (sym l.alone) RunsRegions.no_region)
    where
      is : works_log (puts records ∷ []) ≡ records
      is = works_are start records l

  module _ (fork : state.Fork) (locked : Bool) (ones twos : List Record) (found : ℕ) (two_lanes : 2 ≡ fork.team.span)
      (root_is : own_trace program (root_start program) root_log ≡ ends_with root_log (fork ∷ []))
      (one : IsLaneLog program (lane_begin fork 0) (lane_log locked ones)) (two : IsLaneLog program (lane_begin fork 1) (lane_log locked twos)) where
    abbrev first : List Record
    first = lane_log locked ones

    abbrev second : List Record
    second = lane_log locked twos

    lane : (n : ℕ) → n < 2 → RunsTask program (lane_begin fork n) (lane_works n (phases first second))
    lane zero less = lane_runs (lane_begin fork 0) first one
    lane (suc zero) less = lane_runs (lane_begin fork 1) second two
    lane (suc (suc n)) less = absurd (omega arith)

    drawn : (loop : ℕ) → DrewSome (works_log (puts first ∷ []) ∷ works_log (puts second ∷ []) ∷ []) loop
    drawn loop =
        subst (λ (rs : List Record). DrewSome (rs ∷ works_log (puts second ∷ []) ∷ []) loop) (sym (works_are (lane_begin fork 0) first one))
        (subst (λ (rs : List Record). DrewSome (first ∷ rs ∷ []) loop) (sym (works_are (lane_begin fork 1) second two)) (none_drawn first second loop one.undrawn two.undrawn one.unclosed two.unclosed))

    is_work : IsSound layout (work first second) → NestsWithin 1 (work first second) → AreFitted layout (memory found) (memory found) → IsWorkOf program layout 1 (work first second) (memory found) (memory found)
    is_work sound nests fitted = record {
      sound = sound;
      joined = (inr (lane_ends locked ones, (lane_ends locked twos, tt)), ((puts_joined first, (puts_joined second, tt)), tt), tt);
      runs =
          RunsTask.runs (root_start program) (work first second ∷ []) (fork ∷ []) [] (record { rest = []; begins = ap (λ (t : TaskTrace). t.records) root_is }) (inl refl)
          (ap (λ (t : TaskTrace). t.forks) root_is) (RunsRegions.region fork [] (record { span = 2; phases = phases first second }) [] two_lanes lane drawn RunsRegions.no_region);
      nests = nests;
      addresses = search rules;
      fitted = fitted;
      ended = record { prefix = event kind.Region 2 0 2 ∷ []; last = event kind.End 5 0 0; parts = refl; ends = refl };
    }

    -- the run with these logs
    pub lanes_run : IsSound layout (work first second) → NestsWithin 1 (work first second) → AreFitted layout (memory found) (memory found)
        → logged_tasks 1 (work first second) ≡ listed first second → HasHistory (did layout.word [] 0 (work first second)) (memory found) → IsRun program (listed first second)
    lanes_run sound nests fitted tasks history = subst (IsRun program) tasks (work_runs program layout 1 (work first second) (memory found) (memory found) (is_work sound nests fitted) history)

-- ---- histories

-- two lists have the same steps of each hand, if they have so of these, and all others have none
pub same_steps : (s t : List Item) → of [] s ≡ of [] t → of (0 ∷ []) s ≡ of (0 ∷ []) t → of (1 ∷ []) s ≡ of (1 ∷ []) t
    → ((name : Name) → name_eq [] name ≡ false → name_eq (0 ∷ []) name ≡ false → name_eq (1 ∷ []) name ≡ false → of name s ≡ of name t) → (name : Name) → of name s ≡ of name t
same_steps s t root first second others name = at (name_eq [] name) (name_eq (0 ∷ []) name) (name_eq (1 ∷ []) name) refl refl refl
  where
    at : (a b c : Bool) → name_eq [] name ≡ a → name_eq (0 ∷ []) name ≡ b → name_eq (1 ∷ []) name ≡ c → of name s ≡ of name t
    at true b c is_root is_first is_second = subst (λ (n : Name). of n s ≡ of n t) (same_name [] name is_root) root
    at false true c is_root is_first is_second = subst (λ (n : Name). of n s ≡ of n t) (same_name (0 ∷ []) name is_first) first
    at false false true is_root is_first is_second = subst (λ (n : Name). of n s ≡ of n t) (same_name (1 ∷ []) name is_second) second
    at false false false is_root is_first is_second = others name is_root is_first is_second
