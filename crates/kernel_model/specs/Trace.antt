-- The trace of a task: its records, the regions that it forks, and how it ends.
use Rattle.std.specs.Prelude.{ℕ, zero, suc, min, nat_lt, if◌then◌else◌, Bool, true, false, List, [], ◌∷◌, ◌++◌, ℤ, pos, ◌+ℤ◌, Option, Some, None}
use Rattle.kernel_syntax.specs.declared.syntax.Schedule.{Schedule}
use Rattle.kernel_syntax.specs.declared.syntax.Schedule.TheVariants.{Even, Static, Dynamic}
use Rattle.kernel_syntax.specs.Tree.{Code, Done, Set, Store, Update, If, Loop, Parallel, For, Barrier, Critical, TeamTree}
use Rattle.log_format.specs.Fitting.{fitted}
use Rattle.kernel_syntax.specs.Arithmetic.{negated}
use Rattle.kernel_syntax.specs.Program.{Program}
use Rattle.log_format.specs.Limit.{record_limit}
use Rattle.log_format.specs.declared.record.Record.{Record}
use Rattle.log_format.specs.declared.record.Kind.{Kind}
use Rattle.log_format.specs.declared.record.Kind.TheVariants as kind
use Rattle.kernel_model.specs.State.{State, Fork, Outcome, Gives, Stops, Wants, and_then, after, put, event, assign, state_of}
use Rattle.kernel_model.specs.declared.stop.StopWhy.{StopWhy}
use Rattle.kernel_model.specs.declared.stop.StopWhy.TheVariants.{Index, LogFull}
use Rattle.kernel_model.specs.Value.{Site, Element, element_at, access, value}
use Rattle.kernel_model.specs.Iterations.{total_of, even_iterations, static_iterations, chunk_count, chunk_iterations}

-- an access that changes an element, with a value cut to it, or the stop of an index outside the array
abbrev pub changed : Kind → Option Element → ℤ → ℕ → ℕ → State → Outcome (Unit {0})
changed k None v line site s = Stops Index line s
changed k (Some e) v line site s = put (access k e site line (fitted v e.width)) s

-- a store to an element
abbrev pub stored : Option Element → ℤ → ℕ → ℕ → State → Outcome (Unit {0})
stored e v line site s = changed kind.Write e v line site s

-- an addition to an element in one step (OpenMP 5.2, an atomic update)
abbrev pub updated : Option Element → ℤ → ℕ → ℕ → State → Outcome (Unit {0})
updated e v line site s = changed kind.Update e v line site s

-- what an update adds: the value, or with a minus its negative
abbrev pub amount_of : Bool → ℤ → ℤ
amount_of false v = v
amount_of true v = negated v

-- the second where the value is 0, else the first
abbrev pub branch : ℤ → (State → Outcome (Unit {0})) → (State → Outcome (Unit {0})) → State → Outcome (Unit {0})
branch (pos zero) yes' no' s = no' s
branch v yes' no' s = yes' s

-- so many turns, numbered from i
abbrev pub turns : ℕ → ℕ → (ℕ → State → Outcome (Unit {0})) → State → Outcome (Unit {0})
turns zero i turn s = Gives tt s
turns (suc n) i turn s = after (turn i s) (turns n (suc i) turn)

-- one turn for each iteration of a list
abbrev pub each : List ℕ → (ℕ → State → Outcome (Unit {0})) → State → Outcome (Unit {0})
each [] turn s = Gives tt s
each (i ∷ is) turn s = after (turn i s) (each is turn)

-- the iterations of chunk q below n, and then the next draw; from n on there are none
abbrev pub drawn : ℕ → ℕ → (ℕ → State → Outcome (Unit {0})) → (State → Outcome (Unit {0})) → State → Outcome (Unit {0})
drawn q n chunk more s = (if nat_lt q n then after (chunk q s) more else Gives tt s)

-- a draw takes the next chunk number, where there is room for its record, which tells at most how many chunks there are
abbrev pub draw_in : ℕ → List ℕ → ℕ → ℕ → State → Outcome ℕ
draw_in zero chunks line n s = Stops LogFull line s
draw_in (suc room) [] line n s = Wants s
draw_in (suc room) (q ∷ chunks) line n s =
    Gives q (record s { records = s.records ++ event kind.Chunk line (min q n) n ∷ []; room = room; chunks = chunks })

unfoldable pub draw : ℕ → ℕ → State → Outcome ℕ
draw line n s = draw_in s.room s.chunks line n s

-- draws until none of n chunks is left. Each draw takes room for a record, so there are at most so many.
abbrev pub draws : ℕ → ℕ → ℕ → (ℕ → State → Outcome (Unit {0})) → State → Outcome (Unit {0})
draws zero line n chunk s = Stops LogFull line s
draws (suc more) line n chunk s = and_then (draw line n s) (λ q s. drawn q n chunk (draws more line n chunk) s)

-- the turns of a lane in a worksharing loop of so many iterations
abbrev pub shared : Schedule → Site → ℕ → ℕ → (ℕ → State → Outcome (Unit {0})) → State → Outcome (Unit {0})
shared Even at line total turn s = each (even_iterations total at.lane at.span) turn s
shared (Static chunk) at line total turn s = each (static_iterations chunk total at.lane at.span) turn s
shared (Dynamic chunk) at line total turn s =
    draws s.room line (chunk_count chunk total) (λ q. each (chunk_iterations chunk total q) turn) s

-- the barrier at the end of a worksharing loop
abbrev pub loop_end : Bool → ℕ → State → Outcome (Unit {0})
loop_end true end s = Gives tt s
loop_end false end s = put (event kind.Barrier end 0 0) s

-- forks a region, after its Region record
abbrev pub forked : TeamTree → State → State
forked team s = record s { forks = s.forks ++ record { team = team; slots = s.slots } ∷ [] }

-- a list of statements
unfoldable pub run : Site → Code → State → Outcome (Unit {0})
run at Done s = Gives tt s
run at (Set slot e rest) s = and_then (value at e s) (λ v s. run at rest (assign slot v s))
run at (Store array index e line site rest) s =
    and_then (value at index s) (λ i s. and_then (value at e s) (λ v s.
    after (stored (element_at at.arrays array i) v line site s) (run at rest)))
run at (Update array index e minus line site rest) s =
    and_then (value at index s) (λ i s. and_then (value at e s) (λ v s.
    after (updated (element_at at.arrays array i) (amount_of minus v) line site s) (run at rest)))
run at (If test if_true if_false rest) s =
    and_then (value at test s) (λ v s. after (branch v (run at if_true) (run at if_false) s) (run at rest))
run at (Loop slot from to body rest) s =
    and_then (value at from s) (λ a s. and_then (value at to s) (λ b s.
    after (turns (total_of a b) 0 (λ i s. run at body (assign slot (a +ℤ pos i) s)) s) (run at rest)))
run at (Parallel span line end body rest) s =
    after (put (event kind.Region line 0 span) s) (λ s.
    run at rest (forked (record { span = span; line = line; end = end; body = body }) s))
run at (For slot from to schedule nowait line end body rest) s =
    and_then (value at from s) (λ a s. and_then (value at to s) (λ b s.
    after (shared schedule at line (total_of a b) (λ i s. run at body (assign slot (a +ℤ pos i) s)) s) (λ s.
    after (loop_end nowait end s) (run at rest))))
run at (Barrier line rest) s = after (put (event kind.Barrier line 0 0) s) (run at rest)
run at (Critical mutex line end body rest) s =
    after (put (event kind.Lock line mutex 0) s) (λ s.
    after (run at body s) (λ s.
    after (put (event kind.Unlock end mutex 0) s) (run at rest)))

-- how a task starts: its team, its lane, and its locals
pub record Start : Type 0 where
  pub team : TeamTree
  pub lane : ℕ
  pub slots : List ℤ

abbrev pub site_of : Program → Start → Site
site_of program start = record { arrays = program.arrays; lane = start.lane; span = start.team.span }

abbrev pub state_at : Start → List ℤ → List ℕ → State
state_at start reads chunks =
    record { slots = start.slots; records = []; forks = []; room = record_limit; reads = reads; chunks = chunks }

-- a whole task from its start, its End included, under these values read and these chunk numbers
unfoldable pub task : Program → Start → List ℤ → List ℕ → Outcome (Unit {0})
task program start reads chunks =
    after (run (site_of program start) start.team.body (state_at start reads chunks)) (put (event kind.End start.team.end 0 0))

-- how a trace ends
pub data Ending : Type 0 where
  Ended : Ending
  Stopped : (why : StopWhy) → (line : ℕ) → Ending
  Wanting : Ending

pub record TaskTrace : Type 0 where
  pub records : List Record
  pub forks : List Fork
  pub end : Ending

abbrev pub ending_of : Outcome (Unit {0}) → Ending
ending_of (Gives _ s) = Ended
ending_of (Stops why line s) = Stopped why line
ending_of (Wants s) = Wanting

abbrev pub trace_of : Outcome (Unit {0}) → State → TaskTrace
trace_of outcome s = record { records = s.records; forks = s.forks; end = ending_of outcome }

-- the trace of a task
abbrev pub trace : Program → Start → List ℤ → List ℕ → TaskTrace
trace program start reads chunks = let outcome = task program start reads chunks in trace_of outcome (state_of outcome)
