-- Traces of whole tasks, computed by the definitions, against the records that are worked out by hand.
use Rattle.std.proofs.Common.{◌≡◌, refl, ℕ, ◌+◌, ◌-◌, ◌^◌, Bool, true, false, List, [], ◌∷◌, ◌++◌, pos, Some, None, Option}
use Rattle.kernel_syntax.specs.declared.syntax.Array.{Array}
use Rattle.kernel_syntax.specs.declared.syntax.Op.TheVariants.{Add, Sub, Div, Eq}
use Rattle.kernel_syntax.specs.declared.syntax.Schedule.TheVariants.{Even, Static, Dynamic}
use Rattle.log_format.specs.Fitting.{wrapped}
use Rattle.kernel_syntax.specs.Layout.{laid}
use Rattle.kernel_syntax.specs.Program.{Program}
use Rattle.kernel_syntax.specs.Tree as tree
use Rattle.kernel_syntax.specs.Tree.{Code, Done, TeamTree}
use Rattle.log_format.specs.declared.record.Record.{Record}
use Rattle.log_format.specs.declared.record.Kind.TheVariants.{Read, Write, Update, Lock, Unlock, Barrier, Region, Chunk, End}
use Rattle.sw_base.specs.declared.path.Step.{Step}
use Rattle.race_model.specs.Trace.{logs_of}
use Rattle.kernel_model.specs.State.{Gives, Stops, put, event}
use Rattle.kernel_model.specs.declared.stop.StopWhy.TheVariants.{DivZero, Index, LogFull}
use Rattle.kernel_model.specs.Value.{value, read}
use Rattle.kernel_model.specs.Iterations.{even_iterations}
use Rattle.kernel_model.specs.Trace.{Start, TaskTrace, Ended, Stopped, Wanting, run, draw, draws, task, trace}
use Rattle.kernel_model.specs.Folder.{own_trace, root_start, start_at}

-- one array `a` of eight bytes an element
abbrev one_array : ℕ → List Array
one_array count = laid (record { name = 97 ∷ []; width = 8; count = count; base = 0; first = 0 } ∷ [])

abbrev program : ℕ → ℕ → ℕ → Code → Program
program count line end body =
    record { arrays = one_array count; mutexes = []; main = record { span = 1; line = line; end = end; body = body }; slots = 1 }

abbrev lane_of : TeamTree → ℕ → Start
lane_of team lane = record { team = team; lane = lane; slots = pos 0 ∷ [] }

abbrev whole : List Record → TaskTrace
whole records = record { records = records; forks = []; end = Ended }

abbrev read_of : ℕ → ℕ → ℕ → ℕ → Record
read_of site line addr value = record { kind = Read; size = 8; site = site; line = line; addr = addr; value = value }

abbrev write_of : ℕ → ℕ → ℕ → ℕ → Record
write_of site line addr value = record { kind = Write; size = 8; site = site; line = line; addr = addr; value = value }

-- array a i64 8 / main { / parallel 2 { / for i in 0 .. 8 static 1 { / a[i] = a[i] + 1 / } / } / }
abbrev counting_body : Code
counting_body =
    tree.For 0 (tree.Number (pos 0)) (tree.Number (pos 8)) (Static 1) false 4 6
    (tree.Store 0 (tree.Slot 0) (tree.Binary Add 5 (tree.Load 0 (tree.Slot 0) 5 1) (tree.Number (pos 1))) 5 0 Done) Done

abbrev counting_team : TeamTree
counting_team = record { span = 2; line = 3; end = 7; body = counting_body }

abbrev counting : Program
counting = program 8 2 8 (tree.Parallel 2 3 7 counting_body Done)

abbrev counting_root : List Record
counting_root = event Region 3 0 2 ∷ event End 8 0 0 ∷ []

-- what a lane puts for the element at this address, and the lane's log
abbrev added_one : ℕ → List Record
added_one addr = read_of 1 5 addr 0 ∷ write_of 0 5 addr 1 ∷ []

abbrev counting_lane : ℕ → List Record
counting_lane first =
    added_one first ++ added_one (first + 16) ++ added_one (first + 32) ++ added_one (first + 48) ++ event Barrier 6 0 0 ∷ event End 7 0 0 ∷ []

pub counting_root-is : own_trace counting (root_start counting) counting_root
    ≡ record { records = counting_root; forks = record { team = counting_team; slots = pos 0 ∷ [] } ∷ []; end = Ended }
unfolding run value put read draw task wrapped
counting_root-is = refl

pub counting_lane-0 : own_trace counting (lane_of counting_team 0) (counting_lane 4096) ≡ whole (counting_lane 4096)
unfolding run value put read draw task wrapped
counting_lane-0 = refl

pub counting_lane-1 : own_trace counting (lane_of counting_team 1) (counting_lane 4104) ≡ whole (counting_lane 4104)
unfolding run value put read draw task wrapped
counting_lane-1 = refl

-- array a i64 4 main { a[0] = 1 }
abbrev one_store : Program
one_store = program 4 1 1 (tree.Store 0 (tree.Number (pos 0)) (tree.Number (pos 1)) 1 0 Done)

pub one_store-is : own_trace one_store (root_start one_store) (write_of 0 1 4096 1 ∷ event End 1 0 0 ∷ [])
    ≡ whole (write_of 0 1 4096 1 ∷ event End 1 0 0 ∷ [])
unfolding run value put read draw task wrapped
one_store-is = refl

-- array a i64 4 / main { parallel 2 { / for i in 0 .. 0 { a[i] = 1 } / } }, and the same with `nowait`
abbrev no_turns : Bool → TeamTree
no_turns nowait = record {
  span = 2;
  line = 2;
  end = 4;
  body =
      tree.For 0 (tree.Number (pos 0)) (tree.Number (pos 0)) Even nowait 3 3
      (tree.Store 0 (tree.Slot 0) (tree.Number (pos 1)) 3 0 Done) Done;
}

abbrev no_turns_trace : Bool → TaskTrace
no_turns_trace nowait = trace (program 4 2 4 (tree.Parallel 2 2 4 (no_turns nowait).body Done)) (lane_of (no_turns nowait) 1) [] []

pub no_turns-barrier : no_turns_trace false ≡ whole (event Barrier 3 0 0 ∷ event End 4 0 0 ∷ [])
unfolding run value put read draw task wrapped
no_turns-barrier = refl

pub no_turns-nowait : no_turns_trace true ≡ whole (event End 4 0 0 ∷ [])
unfolding run value put read draw task wrapped
no_turns-nowait = refl

-- array a i64 9 / main { parallel 2 { / for i in 0 .. 8 static 4 nowait { a[i+1] = a[i] } / } }
abbrev shifting : TeamTree
shifting = record {
  span = 2;
  line = 2;
  end = 4;
  body =
      tree.For 0 (tree.Number (pos 0)) (tree.Number (pos 8)) (Static 4) true 3 3
      (tree.Store 0 (tree.Binary Add 3 (tree.Slot 0) (tree.Number (pos 1))) (tree.Load 0 (tree.Slot 0) 3 1) 3 0 Done) Done;
}

abbrev moved : ℕ → List Record
moved addr = read_of 1 3 addr 0 ∷ write_of 0 3 (addr + 8) 0 ∷ []

abbrev shifted : ℕ → List Record
shifted addr = moved addr ++ moved (addr + 8) ++ moved (addr + 16) ++ moved (addr + 24) ++ event End 4 0 0 ∷ []

abbrev shifting_trace : ℕ → List Record → TaskTrace
shifting_trace lane records = own_trace (program 9 2 4 (tree.Parallel 2 2 4 shifting.body Done)) (lane_of shifting lane) records

pub shifting_lane-0 : shifting_trace 0 (shifted 4096) ≡ whole (shifted 4096)
unfolding run value put read draw task wrapped
shifting_lane-0 = refl

pub shifting_lane-1 : shifting_trace 1 (shifted 4128) ≡ whole (shifted 4128)
unfolding run value put read draw task wrapped
shifting_lane-1 = refl

-- array a i64 4 / main { parallel 2 { / for i in 0 .. 8 static 4 { a[i] = 1 } / } }: lane 1 stops at its first store
abbrev outside : TeamTree
outside = record {
  span = 2;
  line = 2;
  end = 4;
  body =
      tree.For 0 (tree.Number (pos 0)) (tree.Number (pos 8)) (Static 4) false 3 3
      (tree.Store 0 (tree.Slot 0) (tree.Number (pos 1)) 3 0 Done) Done;
}

pub outside-is : trace (program 4 2 4 (tree.Parallel 2 2 4 outside.body Done)) (lane_of outside 1) [] []
    ≡ record { records = []; forks = []; end = Stopped Index 3 }
unfolding run value put read draw task wrapped
outside-is = refl

-- a[0] = 1 / (tid - 1) in lane 1 divides by 0 at the line of the operator, before the store
pub divided-is : trace
    (program 8 2 6 Done)
    (lane_of
    (record {
      span = 2;
      line = 2;
      end = 6;
      body =
          tree.Store 0 (tree.Number (pos 0)) (tree.Binary Div 5 (tree.Number (pos 1)) (tree.Binary Sub 5 tree.Tid (tree.Number (pos 1)))) 4 0 Done;
    })
    1) [] [] ≡ record { records = []; forks = []; end = Stopped DivZero 5 }
unfolding run value put read draw task wrapped
divided-is = refl

-- array b i8 1 main { b[0] = 200 }: the element is -56
pub narrow-is : trace
    (record {
      arrays = laid (record { name = 98 ∷ []; width = 1; count = 1; base = 0; first = 0 } ∷ []);
      mutexes = [];
      main = record { span = 1; line = 1; end = 1; body = tree.Store 0 (tree.Number (pos 0)) (tree.Number (pos 200)) 1 0 Done };
      slots = 0;
    })
    (record { team = record { span = 1; line = 1; end = 1; body = tree.Store 0 (tree.Number (pos 0)) (tree.Number (pos 200)) 1 0 Done }; lane = 0; slots = [] })
    [] []
    ≡ whole (record { kind = Write; size = 1; site = 0; line = 1; addr = 4096; value = 2 ^ 64 - 56 } ∷ event End 1 0 0 ∷ [])
unfolding run value put read draw task wrapped
narrow-is = refl

-- ---- updates, by their order: the index, then the amount, then the test of the index, then the record

abbrev update_of : ℕ → ℕ → ℕ → ℕ → Record
update_of site line addr value = record { kind = Update; size = 8; site = site; line = line; addr = addr; value = value }

-- atomic a[a[0]] += a[1] over lines 4 and 5, where a[0] is 2 and a[1] is 7
pub adding-is : own_trace (program 4 2 6 Done)
    (lane_of (record { span = 2; line = 3; end = 6; body = tree.Update 0 (tree.Load 0 (tree.Number (pos 0)) 4 1) (tree.Load 0 (tree.Number (pos 1)) 5 2) false 4 0 Done }) 0)
    (read_of 1 4 4096 2 ∷ read_of 2 5 4104 7 ∷ update_of 0 4 4112 7 ∷ event End 6 0 0 ∷ [])
    ≡ whole (read_of 1 4 4096 2 ∷ read_of 2 5 4104 7 ∷ update_of 0 4 4112 7 ∷ event End 6 0 0 ∷ [])
unfolding run value put read draw task wrapped
adding-is = refl

-- atomic a[4] += a[0] reads the amount before the index is tested
pub updated_outside-is : own_trace (program 4 2 6 Done)
    (lane_of (record { span = 2; line = 3; end = 6; body = tree.Update 0 (tree.Number (pos 4)) (tree.Load 0 (tree.Number (pos 0)) 5 1) false 4 0 Done }) 0)
    (read_of 1 5 4096 2 ∷ [])
    ≡ record { records = read_of 1 5 4096 2 ∷ []; forks = []; end = Stopped Index 4 }
unfolding run value put read draw task wrapped
updated_outside-is = refl

-- atomic a[4] += 1 / 0 stops at the quotient in the amount
pub update_divided-is : own_trace (program 4 2 6 Done)
    (lane_of (record { span = 2; line = 3; end = 6; body = tree.Update 0 (tree.Number (pos 4)) (tree.Binary Div 5 (tree.Number (pos 1)) (tree.Number (pos 0))) false 4 0 Done }) 0) []
    ≡ record { records = []; forks = []; end = Stopped DivZero 5 }
unfolding run value put read draw task wrapped
update_divided-is = refl

-- in bytes b: atomic b[1] -= 5, atomic b[1] += 200 and atomic b[1] -= 128 add -5, -56 and -128
abbrev bytes_body : Code
bytes_body =
    tree.Update 0 (tree.Number (pos 1)) (tree.Number (pos 5)) true 1 0
    (tree.Update 0 (tree.Number (pos 1)) (tree.Number (pos 200)) false 2 1 (tree.Update 0 (tree.Number (pos 1)) (tree.Number (pos 128)) true 3 2 Done))

abbrev byte_update : ℕ → ℕ → ℕ → Record
byte_update site line value = record { kind = Update; size = 1; site = site; line = line; addr = 4097; value = 2 ^ 64 - value }

pub bytes-are : trace
    (record {
      arrays = laid (record { name = 98 ∷ []; width = 1; count = 2; base = 0; first = 0 } ∷ []);
      mutexes = [];
      main = record { span = 1; line = 1; end = 4; body = bytes_body };
      slots = 0;
    })
    (record { team = record { span = 1; line = 1; end = 4; body = bytes_body }; lane = 0; slots = [] })
    [] []
    ≡ whole (byte_update 0 1 5 ∷ byte_update 1 2 56 ∷ byte_update 2 3 128 ∷ event End 4 0 0 ∷ [])
unfolding run value put read draw task wrapped
bytes-are = refl

-- for i in 0 .. 10 dynamic 4 { a[i] = i }: a lane that draws chunk 2 of 3 and then finds none left
abbrev drawing : TeamTree
drawing = record {
  span = 3;
  line = 2;
  end = 4;
  body =
      tree.For 0 (tree.Number (pos 0)) (tree.Number (pos 10)) (Dynamic 4) false 3 3
      (tree.Store 0 (tree.Slot 0) (tree.Slot 0) 3 0 Done) Done;
}

abbrev drew_last : List Record
drew_last =
    event Chunk 3 2 3 ∷ write_of 0 3 4160 8 ∷ write_of 0 3 4168 9 ∷ event Chunk 3 3 3 ∷ event Barrier 3 0 0 ∷ event End 4 0 0 ∷ []

pub drawing-is : own_trace (program 10 2 4 Done) (lane_of drawing 2) drew_last ≡ whole drew_last
unfolding run value put read draw task wrapped
drawing-is = refl

-- a number that is drawn past the last chunk is recorded as their count
pub drawing-past : (trace (program 10 2 4 Done) (lane_of drawing 2) [] (2 ∷ 7 ∷ [])).records ≡ drew_last
unfolding run value put read draw task wrapped
drawing-past = refl

-- without a number to draw, the trace wants one
pub drawing-wants : (trace (program 10 2 4 Done) (lane_of drawing 2) [] (2 ∷ [])).end ≡ Wanting
unfolding run value put read draw task wrapped
drawing-wants = refl

-- mutex 1 around s[0] = s[0] + 1, at lines 4 and 5, in a lane that reads 6
abbrev locked : TeamTree
locked = record {
  span = 8;
  line = 3;
  end = 5;
  body =
      tree.Critical 1 4 4
      (tree.Store 0 (tree.Number (pos 0)) (tree.Binary Add 4 (tree.Load 0 (tree.Number (pos 0)) 4 1) (tree.Number (pos 1))) 4 0 Done) Done;
}

abbrev locked_records : List Record
locked_records = event Lock 4 1 0 ∷ read_of 1 4 4096 6 ∷ write_of 0 4 4096 7 ∷ event Unlock 4 1 0 ∷ event End 5 0 0 ∷ []

pub locked-is : own_trace (program 1 3 5 Done) (lane_of locked 6) locked_records ≡ whole locked_records
unfolding run value put read draw task wrapped
locked-is = refl

-- a critical section of several lines is left at the line of its closing brace
pub left_at_brace : trace (program 1 1 8 Done) (lane_of (record { span = 1; line = 1; end = 8; body = tree.Critical 1 4 6 Done Done }) 0) [] []
    ≡ whole (event Lock 4 1 0 ∷ event Unlock 6 1 0 ∷ event End 8 0 0 ∷ [])
unfolding run value put read draw task wrapped
left_at_brace = refl

-- a loop of 2^63 turns that divides by 0 in its first
pub long_loop : trace (program 1 1 1 Done)
    (lane_of
    (record {
      span = 1;
      line = 1;
      end = 9;
      body =
          tree.Loop 0 (tree.Neg (tree.Number (pos 1))) (tree.Number (pos 9223372036854775807))
          (tree.Set 0 (tree.Binary Div 7 (tree.Number (pos 1)) (tree.Number (pos 0))) Done) Done;
    })
    0) [] [] ≡ record { records = []; forks = []; end = Stopped DivZero 7 }
unfolding run value put read draw task wrapped
long_loop = refl

-- a log with room for one record more takes one store, and stops at the line of the next
pub full_log : run (record { arrays = one_array 4; lane = 0; span = 1 })
    (tree.Store 0 (tree.Number (pos 0)) (tree.Number (pos 1)) 4 0 (tree.Store 0 (tree.Number (pos 1)) (tree.Number (pos 1)) 5 0 Done))
    (record { slots = []; records = []; forks = []; room = 1; reads = []; chunks = [] })
    ≡ Stops LogFull 5 (record { slots = []; records = write_of 0 4 4096 1 ∷ []; forks = []; room = 0; reads = []; chunks = [] })
unfolding run value put read draw wrapped
full_log = refl

-- the tasks of a run: the root, and lanes 0 and 1 of its region 0
abbrev counting_logs : List Step → List Record
counting_logs = logs_of
    (record { path = []; records = counting_root }
    ∷ record { path = record { region = 0; lane = 0; span = 2 } ∷ []; records = counting_lane 4096 }
    ∷ record { path = record { region = 0; lane = 1; span = 2 } ∷ []; records = counting_lane 4104 } ∷ [])

abbrev at_step : ℕ → ℕ → ℕ → Option Start
at_step region lane span = start_at counting counting_logs (record { region = region; lane = lane; span = span } ∷ [])

pub starts_lane : at_step 0 1 2 ≡ Some (lane_of counting_team 1)
unfolding run value put read draw task wrapped start_at
starts_lane = refl

pub starts_no_lane-2 : at_step 0 2 2 ≡ None
unfolding run value put read draw task wrapped start_at
starts_no_lane-2 = refl

pub starts_no_other_span : at_step 0 1 3 ≡ None
unfolding run value put read draw task wrapped start_at
starts_no_other_span = refl

pub starts_no_other_region : at_step 1 0 2 ≡ None
unfolding run value put read draw task wrapped start_at
starts_no_other_region = refl

-- in a full log a draw stops, also where no number is left
pub full_draw : (draws 3 6 3 (λ q s. Gives tt s) (record { slots = []; records = []; forks = []; room = 0; reads = []; chunks = [] }))
    ≡ Stops LogFull 6 (record { slots = []; records = []; forks = []; room = 0; reads = []; chunks = [] })
unfolding draw
full_draw = refl

-- eight iterations for three lanes
pub even_rows : even_iterations 8 0 3 ∷ even_iterations 8 1 3 ∷ even_iterations 8 2 3 ∷ [] ≡ (0 ∷ 1 ∷ 2 ∷ []) ∷ (3 ∷ 4 ∷ 5 ∷ []) ∷ (6 ∷ 7 ∷ []) ∷ []
even_rows = refl

-- array a i64 8 / main { parallel 2 { / if tid == 1 { / let k = 8 / a[k] = 1 / } / } }: lane 0 ends at once, lane 1 stops
abbrev branching : TeamTree
branching = record {
  span = 2;
  line = 2;
  end = 7;
  body =
      tree.If (tree.Binary Eq 3 tree.Tid (tree.Number (pos 1)))
      (tree.Set 0 (tree.Number (pos 8)) (tree.Store 0 (tree.Slot 0) (tree.Number (pos 1)) 5 0 Done)) Done Done;
}

abbrev branching_trace : ℕ → TaskTrace
branching_trace lane = trace (program 8 2 7 (tree.Parallel 2 2 7 branching.body Done)) (lane_of branching lane) [] []

pub branching_lane-0 : branching_trace 0 ≡ whole (event End 7 0 0 ∷ [])
unfolding run value put read draw task wrapped
branching_lane-0 = refl

pub branching_lane-1 : branching_trace 1 ≡ record { records = []; forks = []; end = Stopped Index 5 }
unfolding run value put read draw task wrapped
branching_lane-1 = refl

-- if tid == 0 { parallel 2 { / a[tid] = 1 } } / barrier / if tid == 1 { a[1] = 2 }, in lines 3 to 6 of a team of two
abbrev inner_body : Code
inner_body = tree.Store 0 tree.Tid (tree.Number (pos 1)) 4 0 Done

abbrev nesting : TeamTree
nesting = record {
  span = 2;
  line = 2;
  end = 7;
  body =
      tree.If (tree.Binary Eq 3 tree.Tid (tree.Number (pos 0))) (tree.Parallel 2 3 4 inner_body Done) Done
      (tree.Barrier 5
      (tree.If (tree.Binary Eq 6 tree.Tid (tree.Number (pos 1))) (tree.Store 0 (tree.Number (pos 1)) (tree.Number (pos 2)) 6 1 Done) Done Done));
}

abbrev nesting_trace : ℕ → TaskTrace
nesting_trace lane = trace (program 4 2 7 (tree.Parallel 2 2 7 nesting.body Done)) (lane_of nesting lane) [] []

pub nesting_lane-0 : nesting_trace 0
    ≡ record {
      records = event Region 3 0 2 ∷ event Barrier 5 0 0 ∷ event End 7 0 0 ∷ [];
      forks = record { team = record { span = 2; line = 3; end = 4; body = inner_body }; slots = pos 0 ∷ [] } ∷ [];
      end = Ended;
    }
unfolding run value put read draw task wrapped
nesting_lane-0 = refl

pub nesting_lane-1 : nesting_trace 1 ≡ whole (event Barrier 5 0 0 ∷ write_of 1 6 4104 2 ∷ event End 7 0 0 ∷ [])
unfolding run value put read draw task wrapped
nesting_lane-1 = refl
