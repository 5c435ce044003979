-- The definitions computed: tokens of texts, the rule that each of some kernels breaks first, with its line, and kernels that break none.
use Rattle.std.proofs.Common.{◌≡◌, ℕ, true, false, List, [], ◌∷◌, ◌++◌, None, Ok, Err, refl}
use Rattle.std.specs.Prelude.{pos, codes}
use Rattle.kernel_text.specs.declared.fault.KernelWhy.TheVariants as why
use Rattle.kernel_text.specs.declared.token.Sign.TheVariants as sign
use Rattle.kernel_text.specs.Tokens.{lexeme_at, tokens_from}
use Rattle.kernel_text.specs.Grammar.{Tree, NumberAt, NameAt, TidAt, number, mark, ScheduleTree, Unsaid, StaticBy, Stmts, NoMore, Let, Assign, Store, Update, If, Loop, Parallel, For, Barrier, Critical, CriticalOf, Declaration, ArrayOf, MutexOf, KernelTree}
use Rattle.kernel_reader.specs.Rules.{fault_at, kernel_faults}
use Rattle.kernel_reader.specs.Resolve.{program}
use Rattle.kernel_syntax.specs.Tree as kernel

-- the tokens of bytes from line 1 on, or the line of the first that is none: `0..8`
pub digits_end_before_dots : tokens_from 1 0 (codes "0..8") ≡ Ok (number 1 (pos 0) ∷ mark 1 sign.Dots ∷ number 1 (pos 8) ∷ [])
unfolding tokens_from lexeme_at
digits_end_before_dots = refl

-- a sign of two bytes is one token, and two signs with a space between them are two
pub longest_sign : tokens_from 1 0 (codes "+=-=+ =") ≡ Ok (mark 1 sign.PlusAssign ∷ mark 1 sign.MinusAssign ∷ mark 1 sign.Plus ∷ mark 1 sign.Assign ∷ [])
unfolding tokens_from lexeme_at
longest_sign = refl

-- a sign that is none, on the second line
pub no_such_sign : tokens_from 1 0 (codes "a#x" ++ 10 ∷ codes "b $") ≡ Err 2
unfolding tokens_from lexeme_at
no_such_sign = refl

-- a name of 33 bytes
pub name_too_long : tokens_from 1 0 (codes "a23456789012345678901234567890123") ≡ Err 1
unfolding tokens_from lexeme_at
name_too_long = refl

-- the least number that is too large
pub number_too_large : tokens_from 1 0 (codes "9223372036854775808") ≡ Err 1
unfolding tokens_from lexeme_at
number_too_large = refl

-- ---- rules: an array `a` is declared in line 1, `main` and the region begin in line 2, the region ends in line 8, and `main` in 9

abbrev pub an_array : Declaration
an_array = ArrayOf 1 1 (codes "a") 1 (codes "i64") 1 (pos 8)

abbrev pub of : List Declaration → Stmts → KernelTree
of ds body = record { declarations = ds; line = 2; opened = 2; body = body; closed = 9 }

abbrev pub with_array : Stmts → KernelTree
with_array body = record { declarations = ArrayOf 1 1 (codes "a") 1 (codes "i64") 1 (pos 8) ∷ []; line = 2; opened = 2; body = body; closed = 9 }

abbrev pub region : ℕ → Stmts → Stmts
region span body = Parallel 2 2 (pos span) 2 body 8 NoMore

abbrev pub store : List ℕ → Tree → Stmts
store name value = Store 3 name 3 (NumberAt 3 (pos 0)) 3 3 value NoMore

-- a loop of so many turns, from line 3 to line 5
abbrev pub turns : ℕ → Stmts → Stmts → Stmts
turns n body rest = Loop 3 3 (codes "j") 3 (NumberAt 3 (pos 0)) 3 (NumberAt 3 (pos n)) 3 body 5 rest

abbrev pub work : Tree → ScheduleTree → Stmts → Stmts
work to said body = For 3 3 (codes "i") 3 (NumberAt 3 (pos 0)) 3 to said None 3 body 4 NoMore

-- a loop whose number of turns differs between lanes, round a barrier
pub uneven_barrier : kernel_faults (with_array (region 2 (Loop 3 3 (codes "j") 3 (NumberAt 3 (pos 0)) 3 (TidAt 3) 3 (Barrier 4 NoMore) 5 NoMore))) ≡ fault_at 4 why.NotUniform
uneven_barrier = refl

pub unknown_array : kernel_faults (with_array (store (codes "b") (NumberAt 3 (pos 1)))) ≡ fault_at 3 why.Unknown
unknown_array = refl

pub unknown_variable : kernel_faults (with_array (store (codes "a") (NameAt 3 (codes "j")))) ≡ fault_at 3 why.Unknown
unknown_variable = refl

-- an update breaks the rule at its name, in line 4, behind `atomic` in line 3
pub unknown_array_updated : kernel_faults (with_array (Update 3 4 (codes "b") 4 (NameAt 5 (codes "j")) 5 false 5 (NumberAt 5 (pos 1)) NoMore)) ≡ fault_at 4 why.Unknown ++ fault_at 5 why.Unknown
unknown_array_updated = refl

pub unknown_variable_in_amount : kernel_faults (with_array (Update 3 3 (codes "a") 3 (NumberAt 3 (pos 0)) 3 true 3 (NameAt 4 (codes "j")) NoMore)) ≡ fault_at 4 why.Unknown
unknown_variable_in_amount = refl

pub variable_twice : kernel_faults (with_array (Let 3 3 (codes "a") 3 (NumberAt 3 (pos 1)) NoMore)) ≡ fault_at 3 why.Twice
variable_twice = refl

pub array_twice : kernel_faults (of (an_array ∷ an_array ∷ []) NoMore) ≡ fault_at 1 why.Twice
array_twice = refl

pub no_width : kernel_faults (of (ArrayOf 1 1 (codes "a") 1 (codes "i63") 1 (pos 8) ∷ []) NoMore) ≡ fault_at 1 why.Width
no_width = refl

pub no_elements : kernel_faults (of (ArrayOf 1 1 (codes "a") 1 (codes "i8") 1 (pos 0) ∷ []) NoMore) ≡ fault_at 1 why.Count
no_elements = refl

pub too_many_elements : kernel_faults (of (an_array ∷ ArrayOf 2 2 (codes "b") 2 (codes "i8") 2 (pos 1048576) ∷ []) NoMore) ≡ fault_at 2 why.Large
too_many_elements = refl

pub region_in_critical : kernel_faults (with_array (Critical 3 3 (Parallel 4 4 (pos 2) 4 NoMore 5 NoMore) 6 NoMore)) ≡ fault_at 4 why.ParallelHere
region_in_critical = refl

pub fifth_region : kernel_faults (with_array (region 1 (region 1 (region 1 (region 1 (Parallel 3 3 (pos 1) 3 NoMore 4 NoMore)))))) ≡ fault_at 3 why.Deep
fifth_region = refl

pub no_lanes : kernel_faults (with_array (region 0 NoMore)) ≡ fault_at 2 why.Count
no_lanes = refl

pub too_many_lanes : kernel_faults (with_array (region 2 (Parallel 3 3 (pos 33) 3 NoMore 4 NoMore))) ≡ fault_at 3 why.Large
too_many_lanes = refl

pub work_outside : kernel_faults (with_array (work (NumberAt 3 (pos 8)) Unsaid NoMore)) ≡ fault_at 3 why.WorkHere
work_outside = refl

pub work_in_branch : kernel_faults (with_array (region 2 (If 3 (TidAt 3) 3 (work (NumberAt 3 (pos 8)) Unsaid NoMore) 5 NoMore))) ≡ fault_at 3 why.NotUniform
work_in_branch = refl

pub lane_in_bound : kernel_faults (with_array (region 2 (work (TidAt 3) Unsaid NoMore))) ≡ fault_at 3 why.NotUniform
lane_in_bound = refl

pub no_chunk : kernel_faults (with_array (region 2 (work (NumberAt 3 (pos 8)) (StaticBy 3 3 (pos 0)) NoMore))) ≡ fault_at 3 why.Count
no_chunk = refl

pub barrier_outside : kernel_faults (with_array (Barrier 3 NoMore)) ≡ fault_at 3 why.BarrierHere
barrier_outside = refl

pub critical_in_critical : kernel_faults (with_array (Critical 3 3 (Critical 4 4 NoMore 5 NoMore) 6 NoMore)) ≡ fault_at 4 why.CriticalOrder
critical_in_critical = refl

pub unknown_mutex : kernel_faults (with_array (CriticalOf 3 3 (codes "m") 3 NoMore 4 NoMore)) ≡ fault_at 3 why.Unknown
unknown_mutex = refl

pub loop_variable_assigned : kernel_faults (with_array (region 2 (work (NumberAt 3 (pos 8)) Unsaid (Assign 4 (codes "i") 4 (NumberAt 4 (pos 1)) NoMore)))) ≡ fault_at 4 why.Unknown
loop_variable_assigned = refl

-- 65,536 turns of a barrier and one
pub too_heavy : kernel_faults (with_array (region 2 (Loop 3 3 (codes "j") 3 (NumberAt 3 (pos 0)) 3 (NumberAt 3 (pos 65536)) 3 (Barrier 4 NoMore) 5 NoMore))) ≡ fault_at 8 why.Large
too_heavy = refl

-- ---- limits at their edges, and what an inner region begins anew

-- 32,768 turns of a barrier and one
pub heaviest : kernel_faults (with_array (region 2 (turns 32768 (Barrier 4 NoMore) NoMore))) ≡ []
heaviest = refl

pub heavier_by_one : kernel_faults (with_array (region 2 (turns 32768 (Barrier 4 NoMore) (Barrier 6 NoMore)))) ≡ fault_at 8 why.Large
heavier_by_one = refl

-- a loop whose barriers are all of an inner region weighs 1
pub inner_barriers_weigh_nothing : kernel_faults (with_array (region 2 (turns 65537 (Parallel 4 4 (pos 2) 4 (Barrier 4 NoMore) 4 NoMore) NoMore))) ≡ []
inner_barriers_weigh_nothing = refl

-- a region inside an `if` begins evenly
pub inner_region_is_even : kernel_faults (with_array (region 2 (If 3 (TidAt 3) 3 (Parallel 4 4 (pos 2) 4 (Barrier 4 NoMore) 4 NoMore) 5 NoMore))) ≡ []
inner_region_is_even = refl

pub barrier_in_critical : kernel_faults (with_array (region 2 (Critical 3 3 (Barrier 4 NoMore) 5 NoMore))) ≡ fault_at 4 why.BarrierHere
barrier_in_critical = refl

abbrev locks : List Declaration
locks = MutexOf 1 1 (codes "b") ∷ MutexOf 1 1 (codes "c") ∷ MutexOf 1 1 (codes "d") ∷ MutexOf 1 1 (codes "e") ∷ MutexOf 1 1 (codes "f") ∷ MutexOf 1 1 (codes "g") ∷ MutexOf 1 1 (codes "h") ∷ MutexOf 1 1 (codes "i") ∷ []

abbrev locked : ℕ → List ℕ → Stmts → Stmts
locked line name body = CriticalOf line line name line body 8 NoMore

-- seven mutexes inside the critical section without a name, and what is inside them
abbrev eight_sections : Stmts → Stmts
eight_sections inside =
    Critical 3 3 (locked 3 (codes "b") (locked 3 (codes "c") (locked 3 (codes "d") (locked 3 (codes "e") (locked 3 (codes "f") (locked 3 (codes "g") (locked 3 (codes "h") inside))))))) 8 NoMore

pub eight_nested_sections : kernel_faults (of locks (eight_sections NoMore)) ≡ []
eight_nested_sections = refl

pub ninth_nested_section : kernel_faults (of locks (eight_sections (locked 4 (codes "i") NoMore))) ≡ fault_at 4 why.Deep
ninth_nested_section = refl

-- ---- resolution

-- a critical section keeps the line of its keyword and that of its closing brace
pub section_lines : (program (with_array (Critical 3 4 (Barrier 5 NoMore) 6 NoMore))).main.body ≡ kernel.Critical 0 3 6 (kernel.Barrier 5 kernel.Done) kernel.Done
section_lines = refl
