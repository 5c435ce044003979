-- Only the barriers of a team record a Barrier.
use Rattle.std.proofs.Common.{◌≡◌, refl, ap, sym, ◌∙◌, ℕ, zero, suc, ◌+◌, arith, Bool, true, false, cond, List, [], ◌∷◌, ◌++◌, ℤ, pos, ◌+ℤ◌, Option, Some, None, All, true≢false}
use Rattle.std.specs.Prelude.{◌||◌, ◌&&◌, is_some}
use Rattle.std.proofs.lemmas.List.Elements.{All-nil, All-cons, All-append}
use Rattle.std.proofs.lemmas.List.Sums.{sum_by-append, sum_by-cons}
use Rattle.log_format.specs.declared.record.Record.{Record}
use Rattle.log_format.specs.declared.record.Kind.{Kind}
use Rattle.log_format.specs.declared.record.Kind.TheVariants as kind
use Rattle.race_model.specs.Trace.{is_barrier_kind, barrier_count}
use Rattle.kernel_syntax.specs.Tree as tree
use Rattle.kernel_syntax.specs.Tree.{Term, Code, Done}
use Rattle.kernel_model.specs.State.{State, event, state_of}
use Rattle.kernel_model.specs.Value.{Site}
use Rattle.kernel_model.specs.Iterations.{total_of}
use Rattle.kernel_model.specs.Trace.{run}
use Rattle.kernel_model.specs.Lawful.{fixed_bound, has_fixed_bounds, code_holds_work, unrolled_bounds, bounds_of, IsEven}
use Rattle.kernel_model.specs.Parts.{Part, Set, Run, Bar, unrolled, loop_parts, end_parts, parts_of}
use Rattle.kernel_model.specs.Phases.{MeetsOnlyAtBars}
use Rattle.kernel_model.proofs.SingleSteps.{IsMark, KeepsPlainSteps, KeepsSteps}
use Rattle.kernel_model.proofs.Steps.{kept-run, kept-waitless}

-- ---- statements that record no barrier

abbrev number : Bool → ℕ
number b = cond b 1 0

abbrev SameBarriers : State → State → Type 0
SameBarriers s t = barrier_count t.records ≡ barrier_count s.records

pub one_more : (records : List Record) (r : Record) → barrier_count (records ++ r ∷ []) ≡ barrier_count records + number (is_barrier_kind r.kind)
one_more records r =
    omega (arith, sum_by-append (λ (x : Record). number (is_barrier_kind x.kind)) records (r ∷ []), sum_by-cons (λ (x : Record). number (is_barrier_kind x.kind)) r [])

pub uncounted : (records : List Record) (r : Record) → is_barrier_kind r.kind ≡ false → barrier_count (records ++ r ∷ []) ≡ barrier_count records
uncounted records r is =
    let none : number (is_barrier_kind r.kind) ≡ 0 = ap number is in
    omega (arith, none, one_more records r)

-- a record of a mutex is no Barrier
unbarred : (k : Kind) → IsMark k → is_barrier_kind k ≡ false
unbarred kind.Lock is = refl
unbarred kind.Unlock is = refl
unbarred _ is = absurd is

same_barriers-plain : KeepsPlainSteps SameBarriers
same_barriers-plain = record {
  same = λ s. refl;
  chain = λ a b c one more. more ∙ one;
  assigns = λ slot v s. refl;
  writes = λ r room s is write. uncounted s.records r (ap is_barrier_kind write);
  reads = λ e site line room v reads s is prefix. uncounted s.records _ refl;
  draws = λ line n room q chunks s is prefix. uncounted s.records _ refl;
}

same_barriers-steps : KeepsSteps SameBarriers
same_barriers-steps = record {
  plain = same_barriers-plain;
  updates = record { updates = λ r room s is update. uncounted s.records r (ap is_barrier_kind update) };
  marks = λ r room s is mark. uncounted s.records r (unbarred r.kind mark);
  forks = λ team room s is. uncounted s.records (event kind.Region team.line 0 team.span) refl;
}

-- statements without work
pub no_barrier : (at : Site) (code : Code) (s : State) → code_holds_work code ≡ false → SameBarriers s (state_of (run at code s))
no_barrier at code s free = kept-run SameBarriers same_barriers-steps at code s (λ is. absurd (true≢false (sym is ∙ free)))

both_free : (a b : Bool) → a ≡ false → b ≡ false → a || b ≡ false
both_free a b one other = ap (λ x. x || b) one ∙ other

-- ---- the parts of a body

unrolled_meets : (n slot : ℕ) (v : ℤ) (body : List Part) → All MeetsOnlyAtBars body → All MeetsOnlyAtBars (unrolled n slot v body)
unrolled_meets zero slot v body all = All-nil MeetsOnlyAtBars
unrolled_meets (suc n) slot v body all =
    All-cons MeetsOnlyAtBars (Set slot v) _ (λ at s. refl)
    (All-append MeetsOnlyAtBars body _ all (unrolled_meets n slot (v +ℤ pos 1) body all))

-- a loop that isn't unrolled holds no work
pub idle_loop : (from to : Option ℤ) (work : Bool) → (work ≡ true → is_some from && is_some to ≡ true) → unrolled_bounds from to work ≡ None → work ≡ false
idle_loop (Some a) (Some b) true fixed is = cc
idle_loop (Some a) None true fixed is = sym (fixed refl)
idle_loop None to true fixed is = sym (fixed refl)
idle_loop from to false fixed is = refl

loop_meets : (slot : ℕ) (from to : Term) (body : Code) (bounds : Option (ℤ × ℤ)) → bounds_of from to body ≡ bounds →
    (code_holds_work body ≡ true → has_fixed_bounds from to ≡ true) → All MeetsOnlyAtBars (parts_of body) →
    All MeetsOnlyAtBars (loop_parts bounds slot (parts_of body) (tree.Loop slot from to body Done))
loop_meets slot from to body None is fixed inside =
    let free = idle_loop (fixed_bound from) (fixed_bound to) (code_holds_work body) fixed is in
    All-cons MeetsOnlyAtBars (Run (tree.Loop slot from to body Done)) []
    (λ at s. no_barrier at (tree.Loop slot from to body Done) s (both_free (code_holds_work body) false free refl)) (All-nil MeetsOnlyAtBars)
loop_meets slot from to body (Some bounds) is fixed inside = unrolled_meets (total_of bounds.0 bounds.1) slot bounds.0 (parts_of body) inside

end_meets : (nowait : Bool) (end : ℕ) → All MeetsOnlyAtBars (end_parts nowait end)
end_meets true end = All-nil MeetsOnlyAtBars
end_meets false end = All-cons MeetsOnlyAtBars (Bar end) [] tt (All-nil MeetsOnlyAtBars)

-- Only the team's barriers record a Barrier.
pub parts_meet : (code : Code) → IsEven code → All MeetsOnlyAtBars (parts_of code)
parts_meet Done even = All-nil MeetsOnlyAtBars
parts_meet (tree.Set slot e rest) even =
    All-cons MeetsOnlyAtBars (Run (tree.Set slot e Done)) _ (λ at s. no_barrier at (tree.Set slot e Done) s refl) (parts_meet rest even)
parts_meet (tree.Store array index e line site rest) even =
    All-cons MeetsOnlyAtBars (Run (tree.Store array index e line site Done)) _
    (λ at s. no_barrier at (tree.Store array index e line site Done) s refl) (parts_meet rest even)
parts_meet (tree.Update array index e minus line site rest) even =
    All-cons MeetsOnlyAtBars (Run (tree.Update array index e minus line site Done)) _
    (λ at s. no_barrier at (tree.Update array index e minus line site Done) s refl) (parts_meet rest even)
parts_meet (tree.If test if_true if_false rest) even =
    All-cons MeetsOnlyAtBars (Run (tree.If test if_true if_false Done)) _
    (λ at s. no_barrier at (tree.If test if_true if_false Done) s
    (both_free (code_holds_work if_true) (code_holds_work if_false || false) even.0 (both_free (code_holds_work if_false) false even.1 refl)))
    (parts_meet rest even.4)
parts_meet (tree.Loop slot from to body rest) even =
    All-append MeetsOnlyAtBars (loop_parts (bounds_of from to body) slot (parts_of body) (tree.Loop slot from to body Done)) (parts_of rest)
    (loop_meets slot from to body (bounds_of from to body) refl even.0 (parts_meet body even.1)) (parts_meet rest even.2)
parts_meet (tree.Parallel span line end body rest) even =
    All-cons MeetsOnlyAtBars (Run (tree.Parallel span line end body Done)) _
    (λ at s. no_barrier at (tree.Parallel span line end body Done) s refl) (parts_meet rest even.1)
parts_meet (tree.For slot from to schedule nowait line end body rest) even =
    All-cons MeetsOnlyAtBars (Run (tree.For slot from to schedule true line end body Done)) _
    (λ at s. kept-waitless SameBarriers same_barriers-steps at slot from to schedule line end body s (λ is. absurd (true≢false (sym is ∙ even.0))))
    (All-append MeetsOnlyAtBars (end_parts nowait end) (parts_of rest) (end_meets nowait end) (parts_meet rest even.2))
parts_meet (tree.Barrier line rest) even = All-cons MeetsOnlyAtBars (Bar line) _ tt (parts_meet rest even)
parts_meet (tree.Critical mutex line end body rest) even =
    All-cons MeetsOnlyAtBars (Run (tree.Critical mutex line end body Done)) _
    (λ at s. no_barrier at (tree.Critical mutex line end body Done) s (both_free (code_holds_work body) false even.0 refl)) (parts_meet rest even.2)
