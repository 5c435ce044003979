-- A body's parts, run one after another, do what the body does; and only barriers of the team record a Barrier.
use Rattle.std.proofs.Common.{◌≡◌, refl, ap, sym, ◌∙◌, ℕ, zero, suc, arith, Bool, true, false, [], ◌∷◌, ◌++◌, append_assoc, ℤ, pos, ◌+ℤ◌, Option, Some, None}
use Rattle.std.specs.Prelude.{◌||◌}
use Rattle.std.proofs.lemmas.Int.{ints}
use Rattle.kernel_syntax.specs.declared.syntax.Schedule.{Schedule}
use Rattle.kernel_syntax.specs.declared.syntax.Stmt.{Stmt}
use Rattle.kernel_syntax.specs.Program.{stmt_code}
use Rattle.kernel_syntax.specs.Tree as tree
use Rattle.kernel_syntax.specs.Tree.{Term, Code, Done, Number, Neg}
use Rattle.kernel_syntax.proofs.Following.{followed_by, stmt_code-first}
use Rattle.log_format.specs.declared.record.Kind.TheVariants as kind
use Rattle.kernel_model.specs.State.{State, Gives, and_then, after, put, event, assign}
use Rattle.kernel_model.specs.Value.{Site, value}
use Rattle.kernel_model.specs.Iterations.{total_of}
use Rattle.kernel_model.specs.Trace.{turns, shared, run}
use Rattle.kernel_model.specs.Lawful.{fixed_bound, code_holds_work, unrolled_bounds, bounds_of}
use Rattle.kernel_model.specs.Parts.{Run, Bar, unrolled, loop_parts, end_parts, parts_of, run_parts}
use Rattle.kernel_model.proofs.Joining.{after-after, after-and_then, after-same, and_then-same, run-follows, run_parts-append}

-- ---- the parts of one list of statements after another

pub parts_of-follows : (code later : Code) → parts_of (followed_by code later) ≡ parts_of code ++ parts_of later
parts_of-follows Done later = refl
parts_of-follows (tree.Set slot e rest) later = ap (λ ps. Run (tree.Set slot e Done) ∷ ps) (parts_of-follows rest later)
parts_of-follows (tree.Store array index e line site rest) later =
    ap (λ ps. Run (tree.Store array index e line site Done) ∷ ps) (parts_of-follows rest later)
parts_of-follows (tree.Update array index e minus line site rest) later =
    ap (λ ps. Run (tree.Update array index e minus line site Done) ∷ ps) (parts_of-follows rest later)
parts_of-follows (tree.If test if_true if_false rest) later =
    ap (λ ps. Run (tree.If test if_true if_false Done) ∷ ps) (parts_of-follows rest later)
parts_of-follows (tree.Loop slot from to body rest) later =
    let one = loop_parts (bounds_of from to body) slot (parts_of body) (tree.Loop slot from to body Done) in
    ap (λ ps. one ++ ps) (parts_of-follows rest later) ∙ sym (append_assoc one (parts_of rest) (parts_of later))
parts_of-follows (tree.Parallel span line end body rest) later =
    ap (λ ps. Run (tree.Parallel span line end body Done) ∷ ps) (parts_of-follows rest later)
parts_of-follows (tree.For slot from to schedule nowait line end body rest) later =
    ap (λ ps. Run (tree.For slot from to schedule true line end body Done) ∷ ps)
    (ap (λ ps. end_parts nowait end ++ ps) (parts_of-follows rest later) ∙ sym (append_assoc (end_parts nowait end) (parts_of rest) (parts_of later)))
parts_of-follows (tree.Barrier line rest) later = ap (λ ps. Bar line ∷ ps) (parts_of-follows rest later)
parts_of-follows (tree.Critical mutex line end body rest) later =
    ap (λ ps. Run (tree.Critical mutex line end body Done) ∷ ps) (parts_of-follows rest later)

-- the parts of a first statement, and then of what follows it
pub parts_of-first : (stmt : Stmt) (later : Code) → parts_of (stmt_code stmt later) ≡ parts_of (stmt_code stmt Done) ++ parts_of later
parts_of-first stmt later = ap parts_of (stmt_code-first stmt later) ∙ parts_of-follows (stmt_code stmt Done) later

-- ---- work

or_assoc : (a b c : Bool) → (a || b) || c ≡ a || (b || c)
or_assoc true b c = refl
or_assoc false b c = refl

code_holds_work-follows : (code later : Code) → code_holds_work (followed_by code later) ≡ code_holds_work code || code_holds_work later
code_holds_work-follows Done later = refl
code_holds_work-follows (tree.Set slot e rest) later = code_holds_work-follows rest later
code_holds_work-follows (tree.Store array index e line site rest) later = code_holds_work-follows rest later
code_holds_work-follows (tree.Update array index e minus line site rest) later = code_holds_work-follows rest later
code_holds_work-follows (tree.If test if_true if_false rest) later =
    ap (λ b. code_holds_work if_true || (code_holds_work if_false || b)) (code_holds_work-follows rest later)
    ∙ ap (λ b. code_holds_work if_true || b) (sym (or_assoc (code_holds_work if_false) (code_holds_work rest) (code_holds_work later)))
    ∙ sym (or_assoc (code_holds_work if_true) (code_holds_work if_false || code_holds_work rest) (code_holds_work later))
code_holds_work-follows (tree.Loop slot from to body rest) later =
    ap (λ b. code_holds_work body || b) (code_holds_work-follows rest later) ∙ sym (or_assoc (code_holds_work body) (code_holds_work rest) (code_holds_work later))
code_holds_work-follows (tree.Parallel span line end body rest) later = code_holds_work-follows rest later
code_holds_work-follows (tree.For slot from to schedule nowait line end body rest) later = refl
code_holds_work-follows (tree.Barrier line rest) later = refl
code_holds_work-follows (tree.Critical mutex line end body rest) later =
    ap (λ b. code_holds_work body || b) (code_holds_work-follows rest later) ∙ sym (or_assoc (code_holds_work body) (code_holds_work rest) (code_holds_work later))

-- whether the statements after a first one hold work, too
pub code_holds_work-first : (stmt : Stmt) (later : Code) → code_holds_work (stmt_code stmt later) ≡ code_holds_work (stmt_code stmt Done) || code_holds_work later
code_holds_work-first stmt later = ap code_holds_work (stmt_code-first stmt later) ∙ code_holds_work-follows (stmt_code stmt Done) later

-- ---- running

-- a bound that the text fixes has its value in every state
fixed_bound-is : (at : Site) (e : Term) (v : ℤ) (s : State) → fixed_bound e ≡ Some v → value at e s ≡ Gives v s
unfolding value
fixed_bound-is at (Number n) v s is = ap (λ (o : Option ℤ). elim o [ Some x ↦ Gives x s | None ↦ Gives n s ]) is
fixed_bound-is at (Neg (Number n)) v s is = ap (λ (o : Option ℤ). elim o [ Some x ↦ Gives x s | None ↦ Gives n s ]) is
fixed_bound-is at (Neg _) v s is = cc
fixed_bound-is at _ v s is = cc

-- the bounds of a loop that is unrolled are fixed
record AreBounds (from to : Option ℤ) (work : Bool) (bounds : ℤ × ℤ) : Type 0 where
  first : from ≡ Some bounds.0
  last : to ≡ Some bounds.1
  work_is : work ≡ true

are_bounds : (from to : Option ℤ) (work : Bool) (bounds : ℤ × ℤ) → unrolled_bounds from to work ≡ Some bounds → AreBounds from to work bounds
are_bounds (Some a) (Some b) true bounds is =
    let pair : (a, b) ≡ bounds = ap (λ (o : Option (ℤ × ℤ)). elim o [ Some x ↦ x | None ↦ bounds ]) is in
    record { first = ap (λ (p : ℤ × ℤ). Some p.0) pair; last = ap (λ (p : ℤ × ℤ). Some p.1) pair; work_is = refl }
are_bounds (Some a) (Some b) false bounds is = cc
are_bounds (Some a) None work bounds is = cc
are_bounds None to work bounds is = cc

-- the turns of a loop, unrolled
run_unrolled : (at : Site) (n i slot : ℕ) (a v : ℤ) (body : Code) (s : State) → v ≡ a +ℤ pos i →
    ((t : State) → run_parts at (parts_of body) t ≡ run at body t) →
    run_parts at (unrolled n slot v (parts_of body)) s ≡ turns n i (λ k t. run at body (assign slot (a +ℤ pos k) t)) s
run_unrolled at zero i slot a v body s is inside = refl
run_unrolled at (suc n) i slot a v body s is inside =
    run_parts-append at (parts_of body) (unrolled n slot (v +ℤ pos 1) (parts_of body)) (assign slot v s)
    ∙ ap (λ m. after m (run_parts at (unrolled n slot (v +ℤ pos 1) (parts_of body)))) (inside (assign slot v s) ∙ ap (λ z. run at body (assign slot z s)) is)
    ∙ after-same (run at body (assign slot (a +ℤ pos i) s)) _ _
    (λ t. run_unrolled at n (suc i) slot a (v +ℤ pos 1) body t (next is) inside)
  where
    next : v ≡ a +ℤ pos i → v +ℤ pos 1 ≡ a +ℤ pos (suc i)
    next h = omega (arith, ints)

-- a single statement, and what follows it
single : (at : Site) (one rest : Code) (s : State) → ((t : State) → run_parts at (parts_of rest) t ≡ run at rest t) →
    run_parts at (Run one ∷ parts_of rest) s ≡ run at (followed_by one rest) s
single at one rest s goes_on = after-same (run at one s) _ _ goes_on ∙ sym (run-follows at one rest s)

-- a worksharing loop whose barrier comes after it
waiting : (at : Site) (slot : ℕ) (from to : Term) (schedule : Schedule) (line end : ℕ) (body rest : Code) (s : State) →
    after (run at (tree.For slot from to schedule true line end body Done) s) (λ t. after (put (event kind.Barrier end 0 0) t) (run at rest))
    ≡ run at (tree.For slot from to schedule false line end body rest) s
unfolding run
waiting at slot from to schedule line end body rest s =
    let next = λ (t : State). after (put (event kind.Barrier end 0 0) t) (run at rest) in
    let loop = λ (a b : ℤ) (t : State). shared schedule at line (total_of a b) (λ i w. run at body (assign slot (a +ℤ pos i) w)) t in
    after-and_then (value at from s) (λ a t. and_then (value at to t) (λ b u. after (loop a b u) (λ w. Gives tt w))) next
    ∙ and_then-same (value at from s) _ _ (λ a t.
    after-and_then (value at to t) (λ b u. after (loop a b u) (λ w. Gives tt w)) next
    ∙ and_then-same (value at to t) _ _ (λ b u. after-after (loop a b u) (λ w. Gives tt w) next))

-- a loop with fixed bounds
fixed_loop : (at : Site) (slot : ℕ) (from to : Term) (body rest : Code) (s : State) (a b : ℤ) → fixed_bound from ≡ Some a → fixed_bound to ≡ Some b →
    run at (tree.Loop slot from to body rest) s
    ≡ after (turns (total_of a b) 0 (λ k t. run at body (assign slot (a +ℤ pos k) t)) s) (run at rest)
unfolding run
fixed_loop at slot from to body rest s a b first last =
    ap (λ m. and_then m (λ x t. and_then (value at to t) (λ y u.
    after (turns (total_of x y) 0 (λ i w. run at body (assign slot (x +ℤ pos i) w)) u) (run at rest)))) (fixed_bound-is at from a s first)
    ∙ ap (λ m. and_then m (λ y u.
    after (turns (total_of a y) 0 (λ i w. run at body (assign slot (a +ℤ pos i) w)) u) (run at rest))) (fixed_bound-is at to b s last)

-- a loop, unrolled or not
run_loop : (at : Site) (slot : ℕ) (from to : Term) (body rest : Code) (s : State) (bounds : Option (ℤ × ℤ)) → bounds_of from to body ≡ bounds →
    ((t : State) → run_parts at (parts_of body) t ≡ run at body t) → ((t : State) → run_parts at (parts_of rest) t ≡ run at rest t) →
    run_parts at (loop_parts bounds slot (parts_of body) (tree.Loop slot from to body Done) ++ parts_of rest) s ≡ run at (tree.Loop slot from to body rest) s
run_loop at slot from to body rest s None is inside goes_on = single at (tree.Loop slot from to body Done) rest s goes_on
run_loop at slot from to body rest s (Some bounds) is inside goes_on =
    run_parts-append at (unrolled (total_of bounds.0 bounds.1) slot bounds.0 (parts_of body)) (parts_of rest) s
    ∙ ap (λ m. after m (run_parts at (parts_of rest)))
    (run_unrolled at (total_of bounds.0 bounds.1) 0 slot bounds.0 bounds.0 body s (omega (arith, ints)) inside)
    ∙ after-same (turns (total_of bounds.0 bounds.1) 0 (λ k t. run at body (assign slot (bounds.0 +ℤ pos k) t)) s) _ _ goes_on
    ∙ sym (fixed_loop at slot from to body rest s bounds.0 bounds.1 are.first are.last)
  where
    are : AreBounds (fixed_bound from) (fixed_bound to) (code_holds_work body) bounds
    are = are_bounds (fixed_bound from) (fixed_bound to) (code_holds_work body) bounds is

-- The parts of a body, one after another, do what the body does.
pub parts_run : (at : Site) (code : Code) (s : State) → run_parts at (parts_of code) s ≡ run at code s
unfolding run
parts_run at Done s = refl
parts_run at (tree.Set slot e rest) s = single at (tree.Set slot e Done) rest s (parts_run at rest)
parts_run at (tree.Store array index e line site rest) s = single at (tree.Store array index e line site Done) rest s (parts_run at rest)
parts_run at (tree.Update array index e minus line site rest) s = single at (tree.Update array index e minus line site Done) rest s (parts_run at rest)
parts_run at (tree.If test if_true if_false rest) s = single at (tree.If test if_true if_false Done) rest s (parts_run at rest)
parts_run at (tree.Loop slot from to body rest) s =
    run_loop at slot from to body rest s (bounds_of from to body) refl (parts_run at body) (parts_run at rest)
parts_run at (tree.Parallel span line end body rest) s = single at (tree.Parallel span line end body Done) rest s (parts_run at rest)
parts_run at (tree.For slot from to schedule true line end body rest) s =
    single at (tree.For slot from to schedule true line end body Done) rest s (parts_run at rest)
parts_run at (tree.For slot from to schedule false line end body rest) s =
    after-same (run at (tree.For slot from to schedule true line end body Done) s) _ _ (λ t.
    after-same (put (event kind.Barrier end 0 0) t) _ _ (parts_run at rest))
    ∙ waiting at slot from to schedule line end body rest s
parts_run at (tree.Barrier line rest) s = after-same (put (event kind.Barrier line 0 0) s) _ _ (parts_run at rest)
parts_run at (tree.Critical mutex line end body rest) s = single at (tree.Critical mutex line end body Done) rest s (parts_run at rest)
