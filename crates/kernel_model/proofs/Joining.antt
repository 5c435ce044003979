-- How the parts of a task follow one another.
use Rattle.std.proofs.Common.{◌≡◌, refl, ap, ◌∙◌, sym, ℕ, zero, suc, ◌+◌, arith, List, [], ◌∷◌, ◌++◌, ℤ, pos, negsuc, ◌+ℤ◌}
use Rattle.kernel_model.specs.Parts.{Part, run_part, run_parts}
use Rattle.kernel_syntax.specs.declared.syntax.Stmt.{Stmt}
use Rattle.kernel_syntax.specs.Program.{stmt_code, stmts_code, code_of}
use Rattle.kernel_syntax.specs.Tree.{Code, Done, Set, Store, Update, If, Loop, Parallel, For, Barrier, Critical}
use Rattle.kernel_syntax.proofs.Following.{followed_by, stmts_code-follows, stmt_code-first}
use Rattle.log_format.specs.declared.record.Kind.TheVariants as kind
use Rattle.kernel_model.specs.State.{State, Outcome, Gives, Stops, Wants, and_then, after, put, event, assign}
use Rattle.kernel_model.specs.Value.{Site, element_at, value}
use Rattle.kernel_model.specs.Iterations.{total_of}
use Rattle.kernel_model.specs.Trace.{stored, updated, amount_of, branch, turns, each, shared, loop_end, forked, run}

pub after-after : (m : Outcome (Unit {0})) (f g : State → Outcome (Unit {0})) → after (after m f) g ≡ after m (λ s. after (f s) g)
after-after (Gives a s) f g = refl
after-after (Stops why line s) f g = refl
after-after (Wants s) f g = refl

pub after-and_then : {A : Type 0} (m : Outcome A) (f : A → State → Outcome (Unit {0})) (g : State → Outcome (Unit {0})) →
    after (and_then m f) g ≡ and_then m (λ a s. after (f a s) g)
after-and_then (Gives a s) f g = refl
after-and_then (Stops why line s) f g = refl
after-and_then (Wants s) f g = refl

-- nothing follows
pub after-nothing : (m : Outcome (Unit {0})) → after m (λ s. Gives tt s) ≡ m
after-nothing (Gives a s) = refl
after-nothing (Stops why line s) = refl
after-nothing (Wants s) = refl

-- the same follows
pub after-same : (m : Outcome (Unit {0})) (f g : State → Outcome (Unit {0})) → ((t : State) → f t ≡ g t) → after m f ≡ after m g
after-same (Gives a t) f g same = same t
after-same (Stops why line t) f g same = refl
after-same (Wants t) f g same = refl

-- parts, and then more
pub run_parts-append : (at : Site) (xs ys : List Part) (s : State) → run_parts at (xs ++ ys) s ≡ after (run_parts at xs s) (run_parts at ys)
run_parts-append at [] ys s = refl
run_parts-append at (x ∷ xs) ys s =
    after-same (run_part at x s) _ _ (run_parts-append at xs ys) ∙ sym (after-after (run_part at x s) (run_parts at xs) (run_parts at ys))

-- no statement follows
pub after-done : (at : Site) (m : Outcome (Unit {0})) → after m (run at Done) ≡ m
unfolding run
after-done at (Gives u s) = refl
after-done at (Stops why line s) = refl
after-done at (Wants s) = refl

-- a branch is its body
pub branch-zero : (v : ℤ) (if_true if_false : State → Outcome (Unit {0})) (s : State) → v ≡ pos 0 → branch v if_true if_false s ≡ if_false s
branch-zero v if_true if_false s is = ap (λ w. branch w if_true if_false s) is

pub branch-other : (v : ℤ) (if_true if_false : State → Outcome (Unit {0})) (s : State) → (v ≡ pos 0 → ⊥) → branch v if_true if_false s ≡ if_true s
branch-other (pos zero) if_true if_false s other = absurd (other refl)
branch-other (pos (suc n)) if_true if_false s other = refl
branch-other (negsuc n) if_true if_false s other = refl

pub each-append : (is js : List ℕ) (turn : ℕ → State → Outcome (Unit {0})) (s : State) →
    each (is ++ js) turn s ≡ after (each is turn s) (each js turn)
each-append [] js turn s = refl
each-append (i ∷ is) js turn s =
    after-same (turn i s) (each (is ++ js) turn) (λ t. after (each is turn t) (each js turn)) (each-append is js turn)
    ∙ sym (after-after (turn i s) (each is turn) (each js turn))

-- so many turns, and then more
pub turns-add : (m n i : ℕ) (turn : ℕ → State → Outcome (Unit {0})) (s : State) →
    turns (m + n) i turn s ≡ after (turns m i turn s) (turns n (i + m) turn)
turns-add zero n i turn s =
    let count : 0 + n ≡ n = omega arith in
    let place : i ≡ i + 0 = omega arith in
    ap (λ k. turns k i turn s) count ∙ ap (λ k. turns n k turn s) place
turns-add (suc m) n i turn s =
    let count : suc m + n ≡ suc (m + n) = omega arith in
    let place : suc i + m ≡ i + suc m = omega arith in
    ap (λ k. turns k i turn s) count
    ∙ after-same (turn i s) (turns (m + n) (suc i) turn) (λ t. after (turns m (suc i) turn t) (turns n (suc i + m) turn)) (turns-add m n (suc i) turn)
    ∙ sym (after-after (turn i s) (turns m (suc i) turn) (turns n (suc i + m) turn))
    ∙ ap (λ k. after (turns (suc m) i turn s) (turns n k turn)) place

pub and_then-same : {A B : Type 0} (m : Outcome A) (f g : A → State → Outcome B) → ((a : A) (t : State) → f a t ≡ g a t) → and_then m f ≡ and_then m g
and_then-same (Gives a t) f g same = same a t
and_then-same (Stops why line t) f g same = refl
and_then-same (Wants t) f g same = refl

-- a run of one list of statements after another
pub run-follows : (at : Site) (code later : Code) (s : State) → run at (followed_by code later) s ≡ after (run at code s) (run at later)
unfolding run
run-follows at Done later s = refl
run-follows at (Set slot e rest) later s =
    and_then-same (value at e s) _ _ (λ v t. run-follows at rest later (assign slot v t))
    ∙ sym (after-and_then (value at e s) (λ v t. run at rest (assign slot v t)) (run at later))
run-follows at (Store array index e line site rest) later s =
    and_then-same (value at index s) _ _ (λ i t.
    and_then-same (value at e t) _ _ (λ v u.
    after-same (stored (element_at at.arrays array i) v line site u) _ _ (run-follows at rest later)
    ∙ sym (after-after (stored (element_at at.arrays array i) v line site u) (run at rest) (run at later)))
    ∙ sym (after-and_then (value at e t) (λ v u. after (stored (element_at at.arrays array i) v line site u) (run at rest)) (run at later)))
    ∙ sym (after-and_then (value at index s) (λ i t. and_then (value at e t) (λ v u.
    after (stored (element_at at.arrays array i) v line site u) (run at rest))) (run at later))
run-follows at (Update array index e minus line site rest) later s =
    and_then-same (value at index s) _ _ (λ i t.
    and_then-same (value at e t) _ _ (λ v u.
    after-same (updated (element_at at.arrays array i) (amount_of minus v) line site u) _ _ (run-follows at rest later)
    ∙ sym (after-after (updated (element_at at.arrays array i) (amount_of minus v) line site u) (run at rest) (run at later)))
    ∙ sym (after-and_then (value at e t) (λ v u. after (updated (element_at at.arrays array i) (amount_of minus v) line site u) (run at rest)) (run at later)))
    ∙ sym (after-and_then (value at index s) (λ i t. and_then (value at e t) (λ v u.
    after (updated (element_at at.arrays array i) (amount_of minus v) line site u) (run at rest))) (run at later))
run-follows at (If test if_true if_false rest) later s =
    and_then-same (value at test s) _ _ (λ v t.
    after-same (branch v (run at if_true) (run at if_false) t) _ _ (run-follows at rest later)
    ∙ sym (after-after (branch v (run at if_true) (run at if_false) t) (run at rest) (run at later)))
    ∙ sym (after-and_then (value at test s) (λ v t. after (branch v (run at if_true) (run at if_false) t) (run at rest)) (run at later))
run-follows at (Loop slot from to body rest) later s =
    and_then-same (value at from s) _ _ (λ a t.
    and_then-same (value at to t) _ _ (λ b u.
    after-same (turns (total_of a b) 0 (λ i w. run at body (assign slot (a +ℤ pos i) w)) u) _ _ (run-follows at rest later)
    ∙ sym (after-after (turns (total_of a b) 0 (λ i w. run at body (assign slot (a +ℤ pos i) w)) u) (run at rest) (run at later)))
    ∙ sym (after-and_then (value at to t) (λ b u. after (turns (total_of a b) 0 (λ i w. run at body (assign slot (a +ℤ pos i) w)) u) (run at rest)) (run at later)))
    ∙ sym (after-and_then (value at from s) (λ a t. and_then (value at to t) (λ b u.
    after (turns (total_of a b) 0 (λ i w. run at body (assign slot (a +ℤ pos i) w)) u) (run at rest))) (run at later))
run-follows at (Parallel span line end body rest) later s =
    after-same (put (event kind.Region line 0 span) s) _ _ (λ t.
    run-follows at rest later (forked (record { span = span; line = line; end = end; body = body }) t))
    ∙ sym (after-after (put (event kind.Region line 0 span) s)
    (λ t. run at rest (forked (record { span = span; line = line; end = end; body = body }) t)) (run at later))
run-follows at (For slot from to schedule nowait line end body rest) later s =
    and_then-same (value at from s) _ _ (λ a t.
    and_then-same (value at to t) _ _ (λ b u.
    after-same (shared schedule at line (total_of a b) (λ i w. run at body (assign slot (a +ℤ pos i) w)) u) _ _ (λ x.
    after-same (loop_end nowait end x) _ _ (run-follows at rest later)
    ∙ sym (after-after (loop_end nowait end x) (run at rest) (run at later)))
    ∙ sym (after-after (shared schedule at line (total_of a b) (λ i w. run at body (assign slot (a +ℤ pos i) w)) u)
    (λ x. after (loop_end nowait end x) (run at rest)) (run at later)))
    ∙ sym (after-and_then (value at to t) (λ b u.
    after (shared schedule at line (total_of a b) (λ i w. run at body (assign slot (a +ℤ pos i) w)) u) (λ x.
    after (loop_end nowait end x) (run at rest))) (run at later)))
    ∙ sym (after-and_then (value at from s) (λ a t. and_then (value at to t) (λ b u.
    after (shared schedule at line (total_of a b) (λ i w. run at body (assign slot (a +ℤ pos i) w)) u) (λ x.
    after (loop_end nowait end x) (run at rest)))) (run at later))
run-follows at (Barrier line rest) later s =
    after-same (put (event kind.Barrier line 0 0) s) _ _ (run-follows at rest later)
    ∙ sym (after-after (put (event kind.Barrier line 0 0) s) (run at rest) (run at later))
run-follows at (Critical mutex line end body rest) later s =
    after-same (put (event kind.Lock line mutex 0) s) _ _ (λ t.
    after-same (run at body t) _ _ (λ u.
    after-same (put (event kind.Unlock end mutex 0) u) _ _ (run-follows at rest later)
    ∙ sym (after-after (put (event kind.Unlock end mutex 0) u) (run at rest) (run at later)))
    ∙ sym (after-after (run at body t) (λ u. after (put (event kind.Unlock end mutex 0) u) (run at rest)) (run at later)))
    ∙ sym (after-after (put (event kind.Lock line mutex 0) s)
    (λ t. after (run at body t) (λ u. after (put (event kind.Unlock end mutex 0) u) (run at rest))) (run at later))

-- a run of statements, and then of what follows them
pub run-stmts : (at : Site) (stmts : List Stmt) (later : Code) (s : State) →
    run at (stmts_code stmts later) s ≡ after (run at (code_of stmts) s) (run at later)
run-stmts at stmts later s = ap (λ c. run at c s) (stmts_code-follows stmts later) ∙ run-follows at (code_of stmts) later s

-- a run of a first statement, and then of what follows it
pub run-first : (at : Site) (stmt : Stmt) (later : Code) (s : State) →
    run at (stmt_code stmt later) s ≡ after (run at (stmt_code stmt Done) s) (run at later)
run-first at stmt later s = ap (λ c. run at c s) (stmt_code-first stmt later) ∙ run-follows at (stmt_code stmt Done) later s
