-- What each kind of term and statement does: one equation a case, since `value`, `run` and the steps don't unfold by themselves.
use Rattle.std.proofs.Common.{◌≡◌, refl, ℕ, zero, suc, min, Bool, List, [], ◌∷◌, ◌++◌, ℤ, pos, ◌+ℤ◌}
use Rattle.std.specs.Prelude.{slice_index_or}
use Rattle.kernel_syntax.specs.declared.syntax.Op.{Op}
use Rattle.kernel_syntax.specs.declared.syntax.Schedule.{Schedule}
use Rattle.log_format.specs.Fitting.{fitted}
use Rattle.kernel_syntax.specs.Arithmetic.{applied, negated}
use Rattle.kernel_syntax.specs.Tree as tree
use Rattle.kernel_syntax.specs.Tree.{Term, Code}
use Rattle.log_format.specs.declared.record.Record.{Record}
use Rattle.log_format.specs.declared.record.Kind.TheVariants as kind
use Rattle.kernel_model.specs.State.{State, Gives, Stops, Wants, and_then, after, put, event, assign}
use Rattle.kernel_model.specs.declared.stop.StopWhy.TheVariants.{LogFull}
use Rattle.kernel_model.specs.Value.{Site, Element, element_at, access, read, loaded, operated, value}
use Rattle.kernel_model.specs.Iterations.{total_of}
use Rattle.kernel_model.specs.Trace.{stored, updated, amount_of, branch, turns, draw, shared, loop_end, forked, run}

-- ---- steps

pub put-room : (r : Record) (s : State) (room : ℕ) → s.room ≡ suc room →
    put r s ≡ Gives tt (record s { records = s.records ++ r ∷ []; room = room })
unfolding put
put-room r s room is = rw is refl

pub put-full : (r : Record) (s : State) → s.room ≡ zero → put r s ≡ Stops LogFull r.line s
unfolding put
put-full r s is = rw is refl

pub read-room : (e : Element) (site line : ℕ) (s : State) (room : ℕ) (v : ℤ) (reads : List ℤ) → s.room ≡ suc room → s.reads ≡ v ∷ reads →
    read e site line s
    ≡ Gives (fitted v e.width)
    (record s { records = s.records ++ access kind.Read e site line (fitted v e.width) ∷ []; room = room; reads = reads })
unfolding read
read-room e site line s room v reads is prefix = rw (is, prefix) refl

pub read-wants : (e : Element) (site line : ℕ) (s : State) (room : ℕ) → s.room ≡ suc room → s.reads ≡ [] → read e site line s ≡ Wants s
unfolding read
read-wants e site line s room is none = rw (is, none) refl

pub read-full : (e : Element) (site line : ℕ) (s : State) → s.room ≡ zero → read e site line s ≡ Stops LogFull line s
unfolding read
read-full e site line s is = rw is refl

pub draw-room : (line n : ℕ) (s : State) (room q : ℕ) (chunks : List ℕ) → s.room ≡ suc room → s.chunks ≡ q ∷ chunks →
    draw line n s
    ≡ Gives q (record s { records = s.records ++ event kind.Chunk line (min q n) n ∷ []; room = room; chunks = chunks })
unfolding draw
draw-room line n s room q chunks is prefix = rw (is, prefix) refl

pub draw-wants : (line n : ℕ) (s : State) (room : ℕ) → s.room ≡ suc room → s.chunks ≡ [] → draw line n s ≡ Wants s
unfolding draw
draw-wants line n s room is none = rw (is, none) refl

pub draw-full : (line n : ℕ) (s : State) → s.room ≡ zero → draw line n s ≡ Stops LogFull line s
unfolding draw
draw-full line n s is = rw is refl

-- ---- terms

pub value-Number : (at : Site) (n : ℤ) (s : State) → value at (tree.Number n) s ≡ Gives n s
unfolding value
value-Number at n s = refl

pub value-Slot : (at : Site) (k : ℕ) (s : State) → value at (tree.Slot k) s ≡ Gives (slice_index_or s.slots k (pos 0)) s
unfolding value
value-Slot at k s = refl

pub value-Tid : (at : Site) (s : State) → value at tree.Tid s ≡ Gives (pos at.lane) s
unfolding value
value-Tid at s = refl

pub value-Span : (at : Site) (s : State) → value at tree.Span s ≡ Gives (pos at.span) s
unfolding value
value-Span at s = refl

pub value-Load : (at : Site) (array : ℕ) (index : Term) (line site : ℕ) (s : State) →
    value at (tree.Load array index line site) s
    ≡ and_then (value at index s) (λ i s. loaded (element_at at.arrays array i) line site s)
unfolding value
value-Load at array index line site s = refl

pub value-Neg : (at : Site) (operand : Term) (s : State) →
    value at (tree.Neg operand) s ≡ and_then (value at operand s) (λ v s. Gives (negated v) s)
unfolding value
value-Neg at operand s = refl

pub value-Binary : (at : Site) (op : Op) (line : ℕ) (left right : Term) (s : State) →
    value at (tree.Binary op line left right) s
    ≡ and_then (value at left s) (λ x s. and_then (value at right s) (λ y s. operated (applied op x y) line s))
unfolding value
value-Binary at op line left right s = refl

-- ---- statements

pub run-Done : (at : Site) (s : State) → run at tree.Done s ≡ Gives tt s
unfolding run
run-Done at s = refl

pub run-Set : (at : Site) (slot : ℕ) (e : Term) (rest : Code) (s : State) →
    run at (tree.Set slot e rest) s ≡ and_then (value at e s) (λ v s. run at rest (assign slot v s))
unfolding run
run-Set at slot e rest s = refl

pub run-If : (at : Site) (test : Term) (if_true if_false rest : Code) (s : State) →
    run at (tree.If test if_true if_false rest) s
    ≡ and_then (value at test s) (λ v s. after (branch v (run at if_true) (run at if_false) s) (run at rest))
unfolding run
run-If at test if_true if_false rest s = refl

pub run-Loop : (at : Site) (slot : ℕ) (from to : Term) (body rest : Code) (s : State) →
    run at (tree.Loop slot from to body rest) s
    ≡ and_then (value at from s) (λ a s. and_then (value at to s) (λ b s.
    after (turns (total_of a b) 0 (λ i s. run at body (assign slot (a +ℤ pos i) s)) s) (run at rest)))
unfolding run
run-Loop at slot from to body rest s = refl

pub run-Parallel : (at : Site) (span line end : ℕ) (body rest : Code) (s : State) →
    run at (tree.Parallel span line end body rest) s
    ≡ after (put (event kind.Region line 0 span) s) (λ s.
    run at rest (forked (record { span = span; line = line; end = end; body = body }) s))
unfolding run
run-Parallel at span line end body rest s = refl

pub run-For : (at : Site) (slot : ℕ) (from to : Term) (schedule : Schedule) (nowait : Bool) (line end : ℕ) (body rest : Code) (s : State) →
    run at (tree.For slot from to schedule nowait line end body rest) s
    ≡ and_then (value at from s) (λ a s. and_then (value at to s) (λ b s.
    after (shared schedule at line (total_of a b) (λ i s. run at body (assign slot (a +ℤ pos i) s)) s) (λ s.
    after (loop_end nowait end s) (run at rest))))
unfolding run
run-For at slot from to schedule nowait line end body rest s = refl

pub run-Barrier : (at : Site) (line : ℕ) (rest : Code) (s : State) →
    run at (tree.Barrier line rest) s ≡ after (put (event kind.Barrier line 0 0) s) (run at rest)
unfolding run
run-Barrier at line rest s = refl

pub run-Critical : (at : Site) (mutex line end : ℕ) (body rest : Code) (s : State) →
    run at (tree.Critical mutex line end body rest) s
    ≡ after (put (event kind.Lock line mutex 0) s) (λ s.
    after (run at body s) (λ s. after (put (event kind.Unlock end mutex 0) s) (run at rest)))
unfolding run
run-Critical at mutex line end body rest s = refl
