-- All lanes of a team find equally many chunks in each loop whose chunks are drawn.
use Rattle.std.proofs.Common.{◌≡◌, refl, ap, sym, ◌∙◌, subst, ℕ, zero, suc, ◌<◌, min, arith, Bool, true, false, cond, nat_lt, List, [], ◌∷◌, ◌++◌, append_assoc, length, slice_index_or, slice_set, ℤ, pos, negsuc, ◌+ℤ◌, Option, Some, None, true≢false}
use Rattle.std.specs.Prelude.{◌||◌, ◌&&◌, ◌==◌, unwrap_or, is_some}
use Rattle.std.proofs.lemmas.List.{append-nil}
use Rattle.std.proofs.lemmas.Bool.Decides.{nat_tests}
use Rattle.log_format.specs.declared.record.Record.{Record}
use Rattle.log_format.specs.declared.record.Kind.TheVariants as kind
use Rattle.kernel_syntax.specs.declared.syntax.Op.{Op}
use Rattle.kernel_syntax.specs.declared.syntax.Op.TheVariants.{Add, Sub, Mul}
use Rattle.kernel_syntax.specs.declared.syntax.Schedule.{Schedule}
use Rattle.kernel_syntax.specs.declared.syntax.Schedule.TheVariants.{Even, Static, Dynamic}
use Rattle.log_format.specs.Fitting.{fitted}
use Rattle.kernel_syntax.specs.Arithmetic.{applied, negated}
use Rattle.kernel_syntax.specs.Program.{Program}
use Rattle.kernel_syntax.specs.Tree.{Term, Code, TeamTree, Number, Slot, Tid, Span, Load, Neg, Binary, Done, Set, Store, Update, If, Loop, Parallel, For, Barrier, Critical}
use Rattle.kernel_model.specs.State.{State, Outcome, Gives, Stops, Wants, and_then, after, put, put_in, event, assign, state_of, number_drawn}
use Rattle.kernel_model.specs.Value.{Site, Element, element_at, access, read, read_in, loaded, operated, value}
use Rattle.kernel_model.specs.Iterations.{total_of, even_iterations, static_iterations, chunk_count, chunk_iterations}
use Rattle.kernel_model.specs.Trace.{stored, updated, amount_of, branch, turns, each, drawn, draw as draw_step, draw_in, draws, shared, loop_end, forked, run, task, Start, site_of, state_at}
use Rattle.kernel_model.specs.Chunking.{TellCounts, no_record, other, draw, closing, TellFirst, HasCounts}
use Rattle.kernel_model.specs.Lawful.{Scope, Variable, variable_at, with_variable, IsAssigned, after_assigning, IsLoopVariable, IsEvenOp, IsEvenTerm, IsScoped, fixed_bound, has_fixed_bounds, code_holds_work, IsEven}

-- ---- what a body's text tells

-- the value of an even term where the team has these locals
abbrev even_value : ℕ → List ℤ → Term → ℤ
even_value span slots (Number v) = v
even_value span slots (Slot k) = slice_index_or slots k (pos 0)
even_value span slots Span = pos span
even_value span slots (Neg operand) = negated (even_value span slots operand)
even_value span slots (Binary op line left right) = unwrap_or (applied op (even_value span slots left) (even_value span slots right)) (pos 0)
even_value span slots _ = pos 0

-- a loop's chunks, if they are drawn
abbrev chunks_in : Schedule → ℕ → List ℕ
chunks_in (Dynamic chunk) total = chunk_count chunk total ∷ []
chunks_in _ total = []

abbrev each_turn : ℕ → ℕ → (ℕ → List ℕ) → List ℕ
each_turn zero i turn = []
each_turn (suc n) i turn = turn i ++ each_turn n (suc i) turn

-- how many chunks each loop has that the statements execute, in order
abbrev chunk_counts : ℕ → List ℤ → Code → List ℕ
chunk_counts span slots Done = []
chunk_counts span slots (Set slot e rest) = chunk_counts span slots rest
chunk_counts span slots (Store array index e line site rest) = chunk_counts span slots rest
chunk_counts span slots (Update array index e minus line site rest) = chunk_counts span slots rest
chunk_counts span slots (If test if_true if_false rest) = chunk_counts span slots rest
chunk_counts span slots (Loop slot from to body rest) =
    cond (code_holds_work body)
    (each_turn (total_of (even_value span slots from) (even_value span slots to)) 0 (λ i. chunk_counts span (slice_set slots slot (even_value span slots from +ℤ pos i)) body)) []
    ++ chunk_counts span slots rest
chunk_counts span slots (Parallel lanes line end body rest) = chunk_counts span slots rest
chunk_counts span slots (For slot from to schedule nowait line end body rest) =
    chunks_in schedule (total_of (even_value span slots from) (even_value span slots to)) ++ chunk_counts span slots rest
chunk_counts span slots (Barrier line rest) = chunk_counts span slots rest
chunk_counts span slots (Critical mutex line end body rest) = chunk_counts span slots rest

each_turn-none : (n i : ℕ) (turn : ℕ → List ℕ) → ((k : ℕ) → turn k ≡ []) → each_turn n i turn ≡ []
each_turn-none zero i turn none = refl
each_turn-none (suc n) i turn none = ap (λ (l : List ℕ). l ++ each_turn n (suc i) turn) (none i) ∙ each_turn-none n (suc i) turn none

left_false : (a b : Bool) → a || b ≡ false → a ≡ false
left_false true b is = is
left_false false b is = refl

right_false : (a b : Bool) → a || b ≡ false → b ≡ false
right_false true b is = absurd (true≢false is)
right_false false b is = is

-- statements without work have no loop of this kind
idle_counts : (span : ℕ) (slots : List ℤ) (code : Code) → code_holds_work code ≡ false → chunk_counts span slots code ≡ []
idle_counts span slots Done idle = refl
idle_counts span slots (Set slot e rest) idle = idle_counts span slots rest idle
idle_counts span slots (Store array index e line site rest) idle = idle_counts span slots rest idle
idle_counts span slots (Update array index e minus line site rest) idle = idle_counts span slots rest idle
idle_counts span slots (If test if_true if_false rest) idle =
    idle_counts span slots rest
    (right_false (code_holds_work if_false) (code_holds_work rest) (right_false (code_holds_work if_true) (code_holds_work if_false || code_holds_work rest) idle))
idle_counts span slots (Loop slot from to body rest) idle =
    let first = even_value span slots from in
    let turned = each_turn (total_of first (even_value span slots to)) 0 (λ i. chunk_counts span (slice_set slots slot (first +ℤ pos i)) body) in
    ap (λ (b : Bool). cond b turned [] ++ chunk_counts span slots rest) (left_false (code_holds_work body) (code_holds_work rest) idle)
    ∙ idle_counts span slots rest (right_false (code_holds_work body) (code_holds_work rest) idle)
idle_counts span slots (Parallel lanes line end body rest) idle = idle_counts span slots rest idle
idle_counts span slots (For slot from to schedule nowait line end body rest) idle = absurd (true≢false idle)
idle_counts span slots (Barrier line rest) idle = absurd (true≢false idle)
idle_counts span slots (Critical mutex line end body rest) idle = idle_counts span slots rest (right_false (code_holds_work body) (code_holds_work rest) idle)

-- ---- locals

length_set : (xs : List ℤ) (i : ℕ) (v : ℤ) → length (slice_set xs i v) ≡ length xs
length_set [] i v = refl
length_set (x ∷ xs) zero v = refl
length_set (x ∷ xs) (suc i) v = ap suc (length_set xs i v)

get_set : (xs : List ℤ) (i k : ℕ) (v : ℤ) → (i ≡ k → ⊥) → slice_index_or (slice_set xs i v) k (pos 0) ≡ slice_index_or xs k (pos 0)
get_set [] i k v apart = refl
get_set (x ∷ xs) zero zero v apart = absurd (apart refl)
get_set (x ∷ xs) zero (suc k) v apart = refl
get_set (x ∷ xs) (suc i) zero v apart = refl
get_set (x ∷ xs) (suc i) (suc k) v apart = get_set xs i k v (λ is. apart (ap suc is))

-- lists as long as each other that are the same at a place, unless it is set in both
same_set : (xs ys : List ℤ) (i k : ℕ) (v : ℤ) → length xs ≡ length ys → ((i ≡ k → ⊥) → slice_index_or xs k (pos 0) ≡ slice_index_or ys k (pos 0)) →
    slice_index_or (slice_set xs i v) k (pos 0) ≡ slice_index_or (slice_set ys i v) k (pos 0)
same_set [] [] i k v size same = refl
same_set [] (y ∷ ys) i k v size same = absurd (omega arith)
same_set (x ∷ xs) [] i k v size same = absurd (omega arith)
same_set (x ∷ xs) (y ∷ ys) zero zero v size same = refl
same_set (x ∷ xs) (y ∷ ys) zero (suc k) v size same = same (λ is. omega arith)
same_set (x ∷ xs) (y ∷ ys) (suc i) zero v size same = same (λ is. omega arith)
same_set (x ∷ xs) (y ∷ ys) (suc i) (suc k) v size same = same_set xs ys i k v (omega arith) (λ apart. same (λ is. apart (omega arith)))

-- the state has these locals, as far as the variables of loops go
record Agrees (n : Scope) (slots : List ℤ) (s : State) : Type 0 where
  size : length s.slots ≡ length slots
  same : (k : ℕ) → IsLoopVariable (variable_at n k) → slice_index_or s.slots k (pos 0) ≡ slice_index_or slots k (pos 0)

record Kept (n : Scope) (s t : State) : Type 0 where
  size : length t.slots ≡ length s.slots
  same : (k : ℕ) → IsLoopVariable (variable_at n k) → slice_index_or t.slots k (pos 0) ≡ slice_index_or s.slots k (pos 0)

kept_all : (n : Scope) (s t : State) → t.slots ≡ s.slots → Kept n s t
kept_all n s t is = record { size = ap length is; same = λ k loops. ap (λ (l : List ℤ). slice_index_or l k (pos 0)) is }

kept_chain : (n : Scope) (s t u : State) → Kept n s t → Kept n t u → Kept n s u
kept_chain n s t u one more = record { size = more.size ∙ one.size; same = λ k loops. more.same k loops ∙ one.same k loops }

agrees_kept : (n : Scope) (slots : List ℤ) (s t : State) → Agrees n slots s → Kept n s t → Agrees n slots t
agrees_kept n slots s t agrees kept = record { size = kept.size ∙ agrees.size; same = λ k loops. kept.same k loops ∙ agrees.same k loops }

-- ---- variables

-- with a variable more, those of loops are the same, and it isn't one of them
record Widens (n wider : Scope) (slot : ℕ) : Type 0 where
  loops : (k : ℕ) → IsLoopVariable (variable_at n k) → (slot ≡ k → ⊥) × IsLoopVariable (variable_at wider k)

apart_new : (n : Scope) (slot : ℕ) → variable_at n slot ≡ None → (k : ℕ) → IsLoopVariable (variable_at n k) → slot ≡ k → ⊥
apart_new n slot unused k loops is = subst IsLoopVariable (ap (variable_at n) (sym is) ∙ unused) loops

other_variable : (n : Scope) (slot k : ℕ) (b : Bool) → (slot ≡ k → ⊥) → variable_at (with_variable n slot b) k ≡ variable_at n k
other_variable n slot k b apart = by (slot == k) refl
  where
    by : (t : Bool) → (slot == k) ≡ t → cond t (Some (record { slot = slot; assignable = b })) (variable_at n k) ≡ variable_at n k
    by true is = absurd (apart (grind (arith, nat_tests)))
    by false is = refl

widens_new : (n : Scope) (slot : ℕ) (b : Bool) → variable_at n slot ≡ None → Widens n (with_variable n slot b) slot
widens_new n slot b unused = record {
  loops = λ k loops.
      let apart = apart_new n slot unused k loops in
      (apart, subst IsLoopVariable (sym (other_variable n slot k b apart)) loops);
}

module _ (n : Scope) (slot : ℕ) where
  assigned_apart : (o : Option Variable) → variable_at n slot ≡ o → IsAssigned n slot o → (k : ℕ) → IsLoopVariable (variable_at n k) → slot ≡ k → ⊥
  assigned_apart None is assigned k loops same = apart_new n slot is k loops same
  assigned_apart (Some v) is assigned k loops same =
      true≢false (sym assigned ∙ subst IsLoopVariable (ap (variable_at n) (sym same) ∙ is) loops)

  widens_assigned : (o : Option Variable) → variable_at n slot ≡ o → IsAssigned n slot o → Widens n (after_assigning n slot o) slot
  widens_assigned None is assigned = widens_new n slot true is
  widens_assigned (Some v) is assigned = record { loops = λ k loops. (assigned_apart (Some v) is assigned k loops, loops) }

  -- nor is it a variable of a loop afterwards
  assigned_loops : (o : Option Variable) → variable_at n slot ≡ o → IsAssigned n slot o → (k : ℕ) → IsLoopVariable (variable_at (after_assigning n slot o) k) →
      (slot ≡ k → ⊥) × IsLoopVariable (variable_at n k)
  assigned_loops (Some v) is assigned k loops = (assigned_apart (Some v) is assigned k loops, loops)
  assigned_loops None is assigned k loops =
      (apart, subst IsLoopVariable (other_variable n slot k true apart) loops)
    where
      apart : slot ≡ k → ⊥
      apart same =
          let test : (slot == k) ≡ true = grind (arith, nat_tests) in
          true≢false (subst (λ (t : Bool). IsLoopVariable (cond t (Some (record { slot = slot; assignable = true })) (variable_at n k))) test loops)

-- the locals of a turn
turn_agrees : (n : Scope) (slots : List ℤ) (slot : ℕ) (v : ℤ) (s : State) → Agrees n slots s →
    Agrees (with_variable n slot false) (slice_set slots slot v) (assign slot v s)
turn_agrees n slots slot v s agrees = record {
  size = length_set s.slots slot v ∙ agrees.size ∙ sym (length_set slots slot v);
  same = λ k loops. same_set s.slots slots slot k v agrees.size (λ apart. agrees.same k (subst IsLoopVariable (other_variable n slot k false apart) loops));
}

assigned_agrees : (n : Scope) (slots : List ℤ) (slot : ℕ) (v : ℤ) (s : State) → IsAssigned n slot (variable_at n slot) → Agrees n slots s →
    Agrees (after_assigning n slot (variable_at n slot)) slots (assign slot v s)
assigned_agrees n slots slot v s assigned agrees = record {
  size = length_set s.slots slot v ∙ agrees.size;
  same = λ k loops.
      let are = assigned_loops n slot (variable_at n slot) refl assigned k loops in
      get_set s.slots slot k v are.0 ∙ agrees.same k are.1;
}

-- what a part keeps of a scope with one variable more, it keeps of the scope
narrower : (n wider : Scope) (slot : ℕ) (v : ℤ) (s t : State) → Widens n wider slot → Kept wider (assign slot v s) t → Kept n s t
narrower n wider slot v s t widens kept = record {
  size = kept.size ∙ length_set s.slots slot v;
  same = λ k loops. let are = widens.loops k loops in kept.same k are.1 ∙ get_set s.slots slot k v are.0;
}

-- ---- counts that are told

tell_append : (a b c : List ℕ) (xs ys : List Record) → TellCounts a xs b → TellCounts b ys c → TellCounts a (xs ++ ys) c
tell_append a b c _ ys (no_record counts) later = later
tell_append a b c _ ys (other counts left r xs plain more) later = other a c r (xs ++ ys) plain (tell_append a b c xs ys more later)
tell_append a b c _ ys (draw n counts left r xs is value below more) later =
    draw n counts c r (xs ++ ys) is value below (tell_append (n ∷ counts) b c xs ys more later)
tell_append a b c _ ys (closing n counts left r xs is value closes more) later =
    closing n counts c r (xs ++ ys) is value closes (tell_append counts b c xs ys more later)

-- where a part goes on, it has told these counts, and kept the locals of loops; else it has told the first of these
record Closed (n : Scope) (counts : List ℕ) (s t : State) : Type 0 where
  added : List Record
  records_are : t.records ≡ s.records ++ added
  tells : (later : List ℕ) → TellCounts (counts ++ later) added later
  kept : Kept n s t

record Begins (counts : List ℕ) (s t : State) : Type 0 where
  added : List Record
  records_are : t.records ≡ s.records ++ added
  tells : (later : List ℕ) → TellFirst (counts ++ later) added

abbrev Closes : {A : Type 0} → Scope → List ℕ → State → Outcome A → Type 0
Closes n counts s (Gives a t) = Closed n counts s t
Closes n counts s (Stops why line t) = Begins counts s t
Closes n counts s (Wants t) = Begins counts s t

closes_nothing : (n : Scope) (s t : State) → t.records ≡ s.records → t.slots ≡ s.slots → Closed n [] s t
closes_nothing n s t records slots =
    record { added = []; records_are = records ∙ sym (append-nil s.records); tells = λ later. no_record later; kept = kept_all n s t slots }

begins_nothing : (counts : List ℕ) (s : State) → Begins counts s s
begins_nothing counts s =
    record { added = []; records_are = sym (append-nil s.records); tells = λ later. record { left = counts ++ later; tells = no_record (counts ++ later) } }

both_added : (s t u : State) (xs ys : List Record) → t.records ≡ s.records ++ xs → u.records ≡ t.records ++ ys → u.records ≡ s.records ++ (xs ++ ys)
both_added s t u xs ys one more = more ∙ ap (λ (l : List Record). l ++ ys) one ∙ append_assoc s.records xs ys

tells_both : (a b later left : List ℕ) (xs ys : List Record) → ((after : List ℕ) → TellCounts (a ++ after) xs after) → TellCounts (b ++ later) ys left →
    TellCounts ((a ++ b) ++ later) (xs ++ ys) left
tells_both a b later left xs ys one more =
    subst (λ (l : List ℕ). TellCounts l (xs ++ ys) left) (sym (append_assoc a b later)) (tell_append (a ++ (b ++ later)) (b ++ later) left xs ys (one (b ++ later)) more)

begins_chain : (n : Scope) (a b : List ℕ) (s t u : State) → Closed n a s t → Begins b t u → Begins (a ++ b) s u
begins_chain n a b s t u one more = record {
  added = one.added ++ more.added;
  records_are = both_added s t u one.added more.added one.records_are more.records_are;
  tells = λ later. record { left = (more.tells later).left; tells = tells_both a b later (more.tells later).left one.added more.added one.tells (more.tells later).tells };
}

closes_chain : {A : Type 0} (n : Scope) (a b : List ℕ) (s t : State) (m : Outcome A) → Closed n a s t → Closes n b t m → Closes n (a ++ b) s m
closes_chain n a b s t (Gives x u) one more = record {
  added = one.added ++ more.added;
  records_are = both_added s t u one.added more.added one.records_are more.records_are;
  tells = λ later. tells_both a b later later one.added more.added one.tells (more.tells later);
  kept = kept_chain n s t u one.kept more.kept;
}
closes_chain n a b s t (Stops why line u) one more = begins_chain n a b s t u one more
closes_chain n a b s t (Wants u) one more = begins_chain n a b s t u one more

begins_more : (a b : List ℕ) (s t : State) → Begins a s t → Begins (a ++ b) s t
begins_more a b s t begins = record {
  added = begins.added;
  records_are = begins.records_are;
  tells = λ later. subst (λ (l : List ℕ). TellFirst l begins.added) (sym (append_assoc a b later)) (begins.tells (b ++ later));
}

closes_and_then : {A B : Type 0} (n : Scope) (a b : List ℕ) (s : State) (m : Outcome A) (next : A → State → Outcome B) → Closes n a s m →
    ((x : A) (t : State) → Kept n s t → Closes n b t (next x t)) → Closes n (a ++ b) s (and_then m next)
closes_and_then n a b s (Gives x t) next first later = closes_chain n a b s t (next x t) first (later x t first.kept)
closes_and_then n a b s (Stops why line t) next first later = begins_more a b s t first
closes_and_then n a b s (Wants t) next first later = begins_more a b s t first

closes_after : (n : Scope) (a b : List ℕ) (s : State) (m : Outcome (Unit {0})) (next : State → Outcome (Unit {0})) → Closes n a s m →
    ((t : State) → Kept n s t → Closes n b t (next t)) → Closes n (a ++ b) s (after m next)
closes_after n a b s (Gives x t) next first later = closes_chain n a b s t (next t) first (later t first.kept)
closes_after n a b s (Stops why line t) next first later = begins_more a b s t first
closes_after n a b s (Wants t) next first later = begins_more a b s t first

-- a record that is no Chunk
closes_record : (n : Scope) (r : Record) (s t : State) → number_drawn r.kind r.addr ≡ None → t.records ≡ s.records ++ r ∷ [] → t.slots ≡ s.slots → Closed n [] s t
closes_record n r s t plain records slots =
    record { added = r ∷ []; records_are = records; tells = λ later. other later later r [] plain (no_record later); kept = kept_all n s t slots }

closes_put_in : (n : Scope) (room : ℕ) (r : Record) (s : State) → number_drawn r.kind r.addr ≡ None → Closes n [] s (put_in room r s)
closes_put_in n zero r s plain = begins_nothing [] s
closes_put_in n (suc room) r s plain = closes_record n r s _ plain refl refl

closes_put : (n : Scope) (r : Record) (s : State) → number_drawn r.kind r.addr ≡ None → Closes n [] s (put r s)
unfolding put
closes_put n r s plain = closes_put_in n s.room r s plain

-- ---- expressions

closes_read_in : (n : Scope) (room : ℕ) (reads : List ℤ) (e : Element) (line site : ℕ) (s : State) → Closes n [] s (read_in room reads e site line s)
closes_read_in n zero reads e line site s = begins_nothing [] s
closes_read_in n (suc room) [] e line site s = begins_nothing [] s
closes_read_in n (suc room) (v ∷ reads) e line site s = closes_record n (access kind.Read e site line (fitted v e.width)) s _ refl refl refl

closes_loaded : (n : Scope) (e : Option Element) (line site : ℕ) (s : State) → Closes n [] s (loaded e line site s)
unfolding read
closes_loaded n None line site s = begins_nothing [] s
closes_loaded n (Some e) line site s = closes_read_in n s.room s.reads e line site s

closes_operated : (n : Scope) (o : Option ℤ) (line : ℕ) (s : State) → Closes n [] s (operated o line s)
closes_operated n None line s = begins_nothing [] s
closes_operated n (Some v) line s = closes_nothing n s s refl refl

closes_value : (n : Scope) (at : Site) (e : Term) (s : State) → Closes n [] s (value at e s)
unfolding value
closes_value n at (Number v) s = closes_nothing n s s refl refl
closes_value n at (Slot k) s = closes_nothing n s s refl refl
closes_value n at Tid s = closes_nothing n s s refl refl
closes_value n at Span s = closes_nothing n s s refl refl
closes_value n at (Load array index line site) s =
    closes_and_then n [] [] s (value at index s) _ (closes_value n at index s) (λ i t kept. closes_loaded n (element_at at.arrays array i) line site t)
closes_value n at (Neg operand) s =
    closes_and_then n [] [] s (value at operand s) _ (closes_value n at operand s) (λ v t kept. closes_nothing n t t refl refl)
closes_value n at (Binary op line left right) s =
    closes_and_then n [] [] s (value at left s) _ (closes_value n at left s) (λ x t kept.
    closes_and_then n [] [] t (value at right t) _ (closes_value n at right t) (λ y u more. closes_operated n (applied op x y) line u))

-- an even term has the value that the team's locals tell
even_is : (n : Scope) (slots : List ℤ) (at : Site) (e : Term) (s : State) → IsEvenTerm n e → Agrees n slots s → value at e s ≡ Gives (even_value at.span slots e) s
unfolding value
even_is n slots at (Number v) s even agrees = refl
even_is n slots at (Slot k) s even agrees = ap (λ (v : ℤ). Gives v s) (agrees.same k even)
even_is n slots at Tid s even agrees = absurd even
even_is n slots at Span s even agrees = refl
even_is n slots at (Load array index line site) s even agrees = absurd even
even_is n slots at (Neg operand) s even agrees = ap (λ m. and_then m (λ v t. Gives (negated v) t)) (even_is n slots at operand s even agrees)
even_is n slots at (Binary op line left right) s even agrees =
    ap (λ m. and_then m (λ x t. and_then (value at right t) (λ y u. operated (applied op x y) line u))) (even_is n slots at left s even.0 agrees)
    ∙ ap (λ m. and_then m (λ y u. operated (applied op (even_value at.span slots left) y) line u)) (even_is n slots at right s even.2 agrees)
    ∙ by op even.1
  where
    by : (o : Op) → IsEvenOp o →
        operated (applied o (even_value at.span slots left) (even_value at.span slots right)) line s
        ≡ Gives (unwrap_or (applied o (even_value at.span slots left) (even_value at.span slots right)) (pos 0)) s
    by Add is = refl
    by Sub is = refl
    by Mul is = refl
    by _ is = absurd is

-- and so has a bound that the text fixes
fixed_is : (slots : List ℤ) (at : Site) (e : Term) (s : State) → is_some (fixed_bound e) ≡ true → value at e s ≡ Gives (even_value at.span slots e) s
unfolding value
fixed_is slots at (Number v) s fixed = refl
fixed_is slots at (Neg (Number v)) s fixed = refl
fixed_is slots at _ s fixed = absurd (true≢false (sym fixed))

-- ---- loops

closes_branch : (n : Scope) (v : ℤ) (if_true if_false : State → Outcome (Unit {0})) (s : State) → Closes n [] s (if_true s) → Closes n [] s (if_false s) →
    Closes n [] s (branch v if_true if_false s)
closes_branch n (pos zero) if_true if_false s left right = right
closes_branch n (pos (suc k)) if_true if_false s left right = left
closes_branch n (negsuc k) if_true if_false s left right = left

closes_turns : (n : Scope) (slots : List ℤ) (count i : ℕ) (turn : ℕ → State → Outcome (Unit {0})) (counts : ℕ → List ℕ) (s : State) → Agrees n slots s →
    ((k : ℕ) (t : State) → Agrees n slots t → Closes n (counts k) t (turn k t)) → Closes n (each_turn count i counts) s (turns count i turn s)
closes_turns n slots zero i turn counts s agrees all = closes_nothing n s s refl refl
closes_turns n slots (suc count) i turn counts s agrees all =
    closes_after n (counts i) (each_turn count (suc i) counts) s (turn i s) _ (all i s agrees)
    (λ t kept. closes_turns n slots count (suc i) turn counts t (agrees_kept n slots s t agrees kept) all)

closes_each : (n : Scope) (slots : List ℤ) (is : List ℕ) (turn : ℕ → State → Outcome (Unit {0})) (s : State) → Agrees n slots s →
    ((k : ℕ) (t : State) → Agrees n slots t → Closes n [] t (turn k t)) → Closes n [] s (each is turn s)
closes_each n slots [] turn s agrees all = closes_nothing n s s refl refl
closes_each n slots (i ∷ is) turn s agrees all =
    closes_after n [] [] s (turn i s) _ (all i s agrees) (λ t kept. closes_each n slots is turn t (agrees_kept n slots s t agrees kept) all)

-- a draw, and the chunk drawn with those after it, or the end of the loop
closes_drawn : (n : Scope) (slots : List ℤ) (q total line : ℕ) (chunk : ℕ → State → Outcome (Unit {0})) (more : State → Outcome (Unit {0})) (s t : State) →
    t.records ≡ s.records ++ event kind.Chunk line (min q total) total ∷ [] → t.slots ≡ s.slots → Agrees n slots s →
    ((k : ℕ) (t : State) → Agrees n slots t → Closes n [] t (chunk k t)) → ((u : State) → Agrees n slots u → Closes n (total ∷ []) u (more u)) →
    Closes n (total ∷ []) s (drawn q total chunk more t)
closes_drawn n slots q total line chunk more s t records same agrees all later = by (nat_lt q total) refl
  where
    r : Record
    r = event kind.Chunk line (min q total) total

    there : Agrees n slots t
    there = agrees_kept n slots s t agrees (kept_all n s t same)

    -- the record of a draw leaves the loop open
    begun : (u : State) → min q total < total → Begins (total ∷ []) t u → Begins (total ∷ []) s u
    begun u below begins = record {
      added = r ∷ begins.added;
      records_are = both_added s t u (r ∷ []) begins.added records begins.records_are;
      tells = λ later. record {
        left = (begins.tells later).left;
        tells = draw total later (begins.tells later).left r begins.added refl refl below (begins.tells later).tells;
      };
    }

    open_still : (m : Outcome (Unit {0})) → min q total < total → Closes n (total ∷ []) t m → Closes n (total ∷ []) s m
    open_still (Gives a u) below closed = record {
      added = r ∷ closed.added;
      records_are = both_added s t u (r ∷ []) closed.added records closed.records_are;
      tells = λ later. draw total later later r closed.added refl refl below (closed.tells later);
      kept = kept_chain n s t u (kept_all n s t same) closed.kept;
    }
    open_still (Stops why line u) below begins = begun u below begins
    open_still (Wants u) below begins = begun u below begins

    by : (b : Bool) → nat_lt q total ≡ b → Closes n (total ∷ []) s (cond b (after (chunk q t) more) (Gives tt t))
    by true is =
        open_still (after (chunk q t) more) (grind (arith, nat_tests))
        (closes_after n [] (total ∷ []) t (chunk q t) more (all q t there) (λ u kept. later u (agrees_kept n slots t u there kept)))
    by false is = record {
      added = r ∷ [];
      records_are = records;
      tells = λ later. closing total later later r [] refl refl (grind (arith, nat_tests)) (no_record later);
      kept = kept_all n s t same;
    }

closes_draw : (n : Scope) (slots : List ℤ) (line total : ℕ) (chunk : ℕ → State → Outcome (Unit {0})) (more : State → Outcome (Unit {0})) (s : State) → Agrees n slots s →
    ((k : ℕ) (t : State) → Agrees n slots t → Closes n [] t (chunk k t)) → ((u : State) → Agrees n slots u → Closes n (total ∷ []) u (more u)) →
    Closes n (total ∷ []) s (and_then (draw_step line total s) (λ q t. drawn q total chunk more t))
unfolding draw_step
closes_draw n slots line total chunk more s agrees all later = by s.room s.chunks
  where
    by : (room : ℕ) (chunks : List ℕ) → Closes n (total ∷ []) s (and_then (draw_in room chunks line total s) (λ q t. drawn q total chunk more t))
    by zero chunks = begins_nothing (total ∷ []) s
    by (suc room) [] = begins_nothing (total ∷ []) s
    by (suc room) (q ∷ chunks) = closes_drawn n slots q total line chunk more s _ refl refl agrees all later

closes_draws : (n : Scope) (slots : List ℤ) (fuel line total : ℕ) (chunk : ℕ → State → Outcome (Unit {0})) (s : State) → Agrees n slots s →
    ((k : ℕ) (t : State) → Agrees n slots t → Closes n [] t (chunk k t)) → Closes n (total ∷ []) s (draws fuel line total chunk s)
closes_draws n slots zero line total chunk s agrees all = begins_nothing (total ∷ []) s
closes_draws n slots (suc fuel) line total chunk s agrees all =
    closes_draw n slots line total chunk (draws fuel line total chunk) s agrees all (λ u there. closes_draws n slots fuel line total chunk u there all)

closes_shared : (n : Scope) (slots : List ℤ) (schedule : Schedule) (at : Site) (line total : ℕ) (turn : ℕ → State → Outcome (Unit {0})) (s : State) → Agrees n slots s →
    ((k : ℕ) (t : State) → Agrees n slots t → Closes n [] t (turn k t)) → Closes n (chunks_in schedule total) s (shared schedule at line total turn s)
closes_shared n slots Even at line total turn s agrees all = closes_each n slots (even_iterations total at.lane at.span) turn s agrees all
closes_shared n slots (Static chunk) at line total turn s agrees all = closes_each n slots (static_iterations chunk total at.lane at.span) turn s agrees all
closes_shared n slots (Dynamic chunk) at line total turn s agrees all =
    closes_draws n slots s.room line (chunk_count chunk total) _ s agrees
    (λ q t there. closes_each n slots (chunk_iterations chunk total q) turn t there all)

closes_loop_end : (n : Scope) (nowait : Bool) (end : ℕ) (s : State) → Closes n [] s (loop_end nowait end s)
closes_loop_end n true end s = closes_nothing n s s refl refl
closes_loop_end n false end s = closes_put n (event kind.Barrier end 0 0) s refl

closes_stored : (n : Scope) (e : Option Element) (v : ℤ) (line site : ℕ) (s : State) → Closes n [] s (stored e v line site s)
closes_stored n None v line site s = begins_nothing [] s
closes_stored n (Some e) v line site s = closes_put n (access kind.Write e site line (fitted v e.width)) s refl

closes_updated : (n : Scope) (e : Option Element) (v : ℤ) (line site : ℕ) (s : State) → Closes n [] s (updated e v line site s)
closes_updated n None v line site s = begins_nothing [] s
closes_updated n (Some e) v line site s = closes_put n (access kind.Update e site line (fitted v e.width)) s refl

-- from a state with one local set, as seen from the one before
closes_set : (n wider : Scope) (counts : List ℕ) (slot : ℕ) (v : ℤ) (s : State) (m : Outcome (Unit {0})) → Widens n wider slot →
    Closes wider counts (assign slot v s) m → Closes n counts s m
closes_set n wider counts slot v s (Gives a t) widens closes =
    record { added = closes.added; records_are = closes.records_are; tells = closes.tells; kept = narrower n wider slot v s t widens closes.kept }
closes_set n wider counts slot v s (Stops why line t) widens closes = record { added = closes.added; records_are = closes.records_are; tells = closes.tells }
closes_set n wider counts slot v s (Wants t) widens closes = record { added = closes.added; records_are = closes.records_are; tells = closes.tells }

-- ---- bodies

-- a loop, by what its body and what follows it close
module _ (at : Site) (n : Scope) (slots : List ℤ) (slot : ℕ) (from to : Term) (body : Code) (s : State) (agrees : Agrees n slots s) (unused : variable_at n slot ≡ None)
    (next : State → Outcome (Unit {0})) (later : List ℕ)
    (inside : (locals : List ℤ) (w : State) → Agrees (with_variable n slot false) locals w → Closes (with_variable n slot false) (chunk_counts at.span locals body) w (run at body w))
    (follows : (w : State) → Agrees n slots w → Closes n later w (next w)) where
  abbrev first : ℤ
  first = even_value at.span slots from

  abbrev last : ℤ
  last = even_value at.span slots to

  abbrev turn : ℤ → ℕ → State → Outcome (Unit {0})
  turn a i w = run at body (assign slot (a +ℤ pos i) w)

  abbrev in_turn : ℤ → ℕ → List ℕ
  in_turn a i = chunk_counts at.span (slice_set slots slot (a +ℤ pos i)) body

  closes_turn : (a : ℤ) (i : ℕ) (w : State) → Agrees n slots w → Closes n (in_turn a i) w (turn a i w)
  closes_turn a i w there =
      closes_set n (with_variable n slot false) (in_turn a i) slot (a +ℤ pos i) w (turn a i w) (widens_new n slot false unused)
      (inside (slice_set slots slot (a +ℤ pos i)) (assign slot (a +ℤ pos i) w) (turn_agrees n slots slot (a +ℤ pos i) w there))

  fixed_parts : (a b : Bool) → (a && b) ≡ true → (a ≡ true) × (b ≡ true)
  fixed_parts true b is = (refl, is)
  fixed_parts false b is = (is, absurd (true≢false (sym is)))

  closes_loop : (work : Bool) → code_holds_work body ≡ work → (work ≡ true → has_fixed_bounds from to ≡ true) →
      Closes n (cond work (each_turn (total_of first last) 0 (in_turn first)) [] ++ later) s
      (and_then (value at from s) (λ a t. and_then (value at to t) (λ b u. after (turns (total_of a b) 0 (turn a) u) next)))
  closes_loop true is fixed =
      let bounds = fixed_parts (is_some (fixed_bound from)) (is_some (fixed_bound to)) (fixed refl) in
      subst (λ m. Closes n (each_turn (total_of first last) 0 (in_turn first) ++ later) s
      (and_then m (λ a t. and_then (value at to t) (λ b u. after (turns (total_of a b) 0 (turn a) u) next))))
      (sym (fixed_is slots at from s bounds.0))
      (subst (λ m. Closes n (each_turn (total_of first last) 0 (in_turn first) ++ later) s
      (and_then m (λ b u. after (turns (total_of first b) 0 (turn first) u) next)))
      (sym (fixed_is slots at to s bounds.1))
      (closes_after n (each_turn (total_of first last) 0 (in_turn first)) later s (turns (total_of first last) 0 (turn first) s) next
      (closes_turns n slots (total_of first last) 0 (turn first) (in_turn first) s agrees (closes_turn first))
      (λ w kept. follows w (agrees_kept n slots s w agrees kept))))
  closes_loop false is fixed =
      closes_and_then n [] later s (value at from s) _ (closes_value n at from s) (λ a t kept.
      closes_and_then n [] later t (value at to t) _ (closes_value n at to t) (λ b u more.
      let there = agrees_kept n slots t u (agrees_kept n slots s t agrees kept) more in
      closes_after n [] later u (turns (total_of a b) 0 (turn a) u) next
      (subst (λ (l : List ℕ). Closes n l u (turns (total_of a b) 0 (turn a) u))
      (each_turn-none (total_of a b) 0 (in_turn a) (λ k. idle_counts at.span (slice_set slots slot (a +ℤ pos k)) body is))
      (closes_turns n slots (total_of a b) 0 (turn a) (in_turn a) u there (closes_turn a)))
      (λ w still. follows w (agrees_kept n slots u w there still))))

  closes_for : (schedule : Schedule) (nowait : Bool) (line end : ℕ) → IsEvenTerm n from → IsEvenTerm n to → code_holds_work body ≡ false →
      Closes n (chunks_in schedule (total_of first last) ++ later) s
      (and_then (value at from s) (λ a t. and_then (value at to t) (λ b u.
      after (shared schedule at line (total_of a b) (turn a) u) (λ w. after (loop_end nowait end w) next))))
  closes_for schedule nowait line end even_from even_to idle =
      subst (λ m. Closes n (chunks_in schedule (total_of first last) ++ later) s (and_then m (λ a t. and_then (value at to t) (λ b u.
      after (shared schedule at line (total_of a b) (turn a) u) (λ w. after (loop_end nowait end w) next)))))
      (sym (even_is n slots at from s even_from agrees))
      (subst (λ m. Closes n (chunks_in schedule (total_of first last) ++ later) s (and_then m (λ b u.
      after (shared schedule at line (total_of first b) (turn first) u) (λ w. after (loop_end nowait end w) next))))
      (sym (even_is n slots at to s even_to agrees))
      (closes_after n (chunks_in schedule (total_of first last)) later s (shared schedule at line (total_of first last) (turn first) s) _
      (closes_shared n slots schedule at line (total_of first last) (turn first) s agrees (λ i w there.
      subst (λ (l : List ℕ). Closes n l w (turn first i w)) (idle_counts at.span (slice_set slots slot (first +ℤ pos i)) body idle) (closes_turn first i w there)))
      (λ w kept. closes_after n [] later w (loop_end nowait end w) next (closes_loop_end n nowait end w)
      (λ x still. follows x (agrees_kept n slots w x (agrees_kept n slots s w agrees kept) still)))))

closes_forked : (n : Scope) (counts : List ℕ) (team : TeamTree) (t : State) (next : State → Outcome (Unit {0})) → Closes n counts (forked team t) (next (forked team t)) →
    Closes n counts t (next (forked team t))
closes_forked n counts team t next closes = closes_chain n [] counts t (forked team t) (next (forked team t)) (closes_nothing n t (forked team t) refl refl) closes

forked_agrees : (n : Scope) (slots : List ℤ) (team : TeamTree) (t : State) → Agrees n slots t → Agrees n slots (forked team t)
forked_agrees n slots team t there = record { size = there.size; same = there.same }

-- the statements close these loops, whichever lane executes them
closes_run : (at : Site) (code : Code) (n : Scope) (slots : List ℤ) (s : State) → IsScoped n code → IsEven code → Agrees n slots s →
    Closes n (chunk_counts at.span slots code) s (run at code s)
unfolding run
closes_run at Done n slots s scoped even agrees = closes_nothing n s s refl refl
closes_run at (Set slot e rest) n slots s scoped even agrees =
    let wider = after_assigning n slot (variable_at n slot) in
    closes_and_then n [] (chunk_counts at.span slots rest) s (value at e s) _ (closes_value n at e s) (λ v t kept.
    closes_set n wider (chunk_counts at.span slots rest) slot v t (run at rest (assign slot v t)) (widens_assigned n slot (variable_at n slot) refl scoped.1)
    (closes_run at rest wider slots (assign slot v t) scoped.2 even (assigned_agrees n slots slot v t scoped.1 (agrees_kept n slots s t agrees kept))))
closes_run at (Store array index e line site rest) n slots s scoped even agrees =
    let counts = chunk_counts at.span slots rest in
    closes_and_then n [] counts s (value at index s) _ (closes_value n at index s) (λ i t kept.
    closes_and_then n [] counts t (value at e t) _ (closes_value n at e t) (λ v u more.
    closes_after n [] counts u (stored (element_at at.arrays array i) v line site u) (run at rest) (closes_stored n (element_at at.arrays array i) v line site u) (λ w still.
    closes_run at rest n slots w scoped.3 even
    (agrees_kept n slots u w (agrees_kept n slots t u (agrees_kept n slots s t agrees kept) more) still))))
closes_run at (Update array index e minus line site rest) n slots s scoped even agrees =
    let counts = chunk_counts at.span slots rest in
    closes_and_then n [] counts s (value at index s) _ (closes_value n at index s) (λ i t kept.
    closes_and_then n [] counts t (value at e t) _ (closes_value n at e t) (λ v u more.
    closes_after n [] counts u (updated (element_at at.arrays array i) (amount_of minus v) line site u) (run at rest) (closes_updated n (element_at at.arrays array i) (amount_of minus v) line site u) (λ w still.
    closes_run at rest n slots w scoped.3 even
    (agrees_kept n slots u w (agrees_kept n slots t u (agrees_kept n slots s t agrees kept) more) still))))
closes_run at (If test if_true if_false rest) n slots s scoped even agrees =
    closes_and_then n [] (chunk_counts at.span slots rest) s (value at test s) _ (closes_value n at test s) (λ v t kept.
    let there = agrees_kept n slots s t agrees kept in
    closes_after n [] (chunk_counts at.span slots rest) t (branch v (run at if_true) (run at if_false) t) (run at rest)
    (closes_branch n v (run at if_true) (run at if_false) t
    (subst (λ (l : List ℕ). Closes n l t (run at if_true t)) (idle_counts at.span slots if_true even.0) (closes_run at if_true n slots t scoped.1 even.2 there))
    (subst (λ (l : List ℕ). Closes n l t (run at if_false t)) (idle_counts at.span slots if_false even.1) (closes_run at if_false n slots t scoped.2 even.3 there)))
    (λ w more. closes_run at rest n slots w scoped.3 even.4 (agrees_kept n slots t w there more)))
closes_run at (Loop slot from to body rest) n slots s scoped even agrees =
    closes_loop at n slots slot from to body s agrees scoped.2.unused (run at rest) (chunk_counts at.span slots rest)
    (λ locals w there. closes_run at body (with_variable n slot false) locals w scoped.3 even.1 there)
    (λ w there. closes_run at rest n slots w scoped.4 even.2 there)
    (code_holds_work body) refl even.0
closes_run at (Parallel lanes line end body rest) n slots s scoped even agrees =
    let team : TeamTree = record { span = lanes; line = line; end = end; body = body } in
    let counts = chunk_counts at.span slots rest in
    closes_after n [] counts s (put (event kind.Region line 0 lanes) s) _ (closes_put n (event kind.Region line 0 lanes) s refl) (λ t kept.
    closes_forked n counts team t (run at rest)
    (closes_run at rest n slots (forked team t) scoped.1 even.1 (forked_agrees n slots team t (agrees_kept n slots s t agrees kept))))
closes_run at (For slot from to schedule nowait line end body rest) n slots s scoped even agrees =
    closes_for at n slots slot from to body s agrees scoped.2.unused (run at rest) (chunk_counts at.span slots rest)
    (λ locals w there. closes_run at body (with_variable n slot false) locals w scoped.3 even.1 there)
    (λ w there. closes_run at rest n slots w scoped.4 even.2 there)
    schedule nowait line end scoped.0 scoped.1 even.0
closes_run at (Barrier line rest) n slots s scoped even agrees =
    closes_after n [] (chunk_counts at.span slots rest) s (put (event kind.Barrier line 0 0) s) (run at rest) (closes_put n (event kind.Barrier line 0 0) s refl)
    (λ t kept. closes_run at rest n slots t scoped even (agrees_kept n slots s t agrees kept))
closes_run at (Critical mutex line end body rest) n slots s scoped even agrees =
    let later = chunk_counts at.span slots rest in
    closes_after n [] later s (put (event kind.Lock line mutex 0) s) _ (closes_put n (event kind.Lock line mutex 0) s refl) (λ t kept.
    let there = agrees_kept n slots s t agrees kept in
    closes_after n [] later t (run at body t) _
    (subst (λ (l : List ℕ). Closes n l t (run at body t)) (idle_counts at.span slots body even.0) (closes_run at body n slots t scoped.0 even.1 there)) (λ u more.
    closes_after n [] later u (put (event kind.Unlock end mutex 0) u) (run at rest) (closes_put n (event kind.Unlock end mutex 0) u refl) (λ w still.
    closes_run at rest n slots w scoped.1 even.2 (agrees_kept n slots u w (agrees_kept n slots t u there more) still))))

-- ---- whole traces

-- a task tells the first of its team's counts
told_first : (n : Scope) (counts : List ℕ) (s : State) (m : Outcome (Unit {0})) → s.records ≡ [] → Closes n counts s m → TellFirst (counts ++ []) (state_of m).records
told_first n counts s (Gives a t) none closes =
    subst (TellFirst (counts ++ [])) (sym (closes.records_are ∙ ap (λ (rs : List Record). rs ++ closes.added) none)) (record { left = []; tells = closes.tells [] })
told_first n counts s (Stops why line t) none closes =
    subst (TellFirst (counts ++ [])) (sym (closes.records_are ∙ ap (λ (rs : List Record). rs ++ closes.added) none)) (closes.tells [])
told_first n counts s (Wants t) none closes =
    subst (TellFirst (counts ++ [])) (sym (closes.records_are ∙ ap (λ (rs : List Record). rs ++ closes.added) none)) (closes.tells [])

closes_task : (program : Program) (n : Scope) (start : Start) → IsScoped n start.team.body → IsEven start.team.body → (reads : List ℤ) (chunks : List ℕ) →
    Closes n (chunk_counts start.team.span start.slots start.team.body ++ []) (state_at start reads chunks) (task program start reads chunks)
unfolding task
closes_task program n start scoped even reads chunks =
    let s = state_at start reads chunks in
    closes_after n (chunk_counts start.team.span start.slots start.team.body) [] s (run (site_of program start) start.team.body s) (put (event kind.End start.team.end 0 0))
    (closes_run (site_of program start) start.team.body n start.slots s scoped even (record { size = refl; same = λ k loops. refl }))
    (λ t kept. closes_put n (event kind.End start.team.end 0 0) t refl)

pub same_chunks : (names : Scope) (team : TeamTree) (slots : List ℤ) → IsScoped names team.body → IsEven team.body → HasCounts team slots
same_chunks names team slots scoped even = record {
  counts = (chunk_counts team.span slots team.body ++ []) ++ [];
  told = λ program lane reads chunks.
      let start : Start = record { team = team; lane = lane; slots = slots } in
      told_first names (chunk_counts team.span slots team.body ++ []) (state_at start reads chunks) (task program start reads chunks) refl
      (closes_task program names start scoped even reads chunks);
}
