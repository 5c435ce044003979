-- Statements, as far as they follow the log.
use Rattle.std.proofs.Common.{◌≡◌, ◌≢◌, refl, ap, sym, ◌∙◌, subst, ℕ, suc, ◌+◌, ◌-◌, ◌<◌, Bool, true, false, List, [], ◌∷◌, ◌++◌, ℤ, pos, ◌+ℤ◌, Option, Some, None, Result, Ok, Err, arith}
use Rattle.std.specs.Prelude.{slice_set}
use Rattle.sw_base.specs.Environment.{FolderState}
use Rattle.log_format.specs.declared.record.Record.{Record}
use Rattle.log_format.specs.declared.record.Kind.{Kind}
use Rattle.log_format.specs.declared.record.Kind.TheVariants as kind
use Rattle.kernel_model.specs.declared.change.Change.{Change}
use Rattle.kernel_model.specs.declared.change.Change.TheVariants.{Store, Update}
use Rattle.kernel_model.specs.Changing.{amount, changing, kind_of}
use Rattle.kernel_model.proofs.Changing.{after_index, changed_grows, put_value, run-changing, valued_grows}
use Rattle.kernel_syntax.specs.declared.syntax.Schedule.{Schedule}
use Rattle.kernel_syntax.specs.declared.syntax.Stmt.{Stmt}
use Rattle.log_format.specs.Fitting.{fitted}
use Rattle.kernel_syntax.specs.Program.{stmt_code, code_of}
use Rattle.kernel_syntax.proofs.Equations.{stmts_code-append}
use Rattle.kernel_syntax.specs.Tree as tree
use Rattle.kernel_syntax.specs.Tree.{Term, Code, TeamTree}
use Rattle.kernel_model.specs.Drawing.{turn_from}
use Rattle.kernel_model.specs.State.{State, Outcome, Gives, and_then, after, assign, put, event, state_of}
use Rattle.kernel_model.specs.declared.stop.StopWhy.TheVariants.{Index}
use Rattle.kernel_model.specs.Growth.{Grows}
use Rattle.kernel_model.specs.Iterations.{total_of}
use Rattle.kernel_model.specs.Trace.{run, branch, turns, changed, shared, loop_end, forked}
use Rattle.kernel_model.specs.Value.{Site, Element, element_at, access, value}
use Rattle.kernel_model.proofs.Equations.{run-Done, run-Set, run-If, run-Loop, run-Parallel, run-For, run-Barrier, run-Critical}
use Rattle.kernel_model.proofs.Growing.{grows-plain, grows-steps, run-grows, value-grows, test-grows}
use Rattle.kernel_model.proofs.Joining.{run-stmts, run-first, turns-add, after-nothing, after-done, branch-zero, branch-other}
use Rattle.kernel_model.proofs.Turns.{turn_grows}
use Rattle.kernel_model.proofs.Steps.{kept-and_then, kept-after, kept-turns, kept-shared, kept-put}
use Rattle.log_replay.specs.Following.{Standing, HasReadTo, IsMark, IsOff, Ends, FollowsPart, here}
use Rattle.log_replay.specs.Sharing.{sharing}
use Rattle.log_replay.specs.declared.stray.Stray.{Stray}
use Rattle.log_replay.specs.declared.stray.Stray.TheVariants as stray
use Rattle.log_replay.proofs.Following.{follows_same, follows_then, follows_stop, follows_nothing, then_after, stop_after}
use Rattle.log_replay.proofs.Stepping.{stops_off}
use Rattle.log_replay.proofs.Values.{next_number}

abbrev pub Part : Type 0
Part = State → Outcome (Unit {0})

pub follows_done : (told : FolderState) (at : Site) (x : Standing) → FollowsPart told (run at tree.Done) x x (Ok tt)
follows_done told at x = follows_same told (λ s. Gives tt s) (run at tree.Done) x x (Ok tt) (run-Done at) (follows_nothing told tt x)

-- ---- a variable is set

abbrev pub assigned : ℕ → ℤ → Standing → Standing
assigned slot v x = record x { slots = slice_set x.slots slot v }

is_at_assigned : (told : FolderState) (log done rest : List Record) (slot : ℕ) (v : ℤ) (x : Standing) → HasReadTo told log done rest x → HasReadTo told log done rest (assigned slot v x)
is_at_assigned told log done rest slot v x at = record {
  content = at.content;
  is_told = at.is_told;
  stands = at.stands;
  parts = at.parts;
  count = at.count;
  ahead = at.ahead;
  fits = at.fits;
}

pub follows_assigned : (told : FolderState) (part : Part) (slot : ℕ) (v : ℤ) (x new : Standing) (r : Result (Unit {0}) Stray) → FollowsPart told part (assigned slot v x) new r
    → FollowsPart told (λ s. part (assign slot v s)) x new r
follows_assigned told part slot v x new r follows = λ log done rest at. follows log done rest (is_at_assigned told log done rest slot v x at)

module _ (told : FolderState) (at : Site) (slot : ℕ) (e : Term) (old mid : Standing) where
  abbrev after_value : ℤ → Part
  after_value v s = run at tree.Done (assign slot v s)

  pub set_stops : (why : Stray) → FollowsPart told (value at e) old mid (Err why) → FollowsPart told (run at (tree.Set slot e tree.Done)) old mid (Err why)
  set_stops why first =
      follows_same told _ (run at (tree.Set slot e tree.Done)) old mid (Err why) (run-Set at slot e tree.Done)
      (follows_stop told (value at e) after_value old mid mid why
      (λ v s. grows-plain.chain s (assign slot v s) _ (grows-plain.assigns slot v s) (run-grows at tree.Done (assign slot v s))) first)

  pub set_goes : (v : ℤ) → FollowsPart told (value at e) old mid (Ok v) → FollowsPart told (run at (tree.Set slot e tree.Done)) old (assigned slot v mid) (Ok tt)
  set_goes v first =
      follows_same told _ (run at (tree.Set slot e tree.Done)) old (assigned slot v mid) (Ok tt) (run-Set at slot e tree.Done)
      (follows_then told (value at e) after_value old told refl v mid (assigned slot v mid) (Ok tt) first
      (follows_assigned told (run at tree.Done) slot v mid (assigned slot v mid) (Ok tt) (follows_done told at (assigned slot v mid))))

-- ---- a store or an update

pub change_mark : (c : Change) → IsMark (kind_of c)
change_mark Store = tt
change_mark (Update minus) = tt

pub changes_none : (told : FolderState) (k : Kind) (found : Option Element) (v : ℤ) (line site : ℕ) (old new : Standing) (e : Stray) → found ≡ None → e ≡ stray.Differs (next_number old)
    → FollowsPart told (changed k found v line site) old new (Err e)
changes_none told k found v line site old new e none is = λ log done rest at.
    subst (λ (x : Stray). Ends told log (changed k found v line site (here old done rest)) new (Err x)) (sym is)
    (subst (λ (o : Option Element). Ends told log (changed k o v line site (here old done rest)) new (Err (stray.Differs (next_number old)))) (sym none)
    (stops_off (Unit {0}) told log done rest old at (next_number old) refl Index line))

pub changes_some : (told : FolderState) (k : Kind) (found : Option Element) (e : Element) (v number : ℤ) (line site : ℕ) (old new : Standing) (r : Result (Unit {0}) Stray) → found ≡ Some e → number ≡ fitted v e.width
    → FollowsPart told (put (access k e site line number)) old new r → FollowsPart told (changed k found v line site) old new r
changes_some told k found e v number line site old new r is number_is follows =
    subst (λ (o : Option Element). FollowsPart told (changed k o v line site) old new r) (sym is)
    (subst (λ (x : ℤ). FollowsPart told (put (access k e site line x)) old new r) number_is follows)

module _ (told : FolderState) (c : Change) (at : Site) (array : ℕ) (index e : Term) (line site : ℕ) (old : Standing) where
  abbrev of_index : ℤ → Part
  of_index = after_index c at array index e line site tree.Done

  abbrev of_value : ℤ → ℤ → Part
  of_value = put_value c at array index e line site tree.Done

  abbrev change : Part
  change = run at (changing c array index e line site tree.Done)

  pub index_stops : (mid : Standing) (why : Stray) → FollowsPart told (value at index) old mid (Err why) → FollowsPart told change old mid (Err why)
  index_stops mid why first =
      follows_same told _ change old mid (Err why) (run-changing c at array index e line site tree.Done)
      (follows_stop told (value at index) of_index old mid mid why (valued_grows c at array index e line site tree.Done) first)

  module _ (i : ℤ) (mid : Standing) (first : FollowsPart told (value at index) old mid (Ok i)) where
    change_after : (new : Standing) (r : Result (Unit {0}) Stray) → FollowsPart told (of_index i) mid new r → FollowsPart told change old new r
    change_after new r second =
        follows_same told _ change old new r (run-changing c at array index e line site tree.Done)
        (follows_then told (value at index) of_index old told refl i mid new r first second)

    pub value_stops : (new : Standing) (why : Stray) → FollowsPart told (value at e) mid new (Err why) → FollowsPart told change old new (Err why)
    value_stops new why second = change_after new (Err why) (follows_stop told (value at e) (of_value i) mid new new why (changed_grows c at array index e line site tree.Done i) second)

    pub change_goes : (last new : Standing) (v : ℤ) (r : Result (Unit {0}) Stray) → FollowsPart told (value at e) mid last (Ok v)
        → FollowsPart told (changed (kind_of c) (element_at at.arrays array i) (amount c v) line site) last new r → FollowsPart told change old new r
    change_goes last new v r second third =
        change_after new r
        (follows_then told (value at e) (of_value i) mid told refl v last new r second
        (follows_same told (changed (kind_of c) (element_at at.arrays array i) (amount c v) line site) (of_value i v) last new r (λ s. after-done at (changed (kind_of c) (element_at at.arrays array i) (amount c v) line site s)) third))

-- ---- lists of statements

module _ (told : FolderState) (at : Site) (prefix : List Stmt) (stmt : Stmt) (old mid new : Standing) (before : FollowsPart told (run at (code_of prefix)) old mid (Ok tt)) where
  -- one statement more
  pub statements_next : FollowsPart told (run at (stmt_code stmt tree.Done)) mid new (Ok tt) → FollowsPart told (run at (code_of (prefix ++ stmt ∷ []))) old new (Ok tt)
  statements_next next =
      follows_same told _ (run at (code_of (prefix ++ stmt ∷ []))) old new (Ok tt)
      (λ s. ap (λ c. run at c s) (stmts_code-append prefix (stmt ∷ []) tree.Done) ∙ run-stmts at prefix (stmt_code stmt tree.Done) s)
      (then_after told (run at (code_of prefix)) (run at (stmt_code stmt tree.Done)) old told refl mid new (Ok tt) before next)

  -- the next one stops
  pub statements_stop : (rest : List Stmt) (why : Stray) → FollowsPart told (run at (stmt_code stmt tree.Done)) mid new (Err why) → FollowsPart told (run at (code_of (prefix ++ stmt ∷ rest))) old new (Err why)
  statements_stop rest why next =
      follows_same told _ (run at (code_of (prefix ++ stmt ∷ rest))) old new (Err why)
      (λ s. ap (λ c. run at c s) (stmts_code-append prefix (stmt ∷ rest) tree.Done) ∙ run-stmts at prefix (stmt_code stmt (code_of rest)) s)
      (then_after told (run at (code_of prefix)) (run at (stmt_code stmt (code_of rest))) old told refl mid new (Err why) before
      (follows_same told _ (run at (stmt_code stmt (code_of rest))) mid new (Err why) (run-first at stmt (code_of rest))
      (stop_after told (run at (stmt_code stmt tree.Done)) (run at (code_of rest)) mid new new why (run-grows at (code_of rest)) next)))

-- ---- tests

module _ (told : FolderState) (at : Site) (test : Term) (if_true if_false : Code) (old mid : Standing) where
  abbrev after_test : ℤ → Part
  after_test v s = after (branch v (run at if_true) (run at if_false) s) (run at tree.Done)

  abbrev choice : Part
  choice = run at (tree.If test if_true if_false tree.Done)

  pub test_stops : (why : Stray) → FollowsPart told (value at test) old mid (Err why) → FollowsPart told choice old mid (Err why)
  test_stops why first =
      follows_same told _ choice old mid (Err why) (run-If at test if_true if_false tree.Done) (follows_stop told (value at test) after_test old mid mid why (test-grows at if_true if_false) first)

  module _ (v : ℤ) (new : Standing) (r : Result (Unit {0}) Stray) (first : FollowsPart told (value at test) old mid (Ok v)) where
    chosen_goes : (code : Code) → ((s : State) → branch v (run at if_true) (run at if_false) s ≡ run at code s) → FollowsPart told (run at code) mid new r → FollowsPart told choice old new r
    chosen_goes code is second =
        follows_same told _ choice old new r (run-If at test if_true if_false tree.Done)
        (follows_then told (value at test) after_test old told refl v mid new r first
        (follows_same told (run at code) (after_test v) mid new r (λ s. after-done at (branch v (run at if_true) (run at if_false) s) ∙ is s) second))

    pub else_goes : v ≡ pos 0 → FollowsPart told (run at if_false) mid new r → FollowsPart told choice old new r
    else_goes is = chosen_goes if_false (λ s. branch-zero v (run at if_true) (run at if_false) s is)

    pub then_goes : v ≢ pos 0 → FollowsPart told (run at if_true) mid new r → FollowsPart told choice old new r
    then_goes other = chosen_goes if_true (λ s. branch-other v (run at if_true) (run at if_false) s other)

-- ---- loops

module _ (told : FolderState) (at : Site) (body : Code) (slot : ℕ) (from : ℤ) (first : ℕ) where
  module _ (i : ℕ) (old mid new : Standing) (before : FollowsPart told (turns i first (turn_from at body slot from)) old mid (Ok tt)) where
    turns_more : (n : ℕ) (r : Result (Unit {0}) Stray) → FollowsPart told (turns n (first + i) (turn_from at body slot from)) mid new r → FollowsPart told (turns (i + n) first (turn_from at body slot from)) old new r
    turns_more n r next =
        follows_same told _ (turns (i + n) first (turn_from at body slot from)) old new r (λ s. turns-add i n first (turn_from at body slot from) s)
        (then_after told (turns i first (turn_from at body slot from)) (turns n (first + i) (turn_from at body slot from)) old told refl mid new r before next)

    pub turns_next : FollowsPart told (turn_from at body slot from (first + i)) mid new (Ok tt) → FollowsPart told (turns (i + 1) first (turn_from at body slot from)) old new (Ok tt)
    turns_next next = turns_more 1 (Ok tt)
        (follows_same told (turn_from at body slot from (first + i)) (turns 1 (first + i) (turn_from at body slot from)) mid new (Ok tt) (λ s. after-nothing (turn_from at body slot from (first + i) s)) next)

    pub turns_stop : (count : ℕ) (why : Stray) → i < count → FollowsPart told (turn_from at body slot from (first + i)) mid new (Err why) → FollowsPart told (turns count first (turn_from at body slot from)) old new (Err why)
    turns_stop count why less next =
        subst (λ (n : ℕ). FollowsPart told (turns n first (turn_from at body slot from)) old new (Err why)) (let e : i + suc (count - i - 1) ≡ count = omega arith in e)
        (turns_more (suc (count - i - 1)) (Err why)
        (stop_after told (turn_from at body slot from (first + i)) (turns (count - i - 1) (suc (first + i)) (turn_from at body slot from)) mid new new why
        (λ s. kept-turns Grows grows-plain (count - i - 1) (suc (first + i)) (turn_from at body slot from) s (turn_grows at body slot from)) next))

-- what comes after two bounds
module _ (told : FolderState) (at : Site) (from to : Term) (rest : ℤ → ℤ → Part) (grows : (a b : ℤ) (s : State) → Grows s (state_of (rest a b s))) (old : Standing) where
  abbrev pub bounded_part : Part
  bounded_part s = and_then (value at from s) (λ a s. and_then (value at to s) (rest a))

  abbrev after_from : ℤ → Part
  after_from a s = and_then (value at to s) (rest a)

  pub from_stops : (mid : Standing) (why : Stray) → FollowsPart told (value at from) old mid (Err why) → FollowsPart told bounded_part old mid (Err why)
  from_stops mid why first = follows_stop told (value at from) after_from old mid mid why (λ a s. kept-and_then Grows grows-plain s (value at to s) (rest a) (value-grows at to s) (grows a)) first

  module _ (a : ℤ) (mid : Standing) (first : FollowsPart told (value at from) old mid (Ok a)) where
    pub to_stops : (new : Standing) (why : Stray) → FollowsPart told (value at to) mid new (Err why) → FollowsPart told bounded_part old new (Err why)
    to_stops new why second = follows_then told (value at from) after_from old told refl a mid new (Err why) first (follows_stop told (value at to) (rest a) mid new new why (grows a) second)

    pub bounds_go : (b : ℤ) (last new : Standing) (r : Result (Unit {0}) Stray) → FollowsPart told (value at to) mid last (Ok b) → FollowsPart told (rest a b) last new r → FollowsPart told bounded_part old new r
    bounds_go b last new r second third = follows_then told (value at from) after_from old told refl a mid new r first (follows_then told (value at to) (rest a) mid told refl b last new r second third)

module _ (at : Site) (slot : ℕ) (body : Code) where
  abbrev pub turns_of : ℤ → ℤ → Part
  turns_of a b s = turns (total_of a b) 0 (turn_from at body slot a) s

  pub turns_of_grow : (a b : ℤ) (s : State) → Grows s (state_of (turns_of a b s))
  turns_of_grow a b s = kept-turns Grows grows-plain (total_of a b) 0 (turn_from at body slot a) s (turn_grows at body slot a)

  abbrev pub share_of : Schedule → ℕ → ℤ → ℤ → Part
  share_of schedule line a b s = shared schedule at line (total_of a b) (turn_from at body slot a) s

  pub share_of_grows : (schedule : Schedule) (line : ℕ) (a b : ℤ) (s : State) → Grows s (state_of (share_of schedule line a b s))
  share_of_grows schedule line a b s = kept-shared Grows grows-plain schedule at line (total_of a b) (turn_from at body slot a) s (turn_grows at body slot a)

bounds_done : (at : Site) (from to : Term) (rest : ℤ → ℤ → Part) (s : State)
    → and_then (value at from s) (λ a s. and_then (value at to s) (λ b s. after (rest a b s) (run at tree.Done))) ≡ and_then (value at from s) (λ a s. and_then (value at to s) (rest a))
bounds_done at from to rest s = by_from (value at from s) where
  by_to : (a : ℤ) (m : Outcome ℤ) → and_then m (λ b s. after (rest a b s) (run at tree.Done)) ≡ and_then m (rest a)
  by_to a (Gives b t) = after-done at (rest a b t)
  by_to a (Outcome.Stops why line t) = refl
  by_to a (Outcome.Wants t) = refl

  by_from : (m : Outcome ℤ) → and_then m (λ a s. and_then (value at to s) (λ b s. after (rest a b s) (run at tree.Done))) ≡ and_then m (λ a s. and_then (value at to s) (rest a))
  by_from (Gives a t) = by_to a (value at to t)
  by_from (Outcome.Stops why line t) = refl
  by_from (Outcome.Wants t) = refl

pub loop_is : (at : Site) (slot : ℕ) (from to : Term) (body : Code) (s : State) → run at (tree.Loop slot from to body tree.Done) s ≡ and_then (value at from s) (λ a s. and_then (value at to s) (turns_of at slot body a))
loop_is at slot from to body s = run-Loop at slot from to body tree.Done s ∙ bounds_done at from to (turns_of at slot body) s

-- ---- worksharing loops and barriers

for_is : (at : Site) (slot : ℕ) (from to : Term) (schedule : Schedule) (nowait : Bool) (line end : ℕ) (body : Code) (s : State)
    → run at (tree.For slot from to schedule nowait line end body tree.Done) s ≡ after (sharing at slot from to schedule line body s) (loop_end nowait end)
for_is at slot from to schedule nowait line end body s = run-For at slot from to schedule nowait line end body tree.Done s ∙ by_from (value at from s) where
  by_share : (m : Outcome (Unit {0})) → after m (λ s. after (loop_end nowait end s) (run at tree.Done)) ≡ after m (loop_end nowait end)
  by_share (Gives u t) = after-done at (loop_end nowait end t)
  by_share (Outcome.Stops why at_line t) = refl
  by_share (Outcome.Wants t) = refl

  by_to : (a : ℤ) (m : Outcome ℤ) → and_then m (λ b s. after (share_of at slot body schedule line a b s) (λ s. after (loop_end nowait end s) (run at tree.Done))) ≡ after (and_then m (share_of at slot body schedule line a)) (loop_end nowait end)
  by_to a (Gives b t) = by_share (share_of at slot body schedule line a b t)
  by_to a (Outcome.Stops why at_line t) = refl
  by_to a (Outcome.Wants t) = refl

  by_from : (m : Outcome ℤ) → and_then m (λ a s. and_then (value at to s) (λ b s. after (share_of at slot body schedule line a b s) (λ s. after (loop_end nowait end s) (run at tree.Done))))
      ≡ after (and_then m (λ a s. and_then (value at to s) (share_of at slot body schedule line a))) (loop_end nowait end)
  by_from (Gives a t) = by_to a (value at to t)
  by_from (Outcome.Stops why at_line t) = refl
  by_from (Outcome.Wants t) = refl

loop_end_grows : (at : Site) (nowait : Bool) (end : ℕ) (s : State) → Grows s (state_of (loop_end nowait end s))
loop_end_grows at true end s = grows-plain.same s
loop_end_grows at false end s =
    subst (λ (o : Outcome (Unit {0})). Grows s (state_of o)) (run-Barrier at end tree.Done s ∙ after-done at (put (event kind.Barrier end 0 0) s)) (run-grows at (tree.Barrier end tree.Done) s)

module _ (told : FolderState) (at : Site) (slot : ℕ) (from to : Term) (schedule : Schedule) (nowait : Bool) (line end : ℕ) (body : Code) (old mid : Standing) where
  abbrev for_loop : Part
  for_loop = run at (tree.For slot from to schedule nowait line end body tree.Done)

  pub for_stops : (why : Stray) → FollowsPart told (sharing at slot from to schedule line body) old mid (Err why) → FollowsPart told for_loop old mid (Err why)
  for_stops why first =
      follows_same told (λ s. after (sharing at slot from to schedule line body s) (loop_end nowait end)) for_loop old mid (Err why) (for_is at slot from to schedule nowait line end body)
      (stop_after told (sharing at slot from to schedule line body) (loop_end nowait end) old mid mid why
      (loop_end_grows at nowait end) first)

  pub for_goes : (new : Standing) (r : Result (Unit {0}) Stray) → FollowsPart told (sharing at slot from to schedule line body) old mid (Ok tt) → FollowsPart told (loop_end nowait end) mid new r → FollowsPart told for_loop old new r
  for_goes new r first second =
      follows_same told (λ s. after (sharing at slot from to schedule line body s) (loop_end nowait end)) for_loop old new r (for_is at slot from to schedule nowait line end body)
      (then_after told (sharing at slot from to schedule line body) (loop_end nowait end) old told refl mid new r first second)

pub barrier_goes : (told : FolderState) (at : Site) (line : ℕ) (old new : Standing) (r : Result (Unit {0}) Stray) → FollowsPart told (put (event kind.Barrier line 0 0)) old new r
    → FollowsPart told (run at (tree.Barrier line tree.Done)) old new r
barrier_goes told at line old new r follows =
    follows_same told (put (event kind.Barrier line 0 0)) (run at (tree.Barrier line tree.Done)) old new r (λ s. run-Barrier at line tree.Done s ∙ after-done at (put (event kind.Barrier line 0 0) s)) follows

-- ---- critical sections

module _ (told : FolderState) (at : Site) (mutex line end : ℕ) (body : Code) (old : Standing) where
  abbrev section : Part
  section = run at (tree.Critical mutex line end body tree.Done)

  abbrev unlocks : Part
  unlocks s = after (put (event kind.Unlock end mutex 0) s) (run at tree.Done)

  abbrev in_section : Part
  in_section s = after (run at body s) unlocks

  unlocks_grow : (s : State) → Grows s (state_of (unlocks s))
  unlocks_grow s = kept-after Grows grows-plain s (put (event kind.Unlock end mutex 0) s) (run at tree.Done) (kept-put Grows grows-plain (event kind.Unlock end mutex 0) s (λ room is. grows-steps.marks _ room s is tt)) (run-grows at tree.Done)

  pub lock_stops : (mid : Standing) (why : Stray) → FollowsPart told (put (event kind.Lock line mutex 0)) old mid (Err why) → FollowsPart told section old mid (Err why)
  lock_stops mid why first =
      follows_same told _ section old mid (Err why) (run-Critical at mutex line end body tree.Done)
      (stop_after told (put (event kind.Lock line mutex 0)) in_section old mid mid why (λ s. kept-after Grows grows-plain s (run at body s) unlocks (run-grows at body s) unlocks_grow) first)

  module _ (mid : Standing) (first : FollowsPart told (put (event kind.Lock line mutex 0)) old mid (Ok tt)) where
    locked_then : (new : Standing) (r : Result (Unit {0}) Stray) → FollowsPart told in_section mid new r → FollowsPart told section old new r
    locked_then new r second =
        follows_same told _ section old new r (run-Critical at mutex line end body tree.Done)
        (then_after told (put (event kind.Lock line mutex 0)) in_section old told refl mid new r first second)

    pub section_stops : (new : Standing) (why : Stray) → FollowsPart told (run at body) mid new (Err why) → FollowsPart told section old new (Err why)
    section_stops new why second = locked_then new (Err why) (stop_after told (run at body) unlocks mid new new why unlocks_grow second)

    pub section_goes : (last new : Standing) (r : Result (Unit {0}) Stray) → FollowsPart told (run at body) mid last (Ok tt) → FollowsPart told (put (event kind.Unlock end mutex 0)) last new r → FollowsPart told section old new r
    section_goes last new r second third =
        locked_then new r
        (then_after told (run at body) unlocks mid told refl last new r second
        (follows_same told (put (event kind.Unlock end mutex 0)) unlocks last new r (λ s. after-done at (put (event kind.Unlock end mutex 0) s)) third))

-- ---- regions

abbrev pub with_fork : TeamTree → Standing → Standing
with_fork team x = record x { forks = x.forks ++ record { team = team; slots = x.slots } ∷ [] }

module _ (told : FolderState) (at : Site) (team : TeamTree) (old mid : Standing) where
  abbrev region : Part
  region = run at (tree.Parallel team.span team.line team.end team.body tree.Done)

  abbrev forks_on : Part
  forks_on s = run at tree.Done (forked team s)

  -- nothing follows the record but the fork
  fork_off : (log : List Record) (number : ℕ) (o : Outcome (Unit {0})) → IsOff log number o → IsOff log number (after o forks_on)
  fork_off log number (Gives u s) off = subst (IsOff log number) (sym (run-Done at (forked team s))) off
  fork_off log number (Outcome.Stops why line s) off = off
  fork_off log number (Outcome.Wants s) off = off

  forks_off : (why : Stray) → FollowsPart told (put (event kind.Region team.line 0 team.span)) old mid (Err why) → FollowsPart told (λ s. after (put (event kind.Region team.line 0 team.span) s) forks_on) old mid (Err why)
  forks_off (stray.Differs number) first = λ log done rest is_at. fork_off log number (put (event kind.Region team.line 0 team.span) (here old done rest)) (first log done rest is_at)
  forks_off stray.ReadFault first = λ log done rest is_at. tt
  forks_off stray.Memory first = λ log done rest is_at. tt

  pub fork_stops : (why : Stray) → FollowsPart told (put (event kind.Region team.line 0 team.span)) old mid (Err why) → FollowsPart told region old mid (Err why)
  fork_stops why first = follows_same told _ region old mid (Err why) (run-Parallel at team.span team.line team.end team.body tree.Done) (forks_off why first)

  pub fork_goes : FollowsPart told (put (event kind.Region team.line 0 team.span)) old mid (Ok tt) → FollowsPart told region old (with_fork team mid) (Ok tt)
  fork_goes first =
      follows_same told _ region old (with_fork team mid) (Ok tt) (run-Parallel at team.span team.line team.end team.body tree.Done)
      (then_after told (put (event kind.Region team.line 0 team.span)) forks_on old told refl mid (with_fork team mid) (Ok tt) first
      (λ log done rest at_mid. record {
        done = done;
        rest = rest;
        at = record {
          content = at_mid.content;
          is_told = at_mid.is_told;
          stands = at_mid.stands;
          parts = at_mid.parts;
          count = at_mid.count;
          ahead = at_mid.ahead;
          fits = at_mid.fits;
        };
        gives = run-Done at _;
      }))
