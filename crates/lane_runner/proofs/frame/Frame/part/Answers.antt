use Rattle.std.proofs.Common.{◌≡◌, refl, ap, sym, ◌∙◌, subst, ℕ, ◌+◌, ◌≤◌, Bool, List, [], ◌∷◌, Result, Ok, Err, IfOk, arith}
use Rattle.kernel_syntax.specs.declared.syntax.Schedule.{Schedule}
use Rattle.kernel_syntax.specs.declared.syntax.Schedule.TheVariants.{Even, Static, Dynamic}
use Rattle.kernel_syntax.specs.declared.syntax.Stmt.{Stmt}
use Rattle.kernel_syntax.specs.Bounds.{IsBoundedCode}
use Rattle.kernel_syntax.specs.Program.{code_of, stmt_code, term_of}
use Rattle.kernel_syntax.specs.Tree as tree
use Rattle.kernel_syntax.specs.Tree.{Code, Done}
use Rattle.kernel_syntax.proofs.Equations.{stmt_code-For}
use Rattle.kernel_model.specs.Parts.{Run, drawn_count}
use Rattle.kernel_model.specs.Phases.{part_of_stmt, without_barrier}
use Rattle.kernel_model.specs.Trace.{run}
use Rattle.lane_runner.specs.Alone.{IsAlone}
use Rattle.lane_runner.specs.Drawing.{counters_of}
use Rattle.lane_runner.specs.Going.{Goes, site}
use Rattle.lane_runner.specs.Phase.{IsOfTeam}
use Rattle.lane_runner.proofs.Parting.{alone_in_team, alone_whole, alone_draws_none}
use Rattle.lane_runner.proofs.Teams.{teams_of}
use Rattle.lane_runner.proofs.frame.Frame.part.Goals as goal

-- how many counters a worksharing loop has
schedule_count : (schedule : Schedule) (slot : ℕ) (from to : tree.Term) (nowait : Bool) (line end : ℕ) (body : Code) → drawn_count (Run (without_barrier (tree.For slot from to schedule nowait line end body Done)) ∷ []) ≡ counters_of schedule
schedule_count Even slot from to nowait line end body = refl
schedule_count (Static chunk) slot from to nowait line end body = refl
schedule_count (Dynamic chunk) slot from to nowait line end body = refl

any_ok : {A E : Type 0} (r : Result A E) (P : A → Type 0) → ((x : A) → P x) → IfOk r P
any_ok (Ok x) P all = all x
any_ok (Err e) P all = tt

count_of : (s : Stmt) {code : Code} → stmt_code s Done ≡ code → drawn_count (part_of_stmt s ∷ []) ≡ drawn_count (Run (without_barrier code) ∷ [])
count_of s is = ap (λ (c : Code). drawn_count (Run (without_barrier c) ∷ [])) is

pub shared_loop-requires-clause-bounded : goal.shared_loop-requires-clause-bounded
shared_loop-requires-clause-bounded g c κs within =
    let all = ap (λ (s : Stmt). stmt_code s Done) c.in-For.is ∙ stmt_code-For c.in-For.slot c.in-For.from c.in-For.to c.in-For.schedule c.in-For.nowait c.in-For.line c.in-For.end c.in-For.body Done in
    subst IsBoundedCode all c.requires.bounded

pub shared_loop-requires-clause-alone : goal.shared_loop-requires-clause-alone
shared_loop-requires-clause-alone g c κs within =
    let all = ap (λ (s : Stmt). stmt_code s Done) c.in-For.is ∙ stmt_code-For c.in-For.slot c.in-For.from c.in-For.to c.in-For.schedule c.in-For.nowait c.in-For.line c.in-For.end c.in-For.body Done in
    subst (λ (h : List ℕ). IsAlone c.args.world.now.words.locks h (code_of c.in-For.body.stmts.items)) (sym c.requires.free) (subst (IsOfTeam c.args.world.now.words.locks) all c.requires.own)

pub shared_loop-requires-clause-runs : goal.shared_loop-requires-clause-runs
shared_loop-requires-clause-runs g c κs within =
    let all = ap (λ (s : Stmt). stmt_code s Done) c.in-For.is ∙ stmt_code-For c.in-For.slot c.in-For.from c.in-For.to c.in-For.schedule c.in-For.nowait c.in-For.line c.in-For.end c.in-For.body Done in
    (teams_of _ _ _ _ _ all c.requires.runs).0

pub shared_loop-requires-clause-counters : goal.shared_loop-requires-clause-counters
shared_loop-requires-clause-counters g c κs within =
    let all = ap (λ (s : Stmt). stmt_code s Done) c.in-For.is ∙ stmt_code-For c.in-For.slot c.in-For.from c.in-For.to c.in-For.schedule c.in-For.nowait c.in-For.line c.in-For.end c.in-For.body Done in
    let count = count_of c.args.stmt.now all ∙ schedule_count c.in-For.schedule c.in-For.slot (term_of c.in-For.from) (term_of c.in-For.to) c.in-For.nowait c.in-For.line c.in-For.end (code_of c.in-For.body.stmts.items) in
    record {
      within = subst (λ (n : ℕ). c.args.self.now.track.tally.next_loop + n ≤ c.args.world.now.chunks.loops) count c.requires.counters;
      number = c.requires.number;
    }

pub statement-requires-clause-executes : goal.statement-requires-clause-executes
statement-requires-clause-executes g c κs within = record {
  can = c.requires.can;
  bounded = c.requires.bounded;
  alone = subst (λ (h : List ℕ). IsAlone c.args.world.now.words.locks h (stmt_code c.args.stmt.now Done)) (sym c.requires.free) (alone_in_team c.args.world.now.words.locks c.args.stmt.now c.requires.own c.in_default.not-For);
  runs = c.requires.runs;
}

pub returns-in-For-clause-goes : goal.returns-in-For-clause-goes
returns-in-For-clause-goes g c =
    let all = ap (λ (s : Stmt). stmt_code s Done) c.in-For.is ∙ stmt_code-For c.in-For.slot c.in-For.from c.in-For.to c.in-For.schedule c.in-For.nowait c.in-For.line c.in-For.end c.in-For.body Done in
    subst (λ (code : Code). Goes c.args.world.now (run (site c.args.world.now) (without_barrier code)) c.args.self.now.locals.slots.items c.shared_loop.new.self.locals.slots.items c.args.self.now.track c.shared_loop.new.self.track c.shared_loop.result) (sym all) c.shared_loop.ensures.goes

pub returns-in-For-clause-loops : goal.returns-in-For-clause-loops
returns-in-For-clause-loops g c =
    let all = ap (λ (s : Stmt). stmt_code s Done) c.in-For.is ∙ stmt_code-For c.in-For.slot c.in-For.from c.in-For.to c.in-For.schedule c.in-For.nowait c.in-For.line c.in-For.end c.in-For.body Done in
    let count = count_of c.args.stmt.now all ∙ schedule_count c.in-For.schedule c.in-For.slot (term_of c.in-For.from) (term_of c.in-For.to) c.in-For.nowait c.in-For.line c.in-For.end (code_of c.in-For.body.stmts.items) in
    subst (λ (n : ℕ). IfOk c.shared_loop.result (λ u. c.shared_loop.new.self.track.tally.next_loop ≡ c.args.self.now.track.tally.next_loop + n)) (sym count) c.shared_loop.ensures.loops

pub returns-in_default : goal.returns-in_default
returns-in_default g c =
    let own = alone_in_team c.args.world.now.words.locks c.args.stmt.now c.requires.own c.in_default.not-For in
    let none : drawn_count (part_of_stmt c.args.stmt.now ∷ []) ≡ 0 = alone_draws_none c.args.world.now.words.locks [] c.args.stmt.now own in
    record {
      goes = subst (λ (code : Code). Goes c.args.world.now (run (site c.args.world.now) code) c.args.self.now.locals.slots.items c.statement.new.self.locals.slots.items c.args.self.now.track c.statement.new.self.track c.statement.result) (sym (alone_whole c.args.world.now.words.locks [] (stmt_code c.args.stmt.now Done) own)) c.statement.ensures.goes;
      log = c.statement.ensures.log;
      loops = any_ok c.statement.result (λ u. c.statement.new.self.track.tally.next_loop ≡ c.args.self.now.track.tally.next_loop + drawn_count (part_of_stmt c.args.stmt.now ∷ [])) (λ u. let same = c.statement.ensures.loops in omega (arith, same, none));
    }
