-- All lanes of a team pass the same barriers.
use Rattle.std.proofs.Common.{◌≡◌, refl, ap, sym, ◌∙◌, subst, ℕ, zero, suc, ◌+◌, ◌≤◌, arith, Bool, false, cond, List, [], ◌∷◌, ℤ, All}
use Rattle.std.proofs.lemmas.List.Elements.{All-head, All-tail}
use Rattle.std.proofs.lemmas.List.Sums.{sum_by-cons}
use Rattle.log_format.specs.declared.record.Record.{Record}
use Rattle.log_format.specs.declared.record.Kind.TheVariants as kind
use Rattle.race_model.specs.Trace.{barrier_count}
use Rattle.kernel_syntax.specs.Program.{Program}
use Rattle.kernel_syntax.specs.Tree.{Code, TeamTree}
use Rattle.kernel_model.specs.State.{State, Outcome, Gives, Stops, Wants, after, put, put_in, event, state_of, reads_of, chunks_of}
use Rattle.kernel_model.specs.Value.{Site}
use Rattle.kernel_model.specs.Trace.{run, task, trace, Start, Ended, ending_of, site_of, state_at}
use Rattle.kernel_model.specs.Folder.{IsTraced}
use Rattle.kernel_model.specs.Lawful.{code_holds_work, IsEven}
use Rattle.kernel_model.specs.Parts.{Part, Set, Run, Bar, parts_of, run_part, run_parts, is_bar, bar_count}
use Rattle.kernel_model.specs.Phases.{MeetsOnlyAtBars}
use Rattle.kernel_rules.proofs.RunningParts.{parts_run}
use Rattle.kernel_rules.proofs.BarrierCounts.{one_more, uncounted, no_barrier, parts_meet}

abbrev number : Bool → ℕ
number b = cond b 1 0

-- a part that adds so many barriers where it goes on, and else at most as many
abbrev Counts : ℕ → State → Outcome (Unit {0}) → Type 0
Counts n s (Gives a t) = barrier_count t.records ≡ barrier_count s.records + n
Counts n s (Stops why line t) = barrier_count t.records ≤ barrier_count s.records + n
Counts n s (Wants t) = barrier_count t.records ≤ barrier_count s.records + n

counts_more : (m n : ℕ) (s t : State) (o : Outcome (Unit {0})) → barrier_count t.records ≡ barrier_count s.records + m → Counts n t o → Counts (m + n) s o
counts_more m n s t (Gives a u) first later = omega arith
counts_more m n s t (Stops why line u) first later = omega arith
counts_more m n s t (Wants u) first later = omega arith

counts_after : (m n : ℕ) (s : State) (o : Outcome (Unit {0})) (next : State → Outcome (Unit {0})) → Counts m s o → ((t : State) → Counts n t (next t)) →
    Counts (m + n) s (after o next)
counts_after m n s (Gives a t) next first later = counts_more m n s t (next t) first (later t)
counts_after m n s (Stops why line t) next first later = omega arith
counts_after m n s (Wants t) next first later = omega arith

-- a part that leaves the barriers as they were
counts_none : (s : State) (o : Outcome (Unit {0})) → barrier_count (state_of o).records ≡ barrier_count s.records → Counts 0 s o
counts_none s (Gives a t) same = omega arith
counts_none s (Stops why line t) same = omega arith
counts_none s (Wants t) same = omega arith

counts_bar_in : (room line : ℕ) (s : State) → Counts 1 s (put_in room (event kind.Barrier line 0 0) s)
counts_bar_in zero line s = omega arith
counts_bar_in (suc room) line s = one_more s.records (event kind.Barrier line 0 0)

counts_part : (at : Site) (part : Part) (s : State) → MeetsOnlyAtBars part → Counts (number (is_bar part)) s (run_part at part s)
unfolding put
counts_part at (Set slot v) s meets = counts_none s (run_part at (Set slot v) s) (meets at s)
counts_part at (Run code) s meets = counts_none s (run at code s) (meets at s)
counts_part at (Bar line) s meets = counts_bar_in s.room line s

counts_parts : (at : Site) (parts : List Part) (s : State) → All MeetsOnlyAtBars parts → Counts (bar_count parts) s (run_parts at parts s)
counts_parts at [] s meets = omega arith
counts_parts at (part ∷ parts) s meets =
    subst (λ n. Counts n s (run_parts at (part ∷ parts) s)) (sym (sum_by-cons (λ (p : Part). number (is_bar p)) part parts))
    (counts_after (number (is_bar part)) (bar_count parts) s (run_part at part s) (run_parts at parts)
    (counts_part at part s (All-head MeetsOnlyAtBars part parts meets))
    (λ t. counts_parts at parts t (All-tail MeetsOnlyAtBars part parts meets)))

-- a body's run
pub counts_run : (at : Site) (code : Code) (s : State) → IsEven code → Counts (bar_count (parts_of code)) s (run at code s)
counts_run at code s even =
    subst (Counts (bar_count (parts_of code)) s) (parts_run at code s) (counts_parts at (parts_of code) s (parts_meet code even))

counts_end_in : (room line : ℕ) (s : State) → Counts 0 s (put_in room (event kind.End line 0 0) s)
counts_end_in zero line s = omega arith
counts_end_in (suc room) line s = let same = uncounted s.records (event kind.End line 0 0) refl in omega arith

counts_end : (line : ℕ) (s : State) → Counts 0 s (put (event kind.End line 0 0) s)
unfolding put
counts_end line s = counts_end_in s.room line s

counts_task : (program : Program) (start : Start) (reads : List ℤ) (chunks : List ℕ) → IsEven start.team.body →
    Counts (bar_count (parts_of start.team.body) + 0) (state_at start reads chunks) (task program start reads chunks)
unfolding task
counts_task program start reads chunks even =
    counts_after (bar_count (parts_of start.team.body)) 0 (state_at start reads chunks) _ (put (event kind.End start.team.end 0 0))
    (counts_run (site_of program start) start.team.body (state_at start reads chunks) even) (counts_end start.team.end)

ended_counts : (n : ℕ) (s : State) (o : Outcome (Unit {0})) → barrier_count s.records ≡ 0 → Counts (n + 0) s o → ending_of o ≡ Ended →
    barrier_count (state_of o).records ≡ n
ended_counts n s (Gives a t) none counts ended = omega arith
ended_counts n s (Stops why line t) none counts ended = cc
ended_counts n s (Wants t) none counts ended = cc

any_counts : (n : ℕ) (s : State) (o : Outcome (Unit {0})) → barrier_count s.records ≡ 0 → Counts (n + 0) s o → barrier_count (state_of o).records ≤ n
any_counts n s (Gives a t) none counts = omega arith
any_counts n s (Stops why line t) none counts = omega arith
any_counts n s (Wants t) none counts = omega arith

-- A trace that ends has its team's barriers.
pub ended_barriers : (program : Program) (start : Start) (reads : List ℤ) (chunks : List ℕ) → IsEven start.team.body →
    (trace program start reads chunks).end ≡ Ended → barrier_count (trace program start reads chunks).records ≡ bar_count (parts_of start.team.body)
ended_barriers program start reads chunks even ended =
    ended_counts (bar_count (parts_of start.team.body)) (state_at start reads chunks) (task program start reads chunks) refl
    (counts_task program start reads chunks even) ended

-- Each trace has at most these.
pub most_barriers : (program : Program) (start : Start) (reads : List ℤ) (chunks : List ℕ) → IsEven start.team.body →
    barrier_count (trace program start reads chunks).records ≤ bar_count (parts_of start.team.body)
most_barriers program start reads chunks even =
    any_counts (bar_count (parts_of start.team.body)) (state_at start reads chunks) (task program start reads chunks) refl
    (counts_task program start reads chunks even)

pub traced_barriers : (program : Program) (start : Start) (records : List Record) → IsEven start.team.body → IsTraced program start records →
    barrier_count records ≡ bar_count (parts_of start.team.body)
traced_barriers program start records even traced =
    ap (λ (rs : List Record). barrier_count rs) (sym traced.records_are)
    ∙ ended_barriers program start (reads_of records) (chunks_of records) even traced.ended

pub same_barriers : (program : Program) (one other : Start) (records beside : List Record) → IsEven one.team.body → one.team ≡ other.team →
    IsTraced program one records → IsTraced program other beside → barrier_count records ≡ barrier_count beside
same_barriers program one other records beside even team first second =
    traced_barriers program one records even first
    ∙ ap (λ (t : TeamTree). bar_count (parts_of t.body)) team
    ∙ sym (traced_barriers program other beside (subst (λ (t : TeamTree). IsEven t.body) team even) second)

-- A body without work has none.
pub idle_barriers : (program : Program) (start : Start) (records : List Record) → code_holds_work start.team.body ≡ false → IsTraced program start records →
    barrier_count records ≡ 0
unfolding task
idle_barriers program start records free traced =
    let s = state_at start (reads_of records) (chunks_of records) in
    ap (λ (rs : List Record). barrier_count rs) (sym traced.records_are)
    ∙ ended_counts 0 s (task program start (reads_of records) (chunks_of records)) refl
    (counts_after 0 0 s (run (site_of program start) start.team.body s) (put (event kind.End start.team.end 0 0))
    (counts_none s (run (site_of program start) start.team.body s) (no_barrier (site_of program start) start.team.body s free))
    (counts_end start.team.end))
    traced.ended
