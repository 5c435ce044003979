-- A task that was resumed until it ended or stopped has its trace so far.
use Rattle.std.proofs.Common.{◌≡◌, refl, ap, sym, ◌∙◌, subst, ℕ, ◌+◌, ◌-◌, ◌≤◌, List, [], ◌++◌, length, ℤ, arith}
use Rattle.std.proofs.lemmas.List.{append-nil, length-append}
use Rattle.log_format.specs.Limit.{record_limit}
use Rattle.log_format.specs.declared.record.Record.{Record}
use Rattle.kernel_syntax.specs.Program.{Program}
use Rattle.kernel_model.specs.Effect.{Finish, Returned, Halted, state_with, finished}
use Rattle.kernel_model.specs.Folder.{own_trace, IsTracedTo}
use Rattle.kernel_model.specs.State.{Fork, Gives, reads_of, chunks_of}
use Rattle.kernel_model.specs.Trace.{Start, TaskTrace}
use Rattle.kernel_model.proofs.RunEffects.{parts, end_of, own_trace-is}
use Rattle.serial_run.specs.Going.{SerialProgress, room_of}
use Rattle.serial_run.specs.Coming.{IsAtStart, Comes, begins, waits, goes, HaveTheirTrace, StopAsTold}
use Rattle.serial_run.specs.Stepping.{Stand, Leads, stand_left}
use Rattle.serial_run.proofs.Leading.{leads_none, leads_then}
use Rattle.serial_run.specs.Placing.{Bound, OfLog, OfRun, ElementLayout}

-- the room that its log has, whatever others make
pub room_log : (bound : Bound) (p : SerialProgress) → bound ≡ OfLog → room_of bound p ≡ record_limit - p.count
room_log OfLog p is = refl
room_log OfRun p is = absurd cc

module _ (layout : ElementLayout) (log : layout.bound ≡ OfLog) (first : Stand) where
  comes_leads : (x : Stand) (records : List Record) (forks : List Fork) → Comes layout first x records forks
      → Leads (stand_left first) first.slots (room_of layout.bound first.progress) (stand_left x) x.slots (room_of layout.bound x.progress) records forks
  comes_leads _ _ _ begins = leads_none (stand_left first) first.slots (room_of layout.bound first.progress)
  comes_leads _ _ _ (waits x records forks words left come) =
      subst (λ (n : ℕ). Leads (stand_left first) first.slots (room_of layout.bound first.progress) (stand_left x) x.slots n records forks)
      (room_log layout.bound x.progress log ∙ sym (room_log layout.bound (record x.progress { words = words; left = left }) log)) (comes_leads x records forks come)
  comes_leads _ _ _ (goes x y records forks mark more come a) =
      leads_then (stand_left first) (stand_left x) (stand_left y) first.slots x.slots y.slots (room_of layout.bound first.progress) (room_of layout.bound x.progress) (room_of layout.bound y.progress) records a.makes.added forks more
      (comes_leads x records forks come) a.leads

  comes_counts : (x : Stand) (records : List Record) (forks : List Fork) → Comes layout first x records forks
      → (x.progress.count ≡ first.progress.count + length records) × (length records ≤ record_limit - first.progress.count)
  comes_counts _ _ _ begins = (omega arith, omega arith)
  comes_counts _ _ _ (waits x records forks words left come) = comes_counts x records forks come
  comes_counts _ _ _ (goes x y records forks mark more come a) =
      let before = comes_counts x records forks come in
      let count = before.0 in
      let within = before.1 in (
        omega (arith, length-append records a.makes.added, a.makes.gains.count, count),
        omega (arith, length-append records a.makes.added, a.makes.within, room_log layout.bound x.progress log, count, within),
      )

-- a task at its start, whose parts lead so far
module _ (program : Program) (start : Start) (first : Stand) (begun : IsAtStart program start first) (records : List Record) (forks : List Fork) (slots : List ℤ) (finish : Finish (Unit {0}))
    (within : length records ≤ record_limit - first.progress.count) (room : ℕ) (whole : room ≡ record_limit - first.progress.count) where
  task_made : ((before : List Record) (above : List Fork) (reads : List ℤ) (chunks : List ℕ) →
      stand_left first (state_with first.slots before above room (reads_of records ++ reads) (chunks_of records ++ chunks))
      ≡ finished finish (state_with slots (before ++ records) (above ++ forks) (record_limit - length records) reads chunks))
      → own_trace program start records ≡ record { records = records; forks = forks; end = end_of finish }
  task_made ends =
      let none = begun.none in
      let all : record_limit ≡ room = omega (arith, whole, none) in
      own_trace-is program start (record { slots = slots; added = records; forks = forks }) finish
      (record {
        within = omega (arith, within);
        makes = λ before above reads chunks.
            ap (λ (n : ℕ). parts program start (state_with start.slots before above n (reads_of records ++ reads) (chunks_of records ++ chunks))) all
            ∙ ap (λ (l : List ℤ). parts program start (state_with l before above room (reads_of records ++ reads) (chunks_of records ++ chunks))) (sym begun.slots)
            ∙ sym (begun.whole (state_with first.slots before above room (reads_of records ++ reads) (chunks_of records ++ chunks)))
            ∙ ends before above reads chunks;
      })

traced_so : (program : Program) (start : Start) (records : List Record) (forks : List Fork) (finish : Finish (Unit {0})) → own_trace program start records ≡ record { records = records; forks = forks; end = end_of finish }
    → IsTracedTo program start records (end_of finish) × ((own_trace program start records).forks ≡ forks)
traced_so program start records forks finish is = (
  record { records_are = ap (λ (t : TaskTrace). t.records) is; ended = ap (λ (t : TaskTrace). t.end) is },
  ap (λ (t : TaskTrace). t.forks) is,
)

pub have_their_trace : HaveTheirTrace
have_their_trace layout program start first x y records forks log begun come f =
    let counts = comes_counts layout log first x records forks come in
    let count = counts.0 in
    let within = counts.1 in
    let none = begun.none in
    let all = records ++ f.makes.added in
    traced_so program start all forks (Returned tt)
    (task_made program start first begun all forks y.slots (Returned tt) (omega (arith, length-append records f.makes.added, f.makes.within, room_log layout.bound x.progress log, count, within))
    (room_of layout.bound first.progress) (room_log layout.bound first.progress log)
    (λ before above reads chunks.
    leads_then (stand_left first) (stand_left x) (λ s. Gives tt s) first.slots x.slots y.slots (room_of layout.bound first.progress) (room_of layout.bound x.progress) (room_of layout.bound y.progress) records f.makes.added forks []
    (comes_leads layout log first x records forks come) f.leads before above reads chunks
    ∙ ap (λ (l : List Fork). Gives tt (state_with y.slots (before ++ all) (above ++ l) (room_of layout.bound y.progress) reads chunks)) (append-nil forks)
    ∙ ap (λ (n : ℕ). Gives tt (state_with y.slots (before ++ all) (above ++ forks) n reads chunks))
    (let e : room_of layout.bound y.progress ≡ record_limit - length all = omega (arith, room_log layout.bound y.progress log, length-append records f.makes.added, f.makes.gains.count, count, none) in e)))

pub stop_as_told : StopAsTold
stop_as_told layout program start first x records forks slots last why line log begun come m =
    let counts = comes_counts layout log first x records forks come in
    let count = counts.0 in
    let within = counts.1 in
    let none = begun.none in
    let all = records ++ m.added in
    traced_so program start all forks (Halted why line)
    (task_made program start first begun all forks slots (Halted why line) (omega (arith, length-append records m.added, m.makes.within, room_log layout.bound x.progress log, count, within))
    (room_of layout.bound first.progress) (room_log layout.bound first.progress log)
    (λ before above reads chunks.
    leads_then (stand_left first) (stand_left x) (finished (Halted why line)) first.slots x.slots slots (room_of layout.bound first.progress) (room_of layout.bound x.progress) (room_of layout.bound x.progress - length m.added) records m.added forks []
    (comes_leads layout log first x records forks come) m.makes.makes before above reads chunks
    ∙ ap (λ (l : List Fork). finished (Halted why line) (state_with slots (before ++ all) (above ++ l) (room_of layout.bound x.progress - length m.added) reads chunks)) (append-nil forks)
    ∙ ap (λ (n : ℕ). finished (Halted why line) (state_with slots (before ++ all) (above ++ forks) n reads chunks))
    (let e : room_of layout.bound x.progress - length m.added ≡ record_limit - length all = omega (arith, room_log layout.bound x.progress log, length-append records m.added, count, none) in e)))
