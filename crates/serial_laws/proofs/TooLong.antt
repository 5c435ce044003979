-- A task that would make a record more than the whole run may: its trace goes on.
use Rattle.std.proofs.Common.{◌≡◌, refl, ap, sym, ◌∙◌, subst, ℕ, ◌+◌, ◌-◌, ◌<◌, List, [], ◌∷◌, ◌++◌, length, ℤ, arith}
use Rattle.std.proofs.lemmas.List.{append-nil}
use Rattle.log_format.specs.Limit.{record_limit}
use Rattle.log_format.specs.declared.record.Kind.{Kind}
use Rattle.log_format.specs.declared.record.Kind.TheVariants as kind
use Rattle.log_format.specs.declared.record.Record.{Record}
use Rattle.kernel_syntax.specs.Program.{Program}
use Rattle.kernel_model.specs.Effect.{Halted, state_with}
use Rattle.kernel_model.specs.State as model
use Rattle.kernel_model.specs.State.{Outcome, Gives, Stops, Wants, event, put, reads_of, chunks_of, state_of}
use Rattle.kernel_model.specs.Trace.{Wanting, ending_of, task}
use Rattle.kernel_model.specs.declared.stop.StopWhy.TheVariants.{LogFull}
use Rattle.kernel_model.proofs.Effects.{reads_of-append, chunks_of-append}
use Rattle.serial_run.proofs.Coming.{room_log}
use Rattle.serial_run.specs.Coming.{IsAtStart, Comes}
use Rattle.serial_run.specs.Going.{SerialProgress, FindsValue, words_after, Finds, RanPart, room_of}
use Rattle.serial_run.specs.Placing.{ElementLayout, OfLog}
use Rattle.serial_run.specs.Stepping.{Stand, stand_left}
use Rattle.serial_steps.specs.Lanes.{SerialTask, HasMore}
use Rattle.serial_team.specs.Stopping.{bounded}
use Rattle.serial_laws.proofs.Rooms.{IsWanting, GoesOn, Rooms, goes_past, put-roomy, rest-roomy, roomy}
use Rattle.serial_laws.proofs.StoppedTasks.{task_from}

-- how many records a task may make changes nothing of what they find
module _ (layout : ElementLayout) where
  words_alike : (k : Kind) (r : Record) (words : List ℕ) → words_after (bounded layout) k r words ≡ words_after layout k r words
  words_alike kind.Write r words = refl
  words_alike _ r words = refl

  value_alike : (k : Kind) (r : Record) (words : List ℕ) → FindsValue (bounded layout) k r words → FindsValue layout k r words
  value_alike kind.Read r words f = (record { element = f.0.element; within = f.0.within }, f.1)
  value_alike kind.Write r words f = (record { element = f.0.element; within = f.0.within }, f.1)
  value_alike _ r words f = tt

  pub finds_alike : (rs : List Record) (old new : List ℕ) → Finds (bounded layout) rs old new → Finds layout rs old new
  finds_alike [] old new f = f
  finds_alike (r ∷ rs) old new f =
      (value_alike r.kind r old f.0, subst (λ (w : List ℕ). Finds layout rs w new) (words_alike r.kind r old) (finds_alike rs (words_after (bounded layout) r.kind r old) new f.1))

-- the trace wants a value
pub wanting : (o : Outcome (Unit {0})) → IsWanting o → ending_of o ≡ Wanting
wanting (Gives u s) wants = absurd wants
wanting (Stops why line s) wants = absurd wants
wanting (Wants s) wants = refl

module _ (layout : ElementLayout) (by_log : layout.bound ≡ OfLog) (program : Program) (t : SerialTask) (first x : Stand) (forks : List model.Fork) (begun : IsAtStart program t.start first)
    (come : Comes layout first x t.records forks) (slots : List ℤ) (last : SerialProgress) (line : ℕ)
    (m : RanPart (bounded layout) (stand_left x) x.slots slots x.progress last (Halted LogFull line)) (none : last.left ≡ 0) (below : last.count < record_limit) where
  abbrev few : ℕ
  few = room_of (bounded layout).bound x.progress

  abbrev room : ℕ
  room = room_of layout.bound x.progress

  less : few < room
  less = let counts = m.gains.count in let lefts = m.gains.left in omega (arith, counts, lefts, none, below, room_log layout.bound x.progress by_log)

  abbrev reads : List ℤ
  reads = reads_of m.added ++ []

  abbrev chunks : List ℕ
  chunks = chunks_of m.added ++ []

  -- bounded by its log alone it goes on from there
  goes_on : GoesOn (state_with slots (t.records ++ m.added) (forks ++ []) (few - length m.added) [] []) (stand_left x (state_with x.slots t.records forks room reads chunks))
  goes_on =
      goes_past (stand_left x (state_with x.slots t.records forks few reads chunks)) (stand_left x (state_with x.slots t.records forks room reads chunks)) line
      (state_with slots (t.records ++ m.added) (forks ++ []) (few - length m.added) [] []) (m.makes.makes t.records forks [] [])
      ((rest-roomy x.at x.rest (put (event kind.End x.end 0 0)) (put-roomy (event kind.End x.end 0 0) refl)).rooms (state_with x.slots t.records forks 0 reads chunks) few room less)

  -- that is its trace
  traced : task program t.start (reads_of (t.records ++ m.added)) (chunks_of (t.records ++ m.added)) ≡ stand_left x (state_with x.slots t.records forks room reads chunks)
  traced =
      ap (λ (l : List ℤ). task program t.start l (chunks_of (t.records ++ m.added))) (reads_of-append t.records m.added ∙ ap (λ (l : List ℤ). reads_of t.records ++ l) (sym (append-nil (reads_of m.added))))
      ∙ ap (λ (l : List ℕ). task program t.start (reads_of t.records ++ reads) l) (chunks_of-append t.records m.added ∙ ap (λ (l : List ℕ). chunks_of t.records ++ l) (sym (append-nil (chunks_of m.added))))
      ∙ task_from layout by_log program t.start first x t.records forks begun come reads chunks

  pub has_more : HasMore program (record t { records = t.records ++ m.added })
  has_more = record {
    more = goes_on.more;
    begins = ap (λ (o : Outcome (Unit {0})). (state_of o).records) traced ∙ goes_on.records_are;
    wants = λ is. ap ending_of traced ∙ wanting (stand_left x (state_with x.slots t.records forks room reads chunks)) (goes_on.wants is);
  }
