-- Trees of work: their logs, what they did, and their histories, computed on worked examples.
use Rattle.std.proofs.Common.{◌≡◌, ◌⊎◌, ℕ, zero, suc, ◌+◌, ◌<◌, List, [], ◌∷◌, ◌++◌, refl, inl, inr, arith}
use Rattle.std.specs.Prelude.{slice_index}
use Rattle.sw_base.specs.declared.path.Step.{Step}
use Rattle.log_format.specs.declared.record.Record.{Record}
use Rattle.log_format.specs.declared.record.Kind.{Kind}
use Rattle.log_format.specs.declared.record.Kind.TheVariants.{Read, Write, Lock, Unlock, Barrier, Region, End, Chunk, Update}
use Rattle.log_format.specs.Fitting.{wrapped, fit, CanHave}
use Rattle.step_history.specs.declared.item.Item.{Item}
use Rattle.step_history.specs.History.{item, Legal, HasHistory, value_at}
use Rattle.race_model.specs.Race.{IsAccess}
use Rattle.race_model.specs.History.{released, HasLegalHistory}
use Rattle.race_model.specs.Draws.{draws_by_loop}
use Rattle.history_model.specs.Work.{Work, Rest, Put, Fork, Phases, NoPhase, Phase, TeamWork, NoWork, Beside, fork_record, task_logs}
use Rattle.history_model.specs.Did.{did}
use Rattle.history_model.specs.Drawn.{then_loops}
use Rattle.history_model.specs.Joined.{LastIsEnd, PhasesEnd, IsJoined}
use Rattle.history_model.specs.Tasks.{tree_tasks}
use Rattle.history_model.specs.Sound.{WordLayout, IsSoundRecord, IsSound, ArePhasesSound, PassesBarrier}
use Rattle.history_laws.proofs.TreeHistory.{tree_history}
use Rattle.step_history.specs.declared.item.Deed.TheVariants as deed

-- ---- a team of two that meets at a barrier, in whose second phase one lane forks a region of two phases; then two lanes that count in
-- one word under a mutex, of which one stops while it holds it

-- one word at each address, with an element of eight bytes
abbrev plain_layout : WordLayout
plain_layout = record { word = λ address. address; address = λ word. word; width = λ word. 8 }

abbrev mark : Kind → Record
mark kind = record { kind = kind; size = 0; site = 0; line = 1; addr = 0; value = 0 }

abbrev word_access : Kind → ℕ → Record
word_access kind value = record { kind = kind; size = 8; site = 0; line = 2; addr = 0; value = value }

abbrev mutex_step : Kind → ℕ → Record
mutex_step kind line = record { kind = kind; size = 0; site = 0; line = line; addr = 7; value = 0 }

abbrev one_lane : Work → TeamWork
one_lane work = Beside work NoWork

abbrev two_lanes : Work → Work → TeamWork
two_lanes left right = Beside left (Beside right NoWork)

abbrev inner : Phases
inner = Phase (one_lane (Put (word_access Write 2) (Put (mark Barrier) Rest))) (Phase (one_lane (Put (word_access Read 2) (Put (mark End) Rest))) NoPhase)

abbrev outer : Phases
outer =
    Phase (two_lanes (Put (word_access Write 1) (Put (mark Barrier) Rest)) (Put (mark Barrier) Rest))
    (Phase (two_lanes (Put (mark End) Rest) (Fork 4 1 inner (Put (mark End) Rest))) NoPhase)

abbrev whole : Work
whole = Fork 3 2 outer (Put (mark End) Rest)

abbrev step : ℕ → ℕ → ℕ → Step
step region lane span = record { region = region; lane = lane; span = span }

-- each task's log has its phases in their order
pub root_log : task_logs whole [] ≡ fork_record 3 2 ∷ mark End ∷ []
root_log = refl

pub writer_log : task_logs whole (step 0 0 2 ∷ []) ≡ word_access Write 1 ∷ mark Barrier ∷ mark End ∷ []
writer_log = refl

pub forker_log : task_logs whole (step 0 1 2 ∷ []) ≡ mark Barrier ∷ fork_record 4 1 ∷ mark End ∷ []
forker_log = refl

pub inner_log : task_logs whole (step 0 1 2 ∷ step 0 0 1 ∷ []) ≡ word_access Write 2 ∷ mark Barrier ∷ word_access Read 2 ∷ mark End ∷ []
unfolding wrapped
inner_log = refl

-- a lane of another span, lane or region has none
pub no_such_span : task_logs whole (step 0 0 3 ∷ []) ≡ []
no_such_span = refl

pub no_such_lane : task_logs whole (step 0 2 2 ∷ []) ≡ []
no_such_lane = refl

pub no_such_region : task_logs whole (step 1 0 2 ∷ []) ≡ []
no_such_region = refl

-- the splits of a phase are numbered on, its hands do their work, and all come home before the next phase
abbrev steps : List Item
steps =
    item [] (deed.Split 0 0 2) ∷ item [] (deed.Split 1 1 2)
    ∷ item (0 ∷ []) (deed.Write 0 1) ∷ item [] (deed.Home 0) ∷ item [] (deed.Home 1)
    ∷ item [] (deed.Split 2 0 2) ∷ item [] (deed.Split 3 1 2) ∷ item [] (deed.Home 2)
    ∷ item (3 ∷ []) (deed.Split 0 0 1) ∷ item (0 ∷ 3 ∷ []) (deed.Write 0 2) ∷ item (3 ∷ []) (deed.Home 0)
    ∷ item (3 ∷ []) (deed.Split 1 0 1) ∷ item (1 ∷ 3 ∷ []) (deed.Read 0 2) ∷ item (3 ∷ []) (deed.Home 1)
    ∷ item [] (deed.Home 3) ∷ []

pub whole_did : did (λ address. address) [] 0 whole ≡ steps
whole_did = refl

no_access : (r : Record) → (r.kind ≡ Region → ⊥) → (IsAccess r → ⊥) → IsSoundRecord plain_layout r
no_access r other none = record { no_region = other; element = λ access. absurd (none access); stores = λ write. absurd (none (inr (inl write))) }

word_sound : (kind : Kind) (value : ℕ) → (kind ≡ Region → ⊥) → CanHave 8 value → IsSoundRecord plain_layout (word_access kind value)
word_sound kind value other can = record { no_region = other; element = λ access. record { address = refl; size = refl; width = inr (inr (inr refl)) }; stores = λ write. can }

mark_sound : (kind : Kind) → (kind ≡ Region → ⊥) → (kind ≡ Read → ⊥) → (kind ≡ Write → ⊥) → (kind ≡ Update → ⊥) → IsSoundRecord plain_layout (mark kind)
mark_sound kind other no_read no_write no_update = no_access (mark kind) other (λ access. at access) where
  at : IsAccess (mark kind) → ⊥
  at (inl read) = no_read read
  at (inr (inl write)) = no_write write
  at (inr (inr update)) = no_update update

ending : IsSound plain_layout (Put (mark End) Rest)
ending = (mark_sound End (λ e. cc) (λ e. cc) (λ e. cc) (λ e. cc), (λ e. refl), tt)

barrier : IsSound plain_layout (Put (mark Barrier) Rest)
barrier = (mark_sound Barrier (λ e. cc) (λ e. cc) (λ e. cc) (λ e. cc), (λ e. refl), tt)

then_barrier : (value : ℕ) → CanHave 8 value → IsSound plain_layout (Put (word_access Write value) (Put (mark Barrier) Rest))
then_barrier value can = (word_sound Write value (λ e. cc) can, (λ e. cc), barrier)

then_end : IsSound plain_layout (Put (word_access Read 2) (Put (mark End) Rest))
unfolding wrapped
then_end = (word_sound Read 2 (λ e. cc) refl, (λ e. cc), ending)

inner_is_sound : ArePhasesSound plain_layout 1 inner
unfolding wrapped
inner_is_sound = (refl, (then_barrier 2 refl, tt), inr (refl, tt), (refl, (then_end, tt), inl refl, tt))

outer_is_sound : ArePhasesSound plain_layout 2 outer
unfolding wrapped
outer_is_sound = (refl, (then_barrier 1 refl, (barrier, tt)), inr (refl, (refl, tt)), (refl, (ending, ((inner_is_sound, ending), tt)), inl refl, tt))

pub whole_is_sound : IsSound plain_layout whole
whole_is_sound = (outer_is_sound, ending)

-- a lane that passes no barrier before a later phase is refused, and so is a record behind a barrier
pub no_barrier_is_unsound : IsSound plain_layout (Fork 3 2 (Phase (two_lanes (Put (mark Barrier) Rest) Rest) (Phase (two_lanes Rest Rest) NoPhase)) Rest) → ⊥
no_barrier_is_unsound sound = at sound.0.2 where
  not_same : (m n : ℕ) → m ≡ n → m < n → ⊥
  not_same m n e less = omega arith

  at : (Phase (two_lanes Rest Rest) NoPhase ≡ NoPhase) ⊎ PassesBarrier (two_lanes (Put (mark Barrier) Rest) Rest) → ⊥
  at (inl none) = cc
  at (inr passes) = not_same 0 1 passes.1.0 (omega arith)

pub past_a_barrier_is_unsound : IsSound plain_layout (Put (mark Barrier) (Put (word_access Read 2) Rest)) → ⊥
past_a_barrier_is_unsound sound = let none : Put (word_access Read 2) Rest ≡ Rest = sound.1 refl in cc

-- the root goes on once its lanes have ended, and so does the lane that forks
end_last : (r : Record) → LastIsEnd (r ∷ mark End ∷ [])
end_last r = record { prefix = r ∷ []; last = mark End; parts = refl; ends = refl }

pub whole_is_joined : IsJoined whole
unfolding wrapped
whole_is_joined = (inr (just_end, (fork_then_end, tt)), ((tt, (tt, tt)), ((tt, ((inr (end_last (word_access Read 2), tt), ((tt, tt), ((tt, tt), tt)), tt), tt)), tt)), tt) where
  just_end : LastIsEnd (mark End ∷ [])
  just_end = record { prefix = []; last = mark End; parts = refl; ends = refl }

  fork_then_end : LastIsEnd (fork_record 4 1 ∷ mark End ∷ [])
  fork_then_end = end_last (fork_record 4 1)

-- but not past a lane that has no End
pub unended_lane_is_not_joined : IsJoined (Fork 3 1 (Phase (one_lane Rest) NoPhase) (Put (mark End) Rest)) → ⊥
unended_lane_is_not_joined joined = at joined.0 where
  no_end : (prefix : List Record) (last : Record) → [] ≡ prefix ++ last ∷ [] → ⊥
  no_end [] last same = cc
  no_end (r ∷ prefix) last same = cc

  at : (Put (mark End) Rest ≡ Rest) ⊎ PhasesEnd (Phase (one_lane Rest) NoPhase) → ⊥
  at (inl none) = cc
  at (inr ends) = no_end ends.0.prefix ends.0.last ends.0.parts

-- the steps of the tree have a history, in the order in which they stand
pub whole_has_history : HasHistory (did (λ address. address) [] 0 whole) (2 ∷ [])
whole_has_history = record {
  log = steps;
  legal = legal;
  whole = λ name. refl;
  ends = λ w less. first w less;
} where
  legal : Legal steps
  legal = (
    record { out = refl; fits = tt },
    (
      record { out = refl; fits = tt },
      (
        record { out = refl; fits = tt },
        (
          record { out = refl; fits = refl },
          (
            record { out = refl; fits = refl },
            (
              record { out = refl; fits = tt },
              (
                record { out = refl; fits = tt },
                (
                  record { out = refl; fits = refl },
                  (
                    record { out = refl; fits = tt },
                    (
                      record { out = refl; fits = tt },
                      (
                        record { out = refl; fits = refl },
                        (
                          record { out = refl; fits = tt },
                          (record { out = refl; fits = refl }, (record { out = refl; fits = refl }, (record { out = refl; fits = refl }, tt))),
                        ),
                      ),
                    ),
                  ),
                ),
              ),
            ),
          ),
        ),
      ),
    ),
  )

  first : (w : ℕ) → w < 1 → slice_index (2 ∷ []) w ≡ value_at w steps
  first zero less = refl
  first (suc w) less = absurd (omega arith)

-- two lanes that add one under a mutex, the second of which stops while it holds it
abbrev adding : ℕ → Work → Work
adding found more = Put (mutex_step Lock 5) (Put (word_access Read found) (Put (word_access Write (found + 1)) more))

abbrev stopping : Work
stopping = Fork 3 2 (Phase (two_lanes (adding 0 (Put (mutex_step Unlock 6) (Put (mark End) Rest))) (adding 1 (Put (mutex_step Unlock 0) Rest))) NoPhase) Rest

-- what the second lane releases isn't in its log
pub stopped_log : task_logs stopping (step 0 1 2 ∷ []) ≡ released (mutex_step Lock 5 ∷ word_access Read 1 ∷ word_access Write 2 ∷ [])
unfolding wrapped
stopped_log = refl

-- so the tree has a history of its records
pub whole_has_legal_history : HasLegalHistory (task_logs whole) plain_layout.address (2 ∷ [])
unfolding wrapped
whole_has_legal_history =
    tree_history plain_layout whole whole_is_sound (2 ∷ []) (2 ∷ []) (λ w less. (refl, inr (inr (inr refl)))) (record { count = refl; each = each }) whole_has_history (task_logs whole) (λ path. inl refl)
  where
    each : (w : ℕ) → w < 1 → slice_index (2 ∷ []) w ≡ fit (slice_index (2 ∷ []) w) 8
    each zero less = refl
    each (suc w) less = absurd (omega arith)

-- and so has the tree that stops, in which the second lane finds what the first left
pub stopping_has_history : HasHistory (did (λ address. address) [] 0 stopping) (2 ∷ [])
stopping_has_history = record { log = did (λ address. address) [] 0 stopping; legal = legal; whole = λ name. refl; ends = λ w less. first w less } where
  legal : Legal (did (λ address. address) [] 0 stopping)
  legal = (
    record { out = refl; fits = tt },
    (
      record { out = refl; fits = tt },
      (
        record { out = refl; fits = refl },
        (
          record { out = refl; fits = refl },
          (
            record { out = refl; fits = tt },
            (
              record { out = refl; fits = refl },
              (
                record { out = refl; fits = refl },
                (
                  record { out = refl; fits = refl },
                  (record { out = refl; fits = refl }, (record { out = refl; fits = tt }, (record { out = refl; fits = refl }, (record { out = refl; fits = refl }, tt)))),
                ),
              ),
            ),
          ),
        ),
      ),
    ),
  )

  first : (w : ℕ) → w < 1 → slice_index (2 ∷ []) w ≡ value_at w (did (λ address. address) [] 0 stopping)
  first zero less = refl
  first (suc w) less = absurd (omega arith)

-- the tasks in the order of an index: each lane, and then what is under it
pub whole_tasks : tree_tasks 4 whole ≡
    record { path = []; records = fork_record 3 2 ∷ mark End ∷ [] }
    ∷ record { path = step 0 0 2 ∷ []; records = word_access Write 1 ∷ mark Barrier ∷ mark End ∷ [] }
    ∷ record { path = step 0 1 2 ∷ []; records = mark Barrier ∷ fork_record 4 1 ∷ mark End ∷ [] }
    ∷ record { path = step 0 1 2 ∷ step 0 0 1 ∷ []; records = word_access Write 2 ∷ mark Barrier ∷ word_access Read 2 ∷ mark End ∷ [] }
    ∷ []
unfolding wrapped
whole_tasks = refl

pub root_alone : tree_tasks 0 whole ≡ record { path = []; records = fork_record 3 2 ∷ mark End ∷ [] } ∷ []
root_alone = refl

-- a log that goes on within a loop, and past its end
abbrev chunk_record : ℕ → ℕ → Record
chunk_record number count = record { kind = Chunk; size = 0; site = 0; line = 3; addr = number; value = count }

pub within_a_loop : then_loops (draws_by_loop (chunk_record 0 3 ∷ [])) (draws_by_loop (chunk_record 2 3 ∷ chunk_record 3 3 ∷ [])) ≡ (0 ∷ 2 ∷ []) ∷ [] ∷ []
within_a_loop = refl

pub past_a_loop : then_loops (draws_by_loop (chunk_record 3 3 ∷ [])) (draws_by_loop (chunk_record 0 1 ∷ [])) ≡ [] ∷ (0 ∷ []) ∷ []
past_a_loop = refl

-- ---- a task that adds twice to an element of one byte, past the end of its width, and then reads it

abbrev byte_layout : WordLayout
byte_layout = record { word = λ address. address; address = λ word. word; width = λ word. 1 }

abbrev byte_access : Kind → ℕ → Record
byte_access kind value = record { kind = kind; size = 1; site = 0; line = 2; addr = 0; value = value }

-- it loads the whole word, in which the sum is 200
abbrev counting : Work
counting = Put (byte_access Update 100) (Put (byte_access Update 100) (Put (byte_access Read 200) Rest))

-- its log has the element's value, -56
pub counting_log : task_logs counting [] ≡ byte_access Update 100 ∷ byte_access Update 100 ∷ byte_access Read 18446744073709551560 ∷ []
unfolding wrapped
counting_log = refl

pub counting_has_history : HasHistory (did (λ address. address) [] 0 counting) (200 ∷ [])
counting_has_history = record {
  log = did (λ address. address) [] 0 counting;
  legal = (record { out = refl; fits = tt }, (record { out = refl; fits = tt }, (record { out = refl; fits = refl }, tt)));
  whole = λ name. refl;
  ends = λ w less. first w less;
}
  where
    first : (w : ℕ) → w < 1 → slice_index (200 ∷ []) w ≡ value_at w (did (λ address. address) [] 0 counting)
    first zero less = refl
    first (suc w) less = absurd (omega arith)

byte_sound : (kind : Kind) (value : ℕ) → (kind ≡ Region → ⊥) → (kind ≡ Write → ⊥) → IsSoundRecord byte_layout (byte_access kind value)
byte_sound kind value other no_write = record { no_region = other; element = λ access. record { address = refl; size = refl; width = inl refl }; stores = λ write. absurd (no_write write) }

counting_is_sound : IsSound byte_layout counting
counting_is_sound = (
  byte_sound Update 100 (λ e. cc) (λ e. cc),
  (λ e. cc),
  (byte_sound Update 100 (λ e. cc) (λ e. cc), (λ e. cc), (byte_sound Read 200 (λ e. cc) (λ e. cc), (λ e. cc), tt)),
)

-- the sum is cut to the element's width in the history of the log, which ends in the element's value
pub counting_has_legal_history : HasLegalHistory (task_logs counting) byte_layout.address (18446744073709551560 ∷ [])
unfolding wrapped
counting_has_legal_history =
    tree_history byte_layout counting counting_is_sound (200 ∷ []) (18446744073709551560 ∷ []) (λ w less. (refl, inl refl)) (record { count = refl; each = each }) counting_has_history (task_logs counting) (λ path. inl refl)
  where
    each : (w : ℕ) → w < 1 → slice_index (18446744073709551560 ∷ []) w ≡ fit (slice_index (200 ∷ []) w) 1
    each zero less = refl
    each (suc w) less = absurd (omega arith)
