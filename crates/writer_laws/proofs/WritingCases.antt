-- Cases in which a premise of the other laws isn't met.
use Rattle.std.proofs.Common.{◌≡◌, ℕ, true, List, [], ◌∷◌, Some, refl, subst, arith, inl, inr}
use Rattle.std.specs.Prelude.{Contains, map}
use Rattle.sw_base.specs.declared.path.Step.{Step}
use Rattle.log_format.specs.declared.record.Record.{Record}
use Rattle.log_format.specs.declared.record.Kind.TheVariants.{Read, Write, Region}
use Rattle.race_model.specs.Trace.{Trace, Node, logs_of, record_at}
use Rattle.race_model.specs.Listing.{lane_of}
use Rattle.race_model.specs.ForkJoin.{IsForkJoin, IsTask}
use Rattle.race_model.specs.Race.{IsRacePair, held_at}
use Rattle.counted_order.specs.Parting.{PartInLanes}
use Rattle.writer_laws.specs.Cases.{
  LosesPair,
  DifferInLocksAlone,
  plain_access,
  lane,
  inner_lane,
  event_of,
  unlocked_access,
  locked_access,
  held_over_barrier,
  cut_where_held,
  team_inside,
  cut_inside,
  no_barrier,
  span_changed,
  first_half,
  second_half,
}
use Rattle.writer_laws.specs.Guards.{guarded}
use Rattle.writer_laws.proofs.Alike.{alike_logs}
use Rattle.writer_laws.proofs.Computed.{no_mutex, part_at_once, pair_of, loses}
use Rattle.writer_laws.proofs.Deciding.{is_fork_join, lacks_pair, passed}

abbrev node : List Step → ℕ → Node
node path index = record { path = path; index = index }

-- line 5 writes what line 7 reads, in two lanes of a region
pair : (trace : Trace) (x y : Node) → record_at (logs_of trace) x ≡ Some (plain_access Write 5 100 0) → record_at (logs_of trace) y ≡ Some (plain_access Read 7 100 0) → is_fork_join trace ≡ true
    → PartInLanes x.path y.path 0 → passed (logs_of trace) x 0 ≡ passed (logs_of trace) y 0 → held_at (logs_of trace) x ≡ [] → IsRacePair (logs_of trace) (5, 7)
pair trace x y left right fine parts level free =
    pair_of trace x y (plain_access Write 5 100 0) (plain_access Read 7 100 0) 0 fine left right (inr (inl refl)) (inl refl) parts level
    (100, record { from_start = omega arith; to_end = omega arith }, record { from_start = omega arith; to_end = omega arith }) (inl (inl refl)) (λ mine yours. cc)
    (λ m mine yours. no_mutex m (subst (λ (held : List ℕ). Contains held m) free mine))

pub lock_moved : DifferInLocksAlone (logs_of unlocked_access) (logs_of locked_access)
lock_moved path = alike_logs (λ (records others : List Record). map event_of (guarded records) ≡ map event_of (guarded others)) unlocked_access locked_access refl
    (refl, refl, (refl, refl, (refl, refl, tt))) path

pub lock_hides : LosesPair (logs_of unlocked_access) (logs_of locked_access)
lock_hides = loses unlocked_access locked_access (5, 7) refl refl
    (pair unlocked_access (node (lane 0 0) 0) (node (lane 0 1) 1) refl refl refl (part_at_once 0 0 1 2 [] [] (λ e. omega arith)) refl refl) refl

pub held_cut : LosesPair (logs_of cut_where_held) (logs_of held_over_barrier)
held_cut = loses cut_where_held held_over_barrier (5, 7) refl refl
    (pair cut_where_held (node (lane 1 0) 0) (node (lane 1 1) 1) refl refl refl (part_at_once 1 0 1 2 [] [] (λ e. omega arith)) refl refl) refl

pub inside_cut : LosesPair (logs_of team_inside) (logs_of cut_inside)
inside_cut = loses team_inside cut_inside (5, 7) refl refl
    (pair team_inside (node (inner_lane (lane 0 0) 0 0) 1) (node (lane 0 1) 0) refl refl refl (part_at_once 0 0 1 2 (record { region = 0; lane = 0; span = 2 } ∷ []) [] (λ e. omega arith)) refl refl) refl

pub within_split : (pair : ℕ × ℕ) × IsRacePair (logs_of no_barrier) pair × (IsRacePair (logs_of first_half) pair → ⊥) × (IsRacePair (logs_of second_half) pair → ⊥)
within_split = (
  (5, 7),
  pair no_barrier (node (lane 0 0) 0) (node (lane 0 1) 0) refl refl refl (part_at_once 0 0 1 2 [] [] (λ e. omega arith)) refl refl,
  lacks_pair first_half (5, 7) refl refl,
  lacks_pair second_half (5, 7) refl refl,
)

pub span_matters : IsForkJoin (logs_of span_changed) → ⊥
span_matters tree = none (tree.ends.lanes (node [] 0) 0 1 (lane_of [] 0 0 1)
    (record { event = record { kind = Region; size = 0; site = 0; line = 1; addr = 0; value = 1 }; found = refl; region = refl; spans = refl; in_span = omega arith; child = refl }))
  where
    none : IsTask (logs_of span_changed) (lane_of [] 0 0 1) → ⊥
    none task = omega arith
