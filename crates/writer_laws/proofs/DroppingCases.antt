-- Cases in which a premise of dropping isn't met, and a pair is lost.
use Rattle.std.proofs.Common.{◌≡◌, ℕ, false, [], ◌∷◌, Some, refl, sym, subst, arith, ◌∙◌, inl, inr}
use Rattle.std.proofs.lemmas.Option.{same_Some}
use Rattle.log_format.specs.declared.record.Record.{Record}
use Rattle.log_format.specs.declared.record.Kind.TheVariants.{Read, Write, Lock, Unlock, Barrier, End}
use Rattle.race_model.specs.Trace.{Trace, Node, logs_of, record_at}
use Rattle.race_model.specs.Race.{IsAccess}
use Rattle.writer_laws.specs.Cases.{Premise, IsMet, HasAllBut, DropsAllBut, LosesWithout, plain_access, of_mutex, mark_of_kind, lane, two_lanes, all_but}
use Rattle.writer_laws.proofs.Computed.{AreKept, kept_logs, left_out, no_mutex, part_at_once, pair_of, loses}

-- one access is left out of a run, and another one is kept for it
drops_one : (p : Premise) (trace other : Trace) (x : Node) (r : Record) → AreKept (all_but x.path x.index) trace other → record_at (logs_of trace) x ≡ Some r → IsAccess r
    → HasAllBut p (all_but x.path x.index) (logs_of trace) x r → DropsAllBut p (all_but x.path x.index) (logs_of trace) (logs_of other)
drops_one p trace other x r kept there is has = record {
  kept = kept_logs (all_but x.path x.index) trace other kept;
  accesses = λ y s found out. subst IsAccess (same y s found out) is;
  each = λ y s found out.
      subst (λ (e : Record). HasAllBut p (all_but x.path x.index) (logs_of trace) y e) (same y s found out)
      (subst (λ (n : Node). HasAllBut p (all_but x.path x.index) (logs_of trace) n r) (sym (left_out x.path x.index y out)) has);
}
  where
    same : (y : Node) (s : Record) → record_at (logs_of trace) y ≡ Some s → all_but x.path x.index y ≡ false → r ≡ s
    same y s found out = same_Some r s (sym there ∙ subst (λ (n : Node). record_at (logs_of trace) n ≡ Some s) (left_out x.path x.index y out) found)

abbrev node : ℕ → ℕ → Node
node n index = record { path = lane 0 n; index = index }

abbrev task_run : Trace
task_run = two_lanes (plain_access Write 5 100 0 ∷ mark_of_kind End ∷ []) (plain_access Write 5 100 0 ∷ mark_of_kind End ∷ [])

abbrev task_dropped : Trace
task_dropped = two_lanes (mark_of_kind End ∷ []) (plain_access Write 5 100 0 ∷ mark_of_kind End ∷ [])

task_meets : (q : Premise) → (q ≡ Premise.OfTask → ⊥) → IsMet q (logs_of task_run) (node 0 0) (plain_access Write 5 100 0) (node 1 0) (plain_access Write 5 100 0)
task_meets Premise.OfTask other = absurd (other refl)
task_meets Premise.BetweenBarriers other = refl
task_meets Premise.OfLine other = refl
task_meets Premise.OfBytes other = λ byte has. record { from_start = has.from_start; to_end = has.to_end }
task_meets Premise.OfKind other = inl refl
task_meets Premise.UnderMutexes other = λ m held. held

task_loses : LosesWithout Premise.OfTask
task_loses = record {
  keep = all_but (lane 0 0) 0;
  logs = logs_of task_run;
  others = logs_of task_dropped;
  drops = drops_one Premise.OfTask task_run task_dropped (node 0 0) (plain_access Write 5 100 0) (refl, refl, (refl, refl, (refl, refl, tt))) refl (inr (inl refl))
      (record { place = node 1 0; event = plain_access Write 5 100 0; found = refl; in_it = refl; meets = task_meets });
  loses = loses task_run task_dropped (5, 5) refl refl
      (pair_of task_run (node 0 0) (node 1 0) (plain_access Write 5 100 0) (plain_access Write 5 100 0) 0 refl refl refl (inr (inl refl)) (inr (inl refl)) (part_at_once 0 0 1 2 [] [] (λ e. omega arith)) refl
      (100, record { from_start = omega arith; to_end = omega arith }, record { from_start = omega arith; to_end = omega arith }) (inl (inl refl)) (λ mine yours. cc) (λ m mine yours. no_mutex m mine))
      refl;
}

abbrev barriers_run : Trace
barriers_run = two_lanes (plain_access Write 5 100 0 ∷ mark_of_kind Barrier ∷ plain_access Write 5 100 0 ∷ mark_of_kind End ∷ []) (mark_of_kind Barrier ∷ plain_access Read 7 100 0 ∷ mark_of_kind End ∷ [])

abbrev barriers_dropped : Trace
barriers_dropped = two_lanes (plain_access Write 5 100 0 ∷ mark_of_kind Barrier ∷ mark_of_kind End ∷ []) (mark_of_kind Barrier ∷ plain_access Read 7 100 0 ∷ mark_of_kind End ∷ [])

barriers_meets : (q : Premise) → (q ≡ Premise.BetweenBarriers → ⊥) → IsMet q (logs_of barriers_run) (node 0 2) (plain_access Write 5 100 0) (node 0 0) (plain_access Write 5 100 0)
barriers_meets Premise.OfTask other = refl
barriers_meets Premise.BetweenBarriers other = absurd (other refl)
barriers_meets Premise.OfLine other = refl
barriers_meets Premise.OfBytes other = λ byte has. record { from_start = has.from_start; to_end = has.to_end }
barriers_meets Premise.OfKind other = inl refl
barriers_meets Premise.UnderMutexes other = λ m held. held

barriers_loses : LosesWithout Premise.BetweenBarriers
barriers_loses = record {
  keep = all_but (lane 0 0) 2;
  logs = logs_of barriers_run;
  others = logs_of barriers_dropped;
  drops = drops_one Premise.BetweenBarriers barriers_run barriers_dropped (node 0 2) (plain_access Write 5 100 0) (refl, refl, (refl, refl, (refl, refl, tt))) refl (inr (inl refl))
      (record { place = node 0 0; event = plain_access Write 5 100 0; found = refl; in_it = refl; meets = barriers_meets });
  loses = loses barriers_run barriers_dropped (5, 7) refl refl
      (pair_of barriers_run (node 0 2) (node 1 1) (plain_access Write 5 100 0) (plain_access Read 7 100 0) 0 refl refl refl (inr (inl refl)) (inl refl) (part_at_once 0 0 1 2 [] [] (λ e. omega arith)) refl
      (100, record { from_start = omega arith; to_end = omega arith }, record { from_start = omega arith; to_end = omega arith }) (inl (inl refl)) (λ mine yours. cc) (λ m mine yours. no_mutex m mine))
      refl;
}

abbrev line_run : Trace
line_run = two_lanes (plain_access Write 5 100 0 ∷ plain_access Write 6 100 0 ∷ mark_of_kind End ∷ []) (plain_access Read 7 100 0 ∷ mark_of_kind End ∷ [])

abbrev line_dropped : Trace
line_dropped = two_lanes (plain_access Write 5 100 0 ∷ mark_of_kind End ∷ []) (plain_access Read 7 100 0 ∷ mark_of_kind End ∷ [])

line_meets : (q : Premise) → (q ≡ Premise.OfLine → ⊥) → IsMet q (logs_of line_run) (node 0 1) (plain_access Write 6 100 0) (node 0 0) (plain_access Write 5 100 0)
line_meets Premise.OfTask other = refl
line_meets Premise.BetweenBarriers other = refl
line_meets Premise.OfLine other = absurd (other refl)
line_meets Premise.OfBytes other = λ byte has. record { from_start = has.from_start; to_end = has.to_end }
line_meets Premise.OfKind other = inl refl
line_meets Premise.UnderMutexes other = λ m held. held

line_loses : LosesWithout Premise.OfLine
line_loses = record {
  keep = all_but (lane 0 0) 1;
  logs = logs_of line_run;
  others = logs_of line_dropped;
  drops = drops_one Premise.OfLine line_run line_dropped (node 0 1) (plain_access Write 6 100 0) (refl, refl, (refl, refl, (refl, refl, tt))) refl (inr (inl refl))
      (record { place = node 0 0; event = plain_access Write 5 100 0; found = refl; in_it = refl; meets = line_meets });
  loses = loses line_run line_dropped (6, 7) refl refl
      (pair_of line_run (node 0 1) (node 1 0) (plain_access Write 6 100 0) (plain_access Read 7 100 0) 0 refl refl refl (inr (inl refl)) (inl refl) (part_at_once 0 0 1 2 [] [] (λ e. omega arith)) refl
      (100, record { from_start = omega arith; to_end = omega arith }, record { from_start = omega arith; to_end = omega arith }) (inl (inl refl)) (λ mine yours. cc) (λ m mine yours. no_mutex m mine))
      refl;
}

abbrev bytes_run : Trace
bytes_run = two_lanes (plain_access Write 5 100 0 ∷ plain_access Write 5 108 0 ∷ mark_of_kind End ∷ []) (plain_access Read 7 108 0 ∷ mark_of_kind End ∷ [])

abbrev bytes_dropped : Trace
bytes_dropped = two_lanes (plain_access Write 5 100 0 ∷ mark_of_kind End ∷ []) (plain_access Read 7 108 0 ∷ mark_of_kind End ∷ [])

bytes_meets : (q : Premise) → (q ≡ Premise.OfBytes → ⊥) → IsMet q (logs_of bytes_run) (node 0 1) (plain_access Write 5 108 0) (node 0 0) (plain_access Write 5 100 0)
bytes_meets Premise.OfTask other = refl
bytes_meets Premise.BetweenBarriers other = refl
bytes_meets Premise.OfLine other = refl
bytes_meets Premise.OfBytes other = absurd (other refl)
bytes_meets Premise.OfKind other = inl refl
bytes_meets Premise.UnderMutexes other = λ m held. held

bytes_loses : LosesWithout Premise.OfBytes
bytes_loses = record {
  keep = all_but (lane 0 0) 1;
  logs = logs_of bytes_run;
  others = logs_of bytes_dropped;
  drops = drops_one Premise.OfBytes bytes_run bytes_dropped (node 0 1) (plain_access Write 5 108 0) (refl, refl, (refl, refl, (refl, refl, tt))) refl (inr (inl refl))
      (record { place = node 0 0; event = plain_access Write 5 100 0; found = refl; in_it = refl; meets = bytes_meets });
  loses = loses bytes_run bytes_dropped (5, 7) refl refl
      (pair_of bytes_run (node 0 1) (node 1 0) (plain_access Write 5 108 0) (plain_access Read 7 108 0) 0 refl refl refl (inr (inl refl)) (inl refl) (part_at_once 0 0 1 2 [] [] (λ e. omega arith)) refl
      (108, record { from_start = omega arith; to_end = omega arith }, record { from_start = omega arith; to_end = omega arith }) (inl (inl refl)) (λ mine yours. cc) (λ m mine yours. no_mutex m mine))
      refl;
}

abbrev kind_run : Trace
kind_run = two_lanes (plain_access Read 5 100 0 ∷ plain_access Write 5 100 0 ∷ mark_of_kind End ∷ []) (plain_access Read 7 100 0 ∷ mark_of_kind End ∷ [])

abbrev kind_dropped : Trace
kind_dropped = two_lanes (plain_access Read 5 100 0 ∷ mark_of_kind End ∷ []) (plain_access Read 7 100 0 ∷ mark_of_kind End ∷ [])

kind_meets : (q : Premise) → (q ≡ Premise.OfKind → ⊥) → IsMet q (logs_of kind_run) (node 0 1) (plain_access Write 5 100 0) (node 0 0) (plain_access Read 5 100 0)
kind_meets Premise.OfTask other = refl
kind_meets Premise.BetweenBarriers other = refl
kind_meets Premise.OfLine other = refl
kind_meets Premise.OfBytes other = λ byte has. record { from_start = has.from_start; to_end = has.to_end }
kind_meets Premise.OfKind other = absurd (other refl)
kind_meets Premise.UnderMutexes other = λ m held. held

kind_loses : LosesWithout Premise.OfKind
kind_loses = record {
  keep = all_but (lane 0 0) 1;
  logs = logs_of kind_run;
  others = logs_of kind_dropped;
  drops = drops_one Premise.OfKind kind_run kind_dropped (node 0 1) (plain_access Write 5 100 0) (refl, refl, (refl, refl, (refl, refl, tt))) refl (inr (inl refl))
      (record { place = node 0 0; event = plain_access Read 5 100 0; found = refl; in_it = refl; meets = kind_meets });
  loses = loses kind_run kind_dropped (5, 7) refl refl
      (pair_of kind_run (node 0 1) (node 1 0) (plain_access Write 5 100 0) (plain_access Read 7 100 0) 0 refl refl refl (inr (inl refl)) (inl refl) (part_at_once 0 0 1 2 [] [] (λ e. omega arith)) refl
      (100, record { from_start = omega arith; to_end = omega arith }, record { from_start = omega arith; to_end = omega arith }) (inl (inl refl)) (λ mine yours. cc) (λ m mine yours. no_mutex m mine))
      refl;
}

abbrev mutexes_run : Trace
mutexes_run = two_lanes (of_mutex Lock 1 ∷ plain_access Write 5 100 0 ∷ of_mutex Unlock 1 ∷ plain_access Write 5 100 0 ∷ mark_of_kind End ∷ []) (of_mutex Lock 1 ∷ plain_access Read 7 100 0 ∷ of_mutex Unlock 1 ∷ mark_of_kind End ∷ [])

abbrev mutexes_dropped : Trace
mutexes_dropped = two_lanes (of_mutex Lock 1 ∷ plain_access Write 5 100 0 ∷ of_mutex Unlock 1 ∷ mark_of_kind End ∷ []) (of_mutex Lock 1 ∷ plain_access Read 7 100 0 ∷ of_mutex Unlock 1 ∷ mark_of_kind End ∷ [])

mutexes_meets : (q : Premise) → (q ≡ Premise.UnderMutexes → ⊥) → IsMet q (logs_of mutexes_run) (node 0 3) (plain_access Write 5 100 0) (node 0 1) (plain_access Write 5 100 0)
mutexes_meets Premise.OfTask other = refl
mutexes_meets Premise.BetweenBarriers other = refl
mutexes_meets Premise.OfLine other = refl
mutexes_meets Premise.OfBytes other = λ byte has. record { from_start = has.from_start; to_end = has.to_end }
mutexes_meets Premise.OfKind other = inl refl
mutexes_meets Premise.UnderMutexes other = absurd (other refl)

mutexes_loses : LosesWithout Premise.UnderMutexes
mutexes_loses = record {
  keep = all_but (lane 0 0) 3;
  logs = logs_of mutexes_run;
  others = logs_of mutexes_dropped;
  drops = drops_one Premise.UnderMutexes mutexes_run mutexes_dropped (node 0 3) (plain_access Write 5 100 0) (refl, refl, (refl, refl, (refl, refl, tt))) refl (inr (inl refl))
      (record { place = node 0 1; event = plain_access Write 5 100 0; found = refl; in_it = refl; meets = mutexes_meets });
  loses = loses mutexes_run mutexes_dropped (5, 7) refl refl
      (pair_of mutexes_run (node 0 3) (node 1 1) (plain_access Write 5 100 0) (plain_access Read 7 100 0) 0 refl refl refl (inr (inl refl)) (inl refl) (part_at_once 0 0 1 2 [] [] (λ e. omega arith)) refl
      (100, record { from_start = omega arith; to_end = omega arith }, record { from_start = omega arith; to_end = omega arith }) (inl (inl refl)) (λ mine yours. cc) (λ m mine yours. no_mutex m mine))
      refl;
}

pub loses_without : (p : Premise) → LosesWithout p
loses_without Premise.OfTask = task_loses
loses_without Premise.BetweenBarriers = barriers_loses
loses_without Premise.OfLine = line_loses
loses_without Premise.OfBytes = bytes_loses
loses_without Premise.OfKind = kind_loses
loses_without Premise.UnderMutexes = mutexes_loses
