-- A run to which all laws apply.
use Rattle.std.proofs.Common.{◌≡◌, ◌⊎◌, ℕ, zero, suc, ◌<◌, Bool, true, false, ◌&&◌, List, [], ◌∷◌, Some, refl, sym, ap, subst, arith, ◌∙◌, inl, inr}
use Rattle.std.proofs.lemmas.Option.{same_Some}
use Rattle.sw_base.specs.declared.path.Step.{Step}
use Rattle.log_format.specs.declared.record.Record.{Record}
use Rattle.log_format.specs.declared.record.Kind.TheVariants.{Read, Write, Lock, Unlock, Barrier, Region, End}
use Rattle.race_model.specs.Listing.{lane_of}
use Rattle.race_model.specs.Trace.{Trace, Logs, Node, logs_of, record_at}
use Rattle.race_model.specs.Order.{IsLane}
use Rattle.race_model.specs.Race.{IsAccess}
use Rattle.race_model.specs.ForkJoin.{IsForkJoin}
use Rattle.race_laws.proofs.ForkJoinExample.{EachTask, at_task}
use Rattle.race_laws.proofs.LabelPlace.{not_both_empty}
use Rattle.writer_laws.specs.Cases.{plain_access, of_mutex, mark_of_kind, fork, lane, all_but, no_root_access, reader, whole_run, without_root, without_repeated, with_locks_moved, without_values, cut_run, first_folder, second_folder}
use Rattle.writer_laws.specs.Cutting.{cut_number, IsLaneCut, IsElsewhere, IsCut}
use Rattle.writer_laws.specs.Dropping.{MayBeDropped, Drops, DropsAtRoot}
use Rattle.writer_laws.specs.Guards.{Guarded, guarded, AreGuardedAlike, DifferInLocks}
use Rattle.writer_laws.specs.Places.{IsAtPlace}
use Rattle.writer_laws.specs.Splitting.{later_number, KeepsLogs, IsSplit}
use Rattle.writer_laws.specs.StandIns.{HasStandIn}
use Rattle.writer_laws.specs.Values.{IsSameButValue, AreSameButValues, DifferInValues}
use Rattle.writer_laws.specs.Writing.{IsWritten}
use Rattle.writer_laws.proofs.Alike.{alike_logs}
use Rattle.writer_laws.proofs.Computed.{kept_logs, left_out}
use Rattle.writer_laws.proofs.Deciding.{is_fork_join, fork_join_by}
use Rattle.writer_laws.proofs.Origins.{old_from, old_is}

pub whole_is_run : IsForkJoin (logs_of whole_run)
whole_is_run = fork_join_by whole_run refl

-- without the root's accesses
one_left : (a b : Bool) → (a && b) ≡ false → (a ≡ false) ⊎ (b ≡ false)
one_left true b is = inr is
one_left false b is = inl refl

root_left : (x : Node) → no_root_access x ≡ false → (x ≡ record { path = []; index = 0 }) ⊎ (x ≡ record { path = []; index = 2 })
root_left x is = at (one_left (all_but [] 0 x) (all_but [] 2 x) is)
  where
    at : (all_but [] 0 x ≡ false) ⊎ (all_but [] 2 x ≡ false) → (x ≡ record { path = []; index = 0 }) ⊎ (x ≡ record { path = []; index = 2 })
    at (inl first) = inl (left_out [] 0 x first)
    at (inr third) = inr (left_out [] 2 x third)

pub root_is_dropped : DropsAtRoot no_root_access (logs_of whole_run) (logs_of without_root)
root_is_dropped = record {
  kept = kept_logs no_root_access whole_run without_root (refl, refl, (refl, refl, (refl, refl, (refl, refl, (refl, refl, (refl, refl, (refl, refl, tt)))))));
  accesses = λ x r found out. is_access x r found (root_left x out);
  at_root = λ x out. in_root x (root_left x out);
}
  where
    is_access : (x : Node) (r : Record) → record_at (logs_of whole_run) x ≡ Some r → (x ≡ record { path = []; index = 0 }) ⊎ (x ≡ record { path = []; index = 2 }) → IsAccess r
    is_access x r found (inl is) = subst IsAccess (same_Some (plain_access Write 3 400 7) r (subst (λ (n : Node). record_at (logs_of whole_run) n ≡ Some r) is found)) (inr (inl refl))
    is_access x r found (inr is) = subst IsAccess (same_Some (plain_access Read 4 400 7) r (subst (λ (n : Node). record_at (logs_of whole_run) n ≡ Some r) is found)) (inl refl)

    in_root : (x : Node) → (x ≡ record { path = []; index = 0 }) ⊎ (x ≡ record { path = []; index = 2 }) → x.path ≡ []
    in_root x (inl is) = ap (λ (n : Node). n.path) is
    in_root x (inr is) = ap (λ (n : Node). n.path) is

-- without what is repeated
pub repeated_is_dropped : Drops (all_but (lane 0 0) 3) (logs_of without_root) (logs_of without_repeated)
repeated_is_dropped = record {
  kept = kept_logs (all_but (lane 0 0) 3) without_root without_repeated (refl, refl, (refl, refl, (refl, refl, (refl, refl, (refl, refl, (refl, refl, (refl, refl, tt)))))));
  accesses = λ x r found out. subst IsAccess (same x r found out) (inr (inl refl));
  each = λ x r found out. subst (λ (e : Record). MayBeDropped (all_but (lane 0 0) 3) (logs_of without_root) x e) (same x r found out)
      (subst (λ (n : Node). MayBeDropped (all_but (lane 0 0) 3) (logs_of without_root) n (plain_access Write 5 100 8)) (sym (left_out (lane 0 0) 3 x out)) (MayBeDropped.repeated first refl));
}
  where
    same : (x : Node) (r : Record) → record_at (logs_of without_root) x ≡ Some r → all_but (lane 0 0) 3 x ≡ false → plain_access Write 5 100 8 ≡ r
    same x r found out = same_Some (plain_access Write 5 100 8) r (subst (λ (n : Node). record_at (logs_of without_root) n ≡ Some r) (left_out (lane 0 0) 3 x out) found)

    first : HasStandIn (IsAtPlace (logs_of without_root) (logs_of without_root)) (logs_of without_root) (logs_of without_root) (record { path = lane 0 0; index = 3 }) (plain_access Write 5 100 8)
    first = record {
      place = record { path = lane 0 0; index = 1 };
      event = plain_access Write 5 100 7;
      found = refl;
      answers = record { same_task = refl; as_many = refl };
      covers = record { same_line = refl; bytes = λ byte has. record { from_start = has.from_start; to_end = has.to_end }; kind = inl refl };
      mutexes = λ m held. held;
    }

-- with locks moved
guards_itself : (guards : List Guarded) → AreGuardedAlike guards guards
guards_itself [] = tt
guards_itself (g ∷ guards) = (refl, (λ plain_access m. (λ h. h, λ h. h)), guards_itself guards)

other_kind : (r : Record) (P : Type 0) → (r.kind ≡ Region) ⊎ (r.kind ≡ Barrier) → IsAccess r → P
other_kind r P (inl region) (inl read) = cc
other_kind r P (inl region) (inr (inl write)) = cc
other_kind r P (inl region) (inr (inr update)) = cc
other_kind r P (inr barrier) (inl read) = cc
other_kind r P (inr barrier) (inr (inl write)) = cc
other_kind r P (inr barrier) (inr (inr update)) = cc

abbrev alike : List Record → List Record → Type 0
alike records others = AreGuardedAlike (guarded records) (guarded others)

pub locks_are_moved : DifferInLocks (logs_of without_repeated) (logs_of with_locks_moved)
locks_are_moved = record {
  guards = λ path. alike_logs alike without_repeated with_locks_moved tt (
    refl,
    itself (fork ∷ mark_of_kind End ∷ []),
    (
      refl,
      (
        refl,
        (λ plain_access m. (λ h. h, λ h. h)),
        (
          refl,
          (λ plain_access. other_kind fork _ (inl refl) plain_access),
          (
            refl,
            (λ plain_access. other_kind (mark_of_kind Barrier) _ (inr refl) plain_access),
            (
              refl,
              (λ plain_access. other_kind fork _ (inl refl) plain_access),
              (refl, (λ plain_access m. (λ h. h, λ h. h)), (refl, (λ plain_access m. (λ h. h, λ h. h)), tt)),
            ),
          ),
        ),
      ),
      (refl, itself (plain_access Write 6 100 0 ∷ mark_of_kind End ∷ []), (refl, itself (mark_of_kind End ∷ []), (refl, itself (plain_access Write 9 300 0 ∷ mark_of_kind End ∷ []), (refl, itself (plain_access Read 10 300 0 ∷ mark_of_kind End ∷ []), (refl, itself reader, tt))))),
    ),
  ) path;
  ended = λ path task. (fork_join_by with_locks_moved refl).ends.ended path task;
}
  where
    itself : (records : List Record) → alike records records
    itself records = guards_itself (guarded records)

-- without values
same_one : (r : Record) → IsSameButValue r r
same_one r = record { kind = refl; size = refl; line = refl; addr = refl; span = λ is. refl }

same_all : (records : List Record) → AreSameButValues records records
same_all [] = tt
same_all (r ∷ records) = (same_one r, same_all records)

other_value : (line addr : ℕ) → IsSameButValue (plain_access Write line addr 7) (plain_access Write line addr 0)
other_value line addr = record { kind = refl; size = refl; line = refl; addr = refl; span = λ is. cc }

pub values_are_zero : DifferInValues (logs_of with_locks_moved) (logs_of without_values)
values_are_zero path = alike_logs AreSameButValues with_locks_moved without_values tt (
  refl,
  same_all (fork ∷ mark_of_kind End ∷ []),
  (
    refl,
    (same_one (of_mutex Lock 1), (other_value 5 100, (same_one (of_mutex Unlock 1), (same_one fork, (same_one (mark_of_kind Barrier), (same_one fork, (same_one (of_mutex Lock 1), (other_value 8 200, same_all (of_mutex Unlock 1 ∷ mark_of_kind End ∷ []))))))))),
    (refl, same_all (plain_access Write 6 100 0 ∷ mark_of_kind End ∷ []), (refl, same_all (mark_of_kind End ∷ []), (refl, same_all (plain_access Write 9 300 0 ∷ mark_of_kind End ∷ []), (refl, same_all (plain_access Read 10 300 0 ∷ mark_of_kind End ∷ []), (refl, same_all reader, tt))))),
  ),
) path

-- a lane isn't the root
not_root : (logs : Logs) (f : Node) (n s : ℕ) (child : List Step) → IsLane logs f n s child → child ≡ [] → ⊥
not_root logs f n s child lane e = not_both_empty child f.path _ e lane.child

-- what is elsewhere keeps its log
abbrev StaysElsewhere : List Step → List Record → Type 0
StaysElsewhere path records = (path ≡ [] → ⊥) → IsElsewhere 0 2 path → records ≡ logs_of without_values (old_from (cut_number 0 (logs_of cut_run)) [] [] path)

early_lane : (n : ℕ) (records : List Record) → n < 2 → StaysElsewhere (lane 0 n) records
early_lane n records within deep is = absurd (is.not_early n within refl)

late_lane : (n : ℕ) (records : List Record) → n < 2 → StaysElsewhere (lane 1 n) records
late_lane n records within deep is = absurd (is.not_late n within refl)

elsewhere : EachTask StaysElsewhere cut_run
elsewhere = (
  λ deep is. absurd (deep refl),
  (early_lane 0 _ (omega arith), (λ deep is. refl, (λ deep is. refl, (early_lane 1 _ (omega arith), (late_lane 0 _ (omega arith), (λ deep is. refl, (λ deep is. refl, (late_lane 1 _ (omega arith), tt)))))))),
)

lanes : (n : ℕ) → n < 2 → IsLaneCut 0 (logs_of without_values (lane_of [] 0 n 2)) (logs_of cut_run (lane_of [] 0 n 2)) (logs_of cut_run (lane_of [] 1 n 2))
lanes zero less = record {
  first = of_mutex Lock 1 ∷ plain_access Write 5 100 0 ∷ of_mutex Unlock 1 ∷ fork ∷ [];
  barrier = mark_of_kind Barrier;
  ended = mark_of_kind End;
  whole_is = refl;
  early_is = refl;
  at_barrier = refl;
  at_end = refl;
  passed = refl;
  unlocked = refl;
}
lanes (suc zero) less = record {
  first = plain_access Read 7 100 0 ∷ [];
  barrier = mark_of_kind Barrier;
  ended = mark_of_kind End;
  whole_is = refl;
  early_is = refl;
  at_barrier = refl;
  at_end = refl;
  passed = refl;
  unlocked = refl;
}
lanes (suc (suc n)) less = absurd (omega arith)

pub region_is_cut : IsCut 0 0 2 (logs_of without_values) (logs_of cut_run)
region_is_cut = record {
  before = [];
  region = fork;
  again = fork;
  after = mark_of_kind End ∷ [];
  root = refl;
  new_root = refl;
  number_is = refl;
  forks = refl;
  spans = refl;
  forks_again = refl;
  spans_again = refl;
  only = (fork_join_by cut_run refl).tasks.forked;
  lanes = lanes;
  rest = λ path other f n s from lane is.
      at_task StaysElsewhere cut_run other elsewhere ((fork_join_by cut_run refl).ends.lanes f n s other lane) (not_root (logs_of cut_run) f n s other lane) is
      ∙ ap (logs_of without_values) (sym (old_is (cut_number 0 (logs_of cut_run)) path other from));
}

-- each folder keeps its logs
abbrev Stays : ℕ → List Step → List Record → Type 0
Stays k path records = (path ≡ [] → ⊥) → records ≡ logs_of cut_run (old_from (later_number k) [] [] path)

kept_there : (k : ℕ) (part : Trace) → is_fork_join part ≡ true → EachTask (Stays k) part → KeepsLogs k (logs_of cut_run) (logs_of part)
kept_there k part fine each path other f n s from lane =
    at_task (Stays k) part other each ((fork_join_by part fine).ends.lanes f n s other lane) (not_root (logs_of part) f n s other lane)
    ∙ ap (logs_of cut_run) (sym (old_is (later_number k) path other from))

pub run_is_split : IsSplit (logs_of cut_run) (logs_of first_folder) (logs_of second_folder)
run_is_split = record {
  before = fork ∷ [];
  after = fork ∷ mark_of_kind End ∷ [];
  ended = mark_of_kind End;
  root = refl;
  first_root = refl;
  second_root = refl;
  ends = refl;
  goes_on = omega arith;
  first_forked = (fork_join_by first_folder refl).tasks.forked;
  second_forked = (fork_join_by second_folder refl).tasks.forked;
  first_tasks = kept_there 0 first_folder refl (λ deep. absurd (deep refl), (λ deep. refl, (λ deep. refl, (λ deep. refl, (λ deep. refl, tt)))));
  second_tasks = kept_there 1 second_folder refl (λ deep. absurd (deep refl), (λ deep. refl, (λ deep. refl, (λ deep. refl, (λ deep. refl, tt)))));
}

pub folders_are_written : IsWritten (logs_of whole_run) (logs_of first_folder ∷ logs_of second_folder ∷ [])
folders_are_written =
    IsWritten.root_dropped no_root_access (logs_of whole_run) (logs_of without_root) _ root_is_dropped
    (IsWritten.dropped (all_but (lane 0 0) 3) (logs_of without_root) (logs_of without_repeated) _ repeated_is_dropped
    (IsWritten.moved (logs_of without_repeated) (logs_of with_locks_moved) _ locks_are_moved
    (IsWritten.changed (logs_of with_locks_moved) (logs_of without_values) _ values_are_zero
    (IsWritten.cut 0 0 2 (logs_of without_values) (logs_of cut_run) _ region_is_cut
    (IsWritten.split (logs_of cut_run) (logs_of first_folder) (logs_of second_folder) (logs_of first_folder ∷ []) (logs_of second_folder ∷ []) run_is_split
    (IsWritten.whole (logs_of first_folder)) (IsWritten.whole (logs_of second_folder)))))))
