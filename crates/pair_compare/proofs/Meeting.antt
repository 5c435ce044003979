-- Conflicts of accesses and of the runs in which they stand.
use Rattle.std.proofs.Common.{◌≡◌, ℕ, ◌-◌, ◌*◌, ◌<◌, ◌≤◌, List, IsTrue, refl, sym, ap, ◌∙◌, subst, arith, inl, inr}
use Rattle.std.proofs.Math.Nat.{mul-le-mul_right}
use Rattle.mutex_set.specs.Held.{AreDisjoint}
use Rattle.stride_summary.specs.declared.key.Key.{Key}
use Rattle.stride_summary.specs.declared.run.Run.{Run}
use Rattle.stride_summary.specs.Run.{HasRunByte, address_at, last_byte, run_key}
use Rattle.pair_compare.specs.Conflict.{IsConflictPair, IsPairOfRuns, Touches, line_pair}

-- an access of a run touches the run's byte
run_byte : (run : Run) (key : Key) (address byte : ℕ) (place : ℕ) → run_key run ≡ key → place < run.count → address ≡ address_at run place → Touches key address byte → HasRunByte run byte
run_byte run key address byte place keyed within is touches = record {
  place = place;
  in_run = within;
  from_start = subst (λ (n : ℕ). n ≤ byte) is touches.from_start;
  to_end = let size : run.size ≡ key.size = ap (λ (k : Key). k.size) keyed in let end = touches.to_end in omega arith;
}

-- the lines of a conflict of two accesses are those of a conflict of their runs
pub IsPairOfRuns-from : (xs ys : List Run) (pair : ℕ × ℕ) → IsConflictPair xs ys pair → IsPairOfRuns ys xs pair
IsPairOfRuns-from xs ys pair h =
    let a = h.first in
    let b = h.second in
    let mine : run_key a.run ≡ h.key = a.keyed in
    let yours : run_key b.run ≡ h.other = b.keyed in
    record {
      one = a.run;
      listed = a.listed;
      has = record {
        one = b.run;
        listed = b.listed;
        has = record {
          conflict = record {
            shares = record {
              byte = h.conflict.byte;
              first = run_byte a.run h.key h.address h.conflict.byte a.addressed.place mine a.addressed.in_run a.addressed.is h.conflict.first;
              second = run_byte b.run h.other h.beside h.conflict.byte b.addressed.place yours b.addressed.in_run b.addressed.is h.conflict.second;
            };
            writes = elim h.conflict.writes [
              | inl w ↦ inl (subst (λ (k : Key). IsTrue k.write) (sym mine) w)
              | inr w ↦ inr (subst (λ (k : Key). IsTrue k.write) (sym yours) w)
            ];
            not_both_atomic = λ m n. h.conflict.not_both_atomic (subst (λ (k : Key). IsTrue k.atomic) mine m) (subst (λ (k : Key). IsTrue k.atomic) yours n);
            no_mutex = subst (λ (k : Key). AreDisjoint k.held b.run.held) (sym mine) (subst (λ (k : Key). AreDisjoint h.key.held k.held) (sym yours) h.conflict.no_mutex);
          };
          lines = h.lines ∙ sym (λ i. line_pair (mine i).line (yours i).line);
        };
      };
    }

-- two runs that conflict have accesses that do
pub IsConflictPair-from : (xs ys : List Run) (pair : ℕ × ℕ) → IsPairOfRuns ys xs pair → IsConflictPair xs ys pair
IsConflictPair-from xs ys pair h =
    let a = h.one in
    let b = h.has.one in
    let both = h.has.has.conflict in
    record {
      key = run_key a;
      address = address_at a both.shares.first.place;
      other = run_key b;
      beside = address_at b both.shares.second.place;
      first = record { run = a; listed = h.listed; keyed = refl; addressed = record { place = both.shares.first.place; in_run = both.shares.first.in_run; is = refl } };
      second = record { run = b; listed = h.has.listed; keyed = refl; addressed = record { place = both.shares.second.place; in_run = both.shares.second.in_run; is = refl } };
      conflict = record {
        byte = both.shares.byte;
        first = record { from_start = both.shares.first.from_start; to_end = both.shares.first.to_end };
        second = record { from_start = both.shares.second.from_start; to_end = both.shares.second.to_end };
        writes = both.writes;
        not_both_atomic = both.not_both_atomic;
        no_mutex = both.no_mutex;
      };
      lines = h.has.has.lines;
    }

-- a byte of a run is from its first to its last
pub from_first : (run : Run) (byte : ℕ) → HasRunByte run byte → run.base ≤ byte
from_first run byte h = let from = h.from_start in omega arith

pub to_last : (run : Run) (byte : ℕ) → HasRunByte run byte → byte ≤ last_byte run
to_last run byte h =
    let end = h.to_end in
    let within = h.in_run in
    let far : h.place * run.stride ≤ (run.count - 1) * run.stride = mul-le-mul_right run.stride (omega arith) in
    omega arith
