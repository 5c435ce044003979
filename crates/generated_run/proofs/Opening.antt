-- How many barrier intervals a lane's records have.
use Rattle.std.proofs.Common.{◌≡◌, ℕ, zero, suc, ◌≤◌, List, [], ◌∷◌, ◌++◌, map, ap, ◌∙◌, Bool, true, false, arith, refl}
use Rattle.std.specs.Prelude.{◌==◌, if◌then◌else◌}
use Rattle.std.specs.List.{range_with_len}
use Rattle.log_format.specs.declared.record.Record.{Record}
use Rattle.log_format.specs.declared.record.Kind.TheVariants.{Barrier, End}
use Rattle.race_model.specs.Segment.{segment_count}
use Rattle.log_walk.proofs.Opening.{opened_by, segment_count-opened}
use Rattle.generated_run.specs.Generated.{lane_records, late_write, bare_record, read_of, write_of}
use Rattle.generated_run.proofs.Counting.{behind, ending, lane_parts}

-- accesses of an interval that is open open none
writes_open : (lane : ℕ) (rounds : List ℕ) (rest : List Record) → opened_by true (map (write_of lane) rounds ++ rest) ≡ opened_by true rest
writes_open lane [] rest = refl
writes_open lane (k ∷ rounds) rest = omega (arith, writes_open lane rounds rest)

reads_open : (lane : ℕ) (rounds : List ℕ) (rest : List Record) → opened_by true (map (read_of lane) rounds ++ rest) ≡ opened_by true rest
reads_open lane [] rest = refl
reads_open lane (k ∷ rounds) rest = omega (arith, reads_open lane rounds rest)

ending_opens : (late : Bool) → opened_by true ((if late then late_write ∷ [] else []) ++ bare_record End 50 ∷ []) ≡ 0
ending_opens true = omega arith
ending_opens false = omega arith

-- the writes are one interval, and the reads another
pub lane_segments : (rounds lane : ℕ) → 1 ≤ rounds → segment_count (lane_records rounds lane) ≡ 2
lane_segments zero lane some = absurd (omega arith)
lane_segments (suc n) lane some =
    let later = range_with_len 1 n in
    let whole = segment_count-opened (lane_records (suc n) lane) ∙ ap (opened_by false) (lane_parts (suc n) lane) in
    let first = writes_open lane later (bare_record Barrier 20 ∷ behind (suc n) lane) in
    let second = reads_open lane later (ending lane) in
    let third : opened_by true (ending lane) ≡ 0 = ending_opens (lane == 3) in
    omega (arith, whole, first, second, third)
