-- How many accesses a lane's records have.
use Rattle.std.proofs.Common.{◌≡◌, ℕ, ◌+◌, ◌*◌, List, [], ◌∷◌, ◌++◌, map, arith}
use Rattle.std.proofs.Common.{◌≤◌, ap, ◌∙◌, append_assoc}
use Rattle.std.specs.Prelude.{length, ◌==◌, if◌then◌else◌, cond, true, false, Bool}
use Rattle.std.specs.List.{count_by}
use Rattle.std.proofs.lemmas.List.{length-append}
use Rattle.std.proofs.lemmas.List.FromFn.{length-map-range_with_len, length-range_with_len}
use Rattle.std.proofs.lemmas.List.Sums.{sum_by-cons}
use Rattle.log_format.specs.declared.record.Record.{Record}
use Rattle.log_format.specs.declared.record.Kind.TheVariants.{Barrier, End}
use Rattle.race_model.specs.Segment.{is_access}
use Rattle.generated_run.specs.Generated.{lane_records, late_write, late_writes, bare_record, read_of, rounds_of, write_of}

abbrev accesses_of : List Record → ℕ
accesses_of records = count_by (λ (r : Record). is_access r.kind) records

abbrev one_access : Record → ℕ
one_access r = cond (is_access r.kind) 1 0

writes : (lane : ℕ) (rounds : List ℕ) (rest : List Record) → accesses_of (map (write_of lane) rounds ++ rest) ≡ length rounds + accesses_of rest
writes lane [] rest = omega arith
writes lane (k ∷ rounds) rest =
    let first : accesses_of (map (write_of lane) (k ∷ rounds) ++ rest) ≡ 1 + accesses_of (map (write_of lane) rounds ++ rest) = sum_by-cons one_access (write_of lane k) (map (write_of lane) rounds ++ rest) in
    omega (arith, first, writes lane rounds rest)

reads : (lane : ℕ) (rounds : List ℕ) (rest : List Record) → accesses_of (map (read_of lane) rounds ++ rest) ≡ length rounds + accesses_of rest
reads lane [] rest = omega arith
reads lane (k ∷ rounds) rest =
    let first : accesses_of (map (read_of lane) (k ∷ rounds) ++ rest) ≡ 1 + accesses_of (map (read_of lane) rounds ++ rest) = sum_by-cons one_access (read_of lane k) (map (read_of lane) rounds ++ rest) in
    omega (arith, first, reads lane rounds rest)

-- one more where the lane writes late
abbrev late : ℕ → ℕ
late lane = if lane == 3 then 1 else 0

late_count : (late : Bool) → accesses_of ((if late then late_write ∷ [] else []) ++ bare_record End 50 ∷ []) ≡ (if late then 1 else 0)
late_count true = omega arith
late_count false = omega arith

-- what stands after a lane's writes
abbrev pub ending : ℕ → List Record
ending lane = late_writes lane ++ bare_record End 50 ∷ []

abbrev pub behind : ℕ → ℕ → List Record
behind rounds lane = map (read_of lane) (rounds_of rounds) ++ ending lane

pub lane_parts : (rounds lane : ℕ) → lane_records rounds lane ≡ map (write_of lane) (rounds_of rounds) ++ bare_record Barrier 20 ∷ behind rounds lane
lane_parts rounds lane = simp append_assoc

pub lane_accesses : (rounds lane : ℕ) → accesses_of (lane_records rounds lane) ≡ 2 * rounds + late lane
lane_accesses rounds lane =
    let count = length-range_with_len 0 rounds in
    let first = ap accesses_of (lane_parts rounds lane) ∙ writes lane (rounds_of rounds) (bare_record Barrier 20 ∷ behind rounds lane) in
    let middle : accesses_of (bare_record Barrier 20 ∷ behind rounds lane) ≡ 0 + accesses_of (behind rounds lane) = sum_by-cons one_access (bare_record Barrier 20) (behind rounds lane) in
    let second = reads lane (rounds_of rounds) (ending lane) in
    let third : accesses_of (ending lane) ≡ late lane = late_count (lane == 3) in
    omega (arith, first, middle, second, third, count)

late_length : (late : Bool) → length ((if late then late_write ∷ [] else []) ++ bare_record End 50 ∷ []) ≤ 2
late_length true = omega arith
late_length false = omega arith

-- how many records a lane has
pub lane_length : (rounds lane : ℕ) → (1 ≤ length (lane_records rounds lane)) × (length (lane_records rounds lane) ≤ 2 * rounds + 3)
lane_length rounds lane =
    let first = ap length (lane_parts rounds lane) ∙ length-append (map (write_of lane) (rounds_of rounds)) (bare_record Barrier 20 ∷ behind rounds lane) in
    let second = length-append (map (read_of lane) (rounds_of rounds)) (ending lane) in
    let writes = length-map-range_with_len (write_of lane) 0 rounds in
    let reads = length-map-range_with_len (read_of lane) 0 rounds in
    let third : length (ending lane) ≤ 2 = late_length (lane == 3) in
    (omega (arith, first, second, writes, reads, third), omega (arith, first, second, writes, reads, third))
