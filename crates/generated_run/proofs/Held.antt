-- The folder into which the run was put holds it.
use Rattle.std.proofs.Common.{◌≡◌, ◌≢◌, inl, inr, refl, sym, ap, subst, ◌∙◌, ℕ, zero, suc, ◌+◌, ◌*◌, ◌/◌, ◌%◌, ◌^◌, ◌<◌, ◌≤◌, List, [], ◌∷◌, ◌++◌, map, length, get_or, true, false, Bool, arith}
use Rattle.std.specs.Prelude.{All, ◌==◌, if◌then◌else◌}
use Rattle.std.specs.List.{range_with_len}
use Rattle.std.proofs.lemmas.List.Elements.{All-append, All-cons, All-map, All-nil}
use Rattle.std.proofs.lemmas.List.FromFn.{get_or-range_with_len, length-range_with_len}
use Rattle.log_format.specs.declared.format.TheConstants.{FORMAT}
use Rattle.sw_base.specs.Environment.{Content}
use Rattle.sw_base.specs.Names.{index_name, log_name}
use Rattle.sw_base.proofs.AfterPut.{with_file-elsewhere}
use Rattle.sw_base.proofs.NameLaws.{HasPlace, log_name-not_index, place}
use Rattle.log_format.specs.Format.{AllowsKind}
use Rattle.log_format.specs.Table.{HasAddress, HasNothingElse, HasSize, IsTabled, PassesTable, RecordFits, SpanIsTabled}
use Rattle.log_format.specs.declared.record.Record.{Record}
use Rattle.log_format.specs.declared.record.Why.{Why}
use Rattle.log_format.specs.declared.record.Why.TheVariants as why
use Rattle.log_format.specs.declared.record.Kind.TheVariants.{Barrier, End}
use Rattle.race_model.specs.FirstBad.{HoldsTrace, rows_of}
use Rattle.race_model.specs.Row.{index_bytes}
use Rattle.race_model.specs.Trace.{TaskLog}
use Rattle.race_laws.proofs.IndexRows.{put_is_index}
use Rattle.generated_run.specs.Generated.{element, generated, path_of_lane, lane_records, log_of_lane, logs_of_lanes, late_write, late_writes, bare_record, read_of, root_records, root_task, rounds_of, write_of}
use Rattle.log_index.specs.Puts.{with_run, with_tasks}
use Rattle.log_index.proofs.Putting.{AreApart, HasPlaces, IsApart, all_there}
use Rattle.generated_run.proofs.Counting.{lane_parts}
use Rattle.generated_run.proofs.Holding.{generated_rows}

-- ---- the records are of the table

-- half of a product of neighbours
half_below : (k : ℕ) → k < 100000 → k * (k + 1) / 2 ≤ 5000000000
half_below k within = grind arith

element_below : (k lane : ℕ) → k < 100000 → lane < 8 → element k lane < 2 ^ 40
element_below k lane within few = let half = half_below k within in omega (arith, half)

-- a record whose fields pass each test
is_tabled : (r : Record) → RecordFits r → AllowsKind FORMAT r.kind → HasSize r.kind r.size → 1 ≤ r.line → HasAddress r.kind r → SpanIsTabled r.kind r → HasNothingElse r.kind r → IsTabled FORMAT r
is_tabled r fits kind size line address span nothing_else = record { fits = fits; passes = passes } where
  passes : (w : Why) → PassesTable FORMAT r w
  passes why.Kind = kind
  passes why.Size = size
  passes why.LineZero = line
  passes why.Address = address
  passes why.Span = span
  passes why.Reserved = nothing_else

write_tabled : (lane k : ℕ) → lane < 8 → k < 100000 → IsTabled FORMAT (write_of lane k)
write_tabled lane k few within =
    let below = element_below k lane within few in
    is_tabled (write_of lane k) (record { size = omega arith; site = omega arith; line = omega arith; addr = omega (arith, below); value = omega arith }) (omega arith) (inr (inr (inr refl))) (omega arith) (omega (arith, below)) tt tt

read_tabled : (lane k : ℕ) → lane < 8 → k < 100000 → IsTabled FORMAT (read_of lane k)
read_tabled lane k few within =
    let below = element_below k ((lane + 1) % 8) within (omega arith) in
    is_tabled (read_of lane k) (record { size = omega arith; site = omega arith; line = omega arith; addr = omega (arith, below); value = omega arith }) (omega arith) (inr (inr (inr refl))) (omega arith) (omega (arith, below)) tt tt

barrier_tabled : IsTabled FORMAT (bare_record Barrier 20)
barrier_tabled = is_tabled (bare_record Barrier 20) (record { size = omega arith; site = omega arith; line = omega arith; addr = omega arith; value = omega arith }) (omega arith) refl (omega arith) tt tt (refl, refl, refl)

end_tabled : IsTabled FORMAT (bare_record End 50)
end_tabled = is_tabled (bare_record End 50) (record { size = omega arith; site = omega arith; line = omega arith; addr = omega arith; value = omega arith }) (omega arith) refl (omega arith) tt tt (refl, refl, refl)

late_tabled : IsTabled FORMAT late_write
late_tabled = is_tabled late_write (record { size = omega arith; site = omega arith; line = omega arith; addr = omega arith; value = omega arith }) (omega arith) (inr (inr (inl refl))) (omega arith) (omega arith) tt tt

abbrev region_record : Record
region_record = get_or root_records 0 late_write

region_tabled : IsTabled FORMAT region_record
region_tabled = is_tabled region_record (record { size = omega arith; site = omega arith; line = omega arith; addr = omega arith; value = omega arith }) (omega arith) refl (omega arith) tt (omega arith, omega arith) (refl, refl)

root_tabled : All (IsTabled FORMAT) root_records
root_tabled = All-cons (IsTabled FORMAT) region_record (bare_record End 50 ∷ []) region_tabled (All-cons (IsTabled FORMAT) (bare_record End 50) [] end_tabled (All-nil (IsTabled FORMAT)))

-- what holds of the record of each round
rounds_tabled : (of_round : ℕ → Record) (rounds : ℕ) → ((k : ℕ) → k < rounds → IsTabled FORMAT (of_round k)) → All (IsTabled FORMAT) (map of_round (rounds_of rounds))
rounds_tabled of_round rounds each = All-map (IsTabled FORMAT) of_round (rounds_of rounds) (λ k d within. each (get_or (rounds_of rounds) k d) (below k d within)) where
  below : (k d : ℕ) → k < length (rounds_of rounds) → get_or (rounds_of rounds) k d < rounds
  below k d within = let few : k < rounds = omega (arith, within, length-range_with_len 0 rounds) in omega (arith, few, get_or-range_with_len 0 rounds k d few)

ending_tabled : (late : Bool) → All (IsTabled FORMAT) ((if late then late_write ∷ [] else []) ++ bare_record End 50 ∷ [])
ending_tabled true = All-cons (IsTabled FORMAT) late_write (bare_record End 50 ∷ []) late_tabled (All-cons (IsTabled FORMAT) (bare_record End 50) [] end_tabled (All-nil (IsTabled FORMAT)))
ending_tabled false = All-cons (IsTabled FORMAT) (bare_record End 50) [] end_tabled (All-nil (IsTabled FORMAT))

lane_tabled : (rounds lane : ℕ) → rounds ≤ 100000 → lane < 8 → All (IsTabled FORMAT) (lane_records rounds lane)
lane_tabled rounds lane few within =
    subst (All (IsTabled FORMAT)) (sym (lane_parts rounds lane))
    (All-append (IsTabled FORMAT) (map (write_of lane) (rounds_of rounds)) (bare_record Barrier 20 ∷ _)
    (rounds_tabled (write_of lane) rounds (λ k below. write_tabled lane k within (omega arith)))
    (All-cons (IsTabled FORMAT) (bare_record Barrier 20) _ barrier_tabled
    (All-append (IsTabled FORMAT) (map (read_of lane) (rounds_of rounds)) (late_writes lane ++ bare_record End 50 ∷ [])
    (rounds_tabled (read_of lane) rounds (λ k below. read_tabled lane k within (omega arith)))
    (ending_tabled (lane == 3)))))

-- ---- the logs are there

-- the lane of a path's first step
first_lane : List (ℕ × ℕ) → ℕ
first_lane [] = 0
first_lane (at ∷ rest) = at.1

lanes_differ : (a b : ℕ) → a < b → map place (path_of_lane a) ≢ map place (path_of_lane b)
unfolding first_lane
lanes_differ a b less same = let lanes : a ≡ b = ap first_lane same in absurd (omega (arith, lanes, less))

lanes_apart : (rounds a n : ℕ) → AreApart (map (log_of_lane rounds) (range_with_len a n))
lanes_apart rounds a zero = tt
lanes_apart rounds a (suc n) = (
  All-map (IsApart (log_of_lane rounds a)) (log_of_lane rounds) (range_with_len (a + 1) n)
      (λ k d within.
      let few : k < n = omega (arith, within, length-range_with_len (a + 1) n) in
      lanes_differ a (get_or (range_with_len (a + 1) n) k d) (omega (arith, get_or-range_with_len (a + 1) n k d few))),
  lanes_apart rounds (a + 1) n,
)

root_apart : (rounds : ℕ) → All (IsApart root_task) (logs_of_lanes rounds 8)
root_apart rounds = All-map (IsApart root_task) (log_of_lane rounds) (range_with_len 0 8)
    (λ k d within same. let lengths : ◌≡◌ {A = ℕ} 0 1 = ap length same in absurd (omega (arith, lengths)))

lane_places : (rounds : ℕ) → All HasPlaces (logs_of_lanes rounds 8)
lane_places rounds = All-map HasPlaces (log_of_lane rounds) (range_with_len 0 8)
    (λ k d within. let at = get_or-range_with_len 0 8 k d within in All-cons HasPlace (record { region = 0; lane = get_or (range_with_len 0 8) k d; span = 8 }) [] (omega arith, omega (arith, at, within)) (All-nil HasPlace))

places : (rounds : ℕ) → All HasPlaces (generated rounds)
places rounds = All-cons HasPlaces root_task (logs_of_lanes rounds 8) (All-nil HasPlace) (lane_places rounds)

-- ---- the run

abbrev IsTabledTask : TaskLog → Type 0
IsTabledTask task = All (IsTabled FORMAT) task.records

all_tabled : (rounds : ℕ) → rounds ≤ 100000 → All IsTabledTask (generated rounds)
all_tabled rounds few =
    All-cons IsTabledTask root_task (logs_of_lanes rounds 8) root_tabled
    (All-map IsTabledTask (log_of_lane rounds) (range_with_len 0 8)
    (λ k d within. lane_tabled rounds (get_or (range_with_len 0 8) k d) few (omega (arith, within, get_or-range_with_len 0 8 k d within))))

pub generated_held : (rounds : ℕ) (dir : List ℕ) (content : Content) → 1 ≤ rounds → rounds ≤ 100000 → HoldsTrace FORMAT (with_run dir (generated rounds) content).held dir (generated rounds)
generated_held rounds dir content some few = record {
  index = put_is_index after.held dir (rows_of (generated rounds)) (generated_rows rounds some few);
  logs = λ k d within. record {
    there = with_file-elsewhere (index_name dir) (index_bytes FORMAT (rows_of (generated rounds))) after.held (log_name dir (get_or (generated rounds) k d).path) (log_name-not_index dir (get_or (generated rounds) k d).path)
        ∙ all_there dir (generated rounds) content (places rounds) (root_apart rounds, lanes_apart rounds 0 8) k d within;
    tabled = all_tabled rounds few k d within;
  };
} where
  after : Content
  after = with_tasks dir (generated rounds) content
