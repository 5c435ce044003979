-- What the lanes of a team drew, lane after lane.
use Rattle.std.proofs.Common.{◌≡◌, subst, ℕ, zero, suc, ◌+◌, ◌<◌, List, [], ◌∷◌, ◌++◌, map, arith}
use Rattle.std.specs.List.{range_with_len}
use Rattle.log_format.specs.declared.record.Record.{Record}
use Rattle.execution_model.specs.Execution.{DrewSome, BeginsTrace}
use Rattle.execution_model.specs.Runs.{region_logs, works_log, lane_begin}
use Rattle.kernel_syntax.specs.Program.{Program}
use Rattle.kernel_model.specs.State.{Fork, reads_of, chunks_of}
use Rattle.kernel_model.specs.Chunking.{TellCounts, TellFirst, HasCounts, no_record, other, draw, closing}
use Rattle.history_model.specs.Work.{Phases, lane_works}
use Rattle.shared_words.specs.Draws.{AreEachOnce, numbers}
use Rattle.lane_runner.specs.Drawing.{TellDraws}
use Rattle.region_runner.specs.Drawing.{DrewByLogs, no_lane, lane, drawn_by}
use Rattle.region_runner.proofs.Numbers.{drew_some}

-- records that come first tell the first counts
tells_first : (counts : List ℕ) (xs ys : List Record) (left : List ℕ) → TellCounts counts (xs ++ ys) left → TellFirst counts xs
tells_first counts [] ys left tells = record { left = counts; tells = no_record counts }
tells_first counts (x ∷ xs) ys left (other cs l r rs none more) = let rest = tells_first counts xs ys left more in record { left = rest.left; tells = other counts rest.left x xs none rest.tells }
tells_first counts (x ∷ xs) ys left (draw n cs l r rs is value less more) =
    let rest = tells_first (n ∷ cs) xs ys left more in record { left = rest.left; tells = draw n cs rest.left x xs is value less rest.tells }
tells_first counts (x ∷ xs) ys left (closing n cs l r rs is value at more) =
    let rest = tells_first cs xs ys left more in record { left = rest.left; tells = closing n cs rest.left x xs is value at rest.tells }

-- a lane that began its trace tells the counts of its team's loops
pub lane_tells_counts : (program : Program) (fork : Fork) (k : ℕ) (records : List Record) (has : HasCounts fork.team fork.slots) → BeginsTrace program (lane_begin fork k) records → TellFirst has.counts records
lane_tells_counts program fork k records has begun =
    let whole = subst (λ (rs : List Record). TellFirst has.counts rs) begun.begins (has.told program k (reads_of records) (chunks_of records)) in
    tells_first has.counts records begun.rest whole.left whole.tells

by_logs : (counts : List ℕ) (log : ℕ → List Record) (mine : ℕ → List (ℕ × ℕ)) (last : ℕ → ℕ) (first count : ℕ)
    → ((i : ℕ) → i < count → TellDraws 0 (log (first + i)) (mine (first + i)) (last (first + i)) × TellFirst counts (log (first + i)))
    → DrewByLogs counts (map log (range_with_len first count)) (drawn_by mine first count)
by_logs counts log mine last first zero each = no_lane
by_logs counts log mine last first (suc count) each =
    let one = subst (λ (n : ℕ). TellDraws 0 (log n) (mine n) (last n) × TellFirst counts (log n)) (let e : first + 0 ≡ first = omega arith in e) (each 0 (omega arith)) in
    subst (λ (n : ℕ). DrewByLogs counts (log first ∷ map log (range_with_len n count)) (mine first ++ drawn_by mine (suc first) count)) (let e : suc first ≡ first + 1 = omega arith in e)
    (lane (log first) (mine first) (drawn_by mine (suc first) count) (last first) (map log (range_with_len (suc first) count)) one.0 one.1
    (by_logs counts log mine last (suc first) count
    (λ i less. subst (λ (n : ℕ). TellDraws 0 (log n) (mine n) (last n) × TellFirst counts (log n)) (let e : first + suc i ≡ suc first + i = omega arith in e) (each (suc i) (omega arith)))))

-- all lanes of a region drew each chunk once
pub region_drew : (counts : List ℕ) (phases : Phases) (span : ℕ) (mine : ℕ → List (ℕ × ℕ)) (last : ℕ → ℕ) (loop : ℕ)
    → ((k : ℕ) → k < span → TellDraws 0 (works_log (lane_works k phases)) (mine k) (last k) × TellFirst counts (works_log (lane_works k phases)))
    → AreEachOnce (numbers loop (drawn_by mine 0 span)) → DrewSome (region_logs phases span) loop
region_drew counts phases span mine last loop each once =
    drew_some counts loop (region_logs phases span) (drawn_by mine 0 span)
    (by_logs counts (λ k. works_log (lane_works k phases)) mine last 0 span
    (λ i less. subst (λ (n : ℕ). TellDraws 0 (works_log (lane_works n phases)) (mine n) (last n) × TellFirst counts (works_log (lane_works n phases))) (let e : i ≡ 0 + i = omega arith in e) (each i less)))
    once
