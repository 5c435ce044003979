-- The least race of two lines, with the rows of the index.
use Rattle.std.proofs.Common.{◌≡◌, ℕ, ◌+◌, ◌-◌, List, Some, refl, sym, ap, subst, ◌∙◌, arith}
use Rattle.std.specs.Prelude.{slice_get}
use Rattle.std.specs.Option.{option_map}
use Rattle.std.proofs.lemmas.Option.{slice_get-map}
use Rattle.log_format.specs.declared.format.TheConstants.{FORMAT}
use Rattle.sw_base.specs.Environment.{Files}
use Rattle.race_model.specs.BadPlace.{no_index, bad_row}
use Rattle.race_model.specs.FirstBad.{HoldsTrace, row_of, rows_of}
use Rattle.race_model.specs.IndexFault.{IsFirstBadIndexPlace}
use Rattle.race_model.specs.declared.why.IndexWhy.{IndexWhy}
use Rattle.race_model.specs.Row.{Row}
use Rattle.race_model.specs.Trace.{TaskLog, Trace}
use Rattle.race_laws.proofs.IndexPlaces.{index_good}
use Rattle.log_index.specs.declared.row.IndexAnswer.{IndexAnswer}
use Rattle.log_index.specs.declared.row.IndexAnswer.TheVariants.{NoIndex, Bad, ReadFault, Memory}
use Rattle.log_walk.specs.Walk.{TellsFirstBad, of_index}
use Rattle.explain.specs.Least.{IsLeastWitness}
use Rattle.explain.specs.Witness.{IsConfirmed}
use Rattle.explain.specs.declared.explaining.RacePair.{RacePair}

-- where the index is good, reading it again refuses only for a fault or for want of memory
pub index_told : (files : Files) (dir : List ℕ) (trace : Trace) (answer : IndexAnswer) → HoldsTrace FORMAT files dir trace → (answer ≡ NoIndex → IsFirstBadIndexPlace FORMAT files dir no_index)
    → ((n : ℕ) (why : IndexWhy) → answer ≡ Bad n why → IsFirstBadIndexPlace FORMAT files dir (bad_row n why)) → TellsFirstBad FORMAT files dir (of_index answer)
index_told files dir trace NoIndex holds missing bad = absurd (index_good files dir (rows_of trace) no_index holds.index (missing refl).bad)
index_told files dir trace (Bad n why) holds missing bad = absurd (index_good files dir (rows_of trace) (bad_row n why) holds.index (bad n why refl).bad)
index_told files dir trace ReadFault holds missing bad = tt
index_told files dir trace Memory holds missing bad = tt

-- the records of a least race are confirmed
pub least_confirmed : (trace : Trace) (lines : ℕ × ℕ) (found : RacePair) → IsLeastWitness trace lines found → IsConfirmed trace found.first_row found.first found.second_row found.second found.byte
least_confirmed trace lines found is =
    let w = is.witness in
    record { x = w.x; y = w.y; r = w.races.r; s = w.races.s; left = w.left; right = w.right; race = w.races.race; least = w.races.least }

-- the task of a row, by the row's number
pub task_at : (trace : Trace) (row place : ℕ) (task : TaskLog) → row ≡ place + 1 → slice_get trace place ≡ Some task → slice_get trace (row - 1) ≡ Some task
task_at trace row place task row_is listed =
    let here : row - 1 ≡ place = omega (arith, row_is) in
    ap (λ (n : ℕ). slice_get trace n) here ∙ listed

pub row_at : (rows : List Row) (trace : Trace) (k : ℕ) (task : TaskLog) → rows ≡ rows_of trace → slice_get trace k ≡ Some task → slice_get rows k ≡ Some (row_of task)
row_at rows trace k task same listed = ap (λ (rs : List Row). slice_get rs k) same ∙ (slice_get-map row_of trace k ∙ ap (λ o. option_map row_of o) listed)
