-- The record that opens the first barrier interval that is too many is one.
use Rattle.std.proofs.Common.{◌≡◌, inl, inr, sym, ap, ◌∙◌, ℕ, ◌+◌, ◌<◌, ◌≤◌, List, [], ◌∷◌, ◌++◌, take, arith}
use Rattle.std.specs.Prelude.{slice_get}
use Rattle.std.proofs.lemmas.Bool.{cases_order}
use Rattle.std.proofs.lemmas.List.{take-take, take_more}
use Rattle.std.proofs.lemmas.List.Sums.{sum_by-take-le}
use Rattle.std.proofs.lemmas.Option.{same_Some, slice_get_within, get_or_from_slice_get}
use Rattle.sw_base.specs.declared.path.Step.{Step}
use Rattle.log_format.specs.declared.record.Record.{Record}
use Rattle.log_walk.proofs.Opening.{segment_count-take}
use Rattle.log_walk.proofs.Places.{segments_push}
use Rattle.race_model.specs.FirstBad.{segments_in}
use Rattle.race_model.specs.LogFault.{max_segments}
use Rattle.race_model.specs.Segment.{segment_count}
use Rattle.race_model.specs.Trace.{TaskLog, Trace}
use Rattle.certify.specs.Verdicts.{OpensTheFirst}

module _ (tasks : Trace) where
  -- with its log there are too many
  many : (path : List Step) (n : ℕ) (o : OpensTheFirst tasks path n) → max_segments < segments_in (take (o.index + 1) tasks)
  many path n o =
      let sum : segments_in (take (o.index + 1) tasks) ≡ segments_in (take o.index tasks ++ o.task ∷ [])
      = ap segments_in (take_more tasks o.index o.task (slice_get_within tasks o.index o.task o.listed) ∙ ap (λ (t : TaskLog). take o.index tasks ++ t ∷ []) (get_or_from_slice_get tasks o.index o.task o.task o.listed)) in
      omega (arith, sum, segments_push (take o.index tasks) o.task, o.full, o.opens, segment_count-take o.task.records (o.place + 1))

  -- so not at most as many as are compared
  pub not_few : (path : List Step) (n : ℕ) → OpensTheFirst tasks path n → segments_in tasks ≤ max_segments → ⊥
  not_few path n o few = omega (arith, many path n o, few, sum_by-take-le (λ (t : TaskLog). segment_count t.records) tasks (o.index + 1))

  -- none is in a later log
  module _ (path other : List Step) (n m : ℕ) (one : OpensTheFirst tasks path n) (two : OpensTheFirst tasks other m) where
    not_later : one.index < two.index → ⊥
    not_later less =
        omega (arith, many path n one, two.full, ap segments_in (take-take (one.index + 1) two.index tasks (omega arith)), sum_by-take-le (λ (t : TaskLog). segment_count t.records) (take two.index tasks) (one.index + 1))

    -- nor later in the same log
    same_task : one.index ≡ two.index → one.task ≡ two.task
    same_task same = same_Some one.task two.task (sym one.listed ∙ (ap (λ (i : ℕ). slice_get tasks i) same ∙ two.listed))

    not_behind : one.index ≡ two.index → one.place < two.place → ⊥
    not_behind same less =
        omega (
          arith,
          one.full,
          one.opens,
          two.full,
          ap (λ (i : ℕ). segments_in (take i tasks)) same,
          ap (λ (t : TaskLog). segment_count (take (one.place + 1) t.records)) (same_task same),
          ap (λ (rs : List Record). segment_count rs) (take-take (one.place + 1) two.place two.task.records (omega arith)),
          segment_count-take (take two.place two.task.records) (one.place + 1),
        )

  pub same_first : (path other : List Step) (n m : ℕ) → OpensTheFirst tasks path n → OpensTheFirst tasks other m → (other ≡ path) × (m ≡ n)
  same_first path other n m one two = elim (cases_order one.index two.index) [
    | inl same ↦ elim (cases_order one.place two.place) [
      | inl places ↦ (
        sym two.path_is ∙ (ap (λ (t : TaskLog). t.path) (sym (same_task path other n m one two same)) ∙ one.path_is),
        two.number_is ∙ (ap (λ (k : ℕ). k + 1) (sym places) ∙ sym one.number_is),
      )
      | inr either ↦ elim either [
        | inl less ↦ absurd (not_behind path other n m one two same less)
        | inr more ↦ absurd (not_behind other path m n two one (sym same) more)
      ]
    ]
    | inr either ↦ elim either [ inl less ↦ absurd (not_later path other n m one two less) | inr more ↦ absurd (not_later other path m n two one more) ]
  ]
