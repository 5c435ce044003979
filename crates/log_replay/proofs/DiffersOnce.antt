-- A log differs from a trace first at one record, and tasks in one place.
use Rattle.std.proofs.Common.{◌≡◌, ◌⊎◌, inl, inr, refl, ap, sym, ◌∙◌, subst, ℕ, suc, ◌+◌, ◌<◌, List, [], ◌∷◌, ◌++◌, length, arith}
use Rattle.std.specs.Prelude.{slice_get}
use Rattle.std.proofs.lemmas.Option.{same_Some}
use Rattle.sw_base.specs.declared.path.Step.{Step}
use Rattle.log_format.specs.declared.record.Record.{Record}
use Rattle.race_model.specs.Trace.{TaskLog, Trace, logs_of}
use Rattle.race_model.proofs.TraceLogs.{all_at}
use Rattle.kernel_syntax.specs.Program.{Program}
use Rattle.kernel_model.specs.Trace.{Start}
use Rattle.kernel_model.specs.Folder.{own_trace, start_at, IsTracedTask, IsTracedFolder}
use Rattle.log_replay.specs.Differing.{DiffersAt}
use Rattle.log_replay.specs.Replaying.{DiffersFirst}

abbrev first_of : Record → List Record → Record
first_of d [] = d
first_of d (r ∷ rest) = r

abbrev rest_of : List Record → List Record
rest_of [] = []
rest_of (r ∷ rest) = rest

-- a log that is its trace differs nowhere
not_there : (before others rest : List Record) (theirs : Record) → before ++ others ≡ before ++ theirs ∷ rest → others ≡ theirs ∷ rest
not_there [] others rest theirs same = same
not_there (b ∷ before) others rest theirs same = not_there before others rest theirs (ap rest_of same)

same_log : (trace log : List Record) (number : ℕ) → trace ≡ log → DiffersAt trace log number → ⊥
same_log trace log number same differs =
    differs.apart differs.rest (not_there differs.before differs.others differs.rest differs.theirs (sym differs.trace_is ∙ same ∙ differs.log_is))

-- both begin with as many records
same_place : (one two others more rest left : List Record) (theirs yours : Record) → one ++ others ≡ two ++ more → one ++ theirs ∷ rest ≡ two ++ yours ∷ left
    → ((l : List Record) → others ≡ theirs ∷ l → ⊥) → ((l : List Record) → more ≡ yours ∷ l → ⊥) → length one ≡ length two
same_place [] [] others more rest left theirs yours trace log apart also = refl
same_place [] (t ∷ two) others more rest left theirs yours trace log apart also =
    absurd (apart (two ++ more) (trace ∙ ap (λ (r : Record). r ∷ two ++ more) (sym (ap (first_of theirs) log))))
same_place (o ∷ one) [] others more rest left theirs yours trace log apart also =
    absurd (also (one ++ others) (sym trace ∙ ap (λ (r : Record). r ∷ one ++ others) (ap (first_of yours) log)))
same_place (o ∷ one) (t ∷ two) others more rest left theirs yours trace log apart also =
    ap suc (same_place one two others more rest left theirs yours (ap rest_of trace) (ap rest_of log) apart also)

one_number : (trace log : List Record) (number also : ℕ) → DiffersAt trace log number → DiffersAt trace log also → number ≡ also
one_number trace log number also a b =
    let same = same_place a.before b.before a.others b.others a.rest b.rest a.theirs b.theirs (sym a.trace_is ∙ b.trace_is) (sym a.log_is ∙ b.log_is) a.apart b.apart in
    a.number_is ∙ ap (λ (n : ℕ). n + 1) same ∙ sym b.number_is

which : (i j : ℕ) → (i < j) ⊎ ((j < i) ⊎ (i ≡ j))
which i j = grind arith

module _ (program : Program) (tasks : Trace) where
  -- a task that is traced doesn't differ
  not_traced : (path : List Step) (number : ℕ) (d : DiffersFirst program tasks path number) → IsTracedTask program (logs_of tasks) d.task → ⊥
  not_traced path number d it =
      let same = same_Some it.start d.start (sym it.starts ∙ ap (λ (p : List Step). start_at program (logs_of tasks) p) d.path_is ∙ d.starts) in
      same_log (own_trace program d.start d.task.records).records d.task.records number
      (subst (λ (s : Start). (own_trace program s d.task.records).records ≡ d.task.records) same it.traced.records_are) d.differs

  pub no_run : (path : List Step) (number : ℕ) → DiffersFirst program tasks path number → IsTracedFolder program tasks → ⊥
  no_run path number d folder = not_traced path number d (all_at (IsTracedTask program (logs_of tasks)) tasks d.index d.task folder.each d.listed)

  pub one_first : (path other : List Step) (number also : ℕ) → DiffersFirst program tasks path number → DiffersFirst program tasks other also → (path ≡ other) × (number ≡ also)
  one_first path other number also a b = elim (which a.index b.index) [
    | inl less ↦ absurd (not_traced path number a (b.earlier a.index a.task less a.listed))
    | inr (inl more) ↦ absurd (not_traced other also b (a.earlier b.index b.task more b.listed))
    | inr (inr same) ↦ at_same same
  ]
    where
      at_same : a.index ≡ b.index → (path ≡ other) × (number ≡ also)
      at_same same =
          let task : a.task ≡ b.task = same_Some a.task b.task (sym a.listed ∙ ap (λ (n : ℕ). slice_get tasks n) same ∙ b.listed) in
          let paths : path ≡ other = sym a.path_is ∙ ap (λ (t : TaskLog). t.path) task ∙ b.path_is in
          let start : a.start ≡ b.start = same_Some a.start b.start (sym a.starts ∙ ap (λ (p : List Step). start_at program (logs_of tasks) p) paths ∙ b.starts) in
          let there = subst (λ (t : TaskLog). DiffersAt (own_trace program b.start t.records).records t.records number) task
          (subst (λ (s : Start). DiffersAt (own_trace program s a.task.records).records a.task.records number) start a.differs) in
          (paths, one_number (own_trace program b.start b.task.records).records b.task.records number also there b.differs)
