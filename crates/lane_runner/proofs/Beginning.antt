-- Parts that begin: a part that goes on, and what follows it.
use Rattle.std.proofs.Common.{◌≡◌, ap, sym, ◌∙◌, subst, ℕ, ◌-◌, List, [], ◌++◌, length, ℤ, arith, append_assoc}
use Rattle.std.proofs.lemmas.List.{append-nil, length-append}
use Rattle.log_format.specs.declared.record.Record.{Record}
use Rattle.kernel_model.specs.State.{State, Fork, Outcome, and_then, state_of, reads_of, chunks_of}
use Rattle.kernel_model.specs.Growth.{Grows}
use Rattle.kernel_model.specs.Effect.{Effect, Finish, Returned, Halted, Makes, finished, state_with}
use Rattle.kernel_model.proofs.Effects.{reads_of-append, chunks_of-append}
use Rattle.lane_runner.specs.Going.{GoesOnFrom, BeginsPart}

goes_on : (s t : State) (records : List Record) (forks : List Fork) → GoesOnFrom s records forks → Grows s t → GoesOnFrom t records forks
goes_on s t records forks from grows = record {
  more = from.more ++ grows.added;
  later = from.later ++ grows.regions;
  records_are = grows.records_are ∙ ap (λ (rs : List Record). rs ++ grows.added) from.records_are ∙ append_assoc records from.more grows.added;
  forks_are = grows.forks_are ∙ ap (λ (fs : List Fork). fs ++ grows.regions) from.forks_are ∙ append_assoc forks from.later grows.regions;
}

-- nothing was put yet
pub begins_none : {A : Type 0} (part : State → Outcome A) (slots : List ℤ) (room : ℕ) → ((s : State) → Grows s (state_of (part s))) → BeginsPart part slots room [] []
begins_none part slots room grows = record {
  within = omega arith;
  begins = λ records before reads chunks.
      goes_on (state_with slots records before room reads chunks) _ (records ++ []) (before ++ [])
      (record { more = []; later = []; records_are = sym (append-nil records) ∙ sym (append-nil (records ++ [])); forks_are = sym (append-nil before) ∙ sym (append-nil (before ++ [])) })
      (grows (state_with slots records before room reads chunks));
}

-- a part that was made began
pub begins_made : {A : Type 0} (part : State → Outcome A) (slots : List ℤ) (room : ℕ) (e : Effect) (finish : Finish A) → Makes part slots room e finish → BeginsPart part slots room e.added e.forks
begins_made {A} part slots room e finish m = record {
  within = m.within;
  begins = λ records before reads chunks.
      subst (λ (o : Outcome A). GoesOnFrom (state_of o) (records ++ e.added) (before ++ e.forks)) (sym (m.makes records before reads chunks)) (of_finish finish records before reads chunks);
}
  where
    of_finish : (f : Finish A) (records : List Record) (before : List Fork) (reads : List ℤ) (chunks : List ℕ)
        → GoesOnFrom (state_of (finished f (state_with e.slots (records ++ e.added) (before ++ e.forks) (room - length e.added) reads chunks))) (records ++ e.added) (before ++ e.forks)
    of_finish (Returned a) records before reads chunks = record { more = []; later = []; records_are = sym (append-nil (records ++ e.added)); forks_are = sym (append-nil (before ++ e.forks)) }
    of_finish (Halted why line) records before reads chunks = record { more = []; later = []; records_are = sym (append-nil (records ++ e.added)); forks_are = sym (append-nil (before ++ e.forks)) }

module _ {A B : Type 0} (part : State → Outcome A) (next : A → State → Outcome B) (slots : List ℤ) (room : ℕ) where
  -- a part that begins, whatever follows it
  pub begins_first : (added : List Record) (forks : List Fork) → ((a : A) (s : State) → Grows s (state_of (next a s))) → BeginsPart part slots room added forks
      → BeginsPart (λ s. and_then (part s) next) slots room added forks
  begins_first added forks grows b = record {
    within = b.within;
    begins = λ records before reads chunks. of_outcome (part (state_with slots records before room (reads_of added ++ reads) (chunks_of added ++ chunks))) (records ++ added) (before ++ forks) (b.begins records before reads chunks);
  }
    where
      of_outcome : (o : Outcome A) (records : List Record) (before : List Fork) → GoesOnFrom (state_of o) records before → GoesOnFrom (state_of (and_then o next)) records before
      of_outcome (Outcome.Gives a s) records before from = goes_on s (state_of (next a s)) records before from (grows a s)
      of_outcome (Outcome.Stops why line s) records before from = from
      of_outcome (Outcome.Wants s) records before from = from

  -- a part, and what follows it begins
  pub begins_then : (one : Effect) (a : A) (added : List Record) (forks : List Fork) → Makes part slots room one (Returned a)
      → BeginsPart (next a) one.slots (room - length one.added) added forks → BeginsPart (λ s. and_then (part s) next) slots room (one.added ++ added) (one.forks ++ forks)
  begins_then one a added forks m b = record {
    within = omega (arith, length-append one.added added, m.within, b.within);
    begins = λ records before reads chunks.
        let prefixes : reads_of (one.added ++ added) ++ reads ≡ reads_of one.added ++ (reads_of added ++ reads) =
        ap (λ l. l ++ reads) (reads_of-append one.added added) ∙ append_assoc (reads_of one.added) (reads_of added) reads in
        let draws : chunks_of (one.added ++ added) ++ chunks ≡ chunks_of one.added ++ (chunks_of added ++ chunks) =
        ap (λ l. l ++ chunks) (chunks_of-append one.added added) ∙ append_assoc (chunks_of one.added) (chunks_of added) chunks in
        let is : and_then (part (state_with slots records before room (reads_of (one.added ++ added) ++ reads) (chunks_of (one.added ++ added) ++ chunks))) next
        ≡ next a (state_with one.slots (records ++ one.added) (before ++ one.forks) (room - length one.added) (reads_of added ++ reads) (chunks_of added ++ chunks)) =
        ap (λ l. and_then (part (state_with slots records before room l (chunks_of (one.added ++ added) ++ chunks))) next) prefixes
        ∙ ap (λ l. and_then (part (state_with slots records before room (reads_of one.added ++ (reads_of added ++ reads)) l)) next) draws
        ∙ ap (λ o. and_then o next) (m.makes records before (reads_of added ++ reads) (chunks_of added ++ chunks)) in
        let from = b.begins (records ++ one.added) (before ++ one.forks) reads chunks in
        record {
          more = from.more;
          later = from.later;
          records_are = ap (λ (o : Outcome B). (state_of o).records) is ∙ from.records_are ∙ ap (λ (rs : List Record). rs ++ from.more) (append_assoc records one.added added);
          forks_are = ap (λ (o : Outcome B). (state_of o).forks) is ∙ from.forks_are ∙ ap (λ (fs : List Fork). fs ++ from.later) (append_assoc before one.forks forks);
        };
  }

pub begins_same : {A : Type 0} (part other : State → Outcome A) (slots : List ℤ) (room : ℕ) (added : List Record) (forks : List Fork) → ((s : State) → other s ≡ part s)
    → BeginsPart part slots room added forks → BeginsPart other slots room added forks
begins_same {A} part other slots room added forks same b = record {
  within = b.within;
  begins = λ records before reads chunks.
      subst (λ (o : Outcome A). GoesOnFrom (state_of o) (records ++ added) (before ++ forks))
      (sym (same (state_with slots records before room (reads_of added ++ reads) (chunks_of added ++ chunks)))) (b.begins records before reads chunks);
}
