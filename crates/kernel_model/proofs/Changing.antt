-- A statement that changes an element: what it does, and that it keeps what each step of a task keeps.
use Rattle.std.proofs.Common.{◌≡◌, refl, ℕ, ℤ}
use Rattle.kernel_syntax.specs.Tree.{Term, Code}
use Rattle.log_format.specs.declared.record.Record.{Record}
use Rattle.kernel_model.specs.State.{State, Outcome, and_then, after, put, state_of}
use Rattle.kernel_model.specs.Growth.{Grows}
use Rattle.kernel_model.specs.Value.{Site, element_at, value}
use Rattle.kernel_model.specs.Trace.{run, changed}
use Rattle.kernel_model.specs.Changing.{kind_of, amount, changing}
use Rattle.kernel_model.specs.declared.change.Change.{Change}
use Rattle.kernel_model.specs.declared.change.Change.TheVariants.{Store, Update}
use Rattle.kernel_model.proofs.Growing.{grows-plain, grows-updates, run-grows, value-grows}
use Rattle.kernel_model.proofs.Steps.{kept-put, kept-stored, kept-updated, kept-after, kept-and_then}

pub run-changing : (c : Change) (at : Site) (array : ℕ) (index e : Term) (line site : ℕ) (rest : Code) (s : State) →
    run at (changing c array index e line site rest) s
    ≡ and_then (value at index s) (λ i s. and_then (value at e s) (λ v s.
    after (changed (kind_of c) (element_at at.arrays array i) (amount c v) line site s) (run at rest)))
unfolding run
run-changing Store at array index e line site rest s = refl
run-changing (Update minus) at array index e line site rest s = refl

pub put_grows : (c : Change) (r : Record) (s : State) → r.kind ≡ kind_of c → Grows s (state_of (put r s))
put_grows Store r s is = kept-put Grows grows-plain r s (λ room left. grows-plain.writes r room s left is)
put_grows (Update minus) r s is = kept-put Grows grows-plain r s (λ room left. grows-updates.updates r room s left is)

-- the change of an element, after its index and its value
module _ (c : Change) (at : Site) (array : ℕ) (index e : Term) (line site : ℕ) (rest : Code) where
  abbrev pub put_value : ℤ → ℤ → State → Outcome (Unit {0})
  put_value i v s = after (changed (kind_of c) (element_at at.arrays array i) (amount c v) line site s) (run at rest)

  abbrev pub after_index : ℤ → State → Outcome (Unit {0})
  after_index i s = and_then (value at e s) (put_value i)

  by_change : (c : Change) (i v : ℤ) (s : State) → Grows s (state_of (changed (kind_of c) (element_at at.arrays array i) v line site s))
  by_change Store i v s = kept-stored Grows grows-plain (element_at at.arrays array i) v line site s
  by_change (Update minus) i v s = kept-updated Grows grows-plain grows-updates (element_at at.arrays array i) v line site s

  pub changed_grows : (i v : ℤ) (s : State) → Grows s (state_of (put_value i v s))
  changed_grows i v s = kept-after Grows grows-plain s (changed (kind_of c) (element_at at.arrays array i) (amount c v) line site s) (run at rest) (by_change c i (amount c v) s) (run-grows at rest)

  pub valued_grows : (i : ℤ) (s : State) → Grows s (state_of (after_index i s))
  valued_grows i s = kept-and_then Grows grows-plain s (value at e s) (put_value i) (value-grows at e s) (changed_grows i)
