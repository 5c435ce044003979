-- Records that are the same but for sites, and for values that aren't spans.
use Rattle.std.specs.Prelude.{◌≡◌, List, [], ◌∷◌}
use Rattle.sw_base.specs.declared.path.Step.{Step}
use Rattle.log_format.specs.declared.record.Record.{Record}
use Rattle.log_format.specs.declared.record.Kind.TheVariants.{Region}
use Rattle.race_model.specs.Trace.{Trace, Logs}

pub record IsSameButValue (r s : Record) : Type 0 where
  pub kind : r.kind ≡ s.kind
  pub size : r.size ≡ s.size
  pub line : r.line ≡ s.line
  pub addr : r.addr ≡ s.addr
  pub span : r.kind ≡ Region → r.value ≡ s.value

abbrev pub AreSameButValues : List Record → List Record → Type 0
AreSameButValues [] [] = Unit {0}
AreSameButValues [] (s ∷ others) = ⊥
AreSameButValues (r ∷ records) [] = ⊥
AreSameButValues (r ∷ records) (s ∷ others) = IsSameButValue r s × AreSameButValues records others

-- two runs that differ in values and sites alone
abbrev pub DifferInValues : Logs → Logs → Type 0
DifferInValues logs others = (path : List Step) → AreSameButValues (logs path) (others path)

-- two traces of the same tasks in the same order, which differ in values and sites alone
abbrev pub TasksDifferInValues : Trace → Trace → Type 0
TasksDifferInValues [] [] = Unit {0}
TasksDifferInValues [] (u ∷ others) = ⊥
TasksDifferInValues (t ∷ tasks) [] = ⊥
TasksDifferInValues (t ∷ tasks) (u ∷ others) = (t.path ≡ u.path) × AreSameButValues t.records u.records × TasksDifferInValues tasks others
