-- A relation of states that each single step of a task is in.
use Rattle.std.specs.Prelude.{◌≡◌, ℕ, suc, min, List, [], ◌∷◌, ◌++◌, ℤ}
use Rattle.log_format.specs.declared.record.Record.{Record}
use Rattle.log_format.specs.declared.record.Kind.TheVariants as kind
use Rattle.log_format.specs.declared.record.Kind.{Kind}
use Rattle.log_format.specs.Fitting.{fitted}
use Rattle.kernel_syntax.specs.Tree.{TeamTree}
use Rattle.kernel_model.specs.State.{State, event, assign}
use Rattle.kernel_model.specs.Value.{Element, access}
use Rattle.kernel_model.specs.Trace.{forked}

-- the state with one record more
abbrev pub with_record : Record → ℕ → State → State
with_record r room s = record s { records = s.records ++ r ∷ []; room = room }

-- Each single step of a task within one statement is in the relation, and so are several in a row.
pub record KeepsPlainSteps (R : State → State → Type 0) : Type 0 where
  pub same : (s : State) → R s s
  pub chain : (a b c : State) → R a b → R b c → R a c
  pub assigns : (slot : ℕ) (v : ℤ) (s : State) → R s (assign slot v s)
  pub writes : (r : Record) (room : ℕ) (s : State) → s.room ≡ suc room → r.kind ≡ kind.Write → R s (with_record r room s)
  pub reads : (e : Element) (site line room : ℕ) (v : ℤ) (reads : List ℤ) (s : State) → s.room ≡ suc room → s.reads ≡ v ∷ reads →
      R s (record (with_record (access kind.Read e site line (fitted v e.width)) room s) { reads = reads })
  pub draws : (line n room q : ℕ) (chunks : List ℕ) (s : State) → s.room ≡ suc room → s.chunks ≡ q ∷ chunks →
      R s (record (with_record (event kind.Chunk line (min q n) n) room s) { chunks = chunks })

-- the kinds of records of mutexes
abbrev pub IsMark : Kind → Type 0
IsMark kind.Lock = Unit {0}
IsMark kind.Unlock = Unit {0}
IsMark _ = ⊥

-- an atomic update is in the relation
pub record KeepsUpdates (R : State → State → Type 0) : Type 0 where
  pub updates : (r : Record) (room : ℕ) (s : State) → s.room ≡ suc room → r.kind ≡ kind.Update → R s (with_record r room s)

-- a barrier is in the relation
pub record KeepsBarriers (R : State → State → Type 0) : Type 0 where
  pub bars : (line room : ℕ) (s : State) → s.room ≡ suc room → R s (with_record (event kind.Barrier line 0 0) room s)

-- an End is in the relation
pub record KeepsEnds (R : State → State → Type 0) : Type 0 where
  pub ends : (line room : ℕ) (s : State) → s.room ≡ suc room → R s (with_record (event kind.End line 0 0) room s)

-- the same with atomic updates, the records of mutexes and forks
pub record KeepsSteps (R : State → State → Type 0) : Type 0 where
  pub plain : KeepsPlainSteps R
  pub updates : KeepsUpdates R
  pub marks : (r : Record) (room : ℕ) (s : State) → s.room ≡ suc room → IsMark r.kind → R s (with_record r room s)
  pub forks : (team : TeamTree) (room : ℕ) (s : State) → s.room ≡ suc room →
      R s (forked team (with_record (event kind.Region team.line 0 team.span) room s))
