-- The rules of a folder that speak of one log alone: of each record by itself, and of its mutexes.
use Rattle.std.specs.Prelude.{◌≡◌, ◌≢◌, ◌⊎◌, ℕ, List, [], ◌∷◌, ◌++◌, length, Contains, Some}
use Rattle.log_format.specs.declared.format.Format.{Format}
use Rattle.log_format.specs.declared.record.Record.{Record}
use Rattle.log_format.specs.declared.record.Kind.TheVariants.{Lock, Unlock, Barrier, Region, End}
use Rattle.log_format.specs.Table.{IsTabled}
use Rattle.race_model.specs.Trace.{Logs, Node, record_at}
use Rattle.race_model.specs.Race.{held_at}

-- a record comes where these mutexes are held: a Lock takes another one, and no ninth; an Unlock gives back the one that was locked last; none is held
-- at a Barrier, a Region or an End
pub record IsNestedRecord (held : List ℕ) (r : Record) : Type 0 where
  pub once : r.kind ≡ Lock → Contains held r.addr → ⊥
  pub limit : r.kind ≡ Lock → length held ≡ 8 → ⊥
  pub last : r.kind ≡ Unlock → ((outer : List ℕ) → held ≢ outer ++ r.addr ∷ []) → ⊥
  pub none : (r.kind ≡ Barrier) ⊎ (r.kind ≡ Region) ⊎ (r.kind ≡ End) → held ≢ [] → ⊥

-- mutexes nest in each log
abbrev pub AreNested : Logs → Type 0
AreNested logs = (x : Node) (r : Record) → record_at logs x ≡ Some r → IsNestedRecord (held_at logs x) r

-- each record is of the format's table
abbrev pub AreTabled : Format → Logs → Type 0
AreTabled format logs = (x : Node) (r : Record) → record_at logs x ≡ Some r → IsTabled format r
