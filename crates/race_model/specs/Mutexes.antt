-- The mutexes that a task holds, told by its log.
use Rattle.std.specs.Prelude.{◌≡◌, ℕ, ◌<◌, List, Some, slice_get}
use Rattle.log_format.specs.declared.record.Record.{Record}
use Rattle.log_format.specs.declared.record.Kind.TheVariants.{Lock, Unlock}

-- before its n-th record, from 0, the log locks the mutex and doesn't unlock it after that
pub record HoldsMutex (records : List Record) (n mutex : ℕ) : Type 0 where
  pub place : ℕ
  pub lock : Record
  pub found : slice_get records place ≡ Some lock
  pub locks : lock.kind ≡ Lock
  pub mutex_is : lock.addr ≡ mutex
  pub before : place < n
  pub kept : (k : ℕ) (r : Record) → place < k → k < n → slice_get records k ≡ Some r → r.kind ≡ Unlock → r.addr ≡ mutex → ⊥
