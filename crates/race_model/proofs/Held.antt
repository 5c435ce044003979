-- The mutexes held after records.
use Rattle.std.proofs.Common.{◌≡◌, ℕ, List, [], ◌∷◌, ◌++◌, refl}
use Rattle.log_format.specs.declared.record.Record.{Record}
use Rattle.race_model.specs.Race.{held_after, held_after_kind}

pub held_after-append : (held : List ℕ) (xs ys : List Record) → held_after held (xs ++ ys) ≡ held_after (held_after held xs) ys
held_after-append held [] ys = refl
held_after-append held (x ∷ xs) ys = held_after-append (held_after_kind x.kind x.addr held) xs ys
