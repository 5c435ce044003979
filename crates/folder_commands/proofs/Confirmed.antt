-- Options that differ.
use Rattle.std.proofs.Common.{◌≡◌, Some, None}

pub none_is_some : {X : Type 0} (x : X) → None ≡ Some x → ⊥
none_is_some x e = cc
