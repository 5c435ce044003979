use Rattle.std.proofs.Common.{◌≡◌, inl, refl, ℕ, List, [], Option, None}
use Rattle.std.specs.Prelude.{Result, Ok, Err, OnErr}
use Rattle.sw_base.specs.Environment.{Text, WhereTold, LeavesPrefix}
use Rattle.memory_environment.proofs.short_reads.ShortReadsFolder.seal.Goals as goal

no_change : {T E : Type 0} (result : Result T E) (told : Option Text) (name : List ℕ) → OnErr result (WhereTold told (λ text. LeavesPrefix None None name text.bytes))
no_change (Ok x) told name = tt
no_change (Err e) told name = λ text is. record { prefix = []; rest = text.bytes; parts = refl; leaves = inl refl }

pub returns-clause-refused : goal.returns-clause-refused
returns-clause-refused c = no_change c.seal.result _ _
