-- A row that the program reads.
use Rattle.std.proofs.Common.{◌≡◌, ℕ, ◌<◌, List, length, Some, refl, sym, subst, get_or}
use Rattle.std.specs.Prelude.{slice_get}
use Rattle.std.proofs.lemmas.Option.{slice_get_read}
use Rattle.race_model.specs.Row.{Row}

pub row_read : (rows : List Row) (i : ℕ) (row mine : Row) → i < length rows → row ≡ get_or rows i row → mine ≡ row → slice_get rows i ≡ Some mine
row_read rows i row mine within is view =
    subst (λ (r : Row). slice_get rows i ≡ Some r) (sym view) (slice_get_read rows (length rows) i row refl within is)
