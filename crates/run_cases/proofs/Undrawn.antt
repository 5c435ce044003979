-- A team of which no lane draws.
use Rattle.std.proofs.Common.{◌≡◌, refl, ap, ap₂, sym, ◌∙◌, ℕ, zero, suc, List, [], ◌∷◌, ◌++◌, Some, All, arith}
use Rattle.std.specs.Prelude.{slice_get, get_or, count_by, ◌==◌}
use Rattle.std.specs.List.{flat_map}
use Rattle.std.proofs.lemmas.List.Elements.{All-nil, All-cons}
use Rattle.log_format.specs.declared.record.Record.{Record}
use Rattle.race_model.specs.Draws.{closed_loops, draws_by_loop, loop_draws}
use Rattle.execution_model.specs.Execution.{DrewSome}

abbrev no_loop : List (List ℕ)
no_loop = [] ∷ []

abbrev no_number : List ℕ
no_number = []

-- none of these logs has a draw
abbrev pub Undrawn : List (List Record) → Type 0
Undrawn [] = Unit {0}
Undrawn (records ∷ lanes) = (draws_by_loop records ≡ no_loop) × (closed_loops records ≡ no_number) × Undrawn lanes

empty : (loop : ℕ) → get_or no_loop loop [] ≡ []
empty zero = refl
empty (suc loop) = refl

nothing : (lanes : List (List Record)) (loop : ℕ) → Undrawn lanes → flat_map (loop_draws loop) lanes ≡ []
nothing [] loop u = refl
nothing (records ∷ lanes) loop u = ap₂ (λ (ds : List (List ℕ)) (rest : List ℕ). get_or ds loop [] ++ rest) u.0 (nothing lanes loop u.2) ∙ ap (λ (ns : List ℕ). ns ++ []) (empty loop)

abbrev Closes : ℕ → List Record → Type 0
Closes loop records = (m : ℕ) → slice_get (closed_loops records) loop ≡ Some m → m ≡ 0

close : (lanes : List (List Record)) (loop : ℕ) → Undrawn lanes → All (Closes loop) lanes
close [] loop u = All-nil (Closes loop)
close (records ∷ lanes) loop u =
    All-cons (Closes loop) records lanes (λ m found. let e : slice_get no_number loop ≡ Some m = sym (ap (λ (ns : List ℕ). slice_get ns loop) u.1) ∙ found in cc) (close lanes loop u.2)

pub none_drawn : (lanes : List (List Record)) (loop : ℕ) → Undrawn lanes → DrewSome lanes loop
none_drawn lanes loop u = record {
  limit = 0;
  drew = record {
    once = λ number less. absurd (omega arith);
    no_other = λ number more. ap (λ (ns : List ℕ). count_by (λ (n : ℕ). n == number) ns) (nothing lanes loop u);
    closed = close lanes loop u;
  };
}
