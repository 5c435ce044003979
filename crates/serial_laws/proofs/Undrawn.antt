-- Logs of lanes that draw no chunks.
use Rattle.std.proofs.Common.{◌≡◌, refl, ap, ap₂, sym, ◌∙◌, ◌⊎◌, inl, inr, ℕ, zero, suc, ◌+◌, ◌<◌, List, [], ◌∷◌, ◌++◌, map, get_or, Some, arith, All}
use Rattle.std.specs.Prelude.{slice_get, count_by, ◌==◌}
use Rattle.std.specs.List.{flat_map, range_with_len}
use Rattle.std.proofs.lemmas.List.Elements.{All-nil, All-cons, All-head, All-tail}
use Rattle.log_format.specs.declared.record.Record.{Record}
use Rattle.log_format.specs.declared.record.Kind.{Kind}
use Rattle.log_format.specs.declared.record.Kind.TheVariants as kind
use Rattle.race_model.specs.Draws.{with_draw, draws_by_loop, loop_draws, with_closing, closed_loops}
use Rattle.history_model.specs.Work.{Phases, lane_works}
use Rattle.execution_model.specs.Execution.{DrewSome}
use Rattle.execution_model.specs.Runs.{works_log, region_logs}
use Rattle.serial_run.specs.Going.{ArePlain}

-- no record is a draw
abbrev pub IsUndrawn : List Record → Type 0
IsUndrawn [] = Unit {0}
IsUndrawn (r ∷ rs) = (r.kind ≡ kind.Chunk → ⊥) × IsUndrawn rs

pub undrawn_both : (xs ys : List Record) → IsUndrawn xs → IsUndrawn ys → IsUndrawn (xs ++ ys)
undrawn_both [] ys one other = other
undrawn_both (x ∷ xs) ys one other = (one.0, undrawn_both xs ys one.1 other)

no_access : (k : Kind) → (k ≡ kind.Read) ⊎ (k ≡ kind.Write) → k ≡ kind.Chunk → ⊥
no_access k (inl is) chunk = cc
no_access k (inr is) chunk = cc

pub plain_undrawn : (rs : List Record) → ArePlain rs → IsUndrawn rs
plain_undrawn [] plain = tt
plain_undrawn (r ∷ rs) plain = ((λ is. no_access r.kind plain.0 is), plain_undrawn rs plain.1)

-- ---- loops

abbrev no_loop : List (List ℕ)
no_loop = [] ∷ []

abbrev no_number : List ℕ
no_number = []

no_draw : (k : Kind) (r : Record) (loops : List (List ℕ)) → (k ≡ kind.Chunk → ⊥) → with_draw k r loops ≡ loops
no_draw kind.Chunk r loops other = absurd (other refl)
no_draw _ r loops other = refl

no_closing : (k : Kind) (r : Record) (counts : List ℕ) → (k ≡ kind.Chunk → ⊥) → with_closing k r counts ≡ counts
no_closing kind.Chunk r counts other = absurd (other refl)
no_closing _ r counts other = refl

undrawn_loops : (rs : List Record) → IsUndrawn rs → draws_by_loop rs ≡ no_loop
undrawn_loops [] u = refl
undrawn_loops (r ∷ rs) u = no_draw r.kind r (draws_by_loop rs) u.0 ∙ undrawn_loops rs u.1

undrawn_closed : (rs : List Record) → IsUndrawn rs → closed_loops rs ≡ no_number
undrawn_closed [] u = refl
undrawn_closed (r ∷ rs) u = no_closing r.kind r (closed_loops rs) u.0 ∙ undrawn_closed rs u.1

empty : (loop : ℕ) → get_or no_loop loop no_number ≡ no_number
empty zero = refl
empty (suc loop) = refl

module _ (loop : ℕ) where
  no_numbers : (lanes : List (List Record)) → All IsUndrawn lanes → flat_map (loop_draws loop) lanes ≡ no_number
  no_numbers [] all = refl
  no_numbers (rs ∷ lanes) all =
      ap₂ (λ (ms ns : List ℕ). ms ++ ns) (ap (λ (ds : List (List ℕ)). get_or ds loop no_number) (undrawn_loops rs (All-head IsUndrawn rs lanes all)) ∙ empty loop)
      (no_numbers lanes (All-tail IsUndrawn rs lanes all))

  abbrev Closes : List Record → Type 0
  Closes rs = (m : ℕ) → slice_get (closed_loops rs) loop ≡ Some m → m ≡ 0

  closes_none : (rs : List Record) → IsUndrawn rs → Closes rs
  closes_none rs u m found = let e : slice_get no_number loop ≡ Some m = sym (ap (λ (ns : List ℕ). slice_get ns loop) (undrawn_closed rs u)) ∙ found in cc

  all_close : (lanes : List (List Record)) → All IsUndrawn lanes → All Closes lanes
  all_close [] all = All-nil Closes
  all_close (rs ∷ lanes) all = All-cons Closes rs lanes (closes_none rs (All-head IsUndrawn rs lanes all)) (all_close lanes (All-tail IsUndrawn rs lanes all))

  none_drawn : (lanes : List (List Record)) → All IsUndrawn lanes → DrewSome lanes loop
  none_drawn lanes all = record {
    limit = 0;
    drew = record {
      once = λ number less. absurd (omega (arith, less));
      no_other = λ number more. ap (λ (ns : List ℕ). count_by (λ (n : ℕ). n == number) ns) (no_numbers lanes all);
      closed = all_close lanes all;
    };
  }

  each_lane : (f : ℕ → List Record) (a n : ℕ) → ((k : ℕ) → k < a + n → IsUndrawn (f k)) → All IsUndrawn (map f (range_with_len a n))
  each_lane f a zero each = All-nil IsUndrawn
  each_lane f a (suc n) each = All-cons IsUndrawn (f a) (map f (range_with_len (a + 1) n)) (each a (omega arith)) (each_lane f (a + 1) n (λ k less. each k (omega (arith, less))))

  -- a region of which no lane draws
  pub undrawn_region : (phases : Phases) (span : ℕ) → ((lane : ℕ) → lane < span → IsUndrawn (works_log (lane_works lane phases))) → DrewSome (region_logs phases span) loop
  undrawn_region phases span each =
      none_drawn (region_logs phases span) (each_lane (λ lane. works_log (lane_works lane phases)) 0 span (λ k less. each k (omega (arith, less))))
