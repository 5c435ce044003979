-- A loop whose chunks are drawn: one draw after another, until none is left.
use Rattle.std.proofs.Common.{◌≡◌, refl, ap, sym, ℕ, zero, suc, ◌≤◌, Bool, true, false, cond, List, [], ◌∷◌, nat_lt, arith}
use Rattle.kernel_model.specs.Drawing.{then_more, if_drawn, draw_once, draw_all}
use Rattle.kernel_model.specs.Growth.{Grows}
use Rattle.kernel_model.specs.State.{State, Outcome, Gives, Stops, Wants, after, and_then, state_of}
use Rattle.kernel_model.specs.Trace.{draw, draw_in, drawn, draws}
use Rattle.kernel_model.proofs.Growing.{grows-plain}
use Rattle.kernel_model.proofs.Steps.{kept-and_then, kept-draws}

-- after a draw that found a chunk, and after one that found none
abbrev pub again : ℕ → ℕ → (ℕ → State → Outcome (Unit {0})) → Bool → State → Outcome (Unit {0})
again line n chunk true s = draw_all line n chunk s
again line n chunk false s = Gives tt s

module _ (line n : ℕ) (chunk : ℕ → State → Outcome (Unit {0})) (grows : (q : ℕ) (s : State) → Grows s (state_of (chunk q s))) where
  AreSame : ℕ → ℕ → Type 0
  AreSame f m = (s : State) → s.room ≤ f → s.room ≤ m → draws f line n chunk s ≡ draws m line n chunk s

  -- what follows a chunk does the same wherever there is no more room than before
  chunk_same : (p r : State → Outcome (Unit {0})) (t : State) (o : Outcome (Unit {0})) → Grows t (state_of o) → ((u : State) → u.room ≤ t.room → p u ≡ r u) → after o p ≡ after o r
  chunk_same p r t (Gives u s) grown same = same s (let room = grown.room_is in omega (arith, room))
  chunk_same p r t (Stops why at s) grown same = refl
  chunk_same p r t (Wants s) grown same = refl

  drawn_same : (q : ℕ) (p r : State → Outcome (Unit {0})) (t : State) → ((u : State) → u.room ≤ t.room → p u ≡ r u) → drawn q n chunk p t ≡ drawn q n chunk r t
  drawn_same q p r t same = ap (λ (o : Outcome (Unit {0})). cond (nat_lt q n) o (Gives tt t)) (chunk_same p r t (chunk q t) (grows q t) same)

  next_same : (f m room : ℕ) (chunks : List ℕ) (s : State) → AreSame f m → room ≤ suc f → room ≤ suc m
      → and_then (draw_in room chunks line n s) (λ q t. drawn q n chunk (draws f line n chunk) t) ≡ and_then (draw_in room chunks line n s) (λ q t. drawn q n chunk (draws m line n chunk) t)
  unfolding AreSame
  next_same f m zero chunks s same below within = refl
  next_same f m (suc room) [] s same below within = refl
  next_same f m (suc room) (q ∷ chunks) s same below within = drawn_same q (draws f line n chunk) (draws m line n chunk) _ (λ u less. same u (omega (arith, below, less)) (omega (arith, within, less)))

  full : (fuel room : ℕ) (s : State) → room ≡ 0 → and_then (draw_in room s.chunks line n s) (λ q t. drawn q n chunk (draws fuel line n chunk) t) ≡ draws zero line n chunk s
  full fuel zero s none = refl
  full fuel (suc room) s none = absurd (omega (arith, none))

  -- draws beyond the room change nothing
  draws_same : (f m : ℕ) → AreSame f m
  unfolding AreSame draw
  draws_same zero zero s below within = refl
  draws_same zero (suc m) s below within = sym (full m s.room s (omega (arith, below)))
  draws_same (suc f) zero s below within = full f s.room s (omega (arith, within))
  draws_same (suc f) (suc m) s below within = next_same f m s.room s.chunks s (draws_same f m) below within

  again_same : (m : ℕ) (t : State) (o : Outcome (Unit {0})) → Grows t (state_of o) → t.room ≤ m → after o (draws m line n chunk) ≡ and_then (then_more o) (again line n chunk)
  unfolding AreSame
  again_same m t (Gives u s) grown within = draws_same m s.room s (let room = grown.room_is in omega (arith, room, within)) (omega arith)
  again_same m t (Stops why at s) grown within = refl
  again_same m t (Wants s) grown within = refl

  one_more : (q m : ℕ) (t : State) → t.room ≤ m → drawn q n chunk (draws m line n chunk) t ≡ and_then (if_drawn q n chunk t) (again line n chunk)
  one_more q m t within = by_test (nat_lt q n) where
    by_test : (b : Bool) → cond b (after (chunk q t) (draws m line n chunk)) (Gives tt t) ≡ and_then (cond b (then_more (chunk q t)) (Gives false t)) (again line n chunk)
    by_test true = again_same m t (chunk q t) (grows q t) within
    by_test false = refl

  next_is : (m room : ℕ) (chunks : List ℕ) (s : State) → room ≤ suc m
      → and_then (draw_in room chunks line n s) (λ q t. drawn q n chunk (draws m line n chunk) t) ≡ and_then (and_then (draw_in room chunks line n s) (λ q t. if_drawn q n chunk t)) (again line n chunk)
  next_is m zero chunks s within = refl
  next_is m (suc room) [] s within = refl
  next_is m (suc room) (q ∷ chunks) s within = one_more q m _ (omega (arith, within))

  unrolled : (room : ℕ) (s : State) → s.room ≡ room → draws room line n chunk s ≡ and_then (draw_once line n chunk s) (again line n chunk)
  unfolding draw
  unrolled zero s is = sym (ap (λ (r : ℕ). and_then (and_then (draw_in r s.chunks line n s) (λ q t. if_drawn q n chunk t)) (again line n chunk)) is)
  unrolled (suc m) s is = next_is m s.room s.chunks s (omega (arith, is))

  -- a draw, and then the others
  pub draw_all_is : (s : State) → draw_all line n chunk s ≡ and_then (draw_once line n chunk s) (again line n chunk)
  draw_all_is s = unrolled s.room s refl

  pub again_grows : (b : Bool) (s : State) → Grows s (state_of (again line n chunk b s))
  again_grows true s = kept-draws Grows grows-plain s.room line n chunk s grows
  again_grows false s = grows-plain.same s

  pub if_drawn_grows : (q : ℕ) (s : State) → Grows s (state_of (if_drawn q n chunk s))
  if_drawn_grows q s = by_test (nat_lt q n) where
    by_test : (b : Bool) → Grows s (state_of (cond b (then_more (chunk q s)) (Gives false s)))
    by_test true = kept-and_then Grows grows-plain s (chunk q s) (λ u t. Gives true t) (grows q s) (λ u t. grows-plain.same t)
    by_test false = grows-plain.same s
