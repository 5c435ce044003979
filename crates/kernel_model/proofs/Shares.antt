-- The iterations of a static schedule are those of the lane's chunks: its own number, and then every span-th.
use Rattle.std.proofs.Common.{◌≡◌, ◌≢◌, refl, ap, sym, ◌∙◌, ⊎_elim, ℕ, zero, suc, ◌+◌, ◌-◌, ◌*◌, ◌/◌, ◌%◌, ◌<◌, ◌≤◌, min, Bool, true, false, cond, List, [], ◌∷◌, ◌++◌, eq-eqb, arith}
use Rattle.std.specs.Prelude.{◌==◌, filter}
use Rattle.std.specs.List.{range_with_len}
use Rattle.std.proofs.Math.Nat.{div-lt_iff_lt-mul, add-mul-mod_self_left, add-mod_right, mod-eq_of_lt, mod-add-div}
use Rattle.std.proofs.lemmas.Nat.{le-div}
use Rattle.std.proofs.lemmas.Bool.{cases_lt}
use Rattle.std.proofs.lemmas.Bool.Decides.{nat_tests}
use Rattle.std.proofs.lemmas.List.Elements.{filter-append}
use Rattle.sw_base.proofs.Lists.{range_parts}
use Rattle.kernel_model.specs.Iterations.{static_iterations, chunk_iterations}

-- an iteration of a chunk that goes to the lane
abbrev pub is_dealt : ℕ → ℕ → ℕ → ℕ → Bool
is_dealt chunk lane span i = (i / chunk) % span == lane

-- the lane's iterations from a chunk on
abbrev pub static_from : ℕ → ℕ → ℕ → ℕ → ℕ → List ℕ
static_from chunk total lane span q = filter (is_dealt chunk lane span) (range_with_len (q * chunk) (total - q * chunk))

-- a test that is true, or false, of all numbers of a range
filter-range-true : (p : ℕ → Bool) (n a : ℕ) → ((i : ℕ) → a ≤ i → i < a + n → p i ≡ true) → filter p (range_with_len a n) ≡ range_with_len a n
filter-range-true p zero a all = refl
filter-range-true p (suc n) a all =
    ap (λ b. cond b (a ∷ filter p (range_with_len (a + 1) n)) (filter p (range_with_len (a + 1) n))) (all a (omega arith) (omega arith))
    ∙ ap (λ l. a ∷ l) (filter-range-true p n (a + 1) (λ i low high. all i (omega arith) (omega arith)))

filter-range-false : (p : ℕ → Bool) (n a : ℕ) → ((i : ℕ) → a ≤ i → i < a + n → p i ≡ false) → filter p (range_with_len a n) ≡ []
filter-range-false p zero a none = refl
filter-range-false p (suc n) a none =
    ap (λ b. cond b (a ∷ filter p (range_with_len (a + 1) n)) (filter p (range_with_len (a + 1) n))) (none a (omega arith) (omega arith))
    ∙ filter-range-false p n (a + 1) (λ i low high. none i (omega arith) (omega arith))

chunk_of : (chunk q i : ℕ) → 0 < chunk → q * chunk ≤ i → i < q * chunk + chunk → i / chunk ≡ q
chunk_of chunk q i some low high =
    let below_next : i < (q + 1) * chunk = omega arith in
    omega (arith, le-div q i chunk some low, (div-lt_iff_lt-mul {k = chunk} {x = i} {y = q + 1} some).1 below_next)

module _ (chunk total lane span : ℕ) (some : 0 < chunk) (within : lane < span) where
  dealt-at : (q i : ℕ) → q * chunk ≤ i → i < q * chunk + min chunk (total - q * chunk) → is_dealt chunk lane span i ≡ (q % span == lane)
  dealt-at q i low high = ap (λ k. k % span == lane) (chunk_of chunk q i some low (omega arith))

  -- the iterations after a chunk are those from the next one on
  rest-is : (q : ℕ) → filter (is_dealt chunk lane span)
      (range_with_len (q * chunk + min chunk (total - q * chunk)) (total - q * chunk - min chunk (total - q * chunk)))
      ≡ static_from chunk total lane span (q + 1)
  rest-is q = ⊎_elim last full (cases_lt (total - q * chunk) chunk)
    where
      last : total - q * chunk < chunk → filter (is_dealt chunk lane span)
          (range_with_len (q * chunk + min chunk (total - q * chunk)) (total - q * chunk - min chunk (total - q * chunk)))
          ≡ static_from chunk total lane span (q + 1)
      last h =
          let none : total - q * chunk - min chunk (total - q * chunk) ≡ 0 = omega arith in
          let none' : 0 ≡ total - (q + 1) * chunk = omega arith in
          ap (λ n. filter (is_dealt chunk lane span) (range_with_len (q * chunk + min chunk (total - q * chunk)) n)) none
          ∙ ap (λ n. filter (is_dealt chunk lane span) (range_with_len ((q + 1) * chunk) n)) none'

      full : chunk ≤ total - q * chunk → filter (is_dealt chunk lane span)
          (range_with_len (q * chunk + min chunk (total - q * chunk)) (total - q * chunk - min chunk (total - q * chunk)))
          ≡ static_from chunk total lane span (q + 1)
      full h =
          let place : q * chunk + min chunk (total - q * chunk) ≡ (q + 1) * chunk = omega arith in
          let left : total - q * chunk - min chunk (total - q * chunk) ≡ total - (q + 1) * chunk = omega arith in
          ap (λ a. filter (is_dealt chunk lane span) (range_with_len a (total - q * chunk - min chunk (total - q * chunk)))) place
          ∙ ap (λ n. filter (is_dealt chunk lane span) (range_with_len ((q + 1) * chunk) n)) left

  split : (q : ℕ) → static_from chunk total lane span q
      ≡ filter (is_dealt chunk lane span) (chunk_iterations chunk total q) ++ static_from chunk total lane span (q + 1)
  split q =
      let m = min chunk (total - q * chunk) in
      let parts : total - q * chunk ≡ m + (total - q * chunk - m) = omega arith in
      ap (λ n. filter (is_dealt chunk lane span) (range_with_len (q * chunk) n)) parts
      ∙ ap (filter (is_dealt chunk lane span)) (range_parts (q * chunk) m (total - q * chunk - m))
      ∙ filter-append (is_dealt chunk lane span) (range_with_len (q * chunk) m) (range_with_len (q * chunk + m) (total - q * chunk - m))
      ∙ ap (λ l. filter (is_dealt chunk lane span) (range_with_len (q * chunk) m) ++ l) (rest-is q)

  -- the lane's own chunk
  own : (q : ℕ) → q % span ≡ lane →
      static_from chunk total lane span q ≡ chunk_iterations chunk total q ++ static_from chunk total lane span (q + 1)
  own q is =
      split q
      ∙ ap (λ l. l ++ static_from chunk total lane span (q + 1))
      (filter-range-true (is_dealt chunk lane span) (min chunk (total - q * chunk)) (q * chunk)
      (λ i low high. dealt-at q i low high ∙ eq-eqb (q % span) lane is))

  -- another lane's chunk
  other : (q : ℕ) → q % span ≢ lane → static_from chunk total lane span q ≡ static_from chunk total lane span (q + 1)
  other q differs =
      split q
      ∙ ap (λ l. l ++ static_from chunk total lane span (q + 1))
      (filter-range-false (is_dealt chunk lane span) (min chunk (total - q * chunk)) (q * chunk)
      (λ i low high. dealt-at q i low high ∙ differ (q % span) lane differs))
    where
      differ : (a b : ℕ) → a ≢ b → (a == b) ≡ false
      differ a b h = grind (arith, nat_tests)

  -- so many chunks in a row that are all other lanes'
  pass : (n q : ℕ) → ((k : ℕ) → k < n → (q + k) % span ≢ lane) → static_from chunk total lane span q ≡ static_from chunk total lane span (q + n)
  pass zero q none = ap (static_from chunk total lane span) (omega arith)
  pass (suc n) q none =
      let here : q % span ≢ lane = λ is. none 0 (omega arith) (ap (λ k. k % span) (omega arith) ∙ is) in
      let place : q + 1 + n ≡ q + suc n = omega arith in
      other q here
      ∙ pass n (q + 1) (λ k lt is. none (suc k) (omega arith) (ap (λ j. j % span) (omega arith) ∙ is))
      ∙ ap (static_from chunk total lane span) place

  -- the numbers after one of the lane's, up to its next one, are others'
  between : (q k : ℕ) → q % span ≡ lane → 0 < k → k < span → (q + k) % span ≢ lane
  between q k is low high at =
      let parts : q + k ≡ (lane + k) + span * (q / span) = omega (arith, mod-add-div q span, is) in
      let moved : (lane + k) % span ≡ lane = sym (add-mul-mod_self_left (lane + k) span (q / span)) ∙ ap (λ n. n % span) (sym parts) ∙ at in
      ⊎_elim (near moved) (far moved) (cases_lt (lane + k) span)
    where
      near : (lane + k) % span ≡ lane → lane + k < span → ⊥
      near moved h = omega (arith, moved, mod-eq_of_lt h)

      far : (lane + k) % span ≡ lane → span ≤ lane + k → ⊥
      far moved h =
          let small : lane + k - span < span = omega arith in
          let parts : lane + k ≡ (lane + k - span) + span = omega arith in
          let same : (lane + k) % span ≡ lane + k - span = ap (λ n. n % span) parts ∙ add-mod_right (lane + k - span) span ∙ mod-eq_of_lt small in
          omega (arith, moved, same)

  -- the lane's iterations from one of its chunks on: those of that chunk, and then those from its next one on
  pub static_from-step : (q : ℕ) → q % span ≡ lane →
      static_from chunk total lane span q ≡ chunk_iterations chunk total q ++ static_from chunk total lane span (q + span)
  static_from-step q is =
      own q is
      ∙ ap (λ l. chunk_iterations chunk total q ++ l)
      (pass (span - 1) (q + 1) (λ k lt. λ at. between q (1 + k) is (omega arith) (omega arith) (ap (λ n. n % span) (omega arith) ∙ at))
      ∙ ap (static_from chunk total lane span) (omega arith))

  -- all of the lane's iterations are those from its first chunk on
  pub static_from-first : static_iterations chunk total lane span ≡ static_from chunk total lane span lane
  static_from-first =
      ap (λ a. filter (is_dealt chunk lane span) (range_with_len a total)) (omega arith)
      ∙ ap (λ n. filter (is_dealt chunk lane span) (range_with_len (0 * chunk) n)) (omega arith)
      ∙ pass lane 0 (λ k lt at. omega (arith, at, mod-eq_of_lt (small k lt)))
      ∙ ap (static_from chunk total lane span) (omega arith)
    where
      small : (k : ℕ) → k < lane → 0 + k < span
      small k lt = omega arith

  pub first_chunk : lane % span ≡ lane
  first_chunk = mod-eq_of_lt within

  pub next_chunk_dealt : (q : ℕ) → q % span ≡ lane → (q + span) % span ≡ lane
  next_chunk_dealt q is = add-mod_right q span ∙ is

  -- past the last iteration there are none
  pub static_from-end : (q : ℕ) → total ≤ q * chunk → static_from chunk total lane span q ≡ []
  static_from-end q past =
      let none : total - q * chunk ≡ 0 = omega arith in
      ap (λ n. filter (is_dealt chunk lane span) (range_with_len (q * chunk) n)) none
