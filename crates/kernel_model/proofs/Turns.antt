-- The turns of loops: they only add records; which ones a share, a chunk in turn and a chunk that is drawn have.
use Rattle.std.proofs.Common.{◌≡◌, refl, ap, sym, ◌∙◌, ℕ, zero, suc, ◌+◌, ◌-◌, ◌*◌, ◌%◌, ◌^◌, ◌<◌, ◌≤◌, min, List, [], ◌++◌, ℤ, pos, ◌+ℤ◌, ◌≤ℤ◌, append_assoc, arith}
use Rattle.std.specs.List.{range_with_len}
use Rattle.std.proofs.lemmas.Grind.{div_ceil_times}
use Rattle.std.proofs.lemmas.Int.{ints}
use Rattle.std.proofs.lemmas.List.{append-nil}
use Rattle.kernel_syntax.specs.Share.{even_share_of}
use Rattle.kernel_syntax.specs.Tree.{Code}
use Rattle.kernel_syntax.proofs.Sharing.{share_goes_on, share_ends}
use Rattle.kernel_model.specs.Drawing.{turn_from}
use Rattle.kernel_model.specs.Growth.{Grows}
use Rattle.kernel_model.specs.Iterations.{static_iterations, chunk_count, chunk_iterations}
use Rattle.kernel_model.specs.State.{State, Outcome, assign, state_of}
use Rattle.kernel_model.specs.Trace.{each, turns}
use Rattle.kernel_model.specs.Value.{Site}
use Rattle.kernel_model.proofs.Growing.{grows-plain, run-grows}
use Rattle.kernel_model.proofs.Joining.{after-same}
use Rattle.kernel_model.proofs.Shares.{static_from, static_from-first, static_from-step, static_from-end, first_chunk, next_chunk_dealt}
use Rattle.kernel_model.proofs.Steps.{kept-each}

pub each-range : (a n : ℕ) (turn : ℕ → State → Outcome (Unit {0})) (s : State) → each (range_with_len a n) turn s ≡ turns n a turn s
each-range a zero turn s = refl
each-range a (suc n) turn s =
    after-same (turn a s) (each (range_with_len (a + 1) n) turn) (turns n (suc a) turn)
    (λ t. each-range (a + 1) n turn t ∙ ap (λ (k : ℕ). turns n k turn t) (let e : a + 1 ≡ suc a = omega arith in e))

module _ (at : Site) (body : Code) (slot : ℕ) (from : ℤ) where
  pub turn_grows : (i : ℕ) (s : State) → Grows s (state_of (turn_from at body slot from i s))
  turn_grows i s = grows-plain.chain s (assign slot (from +ℤ pos i) s) _ (grows-plain.assigns slot (from +ℤ pos i) s) (run-grows at body (assign slot (from +ℤ pos i) s))

  pub each_grows : (is : List ℕ) (s : State) → Grows s (state_of (each is (turn_from at body slot from) s))
  each_grows is s = kept-each Grows grows-plain is (turn_from at body slot from) s turn_grows

-- ---- how far a share reaches

pub share_below : (total span lane k : ℕ) → 0 < span → lane + k ≡ span → (even_share_of total lane span).0 ≤ total
share_below total span lane zero some is =
    let last : lane ≡ span = omega arith in
    let ends : (even_share_of total lane span).0 ≡ total = ap (λ l. (even_share_of total l span).0) last ∙ share_ends total span some in omega arith
share_below total span lane (suc k) some is =
    let next : (even_share_of total (lane + 1) span).0 ≤ total = share_below total span (lane + 1) k some (omega arith) in
    omega (arith, share_goes_on total lane span)

pub share_within : (total lane span : ℕ) → lane < span → (even_share_of total lane span).0 + (even_share_of total lane span).1 ≤ total
share_within total lane span lt =
    let next : (even_share_of total (lane + 1) span).0 ≤ total = share_below total span (lane + 1) (span - lane - 1) (omega arith) (omega arith) in
    omega (arith, share_goes_on total lane span)

-- a smaller number isn't above the greatest either
pub below_top : (a : ℤ) (m n : ℕ) → m ≤ n → (a +ℤ pos n) ≤ℤ pos (2 ^ 63 - 1) → (a +ℤ pos m) ≤ℤ pos (2 ^ 63 - 1)
below_top a m n le top = omega (arith, ints, top)

-- ---- chunks that are dealt in turn

-- The lane's chunks before the one that begins at `first`, which stands still at its type's end, have these iterations.
pub record DealtBefore (chunk total lane span first : ℕ) (done : List ℕ) : Type 0 where
  pub q : ℕ
  pub own : q % span ≡ lane
  pub place : first ≡ min (q * chunk) (2 ^ 64 - 1)
  pub parts : static_iterations chunk total lane span ≡ done ++ static_from chunk total lane span q

module _ (chunk total lane span : ℕ) (some : 0 < chunk) (within : lane < span) where
  pub dealt_none : chunk * lane < 2 ^ 64 → DealtBefore chunk total lane span (chunk * lane) []
  dealt_none small = record {
    q = lane;
    own = first_chunk chunk total lane span some within;
    place = omega arith;
    parts = static_from-first chunk total lane span some within;
  }

  module _ (first : ℕ) (done : List ℕ) (before : DealtBefore chunk total lane span first done) where
    -- these are all
    pub dealt_all : total ≤ first → static_iterations chunk total lane span ≡ done
    dealt_all past =
        let none : static_from chunk total lane span before.q ≡ [] = static_from-end chunk total lane span some within before.q (omega (arith, past, before.place)) in
        before.parts ∙ ap (λ (l : List ℕ). done ++ l) none ∙ append-nil done

    module _ (within_loop : first < total) (small : total < 2 ^ 64) where
      begins : first ≡ before.q * chunk
      begins = omega (arith, before.place)

      -- the chunk that begins there comes next
      pub dealt_then : static_iterations chunk total lane span ≡ done ++ (range_with_len first (min chunk (total - first)) ++ static_from chunk total lane span (before.q + span))
      dealt_then =
          before.parts
          ∙ ap (λ (l : List ℕ). done ++ l)
          (static_from-step chunk total lane span some within before.q before.own
          ∙ ap (λ (l : List ℕ). l ++ static_from chunk total lane span (before.q + span)) (sym (ap (λ (n : ℕ). range_with_len n (min chunk (total - n))) begins)))

      pub dealt_more : DealtBefore chunk total lane span (min (first + chunk * span) (2 ^ 64 - 1)) (done ++ range_with_len first (min chunk (total - first)))
      dealt_more = record {
        q = before.q + span;
        own = next_chunk_dealt chunk total lane span some within before.q before.own;
        place = omega (arith, begins);
        parts = dealt_then ∙ sym (append_assoc done (range_with_len first (min chunk (total - first))) (static_from chunk total lane span (before.q + span)));
      }

-- ---- chunks that are drawn

-- a chunk begins within the loop
pub chunk_begins : (total chunk q : ℕ) → 0 < chunk → q < chunk_count chunk total → q * chunk < total
chunk_begins total chunk q some below =
    let ends = (div_ceil_times total chunk some).1 in
    let next : (q + 1) * chunk ≤ chunk_count chunk total * chunk = grind (arith, below) in
    let grown : (q + 1) * chunk ≡ q * chunk + chunk = grind arith in
    omega (arith, ends, next, grown)

module _ (at : Site) (body : Code) (slot : ℕ) (from : ℤ) (total chunk : ℕ) where
  abbrev pub chunk_turns : ℕ → State → Outcome (Unit {0})
  chunk_turns q = each (chunk_iterations chunk total q) (turn_from at body slot from)

  pub chunk_grows : (q : ℕ) (s : State) → Grows s (state_of (chunk_turns q s))
  chunk_grows q s = each_grows at body slot from (chunk_iterations chunk total q) s
