-- Lanes that are gathered one after another.
use Rattle.std.proofs.Common.{◌≡◌, refl, ap, sym, ◌∙◌, subst, ℕ, zero, suc, ◌+◌, ◌<◌, ◌≤◌, Bool, true, false, cond, ◌==◌, List, [], ◌∷◌, ◌++◌, length, slice_index_or, append_assoc, arith}
use Rattle.std.proofs.lemmas.Bool.Decides.{nat_tests}
use Rattle.std.proofs.lemmas.List.{append-nil, get_or_default, length_push}
use Rattle.lane_runner.specs.Handed.{HandedEntry}
use Rattle.region_runner.specs.Team.{handed_by}
use Rattle.region_runner.specs.declared.gathering.Verdict.{Verdict}
use Rattle.region_runner.specs.declared.gathering.Verdict.TheVariants.{Ended}
use Rattle.region_runner.specs.Gathering.{ClosedValue, Gathered, IsGathered, TookIn, answer_for, kept_by, urgency_of}
use Rattle.region_runner.proofs.Verdicts.{Answered, none_answered, goes_first, goes_after, answers, answered_same}

handed_more : (f : ℕ → List HandedEntry) (first count : ℕ) → handed_by f first (suc count) ≡ handed_by f first count ++ f (first + count)
handed_more f first zero = append-nil (f first) ∙ ap f (let e : first ≡ first + 0 = omega arith in e)
handed_more f first (suc count) =
    ap (λ (es : List HandedEntry). f first ++ es) (handed_more f (suc first) count ∙ ap (λ (k : ℕ). handed_by f (suc first) count ++ f k) (let e : suc first + count ≡ first + suc count = omega arith in e))
    ∙ sym (append_assoc (f first) (handed_by f (suc first) count) (f (first + suc count)))

handed_same : (f g : ℕ → List HandedEntry) (first count : ℕ) → ((k : ℕ) → k < first + count → f k ≡ g k) → handed_by f first count ≡ handed_by g first count
handed_same f g first zero same = refl
handed_same f g first (suc count) same =
    ap (λ (es : List HandedEntry). es ++ handed_by f (suc first) count) (same first (omega arith))
    ∙ ap (λ (es : List HandedEntry). g first ++ es) (handed_same f g (suc first) count (λ k less. same k (omega arith)))

-- so many lanes were gathered, and answer this
pub record HasGathered (n : ℕ) (lanes : ℕ → ClosedValue) (before after : List HandedEntry) (v : Verdict) : Type 0 where
  pub kept : ℕ → Bool
  pub grows : after ≡ before ++ handed_by (λ k. kept_by (kept k) (lanes k)) 0 n
  pub answered : Answered n lanes kept v

pub none_gathered : (lanes : ℕ → ClosedValue) (before : List HandedEntry) → HasGathered 0 lanes before before Ended
none_gathered lanes before = record { kept = λ k. true; grows = sym (append-nil before); answered = none_answered lanes (λ k. true) }

pub all_gathered : (n : ℕ) (lanes : ℕ → ClosedValue) (before after : List HandedEntry) (v : Verdict) → HasGathered n lanes before after v → Gathered n lanes before after (answer_for v)
all_gathered n lanes before after v g = record { kept = g.kept; grows = g.grows; answer = answers n lanes g.kept v g.answered }

module _ (n : ℕ) (lanes : ℕ → ClosedValue) (before mid after : List HandedEntry) (v w : Verdict) (g : HasGathered n lanes before mid v) (t : TookIn (lanes n) mid after w) where
  found : ℕ → Bool
  found k = cond (k == n) t.kept (g.kept k)

  found_earlier : (k : ℕ) → k < n → g.kept k ≡ found k
  unfolding found
  found_earlier k less = let test : (k == n) ≡ false = grind (arith, nat_tests) in sym (ap (λ (b : Bool). cond b t.kept (g.kept k)) test)

  found_last : t.kept ≡ found n
  unfolding found
  found_last = let test : (n == n) ≡ true = grind (arith, nat_tests) in sym (ap (λ (b : Bool). cond b t.kept (g.kept n)) test)

  more : after ≡ before ++ handed_by (λ k. kept_by (found k) (lanes k)) 0 (n + 1)
  more =
      t.grows
      ∙ ap (λ (es : List HandedEntry). es ++ kept_by t.kept (lanes n)) g.grows
      ∙ append_assoc before (handed_by (λ k. kept_by (g.kept k) (lanes k)) 0 n) (kept_by t.kept (lanes n))
      ∙ ap (λ (es : List HandedEntry). before ++ (es ++ kept_by t.kept (lanes n))) (handed_same (λ k. kept_by (g.kept k) (lanes k)) (λ k. kept_by (found k) (lanes k)) 0 n (λ k less. ap (λ (b : Bool). kept_by b (lanes k)) (found_earlier k (omega arith))))
      ∙ ap (λ (b : Bool). before ++ (handed_by (λ k. kept_by (found k) (lanes k)) 0 n ++ kept_by b (lanes n))) found_last
      ∙ ap (λ (k : ℕ). before ++ (handed_by (λ i. kept_by (found i) (lanes i)) 0 n ++ kept_by (found k) (lanes k))) (let e : n ≡ 0 + n = omega arith in e)
      ∙ ap (λ (es : List HandedEntry). before ++ es) (sym (handed_more (λ k. kept_by (found k) (lanes k)) 0 n))
      ∙ ap (λ (k : ℕ). before ++ handed_by (λ i. kept_by (found i) (lanes i)) 0 k) (let e : suc n ≡ n + 1 = omega arith in e)

  earlier : Answered n lanes found v
  earlier = answered_same n lanes g.kept found found_earlier v g.answered

  own : IsGathered (lanes n).path (lanes n).halt (lanes n).refused (found n) w
  own = subst (λ (b : Bool). IsGathered (lanes n).path (lanes n).halt (lanes n).refused b w) found_last t.verdict

  -- the next one, which goes before them
  pub gathered_first : urgency_of v < urgency_of w → HasGathered (n + 1) lanes before after w
  gathered_first less = record { kept = found; grows = more; answered = goes_first n lanes found v w earlier own less }

  -- the next one, which doesn't
  pub gathered_after : urgency_of w ≤ urgency_of v → HasGathered (n + 1) lanes before after v
  gathered_after most = record { kept = found; grows = more; answered = goes_after n lanes found v w earlier own most }

-- the next lane of a list was taken in
module _ (lanes yielded : List ClosedValue) (lane d : ClosedValue) (before mid after : List HandedEntry) (v w : Verdict) (at : length yielded < length lanes) (is : lane ≡ slice_index_or lanes (length yielded) lane)
    (g : HasGathered (length yielded) (λ k. slice_index_or lanes k d) before mid v) (t : TookIn lane mid after w) where
  took : TookIn (slice_index_or lanes (length yielded) d) mid after w
  took = subst (λ (m : ClosedValue). TookIn m mid after w) (is ∙ get_or_default lanes (length yielded) lane d at) t

  pub next_first : urgency_of v < urgency_of w → HasGathered (length (yielded ++ lane ∷ [])) (λ k. slice_index_or lanes k d) before after w
  next_first less =
      subst (λ (n : ℕ). HasGathered n (λ k. slice_index_or lanes k d) before after w) (sym (length_push yielded lane))
      (gathered_first (length yielded) (λ k. slice_index_or lanes k d) before mid after v w g took less)

  pub next_after : urgency_of w ≤ urgency_of v → HasGathered (length (yielded ++ lane ∷ [])) (λ k. slice_index_or lanes k d) before after v
  next_after most =
      subst (λ (n : ℕ). HasGathered n (λ k. slice_index_or lanes k d) before after v) (sym (length_push yielded lane))
      (gathered_after (length yielded) (λ k. slice_index_or lanes k d) before mid after v w g took most)
