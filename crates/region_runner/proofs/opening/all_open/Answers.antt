use Rattle.std.proofs.Common.{rules, ◌≡◌, refl, ap, sym, ◌∙◌, subst, arith, ℕ, ◌+◌, ◌<◌, Bool, true, false, not, nat_lt, List, length, slice_index_or}
use Rattle.std.proofs.lemmas.List.{get_or_default}
use Rattle.std.proofs.lemmas.Bool.{ltb-true, ltb-false}
use Rattle.std.specs.Prelude.{IsErr, IsOk}
use Rattle.region_runner.proofs.opening.all_open.Goals as goal

-- one more is so
one_more : {T : Type 0} (P : T → Type 0) (xs : List T) (n : ℕ) (x : T) → n < length xs → x ≡ slice_index_or xs n x → ((k : ℕ) (d : T) → k < n → P (slice_index_or xs k d)) → P x
    → (k : ℕ) (d : T) → k < n + 1 → P (slice_index_or xs k d)
one_more P xs n x inside is so_far one k d less = by (nat_lt k n) refl where
  by : (below : Bool) → nat_lt k n ≡ below → P (slice_index_or xs k d)
  by true below = so_far k d (ltb-true k n below)
  by false below =
      let same : k ≡ n = let past = ltb-false k n below in omega (arith, past, less) in
      subst (λ (j : ℕ). P (slice_index_or xs j d)) (sym same) (subst P (is ∙ get_or_default xs n x d inside) one)

pub loop-lane-preserved : goal.loop-lane-preserved
loop-lane-preserved g c = record {
  so_far =
      one_more (λ x. IsOk x) c.args.opened.now c.loop-lane.lane-index c.lane-item.result (omega (arith, c.loop-lane-test.true)) c.lane-item.is c.loop-lane.invariant.so_far
      (c.is_err.ensures.negation ∙ ap (λ (b : Bool). not b) c.if-is_err.false);
}

pub returns-then-is_err-clause-some : goal.returns-then-is_err-clause-some
returns-then-is_err-clause-some g c = λ _. record {
  torn = c.loop-lane.lane-index;
  within = omega (arith, c.loop-lane-test.true);
  refused = λ d. subst (λ x. IsErr x) (c.lane-item.is ∙ get_or_default c.args.opened.now c.loop-lane.lane-index c.lane-item.result d (omega (arith, c.loop-lane-test.true))) (search rules);
}
