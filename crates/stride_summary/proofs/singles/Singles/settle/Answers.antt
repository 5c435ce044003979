use Rattle.std.proofs.Common.{◌≡◌, List, true, Contains, sym, subst, arith}
use Rattle.std.proofs.lemmas.Bool.Decides.{nat_tests}
use Rattle.std.proofs.lemmas.List.Filters.{dedup_is}
use Rattle.std.proofs.lemmas.List.Kept.{Contains-dedup, Contains-from_dedup, IsStrictlySortedBy-dedup}
use Rattle.std.proofs.lemmas.List.Sorted.{Contains-permutation, IsPermutation-sym}
use Rattle.std.proofs.lemmas.Map.Keys.{Less-from_sorted}
use Rattle.stride_summary.specs.contracts.single.SingleEq.TheImpl.Laws.{laws-law}
use Rattle.stride_summary.specs.contracts.single.SingleOrd.TheImpl.Laws.{matches_eq-law, total-law}
use Rattle.stride_summary.specs.contracts.single.SinglePartialEq.TheImpl.{eq-value}
use Rattle.stride_summary.specs.declared.single.Single.{Single}
use Rattle.stride_summary.specs.Accesses.{Ascend}
use Rattle.stride_summary.proofs.Ordered.{above}
use Rattle.stride_summary.proofs.singles.Singles.settle.Goals as goal

-- accesses that `==` takes for equal are the same
exact : (x y : Single) → eq-value.it x y ≡ true → x ≡ y
exact x y e = grind (arith, nat_tests)

pub returns-clause-ascending : goal.returns-clause-ascending
returns-clause-ascending c =
    let is = dedup_is _ c.sort_unstable.new.self.items c.dedup.new.self.items c.dedup.ensures.filtered in
    let rising = IsStrictlySortedBy-dedup total-law matches_eq-law c.sort_unstable.new.self.items c.sort_unstable.ensures.sorted in
    subst (λ (xs : List Single). Ascend xs) (sym is) (λ i j d less within. above _ _ (Less-from_sorted _ _ i j d rising less within))

pub returns-clause-same : goal.returns-clause-same
returns-clause-same c s =
    let is = dedup_is _ c.sort_unstable.new.self.items c.dedup.new.self.items c.dedup.ensures.filtered in
    let moved = c.sort_unstable.ensures.permutation in (
      (λ there. Contains-permutation c.sort_unstable.new.self.items c.args.self.now.list.items s (IsPermutation-sym c.args.self.now.list.items c.sort_unstable.new.self.items moved)
          (Contains-from_dedup _ c.sort_unstable.new.self.items s (subst (λ (xs : List Single). Contains xs s) is there))),
      (λ was. subst (λ (xs : List Single). Contains xs s) (sym is) (Contains-dedup laws-law exact c.sort_unstable.new.self.items s (Contains-permutation c.args.self.now.list.items c.sort_unstable.new.self.items s moved was))),
    )
