use Rattle.std.proofs.Common.{ℕ, eqb, List, Contains, sym, subst}
use Rattle.std.specs.List.Sorted.{IsStrictlyIncreasing}
use Rattle.std.proofs.lemmas.List.Filters.{dedup_is}
use Rattle.std.proofs.lemmas.List.Kept.{Contains-dedup_nat, Contains-from_dedup}
use Rattle.std.proofs.lemmas.List.Sorted.{Contains-permutation, IsPermutation-sym}
use Rattle.std.proofs.lemmas.Map.Keys.{IsStrictlyIncreasing-dedup}
use Rattle.stride_summary.proofs.stretch.Stretch.settle.Goals as goal

pub returns-clause-ascending : goal.returns-clause-ascending
returns-clause-ascending c =
    let is = dedup_is eqb c.sort.new.numbers.items c.dedup.new.self.items c.dedup.ensures.filtered in
    subst (λ (xs : List ℕ). IsStrictlyIncreasing xs) (sym is) (IsStrictlyIncreasing-dedup c.sort.new.numbers.items c.sort.ensures.sorted)

pub returns-clause-addresses : goal.returns-clause-addresses
returns-clause-addresses c address =
    let is = dedup_is eqb c.sort.new.numbers.items c.dedup.new.self.items c.dedup.ensures.filtered in (
      λ there. Contains-permutation c.sort.new.numbers.items c.args.self.now.addresses.items address (IsPermutation-sym c.args.self.now.addresses.items c.sort.new.numbers.items c.sort.ensures.permutation)
          (Contains-from_dedup eqb c.sort.new.numbers.items address (subst (λ (xs : List ℕ). Contains xs address) is there)),
      λ was. subst (λ (xs : List ℕ). Contains xs address) (sym is)
          (Contains-dedup_nat c.sort.new.numbers.items address (Contains-permutation c.args.self.now.addresses.items c.sort.new.numbers.items address c.sort.ensures.permutation was)),
    )
