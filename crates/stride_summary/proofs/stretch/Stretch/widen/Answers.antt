use Rattle.std.proofs.Common.{◌↔◌, ℕ, List, Contains, sym, subst}
use Rattle.stride_summary.proofs.stretch.Stretch.widen.Goals as goal

pub returns-in_err-reserve_exact-clause-addresses : goal.returns-in_err-reserve_exact-clause-addresses
returns-in_err-reserve_exact-clause-addresses c address =
    subst (λ (xs : List ℕ). Contains xs address ↔ Contains c.args.self.now.addresses.items address) (sym c.reserve_exact.ensures.items) (c.settle_if_many.ensures.addresses address)

pub returns-clause-addresses : goal.returns-clause-addresses
returns-clause-addresses c address =
    subst (λ (xs : List ℕ). Contains xs address ↔ Contains c.args.self.now.addresses.items address) (sym c.reserve_exact.ensures.items) (c.settle_if_many.ensures.addresses address)
