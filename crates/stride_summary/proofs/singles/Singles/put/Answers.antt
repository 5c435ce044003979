use Rattle.std.proofs.Common.{refl, sym}
use Rattle.stride_summary.specs.Run.{access_key}
use Rattle.stride_summary.proofs.Alone.{holds_put}
use Rattle.stride_summary.proofs.singles.Singles.put.Goals as goal

pub returns-clause-added : goal.returns-clause-added
returns-clause-added c =
    let key = access_key c.args.access.now in
    holds_put c.args.self.now.list.items c.push_reserved.new.self.items _ key c.args.access.now.addr c.push_reserved.ensures.items
    (λ i. record { write = key.write; atomic = key.atomic; size = key.size; site = key.site; line = key.line; held = sym c.requires.free i }) refl
