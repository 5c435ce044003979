use Rattle.std.proofs.Common.{◌≡◌, filter, rules}
use Rattle.std.proofs.lemmas.Fn.{filter_same}
use Rattle.pair_compare.specs.Sweeps.{reaches}
use Rattle.pair_compare.proofs.Activity.{drops}
use Rattle.pair_compare.proofs.active.Hulls.settle.Goals as goal

pub returns : goal.returns
returns c =
    let kept : c.retain.new.self.items ≡ filter (reaches c.args.low) c.args.self.now.list.items = filter_same _ (reaches c.args.low) _ (λ x b f k. search rules) c.args.self.now.list.items c.retain.new.self.items c.retain.ensures.filtered in
    drops c.args.low c.args.all c.args.self.now.list.items c.retain.new.self.items kept
