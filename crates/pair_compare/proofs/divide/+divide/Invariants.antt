use Rattle.std.proofs.Common.{◌+◌, ◌-◌, ◌*◌, ◌^◌}
use Rattle.pair_compare.specs.Fields.{fields_left}
use Rattle.pair_compare.proofs.divide.+divide.Given as goal

abbrev pub decreases-divide : goal.decreases-divide
decreases-divide l = ((5 - l.level) * 5 + fields_left l.field) * 2 ^ 64 + (l.range.1 - l.range.0)
