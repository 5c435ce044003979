use Rattle.std.proofs.Common.{◌∙◌}
use Rattle.explain.specs.Filed.{HasOne}
use Rattle.explain.proofs.Filing.{finds}
use Rattle.explain.proofs.suspects.of.Goals as goal

pub returns : goal.returns
returns g c = λ own filed. finds (λ v. HasOne own v.items) c.get.result filed.found (c.get.ensures.value ∙ filed.there) filed.has
