use Rattle.std.proofs.Common.{ap, ◌∙◌, ◌+◌, cond, refl}
use Rattle.explain.proofs.OnePassed.{passes}
use Rattle.explain.proofs.passing.ReadPlace.pass.Goals as goal

pub returns-clause-after : goal.returns-clause-after
returns-clause-after c = λ before after follows.
    passes c.args.self.now _ before c.args.next.now after (c.pass_mutex.ensures follows) refl
    (c.with_one-self.ensures ∙ ap (λ b. c.args.self.now.regions + cond b 1 0) c.is_region.ensures)
    (c.with_one-self-2.ensures ∙ ap (λ b. c.args.self.now.barriers + cond b 1 0) c.is_barrier.ensures)
