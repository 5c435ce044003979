use Rattle.log_walk.proofs.rules.lock.Goals as goal

pub returns-in-Ok : goal.returns-in-Ok
returns-in-Ok c = record {
  free = λ held. let clash = c.in-Ok.ensures.already.1 held in cc clash;
  few = λ full. let clash = c.in-Ok.ensures.deep.1 ((λ held. let clash = c.in-Ok.ensures.already.1 held in cc clash), full) in cc clash;
  taken = c.in-Ok.ensures.entered;
}
