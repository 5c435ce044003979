use Rattle.std.proofs.Common.{◌≡◌, ◌∙◌, List, ℕ, subst, rules}
use Rattle.std.specs.Prelude.{Ok, Some}
use Rattle.log_walk.proofs.Unread.{opened_file}
use Rattle.log_walk.proofs.log.open_log.Goals as goal

pub returns-in-Ok-Some-clause-opens : goal.returns-in-Ok-Some-clause-opens
returns-in-Ok-Some-clause-opens g c = λ content told.
    let found : c.open_file.result ≡ Ok (Some c.in-Ok-Some.file) = search rules in
    let opened = rw found at c.open_file.ensures.rest in
    subst (λ (name : List ℕ). (bytes : List ℕ) × (content.held name ≡ Some bytes) × (g.F.File.File.rest c.in-Ok-Some.file ≡ Some bytes)) (c.deref.ensures ∙ c.in_ok-name.ensures)
    (opened_file g.F.File.File.rest c.in-Ok-Some.file (content.held c.deref.result.now) (opened content told))
