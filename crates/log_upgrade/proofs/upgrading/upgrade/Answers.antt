use Rattle.std.proofs.Common.{refl, ap, ◌∙◌}
use Rattle.std.proofs.lemmas.Result.{err_from_is_err_and}
use Rattle.log_upgrade.proofs.BroughtOver.{all_left, can_bring, index_left, logs_left}
use Rattle.log_upgrade.proofs.upgrading.upgrade.Goals as goal

pub returns-in_err-bring_logs-clause-leaves : goal.returns-in_err-bring_logs-clause-leaves
returns-in_err-bring_logs-clause-leaves g c =
    let p = err_from_is_err_and c.from_residual.result c.from_residual.ensures.1 in
    let all = c.in-Ok.ensures.all in
    rw (p.1) (λ x told d is.
    let fresh = c.requires.fresh x told in
    let can = can_bring _ x told c.args.dir.now c.args.new.now c.in-Ok.sweep c.rows-rows.result.now c.rows-rows.ensures all.0 all.1 fresh in
    logs_left _ x told c.args.dir.now c.args.new.now c.in-Ok.sweep c.rows-rows.result.now c.rows-rows.ensures all.0 all.1 fresh _ d
    (c.in_err-bring_logs.ensures.refused x (ap (λ s. s.content) c.in-Ok.ensures.reads.same ∙ told) all.0 can) is)

pub returns-in-Ok-write_index-clause-done : goal.returns-in-Ok-write_index-clause-done
returns-in-Ok-write_index-clause-done g c = λ x told d is.
    let all = c.in-Ok.ensures.all in
    let fresh = c.requires.fresh x told in
    let can = can_bring _ x told c.args.dir.now c.args.new.now c.in-Ok.sweep c.rows-rows.result.now c.rows-rows.ensures all.0 all.1 fresh in
    let brought = c.in_ok-bring_logs.ensures.done x (ap (λ s. s.content) c.in-Ok.ensures.reads.same ∙ told) all.0 can in
    all_left _ x told c.args.dir.now c.args.new.now c.in-Ok.sweep c.rows-rows.result.now c.rows-rows.ensures all.0 all.1 fresh _ _ d brought is _ refl c.in-Ok-write_index.ensures.done

pub returns-clause-leaves : goal.returns-clause-leaves
returns-clause-leaves g c = λ x told d is.
    let all = c.in-Ok.ensures.all in
    let fresh = c.requires.fresh x told in
    let can = can_bring _ x told c.args.dir.now c.args.new.now c.in-Ok.sweep c.rows-rows.result.now c.rows-rows.ensures all.0 all.1 fresh in
    let brought = c.in_ok-bring_logs.ensures.done x (ap (λ s. s.content) c.in-Ok.ensures.reads.same ∙ told) all.0 can in
    index_left _ x told c.args.dir.now c.args.new.now c.in-Ok.sweep c.rows-rows.result.now c.rows-rows.ensures all.0 all.1 fresh _ _ d brought is c.in-Err-write_index.ensures.refused
