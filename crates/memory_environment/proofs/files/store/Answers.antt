use Rattle.std.proofs.Common.{rules, ◌≡◌, string_bytes}
use Rattle.memory_environment.proofs.HeldFiles.{held_by-insert}
use Rattle.memory_environment.proofs.files.store.Goals as goal

pub returns-clause-ok : goal.returns-clause-ok
returns-clause-ok g c =
    let key : string_bytes c.in_ok-name.name ≡ c.args.name.now = search rules in
    rw (← key) (held_by-insert c.args.files.now c.insert.new.self c.in_ok-name.name c.args.list c.in_ok-insert.ensures.updates)
