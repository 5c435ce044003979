use Rattle.std.proofs.Common.{ℕ, ◌<◌, get_or, arith}
use Rattle.log_index.proofs.Spelled.{step_spelled}
use Rattle.log_index.proofs.fields.step_of.Goals as goal

pub returns-clause-spelled : goal.returns-clause-spelled
returns-clause-spelled c =
    let small : (i : ℕ) → get_or c.args.bytes.now i 0 < 256 = λ i. omega (arith, c.type_inv.bytes i) in
    step_spelled c.args.bytes.now _ c.requires small c.from_be_bytes.ensures c.from_be_bytes-2.ensures c.from_be_bytes-3.ensures
