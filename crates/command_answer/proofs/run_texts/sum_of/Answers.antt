use Rattle.std.proofs.Common.{arith}
use Rattle.std.proofs.lemmas.Int.{ints}
use Rattle.command_answer.proofs.Sums.{sum_of-drop}
use Rattle.command_answer.proofs.run_texts.sum_of.Goals as goal

pub loop-value-preserved : goal.loop-value-preserved
loop-value-preserved c =
    let next = sum_of-drop c.args.values.now c.loop-value.value-index c.loop-value-test.true in
    let fits = c.type_inv.values c.loop-value.value-index in
    record {
      summed = omega (arith, ints);
      low = omega (arith, ints);
      high = omega (arith, ints);
    }
