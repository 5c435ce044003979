use Rattle.std.proofs.Common.{◌≡◌, take}
use Rattle.std.proofs.lemmas.List.{take_all}
use Rattle.command_answer.proofs.run_texts.run_text.Goals as goal

pub returns : goal.returns
returns c =
    let all : take c.loop-array.array-index c.args.arrays.now ≡ c.args.arrays.now = take_all c.loop-array.array-index c.args.arrays.now c.loop-array-test.false in
    rw all at c.loop-array.invariant
