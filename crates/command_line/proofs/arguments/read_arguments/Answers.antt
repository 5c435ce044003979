use Rattle.std.proofs.Common.{arith}
use Rattle.command_line.proofs.ArgumentLists.{texts-four, texts-six, texts-three, texts-two}
use Rattle.command_line.proofs.arguments.read_arguments.Goals as goal

pub returns-in-len3-clause-said : goal.returns-in-len3-clause-said
returns-in-len3-clause-said c = let three = texts-three c.args.arguments.now _ _ _ (omega arith) (omega arith) c.name-item-then-arguments-lt4.is c.first-item-then-arguments-lt4.is c.second-item.is in
    rw (three, ← c.as_str-in-len3.ensures.value, ← c.as_str-in-len3-2.ensures.value, ← c.as_str-in-len3-3.ensures.value) c.two_arguments.ensures.said

pub returns-in-len3-clause-usage : goal.returns-in-len3-clause-usage
returns-in-len3-clause-usage c = let three = texts-three c.args.arguments.now _ _ _ (omega arith) (omega arith) c.name-item-then-arguments-lt4.is c.first-item-then-arguments-lt4.is c.second-item.is in
    rw (three, ← c.as_str-in-len3.ensures.value, ← c.as_str-in-len3-2.ensures.value, ← c.as_str-in-len3-3.ensures.value) c.two_arguments.ensures.usage

pub returns-in-len2-clause-said : goal.returns-in-len2-clause-said
returns-in-len2-clause-said c = let two = texts-two c.args.arguments.now _ _ (omega arith) (omega arith) c.name-item.is c.first-item.is in
    rw (two, ← c.as_str.ensures.value, ← c.as_str-in-len2.ensures.value) c.one_argument.ensures.said

pub returns-in-len2-clause-usage : goal.returns-in-len2-clause-usage
returns-in-len2-clause-usage c = let two = texts-two c.args.arguments.now _ _ (omega arith) (omega arith) c.name-item.is c.first-item.is in
    rw (two, ← c.as_str.ensures.value, ← c.as_str-in-len2.ensures.value) c.one_argument.ensures.usage

pub returns-in-len4-clause-said : goal.returns-in-len4-clause-said
returns-in-len4-clause-said c = let four = texts-four c.args.arguments.now _ _ _ _ (omega arith) (omega arith) c.name-item-then-arguments-lt5.is c.first-item-then-arguments-lt5.is c.second-item-then-arguments-lt5.is c.third-item.is in
    rw (four, ← c.as_str-in-len4.ensures.value, ← c.as_str-in-len4-2.ensures.value, ← c.as_str-in-len4-3.ensures.value, ← c.as_str-in-len4-4.ensures.value) c.three_arguments.ensures.said

pub returns-in-len4-clause-usage : goal.returns-in-len4-clause-usage
returns-in-len4-clause-usage c = let four = texts-four c.args.arguments.now _ _ _ _ (omega arith) (omega arith) c.name-item-then-arguments-lt5.is c.first-item-then-arguments-lt5.is c.second-item-then-arguments-lt5.is c.third-item.is in
    rw (four, ← c.as_str-in-len4.ensures.value, ← c.as_str-in-len4-2.ensures.value, ← c.as_str-in-len4-3.ensures.value, ← c.as_str-in-len4-4.ensures.value) c.three_arguments.ensures.usage

pub returns-in-len6-clause-said : goal.returns-in-len6-clause-said
returns-in-len6-clause-said c = let six = texts-six c.args.arguments.now _ _ _ _ _ _ (omega arith) (omega arith) c.name-item-then-arguments-lt7.is c.first-item-then-arguments-lt7.is c.second-item-then-arguments-lt7.is c.third-item-then-arguments-lt7.is c.fourth-item.is c.fifth-item.is in
    rw (six, ← c.as_str-in-len6.ensures.value, ← c.as_str-in-len6-2.ensures.value, ← c.as_str-in-len6-3.ensures.value, ← c.as_str-in-len6-4.ensures.value, ← c.as_str-in-len6-5.ensures.value, ← c.as_str-in-len6-6.ensures.value) c.five_arguments.ensures.said

pub returns-in-len6-clause-usage : goal.returns-in-len6-clause-usage
returns-in-len6-clause-usage c = let six = texts-six c.args.arguments.now _ _ _ _ _ _ (omega arith) (omega arith) c.name-item-then-arguments-lt7.is c.first-item-then-arguments-lt7.is c.second-item-then-arguments-lt7.is c.third-item-then-arguments-lt7.is c.fourth-item.is c.fifth-item.is in
    rw (six, ← c.as_str-in-len6.ensures.value, ← c.as_str-in-len6-2.ensures.value, ← c.as_str-in-len6-3.ensures.value, ← c.as_str-in-len6-4.ensures.value, ← c.as_str-in-len6-5.ensures.value, ← c.as_str-in-len6-6.ensures.value) c.five_arguments.ensures.usage
