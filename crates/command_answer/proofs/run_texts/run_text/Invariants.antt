use Rattle.std.proofs.Common.{◌≡◌, ◌++◌, take, string_bytes}
use Rattle.std.specs.List.{flat_map}
use Rattle.command_answer.specs.RunTexts.{count_lines, sum_line}
use Rattle.command_answer.proofs.run_texts.run_text.Given as goal

abbrev pub invariant-loop-array : goal.invariant-loop-array
invariant-loop-array l = string_bytes l.text ≡ count_lines l.tasks l.records ++ flat_map (sum_line l.words) (take l.array-index l.arrays)
