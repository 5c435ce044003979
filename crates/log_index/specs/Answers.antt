-- What a failed call of the environment is answered with.
use Rattle.sw_base.specs.declared.trouble.Trouble.{Trouble}
use Rattle.sw_base.specs.declared.trouble.Trouble.TheVariants as trouble
use Rattle.log_index.specs.declared.row.IndexAnswer.{IndexAnswer}
use Rattle.log_index.specs.declared.row.IndexAnswer.TheVariants as answer

abbrev pub answer_of : Trouble → IndexAnswer
answer_of trouble.Memory = answer.Memory
answer_of trouble.Failed = answer.ReadFault

-- an answer that bytes are given, once they are read
abbrev pub IsOfBytes : IndexAnswer → Type 0
IsOfBytes answer.NoIndex = ⊥
IsOfBytes (answer.Bad row why) = Unit {0}
IsOfBytes answer.ReadFault = ⊥
IsOfBytes answer.Memory = Unit {0}
