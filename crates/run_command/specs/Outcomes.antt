-- What comes out of calls that failed, and the status and the text of what came out of a run.
use Rattle.std.specs.Prelude.{◌≡◌, ℕ, List, Option, Some, None}
use Rattle.sw_base.specs.declared.trouble.Trouble.{Trouble}
use Rattle.sw_base.specs.declared.trouble.Trouble.TheVariants as trouble
use Rattle.kernel_file.specs.declared.reading.KernelRefusal.{KernelRefusal}
use Rattle.kernel_file.specs.declared.reading.KernelRefusal.TheVariants as kernel
use Rattle.kernel_model.specs.Stopping.{stop_name}
use Rattle.kernel_file.specs.Refusing.{no_kernel_text, refused_text}
use Rattle.command_answer.specs.Texts.{index_exists_text}
use Rattle.command_answer.specs.declared.status.TheConstants.{DONE, KERNEL_REFUSED, KERNEL_STOPPED, INDEX_THERE, READ_FAULT, WRITE_FAULT, NO_MEMORY}
use Rattle.run_command.specs.declared.outcome.Outcome.{Outcome}
use Rattle.run_command.specs.declared.outcome.Outcome.TheVariants.{NoKernel, Refused, IndexThere, Stopped, Ran, ReadFault, WriteFault, NoMemory}
use Rattle.command_answer.specs.RunTexts.{stop_line, run_text}

-- after a read that failed
abbrev pub after_failed_read : Trouble → Outcome
after_failed_read trouble.Failed = ReadFault
after_failed_read trouble.Memory = NoMemory

-- after a write that failed
abbrev pub unwritten : Trouble → Outcome
unwritten trouble.Failed = WriteFault
unwritten trouble.Memory = NoMemory

-- where no kernel was read
abbrev pub unkernelled : KernelRefusal → Outcome
unkernelled kernel.NoKernel = NoKernel
unkernelled (kernel.Refused line why) = Refused line why
unkernelled (kernel.Trouble trouble) = after_failed_read trouble

-- the status with which it is answered
abbrev pub due_status : Outcome → ℕ
due_status NoKernel = KERNEL_REFUSED
due_status (Refused line why) = KERNEL_REFUSED
due_status IndexThere = INDEX_THERE
due_status (Stopped path line why) = KERNEL_STOPPED
due_status (Ran kernel tasks records words) = DONE
due_status ReadFault = READ_FAULT
due_status WriteFault = WRITE_FAULT
due_status NoMemory = NO_MEMORY

-- the text that is printed; none after a fault
abbrev pub due_text : Outcome → Option (List ℕ)
due_text NoKernel = Some no_kernel_text
due_text (Refused line why) = Some (refused_text line why)
due_text IndexThere = Some index_exists_text
due_text (Stopped path line why) = Some (stop_line path line (stop_name why))
due_text (Ran kernel tasks records words) = Some (run_text tasks records kernel.arrays words.items)
due_text ReadFault = None
due_text WriteFault = None
due_text NoMemory = None

-- the status and the text that are due
pub record IsDue (outcome : Outcome) (status : ℕ) (text : List ℕ) : Type 0 where
  pub status_is : status ≡ due_status outcome
  pub text_is : due_text outcome ≡ Some text
