-- What is due of what came out of a run.
use Rattle.std.proofs.Common.{◌≡◌, sym, ◌∙◌, ℕ, List, Some}
use Rattle.std.proofs.lemmas.Option.{none-some, same_Some}
use Rattle.sw_base.specs.Environment.{Content}
use Rattle.kernel_syntax.specs.Program.{program_of}
use Rattle.kernel_file.specs.Due.{no_kernel, of_kernel, refused_kernel}
use Rattle.run_command.specs.declared.outcome.Outcome.{Outcome}
use Rattle.run_command.specs.declared.outcome.Outcome.TheVariants.{NoKernel, Refused, IndexThere, Stopped, Ran, ReadFault, WriteFault, NoMemory}
use Rattle.run_command.specs.Outcomes.{IsDue}
use Rattle.run_command.specs.Run.{CameOut, RunDue, ended_so, index_there, stopped_so}

module _ (rose : Type 0) (kernel dir : List ℕ) (size : ℕ) (old new : Content) (status : ℕ) (text : List ℕ) where
  pub due_of : (outcome : Outcome) → CameOut rose kernel dir size old new outcome → IsDue outcome status text → RunDue rose kernel dir size old new status text
  due_of NoKernel came due = record { due = no_kernel came.0 due.status_is (sym (same_Some _ text due.text_is)); same = λ _. came.1 }
  due_of (Refused line why) came due = record { due = refused_kernel line why came.0 due.status_is (sym (same_Some _ text due.text_is)); same = λ _. came.1 }
  due_of IndexThere came due = record {
    due = of_kernel came.0.program came.0.holds (index_there came.0.there came.1 due.status_is (sym (same_Some _ text due.text_is)));
    same = λ _. came.1;
  }
  due_of (Stopped path line why) came due = record {
    due = of_kernel came.0 came.1.can.holds (stopped_so path line why came.1 due.status_is (sym (same_Some _ text due.text_is)));
    same = λ refused. let e = sym due.status_is ∙ refused in absurd (cc e);
  }
  due_of (Ran k tasks records words) came due = record {
    due = of_kernel (program_of k) came.can.holds (ended_so tasks records words.items came due.status_is (sym (same_Some _ text due.text_is)));
    same = λ refused. let e = sym due.status_is ∙ refused in absurd (cc e);
  }
  due_of ReadFault came due = absurd (none-some text due.text_is)
  due_of WriteFault came due = absurd (none-some text due.text_is)
  due_of NoMemory came due = absurd (none-some text due.text_is)
