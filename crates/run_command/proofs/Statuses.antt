-- What the status of a run tells of the files.
use Rattle.std.proofs.Common.{◌≡◌, ◌⊎◌, sym, ap, subst, ◌∙◌, inl, inr, ℕ, List, Option, None, Some, true≢false}
use Rattle.std.proofs.lemmas.Option.{none-some, same_Some}
use Rattle.std.specs.Prelude.{is_some}
use Rattle.sw_base.specs.Environment.{Content, Files}
use Rattle.sw_base.specs.Names.{index_name}
use Rattle.kernel_syntax.specs.Program.{Program}
use Rattle.kernel_reader.specs.KernelOf.{IsKernelOf}
use Rattle.kernel_file.specs.Due as file
use Rattle.kernel_file.specs.Due.{KernelDue}
use Rattle.kernel_file.specs.Holding.{HoldsKernel}
use Rattle.kernel_laws.proofs.OneAnswer.{kernel-or-refusal}
use Rattle.command_answer.specs.Answer.{IsFailure, Tries}
use Rattle.command_answer.specs.declared.status.TheConstants.{DONE, INDEX_THERE, KERNEL_REFUSED, KERNEL_STOPPED}
use Rattle.run_command.specs.declared.outcome.Outcome.{Outcome}
use Rattle.run_command.specs.Outcomes.{IsDue, due_status}
use Rattle.run_command.specs.Run.{HasIndex, HoldsNoKernel, MayStart, RunAnswer, RunDue, TellsFiles, ended_so, index_there, no_file, no_kernel, stopped_so}

module _ (files : Files) (kernel dir : List ℕ) where
  -- a file holds a kernel or none
  apart : (program : Program) → HoldsNoKernel files kernel → HoldsKernel files kernel program → ⊥
  apart program (no_file none) holds = none-some holds.text (sym none ∙ holds.held)
  apart program (no_kernel line why fault) holds =
      kernel-or-refusal fault.text program (record { line = line; why = why }) (subst (λ (text : List ℕ). IsKernelOf text program) (same_Some holds.text fault.text (sym holds.held ∙ fault.held)) holds.kernel) fault.fault_is

  -- a folder has an index or none
  begins_fresh : HasIndex files kernel dir → MayStart files kernel dir → ⊥
  begins_fresh has can = true≢false (sym has.there ∙ ap is_some can.1.fresh)

  refused_tells : (status : ℕ) → status ≡ KERNEL_REFUSED → HoldsNoKernel files kernel → TellsFiles files kernel dir status
  refused_tells status is none = record {
    refused = (λ _. none, λ _. is);
    indexed = (λ there. absurd (cc), λ has. absurd (apart has.program none has.holds));
    began = (λ ended. elim ended [ inl done ↦ absurd (cc) | inr stopped ↦ absurd (cc) ], λ can. absurd (apart can.0 none can.1.holds));
  }

  indexed_tells : (status : ℕ) → status ≡ INDEX_THERE → HasIndex files kernel dir → TellsFiles files kernel dir status
  indexed_tells status is has = record {
    refused = (λ refused. absurd (cc), λ none. absurd (apart has.program none has.holds));
    indexed = (λ _. has, λ _. is);
    began = (λ ended. elim ended [ inl done ↦ absurd (cc) | inr stopped ↦ absurd (cc) ], λ can. absurd (begins_fresh has can));
  }

  began_tells : (status : ℕ) → (status ≡ DONE) ⊎ (status ≡ KERNEL_STOPPED) → MayStart files kernel dir → TellsFiles files kernel dir status
  began_tells status is can = record {
    refused = (λ refused. elim is [ inl done ↦ absurd (cc) | inr stopped ↦ absurd (cc) ], λ none. absurd (apart can.0 none can.1.holds));
    indexed = (λ there. elim is [ inl done ↦ absurd (cc) | inr stopped ↦ absurd (cc) ], λ has. absurd (begins_fresh has can));
    began = (λ _. can, λ _. is);
  }

module _ (rose : Type 0) (kernel dir : List ℕ) (size : ℕ) (old new : Content) (status : ℕ) (text : List ℕ) where
  answer_tells : (program : Program) → HoldsKernel old.held kernel program → RunAnswer rose kernel dir size old new program status text → TellsFiles old.held kernel dir status
  answer_tells program holds (index_there there same is _) = indexed_tells old.held kernel dir status is (record { program = program; holds = holds; there = there })
  answer_tells program holds (stopped_so path line name run is _) = began_tells old.held kernel dir status (inr is) (program, run.can)
  answer_tells program holds (ended_so count records words run is _) = began_tells old.held kernel dir status (inl is) (program, run.can)

  kernel_tells : KernelDue (RunAnswer rose kernel dir size old new) old.held kernel status text → TellsFiles old.held kernel dir status
  kernel_tells (file.no_kernel none is _) = refused_tells old.held kernel dir status is (no_file none)
  kernel_tells (file.refused_kernel line why fault is _) = refused_tells old.held kernel dir status is (no_kernel line why fault)
  kernel_tells (file.of_kernel program holds answer) = answer_tells program holds answer

  -- the status that is due tells what the files hold
  pub due_tells : RunDue rose kernel dir size old new status text → TellsFiles old.held kernel dir status
  due_tells run = kernel_tells run.due

-- with status 0 the outcome is a run that ended
pub done_so : (outcome : Outcome) (old new : Option (List ℕ)) (status : ℕ) → Tries (IsDue outcome) old new status → status ≡ DONE → due_status outcome ≡ DONE
done_so outcome old new status tries is = by tries where
  fails : IsFailure status → due_status outcome ≡ DONE
  fails failure = absurd (no_failure (subst (λ (s : ℕ). IsFailure s) is failure)) where
    no_failure : IsFailure DONE → ⊥
    no_failure (inl e) = cc
    no_failure (inr (inl e)) = cc
    no_failure (inr (inr e)) = cc

  by : Tries (IsDue outcome) old new status → due_status outcome ≡ DONE
  by (Tries.done text due prints) = sym due.status_is ∙ is
  by (Tries.broken_off failure other text due prefix) = fails failure
  by (Tries.silent failure same) = fails failure
