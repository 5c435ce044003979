-- What a task of a fixed kernel does next is one.
use Rattle.std.proofs.Common.{◌≡◌, ap, sym, ◌∙◌, subst, ◌⊎◌, inl, inr, ℕ, List, [], ◌∷◌, ◌++◌, append_assoc}
use Rattle.std.proofs.lemmas.List.{append-nil}
use Rattle.log_format.specs.declared.record.Record.{Record}
use Rattle.log_format.specs.declared.record.Kind.{Kind}
use Rattle.log_format.specs.declared.record.Kind.TheVariants as kind
use Rattle.log_format.specs.Fitting.{IsWidth}
use Rattle.kernel_syntax.specs.Bounds.{IsBounded}
use Rattle.kernel_syntax.specs.Program.{Program}
use Rattle.kernel_model.specs.State.{reads_of, chunks_of}
use Rattle.kernel_model.specs.declared.stop.StopWhy.{StopWhy}
use Rattle.kernel_model.specs.Trace.{Start, Stopped, Wanting}
use Rattle.kernel_model.specs.Folder.{own_trace, IsTracedTo}
use Rattle.execution_model.specs.Execution.{BeginsTrace}
use Rattle.certainty_model.specs.Certain.{IsFixed}
use Rattle.serial_steps.specs.Lanes.{FindsMemory}
use Rattle.serial_steps.proofs.GoAlike.{ReadApart, GoAlike, AreSized, alike_past, traces_go_alike}
use Rattle.serial_steps.proofs.Sized.{trace_sized}

sized_parts : (rs qs : List Record) → AreSized (rs ++ qs) → AreSized rs × AreSized qs
sized_parts [] qs sized = (tt, sized)
sized_parts (r ∷ rs) qs sized = let rest = sized_parts rs qs sized.1 in ((sized.0, rest.0), rest.1)

-- both read what stands at the address
never_apart : (memory : ℕ → ℕ) (r s : Record) → FindsMemory r.kind r memory → FindsMemory s.kind s memory → (r.kind ≡ kind.Read → IsWidth r.size) → ReadApart r s → ⊥
never_apart memory r s r_finds s_finds size d =
    let mine : r.value ≡ memory r.addr = subst (λ (k : Kind). FindsMemory k r memory) d.left r_finds in
    let yours : s.value ≡ memory s.addr = subst (λ (k : Kind). FindsMemory k s memory) d.right s_finds in
    d.apart (size d.left) (yours ∙ (ap memory d.address ∙ sym mine))

module _ (program : Program) (start : Start) (log : List Record) (bounded : IsBounded program) (fixed : IsFixed start.team.body) where
  -- two traces that begin with the log, after it
  record After (one other rs qs : List Record) : Type 0 where
    sized : AreSized rs
    alike : GoAlike (own_trace program start one).end (own_trace program start other).end rs qs

  after_log : (one other rs qs : List Record) → (own_trace program start one).records ≡ log ++ rs → (own_trace program start other).records ≡ log ++ qs → After one other rs qs
  after_log one other rs qs mine yours =
      let sized = sized_parts log rs (subst AreSized mine (trace_sized program start (reads_of one) (chunks_of one) bounded fixed)) in
      let a = (own_trace program start one).end in
      let b = (own_trace program start other).end in
      record {
        sized = sized.1;
        alike =
            alike_past a b log rs qs sized.0
            (subst (λ (l : List Record). GoAlike a b l (log ++ qs)) mine
            (subst (λ (l : List Record). GoAlike a b (own_trace program start one).records l) yours
            (traces_go_alike program start (reads_of one) (reads_of other) (chunks_of one) (chunks_of other) fixed)));
      }

  begun : (r : Record) (one : BeginsTrace program start (log ++ r ∷ [])) → (own_trace program start (log ++ r ∷ [])).records ≡ log ++ r ∷ one.rest
  begun r one = one.begins ∙ append_assoc log (r ∷ []) one.rest

  -- it puts one record next
  pub one_record : (memory : ℕ → ℕ) (r s : Record) → BeginsTrace program start (log ++ r ∷ []) → BeginsTrace program start (log ++ s ∷ [])
      → FindsMemory r.kind r memory → FindsMemory s.kind s memory → s ≡ r
  one_record memory r s one other r_finds s_finds = by both.alike
    where
      both : After (log ++ r ∷ []) (log ++ s ∷ []) (r ∷ one.rest) (s ∷ other.rest)
      both = after_log (log ++ r ∷ []) (log ++ s ∷ []) (r ∷ one.rest) (s ∷ other.rest) (begun r one) (begun s other)

      by : ((s ≡ r) × GoAlike (own_trace program start (log ++ r ∷ [])).end (own_trace program start (log ++ s ∷ [])).end one.rest other.rest) ⊎ ReadApart r s → s ≡ r
      by (inl same) = same.0
      by (inr d) = absurd (never_apart memory r s r_finds s_finds both.sized.0 d)

  -- or none, where it stopped
  pub none_past_stop : (why : StopWhy) (line : ℕ) (r : Record) → IsTracedTo program start log (Stopped why line) → BeginsTrace program start (log ++ r ∷ []) → ⊥
  none_past_stop why line r stopped one =
      let both = after_log log (log ++ r ∷ []) [] (r ∷ one.rest) (stopped.records_are ∙ sym (append-nil log)) (begun r one) in
      let clash : Stopped why line ≡ Wanting = sym stopped.ended ∙ both.alike in
      cc
