-- The logs of one start in a run that ended and in one that may have stopped: they agree until they read different values of one element.
use Rattle.std.proofs.Common.{◌≡◌, refl, ap, sym, ◌∙◌, subst, ◌⊎◌, inl, inr, ℕ, ◌<◌, ◌≤◌, List, ◌++◌, length, take, ℤ, w64, Option, Some, arith, length-append}
use Rattle.std.specs.Prelude.{slice_get}
use Rattle.std.proofs.lemmas.List.{take-append-le}
use Rattle.std.proofs.lemmas.List.Sums.{sum_by-take-le}
use Rattle.std.specs.Prelude.{cond}
use Rattle.std.proofs.lemmas.Int.{to_z-of_z}
use Rattle.sw_base.proofs.Lists.{get_left, get_seam}
use Rattle.kernel_syntax.specs.Program.{Program}
use Rattle.kernel_syntax.proofs.Fitting.{fitted_fits}
use Rattle.log_format.specs.declared.record.Record.{Record}
use Rattle.log_format.specs.declared.record.Kind.TheVariants as kind
use Rattle.log_format.specs.Fitting.{IsWidth, fitted}
use Rattle.race_model.specs.Trace.{region_count, is_region_kind}
use Rattle.kernel_model.specs.State.{Fork, to_bits, from_bits, reads_of, chunks_of}
use Rattle.kernel_model.specs.Value.{access}
use Rattle.kernel_model.specs.Trace.{Start, TaskTrace, Ended, Wanting}
use Rattle.kernel_model.specs.Folder.{own_trace, IsTraced}
use Rattle.execution_model.specs.Execution.{BeginsTrace}
use Rattle.certainty_model.specs.Certain.{IsFixed}
use Rattle.certainty_model.proofs.TwoTraces.{Differ, TwoTraces, two_traces}

-- two reads of one address that found different values
pub record PartAt (a b : Option Record) : Type 0 where
  pub left : Record
  pub right : Record
  pub left_is : a ≡ Some left
  pub right_is : b ≡ Some right
  pub left_read : left.kind ≡ kind.Read
  pub right_read : right.kind ≡ kind.Read
  pub address : right.addr ≡ left.addr
  pub apart : left.value ≡ right.value → ⊥

-- each Read has the bytes of an element
abbrev pub AreSized : List Record → Type 0
AreSized records = (i : ℕ) (r : Record) → slice_get records i ≡ Some r → r.kind ≡ kind.Read → IsWidth r.size

-- The first so many records are the same in both, as are the regions forked there; where the other log goes on, both part.
pub record TwoLogs (mine other : List Record) (forks : List Fork) (t : TaskTrace) : Type 0 where
  pub common : ℕ
  pub alike : (i : ℕ) → i ≤ common → i ≤ length other → take i other ≡ take i mine
  pub parts : common < length other → PartAt (slice_get mine common) (slice_get other common)
  pub forks_alike : (i k : ℕ) → i ≤ common → i ≤ length other → k < region_count (take i other) → slice_get t.forks k ≡ slice_get forks k
  pub ending : length other ≤ common → t.records ≡ other → (t.end ≡ Ended) ⊎ (t.end ≡ Wanting)

-- different values of an element have different bits
bits_apart : (v w : ℤ) (width : ℕ) → IsWidth width → (fitted v width ≡ fitted w width → ⊥) → to_bits (fitted v width) ≡ to_bits (fitted w width) → ⊥
bits_apart v w width is apart same =
    apart (sym (to_z-of_z w64 (fitted v width) (fitted_fits v width is)) ∙ (ap from_bits same ∙ to_z-of_z w64 (fitted w width) (fitted_fits w width is)))

counted_first : (records : List Record) (i : ℕ) → region_count (take i records) ≤ region_count records
counted_first records i = sum_by-take-le (λ (r : Record). cond (is_region_kind r.kind) 1 0) records i

module _ (mine other rest : List Record) (s t : TaskTrace) (sized : AreSized mine) (mine_is : s.records ≡ mine) (ended : s.end ≡ Ended) (begins : t.records ≡ other ++ rest) (two : TwoTraces s t) where
  alike : (i : ℕ) → i ≤ length two.common → i ≤ length other → take i other ≡ take i mine
  alike i in_common in_other =
      sym (take-append-le i other rest in_other)
      ∙ ap (λ l. take i l) (sym begins ∙ two.t_records)
      ∙ take-append-le i two.common two.t_rest in_common
      ∙ sym (take-append-le i two.common two.s_rest in_common)
      ∙ ap (λ l. take i l) (sym two.s_records ∙ mine_is)

  parts : length two.common < length other → PartAt (slice_get mine (length two.common)) (slice_get other (length two.common))
  parts longer = by two.how
    where
      by : Differ s t two.s_rest two.t_rest → PartAt (slice_get mine (length two.common)) (slice_get other (length two.common))
      by (Differ.stays none end) =
          absurd (omega (arith, ap length none, sym (length-append other rest) ∙ (ap length (sym begins ∙ two.t_records) ∙ length-append two.common two.t_rest)))
      by (Differ.parts e site line v w s_later t_later apart s_is t_is) = record {
        left = access kind.Read e site line (fitted v e.width);
        right = access kind.Read e site line (fitted w e.width);
        left_is = left_is;
        right_is =
            sym (get_left other rest (length two.common) longer) ∙ (ap (λ l. slice_get l (length two.common)) (sym begins ∙ (two.t_records ∙ ap (λ l. two.common ++ l) t_is))
            ∙ get_seam two.common (access kind.Read e site line (fitted w e.width)) t_later);
        left_read = refl;
        right_read = refl;
        address = refl;
        apart = bits_apart v w e.width (sized (length two.common) (access kind.Read e site line (fitted v e.width)) left_is refl) apart;
      }
        where
          left_is : slice_get mine (length two.common) ≡ Some (access kind.Read e site line (fitted v e.width))
          left_is =
              ap (λ l. slice_get l (length two.common)) (sym mine_is ∙ (two.s_records ∙ ap (λ l. two.common ++ l) s_is))
              ∙ get_seam two.common (access kind.Read e site line (fitted v e.width)) s_later

  forks_alike : (i k : ℕ) → i ≤ length two.common → i ≤ length other → k < region_count (take i other) → slice_get t.forks k ≡ slice_get s.forks k
  forks_alike i k in_common in_other counted =
      let same : take i other ≡ take i two.common =
      sym (take-append-le i other rest in_other) ∙ (ap (λ l. take i l) (sym begins ∙ two.t_records) ∙ take-append-le i two.common two.t_rest in_common) in
      let fewer : region_count (take i other) ≤ region_count two.common = subst (λ l. region_count l ≤ region_count two.common) (sym same) (counted_first two.common i) in
      let forks = two.counts in
      let within : k < length two.forks = omega arith in
      ap (λ l. slice_get l k) two.t_forks ∙ get_left two.forks two.t_more k within ∙ sym (ap (λ l. slice_get l k) two.s_forks ∙ get_left two.forks two.s_more k within)

  -- a trace that is all of the other log doesn't stop
  ending : length other ≤ length two.common → t.records ≡ other → (t.end ≡ Ended) ⊎ (t.end ≡ Wanting)
  ending within whole = by two.how
    where
      by : Differ s t two.s_rest two.t_rest → (t.end ≡ Ended) ⊎ (t.end ≡ Wanting)
      by (Differ.stays none (inl same)) = inl (same ∙ ended)
      by (Differ.stays none (inr wants)) = inr wants
      by (Differ.parts e site line v w s_later t_later apart s_is t_is) =
          absurd (omega (arith, ap length t_is, ap length (sym whole ∙ two.t_records) ∙ length-append two.common two.t_rest))

  logs_of_two : TwoLogs mine other s.forks t
  logs_of_two = record { common = length two.common; alike = alike; parts = parts; forks_alike = forks_alike; ending = ending }

-- the logs of one start
pub two_logs : (program : Program) (start : Start) (mine other : List Record) → IsFixed start.team.body → AreSized mine → IsTraced program start mine → BeginsTrace program start other
    → TwoLogs mine other (own_trace program start mine).forks (own_trace program start other)
two_logs program start mine other fixed sized traced begun =
    logs_of_two mine other begun.rest (own_trace program start mine) (own_trace program start other) sized traced.records_are traced.ended begun.begins
    (two_traces program start (reads_of mine) (reads_of other) (chunks_of mine) (chunks_of other) fixed traced.ended)
