-- A log that begins a task's trace and ends with End is the whole trace.
use Rattle.std.proofs.Common.{◌≡◌, refl, ap, sym, ◌∙◌, subst, ℕ, zero, suc, min, arith, List, [], ◌∷◌, ◌++◌, append_assoc, length, length-append, ℤ, Option, None, All}
use Rattle.std.specs.List.{cons_option}
use Rattle.std.proofs.lemmas.List.{append-nil, map-append}
use Rattle.std.proofs.lemmas.List.Elements.{All-nil, All-cons, All-append, All-head, All-tail}
use Rattle.log_format.specs.declared.record.Record.{Record}
use Rattle.log_format.specs.declared.record.Kind.{Kind}
use Rattle.log_format.specs.declared.record.Kind.TheVariants as kind
use Rattle.log_format.specs.Fitting.{fitted}
use Rattle.kernel_syntax.specs.Program.{Program}
use Rattle.kernel_model.specs.State.{State, Fork, Outcome, Gives, Stops, Wants, after, put, put_in, event, assign, state_of, reads_of, chunks_of}
use Rattle.kernel_model.specs.Value.{access}
use Rattle.kernel_model.specs.Trace.{run, task, Start, Ended, ending_of, site_of, state_at}
use Rattle.kernel_model.specs.Folder.{own_trace, IsTraced}
use Rattle.kernel_model.proofs.SingleSteps.{IsMark, KeepsBarriers, KeepsSteps}
use Rattle.kernel_model.proofs.Steps.{kept-run}
use Rattle.kernel_rules.proofs.Adds.{AddsSo, StaysSo, adds_nothing, adds_record, adds_chain}
use Rattle.kernel_rules.proofs.LawfulRecords.{span_told, spans_of, spans_append, spans_forked}

abbrev NotEnd : Record → Type 0
NotEnd r = r.kind ≡ kind.End → ⊥

-- what statements add: no End, and for each Region record its fork
abbrev GoOn : List Record → List Fork → Type 0
GoOn records forks = All NotEnd records × (spans_of records ≡ spans_forked forks)

stays : StaysSo GoOn
stays = record {
  nothing = (All-nil NotEnd, refl);
  both = λ rs more fs others is also. (
    All-append NotEnd rs more is.0 also.0,
    spans_append rs more
        ∙ ap (λ l. l ++ spans_of more) is.1
        ∙ ap (λ l. spans_forked fs ++ l) also.1
        ∙ sym (map-append (λ (f : Fork). f.team.span) fs others),
  );
}

abbrev Adds : State → State → Type 0
Adds = AddsSo GoOn

-- a record that is neither End nor Region
abbrev IsPlain : Kind → Type 0
IsPlain kind.End = ⊥
IsPlain kind.Region = ⊥
IsPlain _ = Unit {0}

plain_goes_on : (k : Kind) → IsPlain k → k ≡ kind.End → ⊥
plain_goes_on k plain is = subst IsPlain is plain

plain_span : (k : Kind) (value : ℕ) → IsPlain k → span_told k value ≡ None
plain_span kind.Read value plain = refl
plain_span kind.Write value plain = refl
plain_span kind.Lock value plain = refl
plain_span kind.Unlock value plain = refl
plain_span kind.Barrier value plain = refl
plain_span kind.Chunk value plain = refl
plain_span kind.Update value plain = refl
plain_span kind.End value plain = absurd plain
plain_span kind.Region value plain = absurd plain

adds_plain : (r : Record) (s t : State) → IsPlain r.kind → t.records ≡ s.records ++ r ∷ [] → t.forks ≡ s.forks → Adds s t
adds_plain r s t plain = adds_record r s t (All-cons NotEnd r [] (plain_goes_on r.kind plain) (All-nil NotEnd), ap (λ (o : Option ℕ). cons_option o []) (plain_span r.kind r.value plain))

mark_plain : (k : Kind) → IsMark k → IsPlain k
mark_plain kind.Lock is = tt
mark_plain kind.Unlock is = tt
mark_plain _ is = absurd is

adds_steps : KeepsSteps Adds
adds_steps = record {
  plain = record {
    same = λ s. adds_nothing stays s s refl refl;
    chain = adds_chain stays;
    assigns = λ slot v s. adds_nothing stays s (assign slot v s) refl refl;
    writes = λ r room s is write. adds_plain r s _ (subst IsPlain (sym write) tt) refl refl;
    reads = λ e site line room v reads s is prefix. adds_plain (access kind.Read e site line (fitted v e.width)) s _ tt refl refl;
    draws = λ line n room q chunks s is prefix. adds_plain (event kind.Chunk line (min q n) n) s _ tt refl refl;
  };
  updates = record { updates = λ r room s is update. adds_plain r s _ (subst IsPlain (sym update) tt) refl refl };
  marks = λ r room s is mark. adds_plain r s _ (mark_plain r.kind mark) refl refl;
  forks = λ team room s is. record {
    added = event kind.Region team.line 0 team.span ∷ [];
    records_are = refl;
    regions = record { team = team; slots = s.slots } ∷ [];
    forks_are = refl;
    is = (All-cons NotEnd (event kind.Region team.line 0 team.span) [] (λ same. cc) (All-nil NotEnd), refl);
  };
}

adds_barriers : KeepsBarriers Adds
adds_barriers = record { bars = λ line room s is. adds_plain (event kind.Barrier line 0 0) s _ tt refl refl }

-- ---- a whole task

-- a log with an End in its last place
pub record EndsLast (records : List Record) : Type 0 where
  pub prefix : List Record
  pub last : Record
  pub parts : records ≡ prefix ++ last ∷ []
  pub ends : last.kind ≡ kind.End

no_end_within : (prefix rest : List Record) (last : Record) → All NotEnd (prefix ++ last ∷ rest) → last.kind ≡ kind.End → ⊥
no_end_within [] rest last all ends = All-head NotEnd last rest all ends
no_end_within (p ∷ prefix) rest last all ends = no_end_within prefix rest last (All-tail NotEnd p (prefix ++ last ∷ rest) all) ends

-- where the End is behind records that are none, nothing follows it
nothing_after : (body prefix rest : List Record) (e last : Record) → body ++ e ∷ [] ≡ prefix ++ last ∷ rest → All NotEnd body → last.kind ≡ kind.End → rest ≡ []
nothing_after [] [] rest e last same all ends = sym (ap tail same)
  where
    tail : List Record → List Record
    tail [] = []
    tail (x ∷ xs) = xs
nothing_after [] (p ∷ prefix) rest e last same all ends =
    let size : length (e ∷ []) ≡ length (p ∷ prefix ++ last ∷ rest) = ap length same in
    absurd (omega (arith, length-append prefix (last ∷ rest)))
nothing_after (b ∷ body) [] rest e last same all ends = absurd (All-head NotEnd b body all (ap kind_of same ∙ ends))
  where
    kind_of : List Record → Kind
    kind_of [] = kind.Read
    kind_of (x ∷ xs) = x.kind
nothing_after (b ∷ body) (p ∷ prefix) rest e last same all ends = nothing_after body prefix rest e last (ap tail same) (All-tail NotEnd b body all) ends
  where
    tail : List Record → List Record
    tail [] = []
    tail (x ∷ xs) = xs

module _ (program : Program) (start : Start) (reads : List ℤ) (chunks : List ℕ) where
  abbrev first : State
  first = state_at start reads chunks

  body_adds : Adds first (state_of (run (site_of program start) start.team.body first))
  body_adds = kept-run Adds adds_steps (site_of program start) start.team.body first (λ work. adds_barriers)

  -- the outcome's records are those of a log and more, where the log ends with End
  record EndsSo (m : Outcome (Unit {0})) (records : List Record) : Type 0 where
    rest : (state_of m).records ≡ records
    ended : ending_of m ≡ Ended
    spans : spans_of records ≡ spans_forked (state_of m).forks

  stopped : (t : State) (records rest : List Record) → Adds first t → t.records ≡ records ++ rest → EndsLast records → ⊥
  stopped t records rest adds begins ends =
      no_end_within ends.prefix rest ends.last
      (subst (All NotEnd) (sym adds.records_are ∙ begins ∙ ap (λ l. l ++ rest) ends.parts ∙ append_assoc ends.prefix (ends.last ∷ []) rest) adds.is.0) ends.ends

  by_put : (t : State) (room : ℕ) (records rest : List Record) → Adds first t →
      (state_of (put_in room (event kind.End start.team.end 0 0) t)).records ≡ records ++ rest → EndsLast records → EndsSo (put_in room (event kind.End start.team.end 0 0) t) records
  by_put t zero records rest adds begins ends = absurd (stopped t records rest adds begins ends)
  by_put t (suc room) records rest adds begins ends =
      let e = event kind.End start.team.end 0 0 in
      let same : adds.added ++ e ∷ [] ≡ ends.prefix ++ ends.last ∷ rest =
      ap (λ l. l ++ e ∷ []) (sym adds.records_are) ∙ begins ∙ ap (λ l. l ++ rest) ends.parts ∙ append_assoc ends.prefix (ends.last ∷ []) rest in
      let none = nothing_after adds.added ends.prefix rest e ends.last same adds.is.0 ends.ends in
      let all = begins ∙ ap (λ l. records ++ l) none ∙ append-nil records in
      record {
        rest = all;
        ended = refl;
        spans =
            ap spans_of (sym all) ∙ spans_append t.records (e ∷ []) ∙ append-nil (spans_of t.records)
            ∙ ap spans_of adds.records_are ∙ adds.is.1 ∙ ap spans_forked (sym adds.forks_are);
      }

  by_body : (m : Outcome (Unit {0})) (records rest : List Record) → Adds first (state_of m) →
      (state_of (after m (put (event kind.End start.team.end 0 0)))).records ≡ records ++ rest → EndsLast records → EndsSo (after m (put (event kind.End start.team.end 0 0))) records
  unfolding put
  by_body (Gives a t) records rest adds begins ends = by_put t t.room records rest adds begins ends
  by_body (Stops why line t) records rest adds begins ends = absurd (stopped t records rest adds begins ends)
  by_body (Wants t) records rest adds begins ends = absurd (stopped t records rest adds begins ends)

  ends_so : (records rest : List Record) → (state_of (task program start reads chunks)).records ≡ records ++ rest → EndsLast records → EndsSo (task program start reads chunks) records
  unfolding task
  ends_so records rest begins ends = by_body (run (site_of program start) start.team.body first) records rest body_adds begins ends

-- a log that begins the trace and ends with End is all of it, and each of its Region records has its fork
pub record IsWholeTrace (program : Program) (start : Start) (records : List Record) : Type 0 where
  pub traced : IsTraced program start records
  pub spans : spans_of records ≡ spans_forked (own_trace program start records).forks

pub whole_trace : (program : Program) (start : Start) (records rest : List Record) → (own_trace program start records).records ≡ records ++ rest → EndsLast records →
    IsWholeTrace program start records
whole_trace program start records rest begins ends =
    let so = ends_so program start (reads_of records) (chunks_of records) records rest begins ends in
    record { traced = record { records_are = so.rest; ended = so.ended }; spans = so.spans }
