-- A log that was read so far: what its next bytes say of it.
use Rattle.std.proofs.Common.{◌≡◌, ◌⊎◌, inl, inr, ℕ, ◌+◌, ◌<◌, ◌≤◌, List, [], ◌∷◌, ◌++◌, length, take, drop, Some, refl, sym, ap, subst, ◌∙◌, arith, All}
use Rattle.std.specs.Prelude.{slice_get}
use Rattle.std.proofs.lemmas.List.{length-append, take_at, take-append-drop, take-append-le, get_or_append_left, get_or_push}
use Rattle.std.proofs.lemmas.Bool.{cases_order}
use Rattle.std.proofs.lemmas.Option.{slice_get_within}
use Rattle.sw_base.proofs.Lists.{get_left, get_seam}
use Rattle.log_format.specs.declared.format.Format.{Format}
use Rattle.log_format.specs.Format.{log_header}
use Rattle.log_format.specs.declared.record.Record.{Record}
use Rattle.log_format.specs.declared.record.Why.{Why}
use Rattle.log_format.specs.Spelling.{spelling, log_bytes}
use Rattle.log_format.specs.Table.{IsTabled, Spells, IsFirstFault}
use Rattle.race_model.specs.declared.why.RecordWhy.{RecordWhy}
use Rattle.race_model.specs.declared.why.RecordWhy.TheVariants as log
use Rattle.race_model.specs.BadPlace.{record_rank, last_rank}
use Rattle.race_model.specs.Segment.{segment_count}
use Rattle.race_model.specs.LogFault.{LogTask, Breaks, IsRead, IsRecord, IsLogFault, max_segments}
use Rattle.log_walk.specs.declared.check.LogFault.{LogFault}
use Rattle.log_walk.specs.declared.check.LogFault.TheVariants as fault
use Rattle.log_walk.specs.declared.state.State.{State}
use Rattle.log_walk.specs.Check.{KeepsLogRules, NothingBefore, of_why, IsLogRefused, IsNextRefused}
use Rattle.log_walk.specs.LogSoFar.{Checks}
use Rattle.log_walk.specs.Rules.{BreaksNone}
use Rattle.log_walk.specs.State.{IsStateAfter}
use Rattle.log_walk.proofs.Next.{next_cut, next_untabled, before_next, before_cut, before_untabled, before_broken}
use Rattle.race_laws.proofs.LogFaults.{past_end}
use Rattle.log_walk.proofs.Opening.{segment_count-push}

-- these records were read of a log, and the rest is left
pub record SoFar (format : Format) (bytes : List ℕ) (task : LogTask) (opened : ℕ) (state : State) (records : List Record) (rest : List ℕ) (index : ℕ) : Type 0 where
  pub read : IsRead format bytes records rest
  pub keeps : KeepsLogRules task records
  pub follows : IsStateAfter state opened records
  pub count : length records ≡ index
  pub barriers : state.barriers ≤ index
  pub limit : state.segments ≤ max_segments

-- no log has fewer segments than were counted
few : {format : Format} (bytes : List ℕ) (task : LogTask) (opened : ℕ) (state : State) (records : List Record) (rest : List ℕ) (index : ℕ) → SoFar format bytes task opened state records rest index
    → opened + segment_count records ≤ max_segments
few bytes task opened state records rest index so = omega (arith, so.limit, so.follows.segments)

-- the rest begins with the next record
pub begins : {format : Format} (rest next : List ℕ) (r : Record) → next ≡ take 24 rest → Spells format next r → rest ≡ spelling r ++ drop 24 rest
begins rest next r next_is spells = sym (take-append-drop 24 rest) ∙ ap (λ (bs : List ℕ). bs ++ drop 24 rest) (sym next_is ∙ spells.spelled)

pub below_or_at : (j n : ℕ) → j < n + 1 → (j < n) ⊎ (j ≡ n)
below_or_at j n within = elim (cases_order j n) [
  | inl same ↦ inr same
  | inr either ↦ elim either [ inl less ↦ inl less | inr more ↦ absurd (omega arith) ]
]

all_push : (P : Record → Type 0) (xs : List Record) (x : Record) → All P xs → P x → All P (xs ++ x ∷ [])
all_push P xs x each last k d within = elim (below_or_at k (length xs) (omega (arith, length-append xs (x ∷ [])))) [
  | inl less ↦ subst P (sym (get_or_append_left xs (x ∷ []) d k less)) (each k d less)
  | inr same ↦ subst P (sym (get_or_push xs x d k (sym same))) last
]

some_same : {X : Type 0} (x y : X) → Some x ≡ Some y → x ≡ y
some_same x y same = cc

keeps_push : (task : LogTask) (records : List Record) (r : Record) → KeepsLogRules task records → BreaksNone task records r → KeepsLogRules task (records ++ r ∷ [])
keeps_push task records r keeps holds = record {
  each = λ k s found rule breaks.
      let within : k < length records + 1 = omega (arith, slice_get_within (records ++ r ∷ []) k s found, length-append records (r ∷ [])) in
      elim (below_or_at k (length records) within) [
        | inl less ↦
            keeps.each k s (sym (get_left records (r ∷ []) k less) ∙ found) rule
            (subst (λ (rs : List Record). Breaks task rs s rule) (take-append-le k records (r ∷ []) (omega arith)) breaks)
        | inr same ↦
            holds rule
            (subst (λ (t : Record). Breaks task records t rule) (some_same s r (sym found ∙ ap (λ (j : ℕ). slice_get (records ++ r ∷ []) j) same ∙ get_seam records r []))
            (subst (λ (rs : List Record). Breaks task rs s rule) (take_at records (r ∷ []) k (sym same)) breaks))
      ];
}

-- no record yet
pub checks_none : {format : Format} (task : LogTask) (opened : ℕ) (state : State) (records : List Record) → records ≡ [] → IsStateAfter state opened [] → opened ≤ max_segments → Checks format task opened state records 0
checks_none {format} task opened state records none follows limit =
    subst (λ (rs : List Record). Checks format task opened state rs 0) (sym none) (record {
      tabled = λ k d h. absurd (omega arith);
      keeps = record { each = λ k r found rule breaks. cc };
      follows = follows;
      count = refl;
      barriers = omega (arith, follows.barriers);
      limit = omega (arith, follows.segments, limit);
    })

-- one record more
pub checks_next : {format : Format} (task : LogTask) (opened : ℕ) (state now : State) (records pushed : List Record) (index : ℕ) (r : Record) → Checks format task opened state records index → IsTabled format r → BreaksNone task records r
    → IsStateAfter now opened (records ++ r ∷ []) → now.barriers ≤ index + 1 → now.segments ≤ max_segments → pushed ≡ records ++ r ∷ [] → Checks format task opened now pushed (index + 1)
checks_next {format} task opened state now records pushed index r checks tabled breaks follows barriers limit is =
    subst (λ (rs : List Record). Checks format task opened now rs (index + 1)) (sym is) (record {
      tabled = all_push (IsTabled format) records r checks.tabled tabled;
      keeps = keeps_push task records r checks.keeps breaks;
      follows = follows;
      count = omega (arith, length-append records (r ∷ []), checks.count);
      barriers = barriers;
      limit = limit;
    })

pub so_far : {format : Format} (file : List ℕ) (task : LogTask) (opened : ℕ) (state : State) (records : List Record) (rest : List ℕ) (index : ℕ) → Checks format task opened state records index
    → file ≡ log_bytes (log_header format) records ++ rest → SoFar format file task opened state records rest index
so_far file task opened state records rest index checks parts = record {
  read = record { parts = parts; tabled = checks.tabled };
  keeps = checks.keeps;
  follows = checks.follows;
  count = checks.count;
  barriers = checks.barriers;
  limit = checks.limit;
}

-- the next record is cut
pub cut_refused : {format : Format} (bytes : List ℕ) (task : LogTask) (opened : ℕ) (state : State) (records : List Record) (rest : List ℕ) (index : ℕ) → SoFar format bytes task opened state records rest index
    → length rest < 24 → index < task.records → IsLogRefused format bytes task opened (fault.Bad (index + 1) log.Cut)
cut_refused {format} bytes task opened state records rest index so short within = (
  next_cut bytes task.records (index + 1) records rest so.read (omega (arith, so.count)) (omega arith) short,
  before_next bytes task opened (index + 1) 1 records rest so.read so.keeps (few bytes task opened state records rest index so) (omega (arith, so.count)) (omega (arith, so.count))
      (λ rule low told. before_cut format bytes task (index + 1) rule (omega arith) low told),
)

untabled_refused : {format : Format} (bytes : List ℕ) (task : LogTask) (opened : ℕ) (state : State) (records : List Record) (rest : List ℕ) (index : ℕ) (w : Why) → SoFar format bytes task opened state records rest index
    → 24 ≤ length rest → IsFirstFault format (take 24 rest) w → index < task.records → IsLogRefused format bytes task opened (fault.Bad (index + 1) (of_why w))
untabled_refused bytes task opened state records rest index w so whole first within = (
  next_untabled bytes task (index + 1) records rest w so.read (omega (arith, so.count)) (omega arith) whole first,
  before_next bytes task opened (index + 1) (record_rank (of_why w)) records rest so.read so.keeps (few bytes task opened state records rest index so) (omega (arith, so.count)) (omega (arith, so.count))
      (before_untabled bytes task (index + 1) records rest w so.read (omega (arith, so.count)) whole first),
)

-- the next record is one of the table
at_next : {format : Format} (bytes : List ℕ) (task : LogTask) (opened : ℕ) (state : State) (records : List Record) (rest : List ℕ) (index : ℕ) (next : List ℕ) (r : Record) → SoFar format bytes task opened state records rest index
    → next ≡ take 24 rest → Spells format next r → index < task.records → IsRecord format bytes task.records (index + 1) records r
at_next {format} bytes task opened state records rest index next r so next_is spells within = record {
  rest = drop 24 rest;
  at = record { read = subst (λ (bs : List ℕ). IsRead format bytes records bs) (begins rest next r next_is spells) so.read; number = omega (arith, so.count); counted = omega arith };
  tabled = spells.tabled;
}

nothing_before : {format : Format} (bytes : List ℕ) (task : LogTask) (opened : ℕ) (state : State) (records : List Record) (rest : List ℕ) (index : ℕ) (next : List ℕ) (r : Record) (rank : ℕ) → SoFar format bytes task opened state records rest index
    → next ≡ take 24 rest → Spells format next r → index < task.records → ((rule : RecordWhy) → record_rank rule < rank → Breaks task records r rule → ⊥) → NothingBefore format bytes task opened (index + 1) rank
unfolding at_next
nothing_before bytes task opened state records rest index next r rank so next_is spells within holds =
    let at = at_next bytes task opened state records rest index next r so next_is spells within in
    before_next bytes task opened (index + 1) rank records rest so.read so.keeps (few bytes task opened state records rest index so) (omega (arith, so.count)) (omega (arith, so.count))
    (before_broken bytes task (index + 1) rank records r (drop 24 rest) at.at.read spells.tabled (omega (arith, so.count)) (omega arith) holds)

-- a rule that a record can break is told of a record
broken_at : {format : Format} (bytes : List ℕ) (task : LogTask) (n : ℕ) (before : List Record) (r : Record) (rule : RecordWhy) → IsRecord format bytes task.records n before r → Breaks task before r rule → IsLogFault format bytes task n rule
broken_at bytes task n before r log.Header at breaks = absurd breaks
broken_at bytes task n before r log.Cut at breaks = absurd breaks
broken_at bytes task n before r log.Kind at breaks = absurd breaks
broken_at bytes task n before r log.Size at breaks = absurd breaks
broken_at bytes task n before r log.LineZero at breaks = absurd breaks
broken_at bytes task n before r log.Address at breaks = absurd breaks
broken_at bytes task n before r log.Span at breaks = absurd breaks
broken_at bytes task n before r log.Reserved at breaks = absurd breaks
broken_at bytes task n before r log.Extra at breaks = absurd breaks
broken_at bytes task n before r rule at breaks = record { before = before; r = r; at = at; breaks = breaks }

-- the next record is refused
pub next_refused : {format : Format} (bytes : List ℕ) (task : LogTask) (opened : ℕ) (state : State) (records : List Record) (rest : List ℕ) (index : ℕ) (next : List ℕ) (refusal : LogFault) → SoFar format bytes task opened state records rest index
    → 24 ≤ length rest → next ≡ take 24 rest → index < task.records → IsNextRefused format next task opened records (index + 1) refusal → IsLogRefused format bytes task opened refusal
next_refused {format} bytes task opened state records rest index next (fault.Bad n rule) so whole next_is within (number, inl no_record) =
    subst (λ (m : ℕ). IsLogRefused format bytes task opened (fault.Bad m rule)) (sym number)
    (subst (λ (w : RecordWhy). IsLogRefused format bytes task opened (fault.Bad (index + 1) w)) (sym no_record.rule_is)
    (untabled_refused bytes task opened state records rest index no_record.fault so whole (subst (λ (bs : List ℕ). IsFirstFault format bs no_record.fault) next_is no_record.first) within))
next_refused {format} bytes task opened state records rest index next (fault.Bad n rule) so whole next_is within (number, inr bad) =
    subst (λ (m : ℕ). IsLogRefused format bytes task opened (fault.Bad m rule)) (sym number) (
      broken_at bytes task (index + 1) records bad.r rule (at_next bytes task opened state records rest index next bad.r so next_is bad.spells within) bad.breaks.breaks,
      nothing_before bytes task opened state records rest index next bad.r (record_rank rule) so next_is bad.spells within bad.breaks.least,
    )
next_refused {format} bytes task opened state records rest index next (fault.TooMany n) so whole next_is within (number, over) =
    subst (λ (m : ℕ). IsLogRefused format bytes task opened (fault.TooMany m)) (sym number) (
      record {
        before = records;
        r = over.r;
        at = at_next bytes task opened state records rest index next over.r so next_is over.spells within;
        full = over.full;
        opens = segment_count-push records over.r ∙ ap (λ (k : ℕ). segment_count records + k) over.opens;
      },
      nothing_before bytes task opened state records rest index next over.r last_rank so next_is over.spells within (λ rule low. over.breaks rule),
    )
next_refused bytes task opened state records rest index next fault.ReadFault so whole next_is within refused = absurd refused
next_refused bytes task opened state records rest index next fault.Memory so whole next_is within refused = absurd refused

-- a byte follows the last record
pub extra_refused : {format : Format} (bytes : List ℕ) (task : LogTask) (opened : ℕ) (state : State) (records : List Record) (rest : List ℕ) (index : ℕ) → SoFar format bytes task opened state records rest index
    → index ≡ task.records → 0 < length rest → IsLogRefused format bytes task opened (fault.Bad (task.records + 1) log.Extra)
extra_refused {format} bytes task opened state records rest index so all more = (
  record { records = records; rest = rest; read = so.read; all = so.count ∙ all; number = refl; more = more },
  before_next bytes task opened (task.records + 1) 19 records rest so.read so.keeps (few bytes task opened state records rest index so) (omega (arith, so.count)) (omega (arith, so.count))
      (λ rule low told. past_end format bytes task (task.records + 1) rule (omega arith) low told),
)
