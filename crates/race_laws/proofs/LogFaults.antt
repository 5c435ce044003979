-- No fault of a log lies among records that were read and keep the rules; and which faults there are at the next record.
use Rattle.std.proofs.Common.{◌≡◌, inl, inr, ℕ, zero, suc, ◌<◌, ◌≤◌, List, [], ◌∷◌, ◌++◌, length, take, drop, Option, Some, refl, sym, ap, subst, ◌∙◌, arith, append_assoc}
use Rattle.std.specs.Prelude.{slice_get}
use Rattle.std.specs.List.{flat_map}
use Rattle.std.proofs.lemmas.List.{take_at, length-append}
use Rattle.std.proofs.lemmas.Bool.{cases_order}
use Rattle.std.proofs.lemmas.Option.{get_or_from_slice_get}
use Rattle.log_format.specs.declared.format.Format.{Format}
use Rattle.log_format.specs.Format.{log_header}
use Rattle.log_format.specs.declared.record.Record.{Record}
use Rattle.log_format.specs.declared.record.Why.{Why}
use Rattle.log_format.specs.Spelling.{spelling}
use Rattle.log_format.specs.Table.{IsTabled, Spells, IsFirstFault}
use Rattle.log_format.proofs.Records.{length-spelling, spelled_no_fault}
use Rattle.race_model.specs.declared.why.RecordWhy.{RecordWhy}
use Rattle.race_model.specs.declared.why.RecordWhy.TheVariants as log
use Rattle.race_model.specs.BadPlace.{record_rank}
use Rattle.race_model.specs.LogFault.{LogTask, Breaks, IsRead, IsCutRecord, IsUntabled, IsRecord, IsBroken, IsExtra, IsLogFault}
use Rattle.race_laws.proofs.LogReading.{same_first, read_prefix, is_next}

-- the element at a place, and what comes from there on
pub record Found {X : Type 0} (xs : List X) (k : ℕ) : Type 0 where
  pub item : X
  pub found : slice_get xs k ≡ Some item
  pub rest : drop k xs ≡ item ∷ drop (suc k) xs

pub find : {X : Type 0} (xs : List X) (k : ℕ) → k < length xs → Found xs k
find [] k within = absurd (omega arith)
find (x ∷ xs) zero within = record { item = x; found = refl; rest = refl }
find (x ∷ xs) (suc k) within = let at = find xs k (omega arith) in record { item = at.item; found = at.found; rest = at.rest }

-- one of the records that were read stands at a place
pub record Stands (format : Format) (records before : List Record) (more : List ℕ) : Type 0 where
  pub r : Record
  pub found : slice_get records (length before) ≡ Some r
  pub prefix : before ≡ take (length before) records
  pub tabled : IsTabled format r
  pub after : List ℕ
  pub begins : more ≡ spelling r ++ after

pub stands : {format : Format} (bytes : List ℕ) (records before : List Record) (rest more : List ℕ) → IsRead format bytes records rest → IsRead format bytes before more
    → length before < length records → Stands format records before more
stands {format} bytes records before rest more one other within =
    let prefix = read_prefix bytes records before rest more one other (omega arith) in
    let at = find records (length before) within in
    record {
      r = at.item;
      found = at.found;
      prefix = prefix.prefix;
      tabled = subst (λ (x : Record). IsTabled format x) (get_or_from_slice_get records (length before) at.item at.item at.found) (one.tabled (length before) at.item within);
      after = flat_map spelling (drop (suc (length before)) records) ++ rest;
      begins = prefix.left ∙ ap (λ (xs : List Record). flat_map spelling xs ++ rest) at.rest ∙ append_assoc (spelling at.item) _ rest;
    }

long_enough : (r : Record) (after : List ℕ) → 24 ≤ length (spelling r ++ after)
long_enough r after = omega (arith, length-append (spelling r) after, length-spelling r)

-- bytes that begin with a record of the table aren't cut
pub not_cut : (more : List ℕ) (r : Record) (after : List ℕ) → more ≡ spelling r ++ after → length more < 24 → ⊥
not_cut more r after begins short = absurd (omega (arith, ap (λ (bs : List ℕ). length bs) begins, long_enough r after))

-- and have no fault of the table
pub not_untabled : {format : Format} (more : List ℕ) (r : Record) (after : List ℕ) (w : Why) → more ≡ spelling r ++ after → IsTabled format r → IsFirstFault format (take 24 more) w → ⊥
not_untabled {format} more r after w begins tabled fault =
    let bytes : take 24 more ≡ spelling r = ap (λ (bs : List ℕ). take 24 bs) begins ∙ take_at (spelling r) after 24 (length-spelling r) in
    let spells : Spells format (take 24 more) r = record { tabled = tabled; spelled = bytes } in
    spelled_no_fault format (take 24 more) r w spells fault

no_cut_in : {format : Format} (bytes : List ℕ) (task : LogTask) (records : List Record) (rest : List ℕ) (n : ℕ) → IsRead format bytes records rest → n ≤ length records → IsCutRecord format bytes task.records n → ⊥
no_cut_in bytes task records rest n read within fault =
    let at = stands bytes records fault.before rest fault.rest read fault.at.read (omega (arith, fault.at.number)) in
    not_cut fault.rest at.r at.after at.begins fault.short

no_untabled_in : {format : Format} (bytes : List ℕ) (task : LogTask) (records : List Record) (rest : List ℕ) (n : ℕ) (w : Why) → IsRead format bytes records rest → n ≤ length records → IsUntabled format bytes task.records n w → ⊥
no_untabled_in bytes task records rest n w read within fault =
    let at = stands bytes records fault.before rest fault.rest read fault.at.read (omega (arith, fault.at.number)) in
    not_untabled fault.rest at.r at.after w at.begins at.tabled fault.first

-- a record that is told there is the one that was read
pub same_record : {format : Format} (bytes : List ℕ) (count n : ℕ) (records : List Record) (rest : List ℕ) (before : List Record) (r : Record) → IsRead format bytes records rest → n ≤ length records
    → IsRecord format bytes count n before r → (slice_get records (length before) ≡ Some r) × (before ≡ take (length before) records)
same_record bytes count n records rest before r read within told =
    let at = stands bytes records before rest (spelling r ++ told.rest) read told.at.read (omega (arith, told.at.number)) in
    let same = same_first r at.r told.rest at.after told.tabled at.tabled at.begins in
    (at.found ∙ ap (λ (x : Record). Some x) (sym same.0), at.prefix)

-- no record breaks a rule after those before it
abbrev pub KeepsEach : LogTask → List Record → Type 0
KeepsEach task records = (k : ℕ) (r : Record) → slice_get records k ≡ Some r → (rule : RecordWhy) → Breaks task (take k records) r rule → ⊥

no_broken_in : {format : Format} (bytes : List ℕ) (task : LogTask) (records : List Record) (rest : List ℕ) (n : ℕ) (rule : RecordWhy) → IsRead format bytes records rest → KeepsEach task records
    → n ≤ length records → IsBroken format bytes task n rule → ⊥
no_broken_in bytes task records rest n rule read keeps within fault =
    let same = same_record bytes task.records n records rest fault.before fault.r read within fault.at in
    keeps (length fault.before) fault.r same.0 rule (subst (λ (xs : List Record). Breaks task xs fault.r rule) same.1 fault.breaks)

-- nothing is bad among records that were read and keep the rules
pub no_fault_in : {format : Format} (bytes : List ℕ) (task : LogTask) (records : List Record) (rest : List ℕ) (n : ℕ) (rule : RecordWhy) → IsRead format bytes records rest → KeepsEach task records
    → length records ≤ task.records → n ≤ length records → IsLogFault format bytes task n rule → ⊥
no_fault_in {format} bytes task records rest n log.Header read keeps few within fault = fault.1 (flat_map spelling records ++ rest) (read.parts ∙ append_assoc (log_header format) (flat_map spelling records) rest)
no_fault_in bytes task records rest n log.Cut read keeps few within fault = no_cut_in bytes task records rest n read within fault
no_fault_in bytes task records rest n log.Kind read keeps few within fault = no_untabled_in bytes task records rest n _ read within fault
no_fault_in bytes task records rest n log.Size read keeps few within fault = no_untabled_in bytes task records rest n _ read within fault
no_fault_in bytes task records rest n log.LineZero read keeps few within fault = no_untabled_in bytes task records rest n _ read within fault
no_fault_in bytes task records rest n log.Address read keeps few within fault = no_untabled_in bytes task records rest n _ read within fault
no_fault_in bytes task records rest n log.Span read keeps few within fault = no_untabled_in bytes task records rest n _ read within fault
no_fault_in bytes task records rest n log.Reserved read keeps few within fault = no_untabled_in bytes task records rest n _ read within fault
no_fault_in bytes task records rest n log.Extra read keeps few within fault = absurd (omega (arith, fault.number))
no_fault_in bytes task records rest n rule read keeps few within fault = no_broken_in bytes task records rest n rule read keeps within fault

-- past the last record, only a byte too many is a fault
pub past_end : (format : Format) (bytes : List ℕ) (task : LogTask) (n : ℕ) (rule : RecordWhy) → task.records < n → record_rank rule < 19 → IsLogFault format bytes task n rule → ⊥
past_end format bytes task n log.Header past low fault = absurd (omega (arith, fault.0))
past_end format bytes task n log.Cut past low fault = absurd (omega (arith, fault.at.counted))
past_end format bytes task n log.Kind past low fault = absurd (omega (arith, fault.at.counted))
past_end format bytes task n log.Size past low fault = absurd (omega (arith, fault.at.counted))
past_end format bytes task n log.LineZero past low fault = absurd (omega (arith, fault.at.counted))
past_end format bytes task n log.Address past low fault = absurd (omega (arith, fault.at.counted))
past_end format bytes task n log.Span past low fault = absurd (omega (arith, fault.at.counted))
past_end format bytes task n log.Reserved past low fault = absurd (omega (arith, fault.at.counted))
past_end format bytes task n log.Extra past low fault = absurd (omega arith)
past_end format bytes task n rule past low fault = absurd (omega (arith, fault.at.at.counted))

no_extra : {format : Format} (bytes : List ℕ) (records : List Record) (n : ℕ) → IsRead format bytes records [] → IsExtra format bytes (length records) n → ⊥
no_extra bytes records n read fault =
    let next = is_next bytes records fault.records [] fault.rest read fault.read fault.all in
    absurd (omega (arith, fault.more, ap (λ (bs : List ℕ). length bs) next.more_is))

no_fault_past : {format : Format} (bytes : List ℕ) (task : LogTask) (records : List Record) (n : ℕ) (rule : RecordWhy) → IsRead format bytes records [] → length records ≡ task.records → task.records < n → IsLogFault format bytes task n rule → ⊥
no_fault_past {format} bytes task records n log.Extra read counted past fault = no_extra bytes records n read (subst (λ (m : ℕ). IsExtra format bytes m n) (sym counted) fault)
no_fault_past {format} bytes task records n rule read counted past fault = past_end format bytes task n rule past (omega arith) fault

-- a whole log that keeps the rules has no fault
pub no_fault_whole : {format : Format} (bytes : List ℕ) (task : LogTask) (records : List Record) (n : ℕ) (rule : RecordWhy) → IsRead format bytes records [] → KeepsEach task records → length records ≡ task.records → IsLogFault format bytes task n rule → ⊥
no_fault_whole bytes task records n rule read keeps counted fault = elim (cases_order n (length records)) [
  | inl even ↦ no_fault_in bytes task records [] n rule read keeps (omega arith) (omega arith) fault
  | inr either ↦ elim either [
    | inl less ↦ no_fault_in bytes task records [] n rule read keeps (omega arith) (omega arith) fault
    | inr more ↦ no_fault_past bytes task records n rule read counted (omega arith) fault
  ]
]

-- the same task with another team
abbrev pub with_team : LogTask → Option ℕ → LogTask
with_team task team = record { path = task.path; records = task.records; spans = task.spans; due_barriers = team }

-- a fault stands on the team only by the rule of barrier counts
pub other_team : (format : Format) (bytes : List ℕ) (task : LogTask) (team : Option ℕ) (n : ℕ) (rule : RecordWhy) → ((barriers : ℕ) → task.due_barriers ≡ Some barriers → team ≡ Some barriers)
    → IsLogFault format bytes task n rule → IsLogFault format bytes (with_team task team) n rule
other_team format bytes task team n log.Header same fault = fault
other_team format bytes task team n log.Cut same fault = fault
other_team format bytes task team n log.Kind same fault = fault
other_team format bytes task team n log.Size same fault = fault
other_team format bytes task team n log.LineZero same fault = fault
other_team format bytes task team n log.Address same fault = fault
other_team format bytes task team n log.Span same fault = fault
other_team format bytes task team n log.Reserved same fault = fault
other_team format bytes task team n log.Extra same fault = fault
other_team format bytes task team n log.BarrierCount same fault = record {
  before = fault.before;
  r = fault.r;
  at = fault.at;
  breaks = (fault.breaks.0, (fault.breaks.1.0, same fault.breaks.1.0 fault.breaks.1.1, fault.breaks.1.2));
}
other_team format bytes task team n rule same fault = record { before = fault.before; r = fault.r; at = fault.at; breaks = fault.breaks }
