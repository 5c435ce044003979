-- Which faults a log has at the record after those that were read, and at its end.
use Rattle.std.proofs.Common.{◌≡◌, ℕ, ◌+◌, ◌<◌, ◌≤◌, List, [], ◌∷◌, ◌++◌, length, take, Some, sym, ap, subst, ◌∙◌, arith}
use Rattle.std.specs.Prelude.{slice_get}
use Rattle.std.proofs.lemmas.List.{take_more}
use Rattle.std.proofs.lemmas.Option.{get_or_from_slice_get, slice_get_within}
use Rattle.log_format.specs.declared.format.Format.{Format}
use Rattle.log_format.specs.declared.record.Record.{Record}
use Rattle.log_format.specs.declared.record.Why.{Why}
use Rattle.log_format.specs.declared.record.Why.TheVariants as why
use Rattle.log_format.specs.Spelling.{spelling}
use Rattle.log_format.specs.Table.{IsTabled, IsFirstFault}
use Rattle.log_format.proofs.Records.{kind_is_first, first_fault-unique}
use Rattle.race_model.specs.declared.why.RecordWhy.{RecordWhy}
use Rattle.race_model.specs.declared.why.RecordWhy.TheVariants as log
use Rattle.race_model.specs.BadPlace.{record_rank}
use Rattle.race_model.specs.Segment.{segment_count}
use Rattle.race_model.specs.LogFault.{LogTask, Breaks, IsRead, IsCutRecord, IsUntabled, IsBroken, IsLogFault, OpensTooMany, max_segments}
use Rattle.log_walk.specs.Check.{KeepsLogRules, NothingBefore, of_why}
use Rattle.race_laws.proofs.LogReading.{same_first, is_next}
use Rattle.race_laws.proofs.LogFaults.{find, not_cut, not_untabled, same_record, no_fault_in}
use Rattle.log_walk.proofs.Opening.{segment_count-take}

-- no record that was read opens one segment too many
pub no_overflow_in : {format : Format} (bytes : List ℕ) (count opened n : ℕ) (records : List Record) (rest : List ℕ) → IsRead format bytes records rest
    → n ≤ length records → opened + segment_count records ≤ max_segments → OpensTooMany format bytes count opened n → ⊥
no_overflow_in bytes count opened n records rest read within few over =
    let same = same_record bytes count n records rest over.before over.r read within over.at in
    let at = find records (length over.before) (omega (arith, over.at.at.number)) in
    let pushed : take (length over.before + 1) records ≡ over.before ++ over.r ∷ [] = taken records over.before over.r same.0 same.1 in
    absurd (omega (arith, over.full, over.opens, ap (λ (xs : List Record). segment_count xs) pushed, segment_count-take records (length over.before + 1)))
  where
    taken : (xs ys : List Record) (r : Record) → slice_get xs (length ys) ≡ Some r → ys ≡ take (length ys) xs → take (length ys + 1) xs ≡ ys ++ r ∷ []
    taken xs ys r found prefix =
        take_more xs (length ys) r (slice_get_within xs (length ys) r found)
        ∙ ap (λ (x : Record). take (length ys) xs ++ x ∷ []) (get_or_from_slice_get xs (length ys) r r found)
        ∙ ap (λ (zs : List Record). zs ++ r ∷ []) (sym prefix)

-- bytes have one first fault
pub one_fault : (format : Format) (bytes : List ℕ) (v w : Why) → IsFirstFault format bytes v → IsFirstFault format bytes w → v ≡ w
one_fault format bytes why.Kind w v_first w_first = kind_is_first format bytes v_first w w_first
one_fault format bytes why.Size w v_first w_first = first_fault-unique format bytes v_first.fields _ w v_first.fits (v_first.failed.before why.Kind (omega arith)) v_first.spelled v_first.failed w_first
one_fault format bytes why.LineZero w v_first w_first = first_fault-unique format bytes v_first.fields _ w v_first.fits (v_first.failed.before why.Kind (omega arith)) v_first.spelled v_first.failed w_first
one_fault format bytes why.Address w v_first w_first = first_fault-unique format bytes v_first.fields _ w v_first.fits (v_first.failed.before why.Kind (omega arith)) v_first.spelled v_first.failed w_first
one_fault format bytes why.Span w v_first w_first = first_fault-unique format bytes v_first.fields _ w v_first.fits (v_first.failed.before why.Kind (omega arith)) v_first.spelled v_first.failed w_first
one_fault format bytes why.Reserved w v_first w_first = first_fault-unique format bytes v_first.fields _ w v_first.fits (v_first.failed.before why.Kind (omega arith)) v_first.spelled v_first.failed w_first

-- at the next record, if its bytes are cut
pub next_cut : {format : Format} (bytes : List ℕ) (count n : ℕ) (records : List Record) (rest : List ℕ) → IsRead format bytes records rest → n ≡ length records + 1 → n ≤ count
    → length rest < 24 → IsCutRecord format bytes count n
next_cut bytes count n records rest read number counted short = record {
  before = records;
  rest = rest;
  at = record { read = read; number = number; counted = counted };
  short = short;
}

-- or are no record of the table
pub next_untabled : {format : Format} (bytes : List ℕ) (task : LogTask) (n : ℕ) (records : List Record) (rest : List ℕ) (w : Why) → IsRead format bytes records rest → n ≡ length records + 1 → n ≤ task.records
    → 24 ≤ length rest → IsFirstFault format (take 24 rest) w → IsLogFault format bytes task n (of_why w)
next_untabled {format} bytes task n records rest w read number counted whole first = at w made where
  made : IsUntabled format bytes task.records n w
  made = record { before = records; rest = rest; at = record { read = read; number = number; counted = counted }; whole = whole; first = first }

  at : (v : Why) → IsUntabled format bytes task.records n v → IsLogFault format bytes task n (of_why v)
  at why.Kind fault = fault
  at why.Size fault = fault
  at why.LineZero fault = fault
  at why.Address fault = fault
  at why.Span fault = fault
  at why.Reserved fault = fault

-- nothing comes before what is told of the next record
pub before_next : {format : Format} (bytes : List ℕ) (task : LogTask) (opened n rank : ℕ) (records : List Record) (rest : List ℕ) → IsRead format bytes records rest → KeepsLogRules task records
    → opened + segment_count records ≤ max_segments → length records ≤ task.records → n ≡ length records + 1
    → ((rule : RecordWhy) → record_rank rule < rank → IsLogFault format bytes task n rule → ⊥) → NothingBefore format bytes task opened n rank
before_next bytes task opened n rank records rest read keeps few counted number here = record {
  earlier = λ m rule less fault. no_fault_in bytes task records rest m rule read keeps.each counted (omega arith) fault;
  here = here;
  segments = λ m less over. no_overflow_in bytes task.records opened m records rest read (omega arith) few over;
}

-- the rules of a lower rank than a cut
pub before_cut : (format : Format) (bytes : List ℕ) (task : LogTask) (n : ℕ) (rule : RecordWhy) → 1 ≤ n → record_rank rule < 1 → IsLogFault format bytes task n rule → ⊥
before_cut format bytes task n log.Header number low fault = absurd (omega (arith, fault.0))
before_cut format bytes task n rule number low fault = absurd (omega arith)

why_rank : (w : Why) → record_rank (of_why w) ≤ 7
why_rank why.Kind = omega arith
why_rank why.Size = omega arith
why_rank why.LineZero = omega arith
why_rank why.Address = omega arith
why_rank why.Span = omega arith
why_rank why.Reserved = omega arith

-- the rules of a lower rank than a fault of the table
no_lower_why : {format : Format} (bytes : List ℕ) (task : LogTask) (n : ℕ) (records : List Record) (rest : List ℕ) (v w : Why) → IsRead format bytes records rest → n ≡ length records + 1
    → IsFirstFault format (take 24 rest) w → record_rank (of_why v) < record_rank (of_why w) → IsUntabled format bytes task.records n v → ⊥
no_lower_why {format} bytes task n records rest v w read number first low fault =
    let next = is_next bytes records fault.before rest fault.rest read fault.at.read (omega (arith, fault.at.number)) in
    let same : v ≡ w = one_fault format (take 24 rest) v w (subst (λ (bs : List ℕ). IsFirstFault format (take 24 bs) v) next.more_is fault.first) first in
    absurd (omega (arith, ap (λ (u : Why). record_rank (of_why u)) same))

pub before_untabled : {format : Format} (bytes : List ℕ) (task : LogTask) (n : ℕ) (records : List Record) (rest : List ℕ) (w : Why) → IsRead format bytes records rest → n ≡ length records + 1
    → 24 ≤ length rest → IsFirstFault format (take 24 rest) w → (rule : RecordWhy) → record_rank rule < record_rank (of_why w) → IsLogFault format bytes task n rule → ⊥
before_untabled bytes task n records rest w read number whole first log.Header low fault = absurd (omega (arith, fault.0))
before_untabled bytes task n records rest w read number whole first log.Cut low fault =
    let next = is_next bytes records fault.before rest fault.rest read fault.at.read (omega (arith, fault.at.number)) in
    absurd (omega (arith, fault.short, ap (λ (bs : List ℕ). length bs) next.more_is))
before_untabled bytes task n records rest w read number whole first log.Kind low fault = no_lower_why bytes task n records rest why.Kind w read number first low fault
before_untabled bytes task n records rest w read number whole first log.Size low fault = no_lower_why bytes task n records rest why.Size w read number first low fault
before_untabled bytes task n records rest w read number whole first log.LineZero low fault = no_lower_why bytes task n records rest why.LineZero w read number first low fault
before_untabled bytes task n records rest w read number whole first log.Address low fault = no_lower_why bytes task n records rest why.Address w read number first low fault
before_untabled bytes task n records rest w read number whole first log.Span low fault = no_lower_why bytes task n records rest why.Span w read number first low fault
before_untabled bytes task n records rest w read number whole first log.Reserved low fault = no_lower_why bytes task n records rest why.Reserved w read number first low fault
before_untabled bytes task n records rest w read number whole first rule low fault = absurd (omega (arith, why_rank w))

-- the rules of a lower rank than one, where the next record breaks none of them
no_broken_at : {format : Format} (bytes : List ℕ) (task : LogTask) (n : ℕ) (records : List Record) (r : Record) (after : List ℕ) (rule : RecordWhy) → IsRead format bytes records (spelling r ++ after) → IsTabled format r
    → n ≡ length records + 1 → (Breaks task records r rule → ⊥) → IsBroken format bytes task n rule → ⊥
no_broken_at bytes task n records r after rule read tabled number holds fault =
    let next = is_next bytes records fault.before (spelling r ++ after) (spelling fault.r ++ fault.at.rest) read fault.at.at.read (omega (arith, fault.at.at.number)) in
    let same = same_first fault.r r fault.at.rest after fault.at.tabled tabled next.more_is in
    holds (subst (λ (s : Record). Breaks task records s rule) same.0 (subst (λ (rs : List Record). Breaks task rs fault.r rule) next.before_is fault.breaks))

no_cut_at : {format : Format} (bytes : List ℕ) (count n : ℕ) (records : List Record) (r : Record) (after : List ℕ) → IsRead format bytes records (spelling r ++ after)
    → n ≡ length records + 1 → IsCutRecord format bytes count n → ⊥
no_cut_at bytes count n records r after read number fault =
    let next = is_next bytes records fault.before (spelling r ++ after) fault.rest read fault.at.read (omega (arith, fault.at.number)) in
    not_cut fault.rest r after next.more_is fault.short

no_untabled_at : {format : Format} (bytes : List ℕ) (count n : ℕ) (records : List Record) (r : Record) (after : List ℕ) (w : Why) → IsRead format bytes records (spelling r ++ after) → IsTabled format r
    → n ≡ length records + 1 → IsUntabled format bytes count n w → ⊥
no_untabled_at bytes count n records r after w read tabled number fault =
    let next = is_next bytes records fault.before (spelling r ++ after) fault.rest read fault.at.read (omega (arith, fault.at.number)) in
    not_untabled fault.rest r after w next.more_is tabled fault.first

pub before_broken : {format : Format} (bytes : List ℕ) (task : LogTask) (n rank : ℕ) (records : List Record) (r : Record) (after : List ℕ) → IsRead format bytes records (spelling r ++ after) → IsTabled format r
    → n ≡ length records + 1 → n ≤ task.records → ((rule : RecordWhy) → record_rank rule < rank → Breaks task records r rule → ⊥)
    → (rule : RecordWhy) → record_rank rule < rank → IsLogFault format bytes task n rule → ⊥
before_broken bytes task n rank records r after read tabled number counted holds log.Header low fault = absurd (omega (arith, fault.0))
before_broken bytes task n rank records r after read tabled number counted holds log.Cut low fault = no_cut_at bytes task.records n records r after read number fault
before_broken bytes task n rank records r after read tabled number counted holds log.Kind low fault = no_untabled_at bytes task.records n records r after _ read tabled number fault
before_broken bytes task n rank records r after read tabled number counted holds log.Size low fault = no_untabled_at bytes task.records n records r after _ read tabled number fault
before_broken bytes task n rank records r after read tabled number counted holds log.LineZero low fault = no_untabled_at bytes task.records n records r after _ read tabled number fault
before_broken bytes task n rank records r after read tabled number counted holds log.Address low fault = no_untabled_at bytes task.records n records r after _ read tabled number fault
before_broken bytes task n rank records r after read tabled number counted holds log.Span low fault = no_untabled_at bytes task.records n records r after _ read tabled number fault
before_broken bytes task n rank records r after read tabled number counted holds log.Reserved low fault = no_untabled_at bytes task.records n records r after _ read tabled number fault
before_broken bytes task n rank records r after read tabled number counted holds log.Extra low fault = absurd (omega (arith, fault.number))
before_broken bytes task n rank records r after read tabled number counted holds rule low fault = no_broken_at bytes task n records r after rule read tabled number (holds rule low) fault
