-- How a log is gone over, record by record.
use Rattle.std.proofs.Common.{◌≡◌, ◌∙◌, ℕ, ◌+◌, ◌<◌, ◌≤◌, List, [], ◌∷◌, ◌++◌, length, take, drop, refl, sym, ap, subst, arith}
use Rattle.std.specs.Prelude.{Option, Some, None}
use Rattle.std.specs.Option.{option_map}
use Rattle.std.proofs.lemmas.List.{append-nil, length-append, take-append-le}
use Rattle.sw_base.specs.Environment.{WhereTold}
use Rattle.log_format.specs.declared.format.Format.{Format}
use Rattle.log_format.specs.Format.{log_header}
use Rattle.log_format.specs.declared.record.Record.{Record}
use Rattle.log_format.specs.Spelling.{log_bytes}
use Rattle.race_model.specs.declared.why.RecordWhy.TheVariants as log
use Rattle.race_model.specs.LogFault.{LogTask, max_segments}
use Rattle.race_model.specs.Label.{Triple}
use Rattle.race_model.specs.Trace.{Logs}
use Rattle.race_model.specs.Segment.{Event}
use Rattle.log_segment.specs.declared.segment.Segment.{Segment}
use Rattle.log_segment.specs.declared.walking.Walk.{Walk}
use Rattle.log_segment.specs.Walking.{AddsSegments, Follows, IsNextOf, IsOwnAfter, OrdersInLane, begun_after, ended_by, event_after, has_summary as has_begun}
use Rattle.log_segment.proofs.Passing.{walked_next, walked_none}
use Rattle.stride_summary.specs.declared.summary.Summary.{Summary}
use Rattle.log_walk.specs.declared.check.LogFault.{LogFault}
use Rattle.log_walk.specs.declared.check.LogFault.TheVariants as fault
use Rattle.log_walk.specs.declared.state.State.{State}
use Rattle.log_walk.specs.Check.{IsGoodNext, IsLogRefused, IsNextRefused}
use Rattle.log_walk.specs.LogSoFar.{LogSoFar}
use Rattle.log_walk.specs.Rules.{BreaksNone}
use Rattle.log_walk.specs.State.{IsStateAfter, IsWalkAfter}
use Rattle.log_walk.specs.Unread.{unread}
use Rattle.log_walk.proofs.Left.{LeftOf, begins_left, left_of, none_left, passes_left, short_left}
use Rattle.log_walk.proofs.SoFar.{SoFar, checks_next, checks_none, cut_refused, extra_refused, next_refused, so_far}

-- only a lane's record is a barrier
pub in_lane : (task : LogTask) (before : List Record) (r : Record) → BreaksNone task before r → OrdersInLane r.kind task.path
in_lane task before r breaks is root = breaks log.RootBarrier (is, root)

-- before the first record
pub log_none : {format : Format} (bytes left : Option (List ℕ)) (task : LogTask) (opened : ℕ) (label : List Triple) (state : State) (walk : Walk) (found : List Segment) → opened ≤ max_segments → IsOwnAfter label 1
    → IsStateAfter state opened [] → walk.label ≡ label → walk.first ≡ 1 → walk.summary ≡ None → walk.forks.items ≡ []
    → bytes ≡ option_map (λ (rest : List ℕ). log_header format ++ rest) left → LogSoFar format bytes task opened label state walk left found found 0
log_none {format} bytes left task opened label state walk found room own follows labelled first summary forks read = record {
  records = [];
  checks = checks_none task opened state [] refl follows room;
  walked = walked_none task.path label walk found labelled first summary forks;
  after = record { forks = ap length forks; begun = ap (λ (o : Option Summary). has_begun o) summary };
  own = subst (λ (l : List Triple). IsOwnAfter l 1) (sym labelled) own;
  read = begins_left format bytes left read;
}

module _ {format : Format} (bytes rest : Option (List ℕ)) (task : LogTask) (opened : ℕ) (label : List Triple) (state : State) (walk : Walk) (ahead : List ℕ) (old mid : List Segment) (index : ℕ) where
  -- one record more
  pub log_next : (now : State) (after : Walk) (next later : List ℕ) (new : List Segment) (r : Record) → (so : LogSoFar format bytes task opened label state walk (unread ahead rest) old mid index)
      → next ≡ take 24 ahead → later ≡ drop 24 ahead
      → IsGoodNext format next task so.records r → IsStateAfter now opened (so.records ++ r ∷ []) → now.barriers ≤ index + 1 → now.segments ≤ max_segments
      → IsOwnAfter after.label (index + 1 + 1) → IsWalkAfter after (so.records ++ r ∷ [])
      → ((logs : Logs) (begun : List Event) → IsNextOf logs task.path so.records r → Follows logs task.path so.records walk begun → Follows logs task.path (so.records ++ r ∷ []) after (begun_after r.kind (event_after so.records r) begun))
      → ((logs : Logs) (begun : List Event) → IsNextOf logs task.path so.records r → Follows logs task.path so.records walk begun → AddsSegments logs (ended_by task.path r.kind begun) mid new)
      → LogSoFar format bytes task opened label now after (unread later rest) old new (index + 1)
  log_next now after next later new r so is left good follows barriers limit own gone walks adds = record {
    records = so.records ++ r ∷ [];
    checks = checks_next task opened state now so.records (so.records ++ r ∷ []) index r so.checks good.spells.tabled good.breaks follows barriers limit refl;
    walked = walked_next task.path label so.records r walk after old mid new so.walked walks adds;
    own = own;
    after = gone;
    read = so.read ∙ passes_left so.records r next ahead later rest is left good.spells;
  }

  module _ (left : Option (List ℕ)) (so : LogSoFar format bytes task opened label state walk left old mid index) (is : unread ahead rest ≡ left) where
    of_file : (file : List ℕ) → bytes ≡ Some file → LeftOf format so.records ahead rest file
    of_file file told = left_of so.records bytes ahead rest file (so.read ∙ ap (option_map (λ (bs : List ℕ). log_bytes (log_header format) so.records ++ bs)) (sym is)) told

    so_left : (file : List ℕ) (told : bytes ≡ Some file) → SoFar format file task opened state so.records (ahead ++ (of_file file told).more) index
    so_left file told = so_far file task opened state so.records (ahead ++ (of_file file told).more) index so.checks (of_file file told).parts

    -- the next record is refused
    pub log_refused : (next : List ℕ) (refusal : LogFault) → index < task.records → next ≡ take 24 ahead → 24 ≤ length ahead
        → IsNextRefused format next task opened so.records (index + 1) refusal → WhereTold bytes (λ file. IsLogRefused format file task opened refusal)
    log_refused next refusal within next_is there refused = λ file told.
        let more : List ℕ = (of_file file told).more in
        next_refused file task opened state so.records (ahead ++ more) index next refusal (so_left file told) (omega (arith, there, length-append ahead more)) (next_is ∙ sym (take-append-le 24 ahead more there)) within refused

    -- or cut
    pub log_cut : index < task.records → length ahead < 24 → WhereTold left (λ bs. take 24 ahead ≡ take 24 bs) → WhereTold bytes (λ file. IsLogRefused format file task opened (fault.Bad (index + 1) log.Cut))
    log_cut within short next = λ file told.
        let from = of_file file told in
        cut_refused file task opened state so.records (ahead ++ from.more) index (so_left file told) (short_left ahead (ahead ++ from.more) (next (ahead ++ from.more) (sym is ∙ from.told)) short) within

    -- or a byte follows the last one
    pub log_extra : index ≡ task.records → 0 < length ahead → WhereTold bytes (λ file. IsLogRefused format file task opened (fault.Bad (task.records + 1) log.Extra))
    log_extra all some = λ file told.
        let more : List ℕ = (of_file file told).more in
        extra_refused file task opened state so.records (ahead ++ more) index (so_left file told) all (omega (arith, some, length-append ahead more))

    -- or none does
    pub log_whole : length ahead ≡ 0 → WhereTold left (λ bs. take 1 ahead ≡ take 1 bs) → WhereTold bytes (λ file. file ≡ log_bytes (log_header format) so.records)
    log_whole none next = λ file told.
        let from = of_file file told in
        from.parts ∙ ap (λ (bs : List ℕ). log_bytes (log_header format) so.records ++ bs) (none_left ahead from.more (next (ahead ++ from.more) (sym is ∙ from.told)) none) ∙ append-nil (log_bytes (log_header format) so.records)
