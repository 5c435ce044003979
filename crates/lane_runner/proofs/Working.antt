-- Works one after another: what a hand has of them, and a log.
use Rattle.std.proofs.Common.{◌≡◌, refl, ap, sym, ◌∙◌, subst, ℕ, ◌+◌, List, [], ◌∷◌, ◌++◌, length, arith, append_assoc, true, cond, inl, inr}
use Rattle.std.proofs.lemmas.List.{append-nil, length-append}
use Rattle.std.proofs.lemmas.List.Elements.{filter-append}
use Rattle.std.proofs.lemmas.List.Sums.{sum_by-append}
use Rattle.race_model.specs.Trace.{is_barrier_kind, barrier_count}
use Rattle.log_format.specs.declared.record.Record.{Record}
use Rattle.log_format.specs.declared.record.Kind.TheVariants as kind
use Rattle.race_model.specs.Race.{IsAccess}
use Rattle.kernel_syntax.specs.Program.{Program}
use Rattle.kernel_model.specs.State.{Fork}
use Rattle.step_history.specs.declared.item.Item.{Item}
use Rattle.step_history.specs.declared.item.Deed.{Deed}
use Rattle.step_history.specs.History.{item}
use Rattle.std.specs.Prelude.{map}
use Rattle.shared_words.specs.declared.view.View.{View}
use Rattle.shared_words.specs.Handles.{HandValue, with_view}
use Rattle.history_model.specs.Work.{Work, Rest, Put, RegionWork, work_records, work_regions, then_work}
use Rattle.history_model.specs.Sound.{WordLayout, IsSoundRecord}
use Rattle.history_model.specs.Did.{split_count, did, deeds_of}
use Rattle.history_model.proofs.Parts.{then_records, then_splits, then_did, then_sound, then_regions}
use Rattle.execution_model.specs.Runs.{is_put, put_records, RunsRegions}
use Rattle.event_buffer.specs.Buffered.{Buffered}
use Rattle.event_buffer.specs.Logged.{HoldsRecords}
use Rattle.lane_runner.specs.Drawing.{HasDrawn}
use Rattle.lane_runner.proofs.Drawing.{drew_none, drew_then}
use Rattle.execution_model.specs.Elements.{element_word, layout_of}
use Rattle.lane_runner.specs.World.{WorldValue}
use Rattle.lane_runner.specs.Going.{Progress, log_of, worked, GainsRecords, HasDonePast, HasDone}

put_append : (xs ys : List Record) → put_records (xs ++ ys) ≡ put_records xs ++ put_records ys
put_append xs ys = filter-append is_put xs ys

pub log_then : (work other : Work) → log_of (then_work work other) ≡ log_of work ++ log_of other
log_then work other = ap (λ (rs : List Record). put_records rs) (then_records work other) ∙ put_append (work_records work) (work_records other)

-- ---- hands

pub view_same : (v : View) (splits more : ℕ) (items others : List Item) → splits ≡ more → items ≡ others → record v { splits = splits; items = items } ≡ record v { splits = more; items = others }
view_same v splits more items others same is = λ i. record v { splits = same i; items = is i }

pub worked_none : (word : ℕ → ℕ) (v : View) → worked word v Rest ≡ v
worked_none word v = view_same v (v.splits + 0) v.splits (v.items ++ []) v.items (omega arith) (append-nil v.items)

-- a record without a deed
pub worked_put_nothing : (word : ℕ → ℕ) (v : View) (r : Record) → deeds_of word r.kind r ≡ [] → v ≡ worked word v (Put r Rest)
worked_put_nothing word v r none =
    view_same v v.splits (v.splits + 0) v.items (v.items ++ (map (item v.name) (deeds_of word r.kind r) ++ [])) (omega arith)
    (sym (append-nil v.items) ∙ ap (λ (deeds : List Deed). v.items ++ (map (item v.name) deeds ++ [])) (sym none))

pub worked_then : (word : ℕ → ℕ) (v : View) (work other : Work) → worked word (worked word v work) other ≡ worked word v (then_work work other)
worked_then word v work other =
    view_same v (v.splits + split_count work + split_count other) (v.splits + split_count (then_work work other))
    ((v.items ++ did word v.name v.splits work) ++ did word v.name (v.splits + split_count work) other) (v.items ++ did word v.name v.splits (then_work work other))
    (let sum = then_splits work other in omega (arith, sum))
    (append_assoc v.items (did word v.name v.splits work) (did word v.name (v.splits + split_count work) other)
    ∙ ap (λ (items : List Item). v.items ++ items) (sym (then_did word v.name v.splits work other)))

hand_then : (word : ℕ → ℕ) (a b c : HandValue View) (work other : Work) → b ≡ with_view a (worked word a.view work) → c ≡ with_view b (worked word b.view other)
    → c ≡ with_view a (worked word a.view (then_work work other))
hand_then word a b c work other first second =
    second
    ∙ ap (λ (h : HandValue View). with_view h (worked word h.view other)) first
    ∙ ap (λ (v : View). with_view a v) (worked_then word a.view work other)

-- ---- records

pub no_access : (layout : WordLayout) (r : Record) → (r.kind ≡ kind.Region → ⊥) → (r.kind ≡ kind.Read → ⊥) → (r.kind ≡ kind.Write → ⊥) → (r.kind ≡ kind.Update → ⊥) → IsSoundRecord layout r
no_access layout r no_region no_read no_write no_update = record { no_region = no_region; element = λ access. absurd (none access); stores = λ write. absurd (no_write write) } where
  none : IsAccess r → ⊥
  none (inl read) = no_read read
  none (inr (inl write)) = no_write write
  none (inr (inr update)) = no_update update

-- ---- logs

pub gains_then : (a b c : Buffered) (one more : List Record) → GainsRecords a b one → GainsRecords b c more → GainsRecords a c (one ++ more)
gains_then a b c one more x y = record {
  records = λ header records holds. subst (λ (rs : List Record). HoldsRecords header c rs) (append_assoc records one more) (y.records header (records ++ one) (x.records header records holds));
  count = omega (arith, x.count, y.count, length-append one more);
  path = y.path ∙ x.path;
  place = y.place ∙ x.place;
}

pub barriers_later : (bars : ℕ) (xs ys : List Record) → barrier_count xs ≡ 0 → barrier_count ys ≡ bars → barrier_count (xs ++ ys) ≡ bars
barriers_later bars xs ys one more = let sum = sum_by-append (λ (r : Record). cond (is_barrier_kind r.kind) 1 0) xs ys in omega (arith, sum, one, more)

-- no barrier, and then so many
pub done_then : {bars : ℕ} (w : WorldValue) (a b c : Progress) (work other : Work) → HasDone w a b work → HasDonePast bars w b c other → HasDonePast bars w a c (then_work work other)
done_then {bars} w a b c work other x y = record {
  hand = hand_then (element_word w.arrays) a.hand b.hand c.hand work other x.hand y.hand;
  log = subst (λ (rs : List Record). GainsRecords a.buffer c.buffer rs) (sym (log_then work other)) (gains_then a.buffer b.buffer c.buffer (log_of work) (log_of other) x.log y.log);
  draws = subst (λ (rs : List Record). HasDrawn a.tally c.tally rs) (sym (log_then work other)) (drew_then a.tally b.tally c.tally (log_of work) (log_of other) x.draws y.draws);
  forked = let sum = ap (λ (rs : List RegionWork). length rs) (then_regions work other) ∙ length-append (work_regions work) (work_regions other) in omega (arith, sum, x.forked, y.forked);
  told =
      let regions = ap (λ (rs : List RegionWork). length rs) (then_regions work other) ∙ length-append (work_regions work) (work_regions other) in
      let records = ap (λ (rs : List Record). length rs) (log_then work other) ∙ length-append (log_of work) (log_of other) in
      omega (arith, regions, records, x.told, y.told);
  sound = then_sound (layout_of w.arrays) work other x.sound y.sound x.barriers;
  barriers = ap (λ (rs : List Record). barrier_count rs) (then_records work other) ∙ barriers_later bars (work_records work) (work_records other) x.barriers y.barriers;
}

pub hand_still : (h : HandValue View) → h.there ≡ true → h ≡ with_view h h.view
hand_still h there = λ i. record h { there = there i }

-- a lane that does nothing
pub done_none : (w : WorldValue) (a : Progress) → a.hand.there ≡ true → HasDone w a a Rest
done_none w a there = record {
  hand = hand_still a.hand there ∙ ap (λ (v : View). with_view a.hand v) (sym (worked_none (element_word w.arrays) a.hand.view));
  log = record {
    records = λ header records holds. subst (λ (rs : List Record). HoldsRecords header a.buffer rs) (sym (append-nil records)) holds;
    count = omega arith;
    path = refl;
    place = refl;
  };
  draws = drew_none a.tally;
  forked = omega arith;
  told = omega arith;
  sound = tt;
  barriers = refl;
}

-- ---- regions

regions_both : (program : Program) (one more : List Fork) (works others : List RegionWork) → RunsRegions program one works → RunsRegions program more others → RunsRegions program (one ++ more) (works ++ others)
regions_both program [] more [] others RunsRegions.no_region later = later
regions_both program (f ∷ one) more [] others runs later = elim runs [ ]
regions_both program [] more (w ∷ works) others runs later = elim runs [ ]
regions_both program (f ∷ one) more (w ∷ works) others (RunsRegions.region fork forks work ws span lanes drew rest) later =
    RunsRegions.region f (one ++ more) w (works ++ others) span lanes drew (regions_both program one more works others rest later)

pub runs_then : (program : Program) (one more : List Fork) (work other : Work) → RunsRegions program one (work_regions work) → RunsRegions program more (work_regions other)
    → RunsRegions program (one ++ more) (work_regions (then_work work other))
runs_then program one more work other x y =
    subst (λ (rs : List RegionWork). RunsRegions program (one ++ more) rs) (sym (then_regions work other)) (regions_both program one more (work_regions work) (work_regions other) x y)
