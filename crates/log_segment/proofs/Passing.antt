-- Going over a log gives its segments.
use Rattle.std.proofs.Common.{◌≡◌, ℕ, ◌+◌, Bool, true, false, List, [], ◌∷◌, ◌++◌, length, Some, None, refl, sym, ap, subst, ◌∙◌, arith, append_assoc}
use Rattle.std.specs.Prelude.{filter, map}
use Rattle.std.specs.List.{AllZip}
use Rattle.std.proofs.lemmas.List.{length_push, append-nil}
use Rattle.sw_base.specs.declared.path.Step.{Step}
use Rattle.race_model.proofs.Held.{held_after-append}
use Rattle.log_format.specs.declared.record.Record.{Record}
use Rattle.log_format.specs.declared.record.Kind.{Kind}
use Rattle.log_format.specs.declared.record.Kind.TheVariants.{Read, Write, Lock, Unlock, Barrier, Region, Chunk, End, Update}
use Rattle.race_model.specs.Trace.{Logs, Node}
use Rattle.race_model.specs.Race.{held_after, held_after_kind}
use Rattle.race_model.specs.Label.{Triple, IsLabel}
use Rattle.race_model.specs.Segment.{Event, Segment as Interval, has_access, segment_of, runs_of, with_event, in_first, events_from, events, task_segments}
use Rattle.race_laws.proofs.LabelPlace.{same_node}
use Rattle.log_segment.specs.declared.segment.Segment.{Segment}
use Rattle.log_segment.specs.declared.walking.Walk.{Walk}
use Rattle.log_segment.specs.Going.{Going, HasWalked, ends_from}
use Rattle.log_segment.specs.Intervals.{IsSegmentOf}
use Rattle.log_segment.specs.Walking.{AddsSegments, BeginsLog, IsClosed, begun_after, event_after, ended, ended_by, Follows, IsNextOf, WalksLog}
use Rattle.log_segment.proofs.Following.{sums_none, adds_ended}
use Rattle.stride_summary.specs.declared.summary.Summary.{Summary}

-- the intervals of runs
abbrev segs : List Step → List (List Event) → List Interval
segs path runs = map (segment_of path) (filter has_access runs)

segs_first : (path : List Step) (run : List Event) (runs : List (List Event)) → ended path run ++ segs path runs ≡ segs path (run ∷ runs)
segs_first path run runs = go (has_access run) refl
  where
    go : (b : Bool) → has_access run ≡ b → ended path run ++ segs path runs ≡ segs path (run ∷ runs)
    go true e = rw e refl
    go false e = rw e refl

-- what has begun goes on into the first run
abbrev onto : List Event → List (List Event) → List (List Event)
onto begun [] = begun ∷ []
onto begun (run ∷ runs) = (begun ++ run) ∷ runs

onto_more : (begun : List Event) (e : Event) (runs : List (List Event)) → onto (begun ++ e ∷ []) runs ≡ onto begun (in_first e runs)
onto_more begun e [] = refl
onto_more begun e (run ∷ runs) = ap (λ (r : List Event). r ∷ runs) (append_assoc begun (e ∷ []) run)

record Some_run (runs : List (List Event)) : Type 0 where
  first : List Event
  others : List (List Event)
  parts : runs ≡ first ∷ others

onto_none : (runs : List (List Event)) → Some_run runs → onto [] runs ≡ runs
onto_none runs s = subst (λ (rs : List (List Event)). onto [] rs ≡ rs) (sym s.parts) refl

has_run : (k : Kind) (e : Event) (runs : List (List Event)) → Some_run (with_event k e runs)
has_run Read e [] = record { first = _; others = _; parts = refl }
has_run Write e [] = record { first = _; others = _; parts = refl }
has_run Lock e [] = record { first = _; others = _; parts = refl }
has_run Unlock e [] = record { first = _; others = _; parts = refl }
has_run Chunk e [] = record { first = _; others = _; parts = refl }
has_run End e [] = record { first = _; others = _; parts = refl }
has_run Update e [] = record { first = _; others = _; parts = refl }
has_run Region e runs = record { first = _; others = _; parts = refl }
has_run Barrier e runs = record { first = _; others = _; parts = refl }
has_run Read e (run ∷ runs) = record { first = _; others = _; parts = refl }
has_run Write e (run ∷ runs) = record { first = _; others = _; parts = refl }
has_run Lock e (run ∷ runs) = record { first = _; others = _; parts = refl }
has_run Unlock e (run ∷ runs) = record { first = _; others = _; parts = refl }
has_run Chunk e (run ∷ runs) = record { first = _; others = _; parts = refl }
has_run End e (run ∷ runs) = record { first = _; others = _; parts = refl }
has_run Update e (run ∷ runs) = record { first = _; others = _; parts = refl }

runs_some : (es : List Event) → Some_run (runs_of es)
runs_some [] = record { first = []; others = []; parts = refl }
runs_some (e ∷ es) = has_run e.event.kind e (runs_of es)

parts_here : (path : List Step) (begun : List Event) (runs : List (List Event)) → Some_run runs → ended path begun ++ segs path (onto [] runs) ≡ segs path (onto begun ([] ∷ runs))
parts_here path begun runs some =
    ap (λ (rs : List (List Event)). ended path begun ++ segs path rs) (onto_none runs some)
    ∙ (segs_first path begun runs ∙ ap (λ (r : List Event). segs path (r ∷ runs)) (sym (append-nil begun)))

by_kind : (k : Kind) (path : List Step) (begun : List Event) (e : Event) (runs : List (List Event)) → Some_run runs
    → ended_by path k begun ++ segs path (onto (begun_after k e begun) runs) ≡ segs path (onto begun (with_event k e runs))
by_kind Region path begun e runs some = parts_here path begun runs some
by_kind Barrier path begun e runs some = parts_here path begun runs some
by_kind Read path begun e runs some = ap (λ (rs : List (List Event)). segs path rs) (onto_more begun e runs)
by_kind Write path begun e runs some = ap (λ (rs : List (List Event)). segs path rs) (onto_more begun e runs)
by_kind Lock path begun e runs some = ap (λ (rs : List (List Event)). segs path rs) (onto_more begun e runs)
by_kind Unlock path begun e runs some = ap (λ (rs : List (List Event)). segs path rs) (onto_more begun e runs)
by_kind Chunk path begun e runs some = ap (λ (rs : List (List Event)). segs path rs) (onto_more begun e runs)
by_kind End path begun e runs some = ap (λ (rs : List (List Event)). segs path rs) (onto_more begun e runs)
by_kind Update path begun e runs some = ap (λ (rs : List (List Event)). segs path rs) (onto_more begun e runs)

ends_are : (path : List Step) (begun : List Event) (es : List Event) → ends_from path begun es ≡ segs path (onto begun (runs_of es))
ends_are path begun [] = ap (λ (r : List Event). segs path (r ∷ [])) (sym (append-nil begun))
ends_are path begun (e ∷ es) =
    ap (λ (is : List Interval). ended_by path e.event.kind begun ++ is) (ends_are path (begun_after e.event.kind e begun) es)
    ∙ by_kind e.event.kind path begun e (runs_of es) (runs_some es)

pub ends_all : (path : List Step) (records : List Record) → ends_from path [] (events records) ≡ task_segments (record { path = path; records = records })
ends_all path records = ends_are path [] (events records) ∙ ap (λ (rs : List (List Event)). segs path rs) (onto_none (runs_of (events records)) (runs_some (events records)))

-- segments are added one after another
pub zip_append : (logs : Logs) (is js : List Interval) (xs ys : List Segment) → AllZip (IsSegmentOf logs) is xs → AllZip (IsSegmentOf logs) js ys → AllZip (IsSegmentOf logs) (is ++ js) (xs ++ ys)
zip_append logs [] js [] ys a b = b
zip_append logs [] js (x ∷ xs) ys a b = absurd a
zip_append logs (i ∷ is) js [] ys a b = absurd a
zip_append logs (i ∷ is) js (x ∷ xs) ys a b = (a.0, zip_append logs is js xs ys a.1 b)

pub adds_more : (logs : Logs) (is js : List Interval) (old mid new : List Segment) → AddsSegments logs is old mid → AddsSegments logs js mid new → AddsSegments logs (is ++ js) old new
adds_more logs is js old mid new a b = record {
  added = a.added ++ b.added;
  gains = b.gains ∙ (ap (λ (xs : List Segment). xs ++ b.added) a.gains ∙ append_assoc old a.added b.added);
  are = zip_append logs is js a.added b.added a.are b.are;
}

pub adds_none : (logs : Logs) (old : List Segment) → AddsSegments logs [] old old
adds_none logs old = record { added = []; gains = sym (append-nil old); are = tt }

-- before the first record
pub walked_none : (path : List Step) (label : List Triple) (walk : Walk) (old : List Segment) → walk.label ≡ label → walk.first ≡ 1 → walk.summary ≡ None → walk.forks.items ≡ [] → HasWalked path label [] walk old old
walked_none path label walk old label_is first none forks logs begins is_label = record {
  begun = [];
  done = [];
  follows = record {
    numbered = tt;
    up = omega (arith, first);
    sums = sums_none walk.summary none;
    label = λ x same low high. subst (λ (y : Node). IsLabel logs y walk.label) (sym (same_node x (record { path = path; index = 0 }) same (omega arith)))
        (subst (λ (l : List Triple). IsLabel logs (record { path = path; index = 0 }) l) (sym label_is) is_label);
    forks = record {
      count = ap (λ (xs : List (List Triple)). length xs) forks;
      each = λ fork same within is. absurd (omega arith);
    };
  };
  adds = adds_none logs old;
  total = λ rest. ends_all path rest;
}

-- one record more
pub going_on : (logs : Logs) (path : List Step) (before : List Record) (r : Record) (walk now : Walk) (old mid new : List Segment)
    → (g : Going logs path before walk old mid)
    → Follows logs path (before ++ r ∷ []) now (begun_after r.kind (event_after before r) g.begun) → AddsSegments logs (ended_by path r.kind g.begun) mid new
    → Going logs path (before ++ r ∷ []) now old new
going_on logs path before r walk now old mid new g follows adds = record {
  begun = begun_after r.kind (event_after before r) g.begun;
  done = g.done ++ ended_by path r.kind g.begun;
  follows = follows;
  adds = adds_more logs g.done (ended_by path r.kind g.begun) old mid new g.adds adds;
  total = λ rest.
      append_assoc g.done (ended_by path r.kind g.begun) _
      ∙ (ap (λ (es : List Event). g.done ++ (ended_by path r.kind g.begun ++ ends_from path (begun_after r.kind (event_after before r) g.begun) es)) (later rest)
      ∙ (g.total (r ∷ rest) ∙ ap (λ (rs : List Record). task_segments (record { path = path; records = rs })) (sym (append_assoc before (r ∷ []) rest))));
}
  where
    later : (rest : List Record) → events_from (length (before ++ r ∷ []) + 1) (held_after [] (before ++ r ∷ [])) rest ≡ events_from (length before + 1 + 1) (held_after_kind r.kind r.addr (held_after [] before)) rest
    later rest = ap (λ (n : ℕ). events_from (n + 1) (held_after [] (before ++ r ∷ [])) rest) (length_push before r) ∙ ap (λ (h : List ℕ). events_from (length before + 1 + 1) h rest) (held_after-append [] before (r ∷ []))

pub begins_before : (logs : Logs) (path : List Step) (before : List Record) (r : Record) → BeginsLog logs path (before ++ r ∷ []) → IsNextOf logs path before r
begins_before logs path before r b = record { rest = b.rest; parts = b.parts ∙ append_assoc before (r ∷ []) b.rest }

pub walked_next : (path : List Step) (label : List Triple) (before : List Record) (r : Record) (walk now : Walk) (old mid new : List Segment) → HasWalked path label before walk old mid
    → ((logs : Logs) (begun : List Event) → IsNextOf logs path before r → Follows logs path before walk begun → Follows logs path (before ++ r ∷ []) now (begun_after r.kind (event_after before r) begun))
    → ((logs : Logs) (begun : List Event) → IsNextOf logs path before r → Follows logs path before walk begun → AddsSegments logs (ended_by path r.kind begun) mid new)
    → HasWalked path label (before ++ r ∷ []) now old new
walked_next path label before r walk now old mid new walked follows adds logs begins is_label =
    let next = begins_before logs path before r begins in
    let g = walked logs (record { rest = r ∷ next.rest; parts = next.parts }) is_label in
    going_on logs path before r walk now old mid new g (follows logs g.begun next g.follows) (adds logs g.begun next g.follows)

-- what the walk through a whole log gave
pub walked_all : (path : List Step) (label : List Triple) (records : List Record) (walk : Walk) (last : ℕ) (old mid new : List Segment) → HasWalked path label records walk old mid → last ≡ length records
    → (walk.summary ≡ None → new ≡ mid) → ((summary : Summary) → walk.summary ≡ Some summary → IsClosed path last walk summary mid new)
    → WalksLog path label records walk.forks.items old new
walked_all path label records walk last old mid new walked is_last empty some = record {
  segments = λ logs log is_label.
      let g = walked logs (record { rest = []; parts = log ∙ sym (append-nil records) }) is_label in
      subst (λ (is : List Interval). AddsSegments logs is old new)
      (g.total [] ∙ ap (λ (rs : List Record). task_segments (record { path = path; records = rs })) (append-nil records))
      (adds_more logs g.done (ended path g.begun) old mid new g.adds (adds_ended logs path records walk g.begun last mid new is_last empty some g.follows));
  forked = λ logs log is_label.
      let g = walked logs (record { rest = []; parts = log ∙ sym (append-nil records) }) is_label in
      g.follows.forks;
}
