-- Segments stand in order.
use Rattle.std.proofs.Common.{◌≡◌, ◌⊎◌, inl, inr, ℕ, zero, suc, ◌+◌, ◌<◌, ◌≤◌, Bool, true, false, List, [], ◌∷◌, ◌++◌, length, Some, refl, sym, ap, subst, ◌∙◌, arith, get_or}
use Rattle.std.specs.Prelude.{slice_get, map, filter, AllPairs}
use Rattle.std.specs.List.{AllZip}
use Rattle.std.proofs.lemmas.Option.{same_Some}
use Rattle.sw_base.specs.declared.path.Step.{Step}
use Rattle.log_format.specs.declared.record.Kind.{Kind}
use Rattle.log_format.specs.declared.record.Kind.TheVariants.{Read, Write, Lock, Unlock, Barrier, Region, Chunk, End, Update}
use Rattle.race_model.specs.Segment.{Event, Segment as Interval, has_access, segment_of, runs_of, with_event, in_first, events, intervals, task_segments, segments_of, first_number, last_number}
use Rattle.race_model.specs.Trace.{TaskLog, Trace, Logs}
use Rattle.log_segment.specs.declared.segment.Segment.{Segment}
use Rattle.log_segment.specs.Intervals.{IsSegmentOf}
use Rattle.log_segment.specs.OneTree.{IsPathBefore, IsSegmentBefore}
use Rattle.log_segment.specs.Walking.{AreNumbered}
use Rattle.log_segment.proofs.Following.{first_is, last_is, access_some}
use Rattle.log_segment.proofs.Members.{In, in_either, map_back, filter_back, flat_back, zip_back}
use Rattle.log_segment.proofs.Runs.{events_numbered}

-- each stands before the later ones
abbrev pub IsOrdered : {X : Type 0} → (X → X → Type 0) → List X → Type 0
IsOrdered R [] = Unit {0}
IsOrdered {X} R (x ∷ xs) = ((y : X) → In y xs → R x y) × IsOrdered R xs

in_at : {X : Type 0} (xs : List X) (j : ℕ) (d : X) → j < length xs → In (get_or xs j d) xs
in_at [] j d within = absurd (omega arith)
in_at (x ∷ xs) zero d within = inl refl
in_at (x ∷ xs) (suc j) d within = inr (in_at xs j d (omega arith))

pub ordered_pairs : {X : Type 0} (R : X → X → Type 0) (xs : List X) → IsOrdered R xs → AllPairs R xs
ordered_pairs R [] all i j d less within = absurd (omega arith)
ordered_pairs R (x ∷ xs) all zero zero d less within = absurd (omega arith)
ordered_pairs R (x ∷ xs) all zero (suc j) d less within = all.0 (get_or xs j d) (in_at xs j d (omega arith))
ordered_pairs R (x ∷ xs) all (suc i) zero d less within = absurd (omega arith)
ordered_pairs R (x ∷ xs) all (suc i) (suc j) d less within = ordered_pairs R xs all.1 i j d (omega arith) (omega arith)

ordered_append : {X : Type 0} (R : X → X → Type 0) (xs ys : List X) → IsOrdered R xs → IsOrdered R ys → ((x y : X) → In x xs → In y ys → R x y) → IsOrdered R (xs ++ ys)
ordered_append R [] ys one other between = other
ordered_append {X = X} R (x ∷ xs) ys one other between = (first, ordered_append R xs ys one.1 other (λ a b here there. between a b (inr here) there))
  where
    first : (y : X) → In y (xs ++ ys) → R x y
    first y h = at (in_either y xs ys h) where
      at : In y xs ⊎ In y ys → R x y
      at (inl here) = one.0 y here
      at (inr there) = between x y (inl refl) there

ordered_zip : {X Y : Type 0} (S : X → Y → Type 0) (R : X → X → Type 0) (Q : Y → Y → Type 0) → ((a b : X) (c d : Y) → S a c → S b d → R a b → Q c d)
    → (xs : List X) (ys : List Y) → AllZip S xs ys → IsOrdered R xs → IsOrdered Q ys
ordered_zip S R Q goes [] [] all one = tt
ordered_zip S R Q goes [] (y ∷ ys) all one = absurd all
ordered_zip S R Q goes (x ∷ xs) [] all one = absurd all
ordered_zip S R Q goes (x ∷ xs) (y ∷ ys) all one = (
  λ other h. (let p = zip_back S xs ys other all.1 h in goes x p.mate y other all.0 p.related (one.0 p.mate p.is_in)),
  ordered_zip S R Q goes xs ys all.1 one.1,
)

-- runs are numbered on, with gaps
abbrev IsRising : ℕ → List (List Event) → Type 0
IsRising n [] = Unit {0}
IsRising n (run ∷ runs) = AreNumbered n run × ((m : ℕ) × (n + length run ≤ m) × IsRising m runs)

rising_first : (n : ℕ) (e : Event) (runs : List (List Event)) → e.number ≡ n → IsRising (n + 1) runs → IsRising n (in_first e runs)
rising_first n e [] here rest = ((here, tt), (n + 1, omega arith, tt))
rising_first n e (run ∷ runs) here (numbered, (m, low, rest)) = ((here, numbered), (m, omega arith, rest))

rising_with : (k : Kind) (n : ℕ) (e : Event) (runs : List (List Event)) → e.number ≡ n → IsRising (n + 1) runs → IsRising n (with_event k e runs)
rising_with Region n e runs here rest = (tt, (n + 1, omega arith, rest))
rising_with Barrier n e runs here rest = (tt, (n + 1, omega arith, rest))
rising_with Read n e runs here rest = rising_first n e runs here rest
rising_with Write n e runs here rest = rising_first n e runs here rest
rising_with Lock n e runs here rest = rising_first n e runs here rest
rising_with Unlock n e runs here rest = rising_first n e runs here rest
rising_with Chunk n e runs here rest = rising_first n e runs here rest
rising_with End n e runs here rest = rising_first n e runs here rest
rising_with Update n e runs here rest = rising_first n e runs here rest

rising_of : (n : ℕ) (es : List Event) → AreNumbered n es → IsRising n (runs_of es)
rising_of n [] all = (tt, (n, omega arith, tt))
rising_of n (e ∷ es) (here, more) = rising_with e.event.kind n e (runs_of es) here (rising_of (n + 1) es more)

rising_low : (n : ℕ) (runs : List (List Event)) (run : List Event) → IsRising n runs → In run runs → has_access run ≡ true → n ≤ first_number run
rising_low n [] run rising h has = absurd h
rising_low n (r ∷ runs) run (numbered, rest) (inl same) has =
    let at : first_number run ≡ n = subst (λ (x : List Event). first_number x ≡ n) same (first_is n r numbered (access_some r (ap has_access same ∙ has))) in
    omega arith
rising_low n (r ∷ runs) run (numbered, (m, low, rest)) (inr h) has = let above = rising_low m runs run rest h has in omega arith

-- an interval stands before another
abbrev pub IsIntervalBefore : Interval → Interval → Type 0
IsIntervalBefore a b = IsPathBefore a.path b.path ⊎ ((a.path ≡ b.path) × (a.last < b.first))

runs_ordered : (path : List Step) (n : ℕ) (runs : List (List Event)) → IsRising n runs → IsOrdered IsIntervalBefore (map (segment_of path) (filter has_access runs))
runs_ordered path n [] rising = tt
runs_ordered path n (run ∷ runs) (numbered, (m, low, rest)) = go (has_access run) refl (runs_ordered path m runs rest)
  where
    later : has_access run ≡ true → (y : Interval) → In y (map (segment_of path) (filter has_access runs)) → IsIntervalBefore (segment_of path run) y
    later has y h =
        let back = map_back (segment_of path) y (filter has_access runs) h in
        let kept = filter_back has_access back.from runs back.is_in in
        let last : last_number run + 1 ≡ n + length run = last_is n run numbered (access_some run has) in
        let first : m ≤ first_number back.from = rising_low m runs back.from rest kept.0 kept.1 in
        subst (λ (i : Interval). IsIntervalBefore (segment_of path run) i) back.is (inr (refl, omega arith))

    go : (b : Bool) → has_access run ≡ b → IsOrdered IsIntervalBefore (map (segment_of path) (filter has_access runs)) → IsOrdered IsIntervalBefore (map (segment_of path) (filter has_access (run ∷ runs)))
    go true has more =
        let same : filter has_access (run ∷ runs) ≡ run ∷ filter has_access runs = rw has refl in
        subst (λ (rs : List (List Event)). IsOrdered IsIntervalBefore (map (segment_of path) rs)) (sym same) (later has, more)
    go false has more =
        let same : filter has_access (run ∷ runs) ≡ filter has_access runs = rw has refl in
        subst (λ (rs : List (List Event)). IsOrdered IsIntervalBefore (map (segment_of path) rs)) (sym same) more

task_ordered : (task : TaskLog) → IsOrdered IsIntervalBefore (task_segments task)
task_ordered task = runs_ordered task.path 1 (runs_of (events task.records)) (rising_of 1 (events task.records) (events_numbered 1 [] task.records))

in_got : {X : Type 0} (xs : List X) (k : ℕ) (x : X) → slice_get xs k ≡ Some x → In x xs
in_got [] k x found = cc
in_got (y ∷ xs) zero x found = inl (same_Some y x found)
in_got (y ∷ xs) (suc k) x found = inr (in_got xs k x found)

-- the task stands before the other
abbrev pub IsTaskBefore : TaskLog → TaskLog → Type 0
IsTaskBefore a b = IsPathBefore a.path b.path

pub trace_ordered : (trace : Trace) → IsOrdered IsTaskBefore trace → IsOrdered IsIntervalBefore (segments_of trace)
trace_ordered [] all = tt
trace_ordered (t ∷ trace) all = ordered_append IsIntervalBefore (task_segments t) (segments_of trace) (task_ordered t) (trace_ordered trace all.1)
    (λ x y here there. inl (let one = map_back (segment_of t.path) x (intervals t.records) here in
    let f = flat_back task_segments y trace there in
    let other = map_back (segment_of f.from.path) y (intervals f.from.records) f.is_in in
    subst (λ (p : List Step). IsPathBefore p y.path) (ap (λ (i : Interval). i.path) one.is)
    (subst (λ (p : List Step). IsPathBefore t.path p) (ap (λ (i : Interval). i.path) other.is) (all.0 f.from (in_got trace f.index f.from f.found)))))

pub segments_ordered : (logs : Logs) (trace : Trace) (found : List Segment) → IsOrdered IsTaskBefore trace → AllZip (IsSegmentOf logs) (segments_of trace) found → AllPairs IsSegmentBefore found
segments_ordered logs trace found tasks all =
    ordered_pairs IsSegmentBefore found (ordered_zip (IsSegmentOf logs) IsIntervalBefore IsSegmentBefore goes (segments_of trace) found all (trace_ordered trace tasks))
  where
    goes : (a b : Interval) (c d : Segment) → IsSegmentOf logs a c → IsSegmentOf logs b d → IsIntervalBefore a b → IsSegmentBefore c d
    goes a b c d one other (inl before) = IsSegmentBefore.row (subst (λ (p : List Step). IsPathBefore p d.path) (sym one.path) (subst (λ (p : List Step). IsPathBefore a.path p) (sym other.path) before))
    goes a b c d one other (inr (same, less)) = IsSegmentBefore.number (one.path ∙ (same ∙ sym other.path)) (let l = one.last in let f = other.first in omega arith)
