-- A history of what the hands of a tree did gives the tree its times.
use Rattle.std.proofs.Common.{◌≡◌, ◌⊎◌, inl, inr, refl, sym, ap, ap₂, ◌∙◌, subst, ℕ, zero, suc, ◌+◌, ◌-◌, ◌<◌, ◌≤◌, true, List, [], ◌∷◌, ◌++◌, length, map, Some, arith}
use Rattle.std.specs.Prelude.{slice_get}
use Rattle.std.proofs.lemmas.Bool.{cases_lt}
use Rattle.std.proofs.lemmas.List.{append-nil, append_assoc}
use Rattle.std.proofs.lemmas.Option.{same_Some}
use Rattle.sw_base.specs.declared.path.Step.{Step}
use Rattle.sw_base.proofs.Lists.{get_right}
use Rattle.log_format.specs.declared.record.Record.{Record}
use Rattle.log_format.specs.declared.record.Kind.{Kind}
use Rattle.log_format.specs.declared.record.Kind.TheVariants as kind
use Rattle.race_model.specs.Listing.{lane_of}
use Rattle.race_model.specs.History.{Entry, entry_of}
use Rattle.step_history.specs.declared.item.Item.{Item}
use Rattle.step_history.specs.declared.item.Deed.{Deed}
use Rattle.step_history.specs.declared.item.Deed.TheVariants.{Read, Write, Lock, Unlock, Split, Home, Update}
use Rattle.step_history.specs.History.{Name, name_eq, item, Legal}
use Rattle.step_history.proofs.Names.{is_same_name, same_name}
use Rattle.step_history.proofs.SplitsAndHomes.{split_before, home_after}
use Rattle.history_model.specs.Work.{Work, Rest, Put, Fork, Phases, NoPhase, Phase, TeamWork, NoWork, Beside}
use Rattle.history_model.specs.Did.{deeds_of, lane_count_of, phase_splits, split_count}
use Rattle.step_history.specs.Labels.{labelled_of, items_of}
use Rattle.history_laws.proofs.Counting.{counted_up, counted_over, counted_most, at_count, Stands, stands}
use Rattle.history_laws.proofs.LabelledWork.{Marked, marked, entry, records_at, regions_at, splits_marked, put_marked, did_marked, phases_marked, team_marked}
use Rattle.history_laws.proofs.WorkNames.{of_append, of_none, homes_marked, splits_own, put_none, put_own, not_below, outside, phases_outside, team_outside, team_own, longer, splits_none, apart_below, both_empty}
use Rattle.history_laws.proofs.TimedWork.{TimedRest, TimedPut, TimedFork, TimedNone, TimedPhase, TimedEmpty, TimedBeside, IsHandOf, StandsAt, Happened, Timing, PhasesTiming, TeamTiming, ArePhasesTimed}
use Rattle.history_laws.proofs.Windows.{There, there, get_left, get_either, SplitsBelow, splits_below-append, splits_below-up, named, done, item_at, ItemAt, at_item, Window, Halves, halves, InWindow, in_window, DidBelow}

-- a record has no deed, and no entry; or it has one of each, and its deed is no split
pub record OneDeed (word : ℕ → ℕ) (kind : Kind) (r : Record) (e : Entry) : Type 0 where
  pub deed : Deed
  pub deeds_are : deeds_of word kind r ≡ deed ∷ []
  pub entry_is : entry_of kind e ≡ e ∷ []
  pub no_split : (j lane span : ℕ) → deed ≡ Split j lane span → ⊥

pub deed_or_none : (word : ℕ → ℕ) (kind : Kind) (r : Record) (e : Entry) → ((deeds_of word kind r ≡ []) × (entry_of kind e ≡ [])) ⊎ OneDeed word kind r e
deed_or_none word kind.Read r e = inr (record { deed = Read (word r.addr) r.value; deeds_are = refl; entry_is = refl; no_split = λ j lane span is. cc })
deed_or_none word kind.Write r e = inr (record { deed = Write (word r.addr) r.value; deeds_are = refl; entry_is = refl; no_split = λ j lane span is. cc })
deed_or_none word kind.Lock r e = inr (record { deed = Lock r.addr; deeds_are = refl; entry_is = refl; no_split = λ j lane span is. cc })
deed_or_none word kind.Unlock r e = inr (record { deed = Unlock r.addr; deeds_are = refl; entry_is = refl; no_split = λ j lane span is. cc })
deed_or_none word kind.Barrier r e = inl (refl, refl)
deed_or_none word kind.Region r e = inl (refl, refl)
deed_or_none word kind.Chunk r e = inl (refl, refl)
deed_or_none word kind.End r e = inl (refl, refl)
deed_or_none word kind.Update r e = inr (record { deed = Update (word r.addr) r.value; deeds_are = refl; entry_is = refl; no_split = λ j lane span is. cc })

-- the splits and joins of a phase by their numbers
splits_length : (name : Name) (k lane span : ℕ) (team : TeamWork) → length (splits_marked name k lane span team) ≡ lane_count_of team
splits_length name k lane span NoWork = refl
splits_length name k lane span (Beside work others) = ap (λ (n : ℕ). suc n) (splits_length name (suc k) (suc lane) span others)

split_at : (name : Name) (k lane span : ℕ) (team : TeamWork) → SplitsBelow name (splits_marked name k lane span team) (k + lane_count_of team)
split_at name k lane span NoWork n x found j other all is = cc
split_at name k lane span (Beside work others) zero x found j other all is =
    let same : item name (Split k lane span) ≡ item name (Split j other all) = ap (λ (y : Marked). y.step) (same_Some (marked name (Split k lane span) []) x found) ∙ is in
    let deeds : Split k lane span ≡ Split j other all = ap (λ (y : Item). y.deed) same in
    let number : k ≡ j = cc in
    omega arith
split_at name k lane span (Beside work others) (suc n) x found j other all is = let less = split_at name (suc k) (suc lane) span others n x found j other all is in omega arith

homes_no_split : (name : Name) (k : ℕ) (team : TeamWork) (l : ℕ) → SplitsBelow name (homes_marked name k team) l
homes_no_split name k NoWork l n x found j lane span is = cc
homes_no_split name k (Beside work others) l zero x found j lane span is =
    let same : item name (Home k) ≡ item name (Split j lane span) = ap (λ (y : Marked). y.step) (same_Some (marked name (Home k) []) x found) ∙ is in
    let deeds : Home k ≡ Split j lane span = ap (λ (y : Item). y.deed) same in
    cc
homes_no_split name k (Beside work others) l (suc n) x found j lane span is = homes_no_split name (suc k) others l n x found j lane span is

home_at : (name : Name) (k : ℕ) (team : TeamWork) (n : ℕ) → n < lane_count_of team → slice_get (homes_marked name k team) n ≡ Some (marked name (Home (k + n)) [])
home_at name k NoWork n less = absurd (omega arith)
home_at name k (Beside work others) zero less = ap (λ (m : ℕ). Some (marked name (Home m) [])) (let e : k ≡ k + 0 = omega arith in e)
home_at name k (Beside work others) (suc n) less = home_at name (suc k) others n (omega arith) ∙ ap (λ (m : ℕ). Some (marked name (Home m) [])) (let e : suc k + n ≡ k + suc n = omega arith in e)

-- all entries of these items are of the path
abbrev pub OfPath : List Marked → List Step → Type 0
OfPath items path = (n : ℕ) (x : Marked) → slice_get items n ≡ Some x → (e : Entry) → x.label ≡ e ∷ [] → e.node.path ≡ path

of_path-append : (xs ys : List Marked) (path : List Step) → OfPath xs path → OfPath ys path → OfPath (xs ++ ys) path
of_path-append xs ys path left right n x found e label = at (get_either xs ys n x found) where
  at : (slice_get xs n ≡ Some x) ⊎ ((m : ℕ) × (n ≡ length xs + m) × (slice_get ys m ≡ Some x)) → e.node.path ≡ path
  at (inl here) = left n x here e label
  at (inr (m, same, later)) = right m x later e label

splits_path : (name : Name) (k lane span : ℕ) (team : TeamWork) (path : List Step) → OfPath (splits_marked name k lane span team) path
splits_path name k lane span NoWork path n x found e label = cc
splits_path name k lane span (Beside work others) path zero x found e label =
    let none : [] ≡ e ∷ [] = ap (λ (y : Marked). y.label) (same_Some (marked name (Split k lane span) []) x found) ∙ label in cc
splits_path name k lane span (Beside work others) path (suc n) x found e label = splits_path name (suc k) (suc lane) span others path n x found e label

homes_path : (name : Name) (k : ℕ) (team : TeamWork) (path : List Step) → OfPath (homes_marked name k team) path
homes_path name k NoWork path n x found e label = cc
homes_path name k (Beside work others) path zero x found e label =
    let none : [] ≡ e ∷ [] = ap (λ (y : Marked). y.label) (same_Some (marked name (Home k) []) x found) ∙ label in cc
homes_path name k (Beside work others) path (suc n) x found e label = homes_path name (suc k) others path n x found e label

module _ (word : ℕ → ℕ) where
  -- a hand's own items of a phase: its splits, then its joins
  team_items_own : (name : Name) (k : ℕ) (path : List Step) (g span : ℕ) (put forked : ℕ → ℕ) (team : TeamWork)
      → labelled_of name (splits_marked name k 0 span team ++ team_marked word name k path g span put forked 0 team) ≡ splits_marked name k 0 span team ++ homes_marked name k team
  team_items_own name k path g span put forked team =
      of_append name (splits_marked name k 0 span team) (team_marked word name k path g span put forked 0 team)
      ∙ ap₂ (λ (xs ys : List Marked). xs ++ ys) (splits_own name k 0 span team) (team_own word name k path g span put forked 0 team)

  phases_splits : (name : Name) (k : ℕ) (path : List Step) (g span : ℕ) (put forked : ℕ → ℕ) (phases : Phases) → SplitsBelow name (labelled_of name (phases_marked word name k path g span put forked phases)) (k + phase_splits phases)
  phases_splits name k path g span put forked NoPhase = λ n x found j lane all is. cc
  phases_splits name k path g span put forked (Phase team later) =
      subst (λ (xs : List Marked). SplitsBelow name xs (k + phase_splits (Phase team later)))
      (sym (of_append name (splits_marked name k 0 span team ++ team_marked word name k path g span put forked 0 team)
      (phases_marked word name (k + lane_count_of team) path g span (λ lane. put lane + records_at lane team) (λ lane. forked lane + regions_at lane team) later)))
      (splits_below-append name _ _ (k + phase_splits (Phase team later))
      (subst (λ (xs : List Marked). SplitsBelow name xs (k + phase_splits (Phase team later))) (sym (team_items_own name k path g span put forked team))
      (splits_below-append name (splits_marked name k 0 span team) (homes_marked name k team) (k + phase_splits (Phase team later))
      (splits_below-up name (splits_marked name k 0 span team) (k + lane_count_of team) (k + phase_splits (Phase team later)) (omega arith) (split_at name k 0 span team))
      (homes_no_split name k team (k + phase_splits (Phase team later)))))
      (splits_below-up name _ (k + lane_count_of team + phase_splits later) (k + phase_splits (Phase team later)) (omega arith)
      (phases_splits name (k + lane_count_of team) path g span (λ lane. put lane + records_at lane team) (λ lane. forked lane + regions_at lane team) later)))

  -- all entries of a hand's own items are of its path
  put_path : (name : Name) (path : List Step) (i : ℕ) (r : Record) (ds : List Deed) → OfPath (map (λ (d : Deed). marked name d (entry path i r ∷ [])) ds) path
  put_path name path i r [] n x found e label = cc
  put_path name path i r (d ∷ ds) zero x found e label =
      let same : entry path i r ∷ [] ≡ e ∷ [] = ap (λ (y : Marked). y.label) (same_Some (marked name d (entry path i r ∷ [])) x found) ∙ label in
      let entries : entry path i r ≡ e = cc in
      ap (λ (y : Entry). y.node.path) (sym entries)
  put_path name path i r (d ∷ ds) (suc n) x found e label = put_path name path i r ds n x found e label

  phases_path : (name : Name) (k : ℕ) (path above : List Step) (g span : ℕ) (put forked : ℕ → ℕ) (phases : Phases) → OfPath (labelled_of name (phases_marked word name k path g span put forked phases)) above
  phases_path name k path above g span put forked NoPhase = λ n x found e label. cc
  phases_path name k path above g span put forked (Phase team later) =
      subst (λ (xs : List Marked). OfPath xs above)
      (sym (of_append name (splits_marked name k 0 span team ++ team_marked word name k path g span put forked 0 team)
      (phases_marked word name (k + lane_count_of team) path g span (λ lane. put lane + records_at lane team) (λ lane. forked lane + regions_at lane team) later)))
      (of_path-append _ _ above
      (subst (λ (xs : List Marked). OfPath xs above) (sym (team_items_own name k path g span put forked team))
      (of_path-append (splits_marked name k 0 span team) (homes_marked name k team) above (splits_path name k 0 span team above) (homes_path name k team above)))
      (phases_path name (k + lane_count_of team) path above g span (λ lane. put lane + records_at lane team) (λ lane. forked lane + regions_at lane team) later))

  pub own_path : (name : Name) (k : ℕ) (path : List Step) (i g : ℕ) (work : Work) → OfPath (labelled_of name (did_marked word name k path i g work)) path
  own_path name k path i g Rest = λ n x found e label. cc
  own_path name k path i g (Put r more) =
      subst (λ (xs : List Marked). OfPath xs path) (sym (of_append name (put_marked word name path i r) (did_marked word name k path (i + 1) g more)))
      (of_path-append _ _ path (subst (λ (xs : List Marked). OfPath xs path) (sym (put_own word name path i r)) (put_path name path i r (deeds_of word r.kind r))) (own_path name k path (i + 1) g more))
  own_path name k path i g (Fork line span phases more) =
      subst (λ (xs : List Marked). OfPath xs path)
      (sym (of_append name (phases_marked word name k path g span (λ lane. 0) (λ lane. 0) phases) (did_marked word name (k + phase_splits phases) path (i + 1) (g + 1) more)))
      (of_path-append _ _ path (phases_path name k path path g span (λ lane. 0) (λ lane. 0) phases) (own_path name (k + phase_splits phases) path (i + 1) (g + 1) more))

  put_no_split : (name : Name) (path : List Step) (i : ℕ) (r : Record) (k : ℕ) → SplitsBelow name (labelled_of name (put_marked word name path i r)) k
  put_no_split name path i r k = subst (λ (xs : List Marked). SplitsBelow name xs k) (sym (put_own word name path i r)) (at (deed_or_none word r.kind r (entry path i r))) where
    at : ((deeds_of word r.kind r ≡ []) × (entry_of r.kind (entry path i r) ≡ [])) ⊎ OneDeed word r.kind r (entry path i r) → SplitsBelow name (put_marked word name path i r) k
    at (inl none) = subst (λ (ds : List Deed). SplitsBelow name (map (λ (d : Deed). marked name d (entry path i r ∷ [])) ds) k) (sym none.0) (λ n x found j lane span is. cc)
    at (inr one) = subst (λ (ds : List Deed). SplitsBelow name (map (λ (d : Deed). marked name d (entry path i r ∷ [])) ds) k) (sym one.deeds_are) only
      where
        only : SplitsBelow name (marked name one.deed (entry path i r ∷ []) ∷ []) k
        only zero x found j lane span is =
            let same : one.deed ≡ Split j lane span = ap (λ (y : Item). y.deed) (ap (λ (y : Marked). y.step) (same_Some (marked name one.deed (entry path i r ∷ [])) x found) ∙ is) in
            absurd (one.no_split j lane span same)
        only (suc n) x found j lane span is = cc

  module _ (history : List Marked) (legal : Legal (items_of history)) where
    -- the splits from the number k on are made from `start` on, and the joins of these numbers before `end`
    SplitsSince : Name → ℕ → ℕ → Type 0
    SplitsSince name k start = (n j lane span : ℕ) → k ≤ j → slice_get (items_of history) n ≡ Some (item name (Split j lane span)) → start ≤ n

    HomesBy : Name → ℕ → ℕ → ℕ → Type 0
    HomesBy name k count end = (j : ℕ) → k ≤ j → j < k + count → (n : ℕ) × (n < end) × (slice_get (items_of history) n ≡ Some (item name (Home j)))

    named_is : (name : Name) (x : Marked) → named history name x ≡ true → x.step.name ≡ name
    named_is name x is = same_name x.step.name name is

    -- a hand did nothing before its split, and all before its homecoming
    nothing_before : (name : Name) (k start : ℕ) → SplitsSince name k start → done history (k ∷ name) start ≤ 0
    unfolding SplitsSince
    nothing_before name k start since = by_count (cases_lt 0 (done history (k ∷ name) start)) where
      some : 0 < done history (k ∷ name) start → ⊥
      some more = at (there (labelled_of (k ∷ name) history) 0 (omega (arith, counted_most (named history (k ∷ name)) start history)))
        where
          at : There (labelled_of (k ∷ name) history) 0 → ⊥
          at first = by_stand (stands (named history (k ∷ name)) history 0 first.x first.found) where
            by_stand : Stands (named history (k ∷ name)) history 0 first.x → ⊥
            by_stand s =
                let split = split_before (items_of history) s.place first.x.step name k legal (item_at history s.place first.x s.found) (named_is (k ∷ name) first.x s.passes) in
                let late : start ≤ split.place = since split.place k split.lane split.span (omega arith) split.found in
                let none = counted_up (named history (k ∷ name)) start s.place history (omega (arith, split.before)) in
                omega (arith, s.number)

      by_count : (0 < done history (k ∷ name) start) ⊎ (done history (k ∷ name) start ≤ 0) → done history (k ∷ name) start ≤ 0
      by_count (inl more) = absurd (some more)
      by_count (inr none) = none

    all_by : (name : Name) (k end n : ℕ) → n < end → slice_get (items_of history) n ≡ Some (item name (Home k)) → length (labelled_of (k ∷ name) history) ≤ done history (k ∷ name) end
    all_by name k end n less home = by_count (cases_lt (done history (k ∷ name) end) (length (labelled_of (k ∷ name) history))) where
      later : done history (k ∷ name) end < length (labelled_of (k ∷ name) history) → ⊥
      later more = at (there (labelled_of (k ∷ name) history) (done history (k ∷ name) end) more) where
        at : There (labelled_of (k ∷ name) history) (done history (k ∷ name) end) → ⊥
        at t = by_stand (stands (named history (k ∷ name)) history (done history (k ∷ name) end) t.x t.found) where
          by_stand : Stands (named history (k ∷ name)) history (done history (k ∷ name) end) t.x → ⊥
          by_stand s =
              let before : s.place < n = home_after (items_of history) s.place t.x.step name k legal (item_at history s.place t.x s.found) (named_is (k ∷ name) t.x s.passes) n home in
              let over = counted_over (named history (k ∷ name)) s.place end history t.x s.found s.passes (omega arith) in
              omega (arith, s.number)

      by_count : (done history (k ∷ name) end < length (labelled_of (k ∷ name) history)) ⊎ (length (labelled_of (k ∷ name) history) ≤ done history (k ∷ name) end)
          → length (labelled_of (k ∷ name) history) ≤ done history (k ∷ name) end
      by_count (inl more) = absurd (later more)
      by_count (inr le) = le

    -- a record's own window
    put_timing : (name : Name) (k : ℕ) (path : List Step) (i g : ℕ) (r : Record) (more : Work) (before after : List Marked) (start end : ℕ) → IsHandOf history name path
        → Window history name k (split_count more) (put_marked word name path i r ++ did_marked word name k path (i + 1) g more) before after start end
        → ((middle : ℕ) → Window history name k (split_count more) (did_marked word name k path (i + 1) g more) (before ++ labelled_of name (put_marked word name path i r)) after middle end
        → Timing history path (i + 1) g middle end more)
        → Timing history path i g start end (Put r more)
    put_timing name k path i g r more before after start end hand w later = by_deed (deed_or_none word r.kind r (entry path i r))
      where
        h : Halves history name k k 0 (split_count more) (put_marked word name path i r) (did_marked word name k path (i + 1) g more) before after start end
        h = halves history name k k 0 (split_count more) (split_count more) (put_marked word name path i r) (did_marked word name k path (i + 1) g more) before after start end (omega arith) (omega arith) w
            (put_no_split name path i r k)
            (λ pre j less. outside word name pre j k path (i + 1) g more (inl less))
            (λ pre j le. put_none word name (pre ++ j ∷ name) path i r (λ e. longer name pre j (sym e)))

        rest : Timing history path (i + 1) g h.middle end more
        rest = later h.middle h.right

        by_deed : ((deeds_of word r.kind r ≡ []) × (entry_of r.kind (entry path i r) ≡ [])) ⊎ OneDeed word r.kind r (entry path i r) → Timing history path i g start end (Put r more)
        by_deed (inl none) = record {
          tree = TimedPut r start start rest.tree;
          plain_is = ap (λ (t : Work). Put r t) rest.plain_is;
          timed = (h.middle, omega arith, subst (λ (es : List Entry). Happened history es start start) (sym none.1) (omega arith), h.left.ordered, rest.timed);
        }
        by_deed (inr one) = at (in_window history name k 0 (put_marked word name path i r) before (labelled_of name (did_marked word name k path (i + 1) g more) ++ after) start h.middle 0
            (marked name one.deed (entry path i r ∷ [])) h.left first)
          where
            first : slice_get (labelled_of name (put_marked word name path i r)) 0 ≡ Some (marked name one.deed (entry path i r ∷ []))
            first =
                ap (λ (xs : List Marked). slice_get xs 0) (put_own word name path i r)
                ∙ ap (λ (ds : List Deed). slice_get (map (λ (d : Deed). marked name d (entry path i r ∷ [])) ds) 0) one.deeds_are

            at : InWindow history name start h.middle (length before + 0) (marked name one.deed (entry path i r ∷ [])) → Timing history path i g start end (Put r more)
            at s = record {
              tree = TimedPut r s.place (suc s.place) rest.tree;
              plain_is = ap (λ (t : Work). Put r t) rest.plain_is;
              timed = (h.middle, s.since, subst (λ (es : List Entry). Happened history es s.place (suc s.place)) (sym one.entry_is) (refl, stands_there), omega (arith, s.by), rest.timed);
            }
              where
                stands_there : StandsAt history (entry path i r) s.place
                stands_there = record { x = marked name one.deed (entry path i r ∷ []); found = s.found; label = refl; hand = hand }

    -- a hand whose items are these records for the task of their path
    pub hand_of : (name : Name) (path : List Step) (items : List Marked) → labelled_of name history ≡ labelled_of name items → OfPath (labelled_of name items) path → IsHandOf history name path
    hand_of name path items same own n x found named_so e label =
        let passes : named history name x ≡ true = ap (λ (m : Name). name_eq m name) named_so ∙ is_same_name name in
        own (done history name n) x (ap (λ (xs : List Marked). slice_get xs (done history name n)) (sym same) ∙ at_count (named history name) n history x found passes) e label

    -- what is known of the lanes of a phase, from the number k on
    record TeamWindow (name : Name) (k count : ℕ) (items : List Marked) (start end : ℕ) : Type 0 where
      since : SplitsSince name k start
      homes : HomesBy name k count end
      below : DidBelow history name k count items
      ordered : start ≤ end

    splits_since : (name : Name) (k count : ℕ) (items before after : List Marked) (start end : ℕ) → Window history name k count items before after start end → SplitsSince name k start
    unfolding SplitsSince
    splits_since name k count items before after start end w n j lane span le found = by_order (cases_lt n start) where
      early : n < start → ⊥
      early less = at (at_item history n (item name (Split j lane span)) found) where
        at : ItemAt history n (item name (Split j lane span)) → ⊥
        at i =
            let is_named : named history name i.x ≡ true = ap (λ (y : Item). name_eq y.name name) i.step_is ∙ is_same_name name in
            let over = counted_over (named history name) n start history i.x i.found is_named less in
            let there_too : slice_get (before ++ (labelled_of name items ++ after)) (done history name n) ≡ Some i.x
            = ap (λ (xs : List Marked). slice_get xs (done history name n)) (sym w.own) ∙ at_count (named history name) n history i.x i.found is_named in
            let here : slice_get before (done history name n) ≡ Some i.x = get_left before (labelled_of name items ++ after) (done history name n) i.x (omega (arith, w.began)) there_too in
            let less_too = w.fresh (done history name n) i.x here j lane span i.step_is in
            omega arith

      by_order : (n < start) ⊎ (start ≤ n) → start ≤ n
      by_order (inl less) = absurd (early less)
      by_order (inr le_too) = le_too

    homes_by : (name : Name) (k : ℕ) (path : List Step) (g span : ℕ) (put forked : ℕ → ℕ) (team : TeamWork) (before after : List Marked) (start end : ℕ)
        → Window history name k (lane_count_of team) (splits_marked name k 0 span team ++ team_marked word name k path g span put forked 0 team) before after start end
        → HomesBy name k (lane_count_of team) end
    unfolding HomesBy
    homes_by name k path g span put forked team before after start end w j low high =
        at (in_window history name k (lane_count_of team) items before after start end (lane_count_of team + (j - k)) (marked name (Home j) []) w found)
      where
        items : List Marked
        items = splits_marked name k 0 span team ++ team_marked word name k path g span put forked 0 team

        found : slice_get (labelled_of name items) (lane_count_of team + (j - k)) ≡ Some (marked name (Home j) [])
        found =
            ap (λ (xs : List Marked). slice_get xs (lane_count_of team + (j - k))) (team_items_own name k path g span put forked team)
            ∙ ap (λ (n : ℕ). slice_get (splits_marked name k 0 span team ++ homes_marked name k team) (n + (j - k))) (sym (splits_length name k 0 span team))
            ∙ get_right (splits_marked name k 0 span team) (homes_marked name k team) (j - k)
            ∙ home_at name k team (j - k) (omega arith)
            ∙ ap (λ (n : ℕ). Some (marked name (Home n) [])) (let e : k + (j - k) ≡ j = omega arith in e)

        at : InWindow history name start end (length before + (lane_count_of team + (j - k))) (marked name (Home j) []) → (n : ℕ) × (n < end) × (slice_get (items_of history) n ≡ Some (item name (Home j)))
        at s = (s.place, s.by, item_at history s.place (marked name (Home j) []) s.found)

    -- the window of the first lane, and what is known of the others
    module _ (name : Name) (k : ℕ) (path : List Step) (g span : ℕ) (put forked : ℕ → ℕ) (lane : ℕ) (work : Work) (others : TeamWork) (start end : ℕ)
        (w : TeamWindow name k (lane_count_of (Beside work others)) (team_marked word name k path g span put forked lane (Beside work others)) start end) where
      own_items : List Marked
      own_items = did_marked word (k ∷ name) 0 (lane_of path g lane span) (put lane) (forked lane) work

      other_items : List Marked
      other_items = team_marked word name (suc k) path g span put forked (suc lane) others

      -- the items of the first lane's hands, and of the others'
      first_own : (pre : Name) → labelled_of (pre ++ k ∷ name) history ≡ labelled_of (pre ++ k ∷ name) own_items
      unfolding own_items
      first_own pre =
          w.below pre k (omega arith) (omega arith)
          ∙ of_append (pre ++ k ∷ name) own_items (marked name (Home k) [] ∷ team_marked word name (suc k) path g span put forked (suc lane) others)
          ∙ ap (λ (xs : List Marked). labelled_of (pre ++ k ∷ name) own_items ++ xs)
          (of_none name (pre ++ k ∷ name) (Home k) [] (team_marked word name (suc k) path g span put forked (suc lane) others) (λ e. longer name pre k (sym e))
          ∙ team_outside word name pre k (suc k) path g span put forked (suc lane) others (inl (omega arith)))
          ∙ append-nil (labelled_of (pre ++ k ∷ name) own_items)

      others_own : (pre : Name) (j : ℕ) → suc k ≤ j → j < suc k + lane_count_of others → labelled_of (pre ++ j ∷ name) history ≡ labelled_of (pre ++ j ∷ name) other_items
      unfolding own_items other_items
      others_own pre j low high =
          w.below pre j (omega arith) (omega arith)
          ∙ of_append (pre ++ j ∷ name) own_items (marked name (Home k) [] ∷ other_items)
          ∙ ap₂ (λ (xs ys : List Marked). xs ++ ys)
          (not_below word (pre ++ j ∷ name) (k ∷ name) 0 (lane_of path g lane span) (put lane) (forked lane) work (λ other same. apart_below name pre other j k (λ e. absurd (omega arith)) same))
          (of_none name (pre ++ j ∷ name) (Home k) [] other_items (λ e. longer name pre j (sym e)))

      first_window : Window history (k ∷ name) 0 (split_count work) (did_marked word (k ∷ name) 0 (lane_of path g lane span) (put lane) (forked lane) work) [] [] start end
      unfolding own_items HomesBy SplitsSince
      first_window = record {
        own = first_own [] ∙ sym (append-nil (labelled_of (k ∷ name) own_items));
        below = λ pre j low high.
            subst (λ (m : Name). labelled_of m history ≡ labelled_of m own_items) (append_assoc pre (j ∷ []) (k ∷ name)) (first_own (pre ++ j ∷ []));
        fresh = λ n x found j l s is. cc;
        ordered = w.ordered;
        began = nothing_before name k start w.since;
        ended = ended (w.homes k (omega arith) (omega arith));
      } where
        ended : (n : ℕ) × (n < end) × (slice_get (items_of history) n ≡ Some (item name (Home k))) → 0 + length (labelled_of (k ∷ name) own_items) ≤ done history (k ∷ name) end
        ended (n, less, home) = let all = all_by name k end n less home in let same : length (labelled_of (k ∷ name) history) ≡ length (labelled_of (k ∷ name) own_items) = ap length (first_own []) in omega arith

      first_hand : IsHandOf history (k ∷ name) (lane_of path g lane span)
      unfolding own_items
      first_hand = hand_of (k ∷ name) (lane_of path g lane span) own_items (first_own [])
          (own_path (k ∷ name) 0 (lane_of path g lane span) (put lane) (forked lane) work)

      others_window : TeamWindow name (suc k) (lane_count_of others) (team_marked word name (suc k) path g span put forked (suc lane) others) start end
      unfolding other_items HomesBy SplitsSince
      others_window = record {
        since = λ n j l s le found. w.since n j l s (omega arith) found;
        homes = λ j low high. w.homes j (omega arith) (omega arith);
        below = others_own;
        ordered = w.ordered;
      }

    -- a phase: its window, and what is known of its lanes
    module _ (name : Name) (k : ℕ) (path : List Step) (g span : ℕ) (put forked : ℕ → ℕ) (team : TeamWork) (later : Phases) (before after : List Marked) (start end : ℕ)
        (w : Window history name k (phase_splits (Phase team later)) (phases_marked word name k path g span put forked (Phase team later)) before after start end) where
      team_items : List Marked
      team_items = splits_marked name k 0 span team ++ team_marked word name k path g span put forked 0 team

      abbrev later_items : List Marked
      later_items = phases_marked word name (k + lane_count_of team) path g span (λ lane. put lane + records_at lane team) (λ lane. forked lane + regions_at lane team) later

      phase_halves : Halves history name k (k + lane_count_of team) (lane_count_of team) (phase_splits later) team_items later_items before after start end
      unfolding team_items
      phase_halves = halves history name k (k + lane_count_of team) (lane_count_of team) (phase_splits later) (phase_splits (Phase team later)) team_items later_items before after start end refl refl w
          (subst (λ (xs : List Marked). SplitsBelow name xs (k + lane_count_of team)) (sym (team_items_own name k path g span put forked team))
          (splits_below-append name (splits_marked name k 0 span team) (homes_marked name k team) (k + lane_count_of team) (split_at name k 0 span team) (homes_no_split name k team (k + lane_count_of team))))
          (λ pre j less. phases_outside word name pre j (k + lane_count_of team) path g span _ _ later (inl less))
          (λ pre j le. both_empty (pre ++ j ∷ name) (splits_marked name k 0 span team) (team_marked word name k path g span put forked 0 team) (splits_none name (pre ++ j ∷ name) k 0 span team (λ e. longer name pre j (sym e)))
          (team_outside word name pre j k path g span put forked 0 team (inr le)))

      team_window : TeamWindow name k (lane_count_of team) (team_marked word name k path g span put forked 0 team) start phase_halves.middle
      unfolding team_items
      team_window = record {
        since = splits_since name k (lane_count_of team) team_items before (labelled_of name later_items ++ after) start phase_halves.middle phase_halves.left;
        homes = homes_by name k path g span put forked team before (labelled_of name later_items ++ after) start phase_halves.middle phase_halves.left;
        below = λ pre j low high. phase_halves.left.below pre j low high
            ∙ of_append (pre ++ j ∷ name) (splits_marked name k 0 span team) (team_marked word name k path g span put forked 0 team)
            ∙ ap (λ (xs : List Marked). xs ++ labelled_of (pre ++ j ∷ name) (team_marked word name k path g span put forked 0 team)) (splits_none name (pre ++ j ∷ name) k 0 span team (λ e. longer name pre j (sym e)));
        ordered = phase_halves.left.ordered;
      }

      phase_timing : TeamTiming history path g span put forked 0 start phase_halves.middle team
          → PhasesTiming history path g span (λ lane. put lane + records_at lane team) (λ lane. forked lane + regions_at lane team) phase_halves.middle end later
          → PhasesTiming history path g span put forked start end (Phase team later)
      phase_timing first rest = record {
        tree = TimedPhase first.tree rest.tree;
        plain_is = ap₂ (λ (t : TeamWork) (p : Phases). Phase t p) first.plain_is rest.plain_is;
        timed = (
          phase_halves.middle,
          first.timed,
          subst (λ (t : TeamWork). ArePhasesTimed history path g span (λ lane. put lane + records_at lane t) (λ lane. forked lane + regions_at lane t) phase_halves.middle end rest.tree) (sym first.plain_is) rest.timed,
        );
      }

    -- a fork: its phases, and what comes after them
    module _ (name : Name) (k : ℕ) (path : List Step) (i g line span : ℕ) (phases : Phases) (more : Work) (before after : List Marked) (start end : ℕ)
        (w : Window history name k (split_count (Fork line span phases more)) (did_marked word name k path i g (Fork line span phases more)) before after start end) where
      fork_halves : Halves history name k (k + phase_splits phases) (phase_splits phases) (split_count more)
          (phases_marked word name k path g span (λ lane. 0) (λ lane. 0) phases) (did_marked word name (k + phase_splits phases) path (i + 1) (g + 1) more) before after start end
      fork_halves = halves history name k (k + phase_splits phases) (phase_splits phases) (split_count more) (split_count (Fork line span phases more))
          (phases_marked word name k path g span (λ lane. 0) (λ lane. 0) phases) (did_marked word name (k + phase_splits phases) path (i + 1) (g + 1) more) before after start end refl refl w
          (phases_splits name k path g span (λ lane. 0) (λ lane. 0) phases)
          (λ pre j less. outside word name pre j (k + phase_splits phases) path (i + 1) (g + 1) more (inl less))
          (λ pre j le. phases_outside word name pre j k path g span (λ lane. 0) (λ lane. 0) phases (inr le))

      fork_timing : PhasesTiming history path g span (λ lane. 0) (λ lane. 0) start fork_halves.middle phases → Timing history path (i + 1) (g + 1) fork_halves.middle end more
          → Timing history path i g start end (Fork line span phases more)
      fork_timing first rest = record {
        tree = TimedFork line span start fork_halves.middle first.tree rest.tree;
        plain_is = ap₂ (λ (p : Phases) (t : Work). Fork line span p t) first.plain_is rest.plain_is;
        timed = (omega arith, first.timed, rest.timed);
      }

    -- each part of the tree has times within its window
    mutual
      pub times : (name : Name) (k : ℕ) (path : List Step) (i g : ℕ) (work : Work) (before after : List Marked) (start end : ℕ) → IsHandOf history name path
          → Window history name k (split_count work) (did_marked word name k path i g work) before after start end → Timing history path i g start end work
      times name k path i g Rest before after start end hand w = record { tree = TimedRest; plain_is = refl; timed = w.ordered }
      times name k path i g (Put r more) before after start end hand w =
          put_timing name k path i g r more before after start end hand w
          (λ middle right. times name k path (i + 1) g more (before ++ labelled_of name (put_marked word name path i r)) after middle end hand right)
      times name k path i g (Fork line span phases more) before after start end hand w =
          let h = fork_halves name k path i g line span phases more before after start end w in
          fork_timing name k path i g line span phases more before after start end w
          (phases_times name k path g span (λ lane. 0) (λ lane. 0) phases before (labelled_of name (did_marked word name (k + phase_splits phases) path (i + 1) (g + 1) more) ++ after) start h.middle h.left)
          (times name (k + phase_splits phases) path (i + 1) (g + 1) more (before ++ labelled_of name (phases_marked word name k path g span (λ lane. 0) (λ lane. 0) phases)) after h.middle end hand h.right)

      phases_times : (name : Name) (k : ℕ) (path : List Step) (g span : ℕ) (put forked : ℕ → ℕ) (phases : Phases) (before after : List Marked) (start end : ℕ)
          → Window history name k (phase_splits phases) (phases_marked word name k path g span put forked phases) before after start end → PhasesTiming history path g span put forked start end phases
      phases_times name k path g span put forked NoPhase before after start end w = record { tree = TimedNone; plain_is = refl; timed = w.ordered }
      phases_times name k path g span put forked (Phase team later) before after start end w =
          let h = phase_halves name k path g span put forked team later before after start end w in
          phase_timing name k path g span put forked team later before after start end w
          (team_times name k path g span put forked 0 team start h.middle (team_window name k path g span put forked team later before after start end w))
          (phases_times name (k + lane_count_of team) path g span (λ lane. put lane + records_at lane team) (λ lane. forked lane + regions_at lane team) later
          (before ++ labelled_of name (team_items name k path g span put forked team later before after start end w)) after h.middle end h.right)

      team_times : (name : Name) (k : ℕ) (path : List Step) (g span : ℕ) (put forked : ℕ → ℕ) (lane : ℕ) (team : TeamWork) (start end : ℕ)
          → TeamWindow name k (lane_count_of team) (team_marked word name k path g span put forked lane team) start end → TeamTiming history path g span put forked lane start end team
      team_times name k path g span put forked lane NoWork start end w = record { tree = TimedEmpty; plain_is = refl; timed = w.ordered }
      team_times name k path g span put forked lane (Beside work others) start end w =
          let first = times (k ∷ name) 0 (lane_of path g lane span) (put lane) (forked lane) work [] [] start end (first_hand name k path g span put forked lane work others start end w) (first_window name k path g span put forked lane work others start end w) in
          let rest = team_times name (suc k) path g span put forked (suc lane) others start end (others_window name k path g span put forked lane work others start end w) in
          record {
            tree = TimedBeside first.tree rest.tree;
            plain_is = ap₂ (λ (t : Work) (o : TeamWork). Beside t o) first.plain_is rest.plain_is;
            timed = (first.timed, rest.timed);
          }
