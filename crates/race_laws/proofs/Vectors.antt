-- The definitions of the race model, computed on worked runs, folders and indexes.
use Rattle.std.proofs.Common.{◌≡◌, ◌⊎◌, ℕ, ◌<◌, ◌%◌, List, [], ◌∷◌, refl, ap, arith, inl, inr, zero, suc, sym, subst, subst₂, ◌∙◌, ap₂, Some, ◌+◌, ◌-◌, ◌^◌, ◌++◌, Option, ◌≤◌, codes, get_or}
use Rattle.std.specs.Prelude.{slice_get, min, max, Contains, unwrap_or, map}
use Rattle.std.specs.List.Sorted.{IsStrictlySortedBy}
use Rattle.std.proofs.lemmas.Option.{same_Some, slice_get_within}
use Rattle.std.proofs.lemmas.List.Elements.{All-cons, All-nil}
use Rattle.sw_base.specs.declared.path.Step.{Step}
use Rattle.race_model.proofs.Labels.{label_before_first, label_before_rest}
use Rattle.log_format.specs.declared.record.Record.{Record}
use Rattle.log_format.specs.declared.record.Kind.{Kind}
use Rattle.log_format.specs.declared.record.Kind.TheVariants.{Write, Barrier, Region, End, Read, Lock, Unlock, Update, Chunk}
use Rattle.log_format.specs.Fitting.{wrapped}
use Rattle.log_format.specs.declared.format.Format.TheVariants.{First, Second}
use Rattle.race_model.specs.Trace.{Trace, logs_of, Logs, Node, record_at}
use Rattle.race_model.specs.Label.{Triple, IsLabel, IsLabelBefore, IsConcurrent}
use Rattle.race_model.specs.Order.{Edge, HappensBefore}
use Rattle.race_model.specs.Race.{IsAccess, IsChange, SharesByte, IsUnordered, IsRace, IsRacePair, Lists, held_at}
use Rattle.race_model.specs.History.{Entry, IsLegalHistory, IsHistory, RespectsOrder, entries_from, released, release, stored_value}
use Rattle.race_model.specs.Draws.{loop_draws, closed_loops, times_drawn, DrewEachOnce}
use Rattle.race_model.specs.Segment.{Event, segments_of}
use Rattle.race_model.specs.IndexFault.{IsBadRow}
use Rattle.race_model.specs.Row.{step_spelling, row_spelling, raw_of}
use Rattle.race_model.specs.Listing.{Ends, Forks, NoLane, Lane, listing}
use Rattle.race_model.specs.BadPlace.{no_index, bad_row, missing_log, bad_record, too_many_segments, IsEarlier, index_rank, record_rank}
use Rattle.race_laws.proofs.ForkJoinExample.{at_task, made, access, lane_of, lane_log, team, logs, root_forks, is_lane, team_is_fork_join}
use Rattle.race_laws.proofs.LabelLaw.{concurrent_unordered}
use Rattle.race_model.specs.declared.why.IndexWhy.TheVariants as index_why
use Rattle.race_model.specs.declared.why.RecordWhy.TheVariants as log_why

-- ---- labels of worked runs, and how they compare

abbrev mark : Kind → ℕ → Record
mark kind value = record { kind = kind; size = 0; site = 0; line = 1; addr = 0; value = value }

abbrev step : ℕ → ℕ → ℕ → Step
step region lane span = record { region = region; lane = lane; span = span }

abbrev triple : ℕ → ℕ → ℕ → Triple
triple offset span barrier = record { offset = offset; span = span; barrier = barrier }

abbrev write_and_end : List Record
write_and_end = mark Write 0 ∷ mark End 0 ∷ []

-- a team of two: lane 0 forks a team of two that writes and then waits, and lane 1 waits and then writes
abbrev nested : Trace
nested = record { path = []; records = mark Region 2 ∷ mark End 0 ∷ [] }
    ∷ record { path = step 0 0 2 ∷ []; records = mark Region 2 ∷ mark Barrier 0 ∷ mark End 0 ∷ [] }
    ∷ record { path = step 0 0 2 ∷ step 0 0 2 ∷ []; records = write_and_end }
    ∷ record { path = step 0 0 2 ∷ step 0 1 2 ∷ []; records = write_and_end }
    ∷ record { path = step 0 1 2 ∷ []; records = mark Barrier 0 ∷ write_and_end }
    ∷ []

pub inner_label : IsLabel (logs_of nested) (record { path = step 0 0 2 ∷ step 0 1 2 ∷ []; index = 0 }) (triple 0 1 0 ∷ triple 0 2 0 ∷ triple 1 2 0 ∷ [])
inner_label =
    IsLabel.lane (record { path = step 0 0 2 ∷ []; index = 0 }) _ 1 2 _ (record { event = mark Region 2; found = refl; region = refl; spans = refl; in_span = omega arith; child = refl })
    (IsLabel.lane (record { path = []; index = 0 }) _ 0 2 _ (record { event = mark Region 2; found = refl; region = refl; spans = refl; in_span = omega arith; child = refl })
    (IsLabel.root (record { path = []; index = 0 }) refl))

pub outer_label : IsLabel (logs_of nested) (record { path = step 0 1 2 ∷ []; index = 1 }) (triple 0 1 0 ∷ triple 1 2 1 ∷ [])
outer_label =
    IsLabel.lane (record { path = []; index = 0 }) _ 1 2 _ (record { event = mark Region 2; found = refl; region = refl; spans = refl; in_span = omega arith; child = refl })
    (IsLabel.root (record { path = []; index = 0 }) refl)

-- the smaller barrier number is before
pub barrier_orders_labels : IsLabelBefore (triple 0 1 0 ∷ triple 0 2 0 ∷ triple 1 2 0 ∷ []) (triple 0 1 0 ∷ triple 1 2 1 ∷ [])
barrier_orders_labels = IsLabelBefore.same _ _ _ (IsLabelBefore.differ _ _ _ _ (λ e. cc) (record { same_span = refl; earlier = inl (omega arith) }))

not_across : (n m b : ℕ) → n < 2 → m < 2 → (n ≡ m → ⊥) → (xs ys : List Triple) → IsLabelBefore (triple 0 1 0 ∷ triple n 2 b ∷ xs) (triple 0 1 0 ∷ triple m 2 b ∷ ys) → ⊥
not_across n m b n_lane m_lane apart xs ys before =
    decided (label_before_first _ _ xs ys (λ e. apart (ap (λ (t : Triple). t.offset) e)) (label_before_rest _ _ _ _ refl before)).earlier
  where
    decided : (b < b) ⊎ ((b ≡ b) × (n < m) × (n % 2 ≡ m % 2)) → ⊥
    decided (inl l) = omega arith
    decided (inr e) = let residue : n % 2 ≡ m % 2 = e.2 in apart (omega arith)

-- without the barrier the two are concurrent
pub lanes_concurrent : IsConcurrent (triple 0 1 0 ∷ triple 0 2 0 ∷ triple 1 2 0 ∷ []) (triple 0 1 0 ∷ triple 1 2 0 ∷ [])
lanes_concurrent = record { different = λ e. cc; not_before = not_across 0 1 0 (omega arith) (omega arith) (λ e. cc) _ _; not_after = not_across 1 0 0 (omega arith) (omega arith) (λ e. cc) _ _ }

-- two teams of two, one after the other: the writers' offsets at the root are in order
abbrev twice : Trace
twice = record { path = []; records = mark Region 2 ∷ mark Region 2 ∷ mark End 0 ∷ [] }
    ∷ record { path = step 0 0 2 ∷ []; records = write_and_end }
    ∷ record { path = step 0 1 2 ∷ []; records = write_and_end }
    ∷ record { path = step 1 0 2 ∷ []; records = write_and_end }
    ∷ record { path = step 1 1 2 ∷ []; records = write_and_end }
    ∷ []

pub first_team : IsLabel (logs_of twice) (record { path = step 0 1 2 ∷ []; index = 0 }) (triple 0 1 0 ∷ triple 1 2 0 ∷ [])
first_team =
    IsLabel.lane (record { path = []; index = 0 }) _ 1 2 _ (record { event = mark Region 2; found = refl; region = refl; spans = refl; in_span = omega arith; child = refl })
    (IsLabel.root (record { path = []; index = 0 }) refl)

pub second_team : IsLabel (logs_of twice) (record { path = step 1 0 2 ∷ []; index = 0 }) (triple 1 1 0 ∷ triple 0 2 0 ∷ [])
second_team =
    IsLabel.lane (record { path = []; index = 1 }) _ 0 2 _ (record { event = mark Region 2; found = refl; region = refl; spans = refl; in_span = omega arith; child = refl })
    (IsLabel.root (record { path = []; index = 1 }) refl)

pub teams_ordered : IsLabelBefore (triple 0 1 0 ∷ triple 1 2 0 ∷ []) (triple 1 1 0 ∷ triple 0 2 0 ∷ [])
teams_ordered = IsLabelBefore.differ _ _ _ _ (λ e. cc) (record { same_span = refl; earlier = inr (refl, omega arith, refl) })

-- ---- races: lane 0 writes the bytes 100 to 107 in line 5; lane 1 reads byte 107 in line 6, and after a barrier byte 100 in line 7.
-- The first two race, and nothing else does

-- the record of a lane with this index
abbrev at : ℕ → ℕ → Node
at lane index = record { path = lane_of lane; index = index }

abbrev writes_first : Record
writes_first = access Write 8 5 100

abbrev reads_last : Record
reads_last = access Read 1 6 107

first_label : (n : ℕ) → n < 2 → IsLabel logs (at n 0) (triple 0 1 0 ∷ triple n 2 0 ∷ [])
first_label zero h = IsLabel.lane root_forks _ 0 2 _ (is_lane 0 h) (IsLabel.root root_forks refl)
first_label (suc zero) h = IsLabel.lane root_forks _ 1 2 _ (is_lane 1 h) (IsLabel.root root_forks refl)
first_label (suc (suc n)) h = absurd (omega arith)

abbrev second_offset : List Triple → ℕ
second_offset (x ∷ y ∷ ys) = y.offset
second_offset _ = 0

lanes_unordered : IsUnordered logs (at 0 0) (at 1 0)
lanes_unordered =
    concurrent_unordered logs (at 0 0) (at 1 0) _ _ team_is_fork_join (omega arith) (omega arith) (first_label 0 (omega arith)) (first_label 1 (omega arith))
    (record { different = λ e. let offsets : 0 ≡ 1 = ap second_offset e in cc; not_before = not_across 0 1 0 (omega arith) (omega arith) (λ e. cc) _ _; not_after = not_across 1 0 0 (omega arith) (omega arith) (λ e. cc) _ _ })

-- they share byte 107
pub one_byte_shared : SharesByte writes_first reads_last
one_byte_shared = (107, record { from_start = omega arith; to_end = omega arith }, record { from_start = omega arith; to_end = omega arith })

-- one byte further on they share none
pub next_byte_apart : SharesByte writes_first (access Read 1 6 108) → ⊥
next_byte_apart (byte, left, right) = let below = left.to_end in let above = right.from_start in omega arith

holds_none : (m : ℕ) → Contains (held_at logs (at 0 0)) m → ⊥
holds_none m (k, within, is) = omega arith

pub lanes_race : IsRacePair logs (5, 6)
lanes_race = record {
  x = at 0 0;
  y = at 1 0;
  r = writes_first;
  s = reads_last;
  race = record {
    left = refl;
    right = refl;
    left_access = inr (inl refl);
    right_access = inl refl;
    unordered = lanes_unordered;
    shares = one_byte_shared;
    changes = inl (inl refl);
    not_both_updates = λ left right. cc;
    no_mutex = λ m left right. holds_none m left;
  };
  lines = refl;
}

-- the barrier orders the write before the read behind it
pub barrier_orders : HappensBefore logs (at 0 0) (at 1 2)
barrier_orders =
    HappensBefore.step (at 0 0) (at 0 1) (at 1 2) (record { from_there = omega arith; to_there = omega arith; edge = Edge.next (record { same_log = refl; after = refl }) })
    (HappensBefore.step (at 0 1) (at 1 2) (at 1 2)
    (record {
      from_there = omega arith;
      to_there = omega arith;
      edge = Edge.barrier (record {
        fork = root_forks;
        span = 2;
        from_lane = 0;
        from_team = is_lane 0 (omega arith);
        reached = record { event = _; found = refl; kind_is = refl };
        met = at 1 1;
        to_lane = 1;
        to_team = is_lane 1 (omega arith);
        meets = record { event = _; found = refl; kind_is = refl };
        same_number = refl;
        after = record { same_log = refl; after = refl };
      });
    })
    (HappensBefore.here (at 1 2)))

-- ---- nothing else races

-- the three accesses of the run
data Which (x : Node) (r : Record) : Type 0 where
  writer : x ≡ at 0 0 → writes_first ≡ r → Which x r
  reader : x ≡ at 1 0 → reads_last ≡ r → Which x r
  later : x ≡ at 1 2 → access Read 1 7 100 ≡ r → Which x r

OneOfThree : List Step → List Record → Type 0
OneOfThree path records = (i : ℕ) (r : Record) → slice_get records i ≡ Some r → IsAccess r → Which (record { path = path; index = i }) r

not_access : (one r : Record) → (IsAccess one → ⊥) → Some one ≡ Some r → IsAccess r → ⊥
not_access one r other found is = other (subst IsAccess (sym (same_Some one r found)) is)

is_no_access : (r : Record) → (r.kind ≡ Read → ⊥) → (r.kind ≡ Write → ⊥) → (r.kind ≡ Update → ⊥) → IsAccess r → ⊥
is_no_access r no_read no_write no_update (inl e) = no_read e
is_no_access r no_read no_write no_update (inr (inl e)) = no_write e
is_no_access r no_read no_write no_update (inr (inr e)) = no_update e

root_three : OneOfThree [] (made Region 2 ∷ made End 0 ∷ [])
unfolding OneOfThree
root_three zero r found is = absurd (not_access (made Region 2) r (is_no_access (made Region 2) (λ e. cc) (λ e. cc) (λ e. cc)) found is)
root_three (suc zero) r found is = absurd (not_access (made End 0) r (is_no_access (made End 0) (λ e. cc) (λ e. cc) (λ e. cc)) found is)
root_three (suc (suc i)) r found is = cc

writer_three : OneOfThree (lane_of 0) (lane_log 0)
unfolding OneOfThree
writer_three zero r found is = Which.writer refl (same_Some writes_first r found)
writer_three (suc zero) r found is = absurd (not_access (made Barrier 0) r (is_no_access (made Barrier 0) (λ e. cc) (λ e. cc) (λ e. cc)) found is)
writer_three (suc (suc zero)) r found is = absurd (not_access (made End 0) r (is_no_access (made End 0) (λ e. cc) (λ e. cc) (λ e. cc)) found is)
writer_three (suc (suc (suc i))) r found is = cc

reader_three : OneOfThree (lane_of 1) (lane_log 1)
unfolding OneOfThree
reader_three zero r found is = Which.reader refl (same_Some reads_last r found)
reader_three (suc zero) r found is = absurd (not_access (made Barrier 0) r (is_no_access (made Barrier 0) (λ e. cc) (λ e. cc) (λ e. cc)) found is)
reader_three (suc (suc zero)) r found is = Which.later refl (same_Some (access Read 1 7 100) r found)
reader_three (suc (suc (suc zero))) r found is = absurd (not_access (made End 0) r (is_no_access (made End 0) (λ e. cc) (λ e. cc) (λ e. cc)) found is)
reader_three (suc (suc (suc (suc i)))) r found is = cc

which : (x : Node) (r : Record) → record_at logs x ≡ Some r → IsAccess r → Which x r
unfolding OneOfThree
which x r found is =
    let there = slice_get_within (logs x.path) x.index r found in
    at_task OneOfThree team x.path (root_three, (writer_three, (reader_three, tt))) (omega arith) x.index r found is

reads_only : (r : Record) → r.kind ≡ Read → IsChange r → ⊥
reads_only r reads (inl e) = cc
reads_only r reads (inr e) = cc

no_write : (r s : Record) → r.kind ≡ Read → s.kind ≡ Read → IsChange r ⊎ IsChange s → ⊥
no_write r s left right (inl e) = reads_only r left e
no_write r s left right (inr e) = reads_only s right e

lines_of : (a r b s : Record) (pair : ℕ × ℕ) → a ≡ r → b ≡ s → pair ≡ (min r.line s.line, max r.line s.line) → pair ≡ (min a.line b.line, max a.line b.line)
lines_of a r b s pair left right e = e ∙ ap₂ (λ (t u : Record). (min t.line u.line, max t.line u.line)) (sym left) (sym right)

ordered : (x y a b : Node) → x ≡ a → y ≡ b → HappensBefore logs a b → HappensBefore logs x y
ordered x y a b left right before = subst₂ (λ (u v : Node). HappensBefore logs u v) (sym left) (sym right) before

no_other : (pair : ℕ × ℕ) (x y : Node) (r s : Record) → IsRace logs x y r s → pair ≡ (min r.line s.line, max r.line s.line) → Which x r → Which y s → pair ≡ (5, 6)
no_other pair x y r s race lines (Which.writer px r_is) (Which.writer py s_is) =
    absurd (race.unordered.not_before (ordered x y (at 0 0) (at 0 0) px py (HappensBefore.here (at 0 0))))
no_other pair x y r s race lines (Which.writer px r_is) (Which.reader py s_is) = lines_of writes_first r reads_last s pair r_is s_is lines
no_other pair x y r s race lines (Which.writer px r_is) (Which.later py s_is) = absurd (race.unordered.not_before (ordered x y (at 0 0) (at 1 2) px py barrier_orders))
no_other pair x y r s race lines (Which.reader px r_is) (Which.writer py s_is) = lines_of reads_last r writes_first s pair r_is s_is lines
no_other pair x y r s race lines (Which.later px r_is) (Which.writer py s_is) = absurd (race.unordered.not_after (ordered y x (at 0 0) (at 1 2) py px barrier_orders))
no_other pair x y r s race lines (Which.reader px r_is) (Which.reader py s_is) = absurd (no_write r s (sym (ap (λ (t : Record). t.kind) r_is)) (sym (ap (λ (t : Record). t.kind) s_is)) race.changes)
no_other pair x y r s race lines (Which.reader px r_is) (Which.later py s_is) = absurd (no_write r s (sym (ap (λ (t : Record). t.kind) r_is)) (sym (ap (λ (t : Record). t.kind) s_is)) race.changes)
no_other pair x y r s race lines (Which.later px r_is) (Which.reader py s_is) = absurd (no_write r s (sym (ap (λ (t : Record). t.kind) r_is)) (sym (ap (λ (t : Record). t.kind) s_is)) race.changes)
no_other pair x y r s race lines (Which.later px r_is) (Which.later py s_is) = absurd (no_write r s (sym (ap (λ (t : Record). t.kind) r_is)) (sym (ap (λ (t : Record). t.kind) s_is)) race.changes)

only_these : (pair : ℕ × ℕ) → IsRacePair logs pair → pair ≡ (5, 6)
only_these pair p =
    no_other pair p.x p.y p.r p.s p.race p.lines (which p.x p.r p.race.left p.race.left_access) (which p.y p.s p.race.right p.race.right_access)

one_pair : (pair : ℕ × ℕ) → Contains ((5, 6) ∷ []) pair → (5, 6) ≡ pair
one_pair pair (zero, within, is) = is
one_pair pair (suc k, within, is) = absurd (omega arith)

-- the report of this run lists one pair
pub one_race_listed : Lists (IsRacePair logs) ((5, 6) ∷ [])
unfolding IsStrictlySortedBy
one_race_listed = record {
  ascending = (tt, tt);
  each = λ pair. ((λ in_list. subst (IsRacePair logs) (one_pair pair in_list) lanes_race), (λ races. (0, omega arith, sym (only_these pair races))));
}

-- ---- updates: two that no record orders

module _ (logs : Logs) (x y : Node) where
  -- don't race, whatever their sizes are
  pub updates_are_no_race : IsRace logs x y (access Update 8 5 4096) (access Update 4 6 4100) → ⊥
  updates_are_no_race race = race.not_both_updates refl refl

  -- one races with a read of a byte of it
  pub update_and_read_race : record_at logs x ≡ Some (access Update 8 5 4096) → record_at logs y ≡ Some (access Read 4 6 4100) → IsUnordered logs x y
      → ((m : ℕ) → Contains (held_at logs x) m → Contains (held_at logs y) m → ⊥) → IsRacePair logs (5, 6)
  update_and_read_race left right unordered no_mutex = record {
    x = x;
    y = y;
    r = access Update 8 5 4096;
    s = access Read 4 6 4100;
    race = record {
      left = left;
      right = right;
      left_access = inr (inr refl);
      right_access = inl refl;
      unordered = unordered;
      shares = (4100, record { from_start = omega arith; to_end = omega arith }, record { from_start = omega arith; to_end = omega arith });
      changes = inl (inr refl);
      not_both_updates = λ left right. cc;
      no_mutex = no_mutex;
    };
    lines = refl;
  }

  -- and with a plain write
  pub write_and_update_race : record_at logs x ≡ Some (access Write 8 5 4096) → record_at logs y ≡ Some (access Update 4 6 4100) → IsUnordered logs x y
      → ((m : ℕ) → Contains (held_at logs x) m → Contains (held_at logs y) m → ⊥) → IsRace logs x y (access Write 8 5 4096) (access Update 4 6 4100)
  write_and_update_race left right unordered no_mutex = record {
    left = left;
    right = right;
    left_access = inr (inl refl);
    right_access = inr (inr refl);
    unordered = unordered;
    shares = (4100, record { from_start = omega arith; to_end = omega arith }, record { from_start = omega arith; to_end = omega arith });
    changes = inr (inr refl);
    not_both_updates = λ left right. cc;
    no_mutex = no_mutex;
  }

-- ---- mutexes: a task takes mutex 3, and mutex 5 inside it, and writes before each record that gives one back

abbrev locked : List Record
locked = access Lock 0 1 3 ∷ access Lock 0 2 5 ∷ access Write 8 3 100 ∷ access Unlock 0 4 5 ∷ access Write 8 5 100 ∷ access Unlock 0 6 3 ∷ made End 0 ∷ []

abbrev alone : Logs
alone = logs_of (record { path = []; records = locked } ∷ [])

abbrev held_before : ℕ → List ℕ
held_before index = held_at alone (record { path = []; index = index })

pub both_held : held_before 2 ≡ 3 ∷ 5 ∷ []
both_held = refl

pub outer_held : held_before 4 ≡ 3 ∷ []
outer_held = refl

pub none_held : held_before 6 ≡ []
none_held = refl

-- ---- histories: two lanes that count in one word under a mutex, in a legal order and in others; a barrier; a task that stops while
-- it holds two mutexes; updates

abbrev word : Kind → ℕ → Record
word kind value = record { kind = kind; size = 8; site = 0; line = 1; addr = 4096; value = value }

abbrev mutex : Kind → ℕ → Record
mutex kind number = record { kind = kind; size = 0; site = 0; line = 1; addr = number; value = 0 }

-- each lane adds 1 to what it finds
abbrev adds : ℕ → List Record
adds found = mutex Lock 3 ∷ word Read found ∷ word Write (found + 1) ∷ mutex Unlock 3 ∷ []

abbrev of_lane : ℕ → ℕ → Record → Entry
of_lane lane index r = record { node = record { path = lane_of lane; index = index }; event = r }

abbrev all_of_lane : ℕ → ℕ → List Entry
all_of_lane lane found = of_lane lane 0 (mutex Lock 3) ∷ of_lane lane 1 (word Read found) ∷ of_lane lane 2 (word Write (found + 1)) ∷ of_lane lane 3 (mutex Unlock 3) ∷ []

-- one lane after the other, the second finding what the first left
pub in_turn_is_legal : IsLegalHistory (all_of_lane 1 0 ++ all_of_lane 0 1)
in_turn_is_legal = (refl, (refl, (tt, (refl, (refl, (refl, (tt, (refl, tt))))))))

pub in_turn_leaves_two : stored_value 4096 (all_of_lane 1 0 ++ all_of_lane 0 1) ≡ 2
in_turn_leaves_two = refl

not_same : (m n : ℕ) → m ≡ n → m < n → ⊥
not_same m n e less = omega arith

-- a read has the last value, and no earlier one
pub earlier_value_is_illegal : IsLegalHistory (all_of_lane 1 0 ++ all_of_lane 0 0) → ⊥
earlier_value_is_illegal legal = not_same 0 1 legal.1.1.1.1.1.0 (omega arith)

-- no mutex is locked twice
pub two_locks_are_illegal : IsLegalHistory (of_lane 0 0 (mutex Lock 3) ∷ of_lane 1 0 (mutex Lock 3) ∷ []) → ⊥
two_locks_are_illegal legal = let lock = legal.1.0 in cc

-- and none is unlocked by another task
pub other_unlock_is_illegal : IsLegalHistory (of_lane 0 0 (mutex Lock 3) ∷ of_lane 1 0 (mutex Unlock 3) ∷ []) → ⊥
other_unlock_is_illegal legal = let unlock = legal.1.0 in absurd (apart unlock) where
  apart : Some (lane_of 0) ≡ Some (lane_of 1) → ⊥
  apart same = not_same 0 1 (ap lane_number same) (omega arith) where
    lane_number : Option (List Step) → ℕ
    lane_number (Some (first_step ∷ more)) = first_step.lane
    lane_number _ = 0

abbrev two_lanes : Trace
two_lanes = record { path = lane_of 0; records = adds 1 } ∷ record { path = lane_of 1; records = adds 0 } ∷ []

-- a history has each record of a log
pub left_out_is_none : IsHistory (logs_of two_lanes) (all_of_lane 1 0) → ⊥
left_out_is_none is = by_release (is.is_released (lane_of 0)) where
  none : [] ≡ entries_from (lane_of 0) 0 (is.full (lane_of 0))
  none = is.each (lane_of 0)

  by_release : (is.full (lane_of 0) ≡ adds 1) ⊎ (is.full (lane_of 0) ≡ adds 1 ++ []) → ⊥
  by_release (inl same) = let no_entry : [] ≡ entries_from (lane_of 0) 0 (adds 1) = none ∙ ap (λ (rs : List Record). entries_from (lane_of 0) 0 rs) same in cc
  by_release (inr same) = let no_entry : [] ≡ entries_from (lane_of 0) 0 (adds 1) = none ∙ ap (λ (rs : List Record). entries_from (lane_of 0) 0 rs) same in cc

-- what a barrier orders stands in its order, though each lane's own order allows another
pub across_a_barrier : RespectsOrder logs (record { node = at 1 2; event = access Read 1 7 100 } ∷ record { node = at 0 0; event = access Write 8 5 100 } ∷ []) → ⊥
across_a_barrier order = order [] [] [] (record { node = at 1 2; event = access Read 1 7 100 }) (record { node = at 0 0; event = access Write 8 5 100 }) refl barrier_orders

-- what is held at a stop is released, the innermost first
pub innermost_first : released (mutex Lock 1 ∷ mutex Lock 2 ∷ word Write 5 ∷ []) ≡ mutex Lock 1 ∷ mutex Lock 2 ∷ word Write 5 ∷ release 2 ∷ release 1 ∷ []
innermost_first = refl

pub nothing_held : released (adds 0) ≡ adds 0
nothing_held = refl

-- an element of one byte, and one beside it
abbrev one_byte : Kind → ℕ → ℕ → Record
one_byte kind addr value = record { kind = kind; size = 1; site = 0; line = 1; addr = addr; value = value }

-- 100 and 100 more are -56 in a byte, whose neighbour stays
abbrev added : List Entry
added = of_lane 0 0 (one_byte Write 4096 100) ∷ of_lane 1 0 (one_byte Update 4096 100) ∷ of_lane 1 1 (one_byte Update 4097 1) ∷ []

pub sum_is_cut : stored_value 4096 added ≡ 2 ^ 64 - 56
unfolding wrapped
sum_is_cut = refl

pub neighbour_has_its_own : stored_value 4097 added ≡ 1
unfolding wrapped
neighbour_has_its_own = refl

-- a read behind an update has the sum
pub sum_is_read : IsLegalHistory (added ++ of_lane 0 1 (one_byte Read 4096 (2 ^ 64 - 56)) ∷ [])
unfolding wrapped
sum_is_read = (tt, (tt, (tt, (refl, tt))))

-- ---- draws: two lanes, and two dynamic loops of three chunks and of one

abbrev chunk : ℕ → ℕ → Record
chunk number count = record { kind = Chunk; size = 0; site = 0; line = 3; addr = number; value = count }

abbrev between_loops : Record
between_loops = record { kind = Barrier; size = 0; site = 0; line = 3; addr = 0; value = 0 }

abbrev first_lane : List Record
first_lane = chunk 0 3 ∷ chunk 2 3 ∷ chunk 3 3 ∷ between_loops ∷ chunk 1 1 ∷ []

abbrev second_lane : List Record
second_lane = chunk 1 3 ∷ chunk 3 3 ∷ between_loops ∷ chunk 0 1 ∷ []

pub first_drew : loop_draws 0 first_lane ≡ 0 ∷ 2 ∷ []
first_drew = refl

pub first_drew_none : loop_draws 1 first_lane ≡ []
first_drew_none = refl

-- the loop isn't closed there, and the one after it hasn't begun
pub second_drew : loop_draws 1 second_lane ≡ 0 ∷ []
second_drew = refl

pub second_has_no_third : loop_draws 2 second_lane ≡ []
second_has_no_third = refl

pub first_closed : closed_loops first_lane ≡ 3 ∷ 1 ∷ []
first_closed = refl

pub second_closed : closed_loops second_lane ≡ 3 ∷ []
second_closed = refl

abbrev Closes : ℕ → ℕ → List Record → Type 0
Closes loop n records = (m : ℕ) → slice_get (closed_loops records) loop ≡ Some m → m ≡ n

pub each_once : DrewEachOnce (first_lane ∷ second_lane ∷ []) 0 3
each_once = record {
  once = once;
  no_other = none_else;
  closed = All-cons (Closes 0 3) first_lane (second_lane ∷ []) (λ m found. sym (same_Some 3 m found)) (All-cons (Closes 0 3) second_lane [] (λ m found. sym (same_Some 3 m found)) (All-nil (Closes 0 3)));
} where
  once : (number : ℕ) → number < 3 → times_drawn 0 (first_lane ∷ second_lane ∷ []) number ≡ 1
  once zero h = refl
  once (suc zero) h = refl
  once (suc (suc zero)) h = refl
  once (suc (suc (suc n))) h = absurd (omega arith)

  none_else : (number : ℕ) → 3 ≤ number → times_drawn 0 (first_lane ∷ second_lane ∷ []) number ≡ 0
  none_else zero h = absurd (omega arith)
  none_else (suc zero) h = absurd (omega arith)
  none_else (suc (suc zero)) h = absurd (omega arith)
  none_else (suc (suc (suc n))) h = grind arith

not_one : (n : ℕ) → n ≡ 1 → (n ≡ 1 → ⊥) → ⊥
not_one n same other = other same

-- a chunk that two lanes draw is refused
pub twice_is_refused : DrewEachOnce (first_lane ∷ first_lane ∷ []) 0 3 → ⊥
twice_is_refused drew = not_one 2 (drew.once 0 (omega arith)) (λ e. omega arith)

-- and one that none draws
pub missing_is_refused : DrewEachOnce (second_lane ∷ []) 0 3 → ⊥
missing_is_refused drew = not_one 0 (drew.once 0 (omega arith)) (λ e. omega arith)

-- ---- the segments of a log

abbrev plain : Kind → ℕ → Record
plain kind addr = record { kind = kind; size = 8; site = 0; line = 1; addr = addr; value = 0 }

abbrev event_at : ℕ → Record → List ℕ → Event
event_at number event held = record { number = number; event = event; held = held }

-- a Region without an access before it, a read and a write under a mutex, a barrier, and a write
pub parted : segments_of (record { path = []; records = plain Region 0 ∷ plain Lock 7 ∷ plain Read 64 ∷ plain Unlock 7 ∷ plain Barrier 0 ∷ plain Write 72 ∷ plain End 0 ∷ [] } ∷ [])
    ≡ record { path = []; first = 2; last = 4; accesses = event_at 3 (plain Read 64) (7 ∷ []) ∷ [] }
    ∷ record { path = []; first = 6; last = 7; accesses = event_at 6 (plain Write 72) [] ∷ [] } ∷ []
parted = refl

-- ---- the spelling of a row, the listing of a tree, and the headers of older indexes

-- lane 0 of 2 of the root's region 0, with ten records
pub lane_spelled : row_spelling (raw_of (record { path = record { region = 0; lane = 0; span = 2 } ∷ []; records = 10 }))
    ≡ 0 ∷ 0 ∷ 0 ∷ 1 ∷ 0 ∷ 0 ∷ 0 ∷ 0
    ∷ 0 ∷ 0 ∷ 0 ∷ 0 ∷ 0 ∷ 0 ∷ 0 ∷ 2
    ∷ 0 ∷ 0 ∷ 0 ∷ 0 ∷ 0 ∷ 0 ∷ 0 ∷ 0 ∷ 0 ∷ 0 ∷ 0 ∷ 0 ∷ 0 ∷ 0 ∷ 0 ∷ 0 ∷ 0 ∷ 0 ∷ 0 ∷ 0 ∷ 0 ∷ 0 ∷ 0 ∷ 0
    ∷ 0 ∷ 0 ∷ 0 ∷ 0 ∷ 0 ∷ 0 ∷ 0 ∷ 10 ∷ []
unfolding row_spelling step_spelling
lane_spelled = refl

-- a lane of a lane of the third region
pub nested_spelled : row_spelling (raw_of (record { path = record { region = 2; lane = 1; span = 3 } ∷ record { region = 0; lane = 256; span = 513 } ∷ []; records = 65538 }))
    ≡ 0 ∷ 0 ∷ 0 ∷ 2 ∷ 0 ∷ 0 ∷ 0 ∷ 0
    ∷ 0 ∷ 0 ∷ 0 ∷ 2 ∷ 0 ∷ 1 ∷ 0 ∷ 3
    ∷ 0 ∷ 0 ∷ 0 ∷ 0 ∷ 1 ∷ 0 ∷ 2 ∷ 1
    ∷ 0 ∷ 0 ∷ 0 ∷ 0 ∷ 0 ∷ 0 ∷ 0 ∷ 0 ∷ 0 ∷ 0 ∷ 0 ∷ 0 ∷ 0 ∷ 0 ∷ 0 ∷ 0
    ∷ 0 ∷ 0 ∷ 0 ∷ 0 ∷ 0 ∷ 1 ∷ 0 ∷ 2 ∷ []
unfolding row_spelling step_spelling
nested_spelled = refl

-- a root with a region of two lanes, of which the first has a region of one lane, and then a region of one lane
pub tree_listed : listing (Forks (Forks Ends NoLane Ends) (Lane Ends NoLane) (Forks Ends NoLane Ends))
    ≡ [] ∷ (step 0 0 2 ∷ []) ∷ (step 0 0 2 ∷ step 0 0 1 ∷ []) ∷ (step 0 1 2 ∷ []) ∷ (step 1 0 1 ∷ []) ∷ []
tree_listed = refl

-- an index of the first format is an old one to the second
pub old_index : IsBadRow Second (codes "SWIDX001") 0 index_why.Old
old_index = (refl, refl)

-- another file isn't
pub other_index : IsBadRow Second (codes "SWIDX003") 0 index_why.Old → ⊥
other_index bad = not_same 49 51 (ap (λ (o : Option (List ℕ)). get_or (unwrap_or o []) 7 0) bad.1) (omega arith)

-- and to the first format no index is old
pub none_is_older : (bytes : List ℕ) (n : ℕ) → IsBadRow First bytes n index_why.Old → ⊥
none_is_older bytes n bad = let no_header = bad.1 in cc

-- ---- bad places, of which the first that is read is named; the rules of one row and of one record in the order in which they are tried

pub no_index_first : IsEarlier no_index (bad_row 0 index_why.Header)
no_index_first = refl

-- rows by number, and in one row by rule
pub rows_by_number : IsEarlier (bad_row 2 index_why.Records) (bad_row 10 index_why.Cut)
rows_by_number = refl

pub row_by_rule : IsEarlier (bad_row 2 index_why.Order) (bad_row 2 index_why.Records)
row_by_rule = refl

-- the whole index before the first log
pub index_before_logs : IsEarlier (bad_row 65537 index_why.TooMany) (missing_log 1)
index_before_logs = refl

-- logs by row, whatever is wrong with them
pub logs_by_row : IsEarlier (bad_record 2 7 log_why.Cut) (missing_log 3)
logs_by_row = refl

pub missing_before_its_records : IsEarlier (missing_log 3) (bad_record 3 0 log_why.Header)
missing_before_its_records = refl

-- records by number, and in one record by rule, a segment too many last
pub records_by_number : IsEarlier (too_many_segments 1 9) (bad_record 1 10 log_why.Cut)
records_by_number = refl

pub record_by_rule : IsEarlier (bad_record 1 9 log_why.Kind) (bad_record 1 9 log_why.Size)
record_by_rule = refl

pub too_many_after_its_rules : IsEarlier (bad_record 1 9 log_why.Extra) (too_many_segments 1 9)
too_many_after_its_rules = refl

pub rules_of_a_row : map index_rank (index_why.Old ∷ index_why.Header ∷ index_why.TooMany ∷ index_why.Cut ∷ index_why.Depth ∷ index_why.Span ∷ index_why.Lane ∷ index_why.Order ∷ index_why.Records ∷ [])
    ≡ 0 ∷ 1 ∷ 2 ∷ 3 ∷ 4 ∷ 5 ∷ 6 ∷ 7 ∷ 8 ∷ []
rules_of_a_row = refl

pub rules_of_a_record : map record_rank
    (log_why.Header ∷ log_why.Cut ∷ log_why.Kind ∷ log_why.Size ∷ log_why.LineZero ∷ log_why.Address ∷ log_why.Span ∷ log_why.Reserved ∷ log_why.EndEarly ∷ log_why.EndMissing
    ∷ log_why.LockTwice ∷ log_why.LocksDeep ∷ log_why.UnlockOther ∷ log_why.RootBarrier ∷ log_why.BarrierLocked ∷ log_why.RegionLocked ∷ log_why.LockOpen
    ∷ log_why.RegionRows ∷ log_why.BarrierCount ∷ log_why.Extra ∷ [])
    ≡ 0 ∷ 1 ∷ 2 ∷ 3 ∷ 4 ∷ 5 ∷ 6 ∷ 7 ∷ 8 ∷ 9 ∷ 10 ∷ 11 ∷ 12 ∷ 13 ∷ 14 ∷ 15 ∷ 16 ∷ 17 ∷ 18 ∷ 19 ∷ []
rules_of_a_record = refl
