-- Two traces of a fixed task from one start: they share their first records, and the regions forked there, until they read different
-- values of one element.
use Rattle.std.proofs.Common.{◌≡◌, refl, ap, sym, ◌∙◌, subst, ◌⊎◌, inl, inr, ℕ, zero, suc, List, [], ◌∷◌, ◌++◌, length, ℤ, All, append_assoc}
use Rattle.std.proofs.lemmas.List.{append-nil}
use Rattle.kernel_syntax.specs.Program.{Program}
use Rattle.log_format.specs.declared.record.Record.{Record}
use Rattle.log_format.specs.declared.record.Kind.TheVariants as kind
use Rattle.log_format.specs.Fitting.{fitted}
use Rattle.race_model.specs.Trace.{region_count, is_region_kind}
use Rattle.kernel_model.specs.State.{State, Fork, Outcome, Gives, Stops, Wants, after, put, put_in, event, state_of}
use Rattle.kernel_model.specs.Value.{Element, access}
use Rattle.kernel_model.specs.Trace.{run, task, Start, site_of, state_at, TaskTrace, Ended, Wanting, ending_of, trace_of, trace}
use Rattle.certainty_model.specs.Certain.{IsFixed}
use Rattle.certainty_model.proofs.Pairs.{Adds, QuietRecord, FixedFork, Own, with, IsEven, Parting, Pair}
use Rattle.certainty_model.proofs.FixedRuns.{even_more, run-pairs}

-- what stands behind the shared records: nothing more in the second, or a Read in both
pub data Differ (s t : TaskTrace) (s_rest t_rest : List Record) : Type 0 where
  stays : t_rest ≡ [] → (t.end ≡ s.end) ⊎ (t.end ≡ Wanting) → Differ s t s_rest t_rest
  parts : (e : Element) (site line : ℕ) (v w : ℤ) (s_later t_later : List Record) → (fitted v e.width ≡ fitted w e.width → ⊥)
      → s_rest ≡ access kind.Read e site line (fitted v e.width) ∷ s_later → t_rest ≡ access kind.Read e site line (fitted w e.width) ∷ t_later
      → Differ s t s_rest t_rest

pub record TwoTraces (s t : TaskTrace) : Type 0 where
  pub common : List Record
  pub forks : List Fork
  pub counts : length forks ≡ region_count common
  pub s_rest : List Record
  pub t_rest : List Record
  pub s_records : s.records ≡ common ++ s_rest
  pub t_records : t.records ≡ common ++ t_rest
  pub s_more : List Fork
  pub t_more : List Fork
  pub s_forks : s.forks ≡ forks ++ s_more
  pub t_forks : t.forks ≡ forks ++ t_more
  pub how : Differ s t s_rest t_rest

-- records and no regions are added
record More (s t : State) : Type 0 where
  more : List Record
  records_are : t.records ≡ s.records ++ more
  forks_are : t.forks ≡ s.forks

abbrev whole : Outcome (Unit {0}) → TaskTrace
whole m = trace_of m (state_of m)

alike : (m o : Outcome (Unit {0})) → (state_of m).records ≡ (state_of o).records → (state_of m).forks ≡ (state_of o).forks → ending_of o ≡ ending_of m
    → IsEven (state_of o) → TwoTraces (whole m) (whole o)
alike m o records forks end even = record {
  common = (state_of o).records;
  forks = (state_of o).forks;
  counts = even;
  s_rest = [];
  t_rest = [];
  s_records = records ∙ sym (append-nil (state_of o).records);
  t_records = sym (append-nil (state_of o).records);
  s_more = [];
  t_more = [];
  s_forks = forks ∙ sym (append-nil (state_of o).forks);
  t_forks = sym (append-nil (state_of o).forks);
  how = Differ.stays refl (inl end);
}

module _ (last : Record) (plain : last.kind ≡ kind.End) where
  abbrev finish : Outcome (Unit {0}) → Outcome (Unit {0})
  finish m = after m (put last)

  put_more : (room : ℕ) (t : State) → More t (state_of (put_in room last t))
  put_more zero t = record { more = []; records_are = sym (append-nil t.records); forks_are = refl }
  put_more (suc room) t = record { more = last ∷ []; records_are = refl; forks_are = refl }

  more_of : (m : Outcome (Unit {0})) → More (state_of m) (state_of (finish m))
  unfolding put
  more_of (Gives a t) = put_more t.room t
  more_of (Stops why line t) = put_more 0 t
  more_of (Wants t) = put_more 0 t

  both_end : (room : ℕ) (c : State) (p q : Own) → IsEven c → TwoTraces (whole (put_in room last (with c p))) (whole (put_in room last (with c q)))
  both_end zero c p q even = alike (put_in 0 last (with c p)) (put_in 0 last (with c q)) refl refl refl even
  both_end (suc room) c p q even = alike (put_in (suc room) last (with c p)) (put_in (suc room) last (with c q)) refl refl refl (even_more c last room (ap is_region_kind plain) even)

  two_parts : (m o : Outcome (Unit {0})) → Parting (state_of m) (state_of o) → TwoTraces (whole (finish m)) (whole (finish o))
  two_parts m o d =
      let mine = more_of m in
      let other = more_of o in
      let r = access kind.Read d.cut.element d.cut.site d.cut.line (fitted d.cut.left d.cut.element.width) in
      let q = access kind.Read d.cut.element d.cut.site d.cut.line (fitted d.cut.right d.cut.element.width) in
      record {
        common = d.cut.core.records;
        forks = d.cut.core.forks;
        counts = d.cut.even;
        s_rest = r ∷ (d.left_adds.added ++ mine.more);
        t_rest = q ∷ (d.right_adds.added ++ other.more);
        s_records = records_from d.cut.core.records r (state_of m).records d.left_adds.added (state_of (finish m)).records mine.more d.left_adds.records_are mine.records_are;
        t_records = records_from d.cut.core.records q (state_of o).records d.right_adds.added (state_of (finish o)).records other.more d.right_adds.records_are other.records_are;
        s_more = d.left_adds.regions;
        t_more = d.right_adds.regions;
        s_forks = mine.forks_are ∙ d.left_adds.forks_are;
        t_forks = other.forks_are ∙ d.right_adds.forks_are;
        how = Differ.parts d.cut.element d.cut.site d.cut.line d.cut.left d.cut.right _ _ d.cut.apart refl refl;
      }
    where
      records_from : (core : List Record) (r : Record) (mid added end more : List Record) → mid ≡ (core ++ r ∷ []) ++ added → end ≡ mid ++ more → end ≡ core ++ (r ∷ (added ++ more))
      records_from core r mid added end more one two =
          two ∙ ap (λ l. l ++ more) (one ∙ append_assoc core (r ∷ []) added) ∙ append_assoc core (r ∷ added) more

  two_of : (m o : Outcome (Unit {0})) → Pair m o → ending_of (finish m) ≡ Ended → TwoTraces (whole (finish m)) (whole (finish o))
  unfolding put
  two_of _ _ (Pair.gives a c p q even) end = both_end c.room c p q even
  two_of _ _ (Pair.stops why line c p q even) end = alike (Stops why line (with c p)) (Stops why line (with c q)) refl refl refl even
  two_of _ _ (Pair.left_wants c p o even adds) end = absurd cc
  two_of _ _ (Pair.right_wants c q o even adds) end =
      let mine = more_of o in
      record {
        common = c.records;
        forks = c.forks;
        counts = even;
        s_rest = adds.added ++ mine.more;
        t_rest = [];
        s_records = mine.records_are ∙ ap (λ l. l ++ mine.more) adds.records_are ∙ append_assoc c.records adds.added mine.more;
        t_records = sym (append-nil c.records);
        s_more = adds.regions;
        t_more = [];
        s_forks = mine.forks_are ∙ adds.forks_are;
        t_forks = sym (append-nil c.forks);
        how = Differ.stays refl (inr refl);
      }
  two_of _ _ (Pair.parts m o d) end = two_parts m o d

-- two traces of one start, of which the first ends
pub two_traces : (program : Program) (start : Start) (reads others : List ℤ) (chunks numbers : List ℕ) → IsFixed start.team.body → (trace program start reads chunks).end ≡ Ended
    → TwoTraces (trace program start reads chunks) (trace program start others numbers)
unfolding task
two_traces program start reads others chunks numbers fixed end =
    two_of (event kind.End start.team.end 0 0) refl (run (site_of program start) start.team.body (state_at start reads chunks)) (run (site_of program start) start.team.body (state_at start others numbers))
    ((run-pairs (site_of program start) start.team.body fixed).pairs (state_at start [] []) (record { reads = reads; chunks = chunks }) (record { reads = others; chunks = numbers }) refl) end

-- what a fixed task that ends puts: quiet records and its End, and it forks fixed teams
pub record EndsQuietly (records : List Record) (forks : List Fork) : Type 0 where
  pub prefix : List Record
  pub last : Record
  pub parts : records ≡ prefix ++ last ∷ []
  pub ends : last.kind ≡ kind.End
  pub quiet : All QuietRecord prefix
  pub fixed : All FixedFork forks

ends_in : (room : ℕ) (last : Record) (first t : State) → first.records ≡ [] → first.forks ≡ [] → last.kind ≡ kind.End → Adds first t → ending_of (put_in room last t) ≡ Ended
    → EndsQuietly (state_of (put_in room last t)).records (state_of (put_in room last t)).forks
ends_in zero last first t none no_fork is adds end = absurd cc
ends_in (suc room) last first t none no_fork is adds end = record {
  prefix = adds.added;
  last = last;
  parts = ap (λ l. l ++ last ∷ []) (adds.records_are ∙ ap (λ l. l ++ adds.added) none);
  ends = is;
  quiet = adds.is.0;
  fixed = subst (All FixedFork) (sym (adds.forks_are ∙ ap (λ l. l ++ adds.regions) no_fork)) adds.is.1;
}

ends_of : (m : Outcome (Unit {0})) (last : Record) (first : State) → first.records ≡ [] → first.forks ≡ [] → last.kind ≡ kind.End → Adds first (state_of m) → ending_of (after m (put last)) ≡ Ended
    → EndsQuietly (state_of (after m (put last))).records (state_of (after m (put last))).forks
unfolding put
ends_of (Gives a t) last first none no_fork is adds end = ends_in t.room last first t none no_fork is adds end
ends_of (Stops why line t) last first none no_fork is adds end = absurd cc
ends_of (Wants t) last first none no_fork is adds end = absurd cc

pub ends_quietly : (program : Program) (start : Start) (reads : List ℤ) (chunks : List ℕ) → IsFixed start.team.body → (trace program start reads chunks).end ≡ Ended
    → EndsQuietly (trace program start reads chunks).records (trace program start reads chunks).forks
unfolding task
ends_quietly program start reads chunks fixed end =
    let first = state_at start reads chunks in
    let site = site_of program start in
    ends_of (run site start.team.body first) (event kind.End start.team.end 0 0) first refl refl refl ((run-pairs site start.team.body fixed).adds first) end
