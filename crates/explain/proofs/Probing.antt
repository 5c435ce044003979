-- Records that race are in intervals that race.
use Rattle.std.proofs.Common.{◌≡◌, ℕ, ◌+◌, List, [], ◌∷◌, inl, inr, refl, sym, ap, subst, ◌∙◌, arith}
use Rattle.std.specs.Prelude.{Contains, None, min, max}
use Rattle.std.proofs.lemmas.Bool.{cases_order}
use Rattle.std.proofs.lemmas.Option.{same_Some}
use Rattle.log_format.specs.declared.format.TheConstants.{FORMAT}
use Rattle.log_format.specs.declared.record.Record.{Record}
use Rattle.log_segment.specs.Accesses.{key_at}
use Rattle.log_segment.specs.declared.segment.Segment.{Segment}
use Rattle.pair_compare.proofs.Races.{Touches-from, changes_from, update_from}
use Rattle.pair_compare.specs.Compare.{IsRacingPair, IsSegmentPair}
use Rattle.pair_compare.specs.Conflict.{IsConflict}
use Rattle.race_laws.proofs.FolderForkJoin.{fork_join}
use Rattle.race_laws.proofs.LabelLaw.{unordered_concurrent}
use Rattle.race_model.specs.KeepsRules.{KeepsRules}
use Rattle.race_model.specs.Label.{IsConcurrent}
use Rattle.race_model.specs.Race.{IsRace, held_at}
use Rattle.race_model.specs.Trace.{Trace, Logs, Node, logs_of}
use Rattle.stride_summary.specs.declared.key.Key.{Key}
use Rattle.stride_summary.specs.declared.run.Run.{Run}
use Rattle.stride_summary.specs.Run.{HasPair, HasRunAddress, run_key}
use Rattle.sw_base.specs.declared.path.Step.{Step}
use Rattle.race_model.proofs.TraceLogs.{record_there}
use Rattle.explain.specs.Least.{FindsLeast, FindsRace, RacesOn}
use Rattle.explain.specs.Suspects.{FindsMet, HasOwn, HoldAccesses, HoldPartners, IsOnLines, MayMeet, root_team}
use Rattle.explain.specs.Witness.{IsInLog, TellsRecord}
use Rattle.explain.specs.declared.finding.Found.{Found}
use Rattle.explain.specs.declared.stretch.RecordRange.{RecordRange}
use Rattle.explain.proofs.Teams.{same_team}

-- a run of this key at this address, alone
alone : (run : Run) (key : Key) (address : ℕ) → run_key run ≡ key → HasRunAddress run address → HasPair (run ∷ []) key address
alone run key address keyed addressed = record { run = run; listed = (0, omega arith, refl); keyed = keyed; addressed = addressed }

-- either line of a pair is one of the two
first_on : (lines : ℕ × ℕ) (a b : ℕ) → lines ≡ (min a b, max a b) → IsOnLines lines a
first_on lines a b are =
    let low : lines.0 ≡ min a b = ap (λ (p : ℕ × ℕ). p.0) are in
    let high : lines.1 ≡ max a b = ap (λ (p : ℕ × ℕ). p.1) are in
    elim (cases_order a b) [ inl same ↦ inl (omega (arith, low, same)) | inr (inl less) ↦ inl (omega (arith, low, less)) | inr (inr above) ↦ inr (omega (arith, high, above)) ]

second_on : (lines : ℕ × ℕ) (a b : ℕ) → lines ≡ (min a b, max a b) → IsOnLines lines b
second_on lines a b are =
    let low : lines.0 ≡ min a b = ap (λ (p : ℕ × ℕ). p.0) are in
    let high : lines.1 ≡ max a b = ap (λ (p : ℕ × ℕ). p.1) are in
    elim (cases_order a b) [ inl same ↦ inl (omega (arith, low, same)) | inr (inl less) ↦ inr (omega (arith, high, less)) | inr (inr above) ↦ inl (omega (arith, low, above)) ]

-- the intervals of two accesses that race
module _ (trace : Trace) (lines : ℕ × ℕ) (x y : Node) (byte : ℕ) (keeps : KeepsRules FORMAT trace) (races : RacesOn (logs_of trace) lines x y byte)
    (own their : Segment) (mine : HasOwn (logs_of trace) x races.r own) (yours : HasOwn (logs_of trace) y races.s their) where
  abbrev logs : Logs
  logs = logs_of trace

  race : IsRace logs x y races.r races.s
  race = races.race

  abbrev own_key : Key
  own_key = key_at races.r (held_at logs x)

  abbrev other_key : Key
  other_key = key_at races.s (held_at logs y)

  concurrent : IsConcurrent own.label their.label
  concurrent = unordered_concurrent logs x y own.label their.label (fork_join trace keeps) (record_there logs x races.r race.left) (record_there logs y races.s race.right) mine.has.label yours.has.label race.unordered

  pub same : root_team own.label ≡ root_team their.label
  same = same_team logs x y own.label their.label mine.has.label yours.has.label concurrent

  conflict : IsConflict own_key races.r.addr other_key races.s.addr
  conflict = record {
    byte = race.shares.0;
    first = Touches-from logs x races.r own_key races.r.addr race.shares.0 mine.has.at_node race.shares.1;
    second = Touches-from logs y races.s other_key races.s.addr race.shares.0 yours.has.at_node race.shares.2;
    writes = elim race.changes [ inl w ↦ inl ((changes_from logs x races.r own_key races.r.addr mine.has.at_node).1 w) | inr w ↦ inr ((changes_from logs y races.s other_key races.s.addr yours.has.at_node).1 w) ];
    not_both_atomic = λ m n. race.not_both_updates ((update_from logs x races.r own_key races.r.addr mine.has.at_node).0 m) ((update_from logs y races.s other_key races.s.addr yours.has.at_node).0 n);
    no_mutex = race.no_mutex;
  }

  pub racing : IsRacingPair own their lines
  racing = record {
    concurrent = concurrent;
    conflict = record { key = own_key; address = races.r.addr; other = other_key; beside = races.s.addr; first = mine.has.listed; second = yours.has.listed; conflict = conflict; lines = races.lines_are };
  }

  pub may_meet : (one : Found) → TellsRecord logs x one → MayMeet own their one lines
  may_meet one tells = record {
    concurrent = concurrent;
    conflict = λ run keyed addressed. record {
      key = own_key;
      address = races.r.addr;
      other = other_key;
      beside = races.s.addr;
      first = alone run own_key races.r.addr (keyed ∙ ap (λ (r : Record). key_at r one.held) event ∙ ap (key_at races.r) tells.held) (subst (λ (r : Record). HasRunAddress run r.addr) event addressed);
      second = yours.has.listed;
      conflict = conflict;
      lines = races.lines_are;
    };
  }
    where
      event : one.event ≡ races.r
      event = same_Some one.event races.r (sym tells.event ∙ race.left)

module _ (trace : Trace) (lines : ℕ × ℕ) (segments : List Segment) (keeps : KeepsRules FORMAT trace) (all : HoldAccesses trace lines segments) where
  record AreOwn (x y : Node) (byte : ℕ) (races : RacesOn (logs_of trace) lines x y byte) : Type 0 where
    own : Segment
    their : Segment
    own_in : Contains segments own
    their_in : Contains segments their
    mine : HasOwn (logs_of trace) x races.r own
    yours : HasOwn (logs_of trace) y races.s their

  are_own : (place other : ℕ) (x y : Node) (byte : ℕ) → IsInLog trace place x → IsInLog trace other y → (races : RacesOn (logs_of trace) lines x y byte) → AreOwn x y byte races
  are_own place other x y byte in_x in_y races =
      let mine = all place x races.r in_x races.race.left races.race.left_access (first_on lines races.r.line races.s.line races.lines_are) in
      let yours = all other y races.s in_y races.race.right races.race.right_access (second_on lines races.r.line races.s.line races.lines_are) in
      record { own = mine.0; their = yours.0; own_in = mine.1; their_in = yours.1; mine = mine.2; yours = yours.2 }

  -- where no two intervals race, no records do
  pub no_least : (IsSegmentPair segments lines → ⊥) → FindsLeast trace lines None
  no_least never a i b j byte w =
      let o = are_own w.left.place w.right.place w.x w.y byte w.left.stands w.right.stands w.races in
      never (record { a = o.own; b = o.their; a_in = o.own_in; b_in = o.their_in; racing = racing trace lines w.x w.y byte keeps w.races o.own o.their o.mine o.yours })

  -- and none of a task whose intervals don't
  pub no_race : (place : ℕ) (path : List Step) → ((x : Node) → IsInLog trace place x → x.path ≡ path)
      → ((own their : Segment) → Contains segments own → Contains segments their → own.path ≡ path → root_team own.label ≡ root_team their.label → IsRacingPair own their lines → ⊥)
      → FindsRace trace lines place None
  no_race place path path_of never x in_x other y byte later in_y races =
      let o = are_own place other x y byte in_x in_y races in
      let within = o.mine.within in
      never o.own o.their o.own_in o.their_in (within.path_is ∙ path_of x in_x) (same trace lines x y byte keeps races o.own o.their o.mine o.yours) (racing trace lines x y byte keeps races o.own o.their o.mine o.yours)

  -- those that race with a record are in the intervals that it meets
  pub holds_partners : (place : ℕ) (x : Node) (one : Found) (path : List Step) (number : ℕ) (met : List RecordRange) → IsInLog trace place x → TellsRecord (logs_of trace) x one → x.path ≡ path → number ≡ x.index + 1
      → FindsMet segments path number one lines met → HoldPartners trace lines x met
  holds_partners place x one path number met in_x tells path_is number_is finds other y byte in_y races =
      let o = are_own place other x y byte in_x in_y races in
      let within = o.mine.within in
      let low = within.low in
      let high = within.high in
      let among = finds o.own o.their o.own_in o.their_in (same trace lines x y byte keeps races o.own o.their o.mine o.yours) (record { path_is = within.path_is ∙ path_is; low = omega (arith, low, number_is); high = omega (arith, high, number_is) })
      (may_meet trace lines x y byte keeps races o.own o.their o.mine o.yours one tells) in
      let record_there = o.yours.within in
      let first = among.first_is in
      let last = among.last_is in
      let from = record_there.low in
      let to = record_there.high in
      (among.stretch, among.listed, record { path_is = among.path_is ∙ record_there.path_is; low = omega (arith, first, from); high = omega (arith, last, to) })
