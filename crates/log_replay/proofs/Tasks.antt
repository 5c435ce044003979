-- A whole task, as far as it follows its log.
use Rattle.std.proofs.Common.{◌≡◌, refl, ap, sym, ◌∙◌, subst, ℕ, suc, ◌+◌, ◌-◌, min, List, [], ◌∷◌, ◌++◌, length, length-append, append_assoc, append-nil, cond, ℤ, Option, Some, None, Result, Ok, Err, arith}
use Rattle.log_format.specs.Limit.{record_limit}
use Rattle.sw_base.specs.Environment.{Content, FolderState}
use Rattle.sw_base.specs.declared.trouble.Trouble.{Trouble}
use Rattle.sw_base.specs.declared.trouble.Trouble.TheVariants as trouble
use Rattle.log_replay.specs.Trouble.{stray_of}
use Rattle.log_format.specs.declared.record.Record.{Record}
use Rattle.log_format.specs.declared.record.Kind.TheVariants as kind
use Rattle.log_reader.specs.Reading.{Reading, GivesNext}
use Rattle.kernel_syntax.specs.Program.{Program}
use Rattle.kernel_model.specs.State.{State, Outcome, Gives, after, put, event, reads_of, chunks_of, state_of}
use Rattle.kernel_model.specs.Trace.{Start, TaskTrace, run, task, site_of, state_at, trace_of}
use Rattle.kernel_model.specs.Growth.{Grows}
use Rattle.kernel_model.specs.Value.{Site}
use Rattle.kernel_syntax.specs.Tree.{TeamTree}
use Rattle.kernel_model.proofs.Growing.{grows-plain}
use Rattle.kernel_model.proofs.Steps.{kept-put}
use Rattle.race_model.specs.Trace.{is_region_kind}
use Rattle.log_format.specs.declared.record.Kind.{Kind}
use Rattle.kernel_model.specs.Folder.{own_trace}
use Rattle.kernel_model.proofs.Equations.{put-room}
use Rattle.log_replay.specs.Differing.{DiffersAt}
use Rattle.log_replay.specs.Following.{Standing, HasEnd, HasReadTo, here, Took, TakesNext, IsOff, FollowsPart, Reached}
use Rattle.log_replay.specs.Task.{StraysSo, Compares, EndsLog}
use Rattle.log_replay.specs.declared.stray.Stray.{Stray}
use Rattle.log_replay.specs.declared.stray.Stray.TheVariants as stray
use Rattle.log_replay.proofs.Following.{strays_differ, off_differs, off_then, after_is}
use Rattle.log_replay.proofs.Stepping.{is_log, number_is, strays_next}

-- ---- the end of the log

pub unread_end : (told : FolderState) (log done rest : List Record) (line : ℕ) (old new : Standing) (e : Stray) → TakesNext told rest old new (Err e) → EndsLog log done line old new (Err e)
unread_end told log done rest line old new (stray.Differs number) takes = absurd takes
unread_end told log done rest line old new stray.ReadFault takes = tt
unread_end told log done rest line old new stray.Memory takes = tt

none_other : (content : Content) (others : List Record) (reading : Reading) → GivesNext content others None reading → others ≡ []
none_other content [] reading gives = refl
none_other content (q ∷ others) reading gives = absurd (cc gives.0)

-- some records are left
record HasMore (others : List Record) : Type 0 where
  first : Record
  rest : List Record
  are : others ≡ first ∷ rest

some_other : (content : Content) (others : List Record) (q : Record) (reading : Reading) → GivesNext content others (Some q) reading → HasMore others
some_other content [] q reading gives = absurd (cc gives.0)
some_other content (first ∷ rest) q reading gives = record { first = first; rest = rest; are = refl }

module _ (told : FolderState) (log done rest : List Record) (x : Standing) (at : HasReadTo told log done rest x) (r : Record) (y : Standing) (took : Took told rest r x y) (line : ℕ) where
  pub other_end : (number : ℕ) → (r ≡ event kind.End line 0 0 → ⊥) → number ≡ y.count → DiffersAt (done ++ event kind.End line 0 0 ∷ []) log number
  other_end number apart is =
      strays_differ (done ++ event kind.End line 0 0 ∷ []) log number
      (strays_next told log done rest x at r y took (event kind.End line 0 0) [] number (λ same. apart (sym same)) is)

  module _ (is : r ≡ event kind.End line 0 0) (reading : Reading) where
    same_end : log ≡ (done ++ event kind.End line 0 0 ∷ []) ++ took.others
    same_end =
        is_log told log done rest x at r y took ∙ ap (λ (q : Record). done ++ q ∷ took.others) is
        ∙ sym (append_assoc done (event kind.End line 0 0 ∷ []) took.others)

    pub last_end : GivesNext at.content took.others None reading → log ≡ done ++ event kind.End line 0 0 ∷ []
    last_end gives = same_end ∙ ap (λ (l : List Record). (done ++ event kind.End line 0 0 ∷ []) ++ l) (none_other at.content took.others reading gives) ∙ append-nil (done ++ event kind.End line 0 0 ∷ [])

    pub early_end : (q : Record) (number : ℕ) → GivesNext at.content took.others (Some q) reading → number ≡ min (y.count + 1) 4294967295 → DiffersAt (done ++ event kind.End line 0 0 ∷ []) log number
    early_end q number gives at_number =
        let more = some_other at.content took.others q reading gives in
        record {
          before = done ++ event kind.End line 0 0 ∷ [];
          others = [];
          theirs = more.first;
          rest = more.rest;
          trace_is = sym (append-nil (done ++ event kind.End line 0 0 ∷ []));
          log_is = same_end ∙ ap (λ (l : List Record). (done ++ event kind.End line 0 0 ∷ []) ++ l) more.are;
          apart = λ l same. cc same;
          number_is =
              let size = number_is told log done rest x at r y took in
              let fits = at.fits in
              let all : length log ≡ length (done ++ event kind.End line 0 0 ∷ []) + length took.others = ap length same_end ∙ length-append (done ++ event kind.End line 0 0 ∷ []) took.others in
              omega (arith, at_number, size, fits, all, length-append done (event kind.End line 0 0 ∷ []));
        }

-- ---- a task

has_first : (rest : List Record) → HasEnd rest → HasMore rest
has_first [] ahead = absurd ahead
has_first (r ∷ rest) ahead = record { first = r; rest = rest; are = refl }

-- a trace ends with one record more
end_grows : (r : Record) (s : State) → r.kind ≡ kind.End → Grows s (state_of (put r s))
end_grows r s is = kept-put Grows grows-plain r s (λ room left. record {
  added = r ∷ [];
  records_are = refl;
  room_is = omega (arith, left);
  regions = [];
  forks_are = sym (append-nil s.forks);
  fork_count = sym (ap (λ (k : Kind). 0 + cond (is_region_kind k) 1 0) is);
})

module _ (told : FolderState) (log : List Record) (program : Program) (start : Start) (site : Site) (site_is : site_of program start ≡ site) (old : Standing) (at : HasReadTo told log [] log old) (slots : old.slots ≡ start.slots) (forks : old.forks ≡ []) where
  abbrev body : State → Outcome (Unit {0})
  body = run site start.team.body

  abbrev last : Record
  last = event kind.End start.team.end 0 0

  abbrev whole : Outcome (Unit {0})
  whole = after (body (here old [] log)) (put last)

  state_is : state_at start (reads_of log) (chunks_of log) ≡ here old [] log
  state_is = rw (slots, forks) refl

  trace_is : own_trace program start log ≡ trace_of whole (state_of whole)
  unfolding task
  trace_is =
      ap (λ (t : Site). trace_of (after (run t start.team.body (state_at start (reads_of log) (chunks_of log))) (put last)) (state_of (after (run t start.team.body (state_at start (reads_of log) (chunks_of log))) (put last)))) site_is
      ∙ ap (λ (s : State). trace_of (after (body s) (put last)) (state_of (after (body s) (put last)))) state_is

  -- the body left the log
  pub body_stops : (new : Standing) (e : Stray) → FollowsPart told body old new (Err e) → StraysSo program start log e
  body_stops new (stray.Differs number) follows =
      subst (λ (l : List Record). DiffersAt l log number) (sym (ap (λ (t : TaskTrace). t.records) trace_is))
      (off_differs log number whole
      (subst (IsOff log number) (sym (after_is (body (here old [] log)) (put last)))
      (off_then log number (body (here old [] log)) (λ u s. put last s) (λ u s. end_grows last s refl) (follows log [] log at))))
  body_stops new stray.ReadFault follows = tt
  body_stops new stray.Memory follows = tt

  module _ (mid new : Standing) (reached : Reached told log (body (here old [] log)) tt mid) where
    room : record_limit - length reached.done ≡ suc (record_limit - length reached.done - 1)
    room =
        let first = has_first reached.rest reached.at.ahead in
        let parts : length log ≡ length reached.done + length reached.rest = ap length reached.at.parts ∙ length-append reached.done reached.rest in
        let some : length reached.rest ≡ suc (length first.rest) = ap length first.are in
        let fits = reached.at.fits in omega (arith, parts, some, fits)

    abbrev ended : State
    ended = record (here mid reached.done reached.rest) { records = reached.done ++ last ∷ []; room = record_limit - length reached.done - 1 }

    ended_is : whole ≡ Gives tt ended
    ended_is = ap (λ (o : Outcome (Unit {0})). after o (put last)) reached.gives ∙ put-room last (here mid reached.done reached.rest) (record_limit - length reached.done - 1) room

    whole_is : own_trace program start log ≡ trace_of (Gives tt ended) ended
    whole_is = trace_is ∙ ap (λ (o : Outcome (Unit {0})). trace_of o (state_of o)) ended_is

    -- and then the log ends, or not
    pub task_ends : (r : Result (Unit {0}) Stray) → EndsLog log reached.done start.team.end mid new r → Compares program start log new r
    task_ends (Ok u) ends = record {
      traced = record { records_are = ap (λ (t : TaskTrace). t.records) whole_is ∙ sym ends.0; ended = ap (λ (t : TaskTrace). t.end) whole_is };
      forks_are = ap (λ (t : TaskTrace). t.forks) whole_is ∙ sym ends.1;
    }
    task_ends (Err (stray.Differs number)) ends = subst (λ (l : List Record). DiffersAt l log number) (sym (ap (λ (t : TaskTrace). t.records) whole_is)) ends
    task_ends (Err stray.ReadFault) ends = tt
    task_ends (Err stray.Memory) ends = tt

-- where a task runs, told by its start
pub site_of_start : (program : Program) (team : TeamTree) (lane : ℕ) (slots : List ℤ) (site : Site) → program.arrays ≡ site.arrays → team.span ≡ site.span → lane ≡ site.lane
    → site_of program (record { team = team; lane = lane; slots = slots }) ≡ site
site_of_start program team lane slots site arrays span is = rw (arrays, span, is) refl

-- the same start
pub restarted : (program : Program) (team : TeamTree) (lane lane' : ℕ) (slots slots' : List ℤ) (log : List Record) (x : Standing) (r : Result (Unit {0}) Stray) → lane' ≡ lane → slots' ≡ slots
    → Compares program (record { team = team; lane = lane'; slots = slots' }) log x r → Compares program (record { team = team; lane = lane; slots = slots }) log x r
restarted program team lane lane' slots slots' log x r one other compares =
    subst (λ (l : ℕ). Compares program (record { team = team; lane = l; slots = slots }) log x r) one
    (subst (λ (s : List ℤ). Compares program (record { team = team; lane = lane'; slots = s }) log x r) other compares)

-- a log that isn't read tells nothing
pub trouble_strays : (program : Program) (start : Start) (log : List Record) (t : Trouble) → StraysSo program start log (stray_of t)
trouble_strays program start log trouble.Memory = tt
trouble_strays program start log trouble.Failed = tt
