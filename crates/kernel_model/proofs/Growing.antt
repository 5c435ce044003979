-- A run only adds records, each takes room, and each Region record has its fork.
use Rattle.std.proofs.Common.{◌≡◌, refl, ap, sym, ◌∙◌, ℕ, suc, ◌+◌, Bool, true, false, cond, List, [], ◌∷◌, ◌++◌, ℤ, arith, append_assoc, true≢false}
use Rattle.std.proofs.lemmas.List.{append-nil, length-append}
use Rattle.kernel_syntax.specs.Tree.{Term, Code, Done}
use Rattle.kernel_syntax.specs.Program.{Program}
use Rattle.log_format.specs.declared.record.Record.{Record}
use Rattle.log_format.specs.declared.record.Kind.{Kind}
use Rattle.log_format.specs.declared.record.Kind.TheVariants as kind
use Rattle.race_model.specs.Trace.{is_region_kind}
use Rattle.race_model.proofs.Counted.{regions_both}
use Rattle.kernel_model.specs.State.{State, state_of, event, put, after}
use Rattle.kernel_model.specs.Value.{Site, value}
use Rattle.kernel_model.specs.Trace.{run, task, Start, state_at, branch}
use Rattle.kernel_model.specs.Growth.{Grows}
use Rattle.kernel_model.proofs.SingleSteps.{IsMark, KeepsPlainSteps, KeepsUpdates, KeepsBarriers, KeepsEnds, KeepsSteps}
use Rattle.kernel_model.proofs.Steps.{kept-value, kept-run, kept-task, kept-after, kept-branch, kept-put}

-- a record that is no Region
plain_count : (b : Bool) → b ≡ false → 0 ≡ 0 + cond b 1 0
plain_count true is = absurd (true≢false is)
plain_count false is = refl

-- a step that puts no record
grows-nothing : (s t : State) → t.records ≡ s.records → t.room ≡ s.room → t.forks ≡ s.forks → Grows s t
grows-nothing s t records room forks = record {
  added = [];
  records_are = records ∙ sym (append-nil s.records);
  room_is = omega (arith, room);
  regions = [];
  forks_are = forks ∙ sym (append-nil s.forks);
  fork_count = refl;
}

grows-chain : (a b c : State) → Grows a b → Grows b c → Grows a c
grows-chain a b c one more = record {
  added = one.added ++ more.added;
  records_are = more.records_are ∙ ap (λ l. l ++ more.added) one.records_are ∙ append_assoc a.records one.added more.added;
  room_is = omega (arith, length-append one.added more.added, one.room_is, more.room_is);
  regions = one.regions ++ more.regions;
  forks_are = more.forks_are ∙ ap (λ l. l ++ more.regions) one.forks_are ∙ append_assoc a.forks one.regions more.regions;
  fork_count =
      omega (arith, length-append one.regions more.regions, one.fork_count, more.fork_count, regions_both one.added more.added);
}

-- one record more, which is no Region
grows-record : (r : Record) (room : ℕ) (s t : State) → s.room ≡ suc room → is_region_kind r.kind ≡ false →
    t.records ≡ s.records ++ r ∷ [] → t.room ≡ room → t.forks ≡ s.forks → Grows s t
grows-record r room s t is plain records left forks = record {
  added = r ∷ [];
  records_are = records;
  room_is = omega (arith, is, left);
  regions = [];
  forks_are = forks ∙ sym (append-nil s.forks);
  fork_count = plain_count (is_region_kind r.kind) plain;
}

-- a record of a mutex is no Region
plain_mark : (k : Kind) → IsMark k → is_region_kind k ≡ false
plain_mark kind.Lock is = refl
plain_mark kind.Unlock is = refl
plain_mark _ is = absurd is

pub grows-plain : KeepsPlainSteps Grows
grows-plain = record {
  same = λ s. grows-nothing s s refl refl refl;
  chain = grows-chain;
  assigns = λ slot v s. grows-nothing s _ refl refl refl;
  writes = λ r room s is write. grows-record r room s _ is (ap is_region_kind write) refl refl refl;
  reads = λ e site line room v reads s is prefix. grows-record _ room s _ is refl refl refl refl;
  draws = λ line n room q chunks s is prefix. grows-record _ room s _ is refl refl refl refl;
}

pub grows-updates : KeepsUpdates Grows
grows-updates = record { updates = λ r room s is update. grows-record r room s _ is (ap is_region_kind update) refl refl refl }

grows-barriers : KeepsBarriers Grows
grows-barriers = record { bars = λ line room s is. grows-record (event kind.Barrier line 0 0) room s _ is refl refl refl refl }

grows-ends : KeepsEnds Grows
grows-ends = record { ends = λ line room s is. grows-record (event kind.End line 0 0) room s _ is refl refl refl refl }

pub grows-steps : KeepsSteps Grows
grows-steps = record {
  plain = grows-plain;
  updates = grows-updates;
  marks = λ r room s is mark. grows-record r room s _ is (plain_mark r.kind mark) refl refl refl;
  forks = λ team room s is. record {
    added = event kind.Region team.line 0 team.span ∷ [];
    records_are = refl;
    room_is = omega (arith, is);
    regions = record { team = team; slots = s.slots } ∷ [];
    forks_are = refl;
    fork_count = refl;
  };
}

-- a record that is no Region, where there is room for it
pub grows-put : (r : Record) (s : State) → is_region_kind r.kind ≡ false → Grows s (state_of (put r s))
grows-put r s plain = kept-put Grows grows-plain r s (λ room is. grows-record r room s _ is plain refl refl refl)

pub value-grows : (at : Site) (e : Term) (s : State) → Grows s (state_of (value at e s))
value-grows = kept-value Grows grows-plain

pub run-grows : (at : Site) (code : Code) (s : State) → Grows s (state_of (run at code s))
run-grows at code s = kept-run Grows grows-steps at code s (λ is. grows-barriers)

-- so does one of two bodies, after which nothing is left
pub test-grows : (at : Site) (if_true if_false : Code) (v : ℤ) (s : State) → Grows s (state_of (after (branch v (run at if_true) (run at if_false) s) (run at Done)))
test-grows at if_true if_false v s = kept-after Grows grows-plain s (branch v (run at if_true) (run at if_false) s) (run at Done)
    (kept-branch Grows grows-plain v (run at if_true) (run at if_false) s (run-grows at if_true s) (run-grows at if_false s)) (run-grows at Done)

pub task-grows : (program : Program) (start : Start) (reads : List ℤ) (chunks : List ℕ) →
    Grows (state_at start reads chunks) (state_of (task program start reads chunks))
task-grows = kept-task Grows grows-steps grows-barriers grows-ends
