use Rattle.std.proofs.Common.{◌≡◌, ◌∙◌, rules, ℕ, List, Some, length, sym, subst, ap}
use Rattle.std.specs.Prelude.{slice_get}
use Rattle.std.specs.Global.{Vec}
use Rattle.std.proofs.lemmas.Option.{same_Some}
use Rattle.race_model.specs.Row.{Row}
use Rattle.race_model.specs.Label.{Triple, IsLabel}
use Rattle.race_model.specs.Trace.{logs_of}
use Rattle.log_segment.specs.Stack.{HasFork}
use Rattle.log_walk.specs.GoodTrace.{AreTeamBarriers}
use Rattle.log_walk.proofs.Forked.{next_fork, next_label, own_logs}
use Rattle.log_walk.proofs.RowReads.{row_read}
use Rattle.log_walk.proofs.StackMoves.{due_is, due_there}
use Rattle.log_walk.proofs.taking.agrees.Goals as goal

pub first_label-label-requires : goal.first_label-label-requires
first_label-label-requires c = λ above step is.
    let mine : Row = record { path = c.row.inside.path; records = c.row.inside.records } in
    let read : slice_get c.args.rows.now c.args.stack.now.place ≡ Some mine = row_read c.args.rows.now c.args.stack.now.place c.index-rows-stack.result _ c.requires.within c.index-rows-stack.is c.row.view_is in
    let trace = c.requires.stands.1 in
    let stands = c.requires.stands.2 in
    let at = ap (λ (n : ℕ). slice_get c.args.rows.now n) (sym stands.place) ∙ read in
    let fork = next_fork c.args.rows.now c.args.stack.now trace (logs_of trace) mine above step c.requires.rows stands.good (own_logs c.args.rows.now trace c.requires.rows stands.good) at (stands.forks mine at) is in
    subst (λ (fs : List (Vec (List Triple))). HasFork fs above step) (sym c.deref.ensures.value) fork.has

pub due_barriers-due-requires : goal.due_barriers-due-requires
due_barriers-due-requires c = λ above step is from_one.
    let mine : Row = record { path = c.row.inside.path; records = c.row.inside.records } in
    let read : slice_get c.args.rows.now c.args.stack.now.place ≡ Some mine = row_read c.args.rows.now c.args.stack.now.place c.index-rows-stack.result _ c.requires.within c.index-rows-stack.is c.row.view_is in
    let stands = c.requires.stands.2 in
    due_there c.args.stack.now c.requires.stands.1 c.row.inside.path (stands.teams mine (ap (λ (n : ℕ). slice_get c.args.rows.now n) (sym stands.place) ∙ read)) above step is from_one

pub returns : goal.returns
returns c = λ format trace row stands told room.
    let mine : Row = record { path = c.row.inside.path; records = c.row.inside.records } in
    let read : slice_get c.args.rows.now c.args.stack.now.place ≡ Some mine = row_read c.args.rows.now c.args.stack.now.place c.index-rows-stack.result _ c.requires.within c.index-rows-stack.is c.row.view_is in
    let at = ap (λ (n : ℕ). slice_get c.args.rows.now n) (sym stands.place) ∙ read in
    let same : mine ≡ row = same_Some mine row (sym read ∙ told) in
    let same_label : c.first_label-label.result ≡ c.args.read.now.source.label = c.are_same.ensures.0 (search (rules, c.if-not-are_same.false)) in
    record {
      label = λ logs has.
          (let it = next_label c.args.rows.now c.args.stack.now trace logs mine c.first_label-label.result c.requires.rows stands.good has at (stands.forks mine at) c.first_label-label.ensures.root
          (λ above step labels fork e there forked. c.first_label-label.ensures.lane above step labels fork e (ap (λ (fs : List (Vec (List Triple))). slice_get fs (length above)) c.deref.ensures.value ∙ there) forked) in
          subst (λ (l : List Triple). IsLabel logs (record { path = row.path; index = 0 }) l) same_label
          (subst (λ (r : Row). IsLabel logs (record { path = r.path; index = 0 }) c.first_label-label.result) same it.0));
      due = c.due_barriers-due.result;
      team = subst (λ (r : Row). AreTeamBarriers trace r.path c.due_barriers-due.result) same (due_is c.args.stack.now trace c.row.inside.path c.due_barriers-due.result (stands.teams mine at) c.due_barriers-due.ensures);
      counted = c.are_due.ensures (search (rules, c.if-not-are_due.false));
      limit = c.have_room.ensures room;
    }
