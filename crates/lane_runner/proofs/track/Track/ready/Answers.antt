use Rattle.std.proofs.Common.{◌≡◌, ◌≤◌, refl, ap, sym, ◌∙◌, subst, ℕ, Some, Err}
use Rattle.log_format.specs.Limit.{record_limit}
use Rattle.sw_base.specs.declared.trouble.Trouble.{Trouble}
use Rattle.event_buffer.specs.Buffered.{Buffered, MayPut}
use Rattle.event_buffer.specs.declared.fault.BufferFault.{BufferFault}
use Rattle.event_buffer.specs.declared.fault.BufferFault.TheVariants as fault
use Rattle.lane_runner.specs.declared.stop.Stop.{Stop}
use Rattle.lane_runner.specs.Going.{Progress, HasRoomFor, MakesRoom, Waits, lane_answer, stop_for}
use Rattle.lane_runner.proofs.Handing.{same_place}
use Rattle.lane_runner.proofs.Stepping.{not_refused}
use Rattle.lane_runner.specs.Handed.{entries_of}
use Rattle.lane_runner.proofs.track.Track.ready.Goals as goal

no_room : (line : ℕ) (old new : Progress) (f : BufferFault) → (f ≡ fault.LogFull → (record_limit ≤ old.buffer.count) × (new ≡ old)) → Waits old new
    → ((trouble : Trouble) → f ≡ fault.Trouble trouble → new.buffer.refused ≡ Some trouble) → MakesRoom line old new (lane_answer (Err (stop_for f line)))
no_room line old new fault.LogFull full waits refused = let same = full refl in (refl, same.0, same.1)
no_room line old new (fault.Trouble trouble) full waits refused = (waits, record { refused = λ other. refused trouble refl })

pub returns-in-Err-clause-room : goal.returns-in-Err-clause-room
returns-in-Err-clause-room g c =
    let with : Buffered → Progress = λ b. record { hand = c.self.inside.hand; buffer = b; tally = record { draws = c.self.inside.draws; next_loop = c.self.inside.next_loop; forked = c.self.inside.forked }; done = entries_of g.L.Log c.self.inside.done.items } in
    let now = c.ready.new.self in
    let says = c.ready.ensures in
    subst (λ (why : Stop). MakesRoom c.args.line c.args.self.now (with now) (lane_answer (Err why))) (sym c.stop_for.ensures)
    (subst (λ (p : Progress). MakesRoom c.args.line p (with now) (lane_answer (Err (stop_for c.in-Err.fault c.args.line)))) c.self.view_is
    (no_room c.args.line (with c.self.inside.buffer) (with now) c.in-Err.fault
    (λ is. ((says.full.0 (c.in-Err.is ∙ ap (λ f. Err f) is)).1, ap with (says.full_same (c.in-Err.is ∙ ap (λ f. Err f) is))))
    (record { hand = refl; records = says.records; count = says.still.count; path = says.still.path; place = same_place c.self.inside.buffer now says.still; tally = refl; done = refl })
    (λ trouble is. says.refused trouble (c.in-Err.is ∙ ap (λ f. Err f) is))))

pub returns-clause-room : goal.returns-clause-room
returns-clause-room g c =
    let now : Progress = record { hand = c.self.inside.hand; buffer = c.ready.new.self; tally = record { draws = c.self.inside.draws; next_loop = c.self.inside.next_loop; forked = c.self.inside.forked }; done = entries_of g.L.Log c.self.inside.done.items } in
    subst (λ (p : Progress). HasRoomFor p now) c.self.view_is
    (record {
      waits = record { hand = refl; records = c.ready.ensures.records; count = c.ready.ensures.still.count; path = c.ready.ensures.still.path; place = same_place c.self.inside.buffer c.ready.new.self c.ready.ensures.still; tally = refl; done = refl };
      may_put = not_refused (MayPut c.ready.new.self) c.ready.result c.in_default.not-Err c.ready.ensures.ready;
    })
