use Rattle.std.proofs.Common.{◌≤◌, sym, ap, subst, ◌∙◌, true≢false, ℕ}
use Rattle.event_buffer.specs.Buffered.{Buffered}
use Rattle.event_buffer.proofs.Logging.{logs_flushed, logs_torn}
use Rattle.event_buffer.proofs.buffer.Buffer.ready.Goals as goal

pub returns-in_err-flush-clause-records : goal.returns-in_err-flush-clause-records
returns-in_err-flush-clause-records g c = λ header records h.
    let unrefused = sym (ap (λ (b : Buffered). b.refused) c.self.view_is) ∙ sym c.refused.ensures.refused ∙ c.in_default.is in
    logs_torn header c.args.self.now records h unrefused c.flush.new.self _ c.in_err-flush.ensures.torn

pub returns-clause-records : goal.returns-clause-records
returns-clause-records g c = λ header records h.
    let unrefused = sym (ap (λ (b : Buffered). b.refused) c.self.view_is) ∙ sym c.refused.ensures.refused ∙ c.in_default.is in
    let large = subst (λ (n : ℕ). 24 ≤ n) (ap (λ (b : Buffered). b.size) c.self.view_is) c.self.invariant.0 in
    logs_flushed header c.args.self.now records h unrefused large c.flush.new.self
    (λ room. true≢false (sym (c.has_room.ensures.1 room) ∙ c.if-has_room.false)) c.in_ok-flush.ensures.flushed
