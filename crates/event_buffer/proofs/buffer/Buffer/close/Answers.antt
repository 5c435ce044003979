use Rattle.std.proofs.Common.{◌≡◌, ◌≤◌, sym, ap, subst, ◌∙◌, List, ℕ, Some, IfOk, IfErr, IsErr}
use Rattle.std.specs.Prelude.{is_some}
use Rattle.log_format.specs.declared.record.Record.{Record}
use Rattle.sw_base.specs.declared.trouble.Trouble.{Trouble}
use Rattle.sw_base.specs.Environment.{WhereTold}
use Rattle.event_buffer.specs.Buffered.{Buffered, buffered, bytes_in}
use Rattle.event_buffer.specs.Logged.{HoldsRecords, HasAll, KeepsPrefix}
use Rattle.event_buffer.proofs.Closing.{closes, closes_torn, closes_told, closes_later, again_as}
use Rattle.event_buffer.proofs.buffer.Buffer.close.Goals as goal

pub returns-clause-closed : goal.returns-clause-closed
returns-clause-closed g c =
    let inside = c.self.inside in
    let rest = c.in-Some.rest in
    let view = ap (λ (w : List ℕ). buffered inside.flusher w inside.count) (sym (ap bytes_in c.in-Some.is)) ∙ c.self.view_is in
    subst (λ (b : Buffered). IfOk c.finish.result (λ log. (header : List ℕ) (records : List Record) → HoldsRecords header b records → WhereTold (g.L.Log.text log) (HasAll header records b.size))) view
    (closes g.L.Log.text g.L.Log.faults inside.flusher rest.bytes inside.count c.finish.result c.finish.ensures.again c.self.invariant.0 c.finish.ensures.text)

pub returns-clause-prefix : goal.returns-clause-prefix
returns-clause-prefix g c =
    let inside = c.self.inside in
    let rest = c.in-Some.rest in
    let view = ap (λ (w : List ℕ). buffered inside.flusher w inside.count) (sym (ap bytes_in c.in-Some.is)) ∙ c.self.view_is in
    subst (λ (b : Buffered). IfErr c.finish.result (λ error. (header : List ℕ) (records : List Record) → HoldsRecords header b records → WhereTold (g.L.Log.text error.1) (KeepsPrefix header records b.size))) view
    (closes_torn g.L.Log.text g.L.Log.faults inside.flusher rest.bytes inside.count c.finish.result c.finish.ensures.again c.finish.ensures.refused c.self.invariant.0)

pub returns-clause-error_tells : goal.returns-clause-error_tells
returns-clause-error_tells g c =
    let inside = c.self.inside in
    subst (λ (b : Buffered). IfErr c.finish.result (λ error. is_some (g.L.Log.text error.1) ≡ is_some b.text)) c.self.view_is
    (closes_told g.L.Log.text g.L.Log.faults inside.flusher c.in-Some.rest.bytes inside.count c.finish.result c.finish.ensures.again c.finish.ensures.refused)

pub returns-clause-again : goal.returns-clause-again
returns-clause-again g c =
    let inside = c.self.inside in
    subst (λ (b : Buffered). (trouble : Trouble) → b.refused ≡ Some trouble → IsErr c.finish.result × IfErr c.finish.result (λ error. (error.0 ≡ trouble) × (g.L.Log.text error.1 ≡ b.text))) c.self.view_is
    (again_as g.L.Log.text g.L.Log.faults inside.flusher c.in-Some.rest.bytes inside.count c.finish.result c.finish.ensures.again)

pub returns-clause-error_later : goal.returns-clause-error_later
returns-clause-error_later g c =
    let inside = c.self.inside in
    subst (λ (b : Buffered). IfErr c.finish.result (λ error. b.faults ≤ g.L.Log.faults error.1)) c.self.view_is
    (closes_later g.L.Log.text g.L.Log.faults inside.flusher c.in-Some.rest.bytes inside.count c.finish.result c.finish.ensures.again c.finish.ensures.refused)
