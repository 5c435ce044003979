-- What a log that is closed has, and what of a log whose child was refused.
use Rattle.std.proofs.Common.{◌≡◌, ◌⊎◌, inl, inr, refl, ap, sym, ◌∙◌, subst, ℕ, ◌≤◌, List, [], ◌∷◌, Option, Some, None, Result, Ok, Err, IfOk, IfErr, IsErr, OnOk, arith}
use Rattle.std.specs.Prelude.{is_some}
use Rattle.std.specs.Option.{option_map}
use Rattle.sw_base.specs.declared.trouble.Trouble.{Trouble}
use Rattle.sw_base.specs.Environment.{Text, WhereTold}
use Rattle.log_format.specs.declared.record.Record.{Record}
use Rattle.flush_writer.specs.Held.{Held, RefusesPiece, settled_text}
use Rattle.event_buffer.specs.Buffered.{Buffered, IsTornBy, IsRefusedBy, caught_up, buffered}
use Rattle.event_buffer.specs.Logged.{HoldsRecords, HasAll, KeepsPrefix}
use Rattle.event_buffer.proofs.Logging.{has_prefix, logs_caught_up, logs_childless, all_when_closed, prefix_when_torn}

tells_changed : (f : Text → Text) (text : Option Text) → is_some (option_map f text) ≡ is_some text
tells_changed f None = refl
tells_changed f (Some t) = refl

tells_settled : (bytes : List ℕ) (text : Option Text) → is_some (settled_text bytes text) ≡ is_some text
tells_settled [] text = refl
tells_settled (byte ∷ bytes) text = tells_changed _ text

pub child_logs : {X : Type 0} (r : Result X Trouble) (old new : Buffered) → old.refused ≡ None → 24 ≤ old.size → OnOk r (new ≡ caught_up old)
    → IfErr r (λ trouble. IsTornBy trouble old new ⊎ IsRefusedBy trouble (caught_up old) new)
    → (header : List ℕ) (records : List Record) → HoldsRecords header old records → HoldsRecords header new records
child_logs (Ok x) old new none large done stopped header records h = logs_caught_up header old records h none large new done
child_logs (Err trouble) old new none large done stopped header records h = logs_childless header old records h none large new trouble stopped

module _ {X : Type 0} (text_of : X → Option Text) (faults_of : X → ℕ) (h : Held) (waiting : List ℕ) (count : ℕ) where
  abbrev pub b : Buffered
  b = buffered h waiting count

  abbrev pub EndsAgain : Result X (Trouble × X) → Type 0
  EndsAgain r = (trouble : Trouble) → h.refused ≡ Some trouble
      → IsErr r × IfErr r (λ error. (error.0 ≡ trouble) × (text_of error.1 ≡ h.text) × (faults_of error.1 ≡ h.faults))

  -- what stopped it: the piece before, or the last one
  abbrev pub Refuses : Trouble × X → Type 0
  Refuses error = RefusesPiece error.0 h.pending h.text (text_of error.1) h.faults (faults_of error.1)
      ⊎ RefusesPiece error.0 waiting (settled_text h.pending h.text) (text_of error.1) h.faults (faults_of error.1)

  abbrev pub EndsRefused : Result X (Trouble × X) → Type 0
  EndsRefused r = h.refused ≡ None → IfErr r Refuses

  again_of : (r : Result X (Trouble × X)) (trouble : Trouble)
      → IfErr r (λ error. (error.0 ≡ trouble) × (text_of error.1 ≡ h.text) × (faults_of error.1 ≡ h.faults)) → IfErr r (λ error. (error.0 ≡ trouble) × (text_of error.1 ≡ h.text))
  again_of (Ok x) trouble ends = tt
  again_of (Err e) trouble ends = (ends.0, ends.1)

  pub again_as : (r : Result X (Trouble × X)) → EndsAgain r
      → (trouble : Trouble) → h.refused ≡ Some trouble → IsErr r × IfErr r (λ error. (error.0 ≡ trouble) × (text_of error.1 ≡ h.text))
  again_as r again trouble is = let ends = again trouble is in (ends.0, again_of r trouble ends.1)

  has_all : (x : X) (o : Option Trouble) → h.refused ≡ o → ((trouble : Trouble) → o ≡ Some trouble → ⊥) → 24 ≤ h.size
      → text_of x ≡ settled_text waiting (settled_text h.pending h.text)
      → (header : List ℕ) (records : List Record) → HoldsRecords header b records → WhereTold (text_of x) (HasAll header records h.size)
  has_all x None none again large is = λ header records holds.
      subst (λ o. WhereTold o (HasAll header records h.size)) (sym is) (all_when_closed header b records holds none large)
  has_all x (Some trouble) none again large is = absurd (again trouble refl)

  pub closes : (r : Result X (Trouble × X)) → EndsAgain r → 24 ≤ h.size → IfOk r (λ x. text_of x ≡ settled_text waiting (settled_text h.pending h.text))
      → IfOk r (λ x. (header : List ℕ) (records : List Record) → HoldsRecords header b records → WhereTold (text_of x) (HasAll header records h.size))
  closes (Ok x) again large is = has_all x h.refused refl (λ trouble refused. let failed = (again trouble refused).0 in cc) large is
  closes (Err e) again large is = tt

  -- how a refusal leaves the log
  module _ (P : Option Text → ℕ → Type 0) (same : P h.text h.faults) (refused : (e : Trouble × X) → h.refused ≡ None → Refuses e → P (text_of e.1) (faults_of e.1)) where
    left_by : (r : Result X (Trouble × X)) (o : Option Trouble) → h.refused ≡ o → EndsAgain r → EndsRefused r → IfErr r (λ error. P (text_of error.1) (faults_of error.1))
    left_by (Ok x) o is again ends = tt
    left_by (Err e) None is again ends = refused e is (ends is)
    left_by (Err e) (Some trouble) is again ends =
        let kept = (again trouble is).1 in
        subst (λ n. P (text_of e.1) n) (sym kept.2) (subst (λ o. P o h.faults) (sym kept.1) same)

    pub leaves : (r : Result X (Trouble × X)) → EndsAgain r → EndsRefused r → IfErr r (λ error. P (text_of error.1) (faults_of error.1))
    leaves r again ends = left_by r h.refused refl again ends

  abbrev KeptIn : Option Text → ℕ → Type 0
  KeptIn text n = (header : List ℕ) (records : List Record) → HoldsRecords header b records → WhereTold text (KeepsPrefix header records h.size)

  kept_in : 24 ≤ h.size → (e : Trouble × X) → h.refused ≡ None → Refuses e → KeptIn (text_of e.1) (faults_of e.1)
  kept_in large e none (inl first) header records holds = prefix_when_torn header b records holds none large (text_of e.1) (inl first.tears) e.0
  kept_in large e none (inr rest) header records holds = prefix_when_torn header b records holds none large (text_of e.1) (inr rest.tears) e.0

  pub closes_torn : (r : Result X (Trouble × X)) → EndsAgain r → EndsRefused r → 24 ≤ h.size
      → IfErr r (λ error. (header : List ℕ) (records : List Record) → HoldsRecords header b records → WhereTold (text_of error.1) (KeepsPrefix header records h.size))
  closes_torn r again ends large = leaves KeptIn (λ header records holds. has_prefix header b records holds) (kept_in large) r again ends

  told_by : (e : Trouble × X) → h.refused ≡ None → Refuses e → is_some (text_of e.1) ≡ is_some h.text
  told_by e none (inl first) = ap is_some first.tears.tears ∙ tells_changed _ h.text
  told_by e none (inr rest) = ap is_some rest.tears.tears ∙ tells_changed _ (settled_text h.pending h.text) ∙ tells_settled h.pending h.text

  pub closes_told : (r : Result X (Trouble × X)) → EndsAgain r → EndsRefused r → IfErr r (λ error. is_some (text_of error.1) ≡ is_some h.text)
  closes_told r again ends = leaves (λ text n. is_some text ≡ is_some h.text) refl told_by r again ends

  later_by : (e : Trouble × X) → h.refused ≡ None → Refuses e → h.faults ≤ faults_of e.1
  later_by e none (inl first) = first.later
  later_by e none (inr rest) = rest.later

  pub closes_later : (r : Result X (Trouble × X)) → EndsAgain r → EndsRefused r → IfErr r (λ error. h.faults ≤ faults_of error.1)
  closes_later r again ends = leaves (λ text n. h.faults ≤ n) (omega arith) later_by r again ends
