-- How what is pending becomes settled, and what an end tells of it.
use Rattle.std.proofs.Common.{◌≡◌, refl, ap, sym, ◌∙◌, subst, ◌⊎◌, inl, inr, ℕ, ◌<◌, List, [], ◌∷◌, length, Option, Some, None, Result, Ok, Err, IfErr, IsErr, arith}
use Rattle.hand_over.specs.declared.view.Turn.{Turn}
use Rattle.hand_over.specs.declared.view.Turn.TheVariants.{Out}
use Rattle.std.specs.Option.{option_map}
use Rattle.sw_base.specs.Environment.{Text, Rose, with_piece}
use Rattle.sw_base.specs.declared.trouble.Trouble.{Trouble}
use Rattle.sw_base.specs.declared.trouble.Trouble.TheVariants.{Failed}
use Rattle.flush_writer.specs.Held.{Held, IsSentBack, IsCounted, RefusesPiece, EndsPending, appended, settled, settled_text}
use Rattle.flush_writer.specs.Placed.{IsKept, held}

text_some : (bytes : List ℕ) (text : Option Text) → 0 < length bytes → settled_text bytes text ≡ option_map (with_piece bytes) text
text_some [] text some = absurd (omega arith)
text_some (byte ∷ bytes) text some = refl

text_none : (bytes : List ℕ) (text : Option Text) → (0 < length bytes → ⊥) → (text ≡ settled_text bytes text) × (bytes ≡ [])
text_none [] text none = (refl, refl)
text_none (byte ∷ bytes) text none = absurd (none (omega arith))

pub settled_some : (h : Held) → 0 < length h.pending → settled h ≡ appended h
settled_some h some = ap (λ (text : Option Text). record h { text = text; pending = [] }) (text_some h.pending h.text some)

pub settled_none : (h : Held) → (0 < length h.pending → ⊥) → h ≡ settled h
settled_none h none =
    let is = text_none h.pending h.text none in
    λ i. record h { text = is.0 i; pending = is.1 i }

-- nothing was due
pub ends_same : (old new : Held) → new ≡ old → (old.refused ≡ None → 0 < length old.pending → ⊥) → EndsPending old new
ends_same old new same none = record {
  again = λ trouble refused. same;
  done = λ unrefused still. same ∙ settled_none old (none unrefused);
  refused = λ unrefused trouble refused. absurd (let is = ap (λ h. h.refused) same in cc);
}

-- the block was appended, or refused
pub ends_appended : (old new : Held) → old.refused ≡ None → 0 < length old.pending → IsSentBack old new → EndsPending old new
ends_appended old new unrefused some after = record {
  again = λ trouble refused. absurd (cc);
  done = λ _ still. after.done still ∙ sym (settled_some old some);
  refused = λ _ trouble refused. after.refused trouble refused;
}

-- what the writer gave back settles what it was sent
pub follows_settles : (home : Option Held) (turn : Option (Turn Held)) → home ≡ None → IsKept home turn → (back : Held)
    → ((sent : Held) → turn ≡ Some (Out sent) → IsSentBack sent back) → EndsPending (held home turn) back
follows_settles home turn none placed back follows =
    let away = placed.away none in
    let sent = away.0 in
    let is : held home turn ≡ sent = λ i. held (none i) (away.1 i) in
    let after = follows sent away.1 in
    let go = away.2 in
    subst (λ h. EndsPending h back) (sym is) (ends_appended sent back go.unrefused go.some after)

counts_one : (before now : ℕ) → Rose before now → 0 < now
counts_one before now rose = omega (arith, rose)

-- an end: the log that is left, and why
module _ {X : Type 0} (text_of : X → Option Text) (faults_of : X → ℕ) where
  abbrev pub EndsAgain : Held → Result X (Trouble × X) → Type 0
  EndsAgain h r = (trouble : Trouble) → h.refused ≡ Some trouble
      → IsErr r × IfErr r (λ error. (error.0 ≡ trouble) × (text_of error.1 ≡ h.text) × (faults_of error.1 ≡ h.faults))

  abbrev pub IsRefusedAt : Held → List ℕ → Trouble × X → Type 0
  IsRefusedAt h bytes error = RefusesPiece error.0 bytes h.text (text_of error.1) h.faults (faults_of error.1)

  abbrev pub EndsRefused : Held → List ℕ → Result X (Trouble × X) → Type 0
  EndsRefused h bytes r = IfErr r (λ error.
      RefusesPiece error.0 h.pending h.text (text_of error.1) h.faults (faults_of error.1)
      ⊎ RefusesPiece error.0 bytes (settled h).text (text_of error.1) h.faults (faults_of error.1))

  pub ends_again : (h errand : Held) (r : Result X (Trouble × X)) → EndsPending h errand → EndsAgain errand r → EndsAgain h r
  ends_again h errand r settles ends trouble refused =
      let same = settles.again trouble refused in
      subst (λ k. IsErr r × IfErr r (λ error. (error.0 ≡ trouble) × (text_of error.1 ≡ k.text) × (faults_of error.1 ≡ k.faults))) same
      (ends trouble (ap (λ k. k.refused) same ∙ refused))

  refused_by : (h errand : Held) (bytes : List ℕ) (r : Result X (Trouble × X)) (o : Option Trouble) → errand.refused ≡ o → h.refused ≡ None → EndsPending h errand
      → EndsAgain errand r → (errand.refused ≡ None → IfErr r (IsRefusedAt errand bytes)) → EndsRefused h bytes r
  refused_by h errand bytes (Ok x) o is none settles again last = tt
  refused_by h errand bytes (Err e) None is none settles again last =
      let same = settles.done none is in
      inr (subst (λ k. IsRefusedAt k bytes e) same (last is))
  refused_by h errand bytes (Err e) (Some trouble) is none settles again last =
      let torn = settles.refused none trouble is in
      let ends = (again trouble is).1 in
      let refuses = torn.refuses in
      inl (subst (λ n. RefusesPiece e.0 h.pending h.text (text_of e.1) h.faults n) (sym ends.2)
      (subst (λ t. RefusesPiece e.0 h.pending h.text t h.faults errand.faults) (sym ends.1)
      (subst (λ t. RefusesPiece t h.pending h.text errand.text h.faults errand.faults) (sym ends.0) refuses)))

  pub ends_refused : (h errand : Held) (bytes : List ℕ) (r : Result X (Trouble × X)) → EndsPending h errand
      → EndsAgain errand r → (errand.refused ≡ None → IfErr r (IsRefusedAt errand bytes)) → h.refused ≡ None → EndsRefused h bytes r
  ends_refused h errand bytes r settles again last none = refused_by h errand bytes r errand.refused refl none settles again last

  fault_by : (h : Held) (bytes : List ℕ) (r : Result X (Trouble × X)) (o : Option Trouble) → h.refused ≡ o → IsCounted h
      → EndsAgain h r → (h.refused ≡ None → EndsRefused h bytes r) → IfErr r (λ error. error.0 ≡ Failed → 0 < faults_of error.1)
  fault_by h bytes (Ok x) o is counted again refused = tt
  fault_by h bytes (Err e) (Some trouble) is counted again refused = λ failed.
      let ends = (again trouble is).1 in
      subst (λ n. 0 < n) (sym ends.2) (counted.fault (is ∙ ap (λ t. Some t) (sym ends.0 ∙ failed)))
  fault_by h bytes (Err e) None is counted again refused = by (refused is) where
    by : EndsRefused h bytes (Err e) → e.0 ≡ Failed → 0 < faults_of e.1
    by (inl first) failed = counts_one _ _ (first.failed failed)
    by (inr rest) failed = counts_one _ _ (rest.failed failed)

  pub ends_with_fault : (h : Held) (bytes : List ℕ) (r : Result X (Trouble × X)) → IsCounted h → EndsAgain h r → (h.refused ≡ None → EndsRefused h bytes r)
      → IfErr r (λ error. error.0 ≡ Failed → 0 < faults_of error.1)
  ends_with_fault h bytes r counted again refused = fault_by h bytes r h.refused refl counted again refused
