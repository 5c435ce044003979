-- One record of a task, and where there is no room for it.
use Rattle.std.proofs.Common.{◌≡◌, inl, inr, refl, ap, sym, ◌∙◌, subst, ℕ, ◌+◌, ◌-◌, ◌^◌, ◌<◌, List, [], ◌∷◌, ◌++◌, length, ℤ, Result, Ok, Err, w64, arith}
use Rattle.std.specs.Prelude.{slice_index, slice_set, IfOk, IfErr}
use Rattle.std.proofs.Math.Facts.{Fits-of_z}
use Rattle.std.proofs.lemmas.Int.{to_z-of_z}
use Rattle.std.proofs.lemmas.List.{append-nil}
use Rattle.log_format.specs.declared.record.Record.{Record}
use Rattle.log_format.specs.declared.record.Kind.{Kind}
use Rattle.log_format.specs.declared.record.Kind.TheVariants as kind
use Rattle.log_format.specs.Fitting.{IsWidth, fit, fitted, CanHave}
use Rattle.log_format.proofs.FittedBits.{fitted_bits}
use Rattle.log_format.specs.Spelling.{spelling}
use Rattle.kernel_syntax.proofs.Fitting.{fitted-fitted, fitted_fits}
use Rattle.kernel_model.specs.declared.stop.StopWhy.TheVariants as reason
use Rattle.kernel_model.specs.State.{State, Outcome, put, to_bits, from_bits}
use Rattle.kernel_model.specs.Value.{access, read}
use Rattle.kernel_model.specs.Effect.{Returned, Halted, Makes, adds}
use Rattle.kernel_model.proofs.Effects.{makes-put, makes-read}
use Rattle.serial_run.specs.declared.halt.Halt.{Halt}
use Rattle.serial_run.specs.declared.halt.Halt.TheVariants as halt
use Rattle.task_place.specs.declared.place.Element.{Element}
use Rattle.serial_run.specs.Going.{SerialProgress, room_of, FindsValue, words_after, Gains, RanPart, RunsPart, LogsRecord, MayMake, FindsRoom, Marks}
use Rattle.serial_run.specs.Placing.{ElementLayout, IsInPlace, IsPlacedAt}
use Rattle.task_place.specs.Placing.{meant}
use Rattle.serial_run.proofs.Following.{some_room, no_room, no_room_left, made_still}

-- no room
module _ {A : Type 0} (layout : ElementLayout) (part : State → Outcome A) (slots : List ℤ) (p : SerialProgress) (line : ℕ) (full : Makes part slots 0 (adds slots []) (Halted reason.LogFull line)) where
  made_full : room_of layout.bound p ≡ 0 → RanPart layout part slots slots p p (Halted reason.LogFull line)
  made_full none =
      made_still layout part slots p (Halted reason.LogFull line)
      (subst (λ (room : ℕ). Makes part slots room (adds slots []) (Halted reason.LogFull line)) (sym none) full)

  pub goes_full : (why : Halt) → FindsRoom p line (Err why) → RunsPart layout part slots slots p p (Err why)
  goes_full (halt.Stops reason.DivZero at) m = absurd m
  goes_full (halt.Stops reason.Index at) m = absurd m
  goes_full (halt.Stops reason.Tasks at) m = absurd m
  goes_full (halt.Stops reason.LogFull at) m =
      subst (λ (n : ℕ). RanPart layout part slots slots p p (Halted reason.LogFull n)) (sym m.0)
      (made_full (no_room layout.bound p m.1))
  goes_full halt.Long m = record { none = m.0; below = m.1; due = λ is. (line, made_full (no_room_left layout.bound p is m.0)) }
  goes_full halt.Refused m = absurd m
  goes_full halt.Memory m = absurd m

-- one record
pub gains_one : (layout : ElementLayout) (due : Record) (old new : SerialProgress) (after : List ℕ) → FindsValue layout due.kind due old.words → after ≡ words_after layout due.kind due old.words
    → LogsRecord due old new → Gains layout old (record new { words = after }) (due ∷ [])
gains_one layout due old new after finds is logs = record {
  log = logs.log ∙ ap (λ (l : List ℕ). old.log ++ l) (sym (append-nil (spelling due)));
  count = logs.count ∙ omega arith;
  finds = (finds, is);
  left = (let e : new.left + length (due ∷ []) ≡ new.left + 1 = omega arith in e) ∙ logs.left;
}

module _ (layout : ElementLayout) (slots : List ℤ) (old new : SerialProgress) (room : MayMake old) where
  some : 0 < room_of layout.bound old
  some = some_room layout.bound old room

  module _ (e : Element) (wide : IsWidth e.width) (stands : IsPlacedAt layout e) (line site : ℕ) where
    in_place : (k : Kind) (v : ℤ) → IsInPlace layout (access k (meant e) site line v)
    in_place k v = record {
      element = record {
        address = ap (λ (n : ℕ). layout.words.address n) stands.word ∙ stands.address;
        size = sym stands.width ∙ ap (λ (n : ℕ). layout.words.width n) (sym stands.word);
        width = wide;
      };
      within = let here = stands.word in let below = stands.within in omega arith;
    }

    pub read_made : (bits : ℕ) → bits < 2 ^ 64 → bits ≡ slice_index old.words e.word
        → LogsRecord (access kind.Read (meant e) site line (fitted (from_bits bits) e.width)) old new → RanPart layout (read (meant e) site line) slots slots old new (Returned (fitted (from_bits bits) e.width))
    read_made bits small is logs = record {
      added = access kind.Read (meant e) site line (fitted (from_bits bits) e.width) ∷ [];
      plain = (inl refl, tt);
      gains =
          gains_one layout (access kind.Read (meant e) site line (fitted (from_bits bits) e.width)) old new new.words
          (in_place kind.Read (fitted (from_bits bits) e.width), fitted_bits e.width bits small wide ∙ ap (λ (b : ℕ). fit b e.width) (is ∙ ap (λ (w : ℕ). slice_index old.words w) (sym stands.word))) logs.words logs;
      makes = makes-read (meant e) site line slots (room_of layout.bound old) (fitted (from_bits bits) e.width) some (fitted-fitted (from_bits bits) e.width wide) (fitted_fits (from_bits bits) e.width wide);
    }

    -- the bits of a value that the element can have
    can_have : (v : ℤ) → CanHave e.width (to_bits (fitted v e.width))
    can_have v =
        sym (fitted_bits e.width (to_bits (fitted v e.width)) (Fits-of_z (fitted_fits v e.width wide)).fits wide)
        ∙ ap (λ (z : ℤ). to_bits (fitted z e.width)) (to_z-of_z w64 (fitted v e.width) (fitted_fits v e.width wide))
        ∙ ap (λ (z : ℤ). to_bits z) (fitted-fitted v e.width wide)

    pub store_made : (value : ℤ) (after : List ℕ) → after ≡ slice_set old.words e.word (to_bits (fitted value e.width)) → LogsRecord (access kind.Write (meant e) site line (fitted value e.width)) old new
        → RanPart layout (put (access kind.Write (meant e) site line (fitted value e.width))) slots slots old (record new { words = after }) (Returned tt)
    store_made value after is logs =
        let v = fitted value e.width in
        record {
          added = access kind.Write (meant e) site line v ∷ [];
          plain = (inr refl, tt);
          gains =
              gains_one layout (access kind.Write (meant e) site line v) old new after (in_place kind.Write v, can_have value)
              (is ∙ ap (λ (w : ℕ). slice_set old.words w (to_bits v)) (sym stands.word)) logs;
          makes = makes-put (access kind.Write (meant e) site line v) slots (room_of layout.bound old) some refl refl;
        }

-- a record that is no access
pub marks_unready : (due : Record) (p : SerialProgress) (why : Halt) → FindsRoom p due.line (Err why) → Marks due p p (Err why)
marks_unready due p (halt.Stops reason.DivZero at) m = absurd m
marks_unready due p (halt.Stops reason.Index at) m = absurd m
marks_unready due p (halt.Stops reason.Tasks at) m = absurd m
marks_unready due p (halt.Stops reason.LogFull at) m = (m.0, m.1, refl)
marks_unready due p halt.Long m = (m.0, m.1, refl)
marks_unready due p halt.Refused m = absurd m
marks_unready due p halt.Memory m = tt

pub marks_spelled : (due : Record) (old new : SerialProgress) (r : Result (Unit {0}) Halt) → MayMake old → IfOk r (λ _. LogsRecord due old new) → IfErr r (λ e. e ≡ halt.Memory) → Marks due old new r
marks_spelled due old new (Ok _) room ok err = (room, ok)
marks_spelled due old new (Err e) room ok err = subst (λ (x : Halt). Marks due old new (Err x)) (sym err) tt
