-- A read and a change of a lane, with their records.
use Rattle.std.proofs.Common.{◌≡◌, refl, ap, sym, ◌∙◌, subst, ℕ, ◌^◌, ◌<◌, ◌≤◌, List, [], ◌∷◌, ℤ, None, w64, FitsSigned}
use Rattle.std.specs.Int.{cast_signed}
use Rattle.std.proofs.lemmas.Int.{to_z-of_z}
use Rattle.log_format.specs.declared.record.Record.{Record}
use Rattle.log_format.specs.declared.record.Kind.{Kind}
use Rattle.log_format.specs.declared.record.Kind.TheVariants as kind
use Rattle.kernel_model.specs.declared.change.Change.{Change}
use Rattle.kernel_model.specs.declared.change.Change.TheVariants.{Store, Update}
use Rattle.kernel_model.specs.Changing.{kind_of}
use Rattle.kernel_model.specs.State.{State, state_of, put, to_bits}
use Rattle.kernel_model.specs.Value as model
use Rattle.kernel_model.specs.Value.{read}
use Rattle.kernel_model.specs.Growth.{Grows}
use Rattle.kernel_model.specs.Effect.{Returned, Makes, adds}
use Rattle.kernel_model.proofs.Effects.{makes-read, makes-put}
use Rattle.kernel_model.proofs.Growing.{grows-plain}
use Rattle.kernel_model.proofs.Steps.{kept-read}
use Rattle.step_history.specs.declared.item.Deed.TheVariants as deed
use Rattle.shared_words.specs.Handles.{with_view}
use Rattle.shared_words.specs.Views as hand
use Rattle.log_format.specs.Fitting.{IsWidth, fitted, CanHave}
use Rattle.log_format.proofs.FittedBits.{fitted_bits}
use Rattle.kernel_syntax.proofs.Fitting.{fitted-fitted, fitted_fits}
use Rattle.history_model.specs.Sound.{IsOfElement}
use Rattle.task_place.specs.declared.place.Element.{Element}
use Rattle.execution_model.specs.Elements.{element_word, element_address, element_width, layout_of}
use Rattle.lane_runner.specs.World.{WorldValue}
use Rattle.lane_runner.specs.Placing.{StandsIn, change_deed}
use Rattle.task_place.specs.Placing.{meant}
use Rattle.lane_runner.specs.Going.{Progress, GainsRecords, Made, HasRoomFor}
use Rattle.lane_runner.proofs.Stepping.{made_one}

pub read_grows : (e : model.Element) (site line : ℕ) (s : State) → Grows s (state_of (read e site line s))
read_grows e site line s = kept-read Grows grows-plain e site line s

module _ (w : WorldValue) (e : Element) (stands : StandsIn w e) (line site bits : ℕ) (some : 1 ≤ line) (below : bits < 2 ^ 64) (old mid new : Progress) (room : HasRoomFor old mid)
    (unrefused : new.buffer.refused ≡ None) (tally : new.tally ≡ mid.tally) (done_is : new.done ≡ mid.done) where
  abbrev pub read_event : ℕ → Record
  read_event found = record { kind = kind.Read; size = e.width; site = site; line = line; addr = e.addr; value = found }

  abbrev pub change_event : Kind → Record
  change_event k = record { kind = k; size = e.width; site = site; line = line; addr = e.addr; value = bits }

  -- what was loaded, fitted to the element
  abbrev pub found : ℤ
  found = fitted (cast_signed w64 bits) e.width

  of_element : (r : Record) → r.addr ≡ e.addr → r.size ≡ e.width → IsOfElement (layout_of w.arrays) r
  of_element r addr size = record {
    address = ap (λ (n : ℕ). element_address w.arrays (element_word w.arrays n)) addr ∙ ap (λ (n : ℕ). element_address w.arrays n) stands.word ∙ stands.address ∙ sym addr;
    size = size ∙ sym stands.bytes ∙ ap (λ (n : ℕ). element_width w.arrays n) (sym stands.word) ∙ ap (λ (n : ℕ). element_width w.arrays (element_word w.arrays n)) (sym addr);
    width = subst IsWidth (sym size) stands.width;
  }

  pub read_made : (slots : List ℤ) → new.hand ≡ with_view mid.hand (hand.did mid.hand.view (deed.Read e.word bits))
      → GainsRecords mid.buffer new.buffer (read_event (to_bits found) ∷ []) → Made w (read (meant e) site line) slots slots old new (Returned found)
  read_made slots hand_is gains =
      made_one w old mid new (read_event bits) (deed.Read e.word bits) (read (meant e) site line) slots found room hand_is
      (ap (λ (n : ℕ). deed.Read n bits ∷ []) stands.word) unrefused (subst (λ (b : ℕ). GainsRecords mid.buffer new.buffer (read_event b ∷ [])) (fitted_bits e.width bits below stands.width) gains) some
      (record { no_region = λ is. cc; element = λ is. of_element (read_event bits) refl refl; stores = λ is. cc }) refl tally done_is refl (λ held. refl)
      (λ n left. subst (λ (b : ℕ). Makes (read (meant e) site line) slots n (adds slots (read_event b ∷ [])) (Returned found)) (fitted_bits e.width bits below stands.width)
      (makes-read (meant e) site line slots n found left (fitted-fitted (cast_signed w64 bits) e.width stands.width) (fitted_fits (cast_signed w64 bits) e.width stands.width)))

  module _ (slots : List ℤ) (v : ℤ) (bits_are : to_bits v ≡ bits) (signed : FitsSigned w64 v) (fits : fitted v e.width ≡ v) where
    can_have : CanHave e.width bits
    can_have =
        sym (fitted_bits e.width bits below stands.width)
        ∙ ap (λ (z : ℤ). to_bits (fitted z e.width)) (ap (λ (n : ℕ). cast_signed w64 n) (sym bits_are) ∙ to_z-of_z w64 v signed)
        ∙ ap (λ (z : ℤ). to_bits z) fits ∙ bits_are

    -- a store, and an update
    pub change_made : (c : Change) → new.hand ≡ with_view mid.hand (hand.did mid.hand.view (change_deed c e.word bits))
        → GainsRecords mid.buffer new.buffer (change_event (kind_of c) ∷ []) → Made w (put (model.access (kind_of c) (meant e) site line v)) slots slots old new (Returned tt)
    change_made Store hand_is gains =
        subst (λ (b : ℕ). Made w (put (record { kind = kind.Write; size = e.width; site = site; line = line; addr = e.addr; value = b })) slots slots old new (Returned tt)) (sym bits_are)
        (made_one w old mid new (change_event kind.Write) (deed.Write e.word bits) (put (change_event kind.Write)) slots tt room hand_is
        (ap (λ (n : ℕ). deed.Write n bits ∷ []) stands.word) unrefused gains some
        (record { no_region = λ is. cc; element = λ is. of_element (change_event kind.Write) refl refl; stores = λ is. can_have }) refl tally done_is refl (λ held. refl)
        (λ n left. makes-put (change_event kind.Write) slots n left refl refl))
    change_made (Update minus) hand_is gains =
        subst (λ (b : ℕ). Made w (put (record { kind = kind.Update; size = e.width; site = site; line = line; addr = e.addr; value = b })) slots slots old new (Returned tt)) (sym bits_are)
        (made_one w old mid new (change_event kind.Update) (deed.Update e.word bits) (put (change_event kind.Update)) slots tt room hand_is
        (ap (λ (n : ℕ). deed.Update n bits ∷ []) stands.word) unrefused gains some
        (record { no_region = λ is. cc; element = λ is. of_element (change_event kind.Update) refl refl; stores = λ is. can_have }) refl tally done_is refl (λ held. refl)
        (λ n left. makes-put (change_event kind.Update) slots n left refl refl))
