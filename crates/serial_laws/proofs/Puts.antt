-- What a task puts from the records that it made.
use Rattle.std.proofs.Common.{◌≡◌, refl, ap, ap₂, sym, ◌∙◌, subst, inl, inr, ℕ, List, [], ◌∷◌, ◌++◌}
use Rattle.log_format.specs.declared.record.Record.{Record}
use Rattle.log_format.specs.declared.record.Kind.{Kind}
use Rattle.log_format.specs.declared.record.Kind.TheVariants as kind
use Rattle.kernel_model.specs.State.{event}
use Rattle.history_model.specs.Work.{Work, Put, logged_value, work_records, work_regions}
use Rattle.history_model.specs.Sound.{IsSoundRecord}
use Rattle.serial_run.specs.Going.{SerialProgress, FindsValue, words_after, Finds}
use Rattle.serial_run.specs.Placing.{ElementLayout}
use Rattle.serial_run.specs.Stepping.{Adds}
use Rattle.serial_team.specs.Running.{whole_value, put_all}

module _ (layout : ElementLayout) where
  -- a record that neither reads nor changes a word
  pub record IsStill (mark : Record) : Type 0 where
    pub whole : (words : List ℕ) → whole_value layout mark.kind mark words ≡ mark.value
    pub words : (words : List ℕ) → words_after layout mark.kind mark words ≡ words
    pub sound : IsSoundRecord layout.words mark

  pub barrier_still : (line : ℕ) → IsStill (event kind.Barrier line 0 0)
  barrier_still line = record {
    whole = λ words. refl;
    words = λ words. refl;
    sound = record { no_region = λ is. cc; element = λ is. absurd (elim is [ inl e ↦ cc | inr e ↦ elim e [ inl f ↦ cc | inr f ↦ cc ] ]); stores = λ is. cc };
  }

  pub end_still : (line : ℕ) → IsStill (event kind.End line 0 0)
  end_still line = record {
    whole = λ words. refl;
    words = λ words. refl;
    sound = record { no_region = λ is. cc; element = λ is. absurd (elim is [ inl e ↦ cc | inr e ↦ elim e [ inl f ↦ cc | inr f ↦ cc ] ]); stores = λ is. cc };
  }

  -- ---- before a mark

  marked_words : (plain : List Record) (mark : Record) (old new : List ℕ) → ((words : List ℕ) → words_after layout mark.kind mark words ≡ words)
      → Finds layout (plain ++ mark ∷ []) old new → Finds layout plain old new
  marked_words [] mark old new still f = f.1 ∙ still old
  marked_words (r ∷ plain) mark old new still f = (f.0, marked_words plain mark (words_after layout r.kind r old) new still f.1)

  -- what is made before a mark finds the words, and leaves them as the mark does
  pub plain_finds : (old new : SerialProgress) (mark : Record) (a : Adds layout old new (mark ∷ [])) → ((words : List ℕ) → words_after layout mark.kind mark words ≡ words)
      → Finds layout a.plain old.words new.words
  plain_finds old new mark a still = marked_words a.plain mark old.words new.words still (subst (λ (rs : List Record). Finds layout rs old.words new.words) a.added_is a.gains.finds)

  put_mark : (plain : List Record) (mark : Record) (words : List ℕ) (more : Work) → ((ws : List ℕ) → whole_value layout mark.kind mark ws ≡ mark.value)
      → put_all layout words (plain ++ mark ∷ []) more ≡ put_all layout words plain (Put mark more)
  put_mark [] mark words more whole = ap (λ (v : ℕ). Put (record mark { value = v }) more) (whole words)
  put_mark (r ∷ plain) mark words more whole = ap (λ (w : Work). Put (record r { value = whole_value layout r.kind r words }) w) (put_mark plain mark (words_after layout r.kind r words) more whole)

  -- the mark is put after them
  pub puts_mark : (old new : SerialProgress) (mark : Record) (a : Adds layout old new (mark ∷ [])) (more : Work) → IsStill mark
      → put_all layout old.words a.added more ≡ put_all layout old.words a.plain (Put mark more)
  puts_mark old new mark a more still = ap (λ (rs : List Record). put_all layout old.words rs more) a.added_is ∙ put_mark a.plain mark old.words more still.whole

  -- ---- what a log tells

  logged_is : (k : Kind) (r : Record) (words : List ℕ) → FindsValue layout k r words → logged_value k (record r { value = whole_value layout k r words }) ≡ r.value
  logged_is kind.Read r words f = sym f.1
  logged_is _ r words f = refl

  -- the log tells the records
  pub put_records_are : (rs : List Record) (old new : List ℕ) (more : Work) → Finds layout rs old new → work_records (put_all layout old rs more) ≡ rs ++ work_records more
  put_records_are [] old new more f = refl
  put_records_are (r ∷ rs) old new more f =
      ap₂ (λ (v : ℕ) (l : List Record). record r { value = v } ∷ l) (logged_is r.kind r old f.0) (put_records_are rs (words_after layout r.kind r old) new more f.1)

  pub put_regions : (rs : List Record) (words : List ℕ) (more : Work) → work_regions (put_all layout words rs more) ≡ work_regions more
  put_regions [] words more = refl
  put_regions (r ∷ rs) words more = put_regions rs (words_after layout r.kind r words) more
