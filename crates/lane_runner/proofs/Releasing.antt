-- What a work releases at its end: works one after another, and what ends them.
use Rattle.std.proofs.Common.{◌≡◌, ◌⊎◌, inl, inr, refl, ap, ap₂, sym, ◌∙◌, ℕ, List, [], ◌∷◌, ◌++◌, append_assoc}
use Rattle.std.specs.Prelude.{map, reverse}
use Rattle.std.proofs.lemmas.List.{append-nil}
use Rattle.race_model.proofs.Held.{held_after-append}
use Rattle.log_format.specs.declared.record.Record.{Record}
use Rattle.race_model.specs.Race.{held_after}
use Rattle.race_model.specs.History.{release}
use Rattle.history_model.specs.Work.{Work, Rest, RegionWork, work_records, work_regions, then_work}
use Rattle.history_model.proofs.Parts.{then_records, then_regions}
use Rattle.lane_runner.specs.Going.{log_of, HasReleased, Cause, AtLog, AtRegion, AtTasks, EndsBy}
use Rattle.execution_model.specs.Stops.{LastIsRegion}
use Rattle.lane_runner.proofs.Working.{log_then}

pub released_none : (before : List ℕ) → HasReleased before Rest []
released_none before = record { records = refl; held = refl; apart = inr refl }

pub released_then : (before : List ℕ) (one two : Work) (own : List ℕ) → HasReleased before one [] → HasReleased before two own → HasReleased before (then_work one two) own
released_then before one two own x y = record {
  records =
      then_records one two
      ∙ ap (λ (rs : List Record). rs ++ work_records two) (x.records ∙ append-nil (log_of one))
      ∙ ap (λ (rs : List Record). log_of one ++ rs) y.records
      ∙ sym (append_assoc (log_of one) (log_of two) (map release own))
      ∙ ap (λ (rs : List Record). rs ++ map release own) (sym (log_then one two));
  held =
      ap (λ (rs : List Record). held_after (reverse before) rs) (log_then one two)
      ∙ held_after-append (reverse before) (log_of one) (log_of two)
      ∙ ap (λ (held : List ℕ). held_after held (log_of two)) x.held
      ∙ y.held;
  apart = both x.apart y.apart;
}
  where
    both : (before ≡ []) ⊎ (work_regions one ≡ []) → (before ≡ []) ⊎ (work_regions two ≡ []) → (before ≡ []) ⊎ (work_regions (then_work one two) ≡ [])
    both (inl none) second = inl none
    both (inr first) (inl none) = inl none
    both (inr first) (inr second) = inr (then_regions one two ∙ ap₂ (λ (rs more : List RegionWork). rs ++ more) first second)

last_then : (xs ys : List Record) → LastIsRegion ys → LastIsRegion (xs ++ ys)
last_then xs ys e = record {
  prefix = xs ++ e.prefix;
  last = e.last;
  parts = ap (λ (rs : List Record). xs ++ rs) e.parts ∙ sym (append_assoc xs e.prefix (e.last ∷ []));
  forks = e.forks;
}

pub ends_then : (cause : Cause) (own : List ℕ) (xs ys : List Record) → EndsBy cause own ys → EndsBy cause own (xs ++ ys)
unfolding last_then
ends_then AtLog own xs ys e = tt
ends_then (AtRegion path why) own xs ys (none, e) = (none, last_then xs ys e)
ends_then (AtTasks line) own xs ys (none, e) = (none, record { region = last_then xs ys e.region; line_is = e.line_is })
