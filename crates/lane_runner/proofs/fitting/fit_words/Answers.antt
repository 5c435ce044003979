use Rattle.std.proofs.Common.{◌≡◌, ◌≢◌, ap, ap₂, ◌∙◌, ℕ, ◌<◌, ◌^◌, length, get_or, ℤ, w64, arith, rules, get_or-set_other, get_or-set_same, below_more, length-set}
use Rattle.std.specs.Int.{cast_signed, cast_unsigned}
use Rattle.std.proofs.lemmas.Int.{to_z-of_z}
use Rattle.log_format.specs.Fitting.{fitted, fit}
use Rattle.log_format.proofs.FittedBits.{fitted_bits}
use Rattle.execution_model.specs.Elements.{element_width}
use Rattle.lane_runner.proofs.fitting.fit_words.Goals as goal

pub loop-word-preserved : goal.loop-word-preserved
loop-word-preserved c =
    let arrays = c.args.arrays.now in
    let at = c.loop-word.word in
    let old = get_or c.loop-word.words at 0 in
    let within : at < length c.loop-word.words = search rules in
    let small : old < 2 ^ 64 = search rules in
    let still : old ≡ get_or c.args.words.now at 0 = c.loop-word.invariant.rest at (omega arith) in
    let signed : cast_signed w64 (cast_unsigned w64 c.cast_signed.result) ≡ cast_signed w64 old = to_z-of_z w64 c.cast_signed.result (search rules) ∙ c.cast_signed.ensures in
    let value : c.cast_unsigned.result ≡ fit (get_or c.args.words.now at 0) (element_width arrays at) =
    c.cast_unsigned.ensures
    ∙ ap (λ (z : ℤ). cast_unsigned w64 z) (to_z-of_z w64 c.fit.result (search rules) ∙ c.fit.ensures ∙ ap₂ (λ (z : ℤ) (width : ℕ). fitted z width) signed c.width_of.ensures)
    ∙ fitted_bits (element_width arrays at) old small (c.requires.widths at)
    ∙ ap (λ (n : ℕ). fit n (element_width arrays at)) still in
    record {
      count = length-set c.loop-word.words at c.cast_unsigned.result ∙ c.loop-word.invariant.count;
      fitted = below_more _ _ (λ k h. let other : k ≢ at = omega arith in rw get_or-set_other (c.loop-word.invariant.fitted k h)) (rw get_or-set_same value);
      rest = λ k h. let other : k ≢ at = omega arith in rw get_or-set_other (c.loop-word.invariant.rest k (omega arith));
    }
