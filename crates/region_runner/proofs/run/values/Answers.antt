use Rattle.std.proofs.Common.{◌≡◌, ◌∙◌, ◌++◌, ap, sym, subst, List, ℕ, length, take, drop}
use Rattle.std.proofs.Math.Seq.{take-append_seam}
use Rattle.history_model.specs.Sound.{AreFitted}
use Rattle.execution_model.specs.Elements.{layout_of}
use Rattle.region_runner.proofs.run.values.Goals as goal

pub returns : goal.returns
returns c =
    let old = c.args.words.items in
    let new = c.fit_words.new.words in
    let layout = layout_of c.args.arrays.now in
    let fitted : AreFitted layout old new = subst (λ (memory : List ℕ). AreFitted layout memory new) c.deref_mut.ensures.value c.fit_words.ensures.fitted in
    let count : length new ≡ c.args.words.len = fitted.count ∙ sym c.args.words.ok.0 in
    let whole : take c.args.words.len (new ++ drop (length new) old) ≡ new = ap (λ (n : ℕ). take n (new ++ drop (length new) old)) (sym count) ∙ take-append_seam new (drop (length new) old) in
    record { fitted = subst (λ (values : List ℕ). AreFitted layout old values) (sym whole) fitted }
