use Rattle.std.proofs.Common.{◌≡◌, ap, sym, ◌∙◌, subst, ℕ, ◌+◌, ◌*◌, ◌<◌, ℤ, pos, ◌≤ℤ◌, List, Some, w64, arith}
use Rattle.std.specs.Prelude.{slice_get}
use Rattle.std.specs.Int.RustNames.{unsigned_abs, int_lt}
use Rattle.std.proofs.lemmas.Int.{to_z-of_z}
use Rattle.kernel_syntax.specs.declared.syntax.Array.{Array}
use Rattle.kernel_syntax.specs.Layout.{IsPlaced}
use Rattle.log_format.specs.Fitting.{IsWidth}
use Rattle.kernel_model.specs.Value.{element_at}
use Rattle.kernel_model.proofs.Elements.{array_found, above_is, element_is}
use Rattle.task_place.specs.declared.place.Element.{Element}
use Rattle.task_place.specs.Placing.{IsElement}
use Rattle.task_place.proofs.place.element_in.Goals as goal

element_found : (arrays : List Array) (words : ℕ) (e : Element) (k : ℕ) (a : Array) (i : ℤ) (n : ℕ) → IsPlaced words a → slice_get arrays k ≡ Some a → pos 0 ≤ℤ i → n < a.count → n ≡ unsigned_abs i
    → e.word ≡ a.first + n → e.addr ≡ a.base + n * a.width → e.width ≡ a.width → IsElement arrays words (element_at arrays k i) e
element_found arrays words e k a i n placed found low high n_is word addr width = record {
  is = element_is arrays k a i n e.addr e.width found low high n_is addr width;
  width = subst IsWidth (sym width) placed.width;
  inside = let inside = placed.inside in omega (arith, inside, high, word);
  numbered = record { place = k; array = a; number = n; listed = found; within = high; word = word; addr = addr; width = width };
}

pub element_of-requires-clause-fits : goal.element_of-requires-clause-fits
element_of-requires-clause-fits c =
    let h = c.in_ok-place.ensures.lookup in
    let placed = c.requires.placed.each c.args.array c.in_ok-place.place.now (array_found _ _ _ h.3.0 h.1) in
    let few = c.requires.placed.few in
    omega (arith, placed.inside, few)

pub element_of-requires-clause-ends : goal.element_of-requires-clause-ends
element_of-requires-clause-ends c =
    let h = c.in_ok-place.ensures.lookup in
    let placed = c.requires.placed.each c.args.array c.in_ok-place.place.now (array_found _ _ _ h.3.0 h.1) in
    omega (arith, placed.ends)

pub returns : goal.returns
returns c = λ words placed.
    let h = c.in_ok-place.ensures.lookup in
    let here = array_found c.args.arrays.now c.args.array c.in_ok-place.place.now h.3.0 h.1 in
    let is = ap unsigned_abs (to_z-of_z w64 c.args.index c.ranges.index) in
    element_found c.args.arrays.now words c.element_of.result c.args.array c.in_ok-place.place.now c.args.index c.unsigned_abs-number.result (placed.each c.args.array c.in_ok-place.place.now here) here
    (above_is c.args.index (pos 0) (sym (ap (λ (z : ℤ). int_lt z (pos 0)) (to_z-of_z w64 c.args.index c.ranges.index)) ∙ c.if-index-lt0.false))
    (omega arith) (c.unsigned_abs-number.ensures.value ∙ is) c.element_of.ensures.word c.element_of.ensures.addr c.element_of.ensures.width
