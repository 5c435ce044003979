use Rattle.std.proofs.Common.{◌≡◌, ℕ, List, ◌+◌, ◌∷◌, [], w64, to_z, of_z, subst, sym, ap, ◌∙◌, arith, rules, length, length-append}
use Rattle.std.specs.Prelude.{ℤ, map, unwrap_or}
use Rattle.std.proofs.lemmas.Int.{to_z-of_z}
use Rattle.std.proofs.lemmas.Result.{err_from_is_err_and}
use Rattle.std.proofs.lemmas.List.Sums.{sum_by_push}
use Rattle.kernel_syntax.specs.declared.syntax.Array.{Array}
use Rattle.kernel_syntax.specs.Layout.{elements}
use Rattle.kernel_parser.specs.Trees.{declaration_of}
use Rattle.kernel_reader.specs.Rules.{width_of, array_of}
use Rattle.kernel_reader.specs.Settled.{IsFirstOf}
use Rattle.kernel_reader.proofs.Declared.{ArrayFaults, array-fails, array-steps}
use Rattle.kernel_reader.proofs.declarations.declarations.Goals as goal

pub returns-in_err-array-in-Array-clause-declared : goal.returns-in_err-array-in-Array-clause-declared
returns-in_err-array-in-Array-clause-declared c =
    let a = c.in-Array in
    let ds = map declaration_of c.args.written.now in
    let es = map declaration_of c.in-Some.others.now in
    let arrays = c.declarations.arrays in
    let mutexes = c.declarations.mutexes in
    let fault = c.in_err-array-in-Array.field-0.0 in
    let l = rw (c.in-Some.ensures.cases.0, a.is) at c.declarations.invariant.left in
    let Told : ℤ → Type 0 = λ n. IsFirstOf (ArrayFaults arrays mutexes a.name_line a.name a.width_line a.width a.count_line n) fault in
    let seen : Told (to_z w64 (of_z w64 a.count)) = rw (← c.as_slice.ensures, ← c.as_slice-in-Array.ensures) c.in_err-array-in-Array.ensures.array in
    let p = err_from_is_err_and c.from_residual.result c.from_residual.ensures.1 in
    rw (p.1, p.2) (array-fails ds es arrays mutexes a.line a.name_line a.name a.width_line a.width a.count_line a.count fault l (subst Told (to_z-of_z w64 a.count (search rules)) seen))

pub declarations-preserved-in_ok-push-in-Array : goal.declarations-preserved-in_ok-push-in-Array
declarations-preserved-in_ok-push-in-Array c =
    let a = c.in-Array in
    let x = c.in_ok-array-in-Array.array in
    let ds = map declaration_of c.args.written.now in
    let es = map declaration_of c.in-Some.others.now in
    let arrays = c.declarations.arrays in
    let mutexes = c.declarations.mutexes in
    let l = rw (c.in-Some.ensures.cases.0, a.is) at c.declarations.invariant.left in
    let Read : ℤ → Type 0 = λ n. (ArrayFaults arrays mutexes a.name_line a.name a.width_line a.width a.count_line n ≡ []) × (x ≡ array_of a.name (unwrap_or (width_of a.width) 0) n) in
    let seen : Read (to_z w64 (of_z w64 a.count)) = rw (← c.as_slice.ensures, ← c.as_slice-in-Array.ensures) c.in_ok-array-in-Array.ensures.array in
    let read = subst Read (to_z-of_z w64 a.count (search rules)) seen in
    let ok = c.in_ok-push-in-Array.ensures.ok in
    let more = sum_by_push (λ (b : Array). b.count) arrays x in
    let shown = ap (λ (xs : List Array). length xs) c.as_slice.ensures in
    let pushed = ap (λ (xs : List Array). length xs) ok in
    let small = c.in_ok-array-in-Array.ensures.few in
    record {
      left = array-steps ds es arrays c.push.new.self mutexes a.line a.name_line a.name a.width_line a.width a.count_line a.count x l read.0 read.1 ok;
      total_is = ap (λ (n : ℕ). n + x.count) c.declarations.invariant.total_is ∙ sym (ap elements ok ∙ more);
      small = c.in_ok-array-in-Array.ensures.small;
      few = omega (arith, length-append arrays (x ∷ []));
      few_mutexes = c.declarations.invariant.few_mutexes;
    }
