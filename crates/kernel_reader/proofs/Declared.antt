-- Declarations one after the other, as a loop reads them.
use Rattle.std.proofs.Common.{◌≡◌, ℕ, ◌+◌, not, ◌||◌, List, [], ◌∷◌, ◌++◌, length, sym, ap, subst, ◌∙◌, append_assoc}
use Rattle.std.specs.Prelude.{ℤ, nat_le, nat_lt, is_none, unwrap_or}
use Rattle.kernel_syntax.specs.declared.syntax.Array.{Array}
use Rattle.kernel_syntax.specs.Layout.{elements}
use Rattle.kernel_text.specs.declared.fault.KernelWhy.TheVariants as why
use Rattle.kernel_text.specs.Tokens.{Refusal}
use Rattle.kernel_text.specs.Grammar.{Declaration, ArrayOf}
use Rattle.kernel_reader.specs.Scope.{is_array, is_among, is_between, count_literal}
use Rattle.kernel_reader.specs.Rules.{fault_if, width_of, array_of, declarations_faults, arrays_of, mutex_names}
use Rattle.kernel_reader.specs.Settled.{IsFirstOf}
use Rattle.kernel_reader.specs.declared.fault.ReadKernelFault.{ReadKernelFault}
use Rattle.kernel_reader.proofs.Broken.{first-before}

-- the rules of an array
abbrev pub ArrayFaults : List Array → List (List ℕ) → ℕ → List ℕ → ℕ → List ℕ → ℕ → ℤ → List Refusal
ArrayFaults arrays mutexes nl name wl width cl count = fault_if (is_array name arrays || is_among name mutexes) nl why.Twice ++ (fault_if (nat_le 64 (length arrays)) nl why.Large ++ (fault_if (is_none (width_of width)) wl why.Width ++ (fault_if (not (is_between 1 1048576 count)) cl why.Count ++ fault_if (nat_lt 1048576 (elements arrays + count_literal count)) cl why.Large)))

joined-5 : (a b c d e z : List Refusal) → (a ++ (b ++ (c ++ (d ++ e)))) ++ z ≡ a ++ (b ++ (c ++ (d ++ (e ++ z))))
joined-5 a b c d e z = append_assoc a (b ++ (c ++ (d ++ e))) z ∙ ap (λ (l : List Refusal). a ++ l) (append_assoc b (c ++ (d ++ e)) z ∙ ap (λ (l : List Refusal). b ++ l) (append_assoc c (d ++ e) z ∙ ap (λ (l : List Refusal). c ++ l) (append_assoc d e z)))

-- the rules of the first and those of the rest
array-joined : (arrays : List Array) (mutexes : List (List ℕ)) (line nl : ℕ) (name : List ℕ) (wl : ℕ) (width : List ℕ) (cl : ℕ) (count : ℤ) (es : List Declaration)
    → ArrayFaults arrays mutexes nl name wl width cl count ++ declarations_faults (arrays ++ array_of name (unwrap_or (width_of width) 0) count ∷ []) mutexes es ≡ declarations_faults arrays mutexes (ArrayOf line nl name wl width cl count ∷ es)
array-joined arrays mutexes line nl name wl width cl count es =
    joined-5 (fault_if (is_array name arrays || is_among name mutexes) nl why.Twice) (fault_if (nat_le 64 (length arrays)) nl why.Large) (fault_if (is_none (width_of width)) wl why.Width) (fault_if (not (is_between 1 1048576 count)) cl why.Count) (fault_if (nat_lt 1048576 (elements arrays + count_literal count)) cl why.Large) _

-- these declarations are left, behind the ones that were read
pub record AreLeft (ds es : List Declaration) (arrays : List Array) (mutexes : List (List ℕ)) : Type 0 where
  pub faults : declarations_faults [] [] ds ≡ declarations_faults arrays mutexes es
  pub arrays_are : arrays_of ds ≡ arrays ++ arrays_of es
  pub mutexes_are : mutex_names ds ≡ mutexes ++ mutex_names es

pub array-fails : (ds es : List Declaration) (arrays : List Array) (mutexes : List (List ℕ)) (line nl : ℕ) (name : List ℕ) (wl : ℕ) (width : List ℕ) (cl : ℕ) (count : ℤ) (f : ReadKernelFault) → AreLeft ds (ArrayOf line nl name wl width cl count ∷ es) arrays mutexes
    → IsFirstOf (ArrayFaults arrays mutexes nl name wl width cl count) f → IsFirstOf (declarations_faults [] [] ds) f
array-fails ds es arrays mutexes line nl name wl width cl count f l told =
    subst (λ (z : List Refusal). IsFirstOf z f) (array-joined arrays mutexes line nl name wl width cl count es ∙ sym l.faults) (first-before (ArrayFaults arrays mutexes nl name wl width cl count) _ f told)

pub array-steps : (ds es : List Declaration) (arrays more : List Array) (mutexes : List (List ℕ)) (line nl : ℕ) (name : List ℕ) (wl : ℕ) (width : List ℕ) (cl : ℕ) (count : ℤ) (x : Array) → AreLeft ds (ArrayOf line nl name wl width cl count ∷ es) arrays mutexes
    → ArrayFaults arrays mutexes nl name wl width cl count ≡ [] → x ≡ array_of name (unwrap_or (width_of width) 0) count → more ≡ arrays ++ x ∷ [] → AreLeft ds es more mutexes
array-steps ds es arrays more mutexes line nl name wl width cl count x l fine is more_is =
    let made : Array = array_of name (unwrap_or (width_of width) 0) count in
    let grown : more ≡ arrays ++ made ∷ [] = more_is ∙ ap (λ (a : Array). arrays ++ a ∷ []) is in
    record {
      faults = l.faults ∙ sym (array-joined arrays mutexes line nl name wl width cl count es) ∙ ap (λ (z : List Refusal). z ++ declarations_faults (arrays ++ made ∷ []) mutexes es) fine
          ∙ ap (λ (a : List Array). declarations_faults a mutexes es) (sym grown);
      arrays_are = l.arrays_are ∙ sym (append_assoc arrays (made ∷ []) (arrays_of es)) ∙ ap (λ (a : List Array). a ++ arrays_of es) (sym grown);
      mutexes_are = l.mutexes_are;
    }
