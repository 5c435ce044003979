-- A kernel of a text breaks no rule exactly where its names are good and the program is lawful.
use Rattle.std.proofs.Common.{◌≡◌, ◌↔◌, refl, sym, subst, ◌∙◌, ℕ, false, List, [], length, None, arith}
use Rattle.std.specs.Prelude.{Ok}
use Rattle.kernel_syntax.specs.declared.syntax.Array.{Array}
use Rattle.kernel_syntax.proofs.Laying.{length-laid, elements-laid}
use Rattle.kernel_text.specs.Tokens.{tokens_of}
use Rattle.kernel_text.specs.Grammar.{KernelTree, kernel_tokens, IsKernel}
use Rattle.kernel_text.specs.Faults.{IsShallow}
use Rattle.kernel_reader.specs.Scope.{Place, slots}
use Rattle.kernel_reader.specs.Rules.{arrays_of, mutex_names, at_main, declarations_faults, stmts_faults, kernel_faults}
use Rattle.kernel_reader.specs.Resolve.{code, program}
use Rattle.kernel_reader.proofs.Broken.{none-of-both}
use Rattle.kernel_model.specs.Lawful.{IsScoped, IsLawful}
use Rattle.kernel_laws.specs.Naming.{HasGoodNames}
use Rattle.kernel_laws.proofs.Numbers.{tokens_of-small}
use Rattle.kernel_laws.proofs.Lawfulness.{kernels_are_lawful, bounds-small}
use Rattle.kernel_laws.proofs.Scoping.{scope_of}
use Rattle.kernel_laws.proofs.Working.{work-same}
use Rattle.kernel_laws.proofs.Declaring.{AreGood, no-fault, laid-filled, laid-widths}
use Rattle.kernel_laws.proofs.GoodNames.{good-names}
use Rattle.kernel_laws.proofs.Converse.{faultless}

-- a lawful program with good names comes of a tree that breaks no rule
pub lawful-faultless : (text : List ℕ) (tree : KernelTree) → tokens_of text ≡ Ok (kernel_tokens tree) → HasGoodNames tree → IsLawful (program tree) → kernel_faults tree ≡ []
lawful-faultless text tree tokens names lawful = none-of-both (declarations_faults [] [] tree.declarations) _ (no-fault tree.declarations [] [] names.declared good) body
  where
    arrays : List Array
    arrays = arrays_of tree.declarations

    p : Place
    p = at_main tree.declarations

    good : AreGood [] [] tree.declarations
    good =
        let limits = lawful.bounded.limits in
        let few = limits.few in
        let small = limits.small in
        let many = length-laid arrays in
        let counts = elements-laid arrays in
        let mutexes = lawful.few_mutexes in
        record {
          few = omega (arith, few, many);
          small = omega (arith, small, counts);
          widths = laid-widths arrays lawful.bounded.widths;
          filled = laid-filled arrays lawful.filled;
          few_mutexes = omega (arith, mutexes);
        }

    scoped : IsScoped (scope_of (slots tree.body) p.names) (code p 0 tree.body)
    scoped = subst (λ (n : ℕ). IsScoped (record { arrays = n; slots = slots tree.body; variables = [] }) (code p 0 tree.body)) (length-laid arrays) lawful.scoped

    body : stmts_faults p tree.body ≡ []
    body =
        faultless tree.body (slots tree.body) (length (mutex_names tree.declarations)) p 0 (record { regions = 0; spans = 1; critical = None; criticals = 0; divided = false; uneven = false }) []
        (record {
          below = tt;
          named = names.used;
          small = bounds-small tree (tokens_of-small text (kernel_tokens tree) tokens);
          quiet = λ barred. sym (work-same tree.body p 0) ∙ lawful.idle;
          scoped = scoped;
          bounded = lawful.bounded.body;
          even = lawful.even;
          nested = lawful.nested;
          light = lawful.light;
          locked = record { count = refl; last = refl };
        })

-- both ways
pub rules_are_exact : (text : List ℕ) (tree : KernelTree) → tokens_of text ≡ Ok (kernel_tokens tree) → IsKernel tree → IsShallow tree
    → (kernel_faults tree ≡ []) ↔ (HasGoodNames tree × IsLawful (program tree))
rules_are_exact text tree tokens derives shallow = (
  λ none. (good-names tree none, kernels_are_lawful text (program tree) (record { tree = tree; tokens = tokens; derives = derives; shallow = shallow; lawful = none; resolved = refl })),
  λ both. lawful-faultless text tree tokens both.0 both.1,
)
