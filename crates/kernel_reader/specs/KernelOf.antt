-- The kernel of a text, or why it has none.
use Rattle.std.specs.Prelude.{◌≡◌, ℕ, List, [], ◌∷◌, length, Ok, Err}
use Rattle.kernel_syntax.specs.Program.{Program}
use Rattle.kernel_text.specs.declared.fault.KernelWhy.TheVariants as why
use Rattle.kernel_reader.specs.declared.fault.ReadKernelFault.{ReadKernelFault}
use Rattle.kernel_reader.specs.declared.fault.ReadKernelFault.TheVariants as read
use Rattle.kernel_text.specs.declared.token.Token.{Token}
use Rattle.kernel_text.specs.Tokens.{Refusal, line_at, tokens_of}
use Rattle.kernel_text.specs.Grammar.{KernelTree, kernel_tokens, IsKernel}
use Rattle.kernel_text.specs.Faults.{IsSyntaxFault, IsTooDeep, EndsEarly, IsShallow}
use Rattle.kernel_reader.specs.Rules.{kernel_faults}
use Rattle.kernel_reader.specs.Resolve.{program}

-- the text's tokens are those of a tree by the grammar that breaks no rule, and the kernel is that tree's
pub record IsKernelOf (text : List ℕ) (p : Program) : Type 0 where
  pub tree : KernelTree
  pub tokens : tokens_of text ≡ Ok (kernel_tokens tree)
  pub derives : IsKernel tree
  pub shallow : IsShallow tree
  pub lawful : kernel_faults tree ≡ []
  pub resolved : p ≡ program tree

-- the first stage that finds a fault gives the line and the reason
pub data IsRefused (text : List ℕ) (r : Refusal) : Type 0 where
  AtTokens : tokens_of text ≡ Err r → IsRefused text r
  AtSyntax : (ts : List Token) → (bad : Token) → tokens_of text ≡ Ok ts → IsSyntaxFault ts bad → r ≡ record { line = bad.line; why = why.Syntax } → IsRefused text r
  AtDepth : (ts : List Token) → (bad : Token) → tokens_of text ≡ Ok ts → IsTooDeep ts bad → r ≡ record { line = bad.line; why = why.Deep } → IsRefused text r
  AtEnd : (ts : List Token) → tokens_of text ≡ Ok ts → EndsEarly ts → r ≡ record { line = line_at text (length text); why = why.Syntax } → IsRefused text r
  AtRule : (tree : KernelTree) → (later : List Refusal) → tokens_of text ≡ Ok (kernel_tokens tree) → IsKernel tree → IsShallow tree → kernel_faults tree ≡ r ∷ later → IsRefused text r

-- the fault is the one of the text, or it is out of memory
abbrev pub IsFaultOf : List ℕ → ReadKernelFault → Type 0
IsFaultOf text (read.Refused line why) = IsRefused text (record { line = line; why = why })
IsFaultOf text read.Memory = Unit {0}

-- with it the text has no kernel
abbrev pub HasNoKernel : List ℕ → ReadKernelFault → Type 0
HasNoKernel text (read.Refused line why) = (p : Program) → IsKernelOf text p → ⊥
HasNoKernel text read.Memory = Unit {0}
