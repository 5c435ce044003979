use Rattle.std.proofs.Common.{sym}
use Rattle.kernel_text.proofs.Few.{tokens_of-few}
use Rattle.kernel_reader.proofs.Kernels.{gives-kernel, gives-bounded, gives-only, gives-fault, gives-none}
use Rattle.kernel_reader.proofs.Refusing.{no_syntax_fault, not_too_deep, refused_syntax, refused_deep, refused_early}
use Rattle.kernel_reader.proofs.kernel.kernel_of.Goals as goal

pub kernel_at-requires-clause-few : goal.kernel_at-requires-clause-few
kernel_at-requires-clause-few c = tokens_of-few c.args.text.now c.args.found.now c.requires.tokens

pub kernel_at-requires-clause-some : goal.kernel_at-requires-clause-some
kernel_at-requires-clause-some c = let v = rw c.in-Kernel.is at c.in_ok-judge.ensures in (v.0, sym v.3, v.1, v.2)

pub returns-in-Kernel-clause-kernel : goal.returns-in-Kernel-clause-kernel
returns-in-Kernel-clause-kernel c = gives-kernel c.args.text.now c.args.found.now c.kernel_at.result c.requires.tokens (rw c.in-Kernel.is at c.in_ok-judge.ensures) c.kernel_at.ensures

pub returns-in-Kernel-clause-bounded : goal.returns-in-Kernel-clause-bounded
returns-in-Kernel-clause-bounded c = gives-bounded c.args.text.now c.args.found.now c.kernel_at.result c.requires.tokens (rw c.in-Kernel.is at c.in_ok-judge.ensures) c.kernel_at.ensures

pub returns-in-Kernel-clause-only : goal.returns-in-Kernel-clause-only
returns-in-Kernel-clause-only c = gives-only c.args.text.now c.args.found.now c.kernel_at.result c.requires.tokens c.kernel_at.ensures

pub returns-in-Kernel-clause-fault : goal.returns-in-Kernel-clause-fault
returns-in-Kernel-clause-fault c = gives-fault c.args.text.now c.args.found.now c.kernel_at.result c.requires.tokens (rw c.in-Kernel.is at c.in_ok-judge.ensures) c.kernel_at.ensures

pub returns-in-Kernel-clause-none : goal.returns-in-Kernel-clause-none
returns-in-Kernel-clause-none c = gives-none c.args.text.now c.args.found.now c.kernel_at.result c.requires.tokens c.kernel_at.ensures

pub returns-in-Syntax-clause-fault : goal.returns-in-Syntax-clause-fault
returns-in-Syntax-clause-fault c = refused_syntax c.args.text.now c.args.found.now c.in-Syntax.line c.requires.tokens (rw c.in-Syntax.is at c.in_ok-judge.ensures)

pub returns-in-Deep-clause-fault : goal.returns-in-Deep-clause-fault
returns-in-Deep-clause-fault c = refused_deep c.args.text.now c.args.found.now c.in-Deep.line c.requires.tokens (rw c.in-Deep.is at c.in_ok-judge.ensures)

pub returns-in-Syntax-clause-none : goal.returns-in-Syntax-clause-none
returns-in-Syntax-clause-none c = let v = rw c.in-Syntax.is at c.in_ok-judge.ensures in no_syntax_fault c.args.text.now c.args.found.now v.0 c.requires.tokens v.1

pub returns-in-Deep-clause-none : goal.returns-in-Deep-clause-none
returns-in-Deep-clause-none c = let v = rw c.in-Deep.is at c.in_ok-judge.ensures in not_too_deep c.args.text.now c.args.found.now v.0 c.requires.tokens v.1

pub returns-in-Early-clause-fault : goal.returns-in-Early-clause-fault
returns-in-Early-clause-fault c = refused_early c.args.text.now c.args.found.now c.line_at.result c.line_at.ensures c.requires.tokens (rw c.in-Early.is at c.in_ok-judge.ensures)
