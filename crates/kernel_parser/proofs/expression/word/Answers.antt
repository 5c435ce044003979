use Rattle.kernel_text.specs.Grammar.{reserved}
use Rattle.kernel_parser.proofs.Parts.{tid-is, span-is, no-operand, no-word}
use Rattle.kernel_parser.proofs.expression.word.Goals as goal

pub returns-in-Tid-clause-read : goal.returns-in-Tid-clause-read
returns-in-Tid-clause-read c = λ levels u after is. tid-is levels c.args.line c.args.word _ u after c.in-Tid.is is

pub returns-in-Span-clause-read : goal.returns-in-Span-clause-read
returns-in-Span-clause-read c = λ levels u after is. span-is levels c.args.line c.args.word _ u after c.in-Span.is is

pub returns-in_default-clause-read : goal.returns-in_default-clause-read
returns-in_default-clause-read c = λ levels u after is. no-operand levels (reserved c.args.line c.args.word) _ u after is (no-word c.args.word u c.in_default.not-Tid c.in_default.not-Span)
