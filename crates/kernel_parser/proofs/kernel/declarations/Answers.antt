use Rattle.kernel_parser.proofs.Declared.{declaration-steps, declarations-end}
use Rattle.kernel_parser.proofs.kernel.declarations.Goals as goal

pub returns-in_default-declaration : goal.returns-in_default-declaration
returns-in_default-declaration c =
    let tells = rw c.in_default-declaration.is at c.declaration.ensures.declared in
    record { parsed = declarations-end c.args.tokens.now c.declarations.made.items c.declarations.rest.now c.in-Some.after.now c.in-Some.token.now c.declarations.invariant c.in-Some.ensures.cases.0 tells }

pub declarations-preserved : goal.declarations-preserved
declarations-preserved c =
    declaration-steps c.args.tokens.now c.declarations.made.items c.push.new.self.items c.declarations.rest.now c.in-Some.after.now c.in-Some.token.now (c.in-Some-declaration.added, c.in-Some-declaration.left) c.declarations.invariant c.in-Some.ensures.cases.0 c.in-Some-declaration.ensures.declared c.in-Some-declaration.ensures.ends c.in_ok-push.ensures.items
