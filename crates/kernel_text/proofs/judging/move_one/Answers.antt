use Rattle.kernel_text.specs.Wanting.{stack_of}
use Rattle.kernel_text.proofs.Moving.{alone}
use Rattle.kernel_text.proofs.judging.move_one.Goals as goal

pub returns-in-Name : goal.returns-in-Name
returns-in-Name c =
    alone c.name_move.result _ _ c.args.lexeme.now (stack_of c.args.stack.now.items) c.in-Name.is c.requires c.name_move.ensures

pub returns-in-Number : goal.returns-in-Number
returns-in-Number c =
    alone c.number_move.result _ _ c.args.lexeme.now (stack_of c.args.stack.now.items) c.in-Number.is c.requires c.number_move.ensures

pub returns-in-In : goal.returns-in-In
returns-in-In c =
    alone c.in_move.result _ _ c.args.lexeme.now (stack_of c.args.stack.now.items) c.in-In.is c.requires c.in_move.ensures

pub returns-in-Assign : goal.returns-in-Assign
returns-in-Assign c =
    alone c.assign_move.result _ _ c.args.lexeme.now (stack_of c.args.stack.now.items) c.in-Assign.is c.requires c.assign_move.ensures

pub returns-in-UpdateSign : goal.returns-in-UpdateSign
returns-in-UpdateSign c =
    alone c.update_sign_move.result _ _ c.args.lexeme.now (stack_of c.args.stack.now.items) c.in-UpdateSign.is c.requires c.update_sign_move.ensures

pub returns-in-OpenBracket : goal.returns-in-OpenBracket
returns-in-OpenBracket c =
    alone c.open_bracket_move.result _ _ c.args.lexeme.now (stack_of c.args.stack.now.items) c.in-OpenBracket.is c.requires c.open_bracket_move.ensures

pub returns-in-CloseBracket : goal.returns-in-CloseBracket
returns-in-CloseBracket c =
    alone c.close_bracket_move.result _ _ c.args.lexeme.now (stack_of c.args.stack.now.items) c.in-CloseBracket.is c.requires c.close_bracket_move.ensures

pub returns-in-CloseParen : goal.returns-in-CloseParen
returns-in-CloseParen c =
    alone c.close_paren_move.result _ _ c.args.lexeme.now (stack_of c.args.stack.now.items) c.in-CloseParen.is c.requires c.close_paren_move.ensures

pub returns-in-CloseBrace : goal.returns-in-CloseBrace
returns-in-CloseBrace c =
    alone c.close_brace_move.result _ _ c.args.lexeme.now (stack_of c.args.stack.now.items) c.in-CloseBrace.is c.requires c.close_brace_move.ensures

pub returns-in-Dots : goal.returns-in-Dots
returns-in-Dots c =
    alone c.dots_move.result _ _ c.args.lexeme.now (stack_of c.args.stack.now.items) c.in-Dots.is c.requires c.dots_move.ensures

pub returns-in-Chunk : goal.returns-in-Chunk
returns-in-Chunk c =
    alone c.chunk_move.result _ _ c.args.lexeme.now (stack_of c.args.stack.now.items) c.in-Chunk.is c.requires c.chunk_move.ensures

pub returns-in-Nowait : goal.returns-in-Nowait
returns-in-Nowait c =
    alone c.nowait_move.result _ _ c.args.lexeme.now (stack_of c.args.stack.now.items) c.in-Nowait.is c.requires c.nowait_move.ensures

pub returns-in-SectionName : goal.returns-in-SectionName
returns-in-SectionName c =
    alone c.section_name_move.result _ _ c.args.lexeme.now (stack_of c.args.stack.now.items) c.in-SectionName.is c.requires c.section_name_move.ensures
