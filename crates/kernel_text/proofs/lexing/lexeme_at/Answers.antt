use Rattle.kernel_text.proofs.Prefixes.{name_is_ascii, digits_are_digits}
use Rattle.kernel_text.proofs.lexing.lexeme_at.Goals as goal

pub name_lexeme-requires : goal.name_lexeme-requires
name_lexeme-requires c = rw c.name_len.ensures (name_is_ascii c.args.bytes.now)

pub number_lexeme-requires : goal.number_lexeme-requires
number_lexeme-requires c = rw c.digits_len.ensures (digits_are_digits c.args.bytes.now)
