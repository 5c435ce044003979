-- What stands at the beginning of a kernel's tokens.
use Rattle.std.proofs.Common.{◌≡◌, ℕ, Bool, true, false, List, [], ◌∷◌, Option, Some, None, refl, sym, ap, ◌∙◌}
use Rattle.std.specs.Prelude.{ℤ, pos, if◌then◌else◌}
use Rattle.kernel_text.specs.declared.token.Word.TheVariants as word
use Rattle.kernel_text.specs.declared.token.Sign.TheVariants as sign
use Rattle.kernel_text.specs.declared.token.Lexeme.{Lexeme}
use Rattle.kernel_text.specs.declared.token.Lexeme.TheVariants.{Named, Number, Reserved, Mark}
use Rattle.kernel_text.specs.declared.token.Token.{Token}
use Rattle.kernel_text.specs.Grammar.{Stmts, NoMore, Let, Assign, Store, Update, If, IfElse, Loop, Parallel, For, Barrier, Critical, CriticalOf}
use Rattle.kernel_parser.specs.declared.lookahead.Lead.{Lead}
use Rattle.kernel_parser.specs.declared.lookahead.Lead.TheVariants as lead
use Rattle.kernel_parser.specs.Parsing.{lead_of_stmts, inside}

abbrev pub line_of : List Token → ℕ
line_of [] = 0
line_of (t ∷ ts) = t.line

abbrev number_in : Lexeme → ℤ
number_in (Number n) = n
number_in _ = pos 0

abbrev pub number_of : List Token → ℤ
number_of [] = pos 0
number_of (t ∷ ts) = number_in t.lexeme

abbrev is_number_in : Lexeme → Bool
is_number_in (Number n) = true
is_number_in _ = false

abbrev pub is_number : List Token → Bool
is_number [] = false
is_number (t ∷ ts) = is_number_in t.lexeme

abbrev is_nowait_in : Lexeme → Bool
is_nowait_in (Reserved word.Nowait) = true
is_nowait_in _ = false

abbrev pub is_nowait : List Token → Bool
is_nowait [] = false
is_nowait (t ∷ ts) = is_nowait_in t.lexeme

abbrev is_static_in : Lexeme → Bool
is_static_in (Reserved word.Static) = true
is_static_in _ = false

abbrev pub is_static : List Token → Bool
is_static [] = false
is_static (t ∷ ts) = is_static_in t.lexeme

abbrev is_dynamic_in : Lexeme → Bool
is_dynamic_in (Reserved word.Dynamic) = true
is_dynamic_in _ = false

abbrev pub is_dynamic : List Token → Bool
is_dynamic [] = false
is_dynamic (t ∷ ts) = is_dynamic_in t.lexeme

abbrev is_bracket : Lexeme → Bool
is_bracket (Mark sign.OpenBracket) = true
is_bracket _ = false

abbrev is_bracketed : List Token → Bool
is_bracketed [] = false
is_bracketed (t ∷ ts) = is_bracket t.lexeme

-- the lead of a statement by its first two tokens
abbrev lead_of : Lexeme → List Token → Option Lead
lead_of (Reserved word.Let) rest = Some lead.Let
lead_of (Reserved word.Atomic) rest = Some lead.Update
lead_of (Reserved word.If) rest = Some lead.If
lead_of (Reserved word.Loop) rest = Some lead.Loop
lead_of (Reserved word.Parallel) rest = Some lead.Parallel
lead_of (Reserved word.For) rest = Some lead.For
lead_of (Reserved word.Barrier) rest = Some lead.Barrier
lead_of (Reserved word.Critical) rest = Some lead.Critical
lead_of (Named name) rest = if is_bracketed rest then Some lead.Store else Some lead.Assign
lead_of _ rest = None

abbrev lead_at : List Token → Option Lead
lead_at [] = None
lead_at (t ∷ ts) = lead_of t.lexeme ts

lead-inside : (b : Stmts) (end : ℕ) (tail : List Token) → lead_at (inside b end tail) ≡ lead_of_stmts b
lead-inside NoMore end tail = refl
lead-inside (Let line name_line name sign_line value rest) end tail = refl
lead-inside (Assign line name sign_line value rest) end tail = refl
lead-inside (Store line name opened index closed sign_line value rest) end tail = refl
lead-inside (Update line name_line name opened index closed minus sign_line value rest) end tail = refl
lead-inside (If line test opened if_true closed rest) end tail = refl
lead-inside (IfElse line test opened if_true closed else_line else_opened if_false else_closed rest) end tail = refl
lead-inside (Loop line name_line name in_line from dots to opened body closed rest) end tail = refl
lead-inside (Parallel line number_line span opened body closed rest) end tail = refl
lead-inside (For line name_line name in_line from dots to schedule nowait opened body closed rest) end tail = refl
lead-inside (Barrier line rest) end tail = refl
lead-inside (Critical line opened body closed rest) end tail = refl
lead-inside (CriticalOf line name_line name opened body closed rest) end tail = refl

-- statements with the same tokens have the same lead
pub lead-same : (b c : Stmts) (end last : ℕ) (tail after : List Token) → inside b end tail ≡ inside c last after → lead_of_stmts b ≡ lead_of_stmts c
lead-same b c end last tail after e = sym (lead-inside b end tail) ∙ ap lead_at e ∙ lead-inside c last after
