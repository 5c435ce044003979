-- The tokens of a text.
use Rattle.std.specs.Prelude.{ℕ, zero, suc, ◌+◌, ◌-◌, ◌*◌, ◌≡◌, Bool, ◌||◌, ◌&&◌, not, List, [], ◌∷◌, length, take, ℤ, Option, Some, None, Result, Ok, Err, pos, nat_lt, slice_index, ◌==◌, if◌then◌else◌, fold, count_by, take_while, codes, bytes_eq, option_map}
use Rattle.std.specs.Char.{is_ascii_digit, is_ascii_alphabetic, is_ascii_alphanumeric}
use Rattle.std.specs.List.{prefix_len}
use Rattle.std.specs.Str.{is_utf8}
use Rattle.std.specs.Str.Lossy.{utf8_valid_len}
use Rattle.kernel_text.specs.declared.fault.KernelWhy.{KernelWhy}
use Rattle.kernel_text.specs.declared.fault.KernelWhy.TheVariants as why
use Rattle.kernel_text.specs.declared.fault.TextFault.{TextFault}
use Rattle.kernel_text.specs.declared.fault.TextFault.TheVariants as fault
use Rattle.kernel_text.specs.declared.token.Word.{Word}
use Rattle.kernel_text.specs.declared.token.Word.TheVariants as word
use Rattle.kernel_text.specs.declared.token.Sign.{Sign}
use Rattle.kernel_text.specs.declared.token.Sign.TheVariants as sign
use Rattle.kernel_text.specs.declared.token.Lexeme.{Lexeme}
use Rattle.kernel_text.specs.declared.token.Lexeme.TheVariants.{Named, Number, Reserved, Mark}
use Rattle.kernel_text.specs.declared.token.Token.{Token}

-- a line feed, by which a line ends
abbrev pub is_line_feed : ℕ → Bool
is_line_feed b = b == 10

abbrev pub not_line_feed : ℕ → Bool
not_line_feed b = not (is_line_feed b)

-- space, tab, carriage return and line feed
abbrev pub is_white : ℕ → Bool
is_white b = (b == 32) || (b == 9) || (b == 13) || (b == 10)

-- a name begins with a letter or an underscore
abbrev pub begins_name : ℕ → Bool
begins_name b = is_ascii_alphabetic b || (b == 95)

-- and goes on with letters, digits and underscores
abbrev pub is_in_name : ℕ → Bool
is_in_name b = is_ascii_alphanumeric b || (b == 95)

-- the reserved names
abbrev pub word_of : List ℕ → Option Word
word_of t =
    if bytes_eq t (codes "array") then Some word.Array else
    (if bytes_eq t (codes "mutex") then Some word.Mutex else
    (if bytes_eq t (codes "main") then Some word.Main else
    (if bytes_eq t (codes "let") then Some word.Let else
    (if bytes_eq t (codes "if") then Some word.If else
    (if bytes_eq t (codes "else") then Some word.Else else
    (if bytes_eq t (codes "loop") then Some word.Loop else
    (if bytes_eq t (codes "in") then Some word.In else
    (if bytes_eq t (codes "parallel") then Some word.Parallel else
    (if bytes_eq t (codes "for") then Some word.For else
    (if bytes_eq t (codes "static") then Some word.Static else
    (if bytes_eq t (codes "dynamic") then Some word.Dynamic else
    (if bytes_eq t (codes "nowait") then Some word.Nowait else
    (if bytes_eq t (codes "barrier") then Some word.Barrier else
    (if bytes_eq t (codes "critical") then Some word.Critical else
    (if bytes_eq t (codes "atomic") then Some word.Atomic else
    (if bytes_eq t (codes "tid") then Some word.Tid else
    (if bytes_eq t (codes "span") then Some word.Span else None)))))))))))))))))

-- the signs of two bytes
abbrev pub two_byte_sign : ℕ → ℕ → Option Sign
two_byte_sign b c =
    if (b == 61) && (c == 61) then Some sign.Equal else
    (if (b == 33) && (c == 61) then Some sign.NotEqual else
    (if (b == 60) && (c == 61) then Some sign.LessEqual else
    (if (b == 62) && (c == 61) then Some sign.GreaterEqual else
    (if (b == 43) && (c == 61) then Some sign.PlusAssign else
    (if (b == 45) && (c == 61) then Some sign.MinusAssign else
    (if (b == 46) && (c == 46) then Some sign.Dots else None))))))

-- the signs of one byte
abbrev pub one_byte_sign : ℕ → Option Sign
one_byte_sign b =
    if b == 123 then Some sign.OpenBrace else
    (if b == 125 then Some sign.CloseBrace else
    (if b == 91 then Some sign.OpenBracket else
    (if b == 93 then Some sign.CloseBracket else
    (if b == 40 then Some sign.OpenParen else
    (if b == 41 then Some sign.CloseParen else
    (if b == 61 then Some sign.Assign else
    (if b == 60 then Some sign.Less else
    (if b == 62 then Some sign.Greater else
    (if b == 43 then Some sign.Plus else
    (if b == 45 then Some sign.Minus else
    (if b == 42 then Some sign.Star else
    (if b == 47 then Some sign.Slash else
    (if b == 37 then Some sign.Percent else None)))))))))))))

-- the value of decimal digits
abbrev pub value_of : List ℕ → ℕ
value_of digits = fold (λ n d. 10 * n + (d - 48)) 0 digits

-- a lexeme, and how many bytes it takes
abbrev pub Found : Type 0
Found = Lexeme × ℕ

-- a name has at most 32 bytes
abbrev pub name_lexeme : List ℕ → Option Found
name_lexeme t =
    if nat_lt 32 (length t) then None
    else Some (elim (word_of t) [ None ↦ Named t | Some w ↦ Reserved w ], length t)

-- a number is at most 9223372036854775807
abbrev pub number : List ℕ → Option ℤ
number digits = if nat_lt 9223372036854775807 (value_of digits) then None else Some (pos (value_of digits))

abbrev pub number_lexeme : List ℕ → Option Found
number_lexeme digits = option_map (λ n. (Number n, length digits)) (number digits)

-- the longer of two signs is taken
abbrev pub sign_lexeme : ℕ → ℕ → Option Found
sign_lexeme b c = elim (two_byte_sign b c) [
  | Some s ↦ Some (Mark s, 2)
  | None ↦ option_map (λ s. (Mark s, 1)) (one_byte_sign b)
]

-- the longest lexeme at the start of bytes
unfoldable pub lexeme_at : List ℕ → Option Found
lexeme_at bs =
    if begins_name (slice_index bs 0) then name_lexeme (take_while is_in_name bs)
    else (if is_ascii_digit (slice_index bs 0) then number_lexeme (take_while is_ascii_digit bs)
    else sign_lexeme (slice_index bs 0) (slice_index bs 1))

-- one more token first
abbrev pub with_token : Token → Result (List Token) ℕ → Result (List Token) ℕ
with_token t (Ok ts) = Ok (t ∷ ts)
with_token t (Err line) = Err line

-- the tokens of the bytes after the first `passed`, or the line of the first that is none;
-- `line` is that of the first byte
unfoldable pub tokens_from : ℕ → ℕ → List ℕ → Result (List Token) ℕ
tokens_from line passed [] = Ok []
tokens_from line (suc passed) (b ∷ bs) = tokens_from line passed bs
tokens_from line zero (b ∷ bs) =
    if is_line_feed b then tokens_from (line + 1) 0 bs
    else (if is_white b then tokens_from line 0 bs
    else (if b == 35 then tokens_from line (prefix_len not_line_feed bs) bs
    else elim (lexeme_at (b ∷ bs)) [
      | None ↦ Err line
      | Some found ↦ with_token (record { lexeme = found.0; line = line }) (tokens_from line (found.1 - 1) bs)
    ]))

-- a line and what is wrong there
pub record Refusal : Type 0 where
  pub line : ℕ
  pub why : KernelWhy

-- the line of the byte at an index
abbrev pub line_at : List ℕ → ℕ → ℕ
line_at bytes n = 1 + count_by is_line_feed (take n bytes)

abbrev pub or_token : Result (List Token) ℕ → Result (List Token) Refusal
or_token (Ok ts) = Ok ts
or_token (Err line) = Err (record { line = line; why = why.Token })

-- the tokens of a text, or its first fault
unfoldable pub tokens_of : List ℕ → Result (List Token) Refusal
tokens_of bytes =
    if nat_lt 65536 (length bytes) then Err (record { line = 1; why = why.Large })
    else (if is_utf8 bytes then or_token (tokens_from 1 0 bytes)
    else Err (record { line = line_at bytes (utf8_valid_len bytes); why = why.NotUtf8 }))

-- the fault is out of memory, or it is the one that the text has
abbrev pub TellsRefusal : {X : Type 0} → TextFault → Result X Refusal → Type 0
TellsRefusal fault.Memory due = Unit {0}
TellsRefusal (fault.Refused line why) due = due ≡ Err (record { line = line; why = why })
