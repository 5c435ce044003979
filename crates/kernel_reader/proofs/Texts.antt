-- Whole texts by the definitions: the kernel of each, or the rule that it breaks first, worked out by hand.
use Rattle.std.proofs.Common.{◌≡◌, refl, rules, arith, ℕ, ◌+◌, ◌≤◌, Bool, true, false, nat_lt, length, List, [], ◌∷◌, ◌++◌, None, Ok, Err}
use Rattle.std.specs.Prelude.{◌&&◌, pos, codes, flat_map, nat_le, All}
use Rattle.std.specs.List.{list_all}
use Rattle.std.specs.Str.{IsAscii}
use Rattle.std.proofs.lemmas.Bool.Decides.{nat_tests}
use Rattle.std.proofs.lemmas.List.Elements.{All-nil, All-cons}
use Rattle.std.proofs.lemmas.Str.{IsUtf8-from_ascii, is_utf8-from_IsUtf8}
use Rattle.std.proofs.lemmas.Str.Ascii.{IsAscii-nil, IsAscii-cons}
use Rattle.kernel_text.specs.declared.token.Token.{Token}
use Rattle.kernel_syntax.specs.declared.syntax.Array.{Array}
use Rattle.kernel_syntax.specs.declared.syntax.Op.TheVariants.{Add, Eq}
use Rattle.kernel_syntax.specs.declared.syntax.Schedule.TheVariants as schedule
use Rattle.kernel_syntax.specs.Tree as kernel
use Rattle.kernel_syntax.specs.Program.{Program}
use Rattle.kernel_text.specs.declared.fault.KernelWhy.TheVariants as why
use Rattle.kernel_text.specs.Tokens.{lexeme_at, tokens_from, tokens_of}
use Rattle.kernel_text.specs.Grammar.{Tree, NumberAt, NameAt, TidAt, Element, Binary, Dynamic, DynamicBy, Stmts, NoMore, Let, Store, Update, If, Loop, Parallel, For, Barrier, CriticalOf, Declaration, ArrayOf, MutexOf, KernelTree}
use Rattle.kernel_text.specs.Faults.{kernel_levels}
use Rattle.kernel_reader.specs.KernelOf.{IsKernelOf, IsRefused, AtRule}

-- each byte is below 128
abbrev pub all_ascii : List ℕ → Bool
all_ascii [] = true
all_ascii (b ∷ bs) = nat_lt b 128 && all_ascii bs

and_right : (a b : Bool) → a && b ≡ true → b ≡ true
and_right true b all = all
and_right false b all = absurd (cc)

is_ascii : (bs : List ℕ) → all_ascii bs ≡ true → IsAscii bs
is_ascii [] all = IsAscii-nil
is_ascii (b ∷ bs) all = IsAscii-cons b bs (grind (arith, nat_tests)) (is_ascii bs (and_right (nat_lt b 128) (all_ascii bs) all))

-- the tokens of a short text in ASCII
pub ascii_tokens : (bs : List ℕ) (ts : List Token) → all_ascii bs ≡ true → nat_lt 65536 (length bs) ≡ false → tokens_from 1 0 bs ≡ Ok ts → tokens_of bs ≡ Ok ts
unfolding tokens_of
ascii_tokens bs ts all short is = rw (short, is_utf8-from_IsUtf8 bs (IsUtf8-from_ascii bs (is_ascii bs all)), is) refl

-- or the line of the first character that begins none
pub ascii_fault : (bs : List ℕ) (line : ℕ) → all_ascii bs ≡ true → nat_lt 65536 (length bs) ≡ false → tokens_from 1 0 bs ≡ Err line → tokens_of bs ≡ Err (record { line = line; why = why.Token })
unfolding tokens_of
ascii_fault bs line all short is = rw (short, is_utf8-from_IsUtf8 bs (IsUtf8-from_ascii bs (is_ascii bs all)), is) refl

-- levels that are written out
pub low : (ns : List ℕ) → list_all (λ n. nat_le n 32) ns ≡ true → All (λ n. n ≤ 32) ns
low [] all = All-nil (λ n. n ≤ 32)
low (n ∷ ns) all = All-cons (λ n. n ≤ 32) n ns (grind (arith, nat_tests)) (low ns (grind (arith, nat_tests)))

abbrev pub lines : List (List ℕ) → List ℕ
lines ls = flat_map (λ (l : List ℕ). l ++ 10 ∷ []) ls

abbrev number : ℕ → ℕ → Tree
number line n = NumberAt line (pos n)

abbrev array_a : ℕ → Declaration
array_a count = ArrayOf 1 1 (codes "a") 1 (codes "i64") 1 (pos count)

-- the first array of a kernel, with elements of eight bytes
abbrev first_array : List ℕ → ℕ → List Array
first_array name count = record { name = name; width = 8; count = count; base = 4096; first = 0 } ∷ []

-- ---- a branch with a variable of its own

abbrev branch_text : List ℕ
branch_text = lines (codes "array a i64 8" ∷ codes "main { parallel 2 {" ∷ codes "if tid == 1 {" ∷ codes "let k = 8" ∷ codes "a[k] = 1" ∷ codes "}" ∷ codes "} }" ∷ [])

abbrev branch_program : Program
branch_program = record {
  arrays = first_array (codes "a") 8;
  mutexes = [];
  main = record {
    span = 1;
    line = 2;
    end = 7;
    body =
        kernel.Parallel 2 2 7
        (kernel.If (kernel.Binary Eq 3 kernel.Tid (kernel.Number (pos 1)))
        (kernel.Set 0 (kernel.Number (pos 8)) (kernel.Store 0 (kernel.Slot 0) (kernel.Number (pos 1)) 5 0 kernel.Done)) kernel.Done kernel.Done) kernel.Done;
  };
  slots = 1;
}

abbrev branch_parsed : KernelTree
branch_parsed = record {
  declarations = array_a 8 ∷ [];
  line = 2;
  opened = 2;
  body =
      Parallel 2 2 (pos 2) 2
      (If 3 (Binary (TidAt 3) Eq 3 (number 3 1)) 3
      (Let 4 4 (codes "k") 4 (number 4 8) (Store 5 (codes "a") 5 (NameAt 5 (codes "k")) 5 5 (number 5 1) NoMore)) 6 NoMore) 7 NoMore;
  closed = 7;
}

pub branch_kernel : IsKernelOf branch_text branch_program
unfolding tokens_of tokens_from lexeme_at
branch_kernel = record {
  tree = branch_parsed;
  tokens = ascii_tokens branch_text _ refl refl refl;
  derives = search rules;
  shallow = low (kernel_levels branch_parsed) refl;
  lawful = refl;
  resolved = refl;
}

-- ---- two mutexes, each around a store

abbrev locked_text : List ℕ
locked_text = lines
    (codes "array s i64 1"
    ∷ codes "mutex c"
    ∷ codes "mutex d"
    ∷ codes "main { parallel 2 {"
    ∷ codes "if tid == 0 { critical c { s[0] = 1 } }"
    ∷ codes "if tid == 1 { critical d { s[0] = 2 } }"
    ∷ codes "} }" ∷ [])

-- in one line: where the lane has the number from 0, mutex from 1 and a store of its number
abbrev locked_branch : ℕ → ℕ → kernel.Code → kernel.Code
locked_branch line k rest =
    kernel.If (kernel.Binary Eq line kernel.Tid (kernel.Number (pos k)))
    (kernel.Critical (k + 1) line line (kernel.Store 0 (kernel.Number (pos 0)) (kernel.Number (pos (k + 1))) line k kernel.Done) kernel.Done) kernel.Done rest

abbrev locked_tree : ℕ → ℕ → List ℕ → Stmts → Stmts
locked_tree line k mutex rest =
    If line (Binary (TidAt line) Eq line (number line k)) line
    (CriticalOf line line mutex line (Store line (codes "s") line (number line 0) line line (number line (k + 1)) NoMore) line NoMore) line rest

abbrev locked_parsed : KernelTree
locked_parsed = record {
  declarations = ArrayOf 1 1 (codes "s") 1 (codes "i64") 1 (pos 1) ∷ MutexOf 2 2 (codes "c") ∷ MutexOf 3 3 (codes "d") ∷ [];
  line = 4;
  opened = 4;
  body = Parallel 4 4 (pos 2) 4 (locked_tree 5 0 (codes "c") (locked_tree 6 1 (codes "d") NoMore)) 7 NoMore;
  closed = 7;
}

pub locked_kernel : IsKernelOf locked_text
    (record {
      arrays = first_array (codes "s") 1;
      mutexes = codes "c" ∷ codes "d" ∷ [];
      main = record { span = 1; line = 4; end = 7; body = kernel.Parallel 2 4 7 (locked_branch 5 0 (locked_branch 6 1 kernel.Done)) kernel.Done };
      slots = 0;
    })
unfolding tokens_of tokens_from lexeme_at
locked_kernel = record {
  tree = locked_parsed;
  tokens = ascii_tokens locked_text _ refl refl refl;
  derives = search rules;
  shallow = low (kernel_levels locked_parsed) refl;
  lawful = refl;
  resolved = refl;
}

-- ---- two loops whose chunks are drawn, each with a variable of its own

abbrev drawn_text : List ℕ
drawn_text = lines
    (codes "array a i64 4"
    ∷ codes "main { parallel 2 {"
    ∷ codes "for i in 0 .. 4 dynamic { a[i] = 1 }"
    ∷ codes "for i in 0 .. 4 dynamic 3 { a[i] = a[i] + 1 }"
    ∷ codes "} }" ∷ [])

abbrev drawn_parsed : KernelTree
drawn_parsed = record {
  declarations = array_a 4 ∷ [];
  line = 2;
  opened = 2;
  body =
      Parallel 2 2 (pos 2) 2
      (For 3 3 (codes "i") 3 (number 3 0) 3 (number 3 4) (Dynamic 3) None 3
      (Store 3 (codes "a") 3 (NameAt 3 (codes "i")) 3 3 (number 3 1) NoMore) 3
      (For 4 4 (codes "i") 4 (number 4 0) 4 (number 4 4) (DynamicBy 4 4 (pos 3)) None 4
      (Store 4 (codes "a") 4 (NameAt 4 (codes "i")) 4 4 (Binary (Element 4 (codes "a") 4 (NameAt 4 (codes "i")) 4) Add 4 (number 4 1)) NoMore) 4
      NoMore)) 5 NoMore;
  closed = 5;
}

pub drawn_kernel : IsKernelOf drawn_text
    (record {
      arrays = first_array (codes "a") 4;
      mutexes = [];
      main = record {
        span = 1;
        line = 2;
        end = 5;
        body =
            kernel.Parallel 2 2 5
            (kernel.For 0 (kernel.Number (pos 0)) (kernel.Number (pos 4)) (schedule.Dynamic 1) false 3 3
            (kernel.Store 0 (kernel.Slot 0) (kernel.Number (pos 1)) 3 0 kernel.Done)
            (kernel.For 1 (kernel.Number (pos 0)) (kernel.Number (pos 4)) (schedule.Dynamic 3) false 4 4
            (kernel.Store 0 (kernel.Slot 1) (kernel.Binary Add 4 (kernel.Load 0 (kernel.Slot 1) 4 2) (kernel.Number (pos 1))) 4 1 kernel.Done) kernel.Done))
            kernel.Done;
      };
      slots = 2;
    })
unfolding tokens_of tokens_from lexeme_at
drawn_kernel = record {
  tree = drawn_parsed;
  tokens = ascii_tokens drawn_text _ refl refl refl;
  derives = search rules;
  shallow = low (kernel_levels drawn_parsed) refl;
  lawful = refl;
  resolved = refl;
}

-- ---- updates of both signs, each with its name's line and site, before those of its index and its amount

abbrev updated_text : List ℕ
updated_text = lines (codes "array a i64 4" ∷ codes "main {" ∷ codes "atomic" ∷ codes "a[a[0]] += a[1]" ∷ codes "atomic a[2] -= 5" ∷ codes "}" ∷ [])

abbrev updated_parsed : KernelTree
updated_parsed = record {
  declarations = array_a 4 ∷ [];
  line = 2;
  opened = 2;
  body =
      Update 3 4 (codes "a") 4 (Element 4 (codes "a") 4 (number 4 0) 4) 4 false 4 (Element 4 (codes "a") 4 (number 4 1) 4)
      (Update 5 5 (codes "a") 5 (number 5 2) 5 true 5 (number 5 5) NoMore);
  closed = 6;
}

pub updated_kernel : IsKernelOf updated_text
    (record {
      arrays = first_array (codes "a") 4;
      mutexes = [];
      main = record {
        span = 1;
        line = 2;
        end = 6;
        body =
            kernel.Update 0 (kernel.Load 0 (kernel.Number (pos 0)) 4 1) (kernel.Load 0 (kernel.Number (pos 1)) 4 2) false 4 0
            (kernel.Update 0 (kernel.Number (pos 2)) (kernel.Number (pos 5)) true 5 3 kernel.Done);
      };
      slots = 0;
    })
unfolding tokens_of tokens_from lexeme_at
updated_kernel = record {
  tree = updated_parsed;
  tokens = ascii_tokens updated_text _ refl refl refl;
  derives = search rules;
  shallow = low (kernel_levels updated_parsed) refl;
  lawful = refl;
  resolved = refl;
}

-- ---- lanes that would meet different numbers of barriers

abbrev uneven_text : List ℕ
uneven_text = lines (codes "array a i64 8" ∷ codes "main { parallel 2 {" ∷ codes "loop j in 0 .. tid {" ∷ codes "barrier" ∷ codes "}" ∷ codes "} }" ∷ [])

abbrev uneven : KernelTree
uneven = record {
  declarations = array_a 8 ∷ [];
  line = 2;
  opened = 2;
  body = Parallel 2 2 (pos 2) 2 (Loop 3 3 (codes "j") 3 (number 3 0) 3 (TidAt 3) 3 (Barrier 4 NoMore) 5 NoMore) 6 NoMore;
  closed = 6;
}

pub uneven_refused : IsRefused uneven_text (record { line = 4; why = why.NotUniform })
unfolding tokens_of tokens_from lexeme_at
uneven_refused = AtRule uneven [] (ascii_tokens uneven_text _ refl refl refl) (search rules) (low (kernel_levels uneven) refl) refl

-- array NAME NAME NUMBER, main, and three blocks that open the levels 1 to 3
pub uneven_levels : kernel_levels uneven
    ≡ 0 ∷ 0 ∷ 0 ∷ 0 ∷ 0 ∷ 1 ∷ 0 ∷ 0 ∷ 2 ∷ 0 ∷ 0 ∷ 0 ∷ 0 ∷ 0 ∷ 0 ∷ 3 ∷ 0 ∷ 0 ∷ 0 ∷ 0 ∷ []
uneven_levels = refl
