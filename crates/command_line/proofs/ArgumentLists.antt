-- The bytes of a few arguments.
use Rattle.std.proofs.Common.{◌≡◌, ℕ, ◌≤◌, ◌<◌, ◌^◌, List, [], ◌∷◌, length, String, string_bytes, get_or, sym, subst, ◌∙◌, arith}
use Rattle.std.specs.declared.alloc.Global.{Global}
use Rattle.std.proofs.lemmas.Fmt.{decimal_injective}
use Rattle.command_line.specs.Arguments.{check, explain, replay, run, show, texts, IsNumber, SaysCertify, SaysCheck, SaysConfirm, SaysExplain, SaysGen, SaysReplay, SaysRun, SaysShow, SaysUpgrade}

pub texts-three : (arguments : List (String Global)) (a b c : String Global) → 3 ≤ length arguments → length arguments < 4 → a ≡ get_or arguments 0 a → b ≡ get_or arguments 1 b → c ≡ get_or arguments 2 c
    → texts arguments ≡ string_bytes a ∷ string_bytes b ∷ string_bytes c ∷ []
texts-three [] a b c least most ea eb ec = absurd (omega arith)
texts-three (x ∷ []) a b c least most ea eb ec = absurd (omega arith)
texts-three (x ∷ y ∷ []) a b c least most ea eb ec = absurd (omega arith)
texts-three (x ∷ y ∷ z ∷ []) a b c least most ea eb ec = λ i. string_bytes (sym ea i) ∷ string_bytes (sym eb i) ∷ string_bytes (sym ec i) ∷ []
texts-three (x ∷ y ∷ z ∷ w ∷ more) a b c least most ea eb ec = absurd (omega arith)

pub texts-two : (arguments : List (String Global)) (a b : String Global) → 2 ≤ length arguments → length arguments < 3 → a ≡ get_or arguments 0 a → b ≡ get_or arguments 1 b
    → texts arguments ≡ string_bytes a ∷ string_bytes b ∷ []
texts-two [] a b least most ea eb = absurd (omega arith)
texts-two (x ∷ []) a b least most ea eb = absurd (omega arith)
texts-two (x ∷ y ∷ []) a b least most ea eb = λ i. string_bytes (sym ea i) ∷ string_bytes (sym eb i) ∷ []
texts-two (x ∷ y ∷ z ∷ more) a b least most ea eb = absurd (omega arith)

-- arguments that ask for a check name one folder
pub same_check : (arguments : List (List ℕ)) (one other : List ℕ) (n m : ℕ) → SaysCheck arguments one n → SaysCheck arguments other m → one ≡ other
same_check arguments one other n m a b = let both = sym a.are ∙ b.are in cc both

-- and so do those that ask to show it
pub same_show : (arguments : List (List ℕ)) (one other : List ℕ) → SaysShow arguments one → SaysShow arguments other → one ≡ other
same_show arguments one other a b = let both = sym a.are ∙ b.are in cc both

-- and those that ask for a verdict one kernel
pub same_certify : (arguments : List (List ℕ)) (one other : List ℕ) → SaysCertify arguments one → SaysCertify arguments other → one ≡ other
same_certify arguments one other a b = let both = sym a.are ∙ b.are in cc both

-- the bytes of four arguments
pub texts-four : (arguments : List (String Global)) (a b c d : String Global) → 4 ≤ length arguments → length arguments < 5 → a ≡ get_or arguments 0 a → b ≡ get_or arguments 1 b → c ≡ get_or arguments 2 c → d ≡ get_or arguments 3 d
    → texts arguments ≡ string_bytes a ∷ string_bytes b ∷ string_bytes c ∷ string_bytes d ∷ []
texts-four [] a b c d least most ea eb ec ed = absurd (omega arith)
texts-four (x ∷ []) a b c d least most ea eb ec ed = absurd (omega arith)
texts-four (x ∷ y ∷ []) a b c d least most ea eb ec ed = absurd (omega arith)
texts-four (x ∷ y ∷ z ∷ []) a b c d least most ea eb ec ed = absurd (omega arith)
texts-four (x ∷ y ∷ z ∷ w ∷ []) a b c d least most ea eb ec ed = λ i. string_bytes (sym ea i) ∷ string_bytes (sym eb i) ∷ string_bytes (sym ec i) ∷ string_bytes (sym ed i) ∷ []
texts-four (x ∷ y ∷ z ∷ w ∷ v ∷ more) a b c d least most ea eb ec ed = absurd (omega arith)

-- arguments that ask for a run ask for one
pub same_run : (P : List ℕ → List ℕ → ℕ → Type 0) (arguments : List (List ℕ)) (kernel dir other_kernel other_dir : List ℕ) (size other_size : ℕ)
    → SaysRun arguments kernel dir size → SaysRun arguments other_kernel other_dir other_size → P kernel dir size → P other_kernel other_dir other_size
same_run P arguments kernel dir other_kernel other_dir size other_size a b holds =
    let both = sym a.are ∙ b.are in
    let number : a.number ≡ b.number = cc both in
    let most = a.size_is.most in
    let other_most = b.size_is.most in
    let kernel_is : kernel ≡ other_kernel = cc both in
    let dir_is : dir ≡ other_dir = cc both in
    let size_is = decimal_injective size other_size (omega arith) (omega arith) (sym a.size_is.digits ∙ number ∙ b.size_is.digits) in
    subst (λ (k : List ℕ). P k other_dir other_size) kernel_is (subst (λ (d : List ℕ). P kernel d other_size) dir_is (subst (P kernel dir) size_is holds))

-- arguments that ask for a generated run name one number of rounds
pub same_gen : (arguments : List (List ℕ)) (rounds other_rounds workers other_workers : ℕ) → SaysGen arguments rounds workers → SaysGen arguments other_rounds other_workers → rounds ≡ other_rounds
same_gen arguments rounds other_rounds workers other_workers a b =
    let both = sym a.are ∙ b.are in
    let number : a.rounds_number ≡ b.rounds_number = cc both in
    let most = a.rounds_are.most in
    let other_most = b.rounds_are.most in
    decimal_injective rounds other_rounds (omega arith) (omega arith) (sym a.rounds_are.digits ∙ number ∙ b.rounds_are.digits)

-- arguments that ask for a replay name one kernel and one folder
pub same_replay : (P : List ℕ → List ℕ → Type 0) (arguments : List (List ℕ)) (kernel dir other_kernel other_dir : List ℕ)
    → SaysReplay arguments kernel dir → SaysReplay arguments other_kernel other_dir → P kernel dir → P other_kernel other_dir
same_replay P arguments kernel dir other_kernel other_dir a b holds =
    let both = sym a.are ∙ b.are in
    let kernel_is : kernel ≡ other_kernel = cc both in
    let dir_is : dir ≡ other_dir = cc both in
    subst (λ (k : List ℕ). P k other_dir) kernel_is (subst (P kernel) dir_is holds)

-- arguments that ask to bring a folder over name the two folders
pub same_upgrade : (P : List ℕ → List ℕ → Type 0) (arguments : List (List ℕ)) (dir new other_dir other_new : List ℕ)
    → SaysUpgrade arguments dir new → SaysUpgrade arguments other_dir other_new → P dir new → P other_dir other_new
same_upgrade P arguments dir new other_dir other_new a b holds =
    let both = sym a.are ∙ b.are in
    let dir_is : dir ≡ other_dir = cc both in
    let new_is : new ≡ other_new = cc both in
    subst (λ (d : List ℕ). P d other_new) dir_is (subst (P dir) new_is holds)

-- the bytes of six arguments
pub texts-six : (arguments : List (String Global)) (a b c d e f : String Global) → 6 ≤ length arguments → length arguments < 7 → a ≡ get_or arguments 0 a → b ≡ get_or arguments 1 b → c ≡ get_or arguments 2 c
    → d ≡ get_or arguments 3 d → e ≡ get_or arguments 4 e → f ≡ get_or arguments 5 f
    → texts arguments ≡ string_bytes a ∷ string_bytes b ∷ string_bytes c ∷ string_bytes d ∷ string_bytes e ∷ string_bytes f ∷ []
texts-six [] a b c d e f least most ea eb ec ed ee ef = absurd (omega arith)
texts-six (x ∷ []) a b c d e f least most ea eb ec ed ee ef = absurd (omega arith)
texts-six (x ∷ y ∷ []) a b c d e f least most ea eb ec ed ee ef = absurd (omega arith)
texts-six (x ∷ y ∷ z ∷ []) a b c d e f least most ea eb ec ed ee ef = absurd (omega arith)
texts-six (x ∷ y ∷ z ∷ w ∷ []) a b c d e f least most ea eb ec ed ee ef = absurd (omega arith)
texts-six (x ∷ y ∷ z ∷ w ∷ v ∷ []) a b c d e f least most ea eb ec ed ee ef = absurd (omega arith)
texts-six (x ∷ y ∷ z ∷ w ∷ v ∷ u ∷ []) a b c d e f least most ea eb ec ed ee ef =
    λ i. string_bytes (sym ea i) ∷ string_bytes (sym eb i) ∷ string_bytes (sym ec i) ∷ string_bytes (sym ed i) ∷ string_bytes (sym ee i) ∷ string_bytes (sym ef i) ∷ []
texts-six (x ∷ y ∷ z ∷ w ∷ v ∷ u ∷ t ∷ more) a b c d e f least most ea eb ec ed ee ef = absurd (omega arith)

-- a word is one number
pub same_number : (word other : List ℕ) (low high n m : ℕ) → high < 2 ^ 32 → IsNumber word low high n → IsNumber other low high m → word ≡ other → n ≡ m
same_number word other low high n m few a b same =
    let most = a.most in
    let other_most = b.most in
    decimal_injective n m (omega (arith, few, most)) (omega (arith, few, other_most)) (sym a.digits ∙ same ∙ b.digits)

-- arguments that ask to explain two lines name one folder and these lines
pub same_explain : (P : List ℕ → ℕ → ℕ → Type 0) (arguments : List (List ℕ)) (dir other_dir : List ℕ) (low high other_low other_high : ℕ)
    → SaysExplain arguments dir low high → SaysExplain arguments other_dir other_low other_high → P dir low high → P other_dir other_low other_high
same_explain P arguments dir other_dir low high other_low other_high s t holds =
    let both = sym s.are ∙ t.are in
    let dir_is : dir ≡ other_dir = cc both in
    let lows : s.low_number ≡ t.low_number = cc both in
    let highs : s.high_number ≡ t.high_number = cc both in
    let same_low = same_number s.low_number t.low_number 1 4294967295 low other_low (omega arith) s.low_is t.low_is lows in
    let same_high = same_number s.high_number t.high_number 1 4294967295 high other_high (omega arith) s.high_is t.high_is highs in
    subst (λ (d : List ℕ). P d other_low other_high) dir_is
    (subst (λ (n : ℕ). P dir n other_high) same_low
    (subst (λ (n : ℕ). P dir low n) same_high holds))

-- arguments that ask about two records name one folder and these records
pub same_confirm : (P : List ℕ → ℕ → ℕ → ℕ → ℕ → Type 0) (arguments : List (List ℕ)) (dir other_dir : List ℕ) (a i b j other_a other_i other_b other_j : ℕ)
    → SaysConfirm arguments dir a i b j → SaysConfirm arguments other_dir other_a other_i other_b other_j → P dir a i b j → P other_dir other_a other_i other_b other_j
same_confirm P arguments dir other_dir a i b j other_a other_i other_b other_j s t holds =
    let both = sym s.are ∙ t.are in
    let dir_is : dir ≡ other_dir = cc both in
    let rows : s.row ≡ t.row = cc both in
    let numbers : s.number ≡ t.number = cc both in
    let other_rows : s.other_row ≡ t.other_row = cc both in
    let other_numbers : s.other_number ≡ t.other_number = cc both in
    let same_a = same_number s.row t.row 1 65536 a other_a (omega arith) s.row_is t.row_is rows in
    let same_i = same_number s.number t.number 1 4194304 i other_i (omega arith) s.number_is t.number_is numbers in
    let same_b = same_number s.other_row t.other_row 1 65536 b other_b (omega arith) s.other_row_is t.other_row_is other_rows in
    let same_j = same_number s.other_number t.other_number 1 4194304 j other_j (omega arith) s.other_number_is t.other_number_is other_numbers in
    subst (λ (d : List ℕ). P d other_a other_i other_b other_j) dir_is
    (subst (λ (n : ℕ). P dir n other_i other_b other_j) same_a
    (subst (λ (n : ℕ). P dir a n other_b other_j) same_i
    (subst (λ (n : ℕ). P dir a i n other_j) same_b
    (subst (λ (n : ℕ). P dir a i b n) same_j holds))))
