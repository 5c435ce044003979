-- Worked histories, legal and illegal. Two hands each add 1 to word 0 under mutex 5: their names are [0] and [1].
use Rattle.std.proofs.Common.{◌≡◌, refl, sym, ap, ◌∙◌, subst, cond, ℕ, zero, suc, ◌<◌, Bool, true, false, List, [], ◌∷◌, ◌++◌, get_or, arith}
use Rattle.step_history.specs.declared.item.Item.{Item}
use Rattle.step_history.specs.declared.item.Deed.TheVariants.{Read, Write, Lock, Unlock, Split, Home, Update}
use Rattle.step_history.proofs.Names.{same_name, is_same_name}
use Rattle.step_history.specs.History.{Name, name_eq, item, of, value_at, Fits, Legal, HasHistory}

abbrev first : Name
first = []

abbrev one : Name
one = 0 ∷ []

abbrev two : Name
two = 1 ∷ []

-- a hand of a hand
abbrev deep : Name
deep = 3 ∷ 0 ∷ []

abbrev adds : Name → ℕ → List Item
adds name value = item name (Lock 5) ∷ item name (Read 0 value) ∷ item name (Write 0 (suc value)) ∷ item name (Unlock 5) ∷ []

abbrev forked : List Item
forked = item first (Split 0 0 2) ∷ item first (Split 1 1 2) ∷ []

abbrev joined : List Item
joined = item first (Home 0) ∷ item first (Home 1) ∷ []

-- the second hand comes first
abbrev log : List Item
log = forked ++ adds two 0 ++ adds one 1 ++ joined

-- what the first hand learns, when it joins the one and then the two
abbrev learned : List Item
learned = forked ++ adds one 1 ++ item first (Home 0) ∷ adds two 0 ++ item first (Home 1) ∷ []

nobody : (name : Name) → name_eq first name ≡ false → name_eq one name ≡ false → name_eq two name ≡ false → of name log ≡ of name learned
nobody name is_first is_one is_two = simp (is_first, is_one, is_two)

pub second_hand_first : Legal log
second_hand_first = (record { out = refl; fits = tt }, (record { out = refl; fits = tt }, (record { out = refl; fits = refl }, (record { out = refl; fits = refl }, (record { out = refl; fits = tt }, (record { out = refl; fits = refl }, (record { out = refl; fits = refl }, (record { out = refl; fits = refl }, (record { out = refl; fits = tt }, (record { out = refl; fits = refl }, (record { out = refl; fits = refl }, (record { out = refl; fits = refl }, tt))))))))))))

pub in_any_order : HasHistory learned (2 ∷ 0 ∷ [])
in_any_order = record { log = log; legal = second_hand_first; whole = whole; ends = ends }
  where
    same : Name → Type 0
    same name = of name log ≡ of name learned

    at : (name : Name) (a b c : Bool) → name_eq first name ≡ a → name_eq one name ≡ b → name_eq two name ≡ c → of name log ≡ of name learned
    at name true b c is_first is_one is_two = subst same (same_name first name is_first) refl
    at name false true c is_first is_one is_two = subst same (same_name one name is_one) refl
    at name false false true is_first is_one is_two = subst same (same_name two name is_two) refl
    at name false false false is_first is_one is_two = nobody name is_first is_one is_two

    whole : (name : Name) → of name log ≡ of name learned
    whole name = at name (name_eq first name) (name_eq one name) (name_eq two name) refl refl refl

    ends : (word : ℕ) → word < 2 → get_or (2 ∷ 0 ∷ []) word 0 ≡ value_at word log
    ends zero within = refl
    ends (suc zero) within = refl
    ends (suc (suc word)) within = absurd (omega arith)

-- the steps of a hand stay in order, and the words end as the history does
pub order_is_kept : of one log ≡ adds one 1
order_is_kept = refl

pub by_whole_name : of deep (item one (Lock 1) ∷ item deep (Lock 2) ∷ item (3 ∷ []) (Lock 3) ∷ []) ≡ item deep (Lock 2) ∷ []
by_whole_name = refl

pub last_value : value_at 0 (item first (Write 0 7) ∷ item first (Write 0 8) ∷ item first (Write 1 9) ∷ []) ≡ 8
last_value = refl

pub never_written : value_at 2 (item first (Write 0 7) ∷ item first (Read 2 5) ∷ []) ≡ 0
never_written = refl

-- an update adds to what the word has, modulo 2 ^ 64, and leaves the other words
pub added : value_at 0 (item first (Write 0 7) ∷ item one (Update 0 5) ∷ item two (Update 1 9) ∷ []) ≡ 12
added = refl

pub added_past_the_end : Fits (item first (Write 0 18446744073709551615) ∷ item first (Update 0 3) ∷ []) (item first (Read 0 2))
added_past_the_end = record { out = refl; fits = refl }

pub unwrapped_sum_refused : Fits (item first (Write 0 18446744073709551615) ∷ item first (Update 0 3) ∷ []) (item first (Read 0 18446744073709551618)) → ⊥
unwrapped_sum_refused fits = let found = fits.fits in omega arith

pub update_is_no_store : Fits (item first (Write 0 7) ∷ item first (Update 0 5) ∷ []) (item first (Read 0 5)) → ⊥
update_is_no_store fits = let found = fits.fits in omega arith

-- a read finds the last value, and no earlier one
pub earlier_value_refused : Fits (forked ++ adds two 0) (item one (Read 0 0)) → ⊥
earlier_value_refused fits = let found = fits.fits in omega arith

pub later_value_refused : Legal (item first (Read 0 1) ∷ item first (Write 0 1) ∷ []) → ⊥
later_value_refused legal = let fits = legal.0 in let found = fits.fits in omega arith

-- a mutex that is held isn't locked, by whoever holds it either
pub taken_twice_refused : Fits (forked ++ item two (Lock 5) ∷ []) (item one (Lock 5)) → ⊥
taken_twice_refused fits = let owner = fits.fits in cc

pub taken_again_refused : Fits (item first (Lock 5) ∷ []) (item first (Lock 5)) → ⊥
taken_again_refused fits = let owner = fits.fits in cc

pub another_mutex_is_free : Fits (item first (Lock 5) ∷ []) (item first (Lock 4))
another_mutex_is_free = record { out = refl; fits = refl }

pub locked_again_later : Fits (item first (Lock 5) ∷ item first (Unlock 5) ∷ []) (item first (Lock 5))
locked_again_later = record { out = refl; fits = refl }

-- its holder alone gives it back
pub anothers_unlock_refused : Fits (forked ++ item two (Lock 5) ∷ []) (item one (Unlock 5)) → ⊥
anothers_unlock_refused fits = let owner = fits.fits in cc

pub unheld_unlock_refused : Fits (item first (Lock 5) ∷ item first (Unlock 5) ∷ []) (item first (Unlock 5)) → ⊥
unheld_unlock_refused fits = let owner = fits.fits in cc

-- a hand does nothing before its split, and nothing after its homecoming
pub before_split_refused : Fits (item first (Split 0 0 2) ∷ []) (item two (Write 0 1)) → ⊥
before_split_refused fits = let out = fits.out in cc

pub after_homecoming_refused : Fits (forked ++ item first (Home 1) ∷ []) (item two (Write 0 1)) → ⊥
after_homecoming_refused fits = let out = fits.out in cc

pub another_is_still_out : Fits (forked ++ item first (Home 1) ∷ []) (item one (Write 0 1))
another_is_still_out = record { out = refl; fits = tt }

-- the hand of a split is the splitting hand's
pub anothers_split_refused : Fits (forked ++ item two (Split 3 0 1) ∷ []) (item deep (Write 0 1)) → ⊥
anothers_split_refused fits = let out = fits.out in cc

pub deep_hand_works : Fits (forked ++ item one (Split 3 0 1) ∷ []) (item deep (Write 0 1))
deep_hand_works = record { out = refl; fits = tt }

-- who comes home is out
pub home_twice_refused : Fits (forked ++ joined) (item first (Home 1)) → ⊥
home_twice_refused fits = let out = fits.fits in cc

pub home_unsplit_refused : Fits forked (item first (Home 2)) → ⊥
home_unsplit_refused fits = let out = fits.fits in cc

-- of a list in which nobody else did anything, the first hand's part is the whole
first_alone : (xs : List Item) → ((name : Name) → (name ≡ [] → ⊥) → of name xs ≡ []) → of [] xs ≡ xs
first_alone [] alone = refl
first_alone (x ∷ xs) alone = at x.name refl (first_alone xs (λ name other. later name (name_eq x.name name) (alone name other)))
  where
    later : (name : Name) (b : Bool) → cond b (x ∷ of name xs) (of name xs) ≡ [] → of name xs ≡ []
    later name true is = cc
    later name false is = is

    at : (own : Name) → x.name ≡ own → of [] xs ≡ xs → of [] (x ∷ xs) ≡ x ∷ xs
    at [] is rest =
        ap (λ (n : Name). cond (name_eq n []) (x ∷ of [] xs) (of [] xs)) is ∙ ap (λ (l : List Item). x ∷ l) rest
    at (k ∷ p) is rest =
        let done : cond (name_eq x.name (k ∷ p)) (x ∷ of (k ∷ p) xs) (of (k ∷ p) xs) ≡ [] = alone (k ∷ p) (λ same. cc) in
        let own : name_eq x.name (k ∷ p) ≡ true = ap (λ (n : Name). name_eq n (k ∷ p)) is ∙ is_same_name (k ∷ p) in
        let more : x ∷ of (k ∷ p) xs ≡ [] = ap (λ (b : Bool). cond b (x ∷ of (k ∷ p) xs) (of (k ∷ p) xs)) (sym own) ∙ done in cc

abbrev twice : List Item
twice = item first (Write 0 1) ∷ item first (Write 0 2) ∷ []

nobody_else : (name : Name) → (name ≡ [] → ⊥) → of name twice ≡ []
nobody_else [] other = absurd (other refl)
nobody_else (k ∷ name) other = refl

same_log : (h : HasHistory twice (1 ∷ [])) → h.log ≡ twice
same_log h = sym (first_alone h.log (λ name other. h.whole name ∙ nobody_else name other)) ∙ h.whole []

-- a hand's steps stand in its order, so the words end with its last store
pub order_decides_the_end : HasHistory twice (1 ∷ []) → ⊥
order_decides_the_end h =
    let ends : 1 ≡ value_at 0 h.log = h.ends 0 (omega arith) in
    let last : value_at 0 h.log ≡ 2 = ap (value_at 0) (same_log h) in
    omega arith

pub ends_with_the_last : HasHistory twice (2 ∷ [])
ends_with_the_last = record { log = twice; legal = (record { out = refl; fits = tt }, (record { out = refl; fits = tt }, tt)); whole = λ name. refl; ends = ends }
  where
    ends : (word : ℕ) → word < 1 → get_or (2 ∷ []) word 0 ≡ value_at word twice
    ends zero within = refl
    ends (suc word) within = absurd (omega arith)
