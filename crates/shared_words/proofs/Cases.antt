-- Worked cases of what hands know: the numbers that were drawn, and what each call does to a view.
use Rattle.std.proofs.Common.{◌≡◌, refl, ℕ, zero, suc, ◌≤◌, Bool, true, false, cond, [], ◌∷◌, Some, None, arith}
use Rattle.std.specs.Prelude.{nat_lt}
use Rattle.step_history.specs.declared.item.Deed.TheVariants.{Read, Split, Home}
use Rattle.step_history.specs.History.{item}
use Rattle.shared_words.specs.declared.view.View.{View}
use Rattle.shared_words.specs.Views.{newcomer, did, locked, unlocked, parted, child, after_meeting, without}
use Rattle.shared_words.specs.Rule.{mutex_word, Once}
use Rattle.shared_words.specs.Draws.{numbers, times, once_below, AreEachOnce, whole_share, drew, lent, regained, is_lent, used_up, lent_share}

-- one loop's numbers, in the order in which they were drawn
pub numbers_of_one_loop : numbers 1 ((1, 5) ∷ (0, 7) ∷ (1, 6) ∷ []) ≡ 5 ∷ 6 ∷ []
numbers_of_one_loop = refl

at_most_one : (n x : ℕ) → once_below n x ≤ 1
at_most_one n x = at (nat_lt x n)
  where
    at : (b : Bool) → cond b 1 0 ≤ 1
    at true = omega arith
    at false = omega arith

pub each_once_in_any_order : AreEachOnce (2 ∷ 0 ∷ 1 ∷ [])
each_once_in_any_order = record { limit = 3; once = once }
  where
    once : (x : ℕ) → times x (2 ∷ 0 ∷ 1 ∷ []) ≡ once_below 3 x
    once zero = refl
    once (suc zero) = refl
    once (suc (suc zero)) = refl
    once (suc (suc (suc x))) = grind arith

pub none_drawn : AreEachOnce []
none_drawn = record { limit = 0; once = λ x. grind arith }

pub twice_refused : AreEachOnce (0 ∷ 0 ∷ []) → ⊥
twice_refused drawn = let two = drawn.once 0 in let one = at_most_one drawn.limit 0 in omega arith

pub gap_refused : AreEachOnce (0 ∷ 2 ∷ []) → ⊥
gap_refused drawn = let last = drawn.once 2 in let middle = drawn.once 1 in grind arith

pub first_left_out_refused : AreEachOnce (1 ∷ []) → ⊥
first_left_out_refused drawn = let last = drawn.once 1 in let first = drawn.once 0 in grind arith

-- the first hand has what the other drew behind its own, and may draw as often as before
pub regained_behind : (regained (lent (drew whole_share 0 4)) (drew lent_share 1 5)).drawn ≡ (0, 4) ∷ (1, 5) ∷ []
regained_behind = refl

pub nobody_out : (regained (lent whole_share) lent_share).out ≡ 0
nobody_out = refl

pub one_is_lent : is_lent lent_share ≡ 1
one_is_lent = refl

pub first_is_not_lent : is_lent whole_share ≡ 0
first_is_not_lent = refl

pub joined_is_not_lent : is_lent used_up ≡ 0
joined_is_not_lent = refl

-- the innermost mutex comes first
pub innermost_first : (locked (locked (newcomer []) 3) 4).held ≡ 4 ∷ 3 ∷ []
innermost_first = refl

pub innermost_given_back : (unlocked (locked (locked (newcomer []) 3) 4) 4).held ≡ 3 ∷ []
innermost_given_back = refl

-- the names of two hands that are split one after the other, and of one that the first of them splits
abbrev once_parted : View
once_parted = parted (newcomer []) 0 2

pub second_name : (child once_parted).name ≡ 1 ∷ []
second_name = refl

pub deeper_name : (child (child (newcomer []))).name ≡ 0 ∷ 0 ∷ []
deeper_name = refl

pub both_out : (parted once_parted 1 2).out ≡ 1 ∷ 0 ∷ []
both_out = refl

pub split_is_noted : once_parted.items ≡ item [] (Split 0 0 2) ∷ []
split_is_noted = refl

-- what the other learned stands behind the own, and then its homecoming
pub learned_in_order : (after_meeting (did once_parted (Read 0 0)) (did (child (newcomer [])) (Read 1 0))).items
    ≡ item [] (Split 0 0 2) ∷ item [] (Read 0 0) ∷ item (0 ∷ []) (Read 1 0) ∷ item [] (Home 0) ∷ []
learned_in_order = refl

pub home_is_not_out : (after_meeting (parted once_parted 1 2) (child once_parted)).out ≡ 0 ∷ []
home_is_not_out = refl

pub one_number_goes : without 1 (2 ∷ 1 ∷ 0 ∷ []) ≡ 2 ∷ 0 ∷ []
one_number_goes = refl

pub taken_word : mutex_word (Some []) ≡ 1
taken_word = refl

pub free_word : mutex_word None ≡ 0
free_word = refl

pub held_twice_refused : Once (3 ∷ 4 ∷ 3 ∷ []) → ⊥
held_twice_refused once = once.0 (1, omega arith, refl)
