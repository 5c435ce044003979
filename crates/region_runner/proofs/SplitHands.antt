-- Hands that are split off one after another.
use Rattle.std.proofs.Common.{◌≡◌, refl, ap, sym, ◌∙◌, subst, ℕ, zero, suc, ◌+◌, ◌-◌, ◌<◌, ◌≤◌, List, [], ◌∷◌, length, map, drop, get_or, true, arith}
use Rattle.shared_words.specs.declared.view.View.{View}
use Rattle.shared_words.specs.Handles.{HandValue, with_view}
use Rattle.shared_words.specs.Views.{IsAtRest, parted, child, newcomer, after_meeting}
use Rattle.region_runner.specs.Hands.{joined_with, lane_hand, parted_for}

-- the hand has split off one for each of these first lanes of a team
pub record HasSplit (span : ℕ) (old new : HandValue View) (lane : ℕ) : Type 0 where
  pub table : new.table ≡ old.table
  pub there : new.there ≡ true
  pub name : new.view.name ≡ old.view.name
  pub splits : new.view.splits ≡ old.view.splits + lane
  pub left : parted_for lane span (span - lane) new.view ≡ parted_for 0 span span old.view
  pub rests : 1 ≤ lane → IsAtRest old.view
  pub first : lane ≡ 0 → new.view ≡ old.view

pub split_none : (span : ℕ) (h : HandValue View) → h.there ≡ true → HasSplit span h h 0
split_none span h there = record {
  table = refl;
  there = there;
  name = refl;
  splits = omega arith;
  left = ap (λ (n : ℕ). parted_for 0 span n h.view) (let e : span - 0 ≡ span = omega arith in e);
  rests = λ some. absurd (omega arith);
  first = λ none. refl;
}

pub split_more : (span : ℕ) (old mid : HandValue View) (lane : ℕ) → lane < span → HasSplit span old mid lane → IsAtRest mid.view → HasSplit span old (with_view mid (parted mid.view lane span)) (lane + 1)
split_more span old mid lane less s rests = record {
  table = s.table;
  there = refl;
  name = s.name;
  splits = let before = s.splits in omega arith;
  left =
      ap (λ (n : ℕ). parted_for n span (span - n) (parted mid.view lane span)) (let e : lane + 1 ≡ suc lane = omega arith in e)
      ∙ sym (ap (λ (n : ℕ). parted_for lane span n mid.view) (let e : span - lane ≡ suc (span - suc lane) = omega arith in e))
      ∙ s.left;
  rests = by lane (s.rests) (s.first);
  first = λ none. absurd (omega arith);
}
  where
    by : (n : ℕ) → (1 ≤ n → IsAtRest old.view) → (n ≡ 0 → mid.view ≡ old.view) → 1 ≤ n + 1 → IsAtRest old.view
    by zero before same some = subst (λ (v : View). IsAtRest v) (same refl) rests
    by (suc n) before same some = before (omega arith)

-- the hand that it splits off next
pub split_next : (span : ℕ) (old mid : HandValue View) (lane : ℕ) → HasSplit span old mid lane → with_view mid (child mid.view) ≡ lane_hand old lane
split_next span old mid lane s = λ i. record {
  table = s.table i;
  there = true;
  view = newcomer (s.splits i ∷ s.name i);
}

pub split_all : (span : ℕ) (old new : HandValue View) → HasSplit span old new span → new ≡ with_view old (parted_for 0 span span old.view)
split_all span old new s = λ i. record {
  table = s.table i;
  there = s.there i;
  view = (ap (λ (n : ℕ). parted_for span span n new.view) (let e : 0 ≡ span - span = omega arith in e) ∙ s.left) i;
}

-- ---- joined one after another

-- these are still to be joined
pub record HasJoined (left all : List View) (old new : HandValue View) : Type 0 where
  pub table : new.table ≡ old.table
  pub there : new.there ≡ true
  pub name : new.view.name ≡ old.view.name
  pub rest : joined_with left new.view ≡ joined_with all old.view

pub join_more : (w : View) (left all : List View) (old mid : HandValue View) → HasJoined (w ∷ left) all old mid → HasJoined left all old (with_view mid (after_meeting mid.view w))
join_more w left all old mid j = record { table = j.table; there = refl; name = j.name; rest = j.rest }

-- the first of those that are left
drop_suc : {A : Type 0} (f : A → View) (xs : List A) (n : ℕ) (d : A) → n < length xs → drop n (map f xs) ≡ f (get_or xs n d) ∷ drop (suc n) (map f xs)
drop_suc f [] n d less = absurd (omega arith)
drop_suc f (x ∷ xs) zero d less = refl
drop_suc f (x ∷ xs) (suc n) d less = drop_suc f xs n d (omega arith)

pub drop_next : {A : Type 0} (f : A → View) (xs : List A) (n : ℕ) (d : A) → n < length xs → drop n (map f xs) ≡ f (get_or xs n d) ∷ drop (n + 1) (map f xs)
drop_next f xs n d less = drop_suc f xs n d less ∙ ap (λ (k : ℕ). f (get_or xs n d) ∷ drop k (map f xs)) (let e : suc n ≡ n + 1 = omega arith in e)
