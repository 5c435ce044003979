-- Each step on the counters keeps their rule.
use Rattle.std.proofs.Common.{◌≡◌, refl, sym, ap, ap₂, ◌∙◌, subst, ℕ, zero, suc, ◌+◌, ◌-◌, ◌%◌, ◌^◌, ◌<◌, ◌≤◌, Bool, true, false, cond, eq-eqb, ne_eqb, List, [], ◌∷◌, ◌++◌, length, length-set, length-append, get_or, set, arith, inl, inr}
use Rattle.std.specs.Prelude.{◌==◌, sum_by}
use Rattle.std.proofs.lemmas.Bool.{false≢true}
use Rattle.std.proofs.lemmas.List.{set-get_or}
use Rattle.std.proofs.lemmas.List.Sums.{sum_by-append}
use mathlib.Core.Logic.{dite}
use mathlib.Core.Option.{none, some, some-injective, some-ne-none}
use native.Mathlib.Decide.{ℕ_discrete}
use lib.ListN.{get_elem?}
use Rattle.atomic_table.specs.Table.{State, Me, step, keeps, opening, Allows, Splits, Joins}
use Rattle.atomic_table.proofs.Lists.{at_set, set_again, set_here}
use Rattle.shared_words.specs.declared.share.Share.{Share}
use Rattle.shared_words.specs.Draws.{SPLITS, Drawing, Looking, numbers, times, once_below, whole_share, lent_share, used_up, drew, lent, regained, IsFirstAlone, HasEachOnce, one_if, is_lent, drawn_times, draw_count, budget, KeepsShare, Dealt}
use Rattle.shared_words.proofs.Views.{at_end, sum_set, sum_part, sum_parts, sum_alone, sum_below, sum_more}
use Rattle.shared_words.proofs.Beginning.{zeros, length-zeros, zero_word}
use Rattle.shared_words.proofs.WordList.{word_else, word_here}

abbrev Seen : Type 0
Seen = Me (Unit {0}) Share

abbrev St : Type 0
St = State (Unit {0}) Share

abbrev At : List Share → ℕ → Share → Type 0
At views id v = get_elem? views id ≡ some v

abbrev firsts : Share → ℕ
firsts v = one_if v.first

times-append : (x : ℕ) (xs ys : List ℕ) → times x (xs ++ ys) ≡ times x xs + times x ys
times-append x xs ys = sum_by-append (λ (y : ℕ). cond (y == x) 1 0) xs ys

pub numbers-append : (loop : ℕ) (xs ys : List (ℕ × ℕ)) → numbers loop (xs ++ ys) ≡ numbers loop xs ++ numbers loop ys
numbers-append loop [] ys = refl
numbers-append loop (d ∷ xs) ys = at (d.0 == loop) (numbers-append loop xs ys)
  where
    at : (b : Bool) → numbers loop (xs ++ ys) ≡ numbers loop xs ++ numbers loop ys
        → cond b (d.1 ∷ numbers loop (xs ++ ys)) (numbers loop (xs ++ ys)) ≡ cond b (d.1 ∷ numbers loop xs) (numbers loop xs) ++ numbers loop ys
    at true rest = ap (λ (l : List ℕ). d.1 ∷ l) rest
    at false rest = rest

drawn_both : (loop x : ℕ) (xs ys : List (ℕ × ℕ)) → times x (numbers loop (xs ++ ys)) ≡ times x (numbers loop xs) + times x (numbers loop ys)
drawn_both loop x xs ys = ap (times x) (numbers-append loop xs ys) ∙ times-append x (numbers loop xs) (numbers loop ys)

drawn_here : (loop which x n : ℕ) → which ≡ loop → times x (numbers loop ((which, n) ∷ [])) ≡ cond (n == x) 1 0
drawn_here loop which x n same = ap (λ (b : Bool). times x (cond b (n ∷ []) [])) (eq-eqb which loop same) ∙ last
  where
    last : times x (n ∷ []) ≡ cond (n == x) 1 0
    last = omega arith

drawn_elsewhere : (loop which x n : ℕ) → (which ≡ loop → ⊥) → times x (numbers loop ((which, n) ∷ [])) ≡ 0
drawn_elsewhere loop which x n apart = ap (λ (b : Bool). times x (cond b (n ∷ []) [])) (ne_eqb which loop apart)

one_more : (n x : ℕ) → once_below n x + cond (n == x) 1 0 ≡ once_below (n + 1) x
one_more n x = grind arith

-- a sum that the new view doesn't change
sum_same : (f : Share → ℕ) (views : List Share) (id : ℕ) (v w : Share) → At views id v → f w ≡ f v → sum_by f (set views id w) ≡ sum_by f views
sum_same f views id v w at same = let changed = sum_set f views id v w at in omega arith

-- there is one first hand
other_first : (views : List Share) (id j : ℕ) (v u : Share) → sum_by firsts views ≡ 1 → At views id v → v.first ≡ true → At views j u → (j ≡ id → ⊥) → u.first ≡ true → ⊥
other_first views id j v u one at first there apart other =
    let both = sum_parts firsts views id j v u at there apart in
    let here : firsts v ≡ 1 = ap one_if first in
    let too : firsts u ≡ 1 = ap one_if other in
    omega arith

not_true : (b : Bool) → (b ≡ true → ⊥) → b ≡ false
not_true true no_way = absurd (no_way refl)
not_true false no_way = refl

-- who has all has drawn each number below the counters once
has_all : (loops : ℕ) (s : St) (id : ℕ) (v : Share) → Dealt loops s → At s.views id v → IsFirstAlone v → HasEachOnce v
has_all loops s id v dealt at all loop = record {
  limit = get_or s.words (1 + loop) 0;
  once = λ x. sym (sum_alone (drawn_times loop x) s.views id v at (others x)) ∙ dealt.once loop x;
} where
  lent_none : sum_by is_lent s.views ≡ 0
  lent_none = ((dealt.each id v at).counted all.first).0 ∙ all.none_out

  idle : (b c : Bool) → b ≡ false → cond b 0 (one_if c) ≡ 0 → c ≡ false
  idle true c is none_left = cc
  idle false true is none_left = cc
  idle false false is none_left = refl

  others : (x j : ℕ) (u : Share) → At s.views j u → (j ≡ id → ⊥) → drawn_times loop x u ≡ 0
  others x j u there apart =
      let not_first : u.first ≡ false = not_true u.first (other_first s.views id j v u dealt.one_first at all.first there apart) in
      let part = sum_part is_lent s.views j u there in
      let total = lent_none in
      let zero_part : is_lent u ≡ 0 = omega arith in
      let dead : u.live ≡ false = idle u.first u.live not_first zero_part in
      ap (λ (l : List (ℕ × ℕ)). times x (numbers loop l)) ((dealt.each j u there).empty dead).0

no_wrap : (n : ℕ) → n + 1 < 18446744073709551616 → (n + 1) % 2 ^ 64 ≡ n + 1
no_wrap n small = omega arith

-- the counters have room
room : (loops : ℕ) (s : St) (loop : ℕ) → Dealt loops s → get_or s.words (1 + loop) 0 + 1 < 18446744073709551616
room loops s loop dealt =
    let bounded = dealt.bounded loop in
    let less = sum_below draw_count budget (λ v. omega arith) s.views in
    let allowed = dealt.allowed in
    let short = dealt.short in
    omega arith

abbrev drawn_state : St → ℕ → ℕ → ℕ → Share → St
drawn_state s which id n w = record { words = set s.words (1 + which) n; homes = s.homes; views = set s.views id w }

draw_deals : (loops : ℕ) (s : St) (id : ℕ) (v : Share) (which : ℕ) → Dealt loops s → At s.views id v → v.live ≡ true → 0 < v.left → which < loops
    → Dealt loops (drawn_state s which id (get_or s.words (1 + which) 0 + 1) (drew v which (get_or s.words (1 + which) 0)))
draw_deals loops s id v which dealt at live left within =
    record {
      wide = length-set s.words (1 + which) (n + 1) ∙ dealt.wide;
      once = once;
      bounded = bounded;
      allowed =
          let same = sum_same budget s.views id v w at budget_same in
          let allowed = dealt.allowed in omega (arith, length-set s.views id w);
      short = let short = dealt.short in omega (arith, length-set s.views id w);
      one_first = sum_same firsts s.views id v w at refl ∙ dealt.one_first;
      each = λ j u there. elim (at_set s.views id j w u there) [
        | inl here ↦
            let P : Share → Type 0 = λ x. KeepsShare (set s.views id w) x in
            subst P here.1 own
        | inr away ↦ kept j u away.1
      ];
    }
  where
    n : ℕ
    n = get_or s.words (1 + which) 0

    w : Share
    w = drew v which n

    long : length s.words ≡ 1 + loops
    long = dealt.wide

    budget_same : budget w ≡ budget v
    budget_same = omega (arith, length-append v.drawn ((which, n) ∷ []))

    counts : draw_count w ≡ draw_count v + 1
    counts = omega (arith, length-append v.drawn ((which, n) ∷ []))

    once : (loop x : ℕ) → sum_by (drawn_times loop x) (set s.views id w) ≡ once_below (get_or (set s.words (1 + which) (n + 1)) (1 + loop) 0) x
    once loop x =
        let changed = sum_set (drawn_times loop x) s.views id v w at in
        let both = drawn_both loop x v.drawn ((which, n) ∷ []) in
        let before = dealt.once loop x in
        dite (ℕ_discrete which loop)
        (λ here.
        let more = drawn_here loop which x n here in
        let P : ℕ → Type 0 = λ l. get_or s.words (1 + l) 0 ≡ n in
        let word : get_or s.words (1 + loop) 0 ≡ n = subst P here refl in
        let count : once_below (get_or s.words (1 + loop) 0) x ≡ once_below n x = ap (λ (m : ℕ). once_below m x) word in
        let after : get_or (set s.words (1 + which) (n + 1)) (1 + loop) 0 ≡ n + 1 = word_here s.words (1 + which) (1 + loop) (n + 1) (omega arith) (omega arith) in
        let sum : sum_by (drawn_times loop x) (set s.views id w) ≡ once_below n x + cond (n == x) 1 0 = omega arith in
        sum ∙ (one_more n x ∙ ap (λ (m : ℕ). once_below m x) (sym after)))
        (λ apart.
        let more = drawn_elsewhere loop which x n apart in
        let sum : sum_by (drawn_times loop x) (set s.views id w) ≡ sum_by (drawn_times loop x) s.views = omega arith in
        sum ∙ (before ∙ ap (λ (m : ℕ). once_below m x) (sym (word_else s.words (1 + which) (1 + loop) (n + 1) (λ same. apart (omega arith))))))

    bounded : (loop : ℕ) → get_or (set s.words (1 + which) (n + 1)) (1 + loop) 0 ≤ sum_by draw_count (set s.views id w)
    bounded loop =
        let changed = sum_set draw_count s.views id v w at in
        let more = counts in
        let here_before = dealt.bounded which in
        let before = dealt.bounded loop in
        let is : n ≡ get_or s.words (1 + which) 0 = refl in
        dite (ℕ_discrete which loop)
        (λ here. let after = word_here s.words (1 + which) (1 + loop) (n + 1) (omega arith) (omega arith) in omega arith)
        (λ apart. let after = word_else s.words (1 + which) (1 + loop) (n + 1) (λ same. apart (omega arith)) in omega arith)

    own : KeepsShare (set s.views id w) w
    own =
        let old = dealt.each id v at in
        record {
          counted = λ first. (sum_same is_lent s.views id v w at refl ∙ (old.counted first).0, length-set s.views id w ∙ (old.counted first).1);
          within = old.within;
          empty = λ dead. absurd (false≢true (sym dead ∙ live));
        }

    kept : (j : ℕ) (u : Share) → At s.views j u → KeepsShare (set s.views id w) u
    kept j u there =
        let old = dealt.each j u there in
        record {
          counted = λ first. (sum_same is_lent s.views id v w at refl ∙ (old.counted first).0, length-set s.views id w ∙ (old.counted first).1);
          within = old.within;
          empty = old.empty;
        }

loop_of : (which : ℕ) → 1 + which - 1 ≡ which
loop_of which = omega arith

pub draws_allowed : (loops slots id : ℕ) (me : Seen) (which : ℕ) → me.0.live ≡ true → 0 < me.0.left → which < loops
    → Allows (Dealt loops) slots id me (1 + which) (λ n. (n + 1) % 2 ^ 64) (Drawing (step slots (1 + which) 1 0 none) me)
draws_allowed loops slots id me which live left within s dealt same_slots at small =
    let v : Share = me.0 in
    let n : ℕ = get_or s.words (1 + which) 0 in
    let w : Share = drew v which n in
    let after = draw_deals loops s id v which dealt at live left within in
    let here : At (set s.views id w) id w = set_here s.views id w (inside s.views id v at) in
    let loop : which ≡ 1 + which - 1 = sym (loop_of which) in
    let P : ℕ → Type 0 = λ k. Dealt loops (drawn_state s which id k w) in
    let Q : ℕ → Type 0 = λ k. HasEachOnce (drew v k n) in (
      w,
      keeps,
      tt,
      subst P (sym (no_wrap n (room loops s which dealt))) after,
      record {
        drawn = ap (λ (k : ℕ). (drew v k n, me.1)) loop;
        all = λ all. subst Q loop (has_all loops (drawn_state s which id (n + 1) w) id w after here (record { first = all.first; none_out = all.none_out }));
      },
    )
  where
    inside : (views : List Share) (i : ℕ) (u : Share) → At views i u → i < length views
    inside [] i u there = absurd (some-ne-none u (sym there))
    inside (x ∷ xs) zero u there = omega arith
    inside (x ∷ xs) (suc i) u there = let rest = inside xs i u there in omega arith

pub looks_allowed : (loops slots id : ℕ) (me : Seen) → Allows (Dealt loops) slots id me 0 (λ n. n) (Looking (step slots 0 0 0 none) me)
looks_allowed loops slots id me s dealt same_slots at small =
    let P : List ℕ × List Share → Type 0 = λ z. Dealt loops (record { words = z.0; homes = s.homes; views = z.1 }) in (
      me.0,
      keeps,
      tt,
      subst P (λ k. (sym (set-get_or s.words 0 0) k, sym (set_again s.views id me.0 at) k)) dealt,
      record { same = refl; all = λ all. has_all loops s id me.0 dealt at all },
    )

pub lends_allowed : (loops id : ℕ) (v : Share) → v.live ≡ true → v.first ≡ true → v.splits < SPLITS → Splits (Dealt loops) id v (lent v) lent_share
lends_allowed loops id v live first few s dealt at =
    let old = dealt.each id v at in
    let counted = old.counted first in
    record {
      wide = dealt.wide;
      once = λ loop x. total (drawn_times loop x) refl ∙ (nothing_more (sum_by (drawn_times loop x) s.views) ∙ dealt.once loop x);
      bounded = λ loop. let sum = total draw_count refl in let before = dealt.bounded loop in omega arith;
      allowed = let sum = total budget refl in let before = dealt.allowed in let longer = long in omega arith;
      short = let longer = long in let length_is = counted.1 in omega arith;
      one_first = total firsts refl ∙ (nothing_more (sum_by firsts s.views) ∙ dealt.one_first);
      each = λ j u there. elim (at_end (set s.views id (lent v)) lent_share j u there) [
        | inl before ↦ elim (at_set s.views id j (lent v) u before) [
          | inl here ↦
              let P : Share → Type 0 = λ x. KeepsShare (set s.views id (lent v) ++ lent_share ∷ []) x in
              subst P here.1 (record {
                counted = λ is. (let sum = total is_lent refl in let count = counted.0 in omega arith, let longer = long in let length_is = counted.1 in omega arith);
                within = omega arith;
                empty = λ dead. absurd (false≢true (sym dead ∙ live));
              })
          | inr away ↦
              let kept = dealt.each j u away.1 in
              record {
                counted = λ other. absurd (other_first s.views id j v u dealt.one_first at first away.1 away.0 other);
                within = kept.within;
                empty = kept.empty;
              }
        ]
        | inr last ↦
            let P : Share → Type 0 = λ x. KeepsShare (set s.views id (lent v) ++ lent_share ∷ []) x in
            subst P (sym last.1) (record { counted = λ is. absurd (false≢true is); within = omega arith; empty = λ dead. absurd (false≢true (sym dead)) })
      ];
    }
  where
    long : length (set s.views id (lent v) ++ lent_share ∷ []) ≡ length s.views + 1
    long = omega (arith, length-append (set s.views id (lent v)) (lent_share ∷ []), length-set s.views id (lent v))

    nothing_more : (n : ℕ) → n + 0 ≡ n
    nothing_more n = omega arith

    total : (f : Share → ℕ) → f (lent v) ≡ f v → sum_by f (set s.views id (lent v) ++ lent_share ∷ []) ≡ sum_by f s.views + f lent_share
    total f same = sum_more f (set s.views id (lent v)) lent_share ∙ ap (λ (n : ℕ). n + f lent_share) (sum_same f s.views id v (lent v) at same)

pub regains_allowed : (loops id : ℕ) (v : Share) (from : ℕ) (w : Share) → v.live ≡ true → v.first ≡ true → w.live ≡ true → w.first ≡ false
    → Joins (Dealt loops) id v from w (regained v w) used_up
regains_allowed loops id v from w live first other_live not_first s dealt at apart other_at =
    let old = dealt.each id v at in
    let counted = old.counted first in
    record {
      wide = dealt.wide;
      once = λ loop x.
          let sum = total (drawn_times loop x) in
          let both = drawn_both loop x v.drawn w.drawn in
          let before = dealt.once loop x in
          let now : sum_by (drawn_times loop x) after ≡ sum_by (drawn_times loop x) s.views = omega arith in
          now ∙ before;
      bounded = λ loop. let sum = total draw_count in let before = dealt.bounded loop in omega (arith, length-append v.drawn w.drawn);
      allowed = let sum = total budget in let before = dealt.allowed in let longer = long in omega (arith, length-append v.drawn w.drawn);
      short = let longer = long in let short = dealt.short in omega arith;
      one_first =
          let sum = total firsts in
          let gone : firsts w ≡ 0 = ap one_if not_first in
          let before = dealt.one_first in omega arith;
      each = λ j u there. elim (at_set (set s.views id r) from j used_up u there) [
        | inl here ↦
            let P : Share → Type 0 = λ x. KeepsShare after x in
            subst P here.1 (record { counted = λ is. absurd (false≢true is); within = omega arith; empty = λ dead. (refl, refl) })
        | inr other ↦ elim (at_set s.views id j r u other.1) [
          | inl here ↦
              let P : Share → Type 0 = λ x. KeepsShare after x in
              subst P here.1 (record {
                counted = λ is. (lent_now, let longer = long in let length_is = counted.1 in omega arith);
                within = old.within;
                empty = λ dead. absurd (false≢true (sym dead ∙ live));
              })
          | inr away ↦
              let kept = dealt.each j u away.1 in
              record {
                counted = λ is. absurd (other_first s.views id j v u dealt.one_first at first away.1 away.0 is);
                within = kept.within;
                empty = kept.empty;
              }
        ]
      ];
    }
  where
    r : Share
    r = regained v w

    after : List Share
    after = set (set s.views id r) from used_up

    long : length after ≡ length s.views
    long = length-set (set s.views id r) from used_up ∙ length-set s.views id r

    total : (f : Share → ℕ) → sum_by f after + f w + f v ≡ sum_by f s.views + f r + f used_up
    total f = let one = sum_set f s.views id v r at in let two = sum_set f (set s.views id r) from w used_up other_at in omega arith

    lent_now : sum_by is_lent after ≡ v.out - 1
    lent_now =
        let sum = total is_lent in
        let none_v : is_lent v ≡ 0 = ap (λ (b : Bool). cond b 0 (one_if v.live)) first in
        let none_r : is_lent r ≡ 0 = ap (λ (b : Bool). cond b 0 (one_if v.live)) first in
        let one_w : is_lent w ≡ 1 = ap₂ (λ (a b : Bool). cond a 0 (one_if b)) not_first other_live in
        let count = ((dealt.each id v at).counted first).0 in
        omega arith

none_below : (x : ℕ) → once_below 0 x ≡ 0
none_below x = grind arith

pub deal_begins : (loops : ℕ) → Dealt loops (opening (zeros (1 + loops)) [] whole_share)
deal_begins loops = record {
  wide = length-zeros (1 + loops);
  once = λ loop x. sym (none_below x) ∙ ap (λ (n : ℕ). once_below n x) (sym (zero_word (1 + loops) (1 + loop)));
  bounded = λ loop. let none_yet = zero_word (1 + loops) (1 + loop) in omega arith;
  allowed = omega arith;
  short = omega arith;
  one_first = refl;
  each = each_first;
} where
  first_holds : KeepsShare (whole_share ∷ []) whole_share
  first_holds = record { counted = λ is. (refl, refl); within = omega arith; empty = λ dead. absurd (false≢true (sym dead)) }

  each_first : (id : ℕ) (v : Share) → At (whole_share ∷ []) id v → KeepsShare (whole_share ∷ []) v
  each_first zero v there = let P : Share → Type 0 = λ u. KeepsShare (whole_share ∷ []) u in subst P (some-injective whole_share v there) first_holds
  each_first (suc id) v there = absurd (some-ne-none v (sym there))
