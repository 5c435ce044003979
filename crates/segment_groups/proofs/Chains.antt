-- Going along a chain: what was handed over so far.
use Rattle.std.proofs.Common.{◌≡◌, ◌⊎◌, inl, inr, ℕ, ◌+◌, ◌-◌, ◌<◌, ◌≤◌, List, [], ◌∷◌, ◌++◌, length, length-append, Option, Some, None, refl, sym, subst, arith}
use Rattle.interval_tree.specs.Visits.{TakesEach}
use Rattle.interval_tree.proofs.Taking.{Takes-append}
use Rattle.segment_groups.specs.Level.{IsLeastNumber}
use Rattle.segment_groups.specs.Partners.{AreAll}
use Rattle.segment_groups.proofs.Lists.{AreAll-append, AreAll-none, AreAll-one, AreAll-same, three}

-- a number before the one that is next, or any where none is next
abbrev pub IsPassed : (ℕ → Type 0) → Option ℕ → ℕ → Type 0
IsPassed P None n = P n
IsPassed P (Some next) n = P n × (n < next)

abbrev pub IsNext : (ℕ → Type 0) → Option ℕ → Type 0
IsNext P None = Unit {0}
IsNext P (Some next) = P next

-- those before the one that is next were taken
pub record HasPassed {S : Type 0} (took : S → ℕ → S → Type 0) (P : ℕ → Type 0) (cursor : Option ℕ) (before now : S) (old new : ℕ) : Type 0 where
  pub next : IsNext P cursor
  pub found : List ℕ
  pub all : AreAll (IsPassed P cursor) found
  pub takes : TakesEach took before found now
  pub steps : new ≡ old + length found

pub passed_none : {S : Type 0} (took : S → ℕ → S → Type 0) (P : ℕ → Type 0) (cursor : Option ℕ) (before : S) (old : ℕ) → IsLeastNumber P cursor → HasPassed took P cursor before before old old
passed_none took P None before old first = record { next = tt; found = []; all = AreAll-none P first; takes = refl; steps = omega arith }
passed_none took P (Some least) before old first = record {
  next = first.0;
  found = [];
  all = AreAll-none (λ n. P n × (n < least)) (λ n both. let up = first.1 n both.0 in let less = both.1 in omega arith);
  takes = refl;
  steps = omega arith;
}

-- those after a number, of which the first is next
pub record Follow (P After : ℕ → Type 0) (last : ℕ) : Type 0 where
  pub to : (n : ℕ) → After n → P n × (last < n)
  pub from : (n : ℕ) → P n → last < n → After n

all_passed : (P After : ℕ → Type 0) (last : ℕ) (next : Option ℕ) (found : List ℕ) → Follow P After last → IsLeastNumber After next → P last → AreAll (λ n. P n × (n < last)) found
    → AreAll (IsPassed P next) (found ++ last ∷ [])
all_passed P After last next found follow first here all =
    AreAll-same (λ n. (P n × (n < last)) ⊎ (last ≡ n)) (IsPassed P next) (found ++ last ∷ []) (to next first) (from next first)
    (AreAll-append (λ n. P n × (n < last)) (λ n. last ≡ n) found (last ∷ []) (λ m n both same. let less = both.1 in omega arith) all (AreAll-one last))
  where
    is_one : (n : ℕ) → (P n × (n < last)) ⊎ (last ≡ n) → P n × (n ≤ last)
    is_one n (inl both) = (both.0, let less = both.1 in omega arith)
    is_one n (inr same) = (subst P same here, omega arith)

    to : (next : Option ℕ) → IsLeastNumber After next → (n : ℕ) → (P n × (n < last)) ⊎ (last ≡ n) → IsPassed P next n
    to None first n h = (is_one n h).0
    to (Some least) first n h = let one = is_one n h in let low = one.1 in let up = (follow.to least first.0).1 in (one.0, omega arith)

    from : (next : Option ℕ) → IsLeastNumber After next → (n : ℕ) → IsPassed P next n → (P n × (n < last)) ⊎ (last ≡ n)
    from None first n p = elim (three n last) [
      | inl less ↦ inl (p, less)
      | inr other ↦ elim other [ inl same ↦ inr (sym same) | inr greater ↦ absurd (first n (follow.from n p greater)) ]
    ]
    from (Some least) first n p = elim (three n last) [
      | inl less ↦ inl (p.0, less)
      | inr other ↦ elim other [ inl same ↦ inr (sym same) | inr greater ↦ absurd (let up = first.1 n (follow.from n p.0 greater) in let less = p.1 in omega arith) ]
    ]

next_one : (P After : ℕ → Type 0) (last : ℕ) (next : Option ℕ) → Follow P After last → IsLeastNumber After next → IsNext P next
next_one P After last None follow first = tt
next_one P After last (Some least) follow first = (follow.to least first.0).0

pub passed_more : {S : Type 0} (took : S → ℕ → S → Type 0) (P After : ℕ → Type 0) (last : ℕ) (next : Option ℕ) (before now after : S) (old new : ℕ) → Follow P After last → IsLeastNumber After next
    → took now last after → HasPassed took P (Some last) before now old new → HasPassed took P next before after old (new + 1)
passed_more took P After last next before now after old new follow first took_it so_far =
    let long : length (so_far.found ++ last ∷ []) ≡ length so_far.found + 1 = length-append so_far.found (last ∷ []) in
    let steps = so_far.steps in
    record {
      next = next_one P After last next follow first;
      found = so_far.found ++ last ∷ [];
      all = all_passed P After last next so_far.found follow first so_far.next so_far.all;
      takes = Takes-append took before now after so_far.found (last ∷ []) so_far.takes (after, took_it, refl);
      steps = omega arith;
    }

-- how many positions there are from the one that is next on
abbrev pub positions_left : ℕ → Option ℕ → ℕ
positions_left count None = 0
positions_left count (Some next) = count - next
