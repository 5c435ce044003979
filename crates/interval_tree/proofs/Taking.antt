-- A visitor that takes one list and then another.
use Rattle.std.proofs.Common.{◌≡◌, List, [], ◌∷◌, ◌++◌, refl, sym, ◌∙◌, ap, subst, append_assoc}
use Rattle.interval_tree.specs.Visits.{TakesEach, TakesUpTo}

pub Takes-append : {S X : Type 0} (took : S → X → S → Type 0) (a b c : S) (xs ys : List X) → TakesEach took a xs b → TakesEach took b ys c → TakesEach took a (xs ++ ys) c
Takes-append {S = S} took a b c [] ys first second = subst (λ (s : S). TakesEach took s ys c) (sym first) second
Takes-append took a b c (x ∷ xs) ys first second = (first.0, first.1, Takes-append took first.0 b c xs ys first.2 second)

-- what comes after a refusal changes nothing
pub TakesUpTo-append : {S X : Type 0} (took refused : S → X → S → Type 0) (a c : S) (xs ys : List X) → TakesUpTo took refused a xs c → TakesUpTo took refused a (xs ++ ys) c
TakesUpTo-append took refused a c xs ys up = record {
  taken = up.taken;
  next = up.next;
  later = up.later ++ ys;
  all = ap (λ zs. zs ++ ys) up.all ∙ append_assoc up.taken (up.next ∷ up.later) ys;
  between = up.between;
  takes = up.takes;
  refuses = up.refuses;
}

pub TakesUpTo-behind : {S X : Type 0} (took refused : S → X → S → Type 0) (a b c : S) (xs ys : List X) → TakesEach took a xs b → TakesUpTo took refused b ys c → TakesUpTo took refused a (xs ++ ys) c
TakesUpTo-behind took refused a b c xs ys first up = record {
  taken = xs ++ up.taken;
  next = up.next;
  later = up.later;
  all = ap (λ zs. xs ++ zs) up.all ∙ sym (append_assoc xs up.taken (up.next ∷ up.later));
  between = up.between;
  takes = Takes-append took a b up.between xs up.taken first up.takes;
  refuses = up.refuses;
}

pub TakesUpTo-first : {S X : Type 0} (took refused : S → X → S → Type 0) (a c : S) (x : X) → refused a x c → TakesUpTo took refused a (x ∷ []) c
TakesUpTo-first took refused a c x is = record { taken = []; next = x; later = []; all = refl; between = a; takes = refl; refuses = is }

-- a list in three parts
pub taken_in_turn : {S X : Type 0} (took : S → X → S → Type 0) (a b c d : S) (xs ys zs all : List X) → all ≡ (xs ++ ys) ++ zs → TakesEach took a xs b → TakesEach took b ys c → TakesEach took c zs d → TakesEach took a all d
taken_in_turn {X = X} took a b c d xs ys zs all is first second third =
    subst (λ (rs : List X). TakesEach took a rs d) (sym is) (Takes-append took a c d (xs ++ ys) zs (Takes-append took a b c xs ys first second) third)

pub refused_first : {S X : Type 0} (took refused : S → X → S → Type 0) (a d : S) (xs ys zs all : List X) → all ≡ (xs ++ ys) ++ zs → TakesUpTo took refused a xs d → TakesUpTo took refused a all d
refused_first {X = X} took refused a d xs ys zs all is up =
    subst (λ (rs : List X). TakesUpTo took refused a rs d) (sym is) (TakesUpTo-append took refused a d (xs ++ ys) zs (TakesUpTo-append took refused a d xs ys up))

pub refused_second : {S X : Type 0} (took refused : S → X → S → Type 0) (a b d : S) (xs ys zs all : List X) → all ≡ (xs ++ ys) ++ zs → TakesEach took a xs b → TakesUpTo took refused b ys d → TakesUpTo took refused a all d
refused_second {X = X} took refused a b d xs ys zs all is first up =
    subst (λ (rs : List X). TakesUpTo took refused a rs d) (sym is) (TakesUpTo-append took refused a d (xs ++ ys) zs (TakesUpTo-behind took refused a b d xs ys first up))

pub refused_third : {S X : Type 0} (took refused : S → X → S → Type 0) (a b c d : S) (xs ys zs all : List X) → all ≡ (xs ++ ys) ++ zs → TakesEach took a xs b → TakesEach took b ys c → TakesUpTo took refused c zs d → TakesUpTo took refused a all d
refused_third {X = X} took refused a b c d xs ys zs all is first second up =
    subst (λ (rs : List X). TakesUpTo took refused a rs d) (sym is) (TakesUpTo-behind took refused a c d (xs ++ ys) zs (Takes-append took a b c xs ys first second) up)
