-- A sweep over hulls in order of their first bytes finds the pairs of all of them.
use Rattle.std.proofs.Common.{◌≡◌, ◌⊎◌, ℕ, ◌+◌, ◌<◌, ◌≤◌, All, List, [], ◌∷◌, ◌++◌, drop, take, length, get_or, min, max, Contains, inl, inr, refl, sym, ap, ◌∙◌, subst, arith, length-append, append_assoc, append-nil}
use Rattle.std.specs.List.Sorted.{IsNonDecreasingBy}
use Rattle.std.proofs.lemmas.Bool.{cases_order}
use Rattle.std.proofs.lemmas.List.{get_or-append-add, get_or-take, get_or_append_left, get_or_default, length-take-le, take-append-drop, take_more}
use Rattle.std.proofs.Math.Seq.{drop-append-add, drop-length}
use Rattle.std.proofs.lemmas.List.Elements.{All-contains, Contains-append_cases, Contains-append_left, Contains-append_right, Contains-push, Contains-push_cases}
use Rattle.stride_summary.specs.declared.run.Run.{Run}
use Rattle.pair_compare.specs.Conflict.{AddsPairs, IsLinesOf, IsRunPair, OneHas}
use Rattle.pair_compare.specs.Sweeps.{AddsHull, AddsHulls, AreOfKind, DropsEnded, IsActive, IsHullOf, IsHullPair, IsMetPair, IsReachedPair, OpensHulls, Reach, DropsOnlyEnded, reach_of}
use Rattle.pair_compare.specs.declared.active.Active.{Active}
use Rattle.pair_compare.specs.declared.hull.Hull.{Hull}
use Rattle.pair_compare.proofs.Adds.{AddsPairs-both, AddsPairs-same, OneHas-cons, OneHas-first, not_in_nothing}

min_comm : (a b : ℕ) → min a b ≡ min b a
min_comm a b = grind arith

max_comm : (a b : ℕ) → max a b ≡ max b a
max_comm a b = grind arith

pub IsLinesOf-sym : (a b : Run) (pair : ℕ × ℕ) → IsLinesOf a b pair → IsLinesOf b a pair
IsLinesOf-sym a b pair h = record {
  conflict = record {
    shares = record { byte = h.conflict.shares.byte; first = h.conflict.shares.second; second = h.conflict.shares.first };
    writes = elim h.conflict.writes [ inl w ↦ inr w | inr w ↦ inl w ];
    not_both_atomic = λ mine yours. h.conflict.not_both_atomic yours mine;
    no_mutex = λ m in_b in_a. h.conflict.no_mutex m in_a in_b;
  };
  lines = h.lines ∙ (λ i. (min_comm a.line b.line i, max_comm a.line b.line i));
}

-- what some reaches have, more have
pub met_within : (from : ℕ) (Few Many : Reach → Type 0) (pair : ℕ × ℕ) → ((r : Reach) → Few r → Many r) → IsMetPair from Few pair → IsMetPair from Many pair
met_within from Few Many pair within h = record { a = h.a; b = h.b; a_in = within h.a h.a_in; b_in = within h.b h.b_in; apart = h.apart; begins = h.begins; reaches = h.reaches; late = h.late; lines = h.lines }

-- the pair of two of the hulls
record IsTwo (from : ℕ) (hulls : List Hull) (pair : ℕ × ℕ) : Type 0 where
  pub a : Hull
  pub b : Hull
  pub a_in : Contains hulls a
  pub b_in : Contains hulls b
  pub apart : a.part ≡ b.part → ⊥
  pub begins : a.low ≤ b.low
  pub meets : b.low ≤ a.high
  pub late : from ≤ b.low
  pub lines : IsLinesOf a.run.now b.run.now pair

to_two : (from : ℕ) (hulls : List Hull) (pair : ℕ × ℕ) → IsMetPair from (OneHas IsHullOf hulls) pair → IsTwo from hulls pair
to_two from hulls pair h =
    let a : h.a ≡ reach_of h.a_in.one = h.a_in.has in
    let b : h.b ≡ reach_of h.b_in.one = h.b_in.has in
    record {
      a = h.a_in.one;
      b = h.b_in.one;
      a_in = h.a_in.listed;
      b_in = h.b_in.listed;
      apart = λ e. h.apart (ap (λ (r : Reach). r.part) a ∙ (e ∙ sym (ap (λ (r : Reach). r.part) b)));
      begins = subst (λ (r : Reach). r.low ≤ h.b_in.one.low) a (subst (λ (r : Reach). h.a.low ≤ r.low) b h.begins);
      meets = subst (λ (r : Reach). h.b_in.one.low ≤ r.high) a (subst (λ (r : Reach). r.low ≤ h.a.high) b h.reaches);
      late = subst (λ (r : Reach). from ≤ r.low) b h.late;
      lines = subst (λ (r : Reach). IsLinesOf r.run h.b_in.one.run.now pair) a (subst (λ (r : Reach). IsLinesOf h.a.run r.run pair) b h.lines);
    }

from_two : (from : ℕ) (hulls : List Hull) (pair : ℕ × ℕ) → IsTwo from hulls pair → IsMetPair from (OneHas IsHullOf hulls) pair
from_two from hulls pair h = record {
  a = reach_of h.a;
  b = reach_of h.b;
  a_in = record { one = h.a; listed = h.a_in; has = refl };
  b_in = record { one = h.b; listed = h.b_in; has = refl };
  apart = h.apart;
  begins = h.begins;
  reaches = h.meets;
  late = h.late;
  lines = h.lines;
}

-- the active ones of the hulls that are done are all that the rest can meet
pub record IsOpen (done rest : List Hull) (active : Active) : Type 0 where
  pub seen : (hull : Hull) → IsActive active hull → Contains done hull
  pub others : (hull later : Hull) → Contains done hull → Contains rest later → IsActive active hull ⊎ (hull.high < later.low)
  pub kinds : AreOfKind active

-- so far
pub record IsSwept (from : ℕ) (hulls rest : List Hull) (old new : List (ℕ × ℕ)) (active : Active) : Type 0 where
  pub done : List Hull
  pub split : hulls ≡ done ++ rest
  pub adds : AddsPairs old new (IsMetPair from (OneHas IsHullOf done))
  pub opened : IsOpen done rest active

-- nothing is active before the first
pub swept_none : (from : ℕ) (hulls : List Hull) (keys : List (ℕ × ℕ)) (active : Active) → ((hull : Hull) → IsActive active hull → ⊥) → AreOfKind active → IsSwept from hulls hulls keys keys active
swept_none from hulls keys active none kinds = record {
  done = [];
  split = refl;
  adds = record { kept = λ pair h. h; added = λ pair h. absurd (not_in_nothing h.a_in.one h.a_in.listed); only = λ pair h. inl h };
  opened = record { seen = λ hull h. absurd (none hull h); others = λ hull later h inside. absurd (not_in_nothing hull h); kinds = kinds };
}

-- the hulls of the later part of a list in order begin no earlier
in_order : (xs ys : List Hull) (a b : Hull) → IsNonDecreasingBy (λ hull. hull.low) (xs ++ ys) → Contains xs a → Contains ys b → a.low ≤ b.low
in_order xs ys a b up (i, in_i, at_i) (j, in_j, at_j) =
    let first : get_or (xs ++ ys) i a ≡ a = get_or_append_left xs ys a i in_i ∙ at_i in
    let second : get_or (xs ++ ys) (length xs + j) a ≡ b = get_or-append-add xs ys j a ∙ get_or_default ys j a b in_j ∙ at_j in
    subst (λ (h : Hull). h.low ≤ b.low) first (subst (λ (h : Hull). (get_or (xs ++ ys) i a).low ≤ h.low) second (up i (length xs + j) a (omega arith) (omega (arith, length-append xs ys, in_j))))

rises_right : (xs ys : List Hull) → IsNonDecreasingBy (λ hull. hull.low) (xs ++ ys) → IsNonDecreasingBy (λ hull. hull.low) ys
rises_right xs ys up i j d less within =
    subst (λ (h : Hull). h.low ≤ (get_or ys j d).low) (get_or-append-add xs ys i d) (subst (λ (h : Hull). (get_or (xs ++ ys) (length xs + i) d).low ≤ h.low) (get_or-append-add xs ys j d)
    (up (length xs + i) (length xs + j) d (omega arith) (omega (arith, length-append xs ys, within))))

rises_left : (xs ys : List Hull) → IsNonDecreasingBy (λ hull. hull.low) (xs ++ ys) → IsNonDecreasingBy (λ hull. hull.low) xs
rises_left xs ys up i j d less within =
    subst (λ (h : Hull). h.low ≤ (get_or xs j d).low) (get_or_append_left xs ys d i (omega arith)) (subst (λ (h : Hull). (get_or (xs ++ ys) i d).low ≤ h.low) (get_or_append_left xs ys d j within)
    (up i j d less (omega (arith, length-append xs ys, within))))

pub drop_twice : (m n : ℕ) (xs : List Hull) → m ≤ length xs → drop n (drop m xs) ≡ drop (m + n) xs
drop_twice m n xs within = sym (ap (λ (k : ℕ). drop (k + n) xs) (sym (length-take-le m xs within)) ∙ ap (λ (ys : List Hull). drop (length (take m xs) + n) ys) (sym (take-append-drop m xs)) ∙ drop-append-add (take m xs) (drop m xs) n)

-- the first hulls of a list, up to a place
before : (hulls : List Hull) (i : ℕ) (x hull : Hull) → i < length hulls → x ≡ get_or hulls i x → IsNonDecreasingBy (λ hull. hull.low) hulls → Contains (take i hulls) hull → hull.low ≤ x.low
before hulls i x hull within is up (k, inside, at) =
    let count : length (take i hulls) ≡ i = length-take-le i hulls (omega arith) in
    let same : get_or hulls k hull ≡ hull = sym (get_or-take i hulls k hull (omega (arith, count, inside))) ∙ at in
    let here : get_or hulls i hull ≡ x = get_or_default hulls i hull x within ∙ sym is in
    subst (λ (h : Hull). h.low ≤ x.low) same (subst (λ (h : Hull). (get_or hulls k hull).low ≤ h.low) here (up k i hull (omega (arith, count, inside)) within))

module _ (block : List Hull) (i : ℕ) (x : Hull) (within : i < length block) (is : x ≡ get_or block i x) where
  more : take (i + 1) block ≡ take i block ++ x ∷ []
  more = take_more block i x within ∙ ap (λ (z : Hull). take i block ++ z ∷ []) (sym is)

  among : (hull : Hull) → Contains (take i block) hull → Contains (take (i + 1) block) hull
  among hull h = subst (λ (hs : List Hull). Contains hs hull) (sym more) (Contains-append_left (take i block) (x ∷ []) hull h)

  last : Contains (take (i + 1) block) x
  last = subst (λ (hs : List Hull). Contains hs x) (sym more) (Contains-push (take i block) x)

  -- one more hull settles
  pub settles_more : (a0 a1 a2 : Active) → DropsOnlyEnded (take i block) a0 a1 → DropsEnded x a1 a2 → DropsOnlyEnded (take (i + 1) block) a0 a2
  settles_more a0 a1 a2 first then = record {
    kept = λ other byte h long low. let begins = low x last in then.kept other (first.kept other byte h long (λ hull there. low hull (among hull there))) (omega arith);
    only = λ other h. first.only other (then.only other h);
    kinds = then.kinds;
  }

  -- and meets what was active before all of them
  pub reached_before : (from : ℕ) (a0 a1 : Active) (k1 k2 : List (ℕ × ℕ)) → IsNonDecreasingBy (λ hull. hull.low) block → DropsOnlyEnded (take i block) a0 a1 → AddsPairs k1 k2 (IsReachedPair from x a1) → AddsPairs k1 k2 (IsReachedPair from x a0)
  reached_before from a0 a1 k1 k2 up settles adds = AddsPairs-same k1 k2 (IsReachedPair from x a1) (IsReachedPair from x a0)
      (λ pair h. record { two = record { late = h.two.late; other = h.two.other; among = settles.only h.two.other h.two.among; lines = h.two.lines }; meets = h.meets })
      (λ pair h. record {
        two = record { late = h.two.late; other = h.two.other; among = settles.kept h.two.other x.low h.two.among h.meets (λ hull there. before block i x hull within is up there); lines = h.two.lines };
        meets = h.meets;
      })
      adds

  -- one more hull is put
  pub puts_more : (a0 a1 a2 : Active) → AddsHulls (take i block) a0 a1 → AddsHull x a1 a2 → AddsHulls (take (i + 1) block) a0 a2
  puts_more a0 a1 a2 first then = record {
    own = λ hull h. elim (Contains-push_cases (take i block) x hull (subst (λ (hs : List Hull). Contains hs hull) more h)) [
      | inl old ↦ then.kept hull (first.own hull old)
      | inr same ↦ subst (λ (z : Hull). IsActive a2 z) same then.own
    ];
    kept = λ other h. then.kept other (first.kept other h);
    only = λ other h. elim (then.only other h) [
      | inl was ↦ elim (first.only other was) [ inl old ↦ inl old | inr own ↦ inr (among other own) ]
      | inr same ↦ inr (subst (λ (z : Hull). Contains (take (i + 1) block) z) same last)
    ];
    kinds = then.kinds;
  }

-- before the first
pub settles_none : (active : Active) → AreOfKind active → (hulls : List Hull) → DropsOnlyEnded (take 0 hulls) active active
settles_none active kinds hulls = record { kept = λ other byte h long low. h; only = λ other h. h; kinds = kinds }

pub puts_none : (active : Active) → AreOfKind active → (hulls : List Hull) → AddsHulls (take 0 hulls) active active
puts_none active kinds hulls = record { own = λ hull h. absurd (not_in_nothing hull h); kept = λ other h. h; only = λ other h. inl h; kinds = kinds }

-- no hull is put that ends before the later ones begin
pub opens_none : (block later : List Hull) (active : Active) → AreOfKind active → ((hull other : Hull) → Contains block hull → Contains later other → hull.high < other.low) → OpensHulls block later active active
opens_none block later active kinds ends = record { own = λ hull other h inside. inr (ends hull other h inside); kept = λ other h. h; only = λ other h. inl h; kinds = kinds }

pub opens_all : (block later : List Hull) (a0 a1 : Active) → AddsHulls block a0 a1 → OpensHulls block later a0 a1
opens_all block later a0 a1 puts = record { own = λ hull other h inside. inl (puts.own hull h); kept = puts.kept; only = puts.only; kinds = puts.kinds }

-- where none is active, none is reached
pub reaches_none : (from : ℕ) (keys : List (ℕ × ℕ)) (active : Active) (hulls : List Hull) → ((hull : Hull) → IsActive active hull → ⊥) → AddsPairs keys keys (OneHas (λ hull. IsReachedPair from hull active) hulls)
reaches_none from keys active hulls never = record { kept = λ pair h. h; added = λ pair h. absurd (never h.has.two.other h.has.two.among); only = λ pair h. inl h }

-- what ends before the first of the later hulls, which are in order, ends before all of them
pub before_all : (block later : List Hull) (next : Hull) → IsNonDecreasingBy (λ hull. hull.low) later → next ≡ get_or later 0 next → All (λ hull. hull.high < next.low) block
    → (hull other : Hull) → Contains block hull → Contains later other → hull.high < other.low
before_all block later next up first under hull other h (place, inside, at) =
    let ends : hull.high < next.low = All-contains (λ (hull : Hull). hull.high < next.low) block hull under h in
    let least : (get_or later 0 next).low ≤ (get_or later place next).low = up 0 place next (omega arith) inside in
    let here : get_or later place next ≡ other = get_or_default later place next other inside ∙ at in
    let low : next.low ≤ other.low = subst (λ (h : Hull). next.low ≤ h.low) here (subst (λ (h : Hull). h.low ≤ (get_or later place next).low) (sym first) least) in
    omega arith

pub reached_none : (from : ℕ) (keys : List (ℕ × ℕ)) (active : Active) (hulls : List Hull) → AddsPairs keys keys (OneHas (λ hull. IsReachedPair from hull active) (take 0 hulls))
reached_none from keys active hulls = record { kept = λ pair h. h; added = λ pair h. absurd (not_in_nothing h.one h.listed); only = λ pair h. inl h }

-- the first hulls of one part
pub of_one_part : (rest block : List Hull) (count : ℕ) → block ≡ take count rest → count ≤ length rest → ((i : ℕ) (d : Hull) → i < count → (get_or rest i d).part ≡ (get_or rest 0 d).part)
    → (a b : Hull) → Contains block a → Contains block b → a.part ≡ b.part
of_one_part rest block count is within alike a b in_a in_b =
    own a in_a ∙ ap (λ (h : Hull). h.part) (get_or_default rest 0 a b (some a in_a)) ∙ sym (own b in_b)
  where
    long : length (take count rest) ≡ count
    long = length-take-le count rest within

    place : (h : Hull) → (there : Contains block h) → there.0 < count
    place h there = omega (arith, long, ap (λ (hs : List Hull). length hs) is, there.1)

    some : (h : Hull) → Contains block h → 0 < length rest
    some h there = omega (arith, place h there)

    own : (h : Hull) → Contains block h → h.part ≡ (get_or rest 0 h).part
    own h there = ap (λ (z : Hull). z.part) (sym there.2 ∙ ap (λ (hs : List Hull). get_or hs there.0 h) is ∙ get_or-take count rest there.0 h (place h there)) ∙ alike there.0 h (place h there)

module _ (from : ℕ) (done block : List Hull) (active : Active) (alike : (a b : Hull) → Contains block a → Contains block b → a.part ≡ b.part) (up : IsNonDecreasingBy (λ hull. hull.low) (done ++ block))
    (live : (hull later : Hull) → Contains done hull → Contains block later → IsActive active hull ⊎ (hull.high < later.low)) (seen : (hull : Hull) → IsActive active hull → Contains done hull) where
  -- what meets a hull of the block is active
  meets : (a b : Hull) (pair : ℕ × ℕ) → Contains done a → Contains block b → (b.part ≡ a.part → ⊥) → b.low ≤ a.high → from ≤ b.low → IsLinesOf b.run.now a.run.now pair → OneHas (λ hull. IsReachedPair from hull active) block pair
  meets a b pair in_a in_b apart long late lines = record {
    one = b;
    listed = in_b;
    has = record {
      two = record { late = late; other = a; among = elim (live a b in_a in_b) [ inl still ↦ still | inr ends ↦ absurd (omega (arith, ends, long)) ]; lines = record { apart = apart; lines = lines } };
      meets = long;
    };
  }

  parts : (pair : ℕ × ℕ) → IsMetPair from (OneHas IsHullOf (done ++ block)) pair → IsMetPair from (OneHas IsHullOf done) pair ⊎ OneHas (λ hull. IsReachedPair from hull active) block pair
  parts pair h =
      let two = to_two from (done ++ block) pair h in
      elim (Contains-append_cases done block two.a two.a_in) [
        | inl a_old ↦ elim (Contains-append_cases done block two.b two.b_in) [
          | inl b_old ↦ inl (from_two from done pair (record { a = two.a; b = two.b; a_in = a_old; b_in = b_old; apart = two.apart; begins = two.begins; meets = two.meets; late = two.late; lines = two.lines }))
          | inr b_new ↦ inr (meets two.a two.b pair a_old b_new (λ e. two.apart (sym e)) two.meets two.late (IsLinesOf-sym two.a.run.now two.b.run.now pair two.lines))
        ]
        | inr a_new ↦ elim (Contains-append_cases done block two.b two.b_in) [
          | inl b_old ↦
              let wide = two.b.ordered in
              let earlier = in_order done block two.b two.a up b_old a_new in
              let begins = two.begins in
              let late = two.late in
              inr (meets two.b two.a pair b_old a_new two.apart (omega (arith, wide, begins)) (omega (arith, earlier, begins, late)) two.lines)
          | inr b_new ↦ absurd (two.apart (alike two.a two.b a_new b_new))
        ]
      ]

  found : (pair : ℕ × ℕ) → OneHas (λ hull. IsReachedPair from hull active) block pair → IsMetPair from (OneHas IsHullOf (done ++ block)) pair
  found pair h =
      let other = h.has.two.other in
      let listed = seen other h.has.two.among in
      from_two from (done ++ block) pair (record {
        a = other;
        b = h.one;
        a_in = Contains-append_left done block other listed;
        b_in = Contains-append_right done block h.one h.listed;
        apart = λ e. h.has.two.lines.apart (sym e);
        begins = in_order done block other h.one up listed h.listed;
        meets = h.has.meets;
        late = h.has.two.late;
        lines = IsLinesOf-sym h.one.run.now other.run.now pair h.has.two.lines.lines;
      })

  earlier : (pair : ℕ × ℕ) → IsMetPair from (OneHas IsHullOf done) pair → IsMetPair from (OneHas IsHullOf (done ++ block)) pair
  earlier pair h = met_within from (OneHas IsHullOf done) (OneHas IsHullOf (done ++ block)) pair
      (λ reach one. record { one = one.one; listed = Contains-append_left done block one.one one.listed; has = one.has }) h

  swept : (k0 k1 k2 : List (ℕ × ℕ)) → AddsPairs k0 k1 (IsMetPair from (OneHas IsHullOf done)) → AddsPairs k1 k2 (OneHas (λ hull. IsReachedPair from hull active) block) → AddsPairs k0 k2 (IsMetPair from (OneHas IsHullOf (done ++ block)))
  swept k0 k1 k2 first then = AddsPairs-both k0 k1 k2 (IsMetPair from (OneHas IsHullOf done)) (OneHas (λ hull. IsReachedPair from hull active) block) (IsMetPair from (OneHas IsHullOf (done ++ block))) first then earlier found parts

module _ (from : ℕ) (hulls rest block later : List Hull) (up : IsNonDecreasingBy (λ hull. hull.low) hulls) (k0 k1 k2 : List (ℕ × ℕ)) (a0 a1 a2 : Active) (so_far : IsSwept from hulls rest k0 k1 a0) (whole : rest ≡ block ++ later) where
  abbrev done : List Hull
  done = so_far.done

  all : hulls ≡ done ++ (block ++ later)
  all = so_far.split ∙ ap (λ (hs : List Hull). done ++ hs) whole

  next : hulls ≡ (done ++ block) ++ later
  next = all ∙ sym (append_assoc done block later)

  ups : IsNonDecreasingBy (λ hull. hull.low) ((done ++ block) ++ later)
  ups = subst (λ (hs : List Hull). IsNonDecreasingBy (λ hull. hull.low) hs) next up

  pub block_rises : IsNonDecreasingBy (λ hull. hull.low) block
  block_rises = rises_right done block (rises_left (done ++ block) later ups)

  rest_has : (hull : Hull) → Contains (block ++ later) hull → Contains rest hull
  rest_has hull h = subst (λ (hs : List Hull). Contains hs hull) (sym whole) h

  pub swept_more : ((a b : Hull) → Contains block a → Contains block b → a.part ≡ b.part) → DropsOnlyEnded block a0 a1 → AddsPairs k1 k2 (OneHas (λ hull. IsReachedPair from hull a0) block) → OpensHulls block later a1 a2 → IsSwept from hulls later k0 k2 a2
  swept_more alike settles adds puts = record {
    done = done ++ block;
    split = next;
    adds = swept from done block a0 alike (rises_left (done ++ block) later ups) (λ hull other h inside. so_far.opened.others hull other h (rest_has other (Contains-append_left block later other inside))) so_far.opened.seen k0 k1 k2 so_far.adds adds;
    opened = record {
      seen = λ hull h. elim (puts.only hull h) [
        | inl was ↦ Contains-append_left done block hull (so_far.opened.seen hull (settles.only hull was))
        | inr own ↦ Contains-append_right done block hull own
      ];
      others = λ hull other h inside. elim (Contains-append_cases done block hull h) [
        | inl old ↦ elim (so_far.opened.others hull other old (rest_has other (Contains-append_right block later other inside))) [
          | inl still ↦ elim (cases_order hull.high other.low) [
            | inr (inl less) ↦ inr less
            | inl same ↦ inl (puts.kept hull (settles.kept hull other.low still (omega arith) (λ x there. in_order (done ++ block) later x other ups (Contains-append_right done block x there) inside)))
            | inr (inr above) ↦ inl (puts.kept hull (settles.kept hull other.low still (omega arith) (λ x there. in_order (done ++ block) later x other ups (Contains-append_right done block x there) inside)))
          ]
          | inr ends ↦ inr ends
        ]
        | inr own ↦ puts.own hull other own inside
      ];
      kinds = puts.kinds;
    };
  }

-- all of them
pub swept_all : (from : ℕ) (hulls : List Hull) (start : ℕ) (old new : List (ℕ × ℕ)) (active : Active) → start ≡ length hulls → IsSwept from hulls (drop start hulls) old new active → AddsPairs old new (IsMetPair from (OneHas IsHullOf hulls))
swept_all from hulls start old new active past so_far =
    let none : drop start hulls ≡ [] = ap (λ (n : ℕ). drop n hulls) past ∙ drop-length hulls in
    subst (λ (hs : List Hull). AddsPairs old new (IsMetPair from (OneHas IsHullOf hs))) (sym (so_far.split ∙ ap (λ (hs : List Hull). so_far.done ++ hs) none ∙ append-nil so_far.done)) so_far.adds

-- what two hulls of different parts add
pub of_hulls : (old new : List (ℕ × ℕ)) (a b : Hull) → (a.part ≡ b.part → ⊥) → AddsPairs old new (IsRunPair a.run.now (b.run.now ∷ [])) → AddsPairs old new (IsHullPair a b)
of_hulls old new a b apart adds = AddsPairs-same old new (IsRunPair a.run.now (b.run.now ∷ [])) (IsHullPair a b)
    (λ p h. elim (OneHas-cons (IsLinesOf a.run.now) b.run.now [] p h) [ inl lines ↦ record { apart = apart; lines = lines } | inr none ↦ absurd (not_in_nothing none.one none.listed) ])
    (λ p h. OneHas-first (IsLinesOf a.run.now) b.run.now [] p h.lines) adds
