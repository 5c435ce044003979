-- The table at the start, and one more place.
use Rattle.std.proofs.Common.{◌≡◌, ◌≢◌, ◌⊎◌, ℕ, zero, suc, ◌+◌, ◌<◌, ◌≤◌, true, List, [], ◌∷◌, ◌++◌, map, length, replicate, get_or, set, Option, None, inl, inr, refl, sym, ap, ◌∙◌, subst, arith, length-set, length-append}
use mathlib.Core.Option.{some, some-injective, some-ne-none}
use Rattle.std.proofs.lemmas.Bool.{cases_order}
use lib.ListN.{get_elem?, length-map, length-replicate, get_or-append, get_or-replicate}
use lib.Seq.{get_or-append_seam}
use Rattle.atomic_table.specs.Table.{Splits, opening}
use Rattle.atomic_table.proofs.Lists.{at_set}
use Rattle.hand_over.specs.declared.view.Turn.{Turn}
use Rattle.hand_over.specs.declared.view.Turn.TheVariants.{Idle}
use Rattle.hand_over.specs.declared.view.View.{View}
use Rattle.hand_over.specs.Rule.{Knows, KnowsLane, KnowsLanes}
use Rattle.hand_over.specs.Stages.{Resting, turn_of, took_of}
use Rattle.hand_over.specs.Views.{first_view, idle_view, next_place, turn_at, with_lane}
use Rattle.hand_over.proofs.Stepping.{Rule, desk_knows}

all_none : {P : Type 0} (count i : ℕ) → i < count → get_elem? (map some (replicate {A = Option P} count None)) i ≡ some (some None)
all_none zero i h = absurd (omega arith)
all_none (suc count) zero h = refl
all_none (suc count) (suc i) h = all_none count i (omega arith)

at_end : {X : Type 0} (xs : List X) (x y : X) (i : ℕ) → get_elem? (xs ++ x ∷ []) i ≡ some y → (get_elem? xs i ≡ some y) ⊎ ((i ≡ length xs) × (x ≡ y))
at_end [] x y zero e = inr (refl, some-injective x y e)
at_end [] x y (suc i) e = absurd (some-ne-none y (sym e))
at_end (z ∷ zs) x y zero e = inl e
at_end (z ∷ zs) x y (suc i) e = elim (at_end zs x y i e) [ inl old ↦ inl old | inr (last, same) ↦ inr (ap suc last, same) ]

idle_grows : {P : Type 0} (lanes : ℕ) → replicate {A = Turn P} lanes Idle ++ Idle ∷ [] ≡ replicate (suc lanes) Idle
idle_grows zero = refl
idle_grows {P} (suc lanes) = ap (λ (ts : List (Turn P)). Idle ∷ ts) (idle_grows lanes)

-- the desk with one more lane
pub one_more : {A P : Type 0} (about : A) (lanes : ℕ) → with_lane (idle_view {P = P} about lanes) ≡ idle_view about (lanes + 1)
one_more {A} {P} about lanes =
    let count : suc lanes ≡ lanes + 1 = omega arith in
    let turns : replicate {A = Turn P} lanes Idle ++ Idle ∷ [] ≡ replicate (lanes + 1) Idle = idle_grows lanes ∙ ap (λ (n : ℕ). replicate {A = Turn P} n Idle) count in
    ap (λ (ts : List (Turn P)). let v : View A P = record (idle_view about lanes) { turns = ts } in v) turns

-- each of the places so far is its lane's, and so is one more
pub more_places : {X : Type 0} (lanes : ℕ) (xs ys : List X) (x : X) (due : ℕ → X) → length xs ≡ lanes → ys ≡ xs ++ x ∷ [] → x ≡ due lanes → ((lane : ℕ) (d : X) → lane < lanes → get_or xs lane d ≡ due lane)
    → (lane : ℕ) (d : X) → lane < lanes + 1 → get_or ys lane d ≡ due lane
more_places {X} lanes xs ys x due count is last before lane d within = ap (λ (zs : List X). get_or zs lane d) is ∙ elim (cases_order lane lanes) [
  | inl same ↦ ap (λ (n : ℕ). get_or (xs ++ x ∷ []) n d) (same ∙ sym count) ∙ (get_or-append_seam xs x [] d ∙ (last ∙ ap due (sym same)))
  | inr (inl less) ↦ get_or-append xs (x ∷ []) d lane (omega arith) ∙ before lane d less
  | inr (inr above) ↦ absurd (omega arith)
]

turn_before : {P : Type 0} (turns : List (Turn P)) (lane : ℕ) → lane < length turns → turn_at (turns ++ Idle ∷ []) lane ≡ turn_at turns lane
turn_before [] lane h = absurd (omega arith)
turn_before (t ∷ turns) zero h = refl
turn_before (t ∷ turns) (suc lane) h = turn_before turns lane (omega arith)

turn_last : {P : Type 0} (turns : List (Turn P)) (lane : ℕ) → lane ≡ length turns → turn_at (turns ++ Idle ∷ []) lane ≡ Idle
turn_last [] zero h = refl
turn_last [] (suc lane) h = absurd (omega arith)
turn_last (t ∷ turns) zero h = absurd (omega arith)
turn_last (t ∷ turns) (suc lane) h = turn_last turns lane (omega arith)

module _ {A P : Type 0} (fits : A → P → Type 0) (follows : A → P → P → Type 0) (about : A) where
  pub starts : (lanes : ℕ) (words : List ℕ) → words ≡ replicate lanes 0 → Rule fits follows about (opening words (replicate lanes None) (first_view about))
  starts lanes words blank = record {
    stage = λ lane. Resting;
    count = 1;
    counted = refl;
    wide = ap length blank ∙ (length-replicate lanes 0 ∙ sym homes);
    sound = λ lane. tt;
    word = λ lane within. ap (λ (ws : List ℕ). get_or ws lane 0) blank ∙ get_or-replicate lanes lane 0 0 (subst (λ (n : ℕ). lane < n) homes within);
    home = λ lane within. all_none lanes lane (subst (λ (n : ℕ). lane < n) homes within);
    unmade = λ lane late. refl;
    each = λ id v at. first id v at;
  } where
    homes : length (map some (replicate {A = Option P} lanes None)) ≡ lanes
    homes = length-map (replicate lanes None) (λ (x : Option P). some x) ∙ length-replicate lanes None

    first : (id : ℕ) (v : View A P) → get_elem? (first_view about ∷ []) id ≡ some v → Knows about 1 (λ lane. Resting) id v
    first zero v at = subst (λ (u : View A P). KnowsLanes about 1 (λ lane. Resting) u) (some-injective _ v at) (record {
      is_desk = refl;
      told = refl;
      counted = refl;
      turns = λ lane within. absurd (omega arith);
      opened = λ lane. refl;
    })
    first (suc id) v at = absurd (some-ne-none v (sym at))

  -- the place of the desk's next lane
  pub adds_allowed : (id : ℕ) (v : View A P) → v.is_desk ≡ true → Splits (Rule fits follows about) id v (with_lane v) (next_place v)
  adds_allowed id v is s r at = record {
    stage = r.stage;
    count = suc r.count;
    counted = length-append (set s.views id (with_lane v)) (next_place v ∷ []) ∙ (let many : length (set s.views id (with_lane v)) ≡ r.count = length-set s.views id (with_lane v) ∙ r.counted in omega arith);
    wide = r.wide;
    sound = r.sound;
    word = r.word;
    home = r.home;
    unmade = λ lane late. r.unmade lane (omega arith);
    each = λ other u there. elim (at_end (set s.views id (with_lane v)) (next_place v) u other there) [
      | inl old ↦ elim (at_set s.views id other (with_lane v) u old) [
        | inl same ↦ subst (λ (x : View A P). Knows about (suc r.count) r.stage other x) same.1 (subst (λ (k : ℕ). Knows about (suc r.count) r.stage k (with_lane v)) (sym (same.0 ∙ mine.0)) desk)
        | inr differ ↦ others other u (λ e. differ.0 (e ∙ sym mine.0)) (r.each other u differ.1)
      ]
      | inr last ↦ subst (λ (x : View A P). Knows about (suc r.count) r.stage other x) last.1
          (subst (λ (k : ℕ). Knows about (suc r.count) r.stage k (next_place v)) (sym (last.0 ∙ (length-set s.views id (with_lane v) ∙ (r.counted ∙ sym mine.1.counted)))) place)
    ];
  } where
    mine : (id ≡ 0) × KnowsLanes about r.count r.stage v
    mine = desk_knows fits follows about s r id v at is

    rests : (lane : ℕ) → length v.turns ≤ lane → r.stage lane ≡ Resting
    rests lane late = r.unmade lane (let counted = mine.1.counted in omega arith)

    turn : (lane : ℕ) → (lane < length v.turns) ⊎ (lane ≡ length v.turns) → turn_at (v.turns ++ Idle ∷ []) lane ≡ turn_of (r.stage lane)
    turn lane (inl before) = turn_before v.turns lane before ∙ mine.1.turns lane before
    turn lane (inr last) = turn_last v.turns lane last ∙ ap turn_of (sym (rests lane (omega arith)))

    which : (lane : ℕ) → lane < length (v.turns ++ Idle ∷ []) → (lane < length v.turns) ⊎ (lane ≡ length v.turns)
    which lane within = elim (cases_order lane (length v.turns)) [
      | inl same ↦ inr same
      | inr (inl less) ↦ inl less
      | inr (inr above) ↦ absurd (let one : length (v.turns ++ Idle ∷ []) ≡ length v.turns + 1 = length-append v.turns (Idle ∷ []) in omega arith)
    ]

    desk : KnowsLanes about (suc r.count) r.stage (with_lane v)
    desk = record {
      is_desk = is;
      told = mine.1.told;
      counted = ap suc (length-append v.turns (Idle ∷ [])) ∙ (let counted = mine.1.counted in omega arith);
      turns = λ lane within. turn lane (which lane within);
      opened = mine.1.opened;
    }

    place : KnowsLane about r.stage (length v.turns) (next_place v)
    place = record { isnt_desk = refl; told = mine.1.told; own = refl; took = ap took_of (sym (rests (length v.turns) (omega arith))); closed = λ e. cc }

    others : (other : ℕ) (u : View A P) → other ≢ 0 → Knows about r.count r.stage other u → Knows about (suc r.count) r.stage other u
    others zero u apart knows = absurd (apart refl)
    others (suc lane) u apart knows = knows
