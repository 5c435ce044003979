-- One lane goes to another stage, and all that the rule says of the others stays.
use Rattle.std.proofs.Common.{◌≡◌, ◌≢◌, ℕ, zero, suc, ◌+◌, ◌<◌, ◌≤◌, Bool, true, false, List, [], ◌∷◌, length, get_or, set, eqb, Option, inl, inr, refl, sym, ap, ◌∙◌, subst, arith, length-set, get_or-set_other, get_or-set_same, eq-eqb, ne_eqb}
use mathlib.Core.Logic.{dite}
use mathlib.Core.Option.{some, some-ne-none}
use mathlib.Core.Option as maybe
use native.Mathlib.Decide.{ℕ_discrete}
use lib.ListN.{get_elem?}
use lib.Seq.{set-get_or}
use Rattle.atomic_table.specs.Table.{State}
use Rattle.atomic_table.proofs.Lists.{at_set, set_again, set_else, set_here}
use Rattle.hand_over.specs.declared.view.View.{View}
use Rattle.hand_over.specs.Stages.{Stage, Resting, Ended, word_of, home_of, turn_of, took_of, is_filling, IsSound}
use Rattle.hand_over.specs.Views.{turn_at, is_opened}
use Rattle.hand_over.specs.Rule.{Kept, Knows, KnowsLane, KnowsLanes}

module _ {X : Type 0} where
  abbrev chosen : Bool → X → X → X
  chosen true x y = x
  chosen false x y = y

  -- the same but at one number
  pub put : (ℕ → X) → ℕ → X → ℕ → X
  put f i x j = chosen (eqb j i) x (f j)

  pub put_here : (f : ℕ → X) (i : ℕ) (x : X) → put f i x i ≡ x
  unfolding put
  put_here f i x = ap (λ (b : Bool). chosen b x (f i)) (eq-eqb i i refl)

  pub put_else : (f : ℕ → X) (i : ℕ) (x : X) (j : ℕ) → j ≢ i → put f i x j ≡ f j
  unfolding put
  put_else f i x j other = ap (λ (b : Bool). chosen b x (f j)) (ne_eqb j i other)

  pub at_put : (F : ℕ → X → Type 0) (f : ℕ → X) (i : ℕ) (x : X) → F i x → ((j : ℕ) → j ≢ i → F j (f j)) → (j : ℕ) → F j (put f i x j)
  at_put F f i x here else j = dite (ℕ_discrete j i)
      (λ same. subst (λ (k : ℕ). F k (put f i x k)) (sym same) (subst (F i) (sym (put_here f i x)) here))
      (λ other. subst (F j) (sym (put_else f i x j other)) (else j other))

below_length : {X : Type 0} (xs : List X) (k : ℕ) (x : X) → get_elem? xs k ≡ some x → k < length xs
below_length [] k x h = absurd (some-ne-none x (sym h))
below_length (y ∷ ys) zero x h = omega arith
below_length (y ∷ ys) (suc k) x h = let rest : k < length ys = below_length ys k x h in omega arith

abbrev pub Homes : Type 0 → Type 0
Homes P = List (maybe.Option (Option P))

-- the slots differ in this lane's alone
pub record IsSlot {P : Type 0} (lane : ℕ) (slot : maybe.Option (Option P)) (old new : Homes P) : Type 0 where
  pub deep : length new ≡ length old
  pub here : get_elem? new lane ≡ some slot
  pub else : (other : ℕ) → other ≢ lane → get_elem? new other ≡ get_elem? old other

pub slot_set : {P : Type 0} (homes : Homes P) (lane : ℕ) (slot : maybe.Option (Option P)) → lane < length homes → IsSlot lane slot homes (set homes lane slot)
slot_set homes lane slot inside = record { deep = length-set homes lane slot; here = set_here homes lane slot inside; else = λ other apart. set_else homes lane other slot apart }

pub slot_same : {P : Type 0} (homes : Homes P) (lane : ℕ) (slot : maybe.Option (Option P)) → get_elem? homes lane ≡ some slot → IsSlot lane slot homes homes
slot_same homes lane slot at = record { deep = refl; here = at; else = λ other apart. refl }

-- what the desk knows after its step
pub record DeskMoves {A P : Type 0} (v w : View A P) (lane : ℕ) (old new : Stage P) : Type 0 where
  pub made : lane < length v.turns
  pub took : took_of old ≡ took_of new
  pub going : old ≡ Ended → ⊥
  pub is_desk : w.is_desk ≡ true
  pub told : w.about ≡ v.about
  pub counted : length w.turns ≡ length v.turns
  pub turn_here : turn_at w.turns lane ≡ turn_of new
  pub turn_else : (other : ℕ) → other ≢ lane → turn_at w.turns other ≡ turn_at v.turns other
  pub open_here : is_opened w.opened lane ≡ is_filling new
  pub open_else : (other : ℕ) → other ≢ lane → is_opened w.opened other ≡ is_opened v.opened other

-- what a place knows after its step
pub record PlaceMoves {A P : Type 0} (v w : View A P) (old new : Stage P) : Type 0 where
  pub turn : turn_of old ≡ turn_of new
  pub filling : is_filling old ≡ is_filling new
  pub isnt_desk : w.is_desk ≡ false
  pub told : w.about ≡ v.about
  pub own : w.lane ≡ v.lane
  pub took : w.took ≡ took_of new
  pub closed : w.closed ≡ true → new ≡ Ended

module _ {A P : Type 0} (fits : A → P → Type 0) (follows : A → P → P → Type 0) (about : A) where
  abbrev pub Table : Type 0
  Table = State (Option P) (View A P)

  abbrev pub Rule : Table → Type 0
  Rule = Kept fits follows about

  advance : (s : Table) (r : Rule s) (id lane : ℕ) (t : Stage P) (homes : Homes P) (w : View A P) → lane < length s.homes → suc lane < r.count → IsSlot lane (home_of t) s.homes homes → IsSound fits follows about t
      → Knows about r.count (put r.stage lane t) id w
      → ((other : ℕ) (v : View A P) → other ≢ id → Knows about r.count r.stage other v → Knows about r.count (put r.stage lane t) other v)
      → Rule (record { words = set s.words lane (word_of t); homes = homes; views = set s.views id w })
  advance s r id lane t homes w inside made slot is_sound mine others = record {
    stage = put r.stage lane t;
    count = r.count;
    counted = length-set s.views id w ∙ r.counted;
    wide = length-set s.words lane (word_of t) ∙ (r.wide ∙ sym slot.deep);
    sound = at_put (λ j x. IsSound fits follows about x) r.stage lane t is_sound (λ j other. r.sound j);
    word = at_put (λ j x. j < length homes → get_or (set s.words lane (word_of t)) j 0 ≡ word_of x) r.stage lane t
        (λ within. get_or-set_same s.words lane (word_of t) 0 (let wide = r.wide in omega arith))
        (λ j other within. get_or-set_other s.words lane j (word_of t) 0 other ∙ r.word j (let deep = slot.deep in omega arith));
    home = at_put (λ j x. j < length homes → get_elem? homes j ≡ some (home_of x)) r.stage lane t
        (λ within. slot.here) (λ j other within. slot.else j other ∙ r.home j (let deep = slot.deep in omega arith));
    unmade = at_put (λ j x. r.count ≤ j + 1 → x ≡ Resting) r.stage lane t (λ few. absurd (omega arith)) (λ j other few. r.unmade j few);
    each = λ other v at. elim (at_set s.views id other w v at) [
      | inl same ↦ subst (λ (u : View A P). Knows about r.count (put r.stage lane t) other u) same.1 (subst (λ (k : ℕ). Knows about r.count (put r.stage lane t) k w) (sym same.0) mine)
      | inr differ ↦ others other v differ.0 (r.each other v differ.1)
    ];
  }

  -- a step that changes no lane
  pub unmoved : (s : Table) (r : Rule s) (id lane : ℕ) (v : View A P) → get_elem? s.views id ≡ some v → Rule (record { words = set s.words lane (get_or s.words lane 0); homes = s.homes; views = set s.views id v })
  unmoved s r id lane v at = subst (λ (ws : List ℕ). Rule (record { words = ws; homes = s.homes; views = set s.views id v })) (sym (set-get_or s.words lane 0))
      (subst (λ (vs : List (View A P)). Rule (record { words = s.words; homes = s.homes; views = vs })) (sym (set_again s.views id v at)) r)

  -- the desk is in seat 0
  pub desk_knows : (s : Table) (r : Rule s) (id : ℕ) (v : View A P) → get_elem? s.views id ≡ some v → v.is_desk ≡ true → (id ≡ 0) × KnowsLanes about r.count r.stage v
  desk_knows s r id v at is = by id (r.each id v at)
    where
      by : (k : ℕ) → Knows about r.count r.stage k v → (k ≡ 0) × KnowsLanes about r.count r.stage v
      by zero knows = (refl, knows)
      by (suc k) knows = absurd (let isnt : v.is_desk ≡ false = knows.isnt_desk in cc)

  -- a place is in the seat after its lane
  pub place_knows : (s : Table) (r : Rule s) (id : ℕ) (v : View A P) → get_elem? s.views id ≡ some v → v.is_desk ≡ false → (id ≡ suc v.lane) × KnowsLane about r.stage v.lane v
  place_knows s r id v at isnt = by id (r.each id v at)
    where
      by : (k : ℕ) → Knows about r.count r.stage k v → (k ≡ suc v.lane) × KnowsLane about r.stage v.lane v
      by zero knows = absurd (let is : v.is_desk ≡ true = knows.is_desk in cc)
      by (suc k) knows = (ap suc (sym knows.own), subst (λ (l : ℕ). KnowsLane about r.stage l v) (sym knows.own) knows)

  -- what a place knows stays where the desk moves a lane which its place took nothing of
  under_desk : (count : ℕ) (stage : ℕ → Stage P) (lane : ℕ) (t : Stage P) → took_of (stage lane) ≡ took_of t → (stage lane ≡ Ended → ⊥)
      → (other : ℕ) (v : View A P) → other ≢ 0 → Knows about count stage other v → Knows about count (put stage lane t) other v
  under_desk count stage lane t took going zero v differ knows = absurd (differ refl)
  under_desk count stage lane t took going (suc j) v differ knows = record {
    isnt_desk = knows.isnt_desk;
    told = knows.told;
    own = knows.own;
    took = at_put (λ k x. k ≡ j → v.took ≡ took_of x) stage lane t (λ same. knows.took ∙ (ap (λ (k : ℕ). took_of (stage k)) (sym same) ∙ took)) (λ k other same. knows.took ∙ ap (λ (k : ℕ). took_of (stage k)) (sym same)) j refl;
    closed = at_put (λ k x. k ≡ j → v.closed ≡ true → x ≡ Ended) stage lane t (λ same is. absurd (going (ap stage same ∙ knows.closed is))) (λ k other same is. ap stage same ∙ knows.closed is) j refl;
  }

  -- what the desk and the other places know stays where a place moves its lane
  under_place : (count : ℕ) (stage : ℕ → Stage P) (lane : ℕ) (t : Stage P) → turn_of (stage lane) ≡ turn_of t → is_filling (stage lane) ≡ is_filling t
      → (other : ℕ) (v : View A P) → other ≢ suc lane → Knows about count stage other v → Knows about count (put stage lane t) other v
  under_place count stage lane t turn filling zero v differ knows = record {
    is_desk = knows.is_desk;
    told = knows.told;
    counted = knows.counted;
    turns = at_put (λ k x. k < length v.turns → turn_at v.turns k ≡ turn_of x) stage lane t (λ within. knows.turns lane within ∙ turn) (λ k other within. knows.turns k within);
    opened = at_put (λ k x. is_opened v.opened k ≡ is_filling x) stage lane t (knows.opened lane ∙ filling) (λ k other. knows.opened k);
  }
  under_place count stage lane t turn filling (suc j) v differ knows =
      let apart : j ≢ lane = λ same. differ (ap suc same) in
      let still : put stage lane t j ≡ stage j = put_else stage lane t j apart in
      record { isnt_desk = knows.isnt_desk; told = knows.told; own = knows.own; took = knows.took ∙ ap took_of (sym still); closed = λ is. still ∙ knows.closed is }

  pub desk_step : (s : Table) (r : Rule s) (id lane : ℕ) (v w : View A P) (t : Stage P) (homes : Homes P) → get_elem? s.views id ≡ some v → v.is_desk ≡ true → lane < length s.homes
      → IsSlot lane (home_of t) s.homes homes → IsSound fits follows about t → DeskMoves v w lane (r.stage lane) t
      → Rule (record { words = set s.words lane (word_of t); homes = homes; views = set s.views id w })
  desk_step s r id lane v w t homes at is inside slot is_sound moves =
      let (seat, knows) = desk_knows s r id v at is in
      let made : suc lane < r.count = (let made = moves.made in let counted = knows.counted in omega arith) in
      subst (λ (k : ℕ). Rule (record { words = set s.words lane (word_of t); homes = homes; views = set s.views k w })) (sym seat)
      (advance s r 0 lane t homes w inside made slot is_sound (record {
        is_desk = moves.is_desk;
        told = moves.told ∙ knows.told;
        counted = ap suc moves.counted ∙ knows.counted;
        turns = at_put (λ k x. k < length w.turns → turn_at w.turns k ≡ turn_of x) r.stage lane t (λ within. moves.turn_here)
            (λ k other within. moves.turn_else k other ∙ knows.turns k (let counted = moves.counted in omega arith));
        opened = at_put (λ k x. is_opened w.opened k ≡ is_filling x) r.stage lane t moves.open_here (λ k other. moves.open_else k other ∙ knows.opened k);
      }) (under_desk r.count r.stage lane t moves.took moves.going))

  pub place_step : (s : Table) (r : Rule s) (id lane : ℕ) (v w : View A P) (t : Stage P) (homes : Homes P) → get_elem? s.views id ≡ some v → v.is_desk ≡ false → v.lane ≡ lane → lane < length s.homes
      → IsSlot lane (home_of t) s.homes homes → IsSound fits follows about t → PlaceMoves v w (r.stage lane) t
      → Rule (record { words = set s.words lane (word_of t); homes = homes; views = set s.views id w })
  place_step s r id lane v w t homes at isnt own inside slot is_sound moves =
      let (seat, knows) = place_knows s r id v at isnt in
      let here : id ≡ suc lane = seat ∙ ap suc own in
      advance s r id lane t homes w inside (made here) slot is_sound
      (subst (λ (k : ℕ). Knows about r.count (put r.stage lane t) k w) (sym here) (record {
        isnt_desk = moves.isnt_desk;
        told = moves.told ∙ knows.told;
        own = moves.own ∙ own;
        took = moves.took ∙ ap took_of (sym (put_here r.stage lane t));
        closed = λ is. put_here r.stage lane t ∙ moves.closed is;
      }))
      (λ other u differ k. under_place r.count r.stage lane t moves.turn moves.filling other u (λ same. differ (same ∙ sym here)) k)
    where
      made : id ≡ suc lane → suc lane < r.count
      made here = subst (λ (k : ℕ). k < r.count) here (let counted = r.counted in let below = below_length s.views id v at in omega arith)
