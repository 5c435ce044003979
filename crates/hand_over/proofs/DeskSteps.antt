-- Each step of the desk keeps the rule.
use Rattle.std.proofs.Common.{◌≡◌, ◌≢◌, ℕ, zero, suc, ◌<◌, true, false, List, [], ◌∷◌, length, get_or, set, Option, Some, None, refl, sym, ap, ◌∙◌, subst, arith, length-set, get_or-set_other, get_or-set_same, eq-eqb, ne_eqb}
use mathlib.Core.Option.{none, some}
use Rattle.atomic_table.specs.Table.{Act, Allows, Me, Valid, carried_after, gives, keeps, step, stepped, takes}
use Rattle.hand_over.specs.declared.view.Turn.{Turn}
use Rattle.hand_over.specs.declared.view.Turn.TheVariants.{Idle, Out, Closed}
use Rattle.hand_over.specs.declared.view.View.{View}
use Rattle.hand_over.specs.Stages.{Stage, Resting, Filling, Sent, Taken, Back, Ended, word_of, home_of, turn_of, took_of, is_filling, IsSound}
use Rattle.hand_over.specs.Rule.{KnowsLanes}
use Rattle.hand_over.specs.Steps.{ends, frees, looks, opens, sends}
use Rattle.hand_over.specs.Views.{emptying_lane, is_opened, opening_lane, turn_at, with_turn_of}
use Rattle.hand_over.proofs.Stepping.{Rule, desk_knows, desk_step, slot_same, slot_set, unmoved}

module _ {P : Type 0} where
  resting_of : (t : Stage P) → turn_of t ≡ Idle → is_filling t ≡ false → t ≡ Resting
  resting_of Resting idle empty = refl
  resting_of Filling idle empty = cc
  resting_of (Sent p) idle empty = cc
  resting_of (Taken p) idle empty = cc
  resting_of (Back p q) idle empty = cc
  resting_of Ended idle empty = cc

  filling_of : (t : Stage P) → is_filling t ≡ true → t ≡ Filling
  filling_of Resting full = cc
  filling_of Filling full = refl
  filling_of (Sent p) full = cc
  filling_of (Taken p) full = cc
  filling_of (Back p q) full = cc
  filling_of Ended full = cc

  -- a lane that isn't closed is there
  made_of : (turns : List (Turn P)) (lane : ℕ) → (turn_at turns lane ≡ Closed → ⊥) → lane < length turns
  made_of [] lane never = absurd (never refl)
  made_of (t ∷ turns) zero never = omega arith
  made_of (t ∷ turns) (suc lane) never = let rest : lane < length turns = made_of turns lane never in omega arith

  pub idle_made : (turns : List (Turn P)) (lane : ℕ) → turn_at turns lane ≡ Idle → lane < length turns
  idle_made turns lane idle = made_of turns lane (λ closed. let clash : Idle ≡ Closed = sym idle ∙ closed in cc)

  pub out_made : (turns : List (Turn P)) (lane : ℕ) (sent : P) → turn_at turns lane ≡ Out sent → lane < length turns
  out_made turns lane sent out = made_of turns lane (λ closed. let clash : Out sent ≡ Closed = sym out ∙ closed in cc)

  abbrev parcel_of : P → List (ℕ × Option P) → P
  parcel_of d [] = d
  parcel_of d ((lane, None) ∷ rest) = d
  parcel_of d ((lane, Some parcel) ∷ rest) = parcel

  abbrev sent_of : P → Turn P → P
  sent_of d Idle = d
  sent_of d (Out sent) = sent
  sent_of d Closed = d

opened_here : (opened : Option ℕ) (lane : ℕ) → opened ≡ Some lane → is_opened opened lane ≡ true
opened_here opened lane is = ap (λ (o : Option ℕ). is_opened o lane) is ∙ eq-eqb lane lane refl

opened_else : (opened : Option ℕ) (lane other : ℕ) → opened ≡ Some lane → other ≢ lane → is_opened opened other ≡ false
opened_else opened lane other is apart = ap (λ (o : Option ℕ). is_opened o other) is ∙ ne_eqb other lane apart

opened_none : (opened : Option ℕ) (lane : ℕ) → opened ≡ None → is_opened opened lane ≡ false
opened_none opened lane is = ap (λ (o : Option ℕ). is_opened o lane) is

module _ {A P : Type 0} (fits : A → P → Type 0) (follows : A → P → P → Type 0) (about : A) (slots id lane : ℕ) (inside : lane < slots) where
  -- at an idle lane the desk may take the slot
  pub opens_allowed : (me : Me (Option P) (View A P)) → me.0.is_desk ≡ true → me.0.opened ≡ None → turn_at me.0.turns lane ≡ Idle
      → Allows (Rule fits follows about) slots id me lane (λ n. n) (opens (step slots lane 0 0 none) me)
  opens_allowed me is closed idle s r deep at small =
      let v = me.0 in
      let (seat, knows) = desk_knows fits follows about s r id v at is in
      let made : lane < length v.turns = idle_made v.turns lane idle in
      let rests : r.stage lane ≡ Resting = resting_of (r.stage lane) (sym (knows.turns lane made) ∙ idle) (sym (knows.opened lane) ∙ opened_none v.opened lane closed) in
      let here : lane < length s.homes = omega arith in
      let word : get_or s.words lane 0 ≡ 0 = r.word lane here ∙ ap word_of rests in (
        opening_lane v lane,
        takes lane None,
        r.home lane here ∙ ap (λ (t : Stage P). some (home_of t)) rests,
        subst (λ (n : ℕ). Rule fits follows about (record { words = set s.words lane n; homes = set s.homes lane none; views = set s.views id (opening_lane v lane) })) (sym word)
            (desk_step fits follows about s r id lane v (opening_lane v lane) Filling (set s.homes lane none) at is here (slot_set s.homes lane none here) tt (record {
              made = made;
              took = ap took_of rests;
              going = λ e. let clash : Resting ≡ Ended = sym rests ∙ e in cc;
              is_desk = is;
              told = refl;
              counted = refl;
              turn_here = idle;
              turn_else = λ other apart. refl;
              open_here = eq-eqb lane lane refl;
              open_else = λ other apart. ne_eqb other lane apart ∙ sym (opened_none v.opened other closed);
            })),
        refl,
      )

  -- a slot with a parcel that fits may go back
  pub sends_allowed : (v : View A P) (me : Me (Option P) (View A P)) (parcel : P) → v.is_desk ≡ true → turn_at v.turns lane ≡ Idle → fits v.about parcel → me ≡ (opening_lane v lane, (lane, Some parcel) ∷ [])
      → Allows (Rule fits follows about) slots id me lane (λ _. 1) (λ _. sends (step slots lane 1 0 none) me 1)
  sends_allowed v me parcel is idle fit are = subst (λ (m : Me (Option P) (View A P)). Allows (Rule fits follows about) slots id m lane (λ _. 1) (λ _. sends (step slots lane 1 0 none) m 1)) (sym are) (with_slot (opening_lane v lane) is refl idle fit)
    where
      with_slot : (v : View A P) → v.is_desk ≡ true → v.opened ≡ Some lane → turn_at v.turns lane ≡ Idle → fits v.about parcel
          → Allows (Rule fits follows about) slots id (v, (lane, Some parcel) ∷ []) lane (λ _. 1) (λ _. sends (step slots lane 1 0 none) (v, (lane, Some parcel) ∷ []) 1)
      with_slot v is opened idle fit s r deep at small =
          let w : View A P = with_turn_of v lane (Out parcel) in
          let (seat, knows) = desk_knows fits follows about s r id v at is in
          let made : lane < length v.turns = idle_made v.turns lane idle in
          let fills : r.stage lane ≡ Filling = filling_of (r.stage lane) (sym (knows.opened lane) ∙ opened_here v.opened lane opened) in
          let here : lane < length s.homes = omega arith in (
            w,
            gives,
            tt,
            desk_step fits follows about s r id lane v w (Sent parcel) (set s.homes lane (some (Some parcel))) at is here (slot_set s.homes lane (some (Some parcel)) here) (subst (λ (a : A). fits a parcel) knows.told fit) (record {
              made = made;
              took = ap took_of fills;
              going = λ e. let clash : Filling ≡ Ended = sym fills ∙ e in cc;
              is_desk = is;
              told = refl;
              counted = length-set v.turns lane (Out parcel);
              turn_here = get_or-set_same v.turns lane (Out parcel) Closed made;
              turn_else = λ other apart. get_or-set_other v.turns lane other (Out parcel) Closed apart;
              open_here = refl;
              open_else = λ other apart. sym (opened_else v.opened lane other opened apart);
            }),
            (λ p same. ap (λ (q : P). (with_turn_of v lane (Out q), [])) (ap (parcel_of parcel) same)),
          )

  -- an empty slot may go back
  pub frees_allowed : (v : View A P) (me : Me (Option P) (View A P)) → v.is_desk ≡ true → lane < length v.turns → me ≡ (emptying_lane v lane, (lane, None) ∷ [])
      → Allows (Rule fits follows about) slots id me lane (λ n. n) (frees (step slots lane 0 0 none) me)
  frees_allowed v me is made are = subst (λ (m : Me (Option P) (View A P)). Allows (Rule fits follows about) slots id m lane (λ n. n) (frees (step slots lane 0 0 none) m)) (sym are)
      (with_slot (emptying_lane v lane) is refl (get_or-set_same v.turns lane Idle Closed made))
    where
      with_slot : (v : View A P) → v.is_desk ≡ true → v.opened ≡ Some lane → turn_at v.turns lane ≡ Idle
          → Allows (Rule fits follows about) slots id (v, (lane, None) ∷ []) lane (λ n. n) (frees (step slots lane 0 0 none) (v, (lane, None) ∷ []))
      with_slot v is opened idle s r deep at small =
          let w : View A P = record v { opened = None } in
          let (seat, knows) = desk_knows fits follows about s r id v at is in
          let fills : r.stage lane ≡ Filling = filling_of (r.stage lane) (sym (knows.opened lane) ∙ opened_here v.opened lane opened) in
          let here : lane < length s.homes = omega arith in
          let word : get_or s.words lane 0 ≡ 0 = r.word lane here ∙ ap word_of fills in (
            w,
            gives,
            tt,
            subst (λ (n : ℕ). Rule fits follows about (record { words = set s.words lane n; homes = set s.homes lane (some None); views = set s.views id w })) (sym word)
                (desk_step fits follows about s r id lane v w Resting (set s.homes lane (some None)) at is here (slot_set s.homes lane (some None) here) tt (record {
                  made = idle_made v.turns lane idle;
                  took = ap took_of fills;
                  going = λ e. let clash : Filling ≡ Ended = sym fills ∙ e in cc;
                  is_desk = is;
                  told = refl;
                  counted = refl;
                  turn_here = idle;
                  turn_else = λ other apart. refl;
                  open_here = refl;
                  open_else = λ other apart. sym (opened_else v.opened lane other opened apart);
                })),
            refl,
          )

  -- an idle lane may be closed
  pub ends_allowed : (me : Me (Option P) (View A P)) → me.0.is_desk ≡ true → me.0.opened ≡ None → turn_at me.0.turns lane ≡ Idle
      → Allows (Rule fits follows about) slots id me lane (λ _. 2) (λ _. ends (step slots lane 2 0 none) me 2)
  ends_allowed me is closed idle s r deep at small =
      let v = me.0 in
      let w : View A P = with_turn_of v lane Closed in
      let (seat, knows) = desk_knows fits follows about s r id v at is in
      let made : lane < length v.turns = idle_made v.turns lane idle in
      let rests : r.stage lane ≡ Resting = resting_of (r.stage lane) (sym (knows.turns lane made) ∙ idle) (sym (knows.opened lane) ∙ opened_none v.opened lane closed) in
      let here : lane < length s.homes = omega arith in (
        w,
        keeps,
        tt,
        desk_step fits follows about s r id lane v w Ended s.homes at is here (slot_same s.homes lane (some None) (r.home lane here ∙ ap (λ (t : Stage P). some (home_of t)) rests)) tt (record {
          made = made;
          took = ap took_of rests;
          going = λ e. let clash : Resting ≡ Ended = sym rests ∙ e in cc;
          is_desk = is;
          told = refl;
          counted = length-set v.turns lane Closed;
          turn_here = get_or-set_same v.turns lane Closed Closed made;
          turn_else = λ other apart. get_or-set_other v.turns lane other Closed Closed apart;
          open_here = refl;
          open_else = λ other apart. sym (opened_none v.opened other closed);
        }),
        refl,
      )

  -- a parcel that is out stays away, or is back and follows the one that was sent
  pub looks_allowed : (me : Me (Option P) (View A P)) (sent : P) → me.0.is_desk ≡ true → me.0.opened ≡ None → turn_at me.0.turns lane ≡ Out sent
      → Allows (Rule fits follows about) slots id me lane (λ n. n) (looks follows (step slots lane 0 0 none) me)
  looks_allowed me sent is closed out s r deep at small = by (r.stage lane) refl
    where
      v : View A P
      v = me.0

      w : View A P
      w = emptying_lane me.0 lane

      knows : KnowsLanes about r.count r.stage me.0
      knows = (desk_knows fits follows about s r id me.0 at is).1

      made : lane < length me.0.turns
      made = out_made me.0.turns lane sent out

      here : lane < length s.homes
      here = omega arith

      turn : (t : Stage P) → r.stage lane ≡ t → turn_of t ≡ Out sent
      turn t e = ap turn_of (sym e) ∙ (sym (knows.turns lane made) ∙ out)

      found : (t : Stage P) → r.stage lane ≡ t → get_or s.words lane 0 ≡ word_of t
      found t e = r.word lane here ∙ ap word_of e

      Answer : Type 0
      Answer = (w : View A P) × (a : Act (Option P)) × Valid s.homes me.1 a × Rule fits follows about (stepped s lane (get_or s.words lane 0) id me.1 w a) × looks follows (step slots lane 0 0 none) me (get_or s.words lane 0) (w, carried_after me.1 a)

      waits : get_or s.words lane 0 ≡ 1 → Answer
      waits one = (me.0, keeps, tt, unmoved fits follows about s r id lane me.0 at, record { back = λ zero. absurd (omega arith); away = λ other. refl })

      by : (t : Stage P) → r.stage lane ≡ t → Answer
      by Resting e = absurd (let clash : Idle ≡ Out sent = turn Resting e in cc)
      by Filling e = absurd (let clash : Idle ≡ Out sent = turn Filling e in cc)
      by (Sent p) e = waits (found (Sent p) e)
      by (Taken p) e = waits (found (Taken p) e)
      by (Back p q) e =
          let word : get_or s.words lane 0 ≡ 0 = found (Back p q) e in (
            w,
            takes lane (Some q),
            r.home lane here ∙ ap (λ (t : Stage P). some (home_of t)) e,
            subst (λ (n : ℕ). Rule fits follows about (record { words = set s.words lane n; homes = set s.homes lane none; views = set s.views id w })) (sym word)
                (desk_step fits follows about s r id lane me.0 w Filling (set s.homes lane none) at is here (slot_set s.homes lane none here) tt (record {
                  made = made;
                  took = ap took_of e;
                  going = λ ended. let clash : Back p q ≡ Ended = sym e ∙ ended in cc;
                  is_desk = is;
                  told = refl;
                  counted = length-set me.0.turns lane Idle;
                  turn_here = get_or-set_same me.0.turns lane Idle Closed made;
                  turn_else = λ other apart. get_or-set_other me.0.turns lane other Idle Closed apart;
                  open_here = eq-eqb lane lane refl;
                  open_else = λ other apart. ne_eqb other lane apart ∙ sym (opened_none me.0.opened other closed);
                })),
            record {
              back = λ zero. (
                q,
                refl,
                λ sent2 out2.
                    subst (λ (x : P). follows me.0.about x q) (ap (sent_of p) (turn (Back p q) e ∙ (sym out ∙ out2)))
                    (subst (λ (a : A). follows a p q) (sym knows.told) (subst (IsSound fits follows about) e (r.sound lane))),
              );
              away = λ other. absurd (other word);
            },
          )
      by Ended e = absurd (let clash : Closed ≡ Out sent = turn Ended e in cc)
