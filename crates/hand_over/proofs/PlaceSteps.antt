-- Each step of a place keeps the rule.
use Rattle.std.proofs.Common.{◌≡◌, ℕ, ◌<◌, true, false, [], ◌∷◌, length, get_or, set, Option, Some, None, refl, sym, ap, ◌∙◌, subst, arith}
use mathlib.Core.Option.{none, some}
use Rattle.atomic_table.specs.Table.{Act, Allows, Me, Valid, carried_after, gives, keeps, step, stepped}
use Rattle.atomic_table.specs.Table.{takes as takes_slot}
use Rattle.hand_over.specs.declared.view.View.{View}
use Rattle.hand_over.specs.Rule.{KnowsLane}
use Rattle.hand_over.specs.Stages.{Stage, Resting, Filling, Sent, Taken, Back, Ended, word_of, home_of, turn_of, took_of, is_filling, IsSound}
use Rattle.hand_over.specs.Steps.{returns, takes}
use Rattle.hand_over.proofs.Stepping.{Rule, place_knows, place_step, slot_same, slot_set, unmoved}

module _ {A P : Type 0} (fits : A → P → Type 0) (follows : A → P → P → Type 0) (about : A) (slots id lane : ℕ) (inside : lane < slots) where
  -- a parcel that was sent may be taken, and what is closed stays so
  pub takes_allowed : (me : Me (Option P) (View A P)) → me.0.is_desk ≡ false → me.0.lane ≡ lane → me.0.took ≡ None
      → Allows (Rule fits follows about) slots id me lane (λ n. n) (takes fits (step slots lane 0 0 none) me)
  takes_allowed me isnt own empty s r deep at small = by (r.stage lane) refl
    where
      knows : KnowsLane about r.stage me.0.lane me.0
      knows = (place_knows fits follows about s r id me.0 at isnt).1

      here : lane < length s.homes
      here = omega arith

      Answer : Type 0
      Answer = (w : View A P) × (a : Act (Option P)) × Valid s.homes me.1 a × Rule fits follows about (stepped s lane (get_or s.words lane 0) id me.1 w a) × takes fits (step slots lane 0 0 none) me (get_or s.words lane 0) (w, carried_after me.1 a)

      waits : get_or s.words lane 0 ≡ 0 → Answer
      waits none_yet = (me.0, keeps, tt, unmoved fits follows about s r id lane me.0 at, record { there = λ one. absurd (omega arith); closed = λ two. absurd (omega arith); nothing = λ a b. refl })

      by : (t : Stage P) → r.stage lane ≡ t → Answer
      by Resting e = waits (r.word lane here ∙ ap word_of e)
      by Filling e = waits (r.word lane here ∙ ap word_of e)
      by (Sent p) e =
          let word : get_or s.words lane 0 ≡ 1 = r.word lane here ∙ ap word_of e in
          let w : View A P = record me.0 { took = Some p } in (
            w,
            takes_slot lane (Some p),
            r.home lane here ∙ ap (λ (t : Stage P). some (home_of t)) e,
            subst (λ (n : ℕ). Rule fits follows about (record { words = set s.words lane n; homes = set s.homes lane none; views = set s.views id w })) (sym word)
                (place_step fits follows about s r id lane me.0 w (Taken p) (set s.homes lane none) at isnt own here (slot_set s.homes lane none here) tt (record {
                  turn = ap turn_of e;
                  filling = ap is_filling e;
                  isnt_desk = isnt;
                  told = refl;
                  own = refl;
                  took = refl;
                  closed = λ is. let clash : Sent p ≡ Ended = sym e ∙ (ap r.stage (sym own) ∙ knows.closed is) in absurd (cc);
                })),
            record {
              there = λ one. (p, refl, subst (λ (a : A). fits a p) (sym knows.told) (subst (IsSound fits follows about) e (r.sound lane)));
              closed = λ two. absurd (omega arith);
              nothing = λ not_one not_two. absurd (not_one word);
            },
          )
      by (Taken p) e = absurd (let clash : Some p ≡ None = sym (knows.took ∙ (ap (λ (k : ℕ). took_of (r.stage k)) own ∙ ap took_of e)) ∙ empty in cc)
      by (Back p q) e = waits (r.word lane here ∙ ap word_of e)
      by Ended e =
          let word : get_or s.words lane 0 ≡ 2 = r.word lane here ∙ ap word_of e in
          let w : View A P = record me.0 { closed = true } in (
            w,
            keeps,
            tt,
            subst (λ (n : ℕ). Rule fits follows about (record { words = set s.words lane n; homes = s.homes; views = set s.views id w })) (sym word)
                (place_step fits follows about s r id lane me.0 w Ended s.homes at isnt own here (slot_same s.homes lane (some None) (r.home lane here ∙ ap (λ (t : Stage P). some (home_of t)) e)) tt (record {
                  turn = ap turn_of e;
                  filling = ap is_filling e;
                  isnt_desk = isnt;
                  told = refl;
                  own = refl;
                  took = empty;
                  closed = λ is. refl;
                })),
            record {
              there = λ one. absurd (omega arith);
              closed = λ two. refl;
              nothing = λ not_one not_two. absurd (not_two word);
            },
          )

  -- a parcel that follows the one which the place took may go back
  pub returns_allowed : (v : View A P) (me : Me (Option P) (View A P)) (sent parcel : P) → v.is_desk ≡ false → v.lane ≡ lane → v.took ≡ Some sent → follows v.about sent parcel → me ≡ (v, (lane, Some parcel) ∷ [])
      → Allows (Rule fits follows about) slots id me lane (λ _. 0) (λ _. returns (step slots lane 0 0 none) me 0)
  returns_allowed v me sent parcel isnt own holds after are =
      subst (λ (m : Me (Option P) (View A P)). Allows (Rule fits follows about) slots id m lane (λ _. 0) (λ _. returns (step slots lane 0 0 none) m 0)) (sym are) (with_slot v isnt own holds after)
    where
      taken_or : Option P → Stage P
      taken_or None = Resting
      taken_or (Some p) = Taken p

      taken_of : (t : Stage P) → took_of t ≡ Some sent → t ≡ Taken sent
      taken_of Resting some_sent = cc
      taken_of Filling some_sent = cc
      taken_of (Sent p) some_sent = cc
      taken_of (Taken p) some_sent = ap taken_or some_sent
      taken_of (Back p q) some_sent = cc
      taken_of Ended some_sent = cc

      with_slot : (v : View A P) → v.is_desk ≡ false → v.lane ≡ lane → v.took ≡ Some sent → follows v.about sent parcel
          → Allows (Rule fits follows about) slots id (v, (lane, Some parcel) ∷ []) lane (λ _. 0) (λ _. returns (step slots lane 0 0 none) (v, (lane, Some parcel) ∷ []) 0)
      with_slot v isnt own holds after s r deep at small =
          let w : View A P = record v { took = None } in
          let (seat, knows) = place_knows fits follows about s r id v at isnt in
          let took : r.stage lane ≡ Taken sent = taken_of (r.stage lane) (ap (λ (k : ℕ). took_of (r.stage k)) (sym own) ∙ (sym knows.took ∙ holds)) in
          let here : lane < length s.homes = omega arith in (
            w,
            gives,
            tt,
            place_step fits follows about s r id lane v w (Back sent parcel) (set s.homes lane (some (Some parcel))) at isnt own here (slot_set s.homes lane (some (Some parcel)) here) (subst (λ (a : A). follows a sent parcel) knows.told after) (record {
              turn = ap turn_of took;
              filling = ap is_filling took;
              isnt_desk = isnt;
              told = refl;
              own = refl;
              took = refl;
              closed = λ is. let clash : Taken sent ≡ Ended = sym took ∙ (ap r.stage (sym own) ∙ knows.closed is) in absurd (cc);
            }),
            refl,
          )
