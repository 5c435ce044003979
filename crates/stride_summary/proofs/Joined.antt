-- Accesses in order, of which the first are joined into runs.
use Rattle.std.proofs.Common.{◌≡◌, ◌↔◌, ◌⊎◌, ℕ, zero, suc, ◌+◌, ◌-◌, ◌*◌, ◌^◌, ◌<◌, ◌≤◌, false, List, [], ◌∷◌, ◌++◌, length, get_or, take, drop, Contains, inl, inr, refl, sym, ◌∙◌, ap, subst, arith, add-one, append_assoc, append-nil, length-append}
use Rattle.std.proofs.lemmas.Bool.{cases_lt}
use Rattle.std.proofs.lemmas.List.{get_or_append_left, get_or-append-add, get_or_default, get_or-take, length-take-le, take-append-drop}
use Rattle.std.proofs.lemmas.List.Elements.{All-drop, Contains-append_cases, Contains-append_left, Contains-append_right, Contains-get_or, Contains-push, Contains-push_cases}
use Rattle.std.proofs.lemmas.List.Quantifiers.{all_pairs_push}
use Rattle.log_format.specs.Fitting.{IsWidth}
use Rattle.stride_summary.specs.declared.key.Key.{Key}
use Rattle.stride_summary.specs.declared.run.Run.{Run}
use Rattle.stride_summary.specs.declared.single.Single.{Single}
use Rattle.stride_summary.specs.Accesses.{AreSized, Ascend, BeginsWith, EndByTheLast, LiesBehind, single_key}
use Rattle.stride_summary.specs.Run.{HasPair, HasRunAddress, address_at, last_address, run_key}
use Rattle.stride_summary.specs.Singles.{AddsSingles, HoldsSingle}
use Rattle.stride_summary.proofs.Alone.{holds_within}
use Rattle.stride_summary.proofs.Sized.{has_bytes}
use Rattle.stride_summary.proofs.Storing.{some_element}

-- what a slice's place is read as where it has none
abbrev pub blank : Single
blank = record { line = 0; site = 0; size = 0; write = false; atomic = false; addr = 0 }

-- two accesses that were read at their places
pub behind_at : (singles : List Single) (i j distance : ℕ) → i < length singles → j < length singles → LiesBehind (get_or singles i blank) (get_or singles j blank) distance → (d : Single) → LiesBehind (get_or singles i d) (get_or singles j d) distance
behind_at singles i j distance in_i in_j behind d =
    subst (λ (s : Single). LiesBehind s (get_or singles j d) distance) (get_or_default singles i blank d in_i)
    (subst (λ (s : Single). LiesBehind (get_or singles i blank) s distance) (get_or_default singles j blank d in_j) behind)

-- the first so many lie at equal distances
abbrev pub AreEven : List Single → ℕ → ℕ → Type 0
AreEven singles distance count = (place : ℕ) (d : Single) → place + 1 < count → LiesBehind (get_or singles place d) (get_or singles (place + 1) d) distance

pub even_more : (singles : List Single) (distance count : ℕ) → AreEven singles distance count → 1 ≤ count → ((d : Single) → LiesBehind (get_or singles (count - 1) d) (get_or singles count d) distance) → AreEven singles distance (count + 1)
even_more singles distance count even some next place d below = elim (cases_lt (place + 1) count) [
  | inl before ↦ even place d before
  | inr not ↦
      let here : count ≡ place + 1 = omega arith in
      let last : count - 1 ≡ place = omega arith in
      subst (λ (n : ℕ). LiesBehind (get_or singles n d) (get_or singles (place + 1) d) distance) last (subst (λ (n : ℕ). LiesBehind (get_or singles (count - 1) d) (get_or singles n d) distance) here (next d))
]

-- the run of the first accesses
module _ (singles : List Single) (distance count : ℕ) (even : AreEven singles distance count) (some : 1 ≤ count) (within : count ≤ length singles) where
  abbrev first : Single
  first = get_or singles 0 blank

  even_at : (place : ℕ) → place < count → (single_key first ≡ single_key (get_or singles place blank)) × ((get_or singles place blank).addr ≡ first.addr + place * distance)
  even_at zero below = (refl, omega arith)
  even_at (suc place) below =
      let before = even_at place (omega arith) in
      let next : LiesBehind (get_or singles place blank) (get_or singles (suc place) blank) distance = subst (λ (n : ℕ). LiesBehind (get_or singles place blank) (get_or singles n blank) distance) (add-one place) (even place blank (omega arith)) in
      (before.0 ∙ next.0, omega (arith, before.1, next.1))

  pub run_begins : (run : Run) → single_key first ≡ run_key run → run.base ≡ first.addr → run.count ≡ count → (run.count ≡ 1) ⊎ (run.stride ≡ distance) → BeginsWith singles run
  run_begins run keyed based counted strides = record {
    within = omega arith;
    keyed = λ place d below. ap single_key (here place d below) ∙ sym (even_at place (omega arith)).0 ∙ keyed;
    addressed = λ place d below. ap (λ (s : Single). s.addr) (here place d below) ∙ (even_at place (omega arith)).1 ∙ at place below;
  } where
    here : (place : ℕ) (d : Single) → place < run.count → get_or singles place d ≡ get_or singles place blank
    here place d below = get_or_default singles place d blank (omega arith)

    only : (place : ℕ) → place < run.count → run.count ≡ 1 → place ≡ 0
    only place below one = omega arith

    at : (place : ℕ) → place < run.count → first.addr + place * distance ≡ address_at run place
    at place below = elim strides [
      | inl one ↦ omega (arith, based, ap (λ n. n * distance) (only place below one), ap (λ n. n * run.stride) (only place below one))
      | inr same ↦ omega (arith, based, ap (λ n. place * n) same)
    ]

  pub run_ends : (stride : ℕ) → (count ≡ 1) ⊎ (stride ≡ distance) → AreSized singles → EndByTheLast singles → first.addr + (count - 1) * stride + (first.size - 1) < 2 ^ 48
  run_ends stride strides sized ends =
      let last = even_at (count - 1) (omega arith) in
      let size : first.size ≡ (get_or singles (count - 1) blank).size = ap (λ (k : Key). k.size) last.0 in
      let bytes : 1 ≤ first.size = omega (arith, size, has_bytes (get_or singles (count - 1) blank).size (sized (count - 1) blank (omega arith))) in
      omega (arith, size, bytes, last.1, ends (count - 1) blank (omega arith), far)
    where
      only : count ≡ 1 → count - 1 ≡ 0
      only one = omega arith

      far : (count - 1) * stride ≡ (count - 1) * distance
      far = elim strides [
        | inl one ↦ omega (arith, ap (λ n. n * stride) (only one), ap (λ n. n * distance) (only one))
        | inr same ↦ ap (λ n. (count - 1) * n) same
      ]

-- the rest isn't joined yet
pub record IsJoining (singles rest : List Single) (old new : List Run) : Type 0 where
  pub done : List Single
  pub split : singles ≡ done ++ rest
  pub sized : AreSized rest
  pub ends : EndByTheLast rest
  pub so_far : AddsSingles done old new

pub joining_start : (singles : List Single) (old : List Run) → AreSized singles → EndByTheLast singles → IsJoining singles singles old old
joining_start singles old sized ends = record {
  done = [];
  split = refl;
  sized = sized;
  ends = ends;
  so_far = record {
    cuts = [];
    added = sym (append-nil old);
    pairs = λ k a. ((λ h. absurd (omega (arith, h.listed.1))), (λ h. absurd (omega (arith, h.listed.1))));
    apart = λ i j d less within. absurd (omega arith);
  };
}

module _ (singles rest later : List Single) (old new next : List Run) (run : Run) (ascend : Ascend singles) (joining : IsJoining singles rest old new) (begins : BeginsWith rest run)
    (dropped : later ≡ drop run.count rest) (pushed : next ≡ new ++ run ∷ []) where
  abbrev done : List Single
  done = joining.done

  abbrev cuts : List Run
  cuts = joining.so_far.cuts

  abbrev now : List Single
  now = take run.count rest

  long : length now ≡ run.count
  long = length-take-le run.count rest begins.within

  has_run : (k : Key) (a : ℕ) → HoldsSingle now k a → HasPair (cuts ++ run ∷ []) k a
  has_run k a h =
      let below : h.listed.0 < run.count = omega (arith, h.listed.1, long) in
      let is : get_or rest h.listed.0 h.single ≡ h.single = sym (get_or-take run.count rest h.listed.0 h.single below) ∙ h.listed.2 in
      record {
        run = run;
        listed = Contains-push cuts run;
        keyed = sym (begins.keyed h.listed.0 h.single below) ∙ ap single_key is ∙ h.keyed;
        addressed = record { place = h.listed.0; in_run = below; is = sym h.addressed ∙ sym (ap (λ (s : Single). s.addr) is) ∙ begins.addressed h.listed.0 h.single below };
      }

  run_has : (k : Key) (a : ℕ) (d : Single) → (r : Run) → run ≡ r → run_key r ≡ k → HasRunAddress r a → HoldsSingle now k a
  run_has k a d r same keyed has =
      let own : HasRunAddress run a = subst (λ (s : Run). HasRunAddress s a) (sym same) has in
      record {
        single = get_or rest own.place d;
        listed = (own.place, omega (arith, own.in_run, long), get_or-take run.count rest own.place (get_or rest own.place d) own.in_run ∙ get_or_default rest own.place (get_or rest own.place d) d (omega (arith, own.in_run, begins.within)));
        keyed = begins.keyed own.place d own.in_run ∙ ap run_key same ∙ keyed;
        addressed = begins.addressed own.place d own.in_run ∙ sym own.is;
      }

  pairs : (k : Key) (a : ℕ) → HasPair (cuts ++ run ∷ []) k a ↔ HoldsSingle (done ++ now) k a
  pairs k a = (
    (λ h. elim (Contains-push_cases cuts run h.run h.listed) [
      | inl was ↦ holds_within done (done ++ now) k a (λ s. Contains-append_left done now s) ((joining.so_far.pairs k a).0 (record { run = h.run; listed = was; keyed = h.keyed; addressed = h.addressed }))
      | inr it ↦ holds_within now (done ++ now) k a (λ s. Contains-append_right done now s) (run_has k a (some_element rest (omega (arith, begins.within, run.not_empty))) h.run it h.keyed h.addressed)
    ]),
    (λ h. elim (Contains-append_cases done now h.single h.listed) [
      | inl was ↦
          let pair = (joining.so_far.pairs k a).1 (record { single = h.single; listed = was; keyed = h.keyed; addressed = h.addressed }) in
          record { run = pair.run; listed = Contains-append_left cuts (run ∷ []) pair.run pair.listed; keyed = pair.keyed; addressed = pair.addressed }
      | inr new_one ↦ has_run k a (record { single = h.single; listed = new_one; keyed = h.keyed; addressed = h.addressed })
    ]),
  )

  -- what is done of the same key lies before it
  done_before : (k : Key) (a : ℕ) → HoldsSingle done k a → k ≡ run_key run → a < run.base
  done_before k a h same =
      let one : get_or singles h.listed.0 h.single ≡ h.single = ap (λ (ss : List Single). get_or ss h.listed.0 h.single) joining.split ∙ (get_or_append_left done rest h.single h.listed.0 h.listed.1 ∙ h.listed.2) in
      let other : get_or singles (length done + 0) h.single ≡ get_or rest 0 h.single = ap (λ (ss : List Single). get_or ss (length done + 0) h.single) joining.split ∙ get_or-append-add done rest 0 h.single in
      let long_all : length singles ≡ length done + length rest = ap (λ (ss : List Single). length ss) joining.split ∙ length-append done rest in
      let key : single_key (get_or singles h.listed.0 h.single) ≡ run_key run = ap single_key one ∙ (h.keyed ∙ same) in
      let first_key : single_key (get_or singles (length done + 0) h.single) ≡ run_key run = ap single_key other ∙ begins.keyed 0 h.single run.not_empty in
      let less = ascend h.listed.0 (length done + 0) h.single (omega (arith, h.listed.1)) (omega (arith, long_all, begins.within, run.not_empty)) (key ∙ sym first_key) in
      omega (arith, less, ap (λ (s : Single). s.addr) one, ap (λ (s : Single). s.addr) other, h.addressed, begins.addressed 0 h.single run.not_empty)

  -- so a run of the same key that is there ends before it
  before : (r : Run) → Contains cuts r → run_key r ≡ run_key run → last_address r < run.base
  before r listed same =
      let last : HasPair cuts (run_key r) (last_address r) = record { run = r; listed = listed; keyed = refl; addressed = record { place = r.count - 1; in_run = omega (arith, r.not_empty); is = refl } } in
      done_before (run_key r) (last_address r) ((joining.so_far.pairs (run_key r) (last_address r)).0 last) same

  pub joining_step : IsJoining singles later old next
  joining_step = record {
    done = done ++ now;
    split = joining.split ∙ ap (λ ss. done ++ ss) (sym (take-append-drop run.count rest)) ∙ sym (append_assoc done now (drop run.count rest)) ∙ ap (λ ss. (done ++ now) ++ ss) (sym dropped);
    sized = subst (λ (ss : List Single). AreSized ss) (sym dropped) (All-drop (λ (s : Single). IsWidth s.size) run.count rest joining.sized);
    ends = subst (λ (ss : List Single). EndByTheLast ss) (sym dropped) (All-drop (λ (s : Single). s.addr + s.size ≤ 2 ^ 48) run.count rest joining.ends);
    so_far = record {
      cuts = cuts ++ run ∷ [];
      added = pushed ∙ ap (λ rs. rs ++ run ∷ []) joining.so_far.added ∙ append_assoc old cuts (run ∷ []);
      pairs = pairs;
      apart = all_pairs_push (λ (one other : Run). run_key one ≡ run_key other → last_address one < other.base) cuts run joining.so_far.apart (λ i d within. before (get_or cuts i d) (Contains-get_or cuts i d within));
    };
  }

pub adds_within : (olds news : List Single) (old new : List Run) → ((s : Single) → Contains news s ↔ Contains olds s) → AddsSingles news old new → AddsSingles olds old new
adds_within olds news old new same adds = record {
  cuts = adds.cuts;
  added = adds.added;
  pairs = λ k a. ((λ h. holds_within news olds k a (λ s. (same s).0) ((adds.pairs k a).0 h)), (λ h. (adds.pairs k a).1 (holds_within olds news k a (λ s. (same s).1) h)));
  apart = adds.apart;
}

pub joining_end : (singles rest : List Single) (old new : List Run) → IsJoining singles rest old new → length rest ≡ 0 → AddsSingles singles old new
joining_end singles [] old new joining none = subst (λ (ss : List Single). AddsSingles ss old new) (sym (joining.split ∙ append-nil joining.done)) joining.so_far
joining_end singles (s ∷ rest) old new joining none = absurd (omega arith)
