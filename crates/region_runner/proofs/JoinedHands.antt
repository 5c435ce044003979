-- Hands that were split off and joined add the steps of a phase.
use Rattle.std.proofs.Common.{◌≡◌, refl, ap, sym, ◌∙◌, subst, ℕ, zero, suc, ◌+◌, ◌≤◌, arith, Bool, true, false, cond, List, [], ◌∷◌, ◌++◌, append_assoc}
use Rattle.std.specs.Prelude.{not, ◌==◌}
use Rattle.std.proofs.lemmas.List.{append-nil}
use Rattle.std.proofs.lemmas.Bool.Decides.{nat_tests}
use Rattle.step_history.specs.declared.item.Item.{Item}
use Rattle.step_history.specs.declared.item.Deed.TheVariants as deed
use Rattle.step_history.specs.History.{item}
use Rattle.shared_words.specs.declared.view.View.{View}
use Rattle.shared_words.specs.Views.{newcomer, IsAtRest, parted, without, split_number, after_meeting}
use Rattle.history_model.specs.Work.{TeamWork, NoWork, Beside, NoPhase, Phase}
use Rattle.history_model.specs.Did.{did, did_team, did_phases, splits_of, lane_count_of, phase_splits}
use Rattle.lane_runner.specs.Going.{worked}
use Rattle.lane_runner.specs.Forking.{after_phases}
use Rattle.region_runner.specs.Hands.{parted_for, joined_with, HaveWorked}

-- a hand with these out, and these steps more
abbrev with_steps : View → ℕ → List ℕ → List Item → View
with_steps v splits out more = record v { splits = splits; out = out; lane = 0; span = 0; items = v.items ++ more }

-- so many numbers from k on, the last first, before others
abbrev numbered_out : ℕ → ℕ → List ℕ → List ℕ
numbered_out k zero out = out
numbered_out k (suc n) out = numbered_out (suc k) n (k ∷ out)

-- the numbers are not below this one
abbrev AreFrom : ℕ → List ℕ → Type 0
AreFrom k [] = Unit {0}
AreFrom k (x ∷ xs) = (k ≤ x) × AreFrom k xs

-- those from k on, in any order in which the k-th is the last
without_append : (k : ℕ) (xs : List ℕ) → AreFrom (suc k) xs → without k (xs ++ k ∷ []) ≡ xs
without_append k [] from =
    let test : not (k == k) ≡ false = grind (arith, nat_tests) in
    ap (λ (b : Bool). cond b (k ∷ []) []) test
without_append k (x ∷ xs) from =
    let test : not (x == k) ≡ true = grind (arith, nat_tests) in
    ap (λ (b : Bool). cond b (x ∷ without k (xs ++ k ∷ [])) (without k (xs ++ k ∷ []))) test ∙ ap (λ (l : List ℕ). x ∷ l) (without_append k xs from.1)

out_append : (k n : ℕ) (out : List ℕ) → numbered_out k n out ≡ numbered_out k n [] ++ out
out_append k zero out = refl
out_append k (suc n) out =
    out_append (suc k) n (k ∷ out) ∙ sym (append_assoc (numbered_out (suc k) n []) (k ∷ []) out)
    ∙ ap (λ (l : List ℕ). l ++ out) (sym (out_append (suc k) n (k ∷ [])))

from_append : (k : ℕ) (xs ys : List ℕ) → AreFrom k xs → AreFrom k ys → AreFrom k (xs ++ ys)
from_append k [] ys first second = second
from_append k (x ∷ xs) ys first second = (first.0, from_append k xs ys first.1 second)

from_weaker : (k : ℕ) (xs : List ℕ) → AreFrom (suc k) xs → AreFrom k xs
from_weaker k [] from = tt
from_weaker k (x ∷ xs) from = (let more = from.0 in omega arith, from_weaker k xs from.1)

from_out : (k n : ℕ) → AreFrom k (numbered_out k n [])
from_out k zero = tt
from_out k (suc n) =
    subst (AreFrom k) (sym (out_append (suc k) n (k ∷ [])))
    (from_append k (numbered_out (suc k) n []) (k ∷ []) (from_weaker k (numbered_out (suc k) n []) (from_out (suc k) n)) (omega arith, tt))

-- the first of them comes home
first_home : (k n : ℕ) → without k (numbered_out k (suc n) []) ≡ numbered_out (suc k) n []
first_home k n = ap (without k) (out_append (suc k) n (k ∷ [])) ∙ without_append k (numbered_out (suc k) n []) (from_out (suc k) n)

-- ---- splitting

parted_all : (team : TeamWork) (lane span : ℕ) (v : View) → IsAtRest v →
    parted_for lane span (lane_count_of team) v ≡ with_steps v (v.splits + lane_count_of team) (numbered_out v.splits (lane_count_of team) v.out) (splits_of v.name v.splits lane span team)
parted_all NoWork lane span v rests = none
  where
    none : v ≡ with_steps v (v.splits + 0) v.out []
    none = λ i. record v {
      splits = (let same : v.splits ≡ v.splits + 0 = omega arith in same) i;
      lane = rests.no_lane i;
      span = rests.no_span i;
      items = sym (append-nil v.items) i;
    }
parted_all (Beside work others) lane span v rests =
    parted_all others (suc lane) span (parted v lane span) (record { live = rests.live; no_lane = refl; no_span = refl }) ∙ more
  where
    more : with_steps (parted v lane span) (v.splits + 1 + lane_count_of others) (numbered_out (v.splits + 1) (lane_count_of others) (v.splits ∷ v.out))
        (splits_of v.name (v.splits + 1) (suc lane) span others)
        ≡ with_steps v (v.splits + suc (lane_count_of others)) (numbered_out (suc v.splits) (lane_count_of others) (v.splits ∷ v.out))
        (item v.name (deed.Split v.splits lane span) ∷ splits_of v.name (suc v.splits) (suc lane) span others)
    more = λ i. record v {
      splits = (let same : v.splits + 1 + lane_count_of others ≡ v.splits + suc (lane_count_of others) = omega arith in same) i;
      out = numbered_out ((let next : v.splits + 1 ≡ suc v.splits = omega arith in next) i) (lane_count_of others) (v.splits ∷ v.out);
      lane = 0;
      span = 0;
      items = (append_assoc v.items (item v.name (deed.Split v.splits lane span) ∷ []) (splits_of v.name (v.splits + 1) (suc lane) span others)
          ∙ ap (λ (n : ℕ). v.items ++ item v.name (deed.Split v.splits lane span) ∷ splits_of v.name n (suc lane) span others) (let next : v.splits + 1 ≡ suc v.splits = omega arith in next)) i;
    }

-- ---- joining

joined_all : (word : ℕ → ℕ) (team : TeamWork) (k : ℕ) (v : View) (ws : List View) → v.out ≡ numbered_out k (lane_count_of team) [] → HaveWorked word v.name k team ws →
    joined_with ws v ≡ record v { out = []; items = v.items ++ did_team word v.name k team }
joined_all word NoWork k v [] out worked = λ i. record v { out = out i; items = sym (append-nil v.items) i }
joined_all word NoWork k v (w ∷ ws) out worked = absurd worked
joined_all word (Beside work others) k v [] out worked = absurd worked
joined_all word (Beside work others) k v (w ∷ ws) out have =
    joined_all word others (suc k) (after_meeting v w) ws home (have.1) ∙ more
  where
    is : w ≡ worked word (newcomer (k ∷ v.name)) work
    is = have.0

    number : split_number w.name ≡ k
    number = ap (λ (u : View). split_number u.name) is

    home : without (split_number w.name) v.out ≡ numbered_out (suc k) (lane_count_of others) []
    home = ap (λ (n : ℕ). without n v.out) number ∙ ap (without k) out ∙ first_home k (lane_count_of others)

    steps : v.items ++ w.items ++ item v.name (deed.Home (split_number w.name)) ∷ [] ≡ v.items ++ did word (k ∷ v.name) 0 work ++ item v.name (deed.Home k) ∷ []
    steps =
        ap (λ (u : View). v.items ++ u.items ++ item v.name (deed.Home (split_number w.name)) ∷ []) is
        ∙ ap (λ (n : ℕ). v.items ++ did word (k ∷ v.name) 0 work ++ item v.name (deed.Home n) ∷ []) number

    all : (v.items ++ w.items ++ item v.name (deed.Home (split_number w.name)) ∷ []) ++ did_team word v.name (suc k) others
        ≡ v.items ++ did_team word v.name k (Beside work others)
    all =
        ap (λ (l : List Item). l ++ did_team word v.name (suc k) others) steps
        ∙ append_assoc (v.items ++ did word (k ∷ v.name) 0 work) (item v.name (deed.Home k) ∷ []) (did_team word v.name (suc k) others)
        ∙ append_assoc v.items (did word (k ∷ v.name) 0 work) (item v.name (deed.Home k) ∷ did_team word v.name (suc k) others)

    more : record (after_meeting v w) { out = []; items = (after_meeting v w).items ++ did_team word v.name (suc k) others }
        ≡ record v { out = []; items = v.items ++ did_team word v.name k (Beside work others) }
    more = λ i. record v { out = []; items = all i }

-- a whole phase
pub did_phase : (word : ℕ → ℕ) (span : ℕ) (team : TeamWork) (v : View) (ws : List View) → IsAtRest v → v.out ≡ [] → lane_count_of team ≡ span →
    HaveWorked word v.name v.splits team ws → joined_with ws (parted_for 0 span span v) ≡ after_phases word span (Phase team NoPhase) v
did_phase word span team v ws rests none count have =
    subst (λ (n : ℕ). joined_with ws (parted_for 0 span n v) ≡ after_phases word span (Phase team NoPhase) v) count
    (ap (joined_with ws) (parted_all team 0 span v rests) ∙ joined_all word team v.splits split ws out have ∙ whole)
  where
    split : View
    split = with_steps v (v.splits + lane_count_of team) (numbered_out v.splits (lane_count_of team) v.out) (splits_of v.name v.splits 0 span team)

    out : numbered_out v.splits (lane_count_of team) v.out ≡ numbered_out v.splits (lane_count_of team) []
    out = ap (numbered_out v.splits (lane_count_of team)) none

    steps : (v.items ++ splits_of v.name v.splits 0 span team) ++ did_team word v.name v.splits team ≡ v.items ++ did_phases word v.name v.splits span (Phase team NoPhase)
    steps =
        append_assoc v.items (splits_of v.name v.splits 0 span team) (did_team word v.name v.splits team)
        ∙ ap (λ (l : List Item). v.items ++ l) (sym (append-nil (splits_of v.name v.splits 0 span team ++ did_team word v.name v.splits team)))

    count_is : v.splits + lane_count_of team ≡ v.splits + phase_splits (Phase team NoPhase)
    count_is = omega arith

    whole : record split { out = []; items = split.items ++ did_team word v.name v.splits team } ≡ after_phases word span (Phase team NoPhase) v
    whole = λ i. record v { splits = count_is i; out = sym none i; lane = sym rests.no_lane i; span = sym rests.no_span i; items = steps i }
