-- The stretches of a run have all its bytes.
use Rattle.std.proofs.Common.{◌≡◌, ℕ, ◌+◌, ◌-◌, ◌*◌, ◌<◌, ◌≤◌, List, [], ◌∷◌, ◌++◌, All, Bool, IsTrue, false, inl, inr, refl, sym, subst, arith}
use Rattle.std.proofs.Math.Nat.{mul-le-mul_right}
use Rattle.std.proofs.lemmas.Bool.{cases_order}
use Rattle.std.proofs.lemmas.List.Elements.{All-contains}
use Rattle.stride_summary.specs.declared.run.Run.{Run}
use Rattle.stride_summary.specs.Run.{HasRunByte, last_byte}
use Rattle.pair_compare.specs.Conflict.{GrowsBy, OneHas}
use Rattle.pair_compare.specs.Sweeps.{IsHullOf, IsStretch, Reach, Single, Whole, bytes_at}
use Rattle.pair_compare.specs.Work.{IsMemberReach, IsMetReach, IsMetSingle, IsMetStretch, IsPairAt, NeverWrites}
use Rattle.pair_compare.specs.declared.member.Member.{Member}
use Rattle.pair_compare.specs.declared.hull.Hull.{Hull}
use Rattle.pair_compare.proofs.Adds.{Adds-both, Adds-pushed, Adds-same}
use Rattle.pair_compare.proofs.Meeting.{from_first, to_last}

-- the stretch that has a byte
pub record ReachesAt (singly : ℕ) (run : Run) (byte : ℕ) : Type 0 where
  pub bytes : ℕ × ℕ
  pub stretch : IsStretch singly run bytes
  pub from : bytes.0 ≤ byte
  pub to : byte ≤ bytes.1

pub reach_at : (singly : ℕ) (run : Run) (byte : ℕ) → HasRunByte run byte → ReachesAt singly run byte
reach_at singly run byte h = elim (cases_order singly run.count) [
  | inr (inl less) ↦ record { bytes = (run.base, last_byte run); stretch = Whole less refl; from = from_first run byte h; to = to_last run byte h }
  | inl equal ↦ alone (omega arith)
  | inr (inr above) ↦ alone (omega arith)
]
  where
    alone : run.count ≤ singly → ReachesAt singly run byte
    alone few = let end = h.to_end in record { bytes = bytes_at run h.place; stretch = Single h.place few h.in_run refl; from = h.from_start; to = omega arith }

-- a stretch of a run lies between its first byte and its last
stretch_in : (singly : ℕ) (run : Run) (bytes : ℕ × ℕ) → IsStretch singly run bytes → (run.base ≤ bytes.0) × (bytes.1 ≤ last_byte run)
stretch_in singly run bytes (Single place few within is) =
    let far : place * run.stride ≤ (run.count - 1) * run.stride = mul-le-mul_right run.stride (omega arith) in
    subst (λ (p : ℕ × ℕ). (run.base ≤ p.0) × (p.1 ≤ last_byte run)) (sym is) (omega arith, omega arith)
stretch_in singly run bytes (Whole many is) = subst (λ (p : ℕ × ℕ). (run.base ≤ p.0) × (p.1 ≤ last_byte run)) (sym is) (omega arith, omega arith)

-- what of a member reaches into a range is in one that the member's own meets
pub member_meets : (singly low high : ℕ) (member : Member) (reach : Reach) → IsMemberReach singly low high member reach → (member.low ≤ high) × (low ≤ member.high)
member_meets singly low high member reach h =
    let run = h.has.0.of_run in
    let inside = stretch_in singly reach.run (reach.low, reach.high) (subst (λ (r : Run). IsStretch singly r (reach.low, reach.high)) (sym run) h.has.0.stretch) in
    let bounds = All-contains (λ (r : Run). (member.low ≤ r.base) × (last_byte r ≤ member.high)) member.runs.now h.one member.within h.listed in
    let mine : (member.low ≤ reach.run.base) × (last_byte reach.run ≤ member.high) = subst (λ (r : Run). (member.low ≤ r.base) × (last_byte r ≤ member.high)) (sym run) bounds in
    let from = h.has.1 in
    let to = h.has.2 in
    let low_in = inside.0 in
    let high_in = inside.1 in
    let mine_low = mine.0 in
    let mine_high = mine.1 in
    (omega arith, omega arith)

-- a member that doesn't write
pub still_quiet : (low high : ℕ) (member : Member) → member.writes ≡ false → NeverWrites low high member
still_quiet low high member none singly reach h = subst (λ (r : Run). r.write ≡ false) (sym h.has.0.of_run) (All-contains (λ (r : Run). r.write ≡ false) member.runs.now h.one (member.quiet none) h.listed)

-- where nobody writes, nothing conflicts
pub not_so : {b : Bool} → IsTrue b → b ≡ false → ⊥
not_so w e = cc

still_one : (singly low high : ℕ) (members : List Member) (reach : Reach) → All (NeverWrites low high) members → OneHas (IsMemberReach singly low high) members reach → reach.run.write ≡ false
still_one singly low high members reach still h = All-contains (NeverWrites low high) members h.one still h.listed singly reach h.has

pub no_pair : (members : List Member) (singly low high : ℕ) (pair : ℕ × ℕ) → All (NeverWrites low high) members → IsPairAt members singly low high pair → ⊥
no_pair members singly low high pair still h = elim h.lines.conflict.writes [
  | inl writes ↦ not_so writes (still_one singly low high members h.a still h.a_in)
  | inr writes ↦ not_so writes (still_one singly low high members h.b still h.b_in)
]

-- a stretch of a run is one of its reaches
met_reach : (singly low high part : ℕ) (run : Run) (bytes : ℕ × ℕ) (reach : Reach) → IsStretch singly run bytes → IsMetStretch low high part run bytes reach → IsMetReach singly low high part run reach
met_reach singly low high part run bytes reach stretch h =
    let same : reach ≡ record { part = part; run = run; low = bytes.0; high = bytes.1 } = h.0 in
    subst (λ (r : Reach). IsMetReach singly low high part run r) (sym same) (record { of_part = refl; of_run = refl; stretch = stretch }, h.1, h.2)

met_stretch : (singly low high part : ℕ) (run : Run) (bytes : ℕ × ℕ) (reach : Reach) → (reach.low, reach.high) ≡ bytes → IsMetReach singly low high part run reach → IsMetStretch low high part run bytes reach
met_stretch singly low high part run bytes reach same h =
    subst (λ (b : ℕ × ℕ). IsMetStretch low high part run b reach) same (λ i. record { part = h.0.of_part i; run = h.0.of_run i; low = reach.low; high = reach.high }, h.1, h.2)

module _ (old new : List Hull) (singly low high part : ℕ) (run : Run) where
  -- a run of more addresses has one stretch
  pub Adds-whole : singly < run.count → GrowsBy (OneHas IsHullOf old) (OneHas IsHullOf new) (IsMetStretch low high part run (run.base, last_byte run)) → GrowsBy (OneHas IsHullOf old) (OneHas IsHullOf new) (IsMetReach singly low high part run)
  Adds-whole many grows = Adds-same (OneHas IsHullOf old) (OneHas IsHullOf new) (IsMetStretch low high part run (run.base, last_byte run)) (IsMetReach singly low high part run)
      (λ reach h. met_reach singly low high part run (run.base, last_byte run) reach (Whole many refl) h)
      (λ reach h. elim h.0.stretch [
        | Single place few within is ↦ absurd (omega arith)
        | Whole more is ↦ met_stretch singly low high part run (run.base, last_byte run) reach is h
      ])
      grows

  -- and one of so many a stretch for each
  pub Adds-singly : run.count ≤ singly → GrowsBy (OneHas IsHullOf old) (OneHas IsHullOf new) (IsMetSingle low high part run run.count) → GrowsBy (OneHas IsHullOf old) (OneHas IsHullOf new) (IsMetReach singly low high part run)
  Adds-singly few grows = Adds-same (OneHas IsHullOf old) (OneHas IsHullOf new) (IsMetSingle low high part run run.count) (IsMetReach singly low high part run)
      (λ reach h. met_reach singly low high part run (bytes_at run h.place) reach (Single h.place few h.among refl) h.met)
      (λ reach h. elim h.0.stretch [
        | Single place fewer within is ↦ record { place = place; among = within; met = met_stretch singly low high part run (bytes_at run place) reach is h }
        | Whole many is ↦ absurd (omega arith)
      ])
      grows

  -- one more address
  pub Adds-place : (between : List Hull) (place : ℕ) → GrowsBy (OneHas IsHullOf old) (OneHas IsHullOf between) (IsMetSingle low high part run place)
      → GrowsBy (OneHas IsHullOf between) (OneHas IsHullOf new) (IsMetStretch low high part run (bytes_at run place)) → GrowsBy (OneHas IsHullOf old) (OneHas IsHullOf new) (IsMetSingle low high part run (place + 1))
  Adds-place between place before then = Adds-both (OneHas IsHullOf old) (OneHas IsHullOf between) (OneHas IsHullOf new) (IsMetSingle low high part run place) (IsMetStretch low high part run (bytes_at run place)) (IsMetSingle low high part run (place + 1))
      before then
      (λ reach h. record { place = h.place; among = (let less = h.among in omega arith); met = h.met })
      (λ reach h. record { place = place; among = omega arith; met = h })
      (λ reach h. elim (cases_order h.place place) [
        | inl same ↦ inr (subst (λ (n : ℕ). IsMetStretch low high part run (bytes_at run n) reach) same h.met)
        | inr (inl less) ↦ inl (record { place = h.place; among = less; met = h.met })
        | inr (inr above) ↦ absurd (let less = h.among in omega arith)
      ])

-- one more hull adds its stretch, if this meets the range
pub Adds-hull : (hulls more : List Hull) (hull : Hull) (low high : ℕ) → more ≡ hulls ++ hull ∷ [] → hull.low ≤ high → low ≤ hull.high → GrowsBy (OneHas IsHullOf hulls) (OneHas IsHullOf more) (IsMetStretch low high hull.part hull.run.now (hull.low, hull.high))
Adds-hull hulls more hull low high is from to = subst (λ (hs : List Hull). GrowsBy (OneHas IsHullOf hulls) (OneHas IsHullOf hs) (IsMetStretch low high hull.part hull.run.now (hull.low, hull.high))) (sym is)
    (Adds-same (OneHas IsHullOf hulls) (OneHas IsHullOf (hulls ++ hull ∷ [])) (IsHullOf hull) (IsMetStretch low high hull.part hull.run.now (hull.low, hull.high)) (λ reach h. (h, from, to)) (λ reach h. h.0) (Adds-pushed IsHullOf hulls hull))
