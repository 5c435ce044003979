-- Tasks whose ranges have all bytes together have the pairs of a group.
use Rattle.std.proofs.Common.{◌≡◌, ◌⊎◌, ℕ, ◌+◌, ◌^◌, ◌<◌, ◌≤◌, List, inl, inr, sym, ap, subst, arith}
use Rattle.std.proofs.lemmas.Bool.{cases_order}
use Rattle.stride_summary.specs.declared.run.Run.{Run}
use Rattle.pair_compare.specs.Conflict.{GrowsBy, IsLinesOf, OneHas}
use Rattle.pair_compare.specs.Groups.{IsPartedPair, IsRunOf}
use Rattle.pair_compare.specs.Sweeps.{IsStretch, Reach}
use Rattle.pair_compare.specs.Work.{IsMemberReach, IsPairAt, IsTaskPair}
use Rattle.pair_compare.specs.declared.member.Member.{Member}
use Rattle.pair_compare.specs.declared.task.Task.{Task}
use Rattle.pair_compare.proofs.Meeting.{to_last}
use Rattle.pair_compare.proofs.Reaching.{reach_at}
use Rattle.pair_compare.proofs.Swept.{IsLinesOf-sym}

-- where two runs that conflict reach over their common byte
abbrev pub first_at : (members : List Member) (singly : ℕ) (pair : ℕ × ℕ) → IsPartedPair (OneHas IsRunOf members) pair → ℕ
first_at members singly pair h = (reach_at singly h.a.1 h.lines.conflict.shares.byte h.lines.conflict.shares.first).bytes.0

abbrev pub second_at : (members : List Member) (singly : ℕ) (pair : ℕ × ℕ) → IsPartedPair (OneHas IsRunOf members) pair → ℕ
second_at members singly pair h = (reach_at singly h.b.1 h.lines.conflict.shares.byte h.lines.conflict.shares.second).bytes.0

-- the new tasks are the old ones and some that find the conflicts of the members whose runs both begin to reach below this byte
pub record CutsBelow (members : List Member) (singly byte : ℕ) (old new : List Task) : Type 0 where
  pub kept : (pair : ℕ × ℕ) → OneHas IsTaskPair old pair → OneHas IsTaskPair new pair
  pub added : (pair : ℕ × ℕ) (h : IsPartedPair (OneHas IsRunOf members) pair) → first_at members singly pair h < byte → second_at members singly pair h < byte → OneHas IsTaskPair new pair
  pub only : (pair : ℕ × ℕ) → OneHas IsTaskPair new pair → OneHas IsTaskPair old pair ⊎ IsPartedPair (OneHas IsRunOf members) pair

of_member : (singly low high : ℕ) (members : List Member) (reach : Reach) → OneHas (IsMemberReach singly low high) members reach → OneHas IsRunOf members (reach.part, reach.run)
of_member singly low high members reach h =
    let is = h.has.has.0 in
    record { one = h.one; listed = h.listed; has = record { one = h.has.one; listed = h.has.listed; has = λ i. (is.of_part i, is.of_run i) } }

of_range : (members : List Member) (singly low high : ℕ) (pair : ℕ × ℕ) → IsPairAt members singly low high pair → IsPartedPair (OneHas IsRunOf members) pair
of_range members singly low high pair h = record {
  a = (h.a.part, h.a.run);
  b = (h.b.part, h.b.run);
  a_in = of_member singly low high members h.a h.a_in;
  b_in = of_member singly low high members h.b h.b_in;
  apart = h.apart;
  lines = h.lines;
}

in_member : (singly low high : ℕ) (members : List Member) (n : ℕ × Run) (bytes : ℕ × ℕ) → IsStretch singly n.1 bytes → bytes.0 ≤ high → low ≤ bytes.1 → OneHas IsRunOf members n
    → OneHas (IsMemberReach singly low high) members (record { part = n.0; run = n.1; low = bytes.0; high = bytes.1 })
in_member singly low high members n bytes reached from to h =
    let run_is : n.1 ≡ h.has.one = ap (λ (m : ℕ × Run). m.1) h.has.has in
    record {
      one = h.one;
      listed = h.listed;
      has = record {
        one = h.has.one;
        listed = h.has.listed;
        has = (record { of_part = ap (λ (m : ℕ × Run). m.0) h.has.has; of_run = run_is; stretch = subst (λ (r : Run). IsStretch singly r bytes) run_is reached }, from, to);
      };
    }

-- one of two stretches that share a byte begins in the other, and in the range if neither begins behind it and one not before it
in_order : (members : List Member) (singly low high byte : ℕ) (pair : ℕ × ℕ) (m n : ℕ × Run) (one other : ℕ × ℕ) → IsStretch singly m.1 one → IsStretch singly n.1 other → OneHas IsRunOf members m → OneHas IsRunOf members n
    → (m.0 ≡ n.0 → ⊥) → IsLinesOf m.1 n.1 pair → one.0 ≤ byte → byte ≤ one.1 → other.0 ≤ byte → byte ≤ other.1 → one.0 ≤ other.0 → other.0 ≤ high → low ≤ other.0 → IsPairAt members singly low high pair
in_order members singly low high byte pair m n one other reached reaching m_in n_in apart lines one_from one_to other_from other_to order below late = record {
  a = record { part = m.0; run = m.1; low = one.0; high = one.1 };
  b = record { part = n.0; run = n.1; low = other.0; high = other.1 };
  a_in = in_member singly low high members m one reached (omega arith) (omega arith) m_in;
  b_in = in_member singly low high members n other reaching (omega arith) (omega arith) n_in;
  apart = apart;
  begins = order;
  reaches = omega arith;
  late = late;
  lines = lines;
}

later_one : (least m n : ℕ) → (least ≤ m) ⊎ (least ≤ n) → ((m ≤ n) × (least ≤ n)) ⊎ ((n ≤ m) × (least ≤ m))
later_one least m n one = elim (cases_order m n) [
  | inl same ↦ inl (omega arith, elim one [ inl k ↦ omega arith | inr k ↦ k ])
  | inr (inl less) ↦ inl (omega arith, elim one [ inl k ↦ omega arith | inr k ↦ k ])
  | inr (inr above) ↦ inr (omega arith, elim one [ inl k ↦ k | inr k ↦ omega arith ])
]

in_range : (members : List Member) (singly low high : ℕ) (pair : ℕ × ℕ) (h : IsPartedPair (OneHas IsRunOf members) pair) → first_at members singly pair h ≤ high → second_at members singly pair h ≤ high
    → (low ≤ first_at members singly pair h) ⊎ (low ≤ second_at members singly pair h) → IsPairAt members singly low high pair
in_range members singly low high pair h first second late =
    let shares = h.lines.conflict.shares in
    let a = reach_at singly h.a.1 shares.byte shares.first in
    let b = reach_at singly h.b.1 shares.byte shares.second in
    elim (later_one low (first_at members singly pair h) (second_at members singly pair h) late) [
      | inl (order, later) ↦ in_order members singly low high shares.byte pair h.a h.b a.bytes b.bytes a.stretch b.stretch h.a_in h.b_in h.apart h.lines a.from a.to b.from b.to order second later
      | inr (order, later) ↦ in_order members singly low high shares.byte pair h.b h.a b.bytes a.bytes b.stretch a.stretch h.b_in h.a_in (λ e. h.apart (sym e)) (IsLinesOf-sym h.a.1 h.b.1 pair h.lines) b.from b.to a.from a.to order first later
    ]

-- one more range, from where the others end
pub cut_more : (members : List Member) (singly low high : ℕ) (old tasks more : List Task) → GrowsBy (OneHas IsTaskPair tasks) (OneHas IsTaskPair more) (IsPairAt members singly low high) → CutsBelow members singly low old tasks → CutsBelow members singly (high + 1) old more
cut_more members singly low high old tasks more adds cuts = record {
  kept = λ pair h. adds.kept pair (cuts.kept pair h);
  added = λ pair h first second. elim (cases_order (first_at members singly pair h) low) [
    | inr (inl less) ↦ elim (cases_order (second_at members singly pair h) low) [
      | inr (inl lower) ↦ adds.kept pair (cuts.added pair h less lower)
      | inl equal ↦ adds.added pair (in_range members singly low high pair h (omega arith) (omega arith) (inr (omega arith)))
      | inr (inr above) ↦ adds.added pair (in_range members singly low high pair h (omega arith) (omega arith) (inr (omega arith)))
    ]
    | inl equal ↦ adds.added pair (in_range members singly low high pair h (omega arith) (omega arith) (inl (omega arith)))
    | inr (inr above) ↦ adds.added pair (in_range members singly low high pair h (omega arith) (omega arith) (inl (omega arith)))
  ];
  only = λ pair h. elim (adds.only pair h) [
    | inl was ↦ cuts.only pair was
    | inr new ↦ inr (of_range members singly low high pair new)
  ];
}

-- once all bytes of runs are below, the tasks have the members' pairs
pub cut_all : (members : List Member) (singly : ℕ) (old new : List Task) → CutsBelow members singly (2 ^ 64) old new → GrowsBy (OneHas IsTaskPair old) (OneHas IsTaskPair new) (IsPartedPair (OneHas IsRunOf members))
cut_all members singly old new cuts = record {
  kept = cuts.kept;
  added = λ pair h.
      let shares = h.lines.conflict.shares in
      let a = (reach_at singly h.a.1 shares.byte shares.first).from in
      let b = (reach_at singly h.b.1 shares.byte shares.second).from in
      let to = to_last h.a.1 shares.byte shares.first in
      let bounded = h.a.1.bounded in
      cuts.added pair h (omega arith) (omega arith);
  only = cuts.only;
}

pub cuts_less : (members : List Member) (singly less more : ℕ) (old new : List Task) → less ≤ more → CutsBelow members singly more old new → CutsBelow members singly less old new
cuts_less members singly less more old new fewer cuts = record { kept = cuts.kept; added = λ pair h first second. cuts.added pair h (omega arith) (omega arith); only = cuts.only }
