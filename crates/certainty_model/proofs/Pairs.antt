-- Two runs of a part of a task, from states that differ only in what will be read and drawn: they go on alike until they read different
-- values of one element.
use Rattle.std.proofs.Common.{◌≡◌, refl, sym, subst, ℕ, List, [], ◌∷◌, ◌++◌, length, ℤ}
use Rattle.std.proofs.lemmas.List.Elements.{All-nil, All-cons}
use Rattle.kernel_syntax.specs.Tree.{TeamTree}
use Rattle.log_format.specs.declared.record.Record.{Record}
use Rattle.log_format.specs.declared.record.Kind.{Kind}
use Rattle.log_format.specs.declared.record.Kind.TheVariants as kind
use Rattle.log_format.specs.Fitting.{fitted}
use Rattle.race_model.specs.Trace.{region_count}
use Rattle.kernel_model.specs.State.{State, Fork, Outcome, Gives, Stops, Wants, and_then, after, event, assign, state_of}
use Rattle.kernel_model.specs.declared.stop.StopWhy.{StopWhy}
use Rattle.kernel_model.specs.Value.{Element, access}
use Rattle.kernel_model.specs.Trace.{forked}
use Rattle.kernel_model.proofs.SingleSteps.{with_record, KeepsPlainSteps}
use Rattle.kernel_model.proofs.Steps.{kept-and_then}
use Rattle.kernel_rules.proofs.Adds.{AddsSo, StaysSo, AreSo, adds_nothing, adds_record, adds_chain, each_stays, one_so}
use Rattle.certainty_model.specs.Certain.{IsFixed}

-- ---- what statements add

-- a record that ends no task and is none of a mutex
abbrev pub IsQuiet : Kind → Type 0
IsQuiet kind.Lock = ⊥
IsQuiet kind.Unlock = ⊥
IsQuiet kind.End = ⊥
IsQuiet kind.Update = ⊥
IsQuiet _ = Unit {0}

abbrev pub QuietRecord : Record → Type 0
QuietRecord r = IsQuiet r.kind

abbrev pub FixedFork : Fork → Type 0
FixedFork f = IsFixed f.team.body

-- only quiet records are added, and regions of fixed teams
abbrev pub Adds : State → State → Type 0
Adds = AddsSo (AreSo QuietRecord FixedFork)

pub stays : StaysSo (AreSo QuietRecord FixedFork)
stays = each_stays QuietRecord FixedFork

pub adds_quiet : (r : Record) (s t : State) → IsQuiet r.kind → t.records ≡ s.records ++ r ∷ [] → t.forks ≡ s.forks → Adds s t
adds_quiet r s t quiet = adds_record r s t (one_so QuietRecord FixedFork r quiet)

pub adds_region : (team : TeamTree) (room : ℕ) (s : State) → IsFixed team.body → Adds s (forked team (with_record (event kind.Region team.line 0 team.span) room s))
adds_region team room s fixed = record {
  added = event kind.Region team.line 0 team.span ∷ [];
  records_are = refl;
  regions = record { team = team; slots = s.slots } ∷ [];
  forks_are = refl;
  is = (
    All-cons QuietRecord (event kind.Region team.line 0 team.span) [] tt (All-nil QuietRecord),
    All-cons FixedFork (record { team = team; slots = s.slots }) [] fixed (All-nil FixedFork),
  );
}

pub adds_plain : KeepsPlainSteps Adds
adds_plain = record {
  same = λ s. adds_nothing stays s s refl refl;
  chain = adds_chain stays;
  assigns = λ slot v s. adds_nothing stays s (assign slot v s) refl refl;
  writes = λ r room s is write. adds_quiet r s _ (subst IsQuiet (sym write) tt) refl refl;
  reads = λ e site line room v reads s is prefix. adds_quiet (access kind.Read e site line (fitted v e.width)) s _ tt refl refl;
  draws = λ line n room q chunks s is prefix. adds_quiet _ s _ tt refl refl;
}

-- ---- pairs of runs

-- what a task will read and draw
pub record Own : Type 0 where
  pub reads : List ℤ
  pub chunks : List ℕ

-- the state that is all else, with this to be read and drawn
abbrev pub with : State → Own → State
with c own = record c { reads = own.reads; chunks = own.chunks }

-- each Region record has its fork
abbrev pub IsEven : State → Type 0
IsEven c = length c.forks ≡ region_count c.records

-- from one state two read different values of one element
pub record Cut : Type 0 where
  pub core : State
  pub even : IsEven core
  pub element : Element
  pub site : ℕ
  pub line : ℕ
  pub room : ℕ
  pub left : ℤ
  pub right : ℤ
  pub apart : fitted left element.width ≡ fitted right element.width → ⊥
  pub left_own : Own
  pub right_own : Own

-- the state after a value is read there
abbrev pub after_read : Cut → ℤ → Own → State
after_read d v own = with (with_record (access kind.Read d.element d.site d.line (fitted v d.element.width)) d.room d.core) own

-- the two have parted so, and have gone on
pub record Parting (s t : State) : Type 0 where
  pub cut : Cut
  pub left_adds : Adds (after_read cut cut.left cut.left_own) s
  pub right_adds : Adds (after_read cut cut.right cut.right_own) t

-- The two end alike, or one of them wants a value in a state from which the other goes on, or they part.
pub data Pair {A : Type 0} : Outcome A → Outcome A → Type 0 where
  gives : (a : A) (c : State) (p q : Own) → IsEven c → Pair (Gives a (with c p)) (Gives a (with c q))
  stops : (why : StopWhy) (line : ℕ) (c : State) (p q : Own) → IsEven c → Pair (Stops why line (with c p)) (Stops why line (with c q))
  left_wants : (c : State) (p : Own) (o : Outcome A) → IsEven c → Adds c (state_of o) → Pair (Wants (with c p)) o
  right_wants : (c : State) (q : Own) (o : Outcome A) → IsEven c → Adds c (state_of o) → Pair o (Wants (with c q))
  parts : (m o : Outcome A) → Parting (state_of m) (state_of o) → Pair m o

-- a part of a task whose runs are so
pub record Pairs {A : Type 0} (part : State → Outcome A) : Type 0 where
  pub adds : (s : State) → Adds s (state_of (part s))
  pub pairs : (c : State) (p q : Own) → IsEven c → Pair (part (with c p)) (part (with c q))

parts_later : (s t u v : State) → Parting s t → Adds s u → Adds t v → Parting u v
parts_later s t u v d more other = record { cut = d.cut; left_adds = adds_plain.chain _ s u d.left_adds more; right_adds = adds_plain.chain _ t v d.right_adds other }

module _ {A B : Type 0} (next : A → State → Outcome B) (later : (a : A) → Pairs (next a)) where
  goes_on : (m : Outcome A) → Adds (state_of m) (state_of (and_then m next))
  goes_on m = kept-and_then Adds adds_plain (state_of m) m next (adds_plain.same (state_of m)) (λ a t. (later a).adds t)

  pair-and_then : (m o : Outcome A) → Pair m o → Pair (and_then m next) (and_then o next)
  pair-and_then _ _ (Pair.gives a c p q even) = (later a).pairs c p q even
  pair-and_then _ _ (Pair.stops why line c p q even) = Pair.stops why line c p q even
  pair-and_then _ _ (Pair.left_wants c p o even adds) = Pair.left_wants c p (and_then o next) even (adds_plain.chain c (state_of o) _ adds (goes_on o))
  pair-and_then _ _ (Pair.right_wants c q o even adds) = Pair.right_wants c q (and_then o next) even (adds_plain.chain c (state_of o) _ adds (goes_on o))
  pair-and_then _ _ (Pair.parts m o d) = Pair.parts (and_then m next) (and_then o next) (parts_later (state_of m) (state_of o) _ _ d (goes_on m) (goes_on o))

-- one part after another
pub then-value : {A B : Type 0} (part : State → Outcome A) (next : A → State → Outcome B) → Pairs part → ((a : A) → Pairs (next a)) → Pairs (λ s. and_then (part s) next)
then-value part next first later = record {
  adds = λ s. kept-and_then Adds adds_plain s (part s) next (first.adds s) (λ a t. (later a).adds t);
  pairs = λ c p q even. pair-and_then next later (part (with c p)) (part (with c q)) (first.pairs c p q even);
}

after_is : (m : Outcome (Unit {0})) (next : State → Outcome (Unit {0})) → and_then m (λ u s. next s) ≡ after m next
after_is (Gives tt s) next = refl
after_is (Stops why line s) next = refl
after_is (Wants s) next = refl

pub then-run : (part next : State → Outcome (Unit {0})) → Pairs part → Pairs next → Pairs (λ s. after (part s) next)
then-run part next first later = subst Pairs (λ i s. after_is (part s) next i) (then-value part (λ u s. next s) first (λ u. later))

-- a value or a stop alone
pub gives-pairs : {A : Type 0} (a : A) → Pairs (λ s. Gives a s)
gives-pairs a = record { adds = λ s. adds_plain.same s; pairs = λ c p q even. Pair.gives a c p q even }

pub stops-pairs : {A : Type 0} (why : StopWhy) (line : ℕ) → Pairs {A = A} (λ s. Stops why line s)
stops-pairs why line = record { adds = λ s. adds_plain.same s; pairs = λ c p q even. Pair.stops why line c p q even }
