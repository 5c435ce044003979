-- How parts that were followed make a longer one.
use Rattle.std.proofs.Common.{◌≡◌, refl, ap, sym, ◌∙◌, subst, ℕ, List, ◌∷◌, ◌++◌, append_assoc, Option, Result, Ok, Err}
use Rattle.sw_base.specs.Environment.{FolderState}
use Rattle.log_format.specs.declared.record.Record.{Record}
use Rattle.kernel_model.specs.State.{State, Outcome, Gives, Stops, Wants, and_then, after, state_of}
use Rattle.kernel_model.specs.Growth.{Grows}
use Rattle.log_replay.specs.Differing.{DiffersAt}
use Rattle.log_replay.specs.Following.{Standing, HasReadTo, here, Strays, IsOff, Ends, FollowsPart}
use Rattle.log_replay.specs.declared.stray.Stray.{Stray}
use Rattle.log_replay.specs.declared.stray.Stray.TheVariants as stray

-- ---- leaving the log

pub strays_differ : (records log : List Record) (number : ℕ) → Strays records log number → DiffersAt records log number
strays_differ records log number s = record {
  before = s.before;
  others = s.own ∷ s.others;
  theirs = s.theirs;
  rest = s.rest;
  trace_is = s.records_are;
  log_is = s.log_is;
  apart = λ more same. s.apart (cc same);
  number_is = s.number_is;
}

strays_grown : (records more log : List Record) (number : ℕ) → Strays records log number → Strays (records ++ more) log number
strays_grown records more log number s = record {
  before = s.before;
  own = s.own;
  others = s.others ++ more;
  theirs = s.theirs;
  rest = s.rest;
  records_are = ap (λ (l : List Record). l ++ more) s.records_are ∙ append_assoc s.before (s.own ∷ s.others) more;
  log_is = s.log_is;
  apart = s.apart;
  number_is = s.number_is;
}

-- what goes on from records that have left the log has left it
off_grown : {A : Type 0} (log : List Record) (number : ℕ) (s : State) (o : Outcome A) → Grows s (state_of o) → Strays s.records log number → IsOff log number o
off_grown log number s (Gives a t) grows strays =
    subst (λ (l : List Record). Strays l log number) (sym grows.records_are) (strays_grown s.records grows.added log number strays)
off_grown log number s (Stops why line t) grows strays =
    strays_differ t.records log number (subst (λ (l : List Record). Strays l log number) (sym grows.records_are) (strays_grown s.records grows.added log number strays))
off_grown log number s (Wants t) grows strays =
    strays_differ t.records log number (subst (λ (l : List Record). Strays l log number) (sym grows.records_are) (strays_grown s.records grows.added log number strays))

pub off_then : {A B : Type 0} (log : List Record) (number : ℕ) (o : Outcome A) (next : A → State → Outcome B) → ((a : A) (s : State) → Grows s (state_of (next a s))) → IsOff log number o
    → IsOff log number (and_then o next)
off_then log number (Gives a s) next grows off = off_grown log number s (next a s) (grows a s) off
off_then log number (Stops why line s) next grows off = off
off_then log number (Wants s) next grows off = off

pub off_differs : {A : Type 0} (log : List Record) (number : ℕ) (o : Outcome A) → IsOff log number o → DiffersAt (state_of o).records log number
off_differs log number (Gives a s) off = strays_differ s.records log number off
off_differs log number (Stops why line s) off = off
off_differs log number (Wants s) off = off

-- ---- one part after another

pub after_is : (o : Outcome (Unit {0})) (next : State → Outcome (Unit {0})) → after o next ≡ and_then o (λ u s. next s)
after_is (Gives a s) next = refl
after_is (Stops why line s) next = refl
after_is (Wants s) next = refl

pub follows_same : {A : Type 0} (told : FolderState) (m n : State → Outcome A) (old new : Standing) (r : Result A Stray) → ((s : State) → n s ≡ m s) → FollowsPart told m old new r → FollowsPart told n old new r
follows_same {A = A} told m n old new r same follows = λ log done rest at. subst (λ (o : Outcome A). Ends told log o new r) (sym (same (here old done rest))) (follows log done rest at)

pub follows_nothing : {A : Type 0} (told : FolderState) (a : A) (x : Standing) → FollowsPart told (λ s. Gives a s) x x (Ok a)
follows_nothing told a x = λ log done rest at. record { done = done; rest = rest; at = at; gives = refl }

module _ {A B : Type 0} (told : FolderState) (m : State → Outcome A) (next : A → State → Outcome B) (old : Standing) where
  pub follows_then : (told' : FolderState) → told' ≡ told → (a : A) (mid new : Standing) (r : Result B Stray) → FollowsPart told m old mid (Ok a) → FollowsPart told' (next a) mid new r
      → FollowsPart told (λ s. and_then (m s) next) old new r
  follows_then told' same a mid new r first second = λ log done rest at.
      let one = first log done rest at in
      subst (λ (o : Outcome A). Ends told log (and_then o next) new r) (sym one.gives)
      (subst (λ (t : FolderState). Ends t log (next a (here mid one.done one.rest)) new r) same
      (second log one.done one.rest (subst (λ (t : FolderState). HasReadTo t log one.done one.rest mid) (sym same) one.at)))

  pub follows_stop : (new new' : Standing) (e : Stray) → ((a : A) (s : State) → Grows s (state_of (next a s))) → FollowsPart told m old new (Err e) → FollowsPart told (λ s. and_then (m s) next) old new' (Err e)
  follows_stop new new' (stray.Differs number) grows follows = λ log done rest at. off_then log number (m (here old done rest)) next grows (follows log done rest at)
  follows_stop new new' stray.ReadFault grows follows = λ log done rest at. tt
  follows_stop new new' stray.Memory grows follows = λ log done rest at. tt

module _ (told : FolderState) (m next : State → Outcome (Unit {0})) (old : Standing) where
  pub then_after : (told' : FolderState) → told' ≡ told → (mid new : Standing) (r : Result (Unit {0}) Stray) → FollowsPart told m old mid (Ok tt) → FollowsPart told' next mid new r
      → FollowsPart told (λ s. after (m s) next) old new r
  then_after told' same mid new r first second =
      follows_same told (λ s. and_then (m s) (λ u t. next t)) (λ s. after (m s) next) old new r (λ s. after_is (m s) next)
      (follows_then told m (λ u t. next t) old told' same tt mid new r first second)

  pub stop_after : (new new' : Standing) (e : Stray) → ((s : State) → Grows s (state_of (next s))) → FollowsPart told m old new (Err e) → FollowsPart told (λ s. after (m s) next) old new' (Err e)
  stop_after new new' e grows follows =
      follows_same told (λ s. and_then (m s) (λ u t. next t)) (λ s. after (m s) next) old new' (Err e) (λ s. after_is (m s) next)
      (follows_stop told m (λ u t. next t) old new new' e (λ u s. grows s) follows)

-- the folder tells the same later
pub retold : {A : Type 0} (told told' : FolderState) (part : State → Outcome A) (old new : Standing) (r : Result A Stray) → told' ≡ told → FollowsPart told' part old new r → FollowsPart told part old new r
retold {A = A} told told' part old new r same follows = subst (λ (t : FolderState). FollowsPart {A = A} t part old new r) same follows
