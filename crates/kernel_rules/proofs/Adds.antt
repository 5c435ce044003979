-- What a part of a task adds to the records and the forks, where what is so of two parts is so of both together.
use Rattle.std.proofs.Common.{◌≡◌, ap, sym, ◌∙◌, List, [], ◌∷◌, ◌++◌, append_assoc, All}
use Rattle.std.proofs.lemmas.List.{append-nil}
use Rattle.std.proofs.lemmas.List.Elements.{All-nil, All-cons, All-append}
use Rattle.log_format.specs.declared.record.Record.{Record}
use Rattle.kernel_model.specs.State.{State, Fork}

pub record AddsSo (IsSo : List Record → List Fork → Type 0) (s t : State) : Type 0 where
  pub added : List Record
  pub records_are : t.records ≡ s.records ++ added
  pub regions : List Fork
  pub forks_are : t.forks ≡ s.forks ++ regions
  pub is : IsSo added regions

-- it is so of nothing, and of two parts together
pub record StaysSo (IsSo : List Record → List Fork → Type 0) : Type 0 where
  pub nothing : IsSo [] []
  pub both : (rs more : List Record) (fs others : List Fork) → IsSo rs fs → IsSo more others → IsSo (rs ++ more) (fs ++ others)

pub adds_nothing : {IsSo : List Record → List Fork → Type 0} → StaysSo IsSo → (s t : State) → t.records ≡ s.records → t.forks ≡ s.forks → AddsSo IsSo s t
adds_nothing stays s t records forks = record {
  added = [];
  records_are = records ∙ sym (append-nil s.records);
  regions = [];
  forks_are = forks ∙ sym (append-nil s.forks);
  is = stays.nothing;
}

pub adds_record : {IsSo : List Record → List Fork → Type 0} (r : Record) (s t : State) → IsSo (r ∷ []) [] → t.records ≡ s.records ++ r ∷ [] → t.forks ≡ s.forks → AddsSo IsSo s t
adds_record r s t is records forks = record { added = r ∷ []; records_are = records; regions = []; forks_are = forks ∙ sym (append-nil s.forks); is = is }

pub adds_fork : {IsSo : List Record → List Fork → Type 0} (s t : State) (f : Fork) → IsSo [] (f ∷ []) → t.records ≡ s.records → t.forks ≡ s.forks ++ f ∷ [] → AddsSo IsSo s t
adds_fork s t f is records forks = record { added = []; records_are = records ∙ sym (append-nil s.records); regions = f ∷ []; forks_are = forks; is = is }

pub adds_chain : {IsSo : List Record → List Fork → Type 0} → StaysSo IsSo → (s t u : State) → AddsSo IsSo s t → AddsSo IsSo t u → AddsSo IsSo s u
adds_chain stays s t u one more = record {
  added = one.added ++ more.added;
  records_are = more.records_are ∙ ap (λ (l : List Record). l ++ more.added) one.records_are ∙ append_assoc s.records one.added more.added;
  regions = one.regions ++ more.regions;
  forks_are = more.forks_are ∙ ap (λ (l : List Fork). l ++ more.regions) one.forks_are ∙ append_assoc s.forks one.regions more.regions;
  is = stays.both one.added more.added one.regions more.regions one.is more.is;
}

-- each record is so, and each fork
abbrev pub AreSo : (Record → Type 0) → (Fork → Type 0) → List Record → List Fork → Type 0
AreSo P F rs fs = All P rs × All F fs

pub each_stays : (P : Record → Type 0) (F : Fork → Type 0) → StaysSo (AreSo P F)
each_stays P F = record {
  nothing = (All-nil P, All-nil F);
  both = λ rs more fs others is also. (All-append P rs more is.0 also.0, All-append F fs others is.1 also.1);
}

pub one_so : (P : Record → Type 0) (F : Fork → Type 0) (r : Record) → P r → AreSo P F (r ∷ []) []
one_so P F r is = (All-cons P r [] is (All-nil P), All-nil F)

pub fork_so : (P : Record → Type 0) (F : Fork → Type 0) (f : Fork) → F f → AreSo P F [] (f ∷ [])
fork_so P F f is = (All-nil P, All-cons F f [] is (All-nil F))
