-- The entries of a history, and the records of the logs that they are of.
use Rattle.std.proofs.Common.{◌≡◌, refl, ap, sym, ◌∙◌, subst, ◌⊎◌, inl, inr, ℕ, zero, suc, ◌+◌, Bool, true, false, List, [], ◌∷◌, ◌++◌, append_assoc, Some, arith}
use Rattle.std.specs.Prelude.{slice_get, map, reverse}
use Rattle.std.proofs.lemmas.List.{append-nil}
use Rattle.std.proofs.lemmas.Option.{same_Some}
use Rattle.sw_base.specs.declared.path.Step.{Step}
use Rattle.sw_base.proofs.Lists.{get_more}
use Rattle.step_history.proofs.Labelled.{filter_yes, filter_no}
use Rattle.log_format.specs.declared.record.Record.{Record}
use Rattle.log_format.specs.declared.record.Kind.TheVariants as kind
use Rattle.race_model.specs.History.{Entry, entry_of, entries_from, task_entries, release, IsHistory, RespectsOrder, FitsKind, IsLegalAfter}
use Rattle.race_model.specs.Order.{HappensBefore}
use Rattle.race_model.specs.Race.{held_after}
use Rattle.race_model.specs.Trace.{Logs, Node, record_at, path_eq}
use Rattle.race_model.proofs.TraceLogs.{path_itself}
use Rattle.history_laws.proofs.LongerLogs.{released_on}
use Rattle.history_laws.proofs.Members.{of_log}

-- the list has the entry
abbrev pub Has : Entry → List Entry → Type 0
Has e [] = ⊥
Has e (f ∷ es) = (f ≡ e) ⊎ Has e es

pub has_either : (e : Entry) (xs ys : List Entry) → Has e (xs ++ ys) → Has e xs ⊎ Has e ys
has_either e [] ys has = inr has
has_either e (x ∷ xs) ys (inl here) = inl (inl here)
has_either e (x ∷ xs) ys (inr later) = elim (has_either e xs ys later) [ inl one ↦ inl (inr one) | inr other ↦ inr other ]

pub has_left : (e : Entry) (xs ys : List Entry) → Has e xs → Has e (xs ++ ys)
has_left e [] ys has = absurd has
has_left e (x ∷ xs) ys (inl here) = inl here
has_left e (x ∷ xs) ys (inr later) = inr (has_left e xs ys later)

pub has_right : (e : Entry) (xs ys : List Entry) → Has e ys → Has e (xs ++ ys)
has_right e [] ys has = has
has_right e (x ∷ xs) ys has = inr (has_right e xs ys has)

-- the entries before it and after it
pub record Around (es : List Entry) (e : Entry) : Type 0 where
  pub before : List Entry
  pub after : List Entry
  pub parts : es ≡ before ++ e ∷ after

pub around : (e : Entry) (es : List Entry) → Has e es → Around es e
around e [] has = absurd has
around e (f ∷ es) (inl here) = record { before = []; after = es; parts = ap (λ (x : Entry). x ∷ es) here }
around e (f ∷ es) (inr later) = let a = around e es later in record { before = f ∷ a.before; after = a.after; parts = ap (λ (xs : List Entry). f ∷ xs) a.parts }

-- the list has the first entry before the second
pub record InOrder (es : List Entry) (x y : Entry) : Type 0 where
  pub earlier : List Entry
  pub later : List Entry
  pub parts : es ≡ earlier ++ y ∷ later
  pub first : Has x earlier

pub first_in : (es : List Entry) (x y : Entry) → InOrder es x y → Has x es
first_in es x y o = subst (λ (xs : List Entry). Has x xs) (sym o.parts) (has_left x o.earlier (y ∷ o.later) o.first)

pub second_in : (es : List Entry) (x y : Entry) → InOrder es x y → Has y es
second_in es x y o = subst (λ (xs : List Entry). Has y xs) (sym o.parts) (has_right y o.earlier (y ∷ o.later) (inl refl))

-- so it has them in a longer list
pub order_more : (es rest : List Entry) (x y : Entry) → InOrder es x y → InOrder (es ++ rest) x y
order_more es rest x y o = record {
  earlier = o.earlier;
  later = o.later ++ rest;
  parts = ap (λ (xs : List Entry). xs ++ rest) o.parts ∙ append_assoc o.earlier (y ∷ o.later) rest;
  first = o.first;
}

-- an entry of the first part stands before those behind it
pub order_parts : (before after : List Entry) (x y : Entry) → Has x before → Has y after → InOrder (before ++ after) x y
order_parts before after x y one two =
    let a = around y after two in
    record {
      earlier = before ++ a.before;
      later = a.after;
      parts = ap (λ (xs : List Entry). before ++ xs) a.parts ∙ sym (append_assoc before a.before (y ∷ a.after));
      first = has_left x before a.before one;
    }

-- what happens before an entry doesn't stand behind it
pub respected : (logs : Logs) (history : List Entry) → RespectsOrder logs history → (x y : Entry) → InOrder history x y → HappensBefore logs y.node x.node → ⊥
respected logs history order x y o =
    let a = around x o.earlier o.first in
    order a.before a.after o.later x y
    (o.parts ∙ (ap (λ (xs : List Entry). xs ++ y ∷ o.later) a.parts ∙ append_assoc a.before (x ∷ a.after) (y ∷ o.later)))

-- each entry of a legal history fits those before it
pub legal_at : (past before after : List Entry) (e : Entry) → IsLegalAfter past (before ++ e ∷ after) → FitsKind e.event.kind (past ++ before) e.event e.node.path
legal_at past [] after e legal = subst (λ (es : List Entry). FitsKind e.event.kind es e.event e.node.path) (sym (append-nil past)) legal.0
legal_at past (b ∷ before) after e legal =
    subst (λ (es : List Entry). FitsKind e.event.kind es e.event e.node.path) (append_assoc past (b ∷ []) before) (legal_at (past ++ b ∷ []) before after e legal.1)

place : (e : Entry) (es : List Entry) → Has e es → (n : ℕ) × (slice_get es n ≡ Some e)
place e [] has = absurd has
place e (f ∷ es) (inl here) = (0, ap Some here)
place e (f ∷ es) (inr later) = let p = place e es later in (suc p.0, p.1)

-- ---- the entries of one task

own_of : (e : Entry) (es : List Entry) → Has e es → Has e (task_entries e.node.path es)
own_of e [] has = absurd has
own_of e (f ∷ es) (inl here) =
    subst (λ (xs : List Entry). Has e xs) (sym (filter_yes (λ (x : Entry). path_eq x.node.path e.node.path) f es
    (ap (λ (x : Entry). path_eq x.node.path e.node.path) here ∙ path_itself e.node.path))) (inl here)
own_of e (f ∷ es) (inr later) = by (path_eq f.node.path e.node.path) refl (own_of e es later)
  where
    by : (b : Bool) → path_eq f.node.path e.node.path ≡ b → Has e (task_entries e.node.path es) → Has e (task_entries e.node.path (f ∷ es))
    by true is has = subst (λ (xs : List Entry). Has e xs) (sym (filter_yes (λ (x : Entry). path_eq x.node.path e.node.path) f es is)) (inr has)
    by false is has = subst (λ (xs : List Entry). Has e xs) (sym (filter_no (λ (x : Entry). path_eq x.node.path e.node.path) f es is)) has

of_own : (e : Entry) (path : List Step) (es : List Entry) → Has e (task_entries path es) → Has e es
of_own e path [] has = absurd has
of_own e path (f ∷ es) has = by (path_eq f.node.path path) refl (of_own e path es)
  where
    by : (b : Bool) → path_eq f.node.path path ≡ b → (Has e (task_entries path es) → Has e es) → Has e (f ∷ es)
    by true is rest = first (subst (λ (xs : List Entry). Has e xs) (filter_yes (λ (x : Entry). path_eq x.node.path path) f es is) has)
      where
        first : Has e (f ∷ task_entries path es) → Has e (f ∷ es)
        first (inl here) = inl here
        first (inr later) = inr (rest later)
    by false is rest = inr (rest (subst (λ (xs : List Entry). Has e xs) (filter_no (λ (x : Entry). path_eq x.node.path path) f es is) has))

abbrev pub entry : Node → Record → Entry
entry x r = record { node = x; event = r }

-- a record of a kind that a history has is among the entries of its log
abbrev pub IsKept : Record → Type 0
IsKept r = (e : Entry) → entry_of r.kind e ≡ e ∷ []

in_log : (path : List Step) (i j n : ℕ) (records : List Record) (r : Record) → j ≡ i + n → slice_get records n ≡ Some r → IsKept r
    → Has (entry (record { path = path; index = j }) r) (entries_from path i records)
in_log path i j n [] r index found kept = cc
in_log path i j zero (q ∷ records) r index found kept =
    has_left it (entry_of q.kind (entry (record { path = path; index = i }) q)) (entries_from path (i + 1) records)
    (subst (λ (es : List Entry). Has it es) (sym (subst (λ (s : Record). IsKept s) (sym same) kept (entry (record { path = path; index = i }) q)))
    (inl (λ k. record { node = record { path = path; index = index_is k }; event = same k })))
  where
    it : Entry
    it = entry (record { path = path; index = j }) r

    same : q ≡ r
    same = cc

    index_is : i ≡ j
    index_is = omega arith
in_log path i j (suc n) (q ∷ records) r index found kept =
    has_right (entry (record { path = path; index = j }) r) (entry_of q.kind (entry (record { path = path; index = i }) q)) (entries_from path (i + 1) records)
    (in_log path (i + 1) j n records r (omega arith) found kept)

-- what isn't released is in the log
put_here : (records : List Record) (mutexes : List ℕ) (i : ℕ) (r : Record) → slice_get (records ++ map release mutexes) i ≡ Some r → (r.kind ≡ kind.Unlock → ⊥) → slice_get records i ≡ Some r
put_here [] mutexes i r found other = absurd (other (unlock mutexes i found))
  where
    unlock : (ms : List ℕ) (k : ℕ) → slice_get (map release ms) k ≡ Some r → r.kind ≡ kind.Unlock
    unlock [] k found = cc
    unlock (m ∷ ms) zero found = cc
    unlock (m ∷ ms) (suc k) found = unlock ms k found
put_here (q ∷ records) mutexes zero r found other = found
put_here (q ∷ records) mutexes (suc i) r found other = put_here records mutexes i r found other

module _ (logs : Logs) (history : List Entry) (is : IsHistory logs history) where
  in_full : (e : Entry) → Has e history → slice_get (is.full e.node.path) e.node.index ≡ Some e.event
  in_full e has =
      let own : Has e (entries_from e.node.path 0 (is.full e.node.path)) = subst (λ (es : List Entry). Has e es) (is.each e.node.path) (own_of e history has) in
      let at = place e (entries_from e.node.path 0 (is.full e.node.path)) own in
      let o = of_log e.node.path 0 (is.full e.node.path) e at.0 at.1 in
      ap (λ (n : ℕ). slice_get (is.full e.node.path) n) (omega (arith, o.index)) ∙ o.found

  -- an entry that isn't released is of a record of the logs
  pub entry_record : (e : Entry) → Has e history → (e.event.kind ≡ kind.Unlock → ⊥) → record_at logs e.node ≡ Some e.event
  entry_record e has other = elim (is.is_released e.node.path) [
    | inl same ↦ ap (λ (rs : List Record). slice_get rs e.node.index) (sym same) ∙ in_full e has
    | inr same ↦
        put_here (logs e.node.path) (reverse (held_after [] (logs e.node.path))) e.node.index e.event (ap (λ (rs : List Record). slice_get rs e.node.index) (sym same) ∙ in_full e has) other
  ]

  -- at most one record is at the node
  pub entry_is : (e : Entry) (r : Record) → Has e history → record_at logs e.node ≡ Some r → e.event ≡ r
  entry_is e r has found =
      let on = released_on logs is.full is.is_released e.node.path in
      let in_it : slice_get (is.full e.node.path) e.node.index ≡ Some r = ap (λ (rs : List Record). slice_get rs e.node.index) on.1 ∙ get_more (logs e.node.path) on.0 e.node.index r found in
      same_Some e.event r (sym (in_full e has) ∙ in_it)

  -- the logs' records of kinds that a history has are there
  pub record_entry : (x : Node) (r : Record) → record_at logs x ≡ Some r → IsKept r → Has (entry x r) history
  record_entry x r found kept =
      let on = released_on logs is.full is.is_released x.path in
      let in_it : slice_get (is.full x.path) x.index ≡ Some r = ap (λ (rs : List Record). slice_get rs x.index) on.1 ∙ get_more (logs x.path) on.0 x.index r found in
      of_own (entry x r) x.path history
      (subst (λ (es : List Entry). Has (entry x r) es) (sym (is.each x.path)) (in_log x.path 0 x.index x.index (is.full x.path) r (omega arith) in_it kept))
