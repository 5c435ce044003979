-- In serial order every step fits those before it, where it finds the words and mutexes as they were left: a hand is out while its own lanes
-- and those below it work.
use Rattle.std.proofs.Common.{◌≡◌, refl, ap, ap₂, sym, ◌∙◌, subst, inr, ℕ, suc, ◌+◌, ◌<◌, ◌≤◌, Bool, true, false, List, [], ◌∷◌, ◌++◌, length, map, append_assoc, arith, length-append}
use Rattle.std.specs.Prelude.{◌&&◌, ◌||◌, ◌==◌, not}
use Rattle.std.proofs.lemmas.List.{append-nil}
use Rattle.std.proofs.lemmas.List.Folds.{list_any-append}
use Rattle.step_history.proofs.Folds.{still_out}
use Rattle.log_format.specs.declared.record.Record.{Record}
use Rattle.log_format.specs.declared.record.Kind.{Kind}
use Rattle.log_format.specs.declared.record.Kind.TheVariants as kind
use Rattle.step_history.specs.declared.item.Item.{Item}
use Rattle.step_history.specs.declared.item.Deed.TheVariants as deed
use Rattle.step_history.specs.History.{Name, name_eq, item, is_home, is_split, came_home, was_split, is_out, LegalAfter, HasHistory}
use Rattle.step_history.proofs.Names.{is_same_name}
use Rattle.history_model.specs.Work.{Work, Rest, Put, Fork, Phases, NoPhase, Phase, TeamWork, NoWork, Beside}
use Rattle.history_model.specs.Did.{deeds_of, lane_count_of, phase_splits, split_count, splits_of, did, did_phases, did_team}
use Rattle.history_laws.proofs.WorkNames.{apart_below, longer}
use Rattle.serial_model.specs.Serial.{FindSo, IsSerial, Leaves}
use Rattle.serial_model.proofs.Homes.{Untouched, came_both, home_first, puts_home, splits_home, did_home, phases_home, team_home}

-- ---- parts of lists

find_left : (before xs ys : List Item) → FindSo before (xs ++ ys) → FindSo before xs
find_left before [] ys find = tt
find_left before (x ∷ xs) ys find = (find.0, find_left (before ++ x ∷ []) xs ys find.1)

find_right : (before xs ys : List Item) → FindSo before (xs ++ ys) → FindSo (before ++ xs) ys
find_right before [] ys find = subst (λ (h : List Item). FindSo h ys) (sym (append-nil before)) find
find_right before (x ∷ xs) ys find = subst (λ (h : List Item). FindSo h ys) (append_assoc before (x ∷ []) xs) (find_right (before ++ x ∷ []) xs ys find.1)

legal_both : (before xs ys : List Item) → LegalAfter before xs → LegalAfter (before ++ xs) ys → LegalAfter before (xs ++ ys)
legal_both before [] ys one other = subst (λ (h : List Item). LegalAfter h ys) (append-nil before) other
legal_both before (x ∷ xs) ys one other = (one.0, legal_both (before ++ x ∷ []) xs ys one.1 (subst (λ (h : List Item). LegalAfter h ys) (sym (append_assoc before (x ∷ []) xs)) other))

-- ---- a hand that goes on

-- the hand's later splits, and all hands below them
data Later (name : Name) (k : ℕ) (p : Name) (i : ℕ) : Type 0 where
  own : p ≡ name → k ≤ i → Later name k p i
  under : (pre : Name) (j : ℕ) → p ≡ pre ++ j ∷ name → k ≤ j → Later name k p i

-- the hand is out, and no hand of its splits from k on is known yet
record Ready (name : Name) (k : ℕ) (before : List Item) : Type 0 where
  out : is_out name before ≡ true
  free : (p : Name) (i : ℕ) → Later name k p i → came_home p i before ≡ false

-- the hand itself isn't joined
abbrev Stays : Name → List Item → Type 0
Stays name xs = (c : ℕ) (q : Name) → name ≡ c ∷ q → came_home q c xs ≡ false

out_more : (name : Name) (before xs : List Item) → is_out name before ≡ true → Stays name xs → is_out name (before ++ xs) ≡ true
out_more [] before xs out stays = refl
out_more (c ∷ q) before xs out stays =
    ap₂ (λ (a b : Bool). a && not b)
    (list_any-append (λ (x : Item). name_eq x.name q && is_split c x.deed) before xs)
    (list_any-append (λ (x : Item). name_eq x.name q && is_home c x.deed) before xs ∙ ap (λ (b : Bool). came_home q c before || b) (stays c q refl))
    ∙ still_out (was_split q c before) (came_home q c before) (was_split q c xs) out

ready_more : (name : Name) (k j : ℕ) (before xs : List Item) → Ready name k before → k ≤ j → Stays name xs → ((p : Name) (i : ℕ) → Later name j p i → came_home p i xs ≡ false)
    → Ready name j (before ++ xs)
ready_more name k j before xs r le stays none = record {
  out = out_more name before xs r.out stays;
  free = λ p i later. came_both p i before xs (r.free p i (earlier p i later)) (none p i later);
}
  where
    earlier : (p : Name) (i : ℕ) → Later name j p i → Later name k p i
    earlier p i (Later.own same more) = Later.own same (omega arith)
    earlier p i (Later.under pre l same more) = Later.under pre l same (omega arith)

shorter : (name : Name) (c : ℕ) (q : Name) → name ≡ c ∷ q → name ≡ q → ⊥
shorter name c q same is = omega (arith, ap length same, ap length is)

-- what a hand does below its splits from k on joins neither itself nor a hand of a later split
not_itself : (name : Name) (c : ℕ) (q : Name) (k count : ℕ) → name ≡ c ∷ q → Untouched q c name k count
not_itself name c q k count same = record { here = λ is. absurd (shorter name c q same is); below = λ pre j is. absurd (deeper pre j is) }
  where
    deeper : (pre : Name) (j : ℕ) → q ≡ pre ++ j ∷ name → ⊥
    deeper pre j is = omega (arith, ap length same, ap length is, length-append pre (j ∷ name))

not_later : (name : Name) (k count : ℕ) (p : Name) (i : ℕ) → Later name (k + count) p i → Untouched p i name k count
not_later name k count p i (Later.own same more) = record { here = λ is. inr more; below = λ pre j is. absurd (longer name pre j (sym same ∙ is)) }
not_later name k count p i (Later.under pre j same more) = record {
  here = λ is. absurd (longer name pre j (is ∙ same));
  below = λ other l is. let number = λ (apart : j ≡ l → ⊥). apart_below name pre other j l apart (sym same ∙ is) in inr (grind (arith, number));
}

home_apart : (name : Name) (k : ℕ) (p : Name) (i : ℕ) → Later name (suc k) p i → name ≡ p → k ≡ i → ⊥
home_apart name k p i (Later.own same more) is number = omega arith
home_apart name k p i (Later.under pre j same more) is number = longer name pre j (is ∙ same)

module _ (word : ℕ → ℕ) where
  -- each of these steps finds the hand out
  legal_records : (name : Name) (kd : Kind) (r : Record) (before : List Item) → is_out name before ≡ true → FindSo before (map (item name) (deeds_of word kd r)) → LegalAfter before (map (item name) (deeds_of word kd r))
  legal_records name kind.Barrier r before out find = tt
  legal_records name kind.Region r before out find = tt
  legal_records name kind.Chunk r before out find = tt
  legal_records name kind.End r before out find = tt
  legal_records name _ r before out find = (record { out = out; fits = find.0 }, tt)

  legal_splits : (name : Name) (k lane span : ℕ) (team : TeamWork) (before : List Item) → is_out name before ≡ true → LegalAfter before (splits_of name k lane span team)
  legal_splits name k lane span NoWork before out = tt
  legal_splits name k lane span (Beside work others) before out = (
    record { out = out; fits = tt },
    legal_splits name (suc k) (suc lane) span others (before ++ item name (deed.Split k lane span) ∷ [])
        (out_more name before (item name (deed.Split k lane span) ∷ []) out (λ c q same. splits_home q c name k lane span (Beside work NoWork))),
  )

  or_left : (a b : Bool) → a ≡ true → (a || b) ≡ true
  or_left a b is = ap (λ (x : Bool). x || b) is

  or_right : (a b : Bool) → b ≡ true → (a || b) ≡ true
  or_right true b is = refl
  or_right false b is = is

  split_more : (name : Name) (j : ℕ) (before xs : List Item) → was_split name j before ≡ true → was_split name j (before ++ xs) ≡ true
  split_more name j before xs is = list_any-append (λ (x : Item). name_eq x.name name && is_split j x.deed) before xs ∙ or_left (was_split name j before) (was_split name j xs) is

  split_there : (name : Name) (k lane span : ℕ) (team : TeamWork) (j : ℕ) → k ≤ j → j < k + lane_count_of team → was_split name j (splits_of name k lane span team) ≡ true
  split_there name k lane span NoWork j least most = absurd (omega arith)
  split_there name k lane span (Beside work others) j least most = by (k == j) refl (λ later. split_there name (suc k) (suc lane) span others j later (omega arith))
    where
      by : (b : Bool) → (k == j) ≡ b → (suc k ≤ j → was_split name j (splits_of name (suc k) (suc lane) span others) ≡ true) → was_split name j (splits_of name k lane span (Beside work others)) ≡ true
      by true is rest = or_left (name_eq name name && (k == j)) (was_split name j (splits_of name (suc k) (suc lane) span others)) (ap₂ (λ (a b : Bool). a && b) (is_same_name name) is)
      by false is rest = or_right (name_eq name name && (k == j)) (was_split name j (splits_of name (suc k) (suc lane) span others)) (rest (grind arith))

  child_ready : (name : Name) (k : ℕ) (before : List Item) → Ready name k before → was_split name k before ≡ true → Ready (k ∷ name) 0 before
  child_ready name k before r split = record {
    out = ap₂ (λ (a b : Bool). a && not b) split (r.free name k (Later.own refl (omega arith)));
    free = λ p i later. r.free p i (of_child p i later);
  }
    where
      of_child : (p : Name) (i : ℕ) → Later (k ∷ name) 0 p i → Later name k p i
      of_child p i (Later.own same more) = Later.under [] k same (omega arith)
      of_child p i (Later.under pre j same more) = Later.under (pre ++ j ∷ []) k (same ∙ sym (append_assoc pre (j ∷ []) (k ∷ name))) (omega arith)

  -- what the hand of a split does joins none of its siblings' and not its parent
  child_apart : (name : Name) (k n : ℕ) (p : Name) (i : ℕ) → Later name (suc k) p i → Untouched p i (k ∷ name) 0 n
  child_apart name k n p i (Later.own same more) = record {
    here = λ is. absurd (longer name [] k (sym same ∙ sym is));
    below = λ pre j is. absurd (longer name (pre ++ j ∷ []) k (sym same ∙ (is ∙ sym (append_assoc pre (j ∷ []) (k ∷ name)))));
  }
  child_apart name k n p i (Later.under pre j same more) = record {
    here = λ is. absurd (apart_below name pre [] j k (λ e. let number : j ≡ k = e in omega arith) (sym same ∙ sym is));
    below = λ other l is. absurd (apart_below name pre (other ++ l ∷ []) j k (λ e. let number : j ≡ k = e in omega arith) (sym same ∙ (is ∙ sym (append_assoc other (l ∷ []) (k ∷ name)))));
  }

  parent_stays : (name : Name) (k n : ℕ) (c : ℕ) (q : Name) → name ≡ c ∷ q → Untouched q c (k ∷ name) 0 n
  parent_stays name k n c q same = record { here = λ is. absurd (first is); below = λ pre j is. absurd (deeper pre j is) }
    where
      first : k ∷ name ≡ q → ⊥
      first is = omega (arith, ap length same, ap length is)

      deeper : (pre : Name) (j : ℕ) → q ≡ pre ++ j ∷ k ∷ name → ⊥
      deeper pre j is = omega (arith, ap length same, ap length is, length-append pre (j ∷ k ∷ name))

  after_did : (name : Name) (k : ℕ) (work : Work) (before : List Item) → Ready name k before → Ready name (k + split_count work) (before ++ did word name k work)
  after_did name k work before r =
      ready_more name k (k + split_count work) before (did word name k work) r (omega arith)
      (λ c q same. did_home word q c name k work (not_itself name c q k (split_count work) same))
      (λ p i later. did_home word p i name k work (not_later name k (split_count work) p i later))

  after_phases : (name : Name) (k span : ℕ) (phases : Phases) (before : List Item) → Ready name k before → Ready name (k + phase_splits phases) (before ++ did_phases word name k span phases)
  after_phases name k span phases before r =
      ready_more name k (k + phase_splits phases) before (did_phases word name k span phases) r (omega arith)
      (λ c q same. phases_home word q c name k span phases (not_itself name c q k (phase_splits phases) same))
      (λ p i later. phases_home word p i name k span phases (not_later name k (phase_splits phases) p i later))

  after_team : (name : Name) (k : ℕ) (team : TeamWork) (before : List Item) → Ready name k before → Ready name (k + lane_count_of team) (before ++ did_team word name k team)
  after_team name k team before r =
      ready_more name k (k + lane_count_of team) before (did_team word name k team) r (omega arith)
      (λ c q same. team_home word q c name k team (not_itself name c q k (lane_count_of team) same))
      (λ p i later. team_home word p i name k team (not_later name k (lane_count_of team) p i later))

  mutual
    legal_did : (name : Name) (k : ℕ) (work : Work) (before : List Item) → Ready name k before → FindSo before (did word name k work) → LegalAfter before (did word name k work)
    legal_did name k Rest before r find = tt
    legal_did name k (Put q more) before r find =
        let puts = map (item name) (deeds_of word q.kind q) in
        legal_both before puts (did word name k more)
        (legal_records name q.kind q before r.out (find_left before puts (did word name k more) find))
        (legal_did name k more (before ++ puts)
        (ready_more name k k before puts r (omega arith) (λ c p same. puts_home p c name word q.kind q) (λ p i later. puts_home p i name word q.kind q))
        (find_right before puts (did word name k more) find))
    legal_did name k (Fork line span phases more) before r find =
        let region = did_phases word name k span phases in
        let rest = did word name (k + phase_splits phases) more in
        legal_both before region rest (legal_phases name k span phases before r (find_left before region rest find))
        (legal_did name (k + phase_splits phases) more (before ++ region) (after_phases name k span phases before r) (find_right before region rest find))

    legal_phases : (name : Name) (k span : ℕ) (phases : Phases) (before : List Item) → Ready name k before → FindSo before (did_phases word name k span phases)
        → LegalAfter before (did_phases word name k span phases)
    legal_phases name k span NoPhase before r find = tt
    legal_phases name k span (Phase team later) before r find =
        let splits = splits_of name k 0 span team in
        let lanes = did_team word name k team in
        let rest = did_phases word name (k + lane_count_of team) span later in
        let split : Ready name k (before ++ splits) =
        ready_more name k k before splits r (omega arith) (λ c p same. splits_home p c name k 0 span team) (λ p i after. splits_home p i name k 0 span team) in
        let begun = find_left before (splits ++ lanes) rest find in
        legal_both before (splits ++ lanes) rest
        (legal_both before splits lanes (legal_splits name k 0 span team before r.out)
        (legal_team name k team (before ++ splits) split
        (λ j least most. list_any-append (λ (x : Item). name_eq x.name name && is_split j x.deed) before splits
        ∙ or_right (was_split name j before) (was_split name j splits) (split_there name k 0 span team j least most))
        (find_right before splits lanes begun)))
        (legal_phases name (k + lane_count_of team) span later (before ++ (splits ++ lanes))
        (subst (λ (h : List Item). Ready name (k + lane_count_of team) h) (append_assoc before splits lanes) (after_team name k team (before ++ splits) split))
        (find_right before (splits ++ lanes) rest find))

    legal_team : (name : Name) (k : ℕ) (team : TeamWork) (before : List Item) → Ready name k before → ((j : ℕ) → k ≤ j → j < k + lane_count_of team → was_split name j before ≡ true)
        → FindSo before (did_team word name k team) → LegalAfter before (did_team word name k team)
    legal_team name k NoWork before r split find = tt
    legal_team name k (Beside work others) before r split find =
        let own = did word (k ∷ name) 0 work in
        let home = item name (deed.Home k) in
        let rest = did_team word name (suc k) others in
        let child = child_ready name k before r (split k (omega arith) (omega arith)) in
        let mid : Ready name (suc k) (before ++ own) =
        ready_more name k (suc k) before own r (omega arith)
        (λ c q same. did_home word q c (k ∷ name) 0 work (parent_stays name k (split_count work) c q same))
        (λ p i later. did_home word p i (k ∷ name) 0 work (child_apart name k (split_count work) p i later)) in
        let found = find_right before own (home ∷ rest) find in
        legal_both before own (home ∷ rest) (legal_did (k ∷ name) 0 work before child (find_left before own (home ∷ rest) find)) (
          record { out = mid.out; fits = (after_did (k ∷ name) 0 work before child).out },
          legal_team name (suc k) others ((before ++ own) ++ home ∷ [])
              (ready_more name (suc k) (suc k) (before ++ own) (home ∷ []) mid (omega arith)
              (λ c q same. home_first q c name k [] (λ is number. shorter name c q same is) refl)
              (λ p i later. home_first p i name k [] (λ is number. home_apart name k p i later is number) refl))
              (λ j least most. split_more name j (before ++ own) (home ∷ []) (split_more name j before own (split j (omega arith) (omega arith))))
              found.1,
        )

  pub serial_legal : (root : Work) → IsSerial word root → LegalAfter [] (did word [] 0 root)
  serial_legal root find = legal_did [] 0 root [] (record { out = refl; free = λ p i later. refl }) find

  pub serial_history : (root : Work) (memory : List ℕ) → IsSerial word root → Leaves word root memory → HasHistory (did word [] 0 root) memory
  serial_history root memory find leaves = record { log = did word [] 0 root; legal = serial_legal root find; whole = λ name. refl; ends = leaves }
