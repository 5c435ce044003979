-- Members of lists, lists in ascending order, and the entries of labelled items one by one.
use Rattle.std.proofs.Common.{◌≡◌, ◌⊎◌, inl, inr, refl, sym, ap, ap₂, ◌∙◌, subst, ℕ, zero, suc, ◌+◌, ◌<◌, ◌≤◌, Bool, true, false, List, [], ◌∷◌, ◌++◌, length, drop, Some, arith}
use Rattle.std.specs.Prelude.{slice_get, filter, ◌==◌}
use Rattle.std.proofs.lemmas.Option.{same_Some}
use Rattle.sw_base.specs.declared.path.Step.{Step}
use Rattle.sw_base.proofs.Lists.{get_right}
use Rattle.step_history.proofs.Labelled.{filter_yes, filter_no}
use Rattle.log_format.specs.declared.record.Record.{Record}
use Rattle.race_model.specs.History.{Entry, entry_of, entries_from}
use Rattle.history_laws.proofs.LabelledWork.{Marked, log_entry}
use Rattle.history_laws.proofs.TaskEntries.{one_or_none, entries_of}

pub record Member {X : Type 0} (xs : List X) (x : X) : Type 0 where
  pub place : ℕ
  pub found : slice_get xs place ≡ Some x

pub first_member : {X : Type 0} (xs ys : List X) (x : X) → Member xs x → Member (xs ++ ys) x
first_member [] ys x m = let none = m.found in cc
first_member {X} (y ∷ xs) ys x m = at m.place m.found (λ (n : ℕ) found. first_member xs ys x (record { place = n; found = found })) where
  at : (n : ℕ) → slice_get (y ∷ xs) n ≡ Some x → ((k : ℕ) → slice_get xs k ≡ Some x → Member (xs ++ ys) x) → Member (y ∷ xs ++ ys) x
  at zero found later = record { place = 0; found = found }
  at (suc n) found later = let l = later n found in record { place = suc l.place; found = l.found }

pub later_member : {X : Type 0} (xs ys : List X) (y : X) → Member ys y → Member (xs ++ ys) y
later_member xs ys y m = record { place = length xs + m.place; found = get_right xs ys m.place ∙ m.found }

-- entries whose indices ascend
abbrev pub Ascends : ℕ → List Entry → Type 0
Ascends low [] = Unit {0}
Ascends low (e ∷ es) = (low ≤ e.node.index) × Ascends (suc e.node.index) es

ascends_from : (low : ℕ) (es : List Entry) (e : Entry) → Ascends low es → Member es e → low ≤ e.node.index
ascends_from low [] e up m = let none = m.found in cc
ascends_from low (x ∷ es) e up m = at m.place m.found (λ (n : ℕ) found. ascends_from (suc x.node.index) es e up.1 (record { place = n; found = found })) where
  at : (n : ℕ) → slice_get (x ∷ es) n ≡ Some e → ((k : ℕ) → slice_get es k ≡ Some e → suc x.node.index ≤ e.node.index) → low ≤ e.node.index
  at zero found later = let same : x.node.index ≡ e.node.index = ap (λ (y : Entry). y.node.index) (same_Some x e found) in omega (arith, up.0)
  at (suc n) found later = let le = later n found in omega (arith, up.0)

ascends_down : (low high : ℕ) (es : List Entry) → low ≤ high → Ascends high es → Ascends low es
ascends_down low high [] le up = tt
ascends_down low high (e ∷ es) le up = (omega (arith, up.0), up.1)

-- two ascending lists with the same members are the same
pub same_ascending : (low high : ℕ) (xs ys : List Entry) → Ascends low xs → Ascends high ys → ((e : Entry) → Member xs e → Member ys e) → ((e : Entry) → Member ys e → Member xs e) → xs ≡ ys
same_ascending low high [] [] up also there back = refl
same_ascending low high [] (y ∷ ys) up also there back = let none = (back y (record { place = 0; found = refl })).found in cc
same_ascending low high (x ∷ xs) [] up also there back = let none = (there x (record { place = 0; found = refl })).found in cc
same_ascending low high (x ∷ xs) (y ∷ ys) up also there back =
    ap₂ (λ (z : Entry) (zs : List Entry). z ∷ zs) first (same_ascending (suc x.node.index) (suc y.node.index) xs ys up.1 also.1 tail_there tail_back)
  where
    x_there : Member (y ∷ ys) x
    x_there = there x (record { place = 0; found = refl })

    y_back : Member (x ∷ xs) y
    y_back = back y (record { place = 0; found = refl })

    tail : (a : Entry) (as_list : List Entry) (e : Entry) (n : ℕ) → slice_get (a ∷ as_list) n ≡ Some e → (a ≡ e) ⊎ Member as_list e
    tail a as_list e zero found = inl (same_Some a e found)
    tail a as_list e (suc n) found = inr (record { place = n; found = found })

    first : x ≡ y
    first = at (tail y ys x x_there.place x_there.found) (tail x xs y y_back.place y_back.found) where
      at : (y ≡ x) ⊎ Member ys x → (x ≡ y) ⊎ Member xs y → x ≡ y
      at (inl same) other = sym same
      at (inr m) (inl same) = same
      at (inr m) (inr k) =
          let one = ascends_from (suc y.node.index) ys x also.1 m in
          let other = ascends_from (suc x.node.index) xs y up.1 k in
          absurd (omega arith)

    tail_there : (e : Entry) → Member xs e → Member ys e
    tail_there e m = at (there e (record { place = suc m.place; found = m.found })) where
      at : Member (y ∷ ys) e → Member ys e
      at k = by_tail (tail y ys e k.place k.found) where
        by_tail : (y ≡ e) ⊎ Member ys e → Member ys e
        by_tail (inr l) = l
        by_tail (inl same) =
            let late = ascends_from (suc x.node.index) xs e up.1 m in
            let index : x.node.index ≡ e.node.index = ap (λ (z : Entry). z.node.index) (first ∙ same) in
            absurd (omega arith)

    tail_back : (e : Entry) → Member ys e → Member xs e
    tail_back e m = at (back e (record { place = suc m.place; found = m.found })) where
      at : Member (x ∷ xs) e → Member xs e
      at k = by_tail (tail x xs e k.place k.found) where
        by_tail : (x ≡ e) ⊎ Member xs e → Member xs e
        by_tail (inr l) = l
        by_tail (inl same) =
            let late = ascends_from (suc y.node.index) ys e also.1 m in
            let index : y.node.index ≡ e.node.index = ap (λ (z : Entry). z.node.index) (sym first ∙ same) in
            absurd (omega arith)

-- the entries of a log
pub log_ascends : (path : List Step) (i : ℕ) (records : List Record) → Ascends i (entries_from path i records)
log_ascends path i [] = tt
log_ascends path i (r ∷ records) = at (one_or_none r.kind (log_entry path i r)) (log_ascends path (i + 1) records) where
  at : (entry_of r.kind (log_entry path i r) ≡ []) ⊎ (entry_of r.kind (log_entry path i r) ≡ log_entry path i r ∷ []) → Ascends (i + 1) (entries_from path (i + 1) records) → Ascends i (entries_from path i (r ∷ records))
  at (inl none) up = subst (λ (es : List Entry). Ascends i (es ++ entries_from path (i + 1) records)) (sym none) (ascends_down i (i + 1) (entries_from path (i + 1) records) (omega arith) up)
  at (inr one) up =
      subst (λ (es : List Entry). Ascends i (es ++ entries_from path (i + 1) records)) (sym one)
      (omega arith, subst (λ (n : ℕ). Ascends n (entries_from path (i + 1) records)) (let e : i + 1 ≡ suc i = omega arith in e) up)

-- an entry of a log is of one of its records
pub record OfLog (path : List Step) (i : ℕ) (records : List Record) (e : Entry) : Type 0 where
  pub place : ℕ
  pub found : slice_get records place ≡ Some e.event
  pub path_is : e.node.path ≡ path
  pub index : e.node.index ≡ i + place
  pub kept : entry_of e.event.kind e ≡ e ∷ []

pub of_log : (path : List Step) (i : ℕ) (records : List Record) (e : Entry) (n : ℕ) → slice_get (entries_from path i records) n ≡ Some e → OfLog path i records e
of_log path i [] e n found = cc
of_log path i (r ∷ records) e n found = at (one_or_none r.kind (log_entry path i r)) (λ (k : ℕ) there. of_log path (i + 1) records e k there)
  where
    more : OfLog path (i + 1) records e → OfLog path i (r ∷ records) e
    more o = record { place = suc o.place; found = o.found; path_is = o.path_is; index = omega (arith, o.index); kept = o.kept }

    at : (entry_of r.kind (log_entry path i r) ≡ []) ⊎ (entry_of r.kind (log_entry path i r) ≡ log_entry path i r ∷ []) → ((k : ℕ) → slice_get (entries_from path (i + 1) records) k ≡ Some e → OfLog path (i + 1) records e) → OfLog path i (r ∷ records) e
    at (inl none) later = more (later n (subst (λ (es : List Entry). slice_get (es ++ entries_from path (i + 1) records) n ≡ Some e) none found))
    at (inr one) later = by_place n (subst (λ (es : List Entry). slice_get (es ++ entries_from path (i + 1) records) n ≡ Some e) one found) where
      by_place : (k : ℕ) → slice_get (log_entry path i r ∷ entries_from path (i + 1) records) k ≡ Some e → OfLog path i (r ∷ records) e
      by_place zero there =
          let same : log_entry path i r ≡ e = same_Some (log_entry path i r) e there in
          subst (λ (x : Entry). OfLog path i (r ∷ records) x) same (record { place = 0; found = refl; path_is = refl; index = omega arith; kept = one })
      by_place (suc k) there = more (later k there)

-- at most one entry of a log has an index
pub one_index : (path : List Step) (i j : ℕ) (records : List Record) → length (filter (λ (e : Entry). e.node.index == j) (entries_from path i records)) ≤ 1
one_index path i j records = at_most 0 (entries_from path i records) (ascends_down 0 i (entries_from path i records) (omega arith) (log_ascends path i records)) where
  none : (low : ℕ) (es : List Entry) → j < low → Ascends low es → length (filter (λ (e : Entry). e.node.index == j) es) ≡ 0
  none low [] less up = refl
  none low (e ∷ es) less up =
      let other : (e.node.index == j) ≡ false = (let le : low ≤ e.node.index = up.0 in grind arith) in
      ap length (filter_no (λ (x : Entry). x.node.index == j) e es other) ∙ none (suc e.node.index) es (let le : low ≤ e.node.index = up.0 in omega arith) up.1

  at_most : (low : ℕ) (es : List Entry) → Ascends low es → length (filter (λ (e : Entry). e.node.index == j) es) ≤ 1
  at_most low [] up = omega arith
  at_most low (e ∷ es) up = by_test (e.node.index == j) refl (at_most (suc e.node.index) es up.1) where
    by_test : (b : Bool) → (e.node.index == j) ≡ b → length (filter (λ (x : Entry). x.node.index == j) es) ≤ 1 → length (filter (λ (x : Entry). x.node.index == j) (e ∷ es)) ≤ 1
    by_test true is rest =
        let same : e.node.index ≡ j = grind arith in
        let rest_none = none (suc e.node.index) es (omega arith) up.1 in
        let all = ap length (filter_yes (λ (x : Entry). x.node.index == j) e es is) in
        omega arith
    by_test false is rest = let all = ap length (filter_no (λ (x : Entry). x.node.index == j) e es is) in omega arith

-- an item has no entry, or one
abbrev pub IsSingle : Marked → Type 0
IsSingle x = (x.label ≡ []) ⊎ ((e : Entry) × (x.label ≡ e ∷ []))

abbrev pub AreSingle : List Marked → Type 0
AreSingle items = (n : ℕ) (x : Marked) → slice_get items n ≡ Some x → IsSingle x

-- an item's entry is among the entries
pub entry_member : (items : List Marked) (n : ℕ) (x : Marked) (e : Entry) → slice_get items n ≡ Some x → x.label ≡ e ∷ [] → Member (entries_of items) e
entry_member [] n x e found label = cc
entry_member (y ∷ items) zero x e found label =
    let same : y.label ≡ e ∷ [] = ap (λ (z : Marked). z.label) (same_Some y x found) ∙ label in
    first_member y.label (entries_of items) e (subst (λ (es : List Entry). Member es e) (sym same) (record { place = 0; found = refl }))
entry_member (y ∷ items) (suc n) x e found label = later_member y.label (entries_of items) e (entry_member items n x e found label)

-- the item of an entry, and the entries after it
pub record EntryItem (items : List Marked) (e : Entry) (rest : List Entry) : Type 0 where
  pub place : ℕ
  pub x : Marked
  pub found : slice_get items place ≡ Some x
  pub label : x.label ≡ e ∷ []
  pub after : entries_of (drop (suc place) items) ≡ rest

pub entry_item : (items : List Marked) (before rest : List Entry) (e : Entry) → AreSingle items → entries_of items ≡ before ++ e ∷ rest → EntryItem items e rest
entry_item [] [] rest e single same = cc
entry_item [] (b ∷ before) rest e single same = cc
entry_item (y ∷ items) before rest e single same = at (single 0 y refl) (λ (bs : List Entry) tail. entry_item items bs rest e (λ n x found. single (suc n) x found) tail)
  where
    more : EntryItem items e rest → EntryItem (y ∷ items) e rest
    more i = record { place = suc i.place; x = i.x; found = i.found; label = i.label; after = i.after }

    at : IsSingle y → ((bs : List Entry) → entries_of items ≡ bs ++ e ∷ rest → EntryItem items e rest) → EntryItem (y ∷ items) e rest
    at (inl none) later = more (later before (subst (λ (es : List Entry). es ++ entries_of items ≡ before ++ e ∷ rest) none same))
    at (inr (f, one)) later = by_before before (subst (λ (es : List Entry). es ++ entries_of items ≡ before ++ e ∷ rest) one same) where
      by_before : (bs : List Entry) → f ∷ entries_of items ≡ bs ++ e ∷ rest → EntryItem (y ∷ items) e rest
      by_before [] all = record { place = 0; x = y; found = refl; label = one ∙ ap (λ (g : Entry). g ∷ []) (let first : f ≡ e = cc in first); after = cc }
      by_before (b ∷ bs) all = more (later bs (let tail : entries_of items ≡ bs ++ e ∷ rest = cc in tail))

pub member_item : (items : List Marked) (e : Entry) → AreSingle items → Member (entries_of items) e → (rest : List Entry) × EntryItem items e rest
member_item items e single m = at (split (entries_of items) m.place e m.found) where
  split : (es : List Entry) (n : ℕ) (e : Entry) → slice_get es n ≡ Some e → (before : List Entry) × (rest : List Entry) × (es ≡ before ++ e ∷ rest)
  split [] n e found = cc
  split (x ∷ es) zero e found = ([], es, ap (λ (y : Entry). y ∷ es) (same_Some x e found))
  split (x ∷ es) (suc n) e found = more (split es n e found) where
    more : (before : List Entry) × (rest : List Entry) × (es ≡ before ++ e ∷ rest) → (before : List Entry) × (rest : List Entry) × (x ∷ es ≡ before ++ e ∷ rest)
    more (before, rest, same) = (x ∷ before, rest, ap (λ (ys : List Entry). x ∷ ys) same)

  at : (before : List Entry) × (rest : List Entry) × (entries_of items ≡ before ++ e ∷ rest) → (rest : List Entry) × EntryItem items e rest
  at (before, rest, same) = (rest, entry_item items before rest e single same)
