-- The entries of a legal history of steps are a legal history of records, with the same last values, fitted to their elements.
use Rattle.std.proofs.Common.{◌≡◌, ◌⊎◌, inl, inr, refl, sym, ap, ◌∙◌, subst, ℕ, zero, suc, ◌+◌, ◌%◌, ◌^◌, Bool, true, false, List, [], ◌∷◌, ◌++◌, length, Option, Some, None, arith}
use Rattle.std.specs.Prelude.{slice_get, ◌==◌, if◌then◌else◌}
use Rattle.std.proofs.lemmas.List.{append-nil, append_assoc, map-append, length-append}
use Rattle.sw_base.specs.declared.path.Step.{Step}
use Rattle.log_format.specs.declared.record.Record.{Record}
use Rattle.log_format.specs.declared.record.Kind.{Kind}
use Rattle.log_format.specs.declared.record.Kind.TheVariants as kind
use Rattle.log_format.specs.Fitting.{IsWidth, fit, CanHave}
use Rattle.log_format.proofs.FittedBits.{fit_zero, fit_sum, fit_word}
use Rattle.race_model.specs.History.{Entry, stored_after, stored_from, owner_after, owner_from, mutex_owner, FitsKind, IsLegalAfter}
use Rattle.step_history.specs.declared.item.Item.{Item}
use Rattle.step_history.specs.declared.item.Deed.{Deed}
use Rattle.step_history.specs.declared.item.Deed.TheVariants.{Read, Write, Lock, Unlock, Update}
use Rattle.step_history.specs.History.{Name, value_after, value_from, value_at, holder_after, holder_from, holder, FitsDeed, LegalAfter}
use Rattle.history_model.specs.Did.{deeds_of}
use Rattle.history_model.specs.Sound.{WordLayout, IsOfElement}
use Rattle.history_model.specs.Work.{logged_value, logged}
use Rattle.step_history.specs.Labels.{items_of}
use Rattle.history_laws.proofs.LabelledWork.{Marked}
use Rattle.history_laws.proofs.TaskEntries.{entries_of, entries_of-append}
use Rattle.history_laws.proofs.Windows.{get_either}
use Rattle.history_laws.proofs.GoodItems.{IsSilent, IsGood, AreGood}

-- the record of a kind in a log
abbrev told : Kind → Record → Record
told k r = record r { value = logged_value k r }

module _ (layout : WordLayout) where
  -- two addresses of words are the same where their words are
  same_word : (a b : ℕ) → layout.address (layout.word a) ≡ a → layout.address (layout.word b) ≡ b → (a == b) ≡ (layout.word a == layout.word b)
  same_word a b mine yours = at (a == b) (layout.word a == layout.word b) refl refl where
    at : (c d : Bool) → (a == b) ≡ c → (layout.word a == layout.word b) ≡ d → c ≡ d
    at true true is also = refl
    at false false is also = refl
    at true false is also =
        let same : a ≡ b = grind arith in
        let words : layout.word a ≡ layout.word b = ap layout.word same in
        grind arith
    at false true is also =
        let words : layout.word a ≡ layout.word b = grind arith in
        let same : a ≡ b = sym mine ∙ ap layout.address words ∙ yours in
        grind arith

  module _ (addr : ℕ) (at_word : layout.address (layout.word addr) ≡ addr) where
    abbrev width : ℕ
    width = layout.width (layout.word addr)

    -- an access of the word is as wide as its element
    as_wide : (r : Record) → IsOfElement layout r → (layout.word r.addr == layout.word addr) ≡ true → r.size ≡ width
    as_wide r element same = element.size ∙ ap layout.width (let words : layout.word r.addr ≡ layout.word addr = grind arith in words)

    -- what a deed leaves in the word, fitted, is what its record leaves
    value_step : (k : Kind) (r : Record) (d : Deed) (value : ℕ) → deeds_of layout.word k r ≡ d ∷ [] → ((k ≡ kind.Read) ⊎ ((k ≡ kind.Write) ⊎ (k ≡ kind.Update)) → IsOfElement layout r)
        → (k ≡ kind.Write → CanHave r.size r.value) → stored_after k (told k r) addr (fit value width) ≡ fit (value_after (layout.word addr) d value) width
    value_step kind.Read r d value deeds element stores = let same : Read (layout.word r.addr) r.value ≡ d = cc in subst (λ (x : Deed). fit value width ≡ fit (value_after (layout.word addr) x value) width) same refl
    value_step kind.Write r d value deeds element stores =
        let same : Write (layout.word r.addr) r.value ≡ d = cc in
        subst (λ (x : Deed). stored_after kind.Write r addr (fit value width) ≡ fit (value_after (layout.word addr) x value) width) same
        (ap (λ (b : Bool). if b then r.value else fit value width) (same_word r.addr addr (element (inr (inl refl))).address at_word) ∙ by_test (layout.word r.addr == layout.word addr) refl)
      where
        by_test : (b : Bool) → (layout.word r.addr == layout.word addr) ≡ b → (if b then r.value else fit value width) ≡ fit (if b then r.value else value) width
        by_test true same = sym (stores refl) ∙ ap (λ (w : ℕ). fit r.value w) (as_wide r (element (inr (inl refl))) same)
        by_test false other = refl
    value_step kind.Lock r d value deeds element stores = let same : Lock r.addr ≡ d = cc in subst (λ (x : Deed). fit value width ≡ fit (value_after (layout.word addr) x value) width) same refl
    value_step kind.Unlock r d value deeds element stores = let same : Unlock r.addr ≡ d = cc in subst (λ (x : Deed). fit value width ≡ fit (value_after (layout.word addr) x value) width) same refl
    value_step kind.Barrier r d value deeds element stores = cc
    value_step kind.Region r d value deeds element stores = cc
    value_step kind.Chunk r d value deeds element stores = cc
    value_step kind.End r d value deeds element stores = cc
    value_step kind.Update r d value deeds element stores =
        let same : Update (layout.word r.addr) r.value ≡ d = cc in
        subst (λ (x : Deed). stored_after kind.Update r addr (fit value width) ≡ fit (value_after (layout.word addr) x value) width) same
        (ap (λ (b : Bool). if b then fit (fit value width + r.value) r.size else fit value width) (same_word r.addr addr (element (inr (inr refl))).address at_word)
        ∙ by_test (layout.word r.addr == layout.word addr) refl)
      where
        by_test : (b : Bool) → (layout.word r.addr == layout.word addr) ≡ b
            → (if b then fit (fit value width + r.value) r.size else fit value width) ≡ fit (if b then (value + r.value) % 2 ^ 64 else value) width
        by_test true same =
            let wide = as_wide r (element (inr (inr refl))) same in
            let is : IsWidth width = subst (λ (w : ℕ). IsWidth w) wide (element (inr (inr refl))).width in
            ap (λ (w : ℕ). fit (fit value width + r.value) w) wide ∙ fit_sum width value r.value is ∙ sym (fit_word width (value + r.value) is)
        by_test false other = refl

    silent_value : (d : Deed) (word value : ℕ) → IsSilent d → value_after word d value ≡ value
    silent_value _ word value (IsSilent.splits k lane span) = refl
    silent_value _ word value (IsSilent.joins k) = refl

    -- The law that ties the words to the logs: the entries leave the fitted values of those that the items leave.
    pub values : (xs : List Marked) (value : ℕ) → AreGood layout xs → stored_from addr (entries_of xs) (fit value width) ≡ fit (value_from (layout.word addr) (items_of xs) value) width
    values [] value good = refl
    values (x ∷ xs) value good = at (good 0 x refl) (λ (v : ℕ). values xs v (λ n y found. good (suc n) y found)) where
      at : IsGood layout x → ((v : ℕ) → stored_from addr (entries_of xs) (fit v width) ≡ fit (value_from (layout.word addr) (items_of xs) v) width)
          → stored_from addr (entries_of (x ∷ xs)) (fit value width) ≡ fit (value_from (layout.word addr) (items_of (x ∷ xs)) value) width
      at (inl silent) rest =
          ap (λ (es : List Entry). stored_from addr (es ++ entries_of xs) (fit value width)) silent.0
          ∙ rest value
          ∙ ap (λ (v : ℕ). fit (value_from (layout.word addr) (items_of xs) v) width) (sym (silent_value x.step.deed (layout.word addr) value silent.1))
      at (inr d) rest =
          ap (λ (es : List Entry). stored_from addr (es ++ entries_of xs) (fit value width)) d.label
          ∙ ap (λ (v : ℕ). stored_from addr (entries_of xs) v) (value_step d.r.kind d.r x.step.deed value d.deeds_are d.sound.element d.sound.stores)
          ∙ rest (value_after (layout.word addr) x.step.deed value)

module _ (layout : WordLayout) (history : List Marked) (good : AreGood layout history)
    (one_task : (m n : ℕ) (x y : Marked) (e f : Entry) → slice_get history m ≡ Some x → slice_get history n ≡ Some y → x.label ≡ e ∷ [] → y.label ≡ f ∷ [] → y.step.name ≡ x.step.name → f.node.path ≡ e.node.path) where
  -- a task and a hand of it
  record Hand (path : List Step) (name : Name) : Type 0 where
    place : ℕ
    x : Marked
    e : Entry
    found : slice_get history place ≡ Some x
    label : x.label ≡ e ∷ []
    name_is : x.step.name ≡ name
    path_is : e.node.path ≡ path

  -- the task that has a mutex is that of the hand that holds it
  abbrev AreHolders : Option (List Step) → Option Name → Type 0
  AreHolders None None = Unit {0}
  AreHolders (Some path) (Some name) = Hand path name
  AreHolders None (Some name) = ⊥
  AreHolders (Some path) None = ⊥

  silent_holder : (d : Deed) (mutex : ℕ) (name : Name) (h : Option Name) → IsSilent d → holder_after mutex name d h ≡ h
  silent_holder _ mutex name h (IsSilent.splits k lane span) = refl
  silent_holder _ mutex name h (IsSilent.joins k) = refl

  holder_step : (k : Kind) (r : Record) (d : Deed) (path : List Step) (name : Name) (mutex : ℕ) (o : Option (List Step)) (h : Option Name) → deeds_of layout.word k r ≡ d ∷ [] → Hand path name → AreHolders o h
      → AreHolders (owner_after k (told k r) path mutex o) (holder_after mutex name d h)
  holder_step kind.Read r d path name mutex o h deeds hand same = let deed : Read (layout.word r.addr) r.value ≡ d = cc in subst (λ (x : Deed). AreHolders o (holder_after mutex name x h)) deed same
  holder_step kind.Write r d path name mutex o h deeds hand same = let deed : Write (layout.word r.addr) r.value ≡ d = cc in subst (λ (x : Deed). AreHolders o (holder_after mutex name x h)) deed same
  holder_step kind.Lock r d path name mutex o h deeds hand same =
      let deed : Lock r.addr ≡ d = cc in subst (λ (x : Deed). AreHolders (owner_after kind.Lock r path mutex o) (holder_after mutex name x h)) deed (by_test (r.addr == mutex)) where
        by_test : (b : Bool) → AreHolders (if b then Some path else o) (if b then Some name else h)
        by_test true = hand
        by_test false = same
  holder_step kind.Unlock r d path name mutex o h deeds hand same =
      let deed : Unlock r.addr ≡ d = cc in subst (λ (x : Deed). AreHolders (owner_after kind.Unlock r path mutex o) (holder_after mutex name x h)) deed (by_test (r.addr == mutex)) where
        by_test : (b : Bool) → AreHolders (if b then None else o) (if b then None else h)
        by_test true = tt
        by_test false = same
  holder_step kind.Barrier r d path name mutex o h deeds hand same = cc
  holder_step kind.Region r d path name mutex o h deeds hand same = cc
  holder_step kind.Chunk r d path name mutex o h deeds hand same = cc
  holder_step kind.End r d path name mutex o h deeds hand same = cc
  holder_step kind.Update r d path name mutex o h deeds hand same = let deed : Update (layout.word r.addr) r.value ≡ d = cc in subst (λ (x : Deed). AreHolders o (holder_after mutex name x h)) deed same

  -- these items stand in the history from a place on
  abbrev IsFrom : ℕ → List Marked → Type 0
  IsFrom start xs = (n : ℕ) (x : Marked) → slice_get xs n ≡ Some x → slice_get history (start + n) ≡ Some x

  from_next : (start : ℕ) (x : Marked) (xs : List Marked) → IsFrom start (x ∷ xs) → IsFrom (start + 1) xs
  from_next start x xs is n y found = ap (λ (k : ℕ). slice_get history k) (let e : start + 1 + n ≡ start + suc n = omega arith in e) ∙ is (suc n) y found

  from_first : (start : ℕ) (x : Marked) (xs : List Marked) → IsFrom start (x ∷ xs) → slice_get history start ≡ Some x
  from_first start x xs is = ap (λ (k : ℕ). slice_get history k) (let e : start ≡ start + 0 = omega arith in e) ∙ is 0 x refl

  holders : (start : ℕ) (xs : List Marked) (mutex : ℕ) (o : Option (List Step)) (h : Option Name) → IsFrom start xs → AreHolders o h → AreHolders (owner_from mutex (entries_of xs) o) (holder_from mutex (items_of xs) h)
  holders start [] mutex o h is same = same
  holders start (x ∷ xs) mutex o h is same =
      at (good start x (from_first start x xs is)) (λ (o2 : Option (List Step)) (h2 : Option Name) same2. holders (start + 1) xs mutex o2 h2 (from_next start x xs is) same2)
    where
      at : IsGood layout x → ((o2 : Option (List Step)) (h2 : Option Name) → AreHolders o2 h2 → AreHolders (owner_from mutex (entries_of xs) o2) (holder_from mutex (items_of xs) h2))
          → AreHolders (owner_from mutex (entries_of (x ∷ xs)) o) (holder_from mutex (items_of (x ∷ xs)) h)
      at (inl silent) rest =
          subst (λ (es : List Entry). AreHolders (owner_from mutex (es ++ entries_of xs) o) (holder_from mutex (items_of (x ∷ xs)) h)) (sym silent.0)
          (rest o (holder_after mutex x.step.name x.step.deed h) (subst (λ (h2 : Option Name). AreHolders o h2) (sym (silent_holder x.step.deed mutex x.step.name h silent.1)) same))
      at (inr d) rest =
          subst (λ (es : List Entry). AreHolders (owner_from mutex (es ++ entries_of xs) o) (holder_from mutex (items_of (x ∷ xs)) h)) (sym d.label)
          (rest (owner_after d.r.kind (logged d.r) d.node.path mutex o) (holder_after mutex x.step.name x.step.deed h)
          (holder_step d.r.kind d.r x.step.deed d.node.path x.step.name mutex o h d.deeds_are
          (record { place = start; x = x; e = record { node = d.node; event = logged d.r }; found = from_first start x xs is; label = d.label; name_is = refl; path_is = refl }) same))

  -- what fits as a step fits as a record
  fits_kind : (k : Kind) (r : Record) (d : Deed) (path : List Step) (name : Name) (before : List Marked) → deeds_of layout.word k r ≡ d ∷ [] → ((k ≡ kind.Read) ⊎ ((k ≡ kind.Write) ⊎ (k ≡ kind.Update)) → IsOfElement layout r)
      → AreGood layout before → IsFrom 0 before → Hand path name → FitsDeed (items_of before) name d → FitsKind k (entries_of before) (told k r) path
  fits_kind kind.Read r d path name before deeds element all_good is hand fits =
      let deed : d ≡ Read (layout.word r.addr) r.value = cc in
      let read : r.value ≡ value_at (layout.word r.addr) (items_of before) = subst (λ (x : Deed). FitsDeed (items_of before) name x) deed fits in
      let e = element (inl refl) in
      ap (λ (v : ℕ). fit v r.size) read
      ∙ ap (λ (w : ℕ). fit (value_at (layout.word r.addr) (items_of before)) w) e.size
      ∙ sym (values layout r.addr e.address before 0 all_good)
      ∙ ap (λ (v : ℕ). stored_from r.addr (entries_of before) v) (subst (λ (w : ℕ). CanHave w 0) e.size (fit_zero r.size e.width))
  fits_kind kind.Write r d path name before deeds element all_good is hand fits = tt
  fits_kind kind.Lock r d path name before deeds element all_good is hand fits =
      let deed : d ≡ Lock r.addr = cc in
      let free : holder r.addr (items_of before) ≡ None = subst (λ (x : Deed). FitsDeed (items_of before) name x) deed fits in
      at (mutex_owner r.addr (entries_of before)) (subst (λ (h : Option Name). AreHolders (mutex_owner r.addr (entries_of before)) h) free (holders 0 before r.addr None None is tt))
    where
      at : (o : Option (List Step)) → AreHolders o None → o ≡ None
      at None same = refl
      at (Some p) same = absurd same
  fits_kind kind.Unlock r d path name before deeds element all_good is hand fits =
      let deed : d ≡ Unlock r.addr = cc in
      let held : holder r.addr (items_of before) ≡ Some name = subst (λ (x : Deed). FitsDeed (items_of before) name x) deed fits in
      at (mutex_owner r.addr (entries_of before)) (subst (λ (h : Option Name). AreHolders (mutex_owner r.addr (entries_of before)) h) held (holders 0 before r.addr None None is tt))
    where
      at : (o : Option (List Step)) → AreHolders o (Some name) → o ≡ Some path
      at None same = absurd same
      at (Some p) owner =
          ap (λ (q : List Step). Some q)
          (sym owner.path_is ∙ one_task hand.place owner.place hand.x owner.x hand.e owner.e hand.found owner.found hand.label owner.label (owner.name_is ∙ sym hand.name_is) ∙ hand.path_is)
  fits_kind kind.Barrier r d path name before deeds element all_good is hand fits = tt
  fits_kind kind.Region r d path name before deeds element all_good is hand fits = tt
  fits_kind kind.Chunk r d path name before deeds element all_good is hand fits = tt
  fits_kind kind.End r d path name before deeds element all_good is hand fits = tt
  fits_kind kind.Update r d path name before deeds element all_good is hand fits = tt

  good_from : (start : ℕ) (xs : List Marked) → IsFrom start xs → AreGood layout xs
  good_from start xs is n x found = good (start + n) x (is n x found)

  entries_more : (before : List Marked) (x : Marked) → entries_of (before ++ x ∷ []) ≡ entries_of before ++ x.label
  entries_more before x = entries_of-append before (x ∷ []) ∙ ap (λ (es : List Entry). entries_of before ++ es) (append-nil x.label)

  items_more : (before : List Marked) (x : Marked) → items_of (before ++ x ∷ []) ≡ items_of before ++ x.step ∷ []
  items_more before x = map-append (λ (y : Marked). y.step) before (x ∷ [])

  -- what is legal after some steps is legal after their records
  legal_after : (before xs : List Marked) → IsFrom 0 before → IsFrom (length before) xs → IsFrom 0 (before ++ xs) → LegalAfter (items_of before) (items_of xs) → IsLegalAfter (entries_of before) (entries_of xs)
  legal_after before [] front is all legal = tt
  legal_after before (x ∷ xs) front is all legal =
      at (good (length before) x here)
      (legal_after (before ++ x ∷ []) xs front_more (λ n y found. ap (λ (k : ℕ). slice_get history k) (let e : length (before ++ x ∷ []) + n ≡ length before + suc n = omega (arith, length-append before (x ∷ [])) in e) ∙ is (suc n) y found)
      (subst (λ (zs : List Marked). IsFrom 0 zs) (sym (append_assoc before (x ∷ []) xs)) all)
      (subst (λ (items : List Item). LegalAfter items (items_of xs)) (sym (items_more before x)) legal.1))
    where
      here : slice_get history (length before) ≡ Some x
      here = from_first (length before) x xs is

      front_more : IsFrom 0 (before ++ x ∷ [])
      front_more n y found = by_place (get_either before (x ∷ []) n y found) where
        by_place : (slice_get before n ≡ Some y) ⊎ ((m : ℕ) × (n ≡ length before + m) × (slice_get (x ∷ []) m ≡ Some y)) → slice_get history (0 + n) ≡ Some y
        by_place (inl earlier) = front n y earlier
        by_place (inr (zero, same, last)) =
            ap (λ (k : ℕ). slice_get history k) (let e : 0 + n ≡ length before = omega arith in e) ∙ here ∙ last
        by_place (inr (suc m, same, last)) = cc

      at : IsGood layout x → IsLegalAfter (entries_of (before ++ x ∷ [])) (entries_of xs) → IsLegalAfter (entries_of before) (entries_of (x ∷ xs))
      at (inl silent) rest =
          subst (λ (es : List Entry). IsLegalAfter (entries_of before) (es ++ entries_of xs)) (sym silent.0)
          (subst (λ (es : List Entry). IsLegalAfter es (entries_of xs)) (entries_more before x ∙ ap (λ (es : List Entry). entries_of before ++ es) silent.0 ∙ append-nil (entries_of before)) rest)
      at (inr d) rest =
          subst (λ (es : List Entry). IsLegalAfter (entries_of before) (es ++ entries_of xs)) (sym d.label) (
            fits_kind d.r.kind d.r x.step.deed d.node.path x.step.name before d.deeds_are d.sound.element (good_from 0 before front) front
                (record { place = length before; x = x; e = record { node = d.node; event = logged d.r }; found = here; label = d.label; name_is = refl; path_is = refl }) legal.0.fits,
            subst (λ (es : List Entry). IsLegalAfter es (entries_of xs)) (entries_more before x ∙ ap (λ (es : List Entry). entries_of before ++ es) d.label) rest,
          )

  pub legal_records : LegalAfter [] (items_of history) → IsLegalAfter [] (entries_of history)
  legal_records legal = legal_after [] history (λ n x found. cc) (λ n x found. ap (λ (k : ℕ). slice_get history k) (let e : 0 + n ≡ n = omega arith in e) ∙ found)
      (λ n x found. ap (λ (k : ℕ). slice_get history k) (let e : 0 + n ≡ n = omega arith in e) ∙ found) legal
