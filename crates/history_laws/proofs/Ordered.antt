-- The entries of a history of a tree: each record's once and at its time, each task's in the order of its log, and none before
-- what happens before it.
use Rattle.std.proofs.Common.{◌≡◌, ◌⊎◌, inl, inr, refl, sym, ap, ap₂, ◌∙◌, subst, ℕ, zero, suc, ◌+◌, ◌<◌, ◌≤◌, Bool, true, false, List, [], ◌∷◌, ◌++◌, length, drop, Some, arith, length-append}
use Rattle.std.specs.Prelude.{slice_get, filter, ◌==◌, ◌&&◌}
use Rattle.std.proofs.lemmas.Bool.{cases_lt}
use Rattle.std.proofs.lemmas.List.Elements.{filter-append}
use Rattle.std.proofs.lemmas.Option.{same_Some}
use Rattle.sw_base.specs.declared.path.Step.{Step}
use Rattle.step_history.proofs.Labelled.{filter_yes, filter_no}
use Rattle.log_format.specs.declared.record.Record.{Record}
use Rattle.log_format.specs.declared.record.Kind.{Kind}
use Rattle.log_format.specs.declared.record.Kind.TheVariants.{Region}
use Rattle.race_model.specs.Trace.{Node, Logs, path_eq}
use Rattle.race_model.specs.History.{Entry, entry_of, entries_from, task_entries, RespectsOrder}
use Rattle.race_model.proofs.TraceLogs.{path_is}
use Rattle.step_history.specs.History.{Name, name_eq}
use Rattle.step_history.proofs.Names.{is_same_name}
use Rattle.history_model.specs.Work.{logged}
use Rattle.history_model.specs.Sound.{WordLayout, IsSound}
use Rattle.step_history.specs.Labels.{labelled_of}
use Rattle.history_laws.proofs.Counting.{counted, at_count, Stands, stands, only_one}
use Rattle.history_laws.proofs.LabelledWork.{Marked, log_entry, entry}
use Rattle.history_laws.proofs.TimedWork.{TimedWork, plain, IsTimed, IsHandOf, Happened}
use Rattle.history_laws.proofs.TaskEntries.{path_same, entries_of}
use Rattle.history_laws.proofs.Acts.{Act, Plain, Forks, act_put, act_record, act_from, act_until, act_lead, AreActsTimed}
use Rattle.history_laws.proofs.Edges.{acts, logs, has_times, IsActOf, act_of_record, node_order, Leads, before_order}
use Rattle.history_laws.proofs.Members.{Member, Ascends, same_ascending, log_ascends, OfLog, of_log, one_index, IsSingle, AreSingle, entry_member, EntryItem, entry_item, member_item}

-- a record's act happened at its time
act_happened : (history : List Marked) (path : List Step) (i g start end : ℕ) (as_acts : List Act) (n : ℕ) (r : Record) (from until : ℕ) → AreActsTimed history path i g start end as_acts
    → slice_get as_acts n ≡ Some (Plain r from until) → Happened history (entry_of r.kind (entry path (i + n) r)) from until
act_happened history path i g start end [] n r from until timed found = cc
act_happened history path i g start end (Plain q f u ∷ as_acts) zero r from until (later, le, happened, by, timed) found =
    let same : Plain q f u ≡ Plain r from until = same_Some (Plain q f u) (Plain r from until) found in
    subst (λ (m : ℕ). Happened history (entry_of r.kind (entry path m r)) from until) (let e : i ≡ i + 0 = omega arith in e)
    (subst (λ (a : Act). Happened history (entry_of (act_put a).kind (entry path i (act_put a))) (act_from a) (act_until a)) same happened)
act_happened history path i g start end (Forks l s f u p ∷ as_acts) zero r from until timed found = let same : Forks l s f u p ≡ Plain r from until = same_Some (Forks l s f u p) (Plain r from until) found in cc
act_happened history path i g start end (Plain q f u ∷ as_acts) (suc n) r from until (later, le, happened, by, timed) found =
    subst (λ (m : ℕ). Happened history (entry_of r.kind (entry path m r)) from until) (let e : i + 1 + n ≡ i + suc n = omega arith in e) (act_happened history path (i + 1) g later end as_acts n r from until timed found)
act_happened history path i g start end (Forks l s f u p ∷ as_acts) (suc n) r from until (le, phased, timed) found =
    subst (λ (m : ℕ). Happened history (entry_of r.kind (entry path m r)) from until) (let e : i + 1 + n ≡ i + suc n = omega arith in e) (act_happened history path (i + 1) (g + 1) u end as_acts n r from until timed found)

-- the test of a node
abbrev is_at : Node → Entry → Bool
is_at x e = path_eq e.node.path x.path && (e.node.index == x.index)

abbrev marks : Node → List Entry → Bool
marks x [] = false
marks x (e ∷ es) = is_at x e

is_at_own : (e : Entry) → is_at e.node e ≡ true
is_at_own e = both (path_eq e.node.path e.node.path) (e.node.index == e.node.index) (path_same e.node.path) (grind arith) where
  both : (a b : Bool) → a ≡ true → b ≡ true → (a && b) ≡ true
  both true true x y = refl
  both true false x y = cc
  both false b x y = cc

filter_and : {X : Type 0} (f g : X → Bool) (xs : List X) → filter (λ (x : X). f x && g x) xs ≡ filter g (filter f xs)
filter_and f g [] = refl
filter_and {X} f g (x ∷ xs) = at (f x) (g x) refl refl (filter_and f g xs) where
  at : (a b : Bool) → f x ≡ a → g x ≡ b → filter (λ (y : X). f y && g y) xs ≡ filter g (filter f xs) → filter (λ (y : X). f y && g y) (x ∷ xs) ≡ filter g (filter f (x ∷ xs))
  at true true is also rest =
      filter_yes (λ (y : X). f y && g y) x xs (ap₂ (λ (a b : Bool). a && b) is also)
      ∙ ap (λ (ys : List X). x ∷ ys) rest ∙ sym (filter_yes g x (filter f xs) also) ∙ ap (λ (ys : List X). filter g ys) (sym (filter_yes f x xs is))
  at true false is also rest =
      filter_no (λ (y : X). f y && g y) x xs (ap₂ (λ (a b : Bool). a && b) is also)
      ∙ rest ∙ sym (filter_no g x (filter f xs) also) ∙ ap (λ (ys : List X). filter g ys) (sym (filter_yes f x xs is))
  at false b is also rest =
      filter_no (λ (y : X). f y && g y) x xs (ap (λ (a : Bool). a && g x) is)
      ∙ rest ∙ ap (λ (ys : List X). filter g ys) (sym (filter_no f x xs is))

-- as many items have an entry of a node as there are such entries, at most
marks_most : (x : Node) (items : List Marked) → length (filter (λ (y : Marked). marks x y.label) items) ≤ length (filter (is_at x) (entries_of items))
marks_most x [] = omega arith
marks_most x (y ∷ items) = by_label y.label refl (marks_most x items) where
  parts : length (filter (is_at x) (entries_of (y ∷ items))) ≡ length (filter (is_at x) y.label) + length (filter (is_at x) (entries_of items))
  parts = ap length (filter-append (is_at x) y.label (entries_of items)) ∙ length-append (filter (is_at x) y.label) (filter (is_at x) (entries_of items))

  by_label : (es : List Entry) → y.label ≡ es → length (filter (λ (z : Marked). marks x z.label) items) ≤ length (filter (is_at x) (entries_of items))
      → length (filter (λ (z : Marked). marks x z.label) (y ∷ items)) ≤ length (filter (is_at x) (entries_of (y ∷ items)))
  by_label [] is rest =
      let none = ap length (filter_no (λ (z : Marked). marks x z.label) y items (ap (λ (es : List Entry). marks x es) is)) in
      omega (arith, parts)
  by_label (e ∷ es) is rest = by_test (is_at x e) refl where
    by_test : (b : Bool) → is_at x e ≡ b → length (filter (λ (z : Marked). marks x z.label) (y ∷ items)) ≤ length (filter (is_at x) (entries_of (y ∷ items)))
    by_test true passes =
        let all = ap length (filter_yes (λ (z : Marked). marks x z.label) y items (ap (λ (fs : List Entry). marks x fs) is ∙ passes)) in
        let own : length (filter (is_at x) y.label) ≡ suc (length (filter (is_at x) es)) = ap (λ (fs : List Entry). length (filter (is_at x) fs)) is ∙ ap length (filter_yes (is_at x) e es passes) in
        omega (arith, parts)
    by_test false fails =
        let all = ap length (filter_no (λ (z : Marked). marks x z.label) y items (ap (λ (fs : List Entry). marks x fs) is ∙ fails)) in
        omega (arith, parts)

-- both lists have the same items
pub across : (xs ys : List Marked) → ((name : Name) → labelled_of name xs ≡ labelled_of name ys) → (n : ℕ) (x : Marked) → slice_get xs n ≡ Some x → Member ys x
across xs ys same n x found = at (stands (λ (y : Marked). name_eq y.step.name x.step.name) ys (counted (λ (y : Marked). name_eq y.step.name x.step.name) n xs) x there) where
  there : slice_get (labelled_of x.step.name ys) (counted (λ (y : Marked). name_eq y.step.name x.step.name) n xs) ≡ Some x
  there = ap (λ (zs : List Marked). slice_get zs (counted (λ (y : Marked). name_eq y.step.name x.step.name) n xs)) (sym (same x.step.name))
      ∙ at_count (λ (y : Marked). name_eq y.step.name x.step.name) n xs x found (is_same_name x.step.name)

  at : Stands (λ (y : Marked). name_eq y.step.name x.step.name) ys (counted (λ (y : Marked). name_eq y.step.name x.step.name) n xs) x → Member ys x
  at s = record { place = s.place; found = s.found }

module _ (items history : List Marked) (layout : WordLayout) (tree : TimedWork) (sound : IsSound layout (plain tree)) (start end : ℕ) (timed : IsTimed history [] 0 0 start end tree)
    (each : (name : Name) → labelled_of name history ≡ labelled_of name items)
    (counts : (test : Marked → Bool) → length (filter test history) ≡ length (filter test items))
    (single : AreSingle items)
    (known : (path : List Step) → task_entries path (entries_of items) ≡ entries_from path 0 (logs history layout tree sound start end timed path)) where
  abbrev tree_logs : Logs
  tree_logs = logs history layout tree sound start end timed

  abbrev tree_acts : List Step → List Act
  tree_acts = acts history layout tree sound start end timed

  abbrev IsAct : Act → Node → Type 0
  IsAct = IsActOf history layout tree sound start end timed

  pub all_single : AreSingle history
  all_single n x found = let m = across history items each n x found in single m.place x m.found

  -- an entry of the history is of a record of its log
  in_log : (e : Entry) → Member (entries_of items) e → OfLog e.node.path 0 (tree_logs e.node.path) e
  in_log e m =
      of_log e.node.path 0 (tree_logs e.node.path) e (counted (λ (f : Entry). path_eq f.node.path e.node.path) m.place (entries_of items))
      (ap (λ (es : List Entry). slice_get es (counted (λ (f : Entry). path_eq f.node.path e.node.path) m.place (entries_of items))) (sym (known e.node.path))
      ∙ at_count (λ (f : Entry). path_eq f.node.path e.node.path) m.place (entries_of items) e m.found (path_same e.node.path))

  -- no two items have one node
  pub one_place : (m n : ℕ) (x y : Marked) (e f : Entry) → slice_get history m ≡ Some x → slice_get history n ≡ Some y → x.label ≡ e ∷ [] → y.label ≡ f ∷ [] → e.node ≡ f.node → m ≡ n
  one_place m n x y e f here there mine yours same =
      only_one (λ (z : Marked). marks e.node z.label) history m n x y at_most here there
      (ap (λ (es : List Entry). marks e.node es) mine ∙ is_at_own e)
      (ap (λ (es : List Entry). marks e.node es) yours ∙ ap (λ (node : Node). is_at node f) same ∙ is_at_own f)
    where
      at_most : length (filter (λ (z : Marked). marks e.node z.label) history) ≤ 1
      at_most =
          let some = marks_most e.node items in
          let same_count = counts (λ (z : Marked). marks e.node z.label) in
          let of_task : length (filter (is_at e.node) (entries_of items)) ≡ length (filter (λ (g : Entry). g.node.index == e.node.index) (entries_from e.node.path 0 (tree_logs e.node.path)))
          = ap length (filter_and (λ (g : Entry). path_eq g.node.path e.node.path) (λ (g : Entry). g.node.index == e.node.index) (entries_of items))
          ∙ ap (λ (es : List Entry). length (filter (λ (g : Entry). g.node.index == e.node.index) es)) (known e.node.path) in
          let one = one_index e.node.path 0 e.node.index (tree_logs e.node.path) in
          omega arith

  -- an entry's act has the time of its place
  pub record Placed (e : Entry) (place : ℕ) (x : Marked) : Type 0 where
    pub act : Act
    pub is_act : IsAct act e.node
    pub from : act_from act ≡ place
    pub until : act_until act ≡ suc place
    pub lead : act_lead act ≡ suc place
    pub hand : IsHandOf history x.step.name e.node.path

  pub placed : (n : ℕ) (x : Marked) (e : Entry) → slice_get history n ≡ Some x → x.label ≡ e ∷ [] → Placed e n x
  placed n x e found label = with_member (across history items each n x found)
    where
      with_member : Member items x → Placed e n x
      with_member m = with_log (in_log e (entry_member items m.place x e m.found label)) where
        with_log : OfLog e.node.path 0 (tree_logs e.node.path) e → Placed e n x
        with_log o = with_act (act_of_record history layout tree sound start end timed e.node e.event
            (ap (λ (k : ℕ). slice_get (tree_logs e.node.path) k) (let i : e.node.index ≡ o.place = omega (arith, o.index) in i) ∙ o.found))
          where
            happened : (r : Record) (from until : ℕ) → IsAct (Plain r from until) e.node → logged r ≡ e.event → Happened history (e ∷ []) from until
            happened r from until is same =
                let h = has_times history layout tree sound start end timed e.node.path in
                subst (λ (es : List Entry). Happened history es from until) o.kept
                (subst (λ (q : Record). Happened history (entry_of q.kind (log_entry e.node.path e.node.index q)) from until) same
                (subst (λ (k : ℕ). Happened history (entry_of r.kind (entry e.node.path k r)) from until) (let i : 0 + e.node.index ≡ e.node.index = omega arith in i)
                (act_happened history e.node.path 0 0 h.start h.end (tree_acts e.node.path) e.node.index r from until h.timed is)))

            with_stand : (r : Record) (from until : ℕ) → IsAct (Plain r from until) e.node → Happened history (e ∷ []) from until → Placed e n x
            with_stand r from until is (step, s) =
                let same : from ≡ n = one_place from n s.x x e e s.found found s.label label refl in
                record {
                  act = Plain r from until;
                  is_act = is;
                  from = same;
                  until = omega arith;
                  lead = omega arith;
                  hand = subst (λ (y : Marked). IsHandOf history y.step.name e.node.path) (same_Some s.x x (sym s.found ∙ ap (λ (k : ℕ). slice_get history k) same ∙ found)) s.hand;
                }

            with_act : (act : Act) × IsAct act e.node × (act_record act ≡ e.event) → Placed e n x
            with_act (Plain r from until, is, same) = with_stand r from until is (happened r from until is same)
            with_act (Forks line span from until phases, is, same) =
                let kind : Region ≡ e.event.kind = ap (λ (q : Record). q.kind) same in
                let none : [] ≡ e ∷ [] = ap (λ (k : Kind). entry_of k e) kind ∙ o.kept in
                cc

  -- entries of one task stand in the order of its log
  pub in_turn : (path : List Step) (m n : ℕ) (x y : Marked) (e f : Entry) → m < n → slice_get history m ≡ Some x → slice_get history n ≡ Some y → x.label ≡ e ∷ [] → y.label ≡ f ∷ []
      → e.node.path ≡ path → f.node.path ≡ path → e.node.index < f.node.index
  in_turn path m n x y e f less here there mine yours of_path also_path = by_order (cases_lt e.node.index f.node.index)
    where
      p : Placed e m x
      p = placed m x e here mine

      q : Placed f n y
      q = placed n y f there yours

      paths : f.node.path ≡ e.node.path
      paths = also_path ∙ sym of_path

      by_order : (e.node.index < f.node.index) ⊎ (f.node.index ≤ e.node.index) → e.node.index < f.node.index
      by_order (inl before) = before
      by_order (inr le) = by_other (cases_lt f.node.index e.node.index) where
        by_other : (f.node.index < e.node.index) ⊎ (e.node.index ≤ f.node.index) → e.node.index < f.node.index
        by_other (inl later) =
            let done = node_order history layout tree sound start end timed e.node.path f.node.index e.node.index q.act p.act later
            (ap (λ (path2 : List Step). slice_get (tree_acts path2) f.node.index) (sym paths) ∙ q.is_act) p.is_act in
            absurd (omega (arith, q.until, p.from))
        by_other (inr ge) =
            let index : e.node.index ≡ f.node.index = omega arith in
            let nodes : e.node ≡ f.node = (λ i. record { path = sym paths i; index = index i }) in
            let place = one_place m n x y e f here there mine yours nodes in
            absurd (omega arith)

  -- a task's entries ascend
  task_ascends : (path : List Step) (low : ℕ) (xs : List Marked) → AreSingle xs
      → ((m n : ℕ) (x y : Marked) (e f : Entry) → m < n → slice_get xs m ≡ Some x → slice_get xs n ≡ Some y → x.label ≡ e ∷ [] → y.label ≡ f ∷ [] → e.node.path ≡ path → f.node.path ≡ path → e.node.index < f.node.index)
      → ((n : ℕ) (x : Marked) (e : Entry) → slice_get xs n ≡ Some x → x.label ≡ e ∷ [] → e.node.path ≡ path → low ≤ e.node.index)
      → Ascends low (task_entries path (entries_of xs))
  task_ascends path low [] one turn above = tt
  task_ascends path low (x ∷ xs) one turn above =
      at (one 0 x refl) (λ (l : ℕ) more. task_ascends path l xs (λ n y found. one (suc n) y found) (λ m n y z e f less. turn (suc m) (suc n) y z e f (omega arith)) more)
    where
      at : IsSingle x → ((l : ℕ) → ((n : ℕ) (y : Marked) (f : Entry) → slice_get xs n ≡ Some y → y.label ≡ f ∷ [] → f.node.path ≡ path → l ≤ f.node.index) → Ascends l (task_entries path (entries_of xs)))
          → Ascends low (task_entries path (entries_of (x ∷ xs)))
      at (inl none) later = subst (λ (es : List Entry). Ascends low (task_entries path (es ++ entries_of xs))) (sym none) (later low (λ n y f found. above (suc n) y f found))
      at (inr (e, label)) later = subst (λ (es : List Entry). Ascends low (task_entries path (es ++ entries_of xs))) (sym label) (by_path (path_eq e.node.path path) refl) where
        by_path : (b : Bool) → path_eq e.node.path path ≡ b → Ascends low (task_entries path (e ∷ entries_of xs))
        by_path true is =
            let here : e.node.path ≡ path = path_is e.node.path path is in
            subst (λ (es : List Entry). Ascends low es) (sym (filter_yes (λ (f : Entry). path_eq f.node.path path) e (entries_of xs) is))
            (above 0 x e refl label here, later (suc e.node.index) (λ n y f found yours there. turn 0 (suc n) x y e f (omega arith) refl found label yours here there))
        by_path false other =
            subst (λ (es : List Entry). Ascends low es) (sym (filter_no (λ (f : Entry). path_eq f.node.path path) e (entries_of xs) other)) (later low (λ n y f found. above (suc n) y f found))

  -- of one list's entries of a task each is in the other's
  keeps : (path : List Step) (xs ys : List Marked) → AreSingle xs → ((name : Name) → labelled_of name xs ≡ labelled_of name ys) → (e : Entry) → Member (task_entries path (entries_of xs)) e → Member (task_entries path (entries_of ys)) e
  keeps path xs ys one same e m = by_stand (stands (λ (f : Entry). path_eq f.node.path path) (entries_of xs) m.place e m.found)
    where
      by_stand : Stands (λ (f : Entry). path_eq f.node.path path) (entries_of xs) m.place e → Member (task_entries path (entries_of ys)) e
      by_stand s = by_item (member_item xs e one (record { place = s.place; found = s.found })) where
        by_item : (rest : List Entry) × EntryItem xs e rest → Member (task_entries path (entries_of ys)) e
        by_item (rest, i) = by_member (across xs ys same i.place i.x i.found) where
          by_member : Member ys i.x → Member (task_entries path (entries_of ys)) e
          by_member k = by_entry (entry_member ys k.place i.x e k.found i.label) where
            by_entry : Member (entries_of ys) e → Member (task_entries path (entries_of ys)) e
            by_entry l = record { place = _; found = at_count (λ (f : Entry). path_eq f.node.path path) l.place (entries_of ys) e l.found s.passes }

  pub task_whole : (path : List Step) → task_entries path (entries_of history) ≡ entries_from path 0 (tree_logs path)
  task_whole path =
      same_ascending 0 0 (task_entries path (entries_of history)) (task_entries path (entries_of items))
      (task_ascends path 0 history all_single (in_turn path) (λ n x e found label is. omega arith))
      (subst (λ (es : List Entry). Ascends 0 es) (sym (known path)) (log_ascends path 0 (tree_logs path)))
      (λ e m. keeps path history items all_single each e m)
      (λ e m. keeps path items history single (λ name. sym (each name)) e m)
      ∙ known path

  -- none stands before what happens before it
  pub respects : RespectsOrder tree_logs (entries_of history)
  respects before mid after x y same reaches = first (entry_item history before (mid ++ y ∷ after) x all_single same)
    where
      drop_get : {X : Type 0} (xs : List X) (k n : ℕ) → slice_get (drop k xs) n ≡ slice_get xs (k + n)
      drop_get xs zero n = ap (λ (m : ℕ). slice_get xs m) (let e : n ≡ 0 + n = omega arith in e)
      drop_get [] (suc k) n = refl
      drop_get (z ∷ xs) (suc k) n = drop_get xs k n ∙ ap (λ (m : ℕ). slice_get (z ∷ xs) m) (let e : suc (k + n) ≡ suc k + n = omega arith in e)

      first : EntryItem history x (mid ++ y ∷ after) → ⊥
      first i = second (entry_item (drop (suc i.place) history) mid after y (λ n z found. all_single (suc i.place + n) z (sym (drop_get history (suc i.place) n) ∙ found)) i.after)
        where
          second : EntryItem (drop (suc i.place) history) y after → ⊥
          second j = by_lead (before_order history layout tree sound start end timed y.node x.node reaches)
            where
              there : slice_get history (suc i.place + j.place) ≡ Some j.x
              there = sym (drop_get history (suc i.place) j.place) ∙ j.found

              p : Placed x i.place i.x
              p = placed i.place i.x x i.found i.label

              q : Placed y (suc i.place + j.place) j.x
              q = placed (suc i.place + j.place) j.x y there j.label

              by_lead : (y.node ≡ x.node) ⊎ Leads history layout tree sound start end timed y.node x.node → ⊥
              by_lead (inl nodes) = let place = one_place (suc i.place + j.place) i.place j.x i.x y x there i.found j.label i.label nodes in omega arith
              by_lead (inr leads) = let le = leads q.act p.act q.is_act p.is_act in omega (arith, q.lead, p.from)
