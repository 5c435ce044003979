-- The logs of a tree of work have a legal history where its hands have one.
use Rattle.std.proofs.Common.{◌≡◌, refl, sym, ap, ◌∙◌, subst, ℕ, ◌<◌, Bool, true, false, List, [], ◌∷◌, ◌++◌, length, Some, arith}
use Rattle.std.specs.Prelude.{slice_get, slice_index}
use Rattle.std.proofs.lemmas.List.{append-nil}
use Rattle.sw_base.specs.declared.path.Step.{Step}
use Rattle.log_format.specs.Fitting.{fit}
use Rattle.log_format.proofs.FittedBits.{fit_zero}
use Rattle.race_model.specs.Trace.{Logs}
use Rattle.race_model.specs.History.{Entry, entries_from, task_entries, IsReleased, IsLegalHistory, RespectsOrder, HasLegalHistory, stored_value, stored_from}
use Rattle.step_history.specs.declared.item.Item.{Item}
use Rattle.step_history.specs.History.{Name, name_eq, of, Legal, value_at, HasHistory}
use Rattle.history_model.specs.Work.{Work, task_logs}
use Rattle.history_model.specs.Did.{did, split_count}
use Rattle.history_model.specs.Sound.{WordLayout, IsSound, HasAddresses, AreFitted}
use Rattle.step_history.specs.Labels.{labelled_of, items_of, IsLabelling}
use Rattle.step_history.proofs.Labelled.{labelling, filter_yes, filter_no}
use Rattle.history_laws.proofs.Counting.{counted_all}
use Rattle.history_laws.proofs.LabelledWork.{Marked, did_marked, marked_items}
use Rattle.history_laws.proofs.TimedWork.{TimedWork, plain, IsTimed, IsHandOf, Timing}
use Rattle.history_laws.proofs.Times.{hand_of, own_path, times}
use Rattle.history_laws.proofs.Windows.{Window, named}
use Rattle.history_laws.proofs.TaskEntries.{entries_of, did_entries}
use Rattle.history_laws.proofs.LaneEntries.{tree_entries}
use Rattle.history_laws.proofs.GoodItems.{IsGood, AreGood, good_single, did_good}
use Rattle.history_laws.proofs.Members.{Member, AreSingle}
use Rattle.history_laws.proofs.Ordered.{across, placed, task_whole, respects}
use Rattle.history_laws.proofs.Legality.{values, legal_records}
use Rattle.history_laws.proofs.LongerLogs.{before_full, released_on}

-- the items of a name, without and with their labels
of_items : (name : Name) (items : List Marked) → of name (items_of items) ≡ items_of (labelled_of name items)
of_items name [] = refl
of_items name (x ∷ items) = at (name_eq x.step.name name) refl (of_items name items) where
  at : (b : Bool) → name_eq x.step.name name ≡ b → of name (items_of items) ≡ items_of (labelled_of name items) → of name (items_of (x ∷ items)) ≡ items_of (labelled_of name (x ∷ items))
  at true is rest =
      filter_yes (λ (y : Item). name_eq y.name name) x.step (items_of items) is ∙ ap (λ (ys : List Item). x.step ∷ ys) rest
      ∙ ap (λ (ys : List Marked). items_of ys) (sym (filter_yes (λ (y : Marked). name_eq y.step.name name) x items is))
  at false other rest =
      filter_no (λ (y : Item). name_eq y.name name) x.step (items_of items) other ∙ rest
      ∙ ap (λ (ys : List Marked). items_of ys) (sym (filter_no (λ (y : Marked). name_eq y.step.name name) x items other))

-- the entries of a task are those of its log, in a tree that is timed too
tree_known : (layout : WordLayout) (root : Work) (tree : TimedWork) → plain tree ≡ root
    → (path : List Step) → task_entries path (entries_of (did_marked layout.word [] 0 [] 0 0 root)) ≡ entries_from path 0 (task_logs (plain tree) path)
tree_known layout root tree plain_is path =
    ap (λ (es : List Entry). task_entries path es) (did_entries layout.word [] 0 [] 0 0 root) ∙ tree_entries root path
    ∙ ap (λ (w : Work). entries_from path 0 (task_logs w path)) (sym plain_is)

-- what the steps of a tree tell: each task's entries, legally, in an order that happens-before allows, and these words in the end
pub record TellsTree (layout : WordLayout) (root : Work) (words : List ℕ) (history : List Entry) : Type 0 where
  pub each : (path : List Step) → task_entries path history ≡ entries_from path 0 (task_logs root path)
  pub legal : IsLegalHistory history
  pub order : RespectsOrder (task_logs root) history
  pub memory : (word : ℕ) → word < length words → slice_index words word ≡ stored_value (layout.address word) history

abbrev pub legal_history : (layout : WordLayout) (root : Work) (words : List ℕ) (history : List Entry) (logs : Logs) → TellsTree layout root words history → IsReleased logs (task_logs root)
    → HasLegalHistory logs layout.address words
legal_history layout root words history logs tells is = record {
  history = history;
  is_history = record { full = task_logs root; is_released = is; each = tells.each };
  legal = tells.legal;
  order = λ before mid after x y same reaches. tells.order before mid after x y same (before_full logs (task_logs root) (released_on logs (task_logs root) is) y.node x.node reaches);
  memory = tells.memory;
}

module _ (layout : WordLayout) (root : Work) (sound : IsSound layout root) (memory words : List ℕ)
    (addresses : HasAddresses layout memory) (fitted : AreFitted layout memory words)
    (log : List Item) (labelled : IsLabelling log (did_marked layout.word [] 0 [] 0 0 root)) (legal_log : Legal log)
    (ends : (word : ℕ) → word < length memory → slice_index memory word ≡ value_at word log) where
  abbrev items : List Marked
  items = did_marked layout.word [] 0 [] 0 0 root

  abbrev history : List Marked
  history = labelled.history

  legal : Legal (items_of history)
  legal = subst (λ (steps : List Item). Legal steps) (sym labelled.steps) legal_log

  root_hand : IsHandOf history [] []
  root_hand = hand_of layout.word history legal [] [] items (labelled.each []) (own_path layout.word [] 0 [] 0 0 root)

  root_window : Window history [] 0 (split_count root) items [] [] 0 (length history)
  root_window = record {
    own = labelled.each [] ∙ sym (append-nil (labelled_of [] items));
    below = λ pre j low high. labelled.each (pre ++ j ∷ []);
    fresh = λ n x found j lane span is. cc;
    ordered = omega arith;
    began = omega arith;
    ended = let all = counted_all (named history []) history in let same = ap length (labelled.each []) in omega arith;
  }

  timing : Timing history [] 0 0 0 (length history) root
  timing = times layout.word history legal [] 0 [] 0 0 root [] [] 0 (length history) root_hand root_window

  good : AreGood layout items
  good = did_good layout [] 0 [] 0 0 root sound

  single : AreSingle items
  single = good_single layout items good

  -- from here on of the timed tree
  module _ (tree : TimedWork) (plain_is : plain tree ≡ root) (timed : IsTimed history [] 0 0 0 (length history) tree) where
    tree_sound : IsSound layout (plain tree)
    tree_sound = subst (λ (w : Work). IsSound layout w) (sym plain_is) sound

    history_good : AreGood layout history
    history_good n x found = at (across history items labelled.each n x found) where
      at : Member items x → IsGood layout x
      at m = good m.place x m.found

    one_task : (m n : ℕ) (x y : Marked) (e f : Entry) → slice_get history m ≡ Some x → slice_get history n ≡ Some y → x.label ≡ e ∷ [] → y.label ≡ f ∷ [] → y.step.name ≡ x.step.name → f.node.path ≡ e.node.path
    one_task m n x y e f here there mine yours same =
        let p = placed items history layout tree tree_sound 0 (length history) timed labelled.each labelled.counts single (tree_known layout root tree plain_is) m x e here mine in
        p.hand n y there same f yours

    last_value : (word : ℕ) → word < length words → slice_index words word ≡ stored_value (layout.address word) (entries_of history)
    last_value word less =
        let within : word < length memory = omega (arith, fitted.count) in
        let here = addresses word within in
        fitted.each word within
        ∙ ap (λ (v : ℕ). fit v (layout.width word)) (ends word within ∙ ap (λ (steps : List Item). value_at word steps) (sym labelled.steps))
        ∙ ap (λ (w : ℕ). fit (value_at w (items_of history)) (layout.width w)) (sym here.0)
        ∙ sym (values layout (layout.address word) (ap layout.address here.0) history 0 history_good)
        ∙ ap (λ (v : ℕ). stored_from (layout.address word) (entries_of history) v)
        (ap (λ (w : ℕ). fit 0 (layout.width w)) here.0 ∙ fit_zero (layout.width word) here.1)

    tells : TellsTree layout root words (entries_of history)
    tells = record {
      each = λ path. task_whole items history layout tree tree_sound 0 (length history) timed labelled.each labelled.counts single (tree_known layout root tree plain_is) path
          ∙ ap (λ (w : Work). entries_from path 0 (task_logs w path)) plain_is;
      legal = legal_records layout history history_good one_task legal;
      order =
          subst (λ (w : Work). RespectsOrder (task_logs w) (entries_of history)) plain_is
          (respects items history layout tree tree_sound 0 (length history) timed labelled.each labelled.counts single (tree_known layout root tree plain_is));
      memory = last_value;
    }

  pub tells_tree : TellsTree layout root words (entries_of labelled.history)
  tells_tree = tells timing.tree timing.plain_is timing.timed

-- the law of one history
pub tree_history : (layout : WordLayout) (root : Work) → IsSound layout root → (memory words : List ℕ) → HasAddresses layout memory → AreFitted layout memory words
    → HasHistory (did layout.word [] 0 root) memory → (logs : Logs) → IsReleased logs (task_logs root) → HasLegalHistory logs layout.address words
tree_history layout root sound memory words addresses fitted has logs is =
    let items = did_marked layout.word [] 0 [] 0 0 root in
    let labelled = labelling has.log items (λ name. has.whole name ∙ ap (λ (xs : List Item). of name xs) (sym (marked_items layout.word [] 0 [] 0 0 root)) ∙ of_items name items) in
    legal_history layout root words (entries_of labelled.history) logs (tells_tree layout root sound memory words addresses fitted has.log labelled has.legal has.ends) is
