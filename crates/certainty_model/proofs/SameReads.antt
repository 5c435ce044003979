-- Every read of an execution finds what it finds in the run without races.
use Rattle.std.proofs.Common.{◌≡◌, refl, ap, sym, ◌∙◌, subst, ◌⊎◌, inl, inr, ℕ, List, [], ◌∷◌, ◌++◌, append_assoc, Some}
use Rattle.std.proofs.lemmas.List.{append-nil}
use Rattle.std.proofs.lemmas.Option.{same_Some}
use Rattle.sw_base.specs.declared.path.Step.{Step}
use Rattle.race_model.proofs.TraceLogs.{record_there}
use Rattle.log_format.specs.declared.record.Record.{Record}
use Rattle.log_format.specs.declared.record.Kind.{Kind}
use Rattle.log_format.specs.declared.record.Kind.TheVariants as kind
use Rattle.race_model.specs.History.{Entry, entry_of, stored_value, FitsKind, IsHistory, IsLegalHistory, RespectsOrder}
use Rattle.race_model.specs.Order.{HappensBefore}
use Rattle.race_model.specs.Trace.{Logs, Node, IsThere, HasKind, record_at}
use Rattle.kernel_syntax.specs.Program.{Program}
use Rattle.execution_model.specs.Execution.{HaveMet, HaveJoined}
use Rattle.certainty_model.proofs.Descent.{AreRuns, there_before, Parts, CalmBefore, Calm, calm_earlier, Agreed, agreed, same_record}
use Rattle.certainty_model.proofs.Entries.{Has, has_either, has_left, has_right, Around, around, InOrder, first_in, second_in, order_more, order_parts, respected, legal_at, entry, IsKept, entry_record, entry_is, record_entry}
use Rattle.certainty_model.proofs.LastStores.{IsStore, NoUpdate, same_value}
use Rattle.certainty_model.proofs.Reach.{reach}

pub read_kept : (r : Record) → r.kind ≡ kind.Read → IsKept r
read_kept r is e = ap (λ (k : Kind). entry_of k e) is

pub write_kept : (r : Record) → r.kind ≡ kind.Write → IsKept r
write_kept r is e = ap (λ (k : Kind). entry_of k e) is

-- no record is an update
abbrev pub MakesNoUpdate : Logs → Type 0
MakesNoUpdate logs = (x : Node) (r : Record) → record_at logs x ≡ Some r → r.kind ≡ kind.Update → ⊥

-- a task has one End at most
abbrev pub EndOnce : Logs → Type 0
EndOnce logs = (x y : Node) → x.path ≡ y.path → HasKind logs x kind.End → HasKind logs y kind.End → x.index ≡ y.index

-- A run in which each write is ordered with each access of its address, and which makes no update: told of its records.
pub record IsOrdered (logs : Logs) : Type 0 where
  pub no_update : MakesNoUpdate logs
  pub one_end : EndOnce logs
  pub ordered : (x y : Node) (r s : Record) → record_at logs x ≡ Some r → record_at logs y ≡ Some s → r.kind ≡ kind.Write → (s.kind ≡ kind.Read) ⊎ (s.kind ≡ kind.Write) → r.addr ≡ s.addr
      → (HappensBefore logs x y → ⊥) → (HappensBefore logs y x → ⊥) → ⊥

pub record IsSequence (logs : Logs) (history : List Entry) : Type 0 where
  pub is : IsHistory logs history
  pub legal : IsLegalHistory history
  pub order : RespectsOrder logs history

pub write_record : (logs : Logs) (history : List Entry) (is : IsHistory logs history) (e : Entry) → Has e history → (addr : ℕ) → IsStore addr e → record_at logs e.node ≡ Some e.event
write_record logs history is e has addr store = entry_record logs history is e has (λ unlock. let no : kind.Write ≡ kind.Unlock = sym store.writes ∙ unlock in cc)

-- no update among a history's entries, where the logs make none
pub no_updates : (logs : Logs) (history : List Entry) → IsHistory logs history → MakesNoUpdate logs → NoUpdate history
no_updates logs history is none e has update =
    none e.node e.event (entry_record logs history is e has (λ unlock. let no : kind.Update ≡ kind.Unlock = sym update ∙ unlock in cc)) update

module _ (program : Program) (S T : Logs) (Lists : List Step → Type 0) (runs : AreRuns program S T Lists) (met : HaveMet T) (joined : HaveJoined T) (free : IsOrdered S)
    (mine other : List Entry) (mine_is : IsSequence S mine) (other_is : IsSequence T other) where
  abbrev Differ : Node → Type 0
  Differ x = Parts program S T Lists runs x

  abbrev Quiet : Node → Type 0
  Quiet x = CalmBefore program S T Lists runs x

  abbrev Still : Node → Type 0
  Still x = Calm program S T Lists runs x

  abbrev Is : Node → Type 0
  Is x = Agreed program S T Lists runs x

  -- a read that parts is in the history
  in_history : (q : Node) (d : Differ q) → Has (entry q d.right) other
  in_history q d = record_entry T other other_is.is q d.right d.right_is (read_kept d.right d.right_read)

  -- the first read that parts, at this entry, would find what it finds in the run
  module _ (before after : List Entry) (e : Entry) (parts : other ≡ before ++ e ∷ after) (quiet_before : (f : Entry) → Has f before → Differ f.node → ⊥) (bad : Differ e.node) where
    in_order : (x y : Entry) → Has x before → Has y (e ∷ after) → HappensBefore T y.node x.node → ⊥
    in_order x y one two = respected T other other_is.order x y (subst (λ (es : List Entry). InOrder es x y) (sym parts) (order_parts before (e ∷ after) x y one two))

    behind : (y : Entry) → Has y after → HappensBefore T y.node e.node → ⊥
    behind y has =
        respected T other other_is.order e y
        (subst (λ (es : List Entry). InOrder es e y) (append_assoc before (e ∷ []) after ∙ sym parts) (order_parts (before ++ e ∷ []) after e y (has_right e before (e ∷ []) (inl refl)) has))

    split : (f : Entry) → Has f other → Has f before ⊎ Has f (e ∷ after)
    split f has = has_either f before (e ∷ after) (subst (λ (es : List Entry). Has f es) parts has)

    here : IsThere T e.node
    here = record_there T e.node bad.right bad.right_is

    calm : Quiet e.node
    calm q q_before apart d = elim (split (entry q d.right) (in_history q d))
        [ inl earlier ↦ quiet_before (entry q d.right) earlier d | inr (inl is) ↦ apart (sym (ap (λ (f : Entry). f.node) is)) | inr (inr later) ↦ behind (entry q d.right) later q_before ]

    earlier_calm : (f : Entry) → Has f before → Still f.node
    earlier_calm f has q q_before d =
        elim (split (entry q d.right) (in_history q d)) [ inl earlier ↦ quiet_before (entry q d.right) earlier d | inr behind ↦ in_order f (entry q d.right) has behind q_before ]

    in_other : (f : Entry) → Has f before → Has f other
    in_other f has = subst (λ (es : List Entry). Has f es) (sym parts) (has_left f before (e ∷ after) has)

    -- what stands before it is the same in the run
    in_run : (f : Entry) → Has f before → record_at T f.node ≡ Some f.event → record_at S f.node ≡ Some f.event
    in_run f has found = sym (same_record program S T Lists runs f.node (agreed program S T Lists runs f.node (record_there T f.node f.event found) (earlier_calm f has))) ∙ found

    read_there : Has (entry e.node bad.left) mine
    read_there = record_entry S mine mine_is.is e.node bad.left bad.left_is (read_kept bad.left bad.left_read)

    own : Around mine (entry e.node bad.left)
    own = around (entry e.node bad.left) mine read_there

    own_split : (f : Entry) → Has f mine → Has f own.before ⊎ Has f (entry e.node bad.left ∷ own.after)
    own_split f has = has_either f own.before (entry e.node bad.left ∷ own.after) (subst (λ (es : List Entry). Has f es) own.parts has)

    in_mine : (f : Entry) → Has f own.before → Has f mine
    in_mine f has = subst (λ (es : List Entry). Has f es) (sym own.parts) (has_left f own.before (entry e.node bad.left ∷ own.after) has)

    own_order : (x y : Entry) → InOrder mine x y → HappensBefore S y.node x.node → ⊥
    own_order = respected S mine mine_is.order

    -- a store before it stands before it in the run
    to_run : (w : Entry) → Has w before → IsStore bad.left.addr w → (Has w own.before → ⊥) → ⊥
    to_run w has store not_there = by (own_split w (record_entry S mine mine_is.is w.node w.event found (write_kept w.event store.writes)))
      where
        in_log : record_at T w.node ≡ Some w.event
        in_log = write_record T other other_is.is w (in_other w has) bad.left.addr store

        found : record_at S w.node ≡ Some w.event
        found = in_run w has in_log

        late : Has w own.after → ⊥
        late later =
            free.ordered w.node e.node w.event bad.left found bad.left_is store.writes (inl bad.left_read) store.address
            (λ w_first. own_order (entry e.node bad.left) w
            (subst (λ (es : List Entry). InOrder es (entry e.node bad.left) w) (append_assoc own.before (entry e.node bad.left ∷ []) own.after ∙ sym own.parts)
            (order_parts (own.before ++ entry e.node bad.left ∷ []) own.after (entry e.node bad.left) w (has_right (entry e.node bad.left) own.before (entry e.node bad.left ∷ []) (inl refl)) later)) w_first)
            (λ read_first. in_order w e has (inl refl) (reach program S T Lists runs met joined free.one_end e.node w.node read_first (record_there T w.node w.event in_log) (λ q q_before apart. earlier_calm w has q q_before)))

        by : Has w own.before ⊎ Has w (entry e.node bad.left ∷ own.after) → ⊥
        by (inl earlier) = not_there earlier
        by (inr (inl is)) = let no : kind.Read ≡ kind.Write = sym bad.left_read ∙ (ap (λ (f : Entry). f.event.kind) is ∙ store.writes) in cc
        by (inr (inr later)) = late later

    -- a store before it in the run stands before it
    from_run : (u : Entry) → Has u own.before → IsStore bad.left.addr u → (Has u before → ⊥) → ⊥
    from_run u has store not_there =
        free.ordered u.node e.node u.event bad.left found bad.left_is store.writes (inl bad.left_read) store.address first
        (own_order u (entry e.node bad.left) (subst (λ (es : List Entry). InOrder es u (entry e.node bad.left)) (sym own.parts)
        (order_parts own.before (entry e.node bad.left ∷ own.after) u (entry e.node bad.left) has (inl refl))))
      where
        found : record_at S u.node ≡ Some u.event
        found = write_record S mine mine_is.is u (in_mine u has) bad.left.addr store

        apart : u.node ≡ e.node → ⊥
        apart is = let same : u.event ≡ bad.left = same_Some u.event bad.left (sym found ∙ (ap (λ (x : Node). record_at S x) is ∙ bad.left_is)) in cc

        first : HappensBefore S u.node e.node → ⊥
        first in_one = by (split u (record_entry T other other_is.is u.node u.event in_log (write_kept u.event store.writes)))
          where
            in_two : HappensBefore T u.node e.node
            in_two = reach program S T Lists runs met joined free.one_end u.node e.node in_one here calm

            u_is : Is u.node
            u_is = agreed program S T Lists runs u.node (there_before T u.node e.node in_two here) (calm_earlier program S T Lists runs u.node e.node here in_two apart calm)

            in_log : record_at T u.node ≡ Some u.event
            in_log = same_record program S T Lists runs u.node u_is ∙ found

            by : Has u before ⊎ Has u (e ∷ after) → ⊥
            by (inl earlier) = not_there earlier
            by (inr (inl is)) = apart (sym (ap (λ (f : Entry). f.node) is))
            by (inr (inr later)) = behind u later in_two

    -- two stores before it stand in one order
    one_order : (x y : Entry) → IsStore bad.left.addr x → IsStore bad.left.addr y → InOrder before x y → InOrder own.before y x → ⊥
    one_order x y x_is y_is one two =
        free.ordered x.node y.node x.event y.event (found x x_is x_has) (found y y_is y_has) x_is.writes (inr y_is.writes) (x_is.address ∙ sym y_is.address)
        (own_order y x (subst (λ (es : List Entry). InOrder es y x) (sym own.parts) (order_more own.before (entry e.node bad.left ∷ own.after) y x two)))
        (λ y_first. respected T other other_is.order x y (subst (λ (es : List Entry). InOrder es x y) (sym parts) (order_more before (e ∷ after) x y one))
        (reach program S T Lists runs met joined free.one_end y.node x.node y_first (record_there T x.node x.event (write_record T other other_is.is x (in_other x x_has) bad.left.addr x_is)) (λ q q_before apart. earlier_calm x x_has q q_before)))
      where
        x_has : Has x before
        x_has = first_in before x y one

        y_has : Has y before
        y_has = second_in before x y one

        found : (f : Entry) → IsStore bad.left.addr f → Has f before → record_at S f.node ≡ Some f.event
        found f store has = in_run f has (write_record T other other_is.is f (in_other f has) bad.left.addr store)

    plain_before : NoUpdate before
    plain_before f has update =
        free.no_update f.node f.event (in_run f has (entry_record T other other_is.is f (in_other f has) (λ unlock. let no : kind.Update ≡ kind.Unlock = sym update ∙ unlock in cc))) update

    plain_own : NoUpdate own.before
    plain_own f has = no_updates S mine mine_is.is free.no_update f (in_mine f has)

    event_is : e.event ≡ bad.right
    event_is = entry_is T other other_is.is e bad.right (subst (λ (es : List Entry). Has e es) (sym parts) (has_right e before (e ∷ after) (inl refl))) bad.right_is

    right_value : bad.right.value ≡ stored_value bad.left.addr before
    right_value =
        let fits : FitsKind e.event.kind before e.event e.node.path = legal_at [] before after e (subst IsLegalHistory parts other_is.legal) in
        let of_read : FitsKind kind.Read before bad.right e.node.path =
        subst (λ (k : Kind). FitsKind k before bad.right e.node.path) bad.right_read (subst (λ (r : Record). FitsKind r.kind before r e.node.path) event_is fits) in
        of_read ∙ ap (λ (a : ℕ). stored_value a before) bad.address

    left_value : bad.left.value ≡ stored_value bad.left.addr own.before
    left_value = subst (λ (k : Kind). FitsKind k own.before bad.left e.node.path) bad.left_read (legal_at [] own.before own.after (entry e.node bad.left) (subst IsLegalHistory own.parts mine_is.legal))

    contradiction : ⊥
    contradiction = same_value bad.left.addr before own.before plain_before plain_own to_run from_run one_order (λ same. bad.apart (left_value ∙ (sym same ∙ sym right_value)))

  none_behind : (after before : List Entry) → other ≡ before ++ after → ((f : Entry) → Has f before → Differ f.node → ⊥) → (f : Entry) → Has f other → Differ f.node → ⊥
  none_behind [] before parts quiet f has = quiet f (subst (λ (es : List Entry). Has f es) (parts ∙ append-nil before) has)
  none_behind (e ∷ after) before parts quiet f has = none_behind after (before ++ e ∷ []) (parts ∙ sym (append_assoc before (e ∷ []) after)) longer f has
    where
      longer : (g : Entry) → Has g (before ++ e ∷ []) → Differ g.node → ⊥
      longer g in_longer d = elim (has_either g before (e ∷ []) in_longer)
          [ inl earlier ↦ quiet g earlier d | inr (inl is) ↦ contradiction before after e parts quiet (subst (λ (x : Node). Differ x) (sym (ap (λ (f : Entry). f.node) is)) d) | inr (inr nowhere) ↦ nowhere ]

  -- the law
  pub nothing_parts : (q : Node) → Parts program S T Lists runs q → ⊥
  nothing_parts q d = none_behind other [] refl (λ f has. absurd has) (entry q d.right) (in_history q d) d
