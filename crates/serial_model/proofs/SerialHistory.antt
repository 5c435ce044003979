-- What a tree of work did serially is a legal history of its logs in serial order.
use Rattle.std.proofs.Common.{◌⊎◌, inl, inr, refl, sym, ◌∙◌, subst, ℕ, List, []}
use Rattle.race_model.specs.Trace.{Logs}
use Rattle.race_model.specs.Order.{HappensBefore}
use Rattle.race_model.specs.History.{Entry, IsReleased}
use Rattle.history_model.specs.Work.{Work, task_logs}
use Rattle.history_model.specs.Did.{did}
use Rattle.history_model.specs.Joined.{IsJoined}
use Rattle.history_model.specs.Sound.{WordLayout, IsSound, HasAddresses, AreFitted}
use Rattle.history_laws.proofs.LabelledWork.{Marked, did_marked, marked_items}
use Rattle.history_laws.proofs.TaskEntries.{entries_of, did_entries}
use Rattle.history_laws.proofs.TreeHistory.{TellsTree, legal_history, tells_tree}
use Rattle.serial_model.specs.Order.{ComesFirst, HasSerialHistory, HasSmallerLane, IsInSerialOrder}
use Rattle.serial_model.specs.Serial.{IsSerial, Leaves}
use Rattle.serial_model.proofs.Legal.{serial_legal}
use Rattle.serial_model.proofs.Told.{Comes, InTurn, told_in_turn, turn_at}

module _ (layout : WordLayout) (root : Work) (sound : IsSound layout root) (joined : IsJoined root) (memory words : List ℕ) (addresses : HasAddresses layout memory) (fitted : AreFitted layout memory words)
    (serial : IsSerial layout.word root) (leaves : Leaves layout.word root memory) where
  abbrev items : List Marked
  items = did_marked layout.word [] 0 [] 0 0 root

  tells : TellsTree layout root words (entries_of items)
  tells =
      tells_tree layout root sound memory words addresses fitted (did layout.word [] 0 root)
      (record { history = items; steps = marked_items layout.word [] 0 [] 0 0 root; each = λ name. refl; counts = λ test. refl }) (serial_legal layout.word root serial) leaves

  in_serial_order : IsInSerialOrder (task_logs root) (entries_of items)
  in_serial_order before mid after x y same = at (turn_at (Comes layout root sound joined) before mid after x y (subst (λ (es : List Entry). InTurn (Comes layout root sound joined) es) (sym (did_entries layout.word [] 0 [] 0 0 root) ∙ same) (told_in_turn layout root sound joined))) where
    at : HappensBefore (task_logs root) x.node y.node ⊎ HasSmallerLane x.node.path y.node.path → ComesFirst (task_logs root) x.node y.node
    at (inl reaches) = ComesFirst.before reaches
    at (inr smaller) = ComesFirst.beside (tells.order before mid after x y same) smaller

-- the law
pub told_serially : (layout : WordLayout) (root : Work) (memory words : List ℕ) (logs : Logs) → IsSound layout root → IsJoined root → HasAddresses layout memory → AreFitted layout memory words
    → IsSerial layout.word root → Leaves layout.word root memory → IsReleased logs (task_logs root) → HasSerialHistory logs layout.address words
told_serially layout root memory words logs sound joined addresses fitted serial leaves is = record {
  legal = legal_history layout root words (entries_of (did_marked layout.word [] 0 [] 0 0 root)) logs (tells layout root sound joined memory words addresses fitted serial leaves) is;
  order = in_serial_order layout root sound joined memory words addresses fitted serial leaves;
}
