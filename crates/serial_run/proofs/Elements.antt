-- Where an element that was found stands.
use Rattle.std.proofs.Common.{ap, sym, ◌∙◌, ℕ, Option, List, arith}
use Rattle.kernel_syntax.specs.declared.syntax.Array.{Array}
use Rattle.kernel_syntax.specs.Layout.{elements}
use Rattle.kernel_model.specs.Value as model
use Rattle.task_place.specs.declared.place.Element.{Element}
use Rattle.task_place.specs.Placing.{IsElement}
use Rattle.serial_run.specs.Placing.{ElementLayout, IsPlacedAt, TellsWords}

pub stands_at : {arrays : List Array} {found : Option model.Element} {e : Element} → IsElement arrays (elements arrays) found e → (layout : ElementLayout) → TellsWords arrays layout → IsPlacedAt layout e
stands_at element layout tells =
    let n = element.numbered in
    record {
      word = ap (λ (m : ℕ). layout.words.word m) n.addr ∙ tells.word n.place n.number n.array n.listed n.within ∙ sym n.word;
      address = ap (λ (m : ℕ). layout.words.address m) n.word ∙ tells.address n.place n.number n.array n.listed n.within ∙ sym n.addr;
      width = ap (λ (m : ℕ). layout.words.width m) n.word ∙ tells.width n.place n.number n.array n.listed n.within ∙ sym n.width;
      within = let inside = element.inside in let all = tells.count in omega arith;
    }
