-- Where an element that was found stands.
use Rattle.std.proofs.Common.{ap, sym, subst, ◌∙◌, ℕ, ◌<◌, Option}
use Rattle.kernel_syntax.specs.Layout.{elements}
use Rattle.kernel_model.specs.Value as model
use Rattle.execution_model.specs.Elements.{element_word, element_address, element_width}
use Rattle.task_place.specs.declared.place.Element.{Element}
use Rattle.task_place.specs.Placing.{IsElement}
use Rattle.lane_runner.specs.World.{WorldValue, IsWorld}
use Rattle.lane_runner.specs.Placing.{StandsIn}

pub stands_in : (w : WorldValue) → IsWorld w → {found : Option model.Element} {e : Element} → IsElement w.arrays (elements w.arrays) found e → StandsIn w e
stands_in w world {e = e} element =
    let n = element.numbered in
    let own = world.apart in
    record {
      width = element.width;
      inside = subst (λ (n : ℕ). e.word < n) (sym world.count) element.inside;
      word = ap (λ (m : ℕ). element_word w.arrays m) n.addr ∙ own.word n.place n.number n.array n.listed n.within ∙ sym n.word;
      address = ap (λ (m : ℕ). element_address w.arrays m) n.word ∙ own.address n.place n.number n.array n.listed n.within ∙ sym n.addr;
      bytes = ap (λ (m : ℕ). element_width w.arrays m) n.word ∙ own.width n.place n.number n.array n.listed n.within ∙ sym n.width;
    }
