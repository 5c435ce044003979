use Rattle.std.proofs.Common.{rules, ◌≡◌, refl, sym, ap, subst, ◌∙◌, arith, List, ℕ, ◌+◌, length, take, length-take-le}
use Rattle.sw_base.specs.Environment.{Reads}
use Rattle.sw_base.specs.Window.{file_of}
use Rattle.sw_base.proofs.Windows.{shows_put}
use Rattle.sw_base.proofs.window.read_on.Goals as goal

pub reads-preserved : goal.reads-preserved
reads-preserved g c =
    let inv = c.reads.invariant in
    let kept : List ℕ = take c.reads.to c.reads.bytes in
    let long : length kept ≡ c.reads.to = length-take-le c.reads.to c.reads.bytes (omega (arith, inv.long, inv.room)) in
    record {
      same = search rules;
      no_fault = search rules;
      long = search rules;
      room = search rules;
      shows = λ x told started.
          let file : List ℕ = file_of x c.args.name.now in
          let reads : Reads file (c.args.place + length kept) c.in_ok-more.more c.read.new.into =
          subst (λ (n : ℕ). Reads file (c.args.place + n) c.in_ok-more.more c.read.new.into) (sym long) (c.in_ok-more.ensures.bytes x (ap (λ s. s.content) inv.same ∙ told)) in
          shows_put c.args.place kept file (inv.shows x told started) kept c.read.new.into _ c.reads.to c.in_ok-more.more refl long (search rules) reads;
    }
