use Rattle.std.proofs.Common.{◌≡◌, ◌∙◌, ap, sym, subst, refl, List, [], ℕ, arith, inl}
use Rattle.std.specs.Prelude.{length}
use Rattle.kernel_syntax.specs.declared.syntax.Array.{Array}
use Rattle.kernel_syntax.specs.Layout.{elements}
use Rattle.kernel_syntax.specs.Program.{program_of}
use Rattle.sw_base.specs.declared.environment.Log.{Ghosts}
use Rattle.sw_base.specs.declared.path.Step.{Step}
use Rattle.lane_runner.specs.Handed.{entries_of}
use Rattle.history_model.specs.Sound.{AreFitted}
use Rattle.log_format.specs.Fitting.{IsWidth}
use Rattle.execution_model.specs.Elements.{element_width, layout_of}
use Rattle.lane_runner.specs.World.{IsWorld}
use Rattle.execution_model.proofs.OwnWords.{bounded_widths}
use Rattle.lane_runner.proofs.OwnWords.{bounded_world}
use Rattle.lane_runner.specs.declared.stop.Stop.TheVariants as stop
use Rattle.sw_base.specs.declared.trouble.Trouble.TheVariants as trouble
use Rattle.region_runner.specs.Answer.{HasStoppedRun}
use Rattle.region_runner.specs.Ground.{GroundValue, IsGround}
use Rattle.region_runner.proofs.WholeRun.{has_finished, has_stopped, stopped_at_once}
use Rattle.region_runner.proofs.run.run_in_teams.Goals as goal

-- the words are as many as the elements, and the values fit them
long_words : {have kept taken made : ℕ} {slice arrays : List Array} → kept ≡ have → kept ≡ taken → taken ≡ made → made ≡ elements slice → slice ≡ arrays → have ≡ elements arrays
long_words kept taken made is same = sym kept ∙ taken ∙ made ∙ is ∙ ap (λ (xs : List Array). elements xs) same

fitted_words : {slice arrays : List Array} {memory words : List ℕ} → slice ≡ arrays → AreFitted (layout_of slice) memory words → AreFitted (layout_of arrays) memory words
fitted_words {slice} {arrays} {memory} {words} same fitted = subst (λ (xs : List Array). AreFitted (layout_of xs) memory words) same fitted

pub returns-in_default : goal.returns-in_default
returns-in_default g c =
    let program = program_of c.args.kernel.now in
    let dir = g.L.Log.dir c.args.root in
    let text = g.L.Log.text c.args.root in
    record {
      answers = record {
        finished = tt;
        no_fault = tt;
        stopped =
            subst (λ (path : List Step). HasStoppedRun program dir c.args.size text (entries_of {T = g.row.L.Denot} g.L.Log c.new-in_default.result.items) path (stop.Trouble trouble.Memory) c.new-in_default-2.result.items) (sym c.root.ensures)
            (subst (λ (words : List ℕ). HasStoppedRun program dir c.args.size text (entries_of {T = g.row.L.Denot} g.L.Log c.new-in_default.result.items) [] (stop.Trouble trouble.Memory) words) (sym c.new-in_default-2.ensures.items)
            (subst (λ (items : List _). HasStoppedRun program dir c.args.size text (entries_of {T = g.row.L.Denot} g.L.Log items) [] (stop.Trouble trouble.Memory) []) (sym c.new-in_default.ensures.items)
            (stopped_at_once program c.requires.lawful dir c.args.size text)));
      };
    }

-- the words are as many as the elements
pub new-ground-requires-after_bounds : goal.new-ground-requires-after_bounds
new-ground-requires-after_bounds g c κs within =
    let program = program_of c.args.kernel.now in
    let world : IsWorld (record { arrays = program.arrays; words = c.in-Ok.words; chunks = record { table = c.in-Ok.words.table; loops = 0 }; lane = 0; span = 1 }) =
    bounded_world program c.in-Ok.words (record { table = c.in-Ok.words.table; loops = 0 }) 0 1 c.requires.lawful.bounded
    (c.in-Ok.ensures.counts.0 ∙ c.element_count.ensures ∙ ap (λ (xs : List Array). elements xs) c.as_slice-arrays.ensures) (omega arith) in
    subst (λ (xs : List Array). IsGround (record { arrays = xs; words = c.in-Ok.words; size = c.args.size })) (sym c.as_slice-arrays.ensures)
    (record { count = world.count; placed = world.placed; apart = world.apart; size = c.requires.size })

pub returns-in-Ok-answer : goal.returns-in-Ok-answer
returns-in-Ok-answer g c =
    let program = program_of c.args.kernel.now in
    let seen : Ghosts g.row.L.Denot = g.L.Log in
    let long : length c.close.result.words.items ≡ elements program.arrays = long_words c.close.result.words.ok.0 c.close.ensures.len c.in-Ok.ensures.counts.0 c.element_count.ensures c.as_slice-arrays.ensures in
    let fitted : AreFitted (layout_of program.arrays) c.close.result.words.items c.values-words.result.items = fitted_words c.as_slice-arrays.ensures c.values-words.ensures.fitted in
    let ended =
    has_finished program c.requires.lawful (g.L.Log.dir c.args.root) c.args.size c.new-ground.result.size (g.L.Log.text c.args.root) c.in-Ok.words.table c.in-Ok.hand c.run_root-closed.new.hand c.run_root-closed.result
    (entries_of {T = g.row.L.Denot} seen c.settle.result.0.items) c.settle.result.1 c.close.result.words.items c.values-words.result.items (ap (λ (v : GroundValue). v.size) c.new-ground.ensures) c.in-Ok.ensures.hand c.run_root-closed.ensures.ran c.settle.ensures
    (omega (arith, long)) c.close.ensures.history fitted
    c.in-Ok-answer.is (fitted.count ∙ long) seen c.settle.result.0.items refl in
    record { answers = record { finished = ended.0; no_fault = ended.1; stopped = tt } }

pub returns-in-Err : goal.returns-in-Err
returns-in-Err g c =
    let program = program_of c.args.kernel.now in
    let seen : Ghosts g.row.L.Denot = g.L.Log in
    let long : length c.close.result.words.items ≡ elements program.arrays = long_words c.close.result.words.ok.0 c.close.ensures.len c.in-Ok.ensures.counts.0 c.element_count.ensures c.as_slice-arrays.ensures in
    let fitted : AreFitted (layout_of program.arrays) c.close.result.words.items c.values-words.result.items = fitted_words c.as_slice-arrays.ensures c.values-words.ensures.fitted in
    let stopped =
    has_stopped program c.requires.lawful (g.L.Log.dir c.args.root) c.args.size c.new-ground.result.size (g.L.Log.text c.args.root) c.in-Ok.words.table c.in-Ok.hand c.run_root-closed.new.hand c.run_root-closed.result
    (entries_of {T = g.row.L.Denot} seen c.settle.result.0.items) c.settle.result.1 c.close.result.words.items c.values-words.result.items (ap (λ (v : GroundValue). v.size) c.new-ground.ensures) c.in-Ok.ensures.hand c.run_root-closed.ensures.ran c.settle.ensures
    (omega (arith, long)) c.close.ensures.history fitted
    c.in-Err.path c.in-Err.why c.in-Err.is (inl (fitted.count ∙ long)) in
    record { answers = record { finished = tt; no_fault = tt; stopped = stopped } }

pub values-words-requires : goal.values-words-requires
values-words-requires g c =
    let program = program_of c.args.kernel.now in
    record { widths = λ word. subst (λ (arrays : List Array). IsWidth (element_width arrays word)) (sym c.as_slice-arrays.ensures) (bounded_widths program c.requires.lawful.bounded word) }
