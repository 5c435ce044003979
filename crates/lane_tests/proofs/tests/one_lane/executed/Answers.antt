-- A function that runs no lane of a region, since no memory is found.
use Rattle.std.proofs.Common.{◌≡◌, refl, ap, sym, ◌∙◌, subst, ℕ, ◌+◌, ◌<◌, true, List, [], ◌∷◌, ◌++◌, ℤ, Err, rules, arith}
use Rattle.std.specs.Prelude.{length}
use Rattle.std.proofs.lemmas.List.Elements.{All-nil, All-cons}
use denote.Ref.{Bor, MutBor}
use Rattle.std.specs.Global.{Vec}
use Rattle.sw_base.specs.declared.environment.Log.{Ghosts}
use Rattle.sw_base.specs.declared.closed_log.ClosedLog.{ClosedLog}
use Rattle.sw_base.specs.declared.path.Step.{Step}
use Rattle.sw_base.specs.declared.trouble.Trouble.TheVariants as trouble
use Rattle.event_buffer.specs.Buffered.{Buffered}
use Rattle.kernel_syntax.specs.declared.syntax.Team.{Team}
use Rattle.kernel_syntax.specs.Program.{stmt_code}
use Rattle.kernel_syntax.specs.Tree.{TeamTree, Code, Done, Set, Store, Update, If, Loop, Parallel, For, Barrier, Critical}
use Rattle.shared_words.specs.declared.view.View.{View}
use Rattle.shared_words.specs.Handles.{HandValue, WordsValue, ChunksValue}
use Rattle.task_place.specs.declared.locals.Locals.{Locals}
use Rattle.lane_runner.specs.declared.stop.Stop.TheVariants as stop
use Rattle.lane_runner.specs.Forking.{Answer, RanRegion}
use Rattle.lane_runner.specs.Handed.{HandedEntry, entries_of}
use Rattle.lane_runner.specs.Stopping.{IsInRegion}
use Rattle.kernel_syntax.specs.declared.syntax.Array.{Array}
use Rattle.lane_runner.specs.Teams.{EachTeam, MayForkTeam}
use Rattle.lane_runner.specs.World.{WorldValue, IsWorld}
use Rattle.log_format.specs.Fitting.{IsWidth}
use Rattle.lane_runner.proofs.NoRegion.{no_memory_for}
use Rattle.lane_runner.proofs.OwnWords.{bounded_world}
use Rattle.lane_tests.proofs.tests.one_lane.executed.Goals as goal

ran_none : (w : WorldValue) (team : TeamTree) (slots : List ℤ) (task : Buffered) (path : List Step) (number : ℕ) (hand after : HandValue View) (before later : List HandedEntry) (r : Answer) → hand.there ≡ true → after ≡ hand → later ≡ before
    → r ≡ Err (path, stop.Trouble trouble.Memory) → IsInRegion task.path number team.span path → RanRegion w team slots task number hand after before later r
ran_none w team slots task path number hand after before later r there same kept is inside =
    subst (λ (x : Answer). RanRegion w team slots task number hand after before later x) (sym is)
    (subst (λ (h : HandValue View). RanRegion w team slots task number hand h before later (Err (path, stop.Trouble trouble.Memory))) (sym same)
    (no_memory_for w team slots task number hand before later there path inside kept))

module _ {T : Type 0} (w : WorldValue) (accepts : MutBor (HandValue View) → Bor Locals → ℕ → Vec T → Bor Team → MutBor (Vec (ClosedLog T)) → Type 0)
    (gives : MutBor (HandValue View) → Bor Locals → ℕ → Vec T → Bor Team → MutBor (Vec (ClosedLog T)) → Answer → MutBor (HandValue View) → MutBor (Vec (ClosedLog T)) → Type 0)
    (seen : Ghosts T) (task : Buffered) (root : task.path ≡ [])
    (accepted : (hand : MutBor (HandValue View)) (locals : Bor Locals) (number : ℕ) (logs : Vec T) (given : Bor Team) (done : MutBor (Vec (ClosedLog T))) → accepts hand locals number logs given done)
    (told : (hand after : MutBor (HandValue View)) (locals : Bor Locals) (number : ℕ) (logs : Vec T) (given : Bor Team) (done now_done : MutBor (Vec (ClosedLog T))) (r : Answer) → gives hand locals number logs given done r after now_done
    → (after.now ≡ hand.now) × (now_done.now ≡ done.now) × (r ≡ Err (record { region = number; lane = 0; span = given.now.span } ∷ [], stop.Trouble trouble.Memory))) where
  may_fork : (team : TeamTree) → MayForkTeam w accepts gives seen task team
  may_fork team = record {
    path = subst (λ (p : List Step). length p < 4) (sym root) (omega arith);
    runs = record {
      accepted = λ hand locals number logs given done is free new. accepted hand locals number logs given done;
      ran = λ hand after locals number logs given done now_done r is free new gave.
          let t = told hand after locals number logs given done now_done r gave in
          ran_none w team locals.now.slots.items task _ number hand.now after.now (entries_of seen done.now.items) (entries_of seen now_done.now.items) r free.free.belongs.there t.0 (ap (λ (v : Vec (ClosedLog T)). entries_of seen v.items) t.1) t.2
          (record {
            lane = 0;
            below = [];
            path_is = ap (λ (p : List Step). p ++ record { region = number; lane = 0; span = given.now.span } ∷ []) (sym root) ∙ ap (λ (n : ℕ). task.path ++ record { region = number; lane = 0; span = n } ∷ []) (ap (λ (t : TeamTree). t.span) is);
          });
    };
  }

  any_team : (code : Code) → EachTeam (MayForkTeam w accepts gives seen task) code
  any_team Done = tt
  any_team (Set slot value rest) = any_team rest
  any_team (Store array index value line site rest) = any_team rest
  any_team (Update array index value minus line site rest) = any_team rest
  any_team (If test if_true if_false rest) = (any_team if_true, any_team if_false, any_team rest)
  any_team (Loop slot from to body rest) = (any_team body, any_team rest)
  any_team (Parallel span line end body rest) = (may_fork (record { span = span; line = line; end = end; body = body }), any_team rest)
  any_team (For slot from to schedule nowait line end body rest) = (any_team body, any_team rest)
  any_team (Barrier line rest) = any_team rest
  any_team (Critical mutex line end body rest) = (any_team body, any_team rest)

pub part-requires-clause-runs : goal.part-requires-clause-runs
part-requires-clause-runs g c κs within =
    any_team _ _ _ _ _ (search rules) (λ hand locals number logs given done. search rules) (λ hand after locals number logs given done now_done r gave. search (rules, gave)) (stmt_code c.args.stmt.now Done)

-- one array of eight elements, over as many words
over : (a : Array) (words : WordsValue) (chunks : ChunksValue) (lane : ℕ) → a.base ≡ 4096 → a.first ≡ 0 → a.count ≡ 8 → IsWidth a.width → words.elements ≡ 8 → lane < 2
    → IsWorld (record { arrays = a ∷ []; words = words; chunks = chunks; lane = lane; span = 2 })
over a words chunks lane base first count width elements less =
    bounded_world (record { arrays = a ∷ []; mutexes = []; main = record { span = 1; line = 1; end = 1; body = Done }; slots = 0 }) words chunks lane 2
    (record {
      limits = record { few = omega arith; small = omega (arith, count) };
      widths = All-cons (λ (x : Array). IsWidth x.width) a [] width (All-nil (λ (x : Array). IsWidth x.width));
      placed = subst (λ (b : ℕ). a ∷ [] ≡ record a { base = b; first = 0 } ∷ []) base (subst (λ (f : ℕ). a ∷ [] ≡ record a { base = a.base; first = f } ∷ []) first refl);
      line = record { some = omega arith; fits = omega arith };
      end_line = record { some = omega arith; fits = omega arith };
      body = tt;
    })
    (omega (arith, elements, count)) less

pub new-world-requires : goal.new-world-requires
new-world-requires g c =
    let a = c.in_ok-array.ensures in
    over c.in_ok-array.field-0 c.in_ok-words.words c.in_ok-chunks.chunks c.args.setting.now.lane a.0 a.1 a.2 (subst IsWidth (sym a.3) c.requires.width) c.in_ok-words.ensures.counts.0 c.requires.lane
