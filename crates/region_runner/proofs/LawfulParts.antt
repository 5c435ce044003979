-- What the rules of the language say of the parts of a team's body.
use Rattle.std.proofs.Common.{◌≡◌, refl, ℕ, zero, suc, ◌+◌, ◌<◌, ◌≤◌, Bool, true, false, List, [], ◌∷◌, ◌++◌, ℤ, pos, ◌+ℤ◌, Option, Some, None, arith}
use Rattle.std.specs.Prelude.{All, ◌||◌, ◌&&◌, ◌*◌}
use Rattle.std.proofs.lemmas.List.Elements.{All-nil, All-cons, All-head, All-tail, All-append}
use Rattle.kernel_rules.proofs.BarrierCounts.{idle_loop}
use Rattle.kernel_syntax.specs.Bounds.{IsBoundedCode}
use Rattle.kernel_syntax.specs.Tree as tree
use Rattle.kernel_syntax.specs.Tree.{Code, Done, TeamTree}
use Rattle.kernel_model.specs.Iterations.{total_of}
use Rattle.kernel_model.specs.Lawful.{Scope, IsScoped, IsEven, IsNested, code_holds_work, fixed_bound, bounds_of, with_variable, variable_at, after_assigning}
use Rattle.kernel_model.specs.Parts.{Part, Set, Run, Bar, unrolled, loop_parts, end_parts, parts_of}
use Rattle.lane_runner.specs.Alone.{IsAlone}
use Rattle.lane_runner.specs.Teams.{EachTeam}
use Rattle.region_runner.specs.Lawful.{IsTeam, IsInnerTeam, IsLawfulPart}

pub or_first : (a b : Bool) → a || b ≡ false → a ≡ false
or_first true b is = is
or_first false b is = refl

pub or_last : (a b : Bool) → a || b ≡ false → b ≡ false
or_last true b is = absurd cc
or_last false b is = is

-- ---- statements without a barrier or a worksharing loop

-- the mutexes held, in two orders
pub record SameHeld (held own : List ℕ) : Type 0 where
  pub below : (m : ℕ) → All (λ (o : ℕ). o < m) held → All (λ (o : ℕ). o < m) own
  pub none : held ≡ [] → own ≡ []

held_more : (held own : List ℕ) (mutex : ℕ) → SameHeld held own → SameHeld (held ++ mutex ∷ []) (mutex ∷ own)
held_more held own mutex same = record {
  below = λ m all. All-cons (λ (o : ℕ). o < m) mutex own (last_of held m all) (same.below m (first_of held m all));
  none = λ is. absurd (some held is);
}
  where
    last_of : (xs : List ℕ) (m : ℕ) → All (λ (o : ℕ). o < m) (xs ++ mutex ∷ []) → mutex < m
    last_of [] m all = All-head (λ (o : ℕ). o < m) mutex [] all
    last_of (x ∷ xs) m all = last_of xs m (All-tail (λ (o : ℕ). o < m) x (xs ++ mutex ∷ []) all)

    first_of : (xs : List ℕ) (m : ℕ) → All (λ (o : ℕ). o < m) (xs ++ mutex ∷ []) → All (λ (o : ℕ). o < m) xs
    first_of [] m all = All-nil (λ (o : ℕ). o < m)
    first_of (x ∷ xs) m all = All-cons (λ (o : ℕ). o < m) x xs (All-head (λ (o : ℕ). o < m) x (xs ++ mutex ∷ []) all) (first_of xs m (All-tail (λ (o : ℕ). o < m) x (xs ++ mutex ∷ []) all))

    some : (xs : List ℕ) → xs ++ mutex ∷ [] ≡ [] → ⊥
    some [] is = cc
    some (x ∷ xs) is = cc

alone_of : (mutexes regions lanes : ℕ) (held own : List ℕ) (code : Code) → SameHeld held own → code_holds_work code ≡ false → IsNested mutexes regions lanes held code → IsAlone (mutexes + 1) own code
alone_of mutexes regions lanes held own Done same idle nested = tt
alone_of mutexes regions lanes held own (tree.Set slot value rest) same idle nested = alone_of mutexes regions lanes held own rest same idle nested
alone_of mutexes regions lanes held own (tree.Store array index value line site rest) same idle nested = alone_of mutexes regions lanes held own rest same idle nested
alone_of mutexes regions lanes held own (tree.Update array index value minus line site rest) same idle nested = alone_of mutexes regions lanes held own rest same idle nested
alone_of mutexes regions lanes held own (tree.If test a b rest) same idle nested =
    let more = or_last (code_holds_work a) (code_holds_work b || code_holds_work rest) idle in (
      alone_of mutexes regions lanes held own a same (or_first (code_holds_work a) (code_holds_work b || code_holds_work rest) idle) nested.0,
      alone_of mutexes regions lanes held own b same (or_first (code_holds_work b) (code_holds_work rest) more) nested.1,
      alone_of mutexes regions lanes held own rest same (or_last (code_holds_work b) (code_holds_work rest) more) nested.2,
    )
alone_of mutexes regions lanes held own (tree.Loop slot from to body rest) same idle nested = (
  alone_of mutexes regions lanes held own body same (or_first (code_holds_work body) (code_holds_work rest) idle) nested.0,
  alone_of mutexes regions lanes held own rest same (or_last (code_holds_work body) (code_holds_work rest) idle) nested.1,
)
alone_of mutexes regions lanes held own (tree.Parallel span line end body rest) same idle nested =
    (same.none nested.0, alone_of mutexes regions lanes held own rest same idle nested.4)
alone_of mutexes regions lanes held own (tree.For slot from to schedule nowait line end body rest) same idle nested = absurd cc
alone_of mutexes regions lanes held own (tree.Barrier line rest) same idle nested = absurd cc
alone_of mutexes regions lanes held own (tree.Critical mutex line end body rest) same idle nested = (
  omega (arith, nested.0),
  same.below mutex nested.1,
  alone_of mutexes regions lanes (held ++ mutex ∷ []) (mutex ∷ own) body (held_more held own mutex same) (or_first (code_holds_work body) (code_holds_work rest) idle) nested.3,
  alone_of mutexes regions lanes held own rest same (or_last (code_holds_work body) (code_holds_work rest) idle) nested.4,
)

no_mutex : SameHeld [] []
no_mutex = record { below = λ m all. all; none = λ is. is }

-- ---- the teams below

pub teams_of : (mutexes regions lanes : ℕ) (n : Scope) (held : List ℕ) (code : Code) → IsBoundedCode code → IsScoped n code → IsEven code → IsNested mutexes regions lanes held code → EachTeam (IsInnerTeam mutexes regions) code
teams_of mutexes regions lanes n held Done b s e k = tt
teams_of mutexes regions lanes n held (tree.Set slot value rest) b s e k = teams_of mutexes regions lanes (after_assigning n slot (variable_at n slot)) held rest b.1 s.2 e k
teams_of mutexes regions lanes n held (tree.Store array index value line site rest) b s e k = teams_of mutexes regions lanes n held rest b.3 s.3 e k
teams_of mutexes regions lanes n held (tree.Update array index value minus line site rest) b s e k = teams_of mutexes regions lanes n held rest b.3 s.3 e k
teams_of mutexes regions lanes n held (tree.If test x y rest) b s e k =
    (teams_of mutexes regions lanes n held x b.1 s.1 e.2 k.0, teams_of mutexes regions lanes n held y b.2 s.2 e.3 k.1, teams_of mutexes regions lanes n held rest b.3 s.3 e.4 k.2)
teams_of mutexes regions lanes n held (tree.Loop slot from to body rest) b s e k =
    (teams_of mutexes regions lanes (with_variable n slot false) held body b.2 s.3 e.1 k.0, teams_of mutexes regions lanes n held rest b.3 s.4 e.2 k.1)
teams_of mutexes regions lanes n held (tree.Parallel span line end body rest) b s e k = (
  record {
    deeper = k.1;
    lawful = record { span = b.0; line = b.1; end_line = b.2; bounded = b.3; names = n; scoped = s.0; even = e.0; lanes = lanes * span; nested = k.3 };
  },
  teams_of mutexes regions lanes n held rest b.4 s.1 e.1 k.4,
)
teams_of mutexes regions lanes n held (tree.For slot from to schedule nowait line end body rest) b s e k =
    (teams_of mutexes regions lanes (with_variable n slot false) held body b.5 s.3 e.1 k.0, teams_of mutexes regions lanes n held rest b.6 s.4 e.2 k.1)
teams_of mutexes regions lanes n held (tree.Barrier line rest) b s e k = teams_of mutexes regions lanes n held rest b.1 s e k
teams_of mutexes regions lanes n held (tree.Critical mutex line end body rest) b s e k =
    (teams_of mutexes regions lanes n (held ++ mutex ∷ []) body b.3 s.0 e.1 k.3, teams_of mutexes regions lanes n held rest b.4 s.1 e.2 k.4)

-- ---- parts

unrolled_lawful : (mutexes regions n slot : ℕ) (from : ℤ) (body : List Part) → All (IsLawfulPart mutexes regions) body → All (IsLawfulPart mutexes regions) (unrolled n slot from body)
unrolled_lawful mutexes regions zero slot from body all = All-nil (IsLawfulPart mutexes regions)
unrolled_lawful mutexes regions (suc n) slot from body all =
    All-cons (IsLawfulPart mutexes regions) (Set slot from) (body ++ unrolled n slot (from +ℤ pos 1) body) tt
    (All-append (IsLawfulPart mutexes regions) body (unrolled n slot (from +ℤ pos 1) body) all (unrolled_lawful mutexes regions n slot (from +ℤ pos 1) body all))

loop_lawful : (mutexes regions slot : ℕ) (bounds : Option (ℤ × ℤ)) (body : List Part) (loop : Code) → All (IsLawfulPart mutexes regions) body → (bounds ≡ None → IsLawfulPart mutexes regions (Run loop))
    → All (IsLawfulPart mutexes regions) (loop_parts bounds slot body loop)
loop_lawful mutexes regions slot (Some b) body loop all single = unrolled_lawful mutexes regions (total_of b.0 b.1) slot b.0 body all
loop_lawful mutexes regions slot None body loop all single = All-cons (IsLawfulPart mutexes regions) (Run loop) [] (single refl) (All-nil (IsLawfulPart mutexes regions))

end_lawful : (mutexes regions : ℕ) (nowait : Bool) (end : ℕ) → 1 ≤ end → All (IsLawfulPart mutexes regions) (end_parts nowait end)
end_lawful mutexes regions true end some = All-nil (IsLawfulPart mutexes regions)
end_lawful mutexes regions false end some = All-cons (IsLawfulPart mutexes regions) (Bar end) [] some (All-nil (IsLawfulPart mutexes regions))

module _ (mutexes regions lanes : ℕ) where
  one_and : (code : Code) (parts : List Part) → IsLawfulPart mutexes regions (Run code) → All (IsLawfulPart mutexes regions) parts → All (IsLawfulPart mutexes regions) (Run code ∷ parts)
  one_and code parts one more = All-cons (IsLawfulPart mutexes regions) (Run code) parts one more

  pub parts_lawful : (n : Scope) (code : Code) → IsBoundedCode code → IsScoped n code → IsEven code → IsNested mutexes regions lanes [] code → All (IsLawfulPart mutexes regions) (parts_of code)
  parts_lawful n Done b s e k = All-nil (IsLawfulPart mutexes regions)
  parts_lawful n (tree.Set slot value rest) b s e k =
      one_and (tree.Set slot value Done) (parts_of rest) ((b.0, tt), tt, tt) (parts_lawful (after_assigning n slot (variable_at n slot)) rest b.1 s.2 e k)
  parts_lawful n (tree.Store array index value line site rest) b s e k =
      one_and (tree.Store array index value line site Done) (parts_of rest) ((b.0, b.1, b.2, tt), tt, tt) (parts_lawful n rest b.3 s.3 e k)
  parts_lawful n (tree.Update array index value minus line site rest) b s e k =
      one_and (tree.Update array index value minus line site Done) (parts_of rest) ((b.0, b.1, b.2, tt), tt, tt) (parts_lawful n rest b.3 s.3 e k)
  parts_lawful n (tree.If test x y rest) b s e k =
      one_and (tree.If test x y Done) (parts_of rest) (
        (b.0, b.1, b.2, tt),
        (alone_of mutexes regions lanes [] [] x no_mutex e.0 k.0, alone_of mutexes regions lanes [] [] y no_mutex e.1 k.1, tt),
        (teams_of mutexes regions lanes n [] x b.1 s.1 e.2 k.0, teams_of mutexes regions lanes n [] y b.2 s.2 e.3 k.1, tt),
      )
      (parts_lawful n rest b.3 s.3 e.4 k.2)
  parts_lawful n (tree.Loop slot from to body rest) b s e k =
      All-append (IsLawfulPart mutexes regions) (loop_parts (bounds_of from to body) slot (parts_of body) (tree.Loop slot from to body Done)) (parts_of rest)
      (loop_lawful mutexes regions slot (bounds_of from to body) (parts_of body) (tree.Loop slot from to body Done) (parts_lawful (with_variable n slot false) body b.2 s.3 e.1 k.0)
      (λ none. (
        (b.0, b.1, b.2, tt),
        (alone_of mutexes regions lanes [] [] body no_mutex (idle_loop (fixed_bound from) (fixed_bound to) (code_holds_work body) e.0 none) k.0, tt),
        (teams_of mutexes regions lanes (with_variable n slot false) [] body b.2 s.3 e.1 k.0, tt),
      )))
      (parts_lawful n rest b.3 s.4 e.2 k.1)
  parts_lawful n (tree.Parallel span line end body rest) b s e k =
      one_and (tree.Parallel span line end body Done) (parts_of rest) (
        (b.0, b.1, b.2, b.3, tt),
        (refl, tt),
        (
          record {
            deeper = k.1;
            lawful = record { span = b.0; line = b.1; end_line = b.2; bounded = b.3; names = n; scoped = s.0; even = e.0; lanes = lanes * span; nested = k.3 };
          },
          tt,
        ),
      )
      (parts_lawful n rest b.4 s.1 e.1 k.4)
  parts_lawful n (tree.For slot from to schedule nowait line end body rest) b s e k =
      one_and (tree.For slot from to schedule true line end body Done) (end_parts nowait end ++ parts_of rest)
      ((b.0, b.1, b.2, b.3, b.4, b.5, tt), alone_of mutexes regions lanes [] [] body no_mutex e.0 k.0, (teams_of mutexes regions lanes (with_variable n slot false) [] body b.5 s.3 e.1 k.0, tt))
      (All-append (IsLawfulPart mutexes regions) (end_parts nowait end) (parts_of rest) (end_lawful mutexes regions nowait end b.4.some) (parts_lawful n rest b.6 s.4 e.2 k.1))
  parts_lawful n (tree.Barrier line rest) b s e k =
      All-cons (IsLawfulPart mutexes regions) (Bar line) (parts_of rest) b.0.some (parts_lawful n rest b.1 s e k)
  parts_lawful n (tree.Critical mutex line end body rest) b s e k =
      one_and (tree.Critical mutex line end body Done) (parts_of rest) (
        (b.0, b.1, b.2, b.3, tt),
        (omega (arith, k.0), All-nil (λ (o : ℕ). o < mutex), alone_of mutexes regions lanes (mutex ∷ []) (mutex ∷ []) body (held_more [] [] mutex no_mutex) e.0 k.3, tt),
        (teams_of mutexes regions lanes n (mutex ∷ []) body b.3 s.0 e.1 k.3, tt),
      )
      (parts_lawful n rest b.4 s.1 e.2 k.4)

-- those of a team
pub team_parts : (mutexes regions : ℕ) (team : TeamTree) → IsTeam mutexes regions team → All (IsLawfulPart mutexes regions) (parts_of team.body)
team_parts mutexes regions team t = parts_lawful mutexes regions t.lanes t.names team.body t.bounded t.scoped t.even t.nested
