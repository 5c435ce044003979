-- Going along a chain of a level.
use Rattle.std.proofs.Common.{◌≡◌, ℕ, ◌+◌, ◌-◌, ◌<◌, length, Option, Some, None, get_or, sym, subst, ◌∙◌, arith}
use Rattle.segment_groups.specs.Group.{ShareGroup}
use Rattle.segment_groups.specs.Level.{IsLeastNumber, IsInLaterLane, IsLevel, IsMember, Labels}
use Rattle.segment_groups.specs.Partners.{HandsOver, RefusesAt}
use Rattle.segment_groups.specs.declared.level.Level.{Level}
use Rattle.segment_groups.proofs.Chains.{Follow, HasPassed, IsNext, positions_left}

pub same_group : (depth : ℕ) (labels : Labels) (at one other : ℕ) → IsMember depth labels at one → IsMember depth labels at other → ShareGroup depth (labels one) (labels other)
same_group depth labels at one other mine yours = record { mine = mine.group.yours; yours = yours.group.yours; same = sym mine.group.same ∙ yours.group.same }

module _ (depth : ℕ) (labels : Labels) (level : Level) (is : IsLevel depth labels level) where
  pub later_first : (at : ℕ) (found : Option ℕ) → at < length level.next.items → found ≡ get_or level.later.items at found → IsLeastNumber (IsInLaterLane depth labels at) found
  later_first at found within read = subst (λ (o : Option ℕ). IsLeastNumber (IsInLaterLane depth labels at) o) (sym read) (is.chains.later at found (omega arith) within)

  pub next_first : (at : ℕ) (found : Option ℕ) → at < length level.next.items → found ≡ get_or level.next.items at found → IsLeastNumber (IsMember depth labels at) found
  next_first at found within read = subst (λ (o : Option ℕ). IsLeastNumber (IsMember depth labels at) o) (sym read) (is.chains.next at found (omega arith) within)

  in_range : (at n : ℕ) → IsMember depth labels at n → n < length level.next.items
  in_range at n member = is.within n (let deep = member.group.yours in omega arith)

  pub follow : (at last : ℕ) → IsInLaterLane depth labels at last → Follow (IsInLaterLane depth labels at) (IsMember depth labels last) last
  follow at last here = record {
    to = λ n member. (
      record {
        member = record { later = (let first = here.member.later in let second = member.later in omega arith); group = record { mine = here.member.group.mine; yours = member.group.yours; same = here.member.group.same ∙ member.group.same } };
        lane = (let less = here.lane in let up = is.lanes last n member in omega arith);
      },
      member.later,
    );
    from = λ n p less. record { later = less; group = same_group depth labels at last n here.member p.member };
  }

  pub next_within : (at position : ℕ) (cursor : Option ℕ) → cursor ≡ Some position → IsNext (IsInLaterLane depth labels at) cursor → position < length level.next.items
  next_within at position cursor here next = in_range at position (subst (IsNext (IsInLaterLane depth labels at)) here next).member

  pub left_falls : (position : ℕ) (cursor next : Option ℕ) → cursor ≡ Some position → position < length level.next.items → IsLeastNumber (IsMember depth labels position) next
      → positions_left (length level.next.items) next < positions_left (length level.next.items) cursor
  left_falls position cursor next here within first = subst (λ (o : Option ℕ). positions_left (length level.next.items) next < positions_left (length level.next.items) o) (sym here) (falls next first)
    where
      falls : (next : Option ℕ) → IsLeastNumber (IsMember depth labels position) next → positions_left (length level.next.items) next < length level.next.items - position
      falls None none = omega arith
      falls (Some n) first = let up = first.0.later in let range = in_range position n first.0 in omega arith

pub handed_over : {S : Type 0} (took : S → ℕ → S → Type 0) (P : ℕ → Type 0) (cursor : Option ℕ) (before after : S) (old new : ℕ) → cursor ≡ None → HasPassed took P cursor before after old new → HandsOver took P before after old new
handed_over took P cursor before after old new ended passed = at (subst (λ (o : Option ℕ). HasPassed took P o before after old new) ended passed)
  where
    at : HasPassed took P None before after old new → HandsOver took P before after old new
    at all = record { found = all.found; all = all.all; takes = all.takes; steps = all.steps }

pub stopped_at : {S : Type 0} (took refused : S → ℕ → S → Type 0) (P : ℕ → Type 0) (cursor : Option ℕ) (position : ℕ) (before now after : S) (old mid new : ℕ) → cursor ≡ Some position → new ≡ mid + 1 → refused now position after
    → HasPassed took P cursor before now old mid → RefusesAt took refused P before after old new
stopped_at took refused P cursor position before now after old mid new here step refusal passed = at (subst (λ (o : Option ℕ). HasPassed took P o before now old mid) here passed)
  where
    at : HasPassed took P (Some position) before now old mid → RefusesAt took refused P before after old new
    at some = record { next = position; is_one = some.next; found = some.found; all = some.all; between = now; takes = some.takes; refuses = refusal; steps = (let steps = some.steps in omega arith) }
