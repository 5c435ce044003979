-- What each call does to the view of a hand.
use Rattle.std.specs.Prelude.{◌≡◌, ℕ, ◌+◌, true, false, not, ◌==◌, List, [], ◌∷◌, ◌++◌, filter}
use Rattle.step_history.specs.declared.item.Deed.{Deed}
use Rattle.step_history.specs.declared.item.Deed.TheVariants.{Lock, Unlock, Split, Home}
use Rattle.step_history.specs.History.{Name, item}
use Rattle.shared_words.specs.declared.view.View.{View}

-- a hand of that name that has done nothing
abbrev pub newcomer : Name → View
newcomer name = record { name = name; live = true; splits = 0; out = []; held = []; lane = 0; span = 0; items = [] }

-- a hand that was joined
abbrev pub spent : View
spent = record { name = []; live = false; splits = 0; out = []; held = []; lane = 0; span = 0; items = [] }

-- the hand isn't joined, and has announced no split
pub record IsAtRest (v : View) : Type 0 where
  pub live : v.live ≡ true
  pub no_lane : v.lane ≡ 0
  pub no_span : v.span ≡ 0

-- it did one thing more
abbrev pub did : View → Deed → View
did v deed = record v { items = v.items ++ item v.name deed ∷ [] }

abbrev pub locked : View → ℕ → View
locked v mutex = record v { held = mutex ∷ v.held; items = v.items ++ item v.name (Lock mutex) ∷ [] }

abbrev pub rest : List ℕ → List ℕ
rest [] = []
rest (k ∷ ks) = ks

abbrev pub unlocked : View → ℕ → View
unlocked v mutex = record v { held = rest v.held; items = v.items ++ item v.name (Unlock mutex) ∷ [] }

abbrev pub announced : View → ℕ → ℕ → View
announced v lane span = record v { lane = lane; span = span }

-- it split off a hand for that lane of that span
abbrev pub parted : View → ℕ → ℕ → View
parted v lane span = record v {
  splits = v.splits + 1;
  out = v.splits ∷ v.out;
  lane = 0;
  span = 0;
  items = v.items ++ item v.name (Split v.splits lane span) ∷ [];
}

-- the hand that it splits off next
abbrev pub child : View → View
child v = newcomer (v.splits ∷ v.name)

-- the number of the split that made the hand of that name
abbrev pub split_number : Name → ℕ
split_number [] = 0
split_number (k ∷ name) = k

-- the list without that number
abbrev pub without : ℕ → List ℕ → List ℕ
without number = filter (λ (k : ℕ). not (k == number))

-- another hand was joined to it
abbrev pub after_meeting : View → View → View
after_meeting v w = record v {
  out = without (split_number w.name) v.out;
  items = v.items ++ w.items ++ item v.name (Home (split_number w.name)) ∷ [];
}
