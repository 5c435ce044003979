-- The numbers that a lane draws from the counters of its team's loops, and how its records tell them.
use Rattle.std.specs.Prelude.{◌≡◌, ℕ, suc, ◌+◌, ◌-◌, Bool, true, false, ◌<◌, ◌≤◌, List, [], ◌∷◌, ◌++◌, length, None}
use Rattle.kernel_syntax.specs.declared.syntax.Schedule.{Schedule}
use Rattle.kernel_syntax.specs.declared.syntax.Schedule.TheVariants.{Dynamic}
use Rattle.log_format.specs.declared.record.Record.{Record}
use Rattle.log_format.specs.declared.record.Kind.TheVariants.{Chunk}
use Rattle.kernel_model.specs.State.{number_drawn}
use Rattle.shared_words.specs.declared.share.Share.{Share}
use Rattle.shared_words.specs.Handles.{HandValue, ChunksValue}

-- A lane's hand on the counters, the number of its next loop whose chunks are drawn, and how many regions its task has forked.
pub record Tally : Type 0 where
  pub draws : HandValue Share
  pub next_loop : ℕ
  pub forked : ℕ

-- The records tell these draws, from this loop on, and leave that one open: a Chunk is a draw of the loop that is open, and tells the
-- number drawn; but where the number isn't below the count of chunks, it tells that count and closes the loop.
pub data TellDraws : ℕ → List Record → List (ℕ × ℕ) → ℕ → Type 0 where
  no_record : (loop : ℕ) → TellDraws loop [] [] loop
  other : (loop last : ℕ) (r : Record) (records : List Record) (drawn : List (ℕ × ℕ)) → number_drawn r.kind r.addr ≡ None → TellDraws loop records drawn last → TellDraws loop (r ∷ records) drawn last
  draw : (loop last number : ℕ) (r : Record) (records : List Record) (drawn : List (ℕ × ℕ)) → r.kind ≡ Chunk → r.addr ≡ number → number < r.value
      → TellDraws loop records drawn last → TellDraws loop (r ∷ records) ((loop, number) ∷ drawn) last
  closing : (loop last number : ℕ) (r : Record) (records : List Record) (drawn : List (ℕ × ℕ)) → r.kind ≡ Chunk → r.addr ≡ r.value → r.value ≤ number
      → TellDraws (suc loop) records drawn last → TellDraws loop (r ∷ records) ((loop, number) ∷ drawn) last

-- the loop that is open after a draw: the next one, where no chunk was left
abbrev pub open_past : Bool → ℕ → ℕ
open_past true loop = loop
open_past false loop = suc loop

-- how many counters a worksharing loop of this schedule has
abbrev pub counters_of : Schedule → ℕ
counters_of (Dynamic chunk) = 1
counters_of _ = 0

-- the team has so many counters from this loop on
pub record HasCounters (count loop : ℕ) (chunks : ChunksValue) : Type 0 where
  pub within : loop + count ≤ chunks.loops
  pub number : loop < 4294967296

-- a hand's share after these draws
abbrev pub after_draws : List (ℕ × ℕ) → Share → Share
after_draws drawn v = record v { left = v.left - length drawn; drawn = v.drawn ++ drawn }

-- the hand drew what the records tell
pub record HasDrawn (old new : Tally) (records : List Record) : Type 0 where
  pub drawn : List (ℕ × ℕ)
  pub draws : new.draws ≡ record old.draws { view = after_draws drawn old.draws.view }
  pub tells : TellDraws old.next_loop records drawn new.next_loop
