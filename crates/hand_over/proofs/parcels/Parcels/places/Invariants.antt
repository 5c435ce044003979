use Rattle.std.proofs.Common.{◌≡◌, ℕ, ◌<◌, [], slice_index_or, vec_len}
use Rattle.hand_over.specs.Handles.{LanePlaceValue, new_place}
use Rattle.hand_over.specs.Views.{idle_view}
use Rattle.hand_over.proofs.parcels.Parcels.places.Given as goal

abbrev pub invariant-loop-lane : goal.invariant-loop-lane
invariant-loop-lane g l =
    (l.token.table_id ≡ l.initial.token.table_id) × (l.token.me ≡ (idle_view l.initial.token.me.0.about l.lane, [])) × (vec_len l.places ≡ l.lane)
    × ((lane : ℕ) (d : LanePlaceValue _ _) → lane < l.lane → slice_index_or l.places.items lane d ≡ new_place l.initial.token.table_id l.initial.token.me.0.about lane)
