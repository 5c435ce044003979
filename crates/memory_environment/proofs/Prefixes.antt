-- What a refused call leaves: a prefix of what it was to write.
use Rattle.std.proofs.Common.{◌≡◌, Bool, true, false, cond, ℕ, List, [], ◌++◌, take, drop, Option, None, Some, refl, sym, ap, ◌∙◌, append-nil, inl, inr, Result, Ok, Err, OnOk, OnErr}
use Rattle.std.proofs.lemmas.List.{take-append-drop}
use Rattle.sw_base.specs.Environment.{Files, LeavesPrefix, Sealed, TearsPiece, Text, with_file}
use Rattle.memory_environment.specs.InMemory.{TornEnd}
pub use Rattle.sw_base.proofs.Gains.{GainsPrefix-same as gains_prefix_same}

-- an append that added nothing
pub tears_piece_same : (old new : Option Text) (piece : List ℕ) → new ≡ old → TearsPiece old new piece
tears_piece_same None new piece same = record { prefix = []; rest = piece; parts = refl; tears = same }
tears_piece_same (Some text) new piece same = record { prefix = []; rest = piece; parts = refl; tears = same ∙ ap Some (sym (rw append-nil refl)) }

-- whether an append of a first half went through or not, a prefix of the piece stands at the end
pub torn_end_half : (ok : Bool) (old new piece : List ℕ) (half : ℕ) → new ≡ cond ok (old ++ take half piece) old → TornEnd old new piece
torn_end_half true old new piece half half_added = record { prefix = take half piece; rest = drop half piece; parts = sym (take-append-drop half piece); end = half_added }
torn_end_half false old new piece half unchanged = record { prefix = []; rest = piece; parts = refl; end = unchanged ∙ sym (append-nil old) }

-- whether a first half of the bytes was put or nothing, the name is as before or holds a prefix of them
pub leaves_prefix_half : {T E : Type 0} (put : Result T E) (held new_held : Files) (sealed new_sealed : List Sealed) (name bytes : List ℕ) (half : ℕ) →
    OnOk put (new_held ≡ with_file name (take half bytes) held) → OnErr put (new_held ≡ held) → new_sealed ≡ sealed →
    LeavesPrefix (Some (record { held = held; sealed = sealed })) (Some (record { held = new_held; sealed = new_sealed })) name bytes
leaves_prefix_half (Ok _) held new_held sealed new_sealed name bytes half ok err same =
    record { prefix = take half bytes; rest = drop half bytes; parts = sym (take-append-drop half bytes); leaves = inr (rw (ok, same) refl) }
leaves_prefix_half (Err _) held new_held sealed new_sealed name bytes half ok err same =
    record { prefix = []; rest = bytes; parts = refl; leaves = inl (rw (err, same) refl) }
