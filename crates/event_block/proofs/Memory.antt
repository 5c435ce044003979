-- What a region owns is taken apart and put together again. Assumes `Logic`.
--     apart, together      the bytes that are written, the room behind them, and the right to free
--     fresh, cleared      nothing is written yet, or any more
--     room_out, joined      room for a piece is taken from the rest, and the piece is put behind the bytes
use Rattle.std.proofs.Common.{◌≡◌, ℕ, ◌+◌, ◌-◌, ◌*◌, ◌^◌, ◌<◌, ◌≤◌, List, [], ◌∷◌, ◌++◌, length, refl, sym, ap, ◌∙◌, arith, mul-one}
use seplogic.Ra.Ura.{Ura}
use base.Fraction.{full_share}
use base.Fml.{Fml, fsep, froom}
use base.Logic.{ent, sep, guard, never, fst∗}
use mir.Raw.{raw as bare}
use mir.Syntax.{Ty, ty_int, ty_array, w8}
use prog.Capped.{capped_is}
use prog.Memory.{size, capped}
use prog.RawLaws.{size-raw}
use types.Logic.{Logic, sem}
use types.Kit.{Item, Goal, Seq, Step, step, ‵, ◌⊛◌, given, ◌$◌, ◌∵◌, !, qed, by, use0, use1, use2, split, learn, check, move, rewrite, fsplit, fjoin, done}
use denote.Array.{Array}
use denote.Builtin.{u8}
use denote.Index.{place_is, row as side_by_side}
use denote.Memory.{part_at}
use denote.RawPtr.{Ptr, block_ptr, null_ptr, room_for, in_a_block, ◌+ₚ◌}
use Rattle.std.specs.Allocator.{array_of, block_with_items}
use Rattle.std.proofs.alloc.Calls.{Al}
use Rattle.std_alloc.proofs.RawLayout.{as_raw, as_written}
use Rattle.std_alloc.proofs.VecSteps.El.{El}
use Rattle.std_alloc.proofs.VecSteps.Rows as rows
use Rattle.event_block.proofs.Bytes.{byte_laws}

abbrev pub row : ℕ → Ty
row n = ty_array (ty_int w8) n

abbrev pub written : List ℕ → ℕ → ℕ → Fml
written xs b o = part_at (Array u8 (length xs)) full_share xs b o

abbrev bytes_row : List ℕ → ℕ → ℕ → Fml
bytes_row xs b o = side_by_side u8 full_share xs b o

abbrev pub spare : ℕ → ℕ → ℕ → ℕ → Fml
spare n size b o = froom (row (size - n)) b (o + n * 1)

module _ (Z : Al) where
  abbrev pub bytes : El
  bytes = record { row = u8; laws = byte_laws; al = Z }

-- what an allocator is asked for
pub row_size : (n : ℕ) → n < 2 ^ 64 → capped (size (bare (row n))) ≡ n
row_size n small = ap capped (size-raw (row n) ∙ mul-one n) ∙ capped_is n small

module _ {M : Type 1} {𝓤 : Ura M} {𝓛 : Logic 𝓤} {K : Type 0} {Γ : List (Item 𝓤)} {G : Goal 𝓤 𝓛.H} (t : Ty → Ptr → Fml) where
  pub apart : K → (p : Ptr) (size : ℕ) (xs : List ℕ)
      → ((b o : ℕ) → p ≡ block_ptr b o → Seq K 𝓛 (‵ (written xs b o) ∷ ‵ (spare (length xs) size b o) ∷ ‵ (t (bare (row size)) (block_ptr b o)) ∷ Γ) G)
      → Seq K 𝓛 (‵ (block_with_items t u8 p (length xs) size xs) ∷ Γ) G
  apart k p size xs next =
      let behind = λ (r : Ptr). fsep (room_for (array_of u8 (size - length xs)) (r +ₚ length xs * 1)) (t (array_of u8 size) r) in
      in_a_block k p (λ r. block_with_items t u8 r (length xs) size xs) (fst∗ 𝓤 (never 𝓤) (sem 𝓛 (behind null_ptr))) (λ b o at.
      fsplit k $ move k (1 ∷ []) $ fsplit k $ as_written k (row (size - length xs)) b (o + length xs * 1) $ move k (2 ∷ 0 ∷ 1 ∷ []) $ next b o at)

  pub together : K → (p : Ptr) (b o size : ℕ) (xs : List ℕ) → p ≡ block_ptr b o
      → Step K 𝓛 (‵ (block_with_items t u8 p (length xs) size xs) ∷ Γ) G (‵ (written xs b o) ∷ ‵ (spare (length xs) size b o) ∷ ‵ (t (bare (row size)) (block_ptr b o)) ∷ Γ) G
  together k p b o size xs at = step (λ s.
      move k (1 ∷ 2 ∷ []) $ as_raw k (row (size - length xs)) b (o + length xs * 1) $ fjoin k $ move k (1 ∷ 0 ∷ []) $ fjoin k $
      rewrite k 0 (λ r. ‵ (block_with_items t u8 r (length xs) size xs)) (sym at) refl $ s)

module _ (Z : Al) {M : Type 1} {𝓤 : Ura M} (𝓛 : Logic 𝓤) where
  pub fresh : (b o size : ℕ) → ent 𝓤 (sem 𝓛 (froom (row size) b o)) (sep 𝓤 (sem 𝓛 (written [] b o)) (sem 𝓛 (spare 0 size b o)))
  fresh b o size =
      let all : size ≡ size - 0 = omega arith in let from : o ≡ o + 0 * 1 = omega arith in
      qed 𝓛 (‵ (froom (row size) b o) ∷ []) ∵ rewrite ! 0 (λ (k : ℕ × ℕ). ‵ (froom (row k.0) b k.1)) (λ i. (all i, from i)) refl $
      use0 𝓛 (‵ (written [] b o)) (rows.empty (bytes Z) 𝓛 [] b o refl) $ done !

  pub cleared : (b o size : ℕ) (xs : List ℕ) → length xs ≤ size
      → ent 𝓤 (sep 𝓤 (sem 𝓛 (written xs b o)) (sem 𝓛 (spare (length xs) size b o))) (sep 𝓤 (sem 𝓛 (written [] b o)) (sem 𝓛 (spare 0 size b o)))
  cleared b o size xs le =
      qed 𝓛 (‵ (written xs b o) ∷ ‵ (spare (length xs) size b o) ∷ []) ∵
      use2 𝓛 (‵ (froom (row size) b o)) (rows.all_room (bytes Z) 𝓛 b o (length xs) size xs le) $ by ! (fresh b o size)

  -- room for a piece, and what is left behind it
  pub room_out : (b o size n : ℕ) → n + 24 ≤ size → ent 𝓤 (sem 𝓛 (spare n size b o)) (sep 𝓤 (sem 𝓛 (froom (row 24) b (n + o))) (sem 𝓛 (spare (n + 24) size b o)))
  room_out b o size n le =
      let left : size - n - 24 ≡ size - (n + 24) = omega arith in
      let from : o + n * 1 ≡ n + o = omega arith in let behind : o + n * 1 + 24 * 1 ≡ o + (n + 24) * 1 = omega arith in
      qed 𝓛 (‵ (spare n size b o) ∷ []) ∵
      use1 𝓛 (‵ (froom (row 24) b (o + n * 1)) ⊛ ‵ (froom (row (size - n - 24)) b (o + n * 1 + 24 * 1))) (rows.room_split (bytes Z) 𝓛 24 (size - n) b (o + n * 1) (omega arith)) $ split ! $
      rewrite ! 0 (λ (k : ℕ). ‵ (froom (row 24) b k)) from refl $
      rewrite ! 1 (λ (k : ℕ × ℕ). ‵ (froom (row k.0) b k.1)) (λ i. (left i, behind i)) refl $ done !

  -- the piece behind the bytes
  pub joined : (b o : ℕ) (xs ys : List ℕ)
      → ent 𝓤 (sep 𝓤 (sem 𝓛 (written xs b o)) (sem 𝓛 (part_at (Array u8 24) full_share ys b (length xs + o)))) (guard 𝓤 (length ys ≡ 24) (sem 𝓛 (written (xs ++ ys) b o)))
  joined b o xs ys =
      qed 𝓛 (‵ (written xs b o) ∷ ‵ (part_at (Array u8 24) full_share ys b (length xs + o)) ∷ []) ∵
      use1 𝓛 (given (length xs ≡ length xs) (‵ (bytes_row xs b o))) (rows.apart (bytes Z) 𝓛 full_share (length xs) xs b o) $ learn ! (λ _.
      move ! (1 ∷ []) $ use1 𝓛 (given (length ys ≡ 24) (‵ (bytes_row ys b (length xs + o)))) (rows.apart (bytes Z) 𝓛 full_share 24 ys b (length xs + o)) $ learn ! (λ long.
      rewrite ! 0 (λ (k : ℕ). ‵ (bytes_row ys b k)) (sym (place_is 1 o (length xs) ∙ ap (λ k. k + o) (mul-one (length xs)))) refl $ move ! (1 ∷ 0 ∷ []) $
      use2 𝓛 (‵ (bytes_row (xs ++ ys) b o)) (rows.row_glue (bytes Z) 𝓛 full_share xs ys b o) $
      use1 𝓛 (‵ (written (xs ++ ys) b o)) (rows.whole (bytes Z) 𝓛 full_share (length (xs ++ ys)) (xs ++ ys) b o refl) $ check ! long $ done !))
