-- The machine values of a pointer in a struct, of a mark and of a piece: what is owned tells them, and is made of nothing.
use Rattle.std.proofs.Common.{◌≡◌, ℕ, List, [], ◌∷◌, ◌++◌, refl, ◌∙◌, lit<, w8}
use seplogic.Ra.Ura.{Ura}
use mir.Syntax.{ty_array, ty_int, ty_ptr, ty_struct, tcons, tnil}
use mir.Val.{Val, vstruct, vcons, vnil, of_list}
use base.Logic.{ent, emp}
use base.Fml.{Fml}
use types.Logic.{Logic, sem}
use denote.Array.{Array, Array-Lawful}
use denote.Builtin.{u8}
use denote.RattleType.{RattleType}
use denote.RawPtr.{Ptr, RawPtr, block_ptr, null_ptr, ptr_val}
use denote.Shadow.{shadow, makes_shadow}
use denote.Struct.Struct.{Struct}
use Rattle.core.proofs.cell.Inside.{Good, one}
use Rattle.event_block.proofs.Bytes.{byte_laws}

-- a struct by its fields alone: what it owns does not read its name
abbrev pub plainly : List RattleType → RattleType
plainly Rs = Struct (record { name = []; args = []; types = []; fields = Rs })

abbrev pub start_val : Ptr → Val
start_val p = vstruct (vcons (ptr_val p) vnil)

abbrev pub start_own : Ptr → List Val → Fml
start_own p = (plainly (RawPtr ∷ [])).own_val (p, tt)

pub start_told : (p : Ptr) (vs : List Val) → shadow (start_own p vs) → vs ≡ start_val p ∷ []
start_told p vs s = s.1.0 ∙ (λ i. vstruct (of_list (s.1.1.0 i ++ [])) ∷ [])

pub start_made : {M : Type 1} {𝓤 : Ura M} (𝓛 : Logic 𝓤) (p : Ptr) → ent 𝓤 (emp 𝓤) (sem 𝓛 (start_own p (start_val p ∷ [])))
start_made 𝓛 p = makes_shadow 𝓛 (start_own p (start_val p ∷ [])) (λ _. (tt, (tt, tt))) ((ptr_val p ∷ [], tt), (refl, (refl, tt)))

pub start_typed : (p : Ptr) → Good (ty_struct [] (tcons ty_ptr tnil)) (start_val p)
start_typed (block_ptr b o) = (tt, (tt, tt))
start_typed null_ptr = (tt, (record { fits = lit< tt }, tt))

abbrev pub mark_val : Val
mark_val = vstruct (vcons (vstruct vnil) vnil)

abbrev pub mark_own : List Val → Fml
mark_own = (plainly (plainly [] ∷ [])).own_val (tt, tt)

pub mark_told : (vs : List Val) → shadow (mark_own vs) → vs ≡ mark_val ∷ []
mark_told vs s = s.1.0 ∙ (λ i. vstruct (of_list (s.1.1.0.1.0 i ++ [])) ∷ [])

pub mark_made : {M : Type 1} {𝓤 : Ura M} (𝓛 : Logic 𝓤) → ent 𝓤 (emp 𝓤) (sem 𝓛 (mark_own (mark_val ∷ [])))
mark_made 𝓛 = makes_shadow 𝓛 (mark_own (mark_val ∷ [])) (λ _. (tt, ((λ _. (tt, tt)), tt))) ((vstruct vnil ∷ [], tt), (refl, ((tt, (refl, tt)), tt)))

-- a piece is one machine value
pub piece_told : {M : Type 1} {𝓤 : Ura M} (𝓛 : Logic 𝓤) (ys : List ℕ) (vs : List Val) → shadow ((Array u8 24).own_val ys vs) → (v : Val) × (vs ≡ v ∷ []) × Good (ty_array (ty_int w8) 24) v
piece_told 𝓛 ys vs s = one (ty_array (ty_int w8) 24) vs ((Array-Lawful 𝓛 u8 (byte_laws.lawful 𝓛) 24).typed ys vs s)
