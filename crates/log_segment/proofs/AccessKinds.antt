-- What a kind of record tells of an access.
use Rattle.std.proofs.Common.{◌≡◌, ◌↔◌, Bool, true, false, inl, inr, refl, sym, subst, IsTrue}
use Rattle.log_format.specs.Table.{ChangesMemory}
use Rattle.log_format.specs.declared.record.Kind.{Kind}
use Rattle.log_format.specs.declared.record.Kind.TheVariants.{Update}
use Rattle.log_segment.specs.Accesses.{is_atomic, is_write}

-- a kind that writes changes memory, and one that is atomic is the update
pub changes_kind : (kind : Kind) → IsTrue (is_write kind) ↔ ChangesMemory kind
changes_kind Kind.Read = ((λ h. cc), (λ h. elim h [ inl e ↦ cc | inr e ↦ cc ]))
changes_kind Kind.Write = ((λ h. inl refl), (λ h. refl))
changes_kind Kind.Lock = ((λ h. cc), (λ h. elim h [ inl e ↦ cc | inr e ↦ cc ]))
changes_kind Kind.Unlock = ((λ h. cc), (λ h. elim h [ inl e ↦ cc | inr e ↦ cc ]))
changes_kind Kind.Barrier = ((λ h. cc), (λ h. elim h [ inl e ↦ cc | inr e ↦ cc ]))
changes_kind Kind.Region = ((λ h. cc), (λ h. elim h [ inl e ↦ cc | inr e ↦ cc ]))
changes_kind Kind.Chunk = ((λ h. cc), (λ h. elim h [ inl e ↦ cc | inr e ↦ cc ]))
changes_kind Kind.End = ((λ h. cc), (λ h. elim h [ inl e ↦ cc | inr e ↦ cc ]))
changes_kind Kind.Update = ((λ h. inr refl), (λ h. refl))

pub update_kind : (kind : Kind) → IsTrue (is_atomic kind) → kind ≡ Update
update_kind Kind.Read h = cc
update_kind Kind.Write h = cc
update_kind Kind.Lock h = cc
update_kind Kind.Unlock h = cc
update_kind Kind.Barrier h = cc
update_kind Kind.Region h = cc
update_kind Kind.Chunk h = cc
update_kind Kind.End h = cc
update_kind Kind.Update h = refl

-- an answer that is yes exactly where another is, is the other
same_yes : (one other : Bool) → (IsTrue one → IsTrue other) → (IsTrue other → IsTrue one) → one ≡ other
same_yes true true to from = refl
same_yes true false to from = sym (to refl)
same_yes false true to from = from refl
same_yes false false to from = refl

pub write_is : (answer : Bool) (kind : Kind) → (IsTrue answer ↔ ChangesMemory kind) → answer ≡ is_write kind
write_is answer kind told = same_yes answer (is_write kind) (λ yes. (changes_kind kind).1 (told.0 yes)) (λ yes. told.1 ((changes_kind kind).0 yes))

pub atomic_is : (answer : Bool) (kind : Kind) → (IsTrue answer ↔ (kind ≡ Update)) → answer ≡ is_atomic kind
atomic_is answer kind told = same_yes answer (is_atomic kind) (λ yes. subst (λ (k : Kind). IsTrue (is_atomic k)) (sym (told.0 yes)) refl) (λ yes. told.1 (update_kind kind yes))
