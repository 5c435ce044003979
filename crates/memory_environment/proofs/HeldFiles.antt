-- The files of a folder in memory, after an insert into its map.
use Rattle.std.proofs.Common.{◌≡◌, Bool, true, false, cond, ℕ, Option, Some, Vec, refl, ap, ◌∙◌, string_bytes}
use Rattle.std.proofs.Math.Path.{fun_ext}
use Rattle.std.proofs.lemmas.Map.Text.{btree_map_updates_text}
use Rattle.std.specs.BTreeMap.{BTreeMap, Updates, get_by_text}
use Rattle.std.specs.Option.{option_map}
use Rattle.std.specs.Str.{bytes_eq}
use Rattle.std.specs.String.{string_cmp}
use Rattle.std.specs.declared.alloc.Global.{Global}
use Rattle.std.specs.declared.string.String.{String}
use Rattle.memory_environment.specs.MemFolder.{held_by, with_list}

-- the name that was inserted has the new list, and each other name has that from before
pub held_by-insert : {T : Type 0} (old new : BTreeMap (String Global) (Vec T Global)) (name : String Global) (list : Vec T Global) →
    Updates string_cmp old new name (Some list) → held_by new ≡ with_list (string_bytes name) list.items (held_by old)
unfolding held_by
held_by-insert {T} old new name list updates = fun_ext (λ other.
    ap (option_map (λ (v : Vec T Global). v.items)) (btree_map_updates_text (string_bytes name) old new _ updates other)
    ∙ by_test (bytes_eq (string_bytes name) other) (get_by_text old other))
  where
    by_test : (test : Bool) (before : Option (Vec T Global)) →
        option_map (λ (v : Vec T Global). v.items) (cond test (Some list) before) ≡ cond test (Some list.items) (option_map (λ (v : Vec T Global). v.items) before)
    by_test true before = refl
    by_test false before = refl
