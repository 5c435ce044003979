-- The bytes of a file that are left, read from their start.
use Rattle.std.proofs.Common.{◌≡◌, refl, arith, ℕ, ◌-◌, ◌<◌, ◌≤◌, List, length, drop, length-drop}
use Rattle.sw_base.specs.Environment.{Reads}

pub reads_rest : (file into : List ℕ) (at count : ℕ) → Reads file at count into → Reads (drop at file) 0 count into
reads_rest file into at count reads = record {
  within = (let within = reads.within in omega (arith, within, length-drop at file));
  prefix = reads.prefix;
  some = λ room left. reads.some room (omega (arith, left, length-drop at file));
}
