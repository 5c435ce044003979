-- How a block's fields make what is seen of it, and what ties them together.
use Rattle.std.specs.Prelude.{◌≡◌, ◌≤◌, length}
use Rattle.event_block.specs.Contents.{Contents}
use Rattle.event_block.specs.declared.block.Block.TheInside.{Inside}

-- the size, and what is written of the memory
abbrev pub contents : Inside → Contents
contents b = record { size = b.size; bytes = b.region.items }

-- the memory has exactly the size and begins at the pointer, the handle can free it, and no more is written than fits
pub record IsBlock (b : Inside) : Type 0 where
  pub start : b.start.at ≡ b.region.at
  pub size : b.size ≡ b.region.size
  pub alloc : b.alloc ≡ b.region.alloc
  pub len : b.len ≡ length b.region.items
  pub within : b.len ≤ b.size
  pub least : 24 ≤ b.size
  pub most : b.size ≤ 4194304
