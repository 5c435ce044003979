use denote.RattleType.{RattleType}
use denote.Param.Send.{IsSend, Frees}
use Rattle.core.specs.declared.alloc.Allocator.{Ghosts}
use Rattle.event_block.proofs.Crosses.{Region-send}
use Rattle.event_block.specs.contracts.region.Region.{the_row}

pub send : (A : RattleType) (g : Ghosts A.Denot) → IsSend A → Frees g g.dealloc_token → IsSend (the_row A g)
send A g s = Region-send A g
