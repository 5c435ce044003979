-- What a trouble is for a task that follows its log.
use Rattle.sw_base.specs.declared.trouble.Trouble.{Trouble}
use Rattle.sw_base.specs.declared.trouble.Trouble.TheVariants as trouble
use Rattle.log_replay.specs.declared.stray.Stray.{Stray}
use Rattle.log_replay.specs.declared.stray.Stray.TheVariants as stray

abbrev pub stray_of : Trouble → Stray
stray_of trouble.Memory = stray.Memory
stray_of trouble.Failed = stray.ReadFault
