-- A failure of the files, or refused memory, as a fault of the stage.
use Rattle.bm_io.specs.declared.fault.IoFault.{IoFault}
use Rattle.bm_io.specs.declared.fault.IoFault.TheVariants.{Failed, Memory as RefusedMemory}
use Rattle.bm_cli.specs.declared.fault.StageFault.{StageFault}
use Rattle.bm_cli.specs.declared.fault.StageFault.TheVariants.{Files, Memory as WantsMemory}

abbrev pub fault_of_files : IoFault → StageFault
fault_of_files Failed = Files
fault_of_files RefusedMemory = WantsMemory
