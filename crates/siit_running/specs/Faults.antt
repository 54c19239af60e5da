-- Faults of the chain as faults of a run.
use Rattle.siit_carry.specs.declared.chain.ChainFault.{ChainFault}
use Rattle.siit_carry.specs.declared.chain.ChainFault.TheVariants as chain
use Rattle.siit_running.specs.declared.fault.RunFault.{RunFault}
use Rattle.siit_running.specs.declared.fault.RunFault.TheVariants as faults

abbrev pub run_fault : ChainFault → RunFault
run_fault chain.WriteFault = faults.WriteFault
run_fault chain.NoMemory = faults.NoMemory
